use Rattle.std.proofs.Common.{sym, subst}
use Rattle.octet_text.specs.Format.{Gives}
use Rattle.proof_octets.proofs.OutlineLaws.{pairs_read}
use Rattle.proof_octets.proofs.items.read_pair_items.Goals as goal

pub returns : goal.returns
returns c =
    subst (Gives (λ p. (p.0, p.1)) c.read_pairs.result c.read_pairs.new.cursor) (sym (pairs_read c.args.cursor.now c.take_u32.new.self c.in_ok-count.count c.in_ok-count.ensures.gives)) c.read_pairs.ensures
