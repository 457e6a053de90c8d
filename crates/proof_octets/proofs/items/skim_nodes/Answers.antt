use Rattle.std.proofs.Common.{sym, subst}
use Rattle.octet_text.specs.Format.{Gives}
use Rattle.proof_octets.proofs.OutlineLaws.{nodes_many}
use Rattle.proof_octets.proofs.items.skim_nodes.Goals as goal

pub returns : goal.returns
returns c =
    subst (Gives (λ n. n) c.skim_rows.result c.skim_rows.new.cursor) (sym (nodes_many c.args.kind c.args.cursor.now c.take_u32.new.self c.in_ok-count.count c.in_ok-count.ensures.gives)) c.skim_rows.ensures
