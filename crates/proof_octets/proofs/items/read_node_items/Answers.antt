use Rattle.std.proofs.Common.{sym, subst}
use Rattle.octet_text.specs.Format.{Gives}
use Rattle.proof_octets.proofs.OutlineLaws.{nodes_read}
use Rattle.proof_octets.proofs.items.read_node_items.Goals as goal

pub returns : goal.returns
returns c =
    subst (Gives (λ p. (p.0, p.1)) c.read_nodes.result c.read_nodes.new.cursor) (sym (nodes_read c.args.kind c.args.cursor.now c.take_u32.new.self c.in_ok-count.count c.in_ok-count.ensures.gives)) c.read_nodes.ensures
