use Rattle.std.proofs.Common.{◌≡◌, ◌-◌, List, map}
use Rattle.octet_text.specs.Format.{rows_at}
use Rattle.octet_text.proofs.Loop.{Begun}
use Rattle.proof_octets.specs.declared.items.NodeItem.{NodeItem}
use Rattle.proof_octets.specs.Replies.{node_item, after_node}
use Rattle.proof_octets.proofs.items.read_nodes.Given as goal

-- the items so far, and their parts
abbrev pub invariant-loop : goal.invariant-loop
invariant-loop l =
    (front : List NodeItem) × Begun (node_item l.fn.kind) after_node front (l.count - l.counter) l.least l.cursor (rows_at (node_item l.fn.kind) after_node l.count 0 l.fn.cursor) ×
    (l.places.items ≡ map (λ (i : NodeItem). i.place) front) × (l.leaves ≡ map (λ (i : NodeItem). i.leaf) front)
