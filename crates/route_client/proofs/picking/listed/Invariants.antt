use Rattle.std.proofs.Common.{◌≡◌, take, nat_eq}
use Rattle.std.specs.List.{filter, list_any}
use Rattle.proof_octets.specs.declared.marks.Mark.{Mark}
use Rattle.route_client.proofs.picking.listed.Given as goal

-- the marks so far that were skipped
abbrev pub invariant-loop-mark : goal.invariant-loop-mark
invariant-loop-mark l = l.found.items ≡ filter (λ (m : Mark). list_any (nat_eq m.id) l.ids) (take l.mark-index l.marks)
