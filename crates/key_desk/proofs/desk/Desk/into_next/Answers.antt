use Rattle.std.proofs.Common.{◌≡◌, ◌≤◌, ◌+◌, ℕ, length, arith, ap, length-append, suc, List, ◌∙◌}
use Rattle.desk_areas.specs.Area.{AreaView}
use Rattle.desk_areas.proofs.Pieces.{slots_few}
use Rattle.key_desk.proofs.desk.Desk.into_next.Goals as goal

pub overflow_mul-slots : goal.overflow_mul-slots
overflow_mul-slots c = omega (arith, c.len-slots.ensures, c.self.invariant.0, slots_few c.self.inside.key.kind)

pub overflow_add-base-2 : goal.overflow_add-base-2
overflow_add-base-2 c = omega (arith, c.len-slots.ensures, c.self.invariant.0, c.self.invariant.1, c.self.invariant.2, slots_few c.self.inside.key.kind)

pub from_parts-requires-2-clause-low : goal.from_parts-requires-2-clause-low
from_parts-requires-2-clause-low c =
    let more : length c.push.new.list.items ≡ length c.self.inside.earlier.items + 1 = ap (λ (l : List AreaView). length l) c.in_ok-push.ensures.items ∙ length-append c.self.inside.earlier.items _ in
    omega (arith, c.len-slots.ensures, c.self.invariant.0, c.self.invariant.1, slots_few c.self.inside.key.kind, more)
