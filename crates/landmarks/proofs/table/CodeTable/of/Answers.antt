use Rattle.std.proofs.Common.{nat_eq, slice_get, sym, ◌∙◌, ap}
use Rattle.std.specs.Map.{lookup}
use Rattle.landmarks.specs.Tables.{Coded}
use Rattle.landmarks.proofs.IdPlaces.{placed, unplaced}
use Rattle.landmarks.proofs.table.CodeTable.of.Goals as goal

pub returns-in-None : goal.returns-in-None
returns-in-None c =
    unplaced c.self.inside.ids c.self.inside.codes.items c.args.id c.self.invariant (sym c.in-None.ensures)
    ∙ ap (λ (t : Coded). lookup (nat_eq c.args.id) t.entries) c.self.view_is

pub returns-in-Some : goal.returns-in-Some
returns-in-Some c =
    c.codes_at.ensures ∙ (ap (λ vs. slice_get vs c.in-Some.place) c.as_slice.ensures.value
    ∙ (placed c.self.inside.ids c.self.inside.codes.items c.args.id c.in-Some.place c.self.invariant (sym c.in-Some.ensures)
    ∙ ap (λ (t : Coded). lookup (nat_eq c.args.id) t.entries) c.self.view_is))
