use Rattle.std.proofs.Common.{ℕ, List, arith, sym, ap, ◌∙◌, subst}
use Rattle.desk_areas.specs.Area.{AreaView}
use Rattle.desk_areas.specs.Layout.{place_in}
use Rattle.desk_areas.specs.Reading.{IsLaidOut}
use Rattle.key_desk.proofs.Finding.{laid_out}
use Rattle.key_desk.proofs.SlotTexts.{slot_low}
use Rattle.key_desk.proofs.desk.Desk.place_of.Goals as goal

pub place_in-requires-clause-number : goal.place_in-requires-clause-number
place_in-requires-clause-number c = let low = slot_low c.args.self.now _ c.requires in omega (arith, low)

pub returns-clause-place : goal.returns-clause-place
returns-clause-place c image sound areas =
    let laid : IsLaidOut c.earlier.result.now image = subst (λ (l : List AreaView). IsLaidOut l image) (sym c.earlier.ensures.areas) (laid_out c.args.self.now image sound areas) in
    c.place_in.ensures.place ∙ ap (λ (b : ℕ). place_in b c.args.slot) (c.base_of-base.ensures.base image laid)
