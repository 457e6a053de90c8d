use Rattle.std.proofs.Common.{◌≡◌, ◌≢◌, ◌<◌, ◌≤◌, List, ℕ, length, arith, ap, sym, ◌∙◌, refl, inl, inr, subst, rules}
use Rattle.std.proofs.lemmas.Bool.{cases_lt}
use Rattle.lms_tree.specs.Signatures.{KeyOf}
use Rattle.desk_areas.specs.Area.{AreaView, area_in}
use Rattle.key_desk.specs.Desk.{key_of}
use Rattle.key_desk.proofs.Counts.{key_here}
use Rattle.key_desk.proofs.Finding.{key_in_area}
use Rattle.key_desk.proofs.desk.Desk.holds_name.Goals as goal

pub returns-then-eq-clause-yes : goal.returns-then-eq-clause-yes
returns-then-eq-clause-yes c is =
    let same : c.args.self.now.key.i ≡ c.args.name.now = search rules in
    (length c.args.self.now.earlier, omega arith, ap (λ (k : KeyOf). k.i) (key_here c.args.self.now (length c.args.self.now.earlier) refl) ∙ same)

pub returns-else-eq-clause-no : goal.returns-else-eq-clause-no
returns-else-eq-clause-no c isnt a le is =
    let other : c.args.self.now.key.i ≢ c.args.name.now = search rules in
    elim (cases_lt a (length c.args.self.now.earlier)) [
      | inl lt ↦
          let there : a < length c.earlier.result.now = subst (λ (l : List AreaView). a < length l) (sym c.earlier.ensures.areas) lt in
          c.has_name.ensures.no isnt a there (ap (λ (l : List AreaView). (area_in l a).key.i) c.earlier.ensures.areas ∙ ap (λ (k : KeyOf). k.i) (sym (key_in_area c.args.self.now a lt)) ∙ is)
      | inr ge ↦ other (ap (λ (k : KeyOf). k.i) (sym (key_here c.args.self.now a (omega (arith, le, ge)))) ∙ is)
    ]
