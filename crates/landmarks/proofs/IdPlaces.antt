-- Values of ascending ids, by index and by id.
use Rattle.std.proofs.Common.{◌≡◌, ℕ, zero, suc, ◌<◌, nat_eq, Bool, true, false, cond, None, Some, List, [], ◌∷◌, slice_get, refl, arith, ap, sym, ◌∙◌}
use Rattle.std.specs.List.{zip}
use Rattle.std.specs.Map.{lookup}
use Rattle.road_map.specs.Places.{StandsAt, AreRising, place_in}
use Rattle.road_map.proofs.RisingLaws.{stands, found}

differ : (x y : ℕ) → (x ≡ y → ⊥) → nat_eq x y ≡ false
differ x y ne = grind (arith, ne)

same : (x y : ℕ) → x ≡ y → nat_eq x y ≡ true
same x y e = grind (arith, e)

-- the value of an id stands at the first index of the id
pub value_at : {X : Type 0} (ids : List ℕ) (values : List X) (id k : ℕ) → slice_get ids k ≡ Some id → ((j x : ℕ) → j < k → slice_get ids j ≡ Some x → id ≡ x → ⊥) → lookup (nat_eq id) (zip ids values) ≡ slice_get values k
value_at [] values id k at first = cc
value_at (i ∷ ids) [] id k at first = refl
value_at (i ∷ ids) (v ∷ values) id zero at first = let here : i ≡ id = cc in ap (λ b. cond b (Some v) (lookup (nat_eq id) (zip ids values))) (same id i (sym here))
value_at (i ∷ ids) (v ∷ values) id (suc k) at first =
    ap (λ b. cond b (Some v) (lookup (nat_eq id) (zip ids values))) (differ id i (λ e. first 0 i (omega arith) refl e))
    ∙ value_at ids values id k at (λ j x lt is e. first (suc j) x (omega (arith, lt)) is e)

pub no_value : {X : Type 0} (ids : List ℕ) (values : List X) (id : ℕ) → ((k : ℕ) → StandsAt (λ i. i) ids id k → ⊥) → lookup (nat_eq id) (zip ids values) ≡ None
no_value [] values id none = refl
no_value (i ∷ ids) [] id none = refl
no_value (i ∷ ids) (v ∷ values) id none =
    ap (λ b. cond b (Some v) (lookup (nat_eq id) (zip ids values))) (differ id i (λ e. none 0 (i, refl, sym e)))
    ∙ no_value ids values id (λ k at. none (suc k) at)

-- the value that a look-up by index finds
pub placed : {X : Type 0} (ids : List ℕ) (values : List X) (id k : ℕ) → AreRising ids → place_in ids id ≡ Some k → slice_get values k ≡ lookup (nat_eq id) (zip ids values)
placed ids values id k rise is =
    let at : StandsAt (λ i. i) ids id k = stands ids id k is in
    let here : slice_get ids k ≡ Some id = at.1 ∙ ap Some at.2 in
    sym (value_at ids values id k here (λ j x lt before e. let less : x < id = rise j k x id lt before here in absurd (omega (arith, less, e))))

pub unplaced : {X : Type 0} (ids : List ℕ) (values : List X) (id : ℕ) → AreRising ids → place_in ids id ≡ None → None ≡ lookup (nat_eq id) (zip ids values)
unplaced ids values id rise is = sym (no_value ids values id (λ k at. let there : Some k ≡ None = sym (found ids id k rise at) ∙ is in cc))
