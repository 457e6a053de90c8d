-- Sums of numbers of calls.
use Rattle.std.proofs.Common.{◌≡◌, ◌≢◌, ℕ, ◌+◌, ◌-◌, false, cond, List, length, take, drop, arith, refl, sym, ap, ◌∙◌, subst}
use Rattle.std.proofs.lemmas.List.{take-append-drop}
use Rattle.std.proofs.lemmas.List.Sums.{sum_by-append}
use Rattle.std.specs.List.{count_by}
use Rattle.road_io.specs.Causes.{RoseBy}
use Rattle.desk_areas.specs.declared.area.Count.{Count}
use Rattle.desk_areas.specs.declared.area.Count.TheVariants
use Rattle.desk_areas.specs.Calls.{Called, is_spent, area_calls}

-- ---- one after another

pub called_then : (m n a b c : ℕ) → Called m a b → Called n b c → Called (m + n) a c
called_then m n a b c one two low =
    let h = one low in
    let k = two (omega (arith, h)) in
    omega (arith, h, k)

pub called_rose : (m n a b c : ℕ) → RoseBy m a b → Called n b c → RoseBy (m + n) a c
called_rose m n a b c one two = let k = two (omega (arith, one)) in omega (arith, one, k)

-- ---- spent slots

pub unspent : (count : Count) → count ≢ TheVariants.Spent → is_spent count ≡ false
unspent TheVariants.Free isnt = refl
unspent TheVariants.Out isnt = refl
unspent TheVariants.Written isnt = refl
unspent TheVariants.Spent isnt = absurd (isnt refl)

-- the calls for the slots before the last one, and for the last one
pub spent_parts : (counts : List Count) → count_by is_spent counts ≡ count_by is_spent (take (length counts - 1) counts) + count_by is_spent (drop (length counts - 1) counts)
spent_parts counts =
    ap (λ (l : List Count). count_by is_spent l) (sym (take-append-drop (length counts - 1) counts))
    ∙ sum_by-append (λ (x : Count). cond (is_spent x) 1 0) (take (length counts - 1) counts) (drop (length counts - 1) counts)

-- the calls for a whole area
pub area_read : (counts : List Count) (a b c : ℕ) → Called (1 + length counts + count_by is_spent (take (length counts - 1) counts)) a b → Called (count_by is_spent (drop (length counts - 1) counts)) b c → Called (area_calls counts) a c
area_read counts a b c one two =
    let all : 1 + length counts + count_by is_spent (take (length counts - 1) counts) + count_by is_spent (drop (length counts - 1) counts) ≡ area_calls counts = omega (arith, spent_parts counts) in
    subst (λ (n : ℕ). Called n a c) all (called_then _ _ a b c one two)
