-- The number of calls to the disk that a desk makes.
use Rattle.std.proofs.Common.{◌≡◌, ◌≢◌, ℕ, ◌+◌, ◌-◌, ◌<◌, cond, List, [], ◌∷◌, ◌++◌, length, get_or, set, Result, Ok, Err, IfOk, OnOk, arith, sym, ap, ◌∙◌, subst}
use Rattle.std.proofs.lemmas.List.{length-set}
use Rattle.std.proofs.lemmas.List.Sums.{sum_by-append, sum_by-cons, sum_by-set}
use Rattle.std.specs.List.{count_by, sum_by}
use Rattle.road_io.specs.Causes.{RoseBy}
use Rattle.lms_tree.specs.Signatures.{KeyOf}
use Rattle.desk_areas.specs.Area.{AreaView}
use Rattle.desk_areas.specs.Calls.{Called, is_spent, area_calls}
use Rattle.desk_areas.specs.declared.area.Count.{Count}
use Rattle.desk_areas.specs.declared.area.Count.TheVariants
use Rattle.desk_areas.specs.declared.errors.StartError.{StartError}
use Rattle.desk_areas.proofs.CallLemmas.{called_then, called_rose, unspent}
use Rattle.key_desk.specs.declared.desk.Desk.{Desk}
use Rattle.key_desk.specs.declared.succeed.SucceedError.{SucceedError}
use Rattle.key_desk.specs.Calls.{areas_calls, opening_calls, succession_calls}
use Rattle.key_desk.specs.Desk.{count_at, IsSound}
use Rattle.key_desk.specs.Succession.{last_number, next_desk}
use Rattle.key_desk.proofs.Counts.{sized_here}

-- ---- areas

pub more_areas : (areas : List AreaView) (area : AreaView) → areas_calls (areas ++ area ∷ []) ≡ areas_calls areas + area_calls area.counts
more_areas areas area =
    let f : AreaView → ℕ = λ x. area_calls x.counts in
    let one : sum_by f (area ∷ []) ≡ area_calls area.counts = sum_by-cons f area [] ∙ omega arith in
    sum_by-append f areas (area ∷ []) ∙ ap (λ (n : ℕ). areas_calls areas + n) one

pub areas_called : (areas more : List AreaView) (area : AreaView) (a b c : ℕ) → more ≡ areas ++ area ∷ [] → Called (areas_calls areas) a b → Called (area_calls area.counts) b c → Called (areas_calls more) a c
areas_called areas more area a b c is one two =
    subst (λ (n : ℕ). Called n a c) (sym (ap (λ (l : List AreaView). areas_calls l) is ∙ more_areas areas area)) (called_then (areas_calls areas) (area_calls area.counts) a b c one two)

-- ---- the opening

pub opened : (a b c : ℕ) (r : Result Desk StartError) → RoseBy 3 a b → IfOk r (λ desk. Called (areas_calls desk.earlier + area_calls desk.counts) b c) → IfOk r (λ desk. RoseBy (opening_calls desk) a c)
opened a b c (Ok desk) three read = let all = called_rose 3 (areas_calls desk.earlier + area_calls desk.counts) a b c three read in omega (arith, all)
opened a b c (Err e) three read = tt

-- ---- a succession

-- the last slot of the desk's current area was not spent before, and is spent afterwards
marked : (counts : List Count) (last : ℕ) → last < length counts → get_or counts last TheVariants.Spent ≢ TheVariants.Spent → area_calls (set counts last TheVariants.Spent) ≡ area_calls counts + 1
marked counts last lt isnt =
    let f : Count → ℕ = λ x. cond (is_spent x) 1 0 in
    let long : length (set counts last TheVariants.Spent) ≡ length counts = length-set counts last TheVariants.Spent in
    let was : f (get_or counts last TheVariants.Spent) ≡ 0 = ap (λ b. cond b 1 0) (unspent (get_or counts last TheVariants.Spent) isnt) in
    let sums : count_by is_spent (set counts last TheVariants.Spent) + f (get_or counts last TheVariants.Spent) ≡ count_by is_spent counts + 1 = sum_by-set f counts last TheVariants.Spent TheVariants.Spent lt in
    omega (arith, long, was, sums)

pub next_calls : (desk : Desk) (key : KeyOf) → IsSound desk → count_at desk (last_number desk) ≢ TheVariants.Spent → areas_calls (next_desk desk key).earlier ≡ areas_calls desk.earlier + area_calls desk.counts + 1
next_calls desk key sound isnt =
    let lt : last_number desk < length desk.counts = omega (arith, sized_here desk sound, sound.known) in
    more_areas desk.earlier (record { key = desk.key; counts = set desk.counts (last_number desk) TheVariants.Spent }) ∙ omega (arith, marked desk.counts (last_number desk) lt isnt)

pub succeeded : (desk : Desk) (key : KeyOf) (a b c : ℕ) (r : Result Desk SucceedError) → IsSound desk → RoseBy (opening_calls desk) a b → IfOk r (λ next. next ≡ next_desk desk key) → OnOk r (count_at desk (last_number desk) ≢ TheVariants.Spent) → OnOk r (RoseBy 8 b c)
    → IfOk r (λ next. RoseBy (succession_calls next.earlier) a c)
succeeded desk key a b c (Ok next) sound opening is free eight =
    let all : RoseBy (succession_calls (next_desk desk key).earlier) a c = omega (arith, opening, eight, next_calls desk key sound free) in
    subst (λ (n : Desk). RoseBy (succession_calls n.earlier) a c) (sym is) all
succeeded desk key a b c (Err e) sound opening is free eight = tt
