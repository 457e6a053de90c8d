-- The results of a look exclude each other.
use Rattle.std.proofs.Common.{◌≡◌, ◌≢◌, ◌⊎◌, ℕ, suc, ◌+◌, ◌-◌, ◌<◌, ◌≤◌, List, Option, Some, None, Result, Ok, Err, MatchOption, MatchResult, zero, arith, inl, inr, refl, sym, ◌∙◌, ap, subst}
use Rattle.std.proofs.lemmas.Bool.{cases_lt}
use Rattle.desk_areas.specs.Layout.{place_in, base_of, gate_at, HasLink, IsAreaOpen, IsCurrent}
use Rattle.desk_areas.proofs.Areas.{open_first, open_down, open_few}
use Rattle.desk_areas.proofs.Growth.{open_upto, one_current}
use Rattle.desk_sight.specs.Slots.{IsOrderly, IsWrong, IsWrongAt}
use Rattle.desk_sight.specs.Areas.{early_at, IsWhole, IsPlainBlock, IsPlain, IsReached, IsWrongIn, IsFirstWrong, IsShut, IsStrange}
use Rattle.desk_sight.specs.Areas.IsStrange.{Closed, Wrong}
use Rattle.desk_sight.specs.Sights.{IsSight, IsUntold}
use Rattle.desk_sight.specs.Sights.IsUntold.{NoKey, NotWhole, Ninth}
use Rattle.desk_sight.specs.declared.sight.Sight.{Sight}
use Rattle.desk_sight.specs.declared.strange.Strange.{Strange}
use Rattle.desk_sight.specs.declared.strange.Strange.TheVariants.{Gap, Text, Block, Tail, Link, Shut}
use Rattle.desk_sight.proofs.SightSteps.{sight_plain}

pub at_most_seven : (image : List ℕ) (area : ℕ) → IsAreaOpen image area → area ≤ 7
at_most_seven image zero is = omega arith
at_most_seven image (suc area) is = let few = open_few image area is in omega (arith, few)

-- ---- slots

module _ (image : List ℕ) (base : ℕ) where
  -- a slot of an orderly area is not wrong
  pub not_wrong_at : (count spent number key : ℕ) (e : Strange) → IsOrderly image base spent count → number < count → IsWrongAt image base number key e → ⊥
  not_wrong_at count spent number key (Tail k slot) so lt w = w.3 (so.tails number lt)
  not_wrong_at count spent number key (Text k slot) so lt w = elim (cases_lt number spent) [
    | inl used ↦ let gate = so.used number used in let shut = w.4 in omega (arith, gate, shut)
    | inr not ↦ elim (cases_lt spent number) [
      | inl after ↦ w.5 (so.empty number after lt)
      | inr le ↦
          let below = w.2.2 in
          let gate = so.used w.2.0 (omega (arith, below, not, le)) in
          let shut = w.2.1.shut w.2.0 (omega arith) below in
          omega (arith, gate, shut)
    ]
  ]
  not_wrong_at count spent number key (Gap k slot) so lt w = elim (cases_lt number spent) [
    | inl used ↦
        let below = w.1 in
        let gate = so.used slot (omega (arith, below, used)) in
        let shut = w.2.shut slot (omega arith) below in
        omega (arith, gate, shut)
    | inr not ↦ let shut = so.shut number (omega (arith, not)) lt in let gate = w.4 in omega (arith, gate, shut)
  ]
  not_wrong_at count spent number key (Block k) so lt w = w
  not_wrong_at count spent number key (Link k) so lt w = w
  not_wrong_at count spent number key Shut so lt w = w

  -- the slots before one that is wrong are orderly
  before : (number key : ℕ) (e : Strange) → IsWrongAt image base number key e → (spent : ℕ) × IsOrderly image base spent number
  before number key (Tail k slot) w = w.2
  before number key (Text k slot) w = (w.2.0, w.2.1)
  before number key (Gap k slot) w = (slot, w.2)
  before number key (Block k) w = absurd w
  before number key (Link k) w = absurd w
  before number key Shut w = absurd w

  -- how many slots are spent, if not all are
  one_spent : (number a b : ℕ) → a < number → b < number → IsOrderly image base a number → IsOrderly image base b number → a ≡ b
  one_spent number a b lt_a lt_b so_a so_b = elim (cases_lt a b) [
    | inl less ↦ let gate = so_b.used a less in let shut = so_a.shut a (omega arith) lt_a in omega (arith, gate, shut)
    | inr not ↦ elim (cases_lt b a) [
      | inl less ↦ let gate = so_a.used b less in let shut = so_b.shut b (omega arith) lt_b in omega (arith, gate, shut)
      | inr le ↦ omega (arith, not, le)
    ]
  ]

  two : (f : ℕ → ℕ → Strange) (k j m n : ℕ) → k ≡ j → m ≡ n → f k m ≡ f j n
  two f k j m n keys slots = ap (λ (x : ℕ). f x m) keys ∙ ap (λ (x : ℕ). f j x) slots

  one_wrong_at : (number key : ℕ) (e o : Strange) → IsWrongAt image base number key e → IsWrongAt image base number key o → e ≡ o
  one_wrong_at number key (Tail k m) (Tail j n) w v = two (λ x y. Tail x y) k j m n (w.0 ∙ sym v.0) (w.1 ∙ sym v.1)
  one_wrong_at number key (Tail k m) (Text j n) w v = absurd (w.3 v.3)
  one_wrong_at number key (Tail k m) (Gap j n) w v = absurd (w.3 v.3)
  one_wrong_at number key (Text k m) (Tail j n) w v = absurd (v.3 w.3)
  one_wrong_at number key (Text k m) (Text j n) w v = two (λ x y. Text x y) k j m n (w.0 ∙ sym v.0) (w.1 ∙ sym v.1)
  one_wrong_at number key (Text k m) (Gap j n) w v = let shut = w.4 in let gate = v.4 in absurd (omega (arith, shut, gate))
  one_wrong_at number key (Gap k m) (Tail j n) w v = absurd (v.3 w.3)
  one_wrong_at number key (Gap k m) (Text j n) w v = let shut = v.4 in let gate = w.4 in absurd (omega (arith, shut, gate))
  one_wrong_at number key (Gap k m) (Gap j n) w v = two (λ x y. Gap x y) k j m n (w.0 ∙ sym v.0) (one_spent number m n w.1 v.1 w.2 v.2)
  one_wrong_at number key (Block k) o w v = absurd w
  one_wrong_at number key (Link k) o w v = absurd w
  one_wrong_at number key Shut o w v = absurd w
  one_wrong_at number key e (Block k) w v = absurd v
  one_wrong_at number key e (Link k) w v = absurd v
  one_wrong_at number key e Shut w v = absurd v

  earlier : (number later key : ℕ) (e o : Strange) → number < later → IsWrongAt image base number key e → IsWrongAt image base later key o → ⊥
  earlier number later key e o lt w v = let so = before later key o v in not_wrong_at later so.0 number key e so.1 lt w

  one_wrong : (count key : ℕ) (e o : Strange) → IsWrong image base count key e → IsWrong image base count key o → e ≡ o
  one_wrong count key e o w v = elim (cases_lt w.0 v.0) [
    | inl less ↦ absurd (earlier w.0 v.0 key e o less w.2 v.2)
    | inr not ↦ elim (cases_lt v.0 w.0) [
      | inl less ↦ absurd (earlier v.0 w.0 key o e less v.2 w.2)
      | inr le ↦ let is : v.0 ≡ w.0 = omega (arith, not, le) in one_wrong_at w.0 key e o w.2 (subst (λ (n : ℕ). IsWrongAt image base n key o) is v.2)
    ]
  ]

-- ---- areas

module _ (image : List ℕ) where
  abbrev InSlots : ℕ → Strange → Type 0
  InSlots area e = IsPlainBlock image area × IsWrong image (base_of image area) (early_at image area) (suc area) e

  abbrev InBlock : ℕ → Strange → Type 0
  InBlock area e = (e ≡ Block (suc area)) × (IsPlainBlock image area → ⊥)

  either : (area : ℕ) (e : Strange) → IsWrongIn image area e → InBlock area e ⊎ InSlots area e
  either area (Block key) w = inl (ap (λ (k : ℕ). Block k) w.0, w.1)
  either area (Gap key slot) w = inr w
  either area (Text key slot) w = inr w
  either area (Tail key slot) w = inr w
  either area (Link key) w = absurd w
  either area Shut w = absurd w

  pub plain_right : (area : ℕ) (e : Strange) → IsPlain image area → IsWrongIn image area e → ⊥
  plain_right area e plain w = elim (either area e w) [
    | inl block ↦ block.1 plain.block
    | inr slots ↦ not_wrong_at image (base_of image area) (early_at image area) plain.spent slots.1.0 (suc area) e plain.slots slots.1.1 slots.1.2
  ]

  one_wrong_in : (area : ℕ) (e o : Strange) → IsWrongIn image area e → IsWrongIn image area o → e ≡ o
  one_wrong_in area e o w v = elim (either area e w) [
    | inl block ↦ elim (either area o v) [
      | inl same ↦ block.0 ∙ sym same.0
      | inr slots ↦ absurd (block.1 slots.0)
    ]
    | inr slots ↦ elim (either area o v) [
      | inl block ↦ absurd (block.1 slots.0)
      | inr same ↦ one_wrong image (base_of image area) (early_at image area) (suc area) e o slots.1 same.1
    ]
  ]

  one_first : (e o : Strange) → IsFirstWrong image e → IsFirstWrong image o → e ≡ o
  one_first e o w v = elim (cases_lt w.area v.area) [
    | inl less ↦ absurd (plain_right w.area e (v.reached.plain w.area less) w.wrong)
    | inr not ↦ elim (cases_lt v.area w.area) [
      | inl less ↦ absurd (plain_right v.area o (w.reached.plain v.area less) v.wrong)
      | inr le ↦ let is : v.area ≡ w.area = omega (arith, not, le) in one_wrong_in w.area e o w.wrong (subst (λ (a : ℕ). IsWrongIn image a o) is v.wrong)
    ]
  ]

  -- a first gate that is closed, and an area that is open
  shut_open : (area : ℕ) → gate_at image 0 ≡ 0 → IsAreaOpen image area → ⊥
  shut_open area shut is_open = let gate = open_first image (open_down image 0 area (omega arith) is_open) in omega (arith, gate, shut)

  -- an image is strange in at most one way
  pub one_strange : (e o : Strange) → IsStrange image e → IsStrange image o → e ≡ o
  one_strange e o (Closed is shut) (Closed other also) = is ∙ sym other
  one_strange e o (Closed is shut) (Wrong v) = absurd (shut_open v.area shut.gate v.reached.is_open)
  one_strange e o (Wrong w) (Closed other also) = absurd (shut_open w.area also.gate w.reached.is_open)
  one_strange e o (Wrong w) (Wrong v) = one_first e o w v

  -- if the current area and all areas before it are plain, nothing is strange
  pub plain_all : (area : ℕ) → IsCurrent image area → IsReached image area → IsPlain image area → (e : Strange) → IsStrange image e → ⊥
  plain_all area current reached plain e (Closed is shut) = shut_open area shut.gate reached.is_open
  plain_all area current reached plain e (Wrong w) =
      let le : w.area ≤ area = open_upto image area w.area current w.reached.is_open in
      elim (cases_lt w.area area) [
        | inl less ↦ plain_right w.area e (reached.plain w.area less) w.wrong
        | inr not ↦ let is : area ≡ w.area = omega (arith, le, not) in plain_right w.area e (subst (λ (a : ℕ). IsPlain image a) is plain) w.wrong
      ]

  pub seen_right : (sight : Sight) → IsSight image sight → (e : Strange) → IsStrange image e → ⊥
  seen_right sight it = plain_all it.area it.current it.reached (sight_plain image it.area sight it.here)

  -- if nothing is reported, nothing is strange
  pub untold_right : IsUntold image → (e : Strange) → IsStrange image e → ⊥
  untold_right (NoKey gate not) e (Closed is shut) = not shut
  untold_right (NoKey gate not) e (Wrong w) = shut_open w.area gate w.reached.is_open
  untold_right (NotWhole area reached not) e (Closed is shut) = shut_open area shut.gate reached.is_open
  untold_right (NotWhole area reached not) e (Wrong w) = elim (cases_lt w.area area) [
    | inl less ↦ plain_right w.area e (reached.plain w.area less) w.wrong
    | inr ge ↦ elim (cases_lt area w.area) [
      | inl less ↦ let plain = w.reached.plain area less in not plain.whole
      | inr le ↦ let is : w.area ≡ area = omega (arith, ge, le) in not (subst (λ (a : ℕ). IsWhole image a) is w.whole)
    ]
  ]
  untold_right (Ninth reached plain link) e (Closed is shut) = shut_open 7 shut.gate reached.is_open
  untold_right (Ninth reached plain link) e (Wrong w) = plain_all 7 (record { is_open = reached.is_open; no_later = λ later. let few = open_few image 7 later in omega (arith, few) }) reached plain e (Wrong w)

  -- if the current area and all areas before it are plain, and its last slot has signed no link, facts are reported
  pub told_all : (area : ℕ) → IsCurrent image area → (HasLink image area → ⊥) → IsReached image area → IsPlain image area → IsUntold image → ⊥
  told_all area current last reached plain (NoKey gate not) = shut_open area gate reached.is_open
  told_all area current last reached plain (NotWhole other there not) =
      let le : other ≤ area = open_upto image area other current there.is_open in
      elim (cases_lt other area) [
        | inl less ↦ let so = reached.plain other less in not so.whole
        | inr ge ↦ let is : area ≡ other = omega (arith, le, ge) in not (subst (λ (a : ℕ). IsWhole image a) is plain.whole)
      ]
  told_all area current last reached plain (Ninth there also link) =
      let le : 7 ≤ area = open_upto image area 7 current there.is_open in
      let few : area ≤ 7 = at_most_seven image area current.is_open in
      let is : 7 ≡ area = omega (arith, le, few) in
      last (subst (λ (a : ℕ). HasLink image a) is link)

  pub seen_told : (sight : Sight) → IsSight image sight → IsUntold image → ⊥
  seen_told sight it = told_all it.area it.current it.last it.reached (sight_plain image it.area sight it.here)

  -- so the result of a sight is exact
  pub exact_strange : (r : Result (Option Sight) Strange) → MatchResult r (λ found. MatchOption found (IsUntold image) (IsSight image)) (IsStrange image) → (e : Strange) → IsStrange image e → r ≡ Err e
  exact_strange (Ok None) is e strange = absurd (untold_right is e strange)
  exact_strange (Ok (Some sight)) is e strange = absurd (seen_right sight is e strange)
  exact_strange (Err o) is e strange = ap (λ (x : Strange). Err x) (one_strange o e is strange)

  pub exact_untold : (r : Result (Option Sight) Strange) → MatchResult r (λ found. MatchOption found (IsUntold image) (IsSight image)) (IsStrange image) → IsUntold image → r ≡ Ok None
  exact_untold (Ok None) is untold = refl
  exact_untold (Ok (Some sight)) is untold = absurd (seen_told sight is untold)
  exact_untold (Err o) is untold = absurd (untold_right untold o is)
