-- Each step of a life keeps images tidy.
use Rattle.std.proofs.Common.{◌≡◌, ◌≢◌, ◌⊎◌, ℕ, zero, suc, ◌+◌, ◌-◌, ◌*◌, ◌<◌, ◌≤◌, List, length, get_or, arith, inl, inr, refl, sym, ◌∙◌, ap, subst}
use Rattle.std.proofs.lemmas.Bool.{cases_lt, cases_eq}
use Rattle.lms_tree.specs.Signatures.{KeyOf}
use Rattle.desk_areas.specs.Layout.{SlotId, slots_of, slots_at, place_in, base_of, place_of, gate_at, gate_of, text_of, last_slot, HasLink, IsAreaOpen, IsCurrent, IsOpen, AgreesOutside, OutsideSlot, PutsText, SameFront}
use Rattle.desk_areas.specs.Blank.{IsBlank, IsFresh}
use Rattle.desk_areas.proofs.Areas
use Rattle.desk_areas.proofs.Areas.{base_first, base_next, area_below, open_first, open_link, open_down, early_no_link}
use Rattle.desk_areas.proofs.Growth.{front_bases, front_slots, front_lasts}
use Rattle.desk_areas.proofs.Pieces.{widen}
use Rattle.key_desk.specs.Spending.{IsLowestFree, OpensTexted}
use Rattle.key_desk.specs.Succession.{IsUnspent, RaisesNext}
use Rattle.desk_sight.specs.Texts.{IsZeroFrom}
use Rattle.desk_sight.specs.Slots.{IsOrderly}
use Rattle.desk_sight.specs.Areas.{early_at, IsWhole, IsPlainBlock, IsPlain, IsReached, IsStrange}
use Rattle.desk_sight.specs.Areas.IsStrange.{Closed, Wrong}
use Rattle.desk_sight.specs.Looks.{HasClosedLink, OpensLink, MaySpend, IsUnlinked}
use Rattle.desk_sight.specs.Tidy.{IsTidy, IsUntouched, HasFreshLink}
use Rattle.desk_sight.specs.declared.looking.Use.{Use}
use Rattle.desk_sight.specs.declared.looking.Use.TheVariants.{Key, Publish, Succeed, Links}
use Rattle.desk_sight.specs.declared.strange.Strange.{Strange}
use Rattle.desk_sight.specs.declared.strange.Strange.TheVariants.{Gap, Text, Block, Tail, Link, Shut}
use Rattle.desk_sight.proofs.Exclusive.{plain_right}
use Rattle.desk_sight.proofs.LinkSteps
use Rattle.desk_sight.proofs.Unlinked.{from_unlinked}

-- ---- what cannot occur in tidy images

pub tidy_right : (image : List ℕ) (e : Strange) → IsTidy image → IsStrange image e → e ≡ Shut
tidy_right image e tidy (Closed is shut) = is
tidy_right image e tidy (Wrong w) = absurd (plain_right image w.area e (tidy w.area w.reached.is_open w.whole) w.wrong)

-- nor can it occur if a key exists
pub tidy_open : (image : List ℕ) (e : Strange) → IsTidy image → 0 < gate_at image 0 → IsStrange image e → ⊥
tidy_open image e tidy gate (Closed is shut) = let none = shut.gate in omega (arith, gate, none)
tidy_open image e tidy gate (Wrong w) = plain_right image w.area e (tidy w.area w.reached.is_open w.whole) w.wrong

pub fresh_linked : (image : List ℕ) (e : Strange) → HasFreshLink image → IsUnlinked image e → ⊥
fresh_linked image e fresh unlinked =
    let u = from_unlinked image e unlinked in
    let untouched = fresh u.2.area u.2.current u.2.plain.whole u.2.waits.free u.2.waits.names.link in
    let first = untouched.first in
    let spent = u.2.followed.spent in
    omega (arith, first, spent)

-- ---- an area of which nothing is in use

module _ (image : List ℕ) (area : ℕ) (gate : gate_at image (base_of image area) ≡ 0) (zeros : (k : ℕ) → base_of image area + 53 ≤ k → k < place_in (base_of image area) (slots_at image (base_of image area)) → get_or image k 0 ≡ 0) where
  all_orderly : IsOrderly image (base_of image area) 0 (early_at image area)
  all_orderly = record {
    few = omega arith;
    used = λ k lt. absurd (omega arith);
    shut = λ k low high. zeros (place_in (base_of image area) k) (omega arith) (omega (arith, high));
    empty = λ k low high n from to. zeros n (omega (arith, from)) (omega (arith, to, high));
    tails = λ k high n from to. zeros n (omega (arith, from)) (omega (arith, to, high));
  }

  pub blank_plain : IsWhole image area → IsPlain image area
  blank_plain whole = record {
    whole = whole;
    block = record { tail = λ n from to. zeros n from (let known = whole.known in omega (arith, to, known)); gate = inr gate };
    spent = 0;
    slots = all_orderly;
  }

  -- its last slot has signed no link
  pub blank_unlinked : HasLink image area → ⊥
  blank_unlinked has =
      let known = has.place.known in
      let some = has.gate in
      let none = zeros (place_of image (last_slot image area)) (omega arith) (omega (arith, known)) in
      omega (arith, some, none)

-- ---- the octets that make an area plain

orderly_same : (d i : List ℕ) (base spent count : ℕ) → ((k : ℕ) → base ≤ k → k < place_in base count → get_or i k 0 ≡ get_or d k 0) → IsOrderly d base spent count → IsOrderly i base spent count
orderly_same d i base spent count same so = record {
  few = so.few;
  used = λ k lt. let few = so.few in let is = same (place_in base k) (omega arith) (omega (arith, lt, few)) in let gate = so.used k lt in omega (arith, is, gate);
  shut = λ k low high. same (place_in base k) (omega arith) (omega (arith, high)) ∙ so.shut k low high;
  empty = λ k low high n from to. same n (omega (arith, from)) (omega (arith, to, high)) ∙ so.empty k low high n from to;
  tails = λ k high n from to. same n (omega (arith, from)) (omega (arith, to, high)) ∙ so.tails k high n from to;
}

module _ (d i : List ℕ) (area : ℕ) (bases : base_of i area ≡ base_of d area) (slots : slots_at i (base_of i area) ≡ slots_at d (base_of d area)) where
  early_same : early_at i area ≡ early_at d area
  early_same = ap (λ (n : ℕ). n - 1) slots

  pub whole_back : length i ≡ length d → IsWhole i area → IsWhole d area
  whole_back long whole = record {
    known = let known = whole.known in omega (arith, known, slots);
    within = let within = whole.within in omega (arith, within, slots, bases, long);
  }

  -- the same octets of the block
  block_same : ((k : ℕ) → base_of d area ≤ k → k < base_of d area + 64 → get_or i k 0 ≡ get_or d k 0) → IsPlainBlock d area → IsPlainBlock i area
  block_same same block = record {
    tail = λ n from to. same n (omega (arith, from, bases)) (omega (arith, to, bases)) ∙ block.tail n (omega (arith, from, bases)) (omega (arith, to, bases));
    gate = elim block.gate [
      | inl first ↦ inl first
      | inr shut ↦ inr (ap (λ (b : ℕ). gate_at i b) bases ∙ same (base_of d area) (omega arith) (omega arith) ∙ shut)
    ];
  }

  pub plain_by : IsWhole i area → ((k : ℕ) → base_of d area ≤ k → k < base_of d area + 64 → get_or i k 0 ≡ get_or d k 0) → IsPlainBlock d area → (spent : ℕ) → IsOrderly i (base_of d area) spent (early_at d area) → IsPlain i area
  plain_by whole same block spent so = record {
    whole = whole;
    block = block_same same block;
    spent = spent;
    slots = subst (λ (n : ℕ). IsOrderly i (base_of i area) spent n) (sym early_same) (subst (λ (b : ℕ). IsOrderly i b spent (early_at d area)) (sym bases) so);
  }

  pub plain_same : IsWhole i area → ((k : ℕ) → base_of d area ≤ k → k < place_in (base_of d area) (early_at d area) → get_or i k 0 ≡ get_or d k 0) → IsPlain d area → IsPlain i area
  plain_same whole same plain = plain_by whole (λ k low high. same k low (omega (arith, high))) plain.block plain.spent (orderly_same d i (base_of d area) plain.spent (early_at d area) same plain.slots)

-- ---- a text and a gate in the lowest free slot

module _ (slot : SlotId) (n : ℕ) (d i : List ℕ) (short : n ≤ 104) (free : IsLowestFree d slot) (alone : AgreesOutside (place_of d slot) (place_of d slot + 2 + n) d i) where
  outside : OutsideSlot slot d i
  outside = widen (place_of d slot) (place_of d slot + 2 + n) (place_of d slot) (place_of d slot + 128) d i (omega arith) (omega arith) alone

  known : slot.number < slots_at d (base_of d slot.area)
  known = let early = free.early in omega (arith, early)

  early_i : slot.number + 1 < slots_at i (base_of i slot.area)
  early_i = let early = free.early in omega (arith, early, Areas.slots_same slot d i outside known slot.area)

  back : (area : ℕ) → IsAreaOpen i area → IsAreaOpen d area
  back area = Areas.open_kept slot i d (Areas.turned slot d i outside known) (Areas.known_turned slot d i outside known) area (λ a lt. early_no_link slot i early_i a)

  -- the octets of other areas, and of its own block
  apart : (area : ℕ) → area ≢ slot.area → (k : ℕ) → base_of d area ≤ k → k < place_in (base_of d area) (early_at d area) → get_or i k 0 ≡ get_or d k 0
  apart area ne k low high = elim (cases_lt area slot.area) [
    | inl before ↦ let le = area_below d area slot.area before in outside.same k (inl (omega (arith, high, le)))
    | inr ge ↦ let after : slot.area < area = omega (arith, ge, ne) in let le = area_below d slot.area area after in outside.same k (inr (omega (arith, low, le, known)))
  ]

  module _ (plain : IsPlain d slot.area) where
    abbrev base : ℕ
    base = base_of d slot.area

    -- the lowest free slot is the one after the spent slots
    spent_is : plain.spent ≡ slot.number
    spent_is = elim (cases_lt plain.spent slot.number) [
      | inl less ↦
          let gate = free.lowest plain.spent less in
          let early = free.early in
          let shut = plain.slots.shut plain.spent (omega arith) (omega (arith, less, early)) in
          absurd (omega (arith, gate, shut))
      | inr ge ↦ elim (cases_lt slot.number plain.spent) [
        | inl more ↦ let gate = plain.slots.used slot.number more in let shut = free.shut in absurd (omega (arith, gate, shut))
        | inr le ↦ omega (arith, ge, le)
      ]
    ]

    so : IsOrderly d (base_of d slot.area) slot.number (early_at d slot.area)
    so = subst (λ (s : ℕ). IsOrderly d (base_of d slot.area) s (early_at d slot.area)) spent_is plain.slots

    -- other slots of the area
    gate_other : (k : ℕ) → k ≢ slot.number → gate_at i (place_in (base_of d slot.area) k) ≡ gate_at d (place_in (base_of d slot.area) k)
    gate_other k ne = elim (cases_lt k slot.number) [
      | inl less ↦ outside.same (place_in (base_of d slot.area) k) (inl (omega (arith, less)))
      | inr ge ↦ outside.same (place_in (base_of d slot.area) k) (inr (omega (arith, ge, ne)))
    ]

    tails_i : (k : ℕ) → k < early_at d slot.area → IsZeroFrom (place_in (base_of d slot.area) k + 106) (place_in (base_of d slot.area) k + 128) i
    tails_i k high m from to = elim (cases_lt k slot.number) [
      | inl less ↦ alone.same m (inl (omega (arith, less, to))) ∙ so.tails k high m from to
      | inr ge ↦ alone.same m (inr (omega (arith, ge, from, short))) ∙ so.tails k high m from to
    ]

    empty_i : (k : ℕ) → slot.number < k → k < early_at d slot.area → IsZeroFrom (place_in (base_of d slot.area) k + 1) (place_in (base_of d slot.area) k + 106) i
    empty_i k more high m from to = outside.same m (inr (omega (arith, more, from))) ∙ so.empty k more high m from to

    orderly_i : (g : ℕ) → gate_at i (place_in (base_of d slot.area) slot.number) ≡ g → (spent : ℕ) × IsOrderly i (base_of d slot.area) spent (early_at d slot.area)
    orderly_i zero is = (
      slot.number,
      record {
        few = so.few;
        used = λ k lt. let same = gate_other k (λ e. omega (arith, e, lt)) in let gate = so.used k lt in omega (arith, same, gate);
        shut = λ k low high. elim (cases_eq k slot.number) [
          | inl here ↦ ap (λ (m : ℕ). gate_at i (place_in (base_of d slot.area) m)) here ∙ is
          | inr ne ↦ gate_other k ne ∙ so.shut k low high
        ];
        empty = empty_i;
        tails = tails_i;
      },
    )
    orderly_i (suc g) is = (
      suc slot.number,
      record {
        few = let early = free.early in omega (arith, early);
        used = λ k lt. elim (cases_eq k slot.number) [
          | inl here ↦ let gate : gate_at i (place_in (base_of d slot.area) k) ≡ suc g = ap (λ (m : ℕ). gate_at i (place_in (base_of d slot.area) m)) here ∙ is in omega (arith, gate)
          | inr ne ↦ let same = gate_other k ne in let gate = so.used k (omega (arith, lt, ne)) in omega (arith, same, gate)
        ];
        shut = λ k low high. gate_other k (λ e. omega (arith, e, low)) ∙ so.shut k (omega (arith, low)) high;
        empty = λ k low high. empty_i k (omega (arith, low)) high;
        tails = tails_i;
      },
    )

    here_plain : IsWhole i slot.area → IsPlain i slot.area
    here_plain whole =
        let got = orderly_i (gate_at i (place_in (base_of d slot.area) slot.number)) refl in
        plain_by d i slot.area (Areas.bases slot d i outside known slot.area) (Areas.slots_same slot d i outside known slot.area) whole
        (λ k low high. outside.same k (inl (omega (arith, high)))) plain.block got.0 got.1

  pub signed_tidy : IsTidy d → IsTidy i
  signed_tidy tidy area is_open whole =
      let bases = Areas.bases slot d i outside known area in
      let slots = Areas.slots_same slot d i outside known area in
      let plain = tidy area (back area is_open) (whole_back d i area bases slots outside.long whole) in
      elim (cases_eq area slot.area) [
        | inl here ↦ subst (λ (a : ℕ). IsPlain i a) (sym here) (here_plain (subst (λ (a : ℕ). IsPlain d a) here plain) (subst (λ (a : ℕ). IsWhole i a) here whole))
        | inr ne ↦ plain_same d i area bases slots whole (apart area ne) plain
      ]

-- ---- a first key

pub fresh_tidy : (key : KeyOf) (image : List ℕ) → IsFresh key image → IsTidy image
fresh_tidy key image (inl shut) area is_open whole =
    let gate = open_first image (open_down image 0 area (omega arith) is_open) in
    let within = whole.within in
    absurd (shut (record { long = omega (arith, within); gate = gate }))
fresh_tidy key image (inr blank) area is_open whole = at area is_open whole
  where
    first : base_of image 0 ≡ 0
    first = base_first image

    slots_is : slots_at image (base_of image 0) ≡ slots_of key.kind
    slots_is = ap (λ (b : ℕ). slots_at image b) first ∙ ap (λ (k : ℕ). slots_of k) blank.area.block.kind

    zeros : (k : ℕ) → base_of image 0 + 53 ≤ k → k < place_in (base_of image 0) (slots_at image (base_of image 0)) → get_or image k 0 ≡ 0
    zeros k low high = blank.area.zero k (omega (arith, low, first)) (omega (arith, high, first, slots_is))

    orderly : IsOrderly image (base_of image 0) 0 (early_at image 0)
    orderly = record {
      few = omega arith;
      used = λ k lt. absurd (omega arith);
      shut = λ k low high. zeros (place_in (base_of image 0) k) (omega arith) (omega (arith, high));
      empty = λ k low high n from to. zeros n (omega (arith, from)) (omega (arith, to, high));
      tails = λ k high n from to. zeros n (omega (arith, from)) (omega (arith, to, high));
    }

    no_link : HasLink image 0 → ⊥
    no_link has =
        let known = has.place.known in
        let some = has.gate in
        let none = zeros (place_of image (last_slot image 0)) (omega arith) (omega (arith, known)) in
        omega (arith, some, none)

    at : (area : ℕ) → IsAreaOpen image area → IsWhole image area → IsPlain image area
    at zero is_open whole = record {
      whole = whole;
      block = record { tail = λ n from to. zeros n from (let known = whole.known in omega (arith, to, known)); gate = inl refl };
      spent = 0;
      slots = orderly;
    }
    at (suc area) is_open whole = absurd (no_link (open_link image 0 (open_down image 1 (suc area) (omega arith) is_open)))

-- ---- the next key

module _ (key : KeyOf) (d i : List ℕ) (raises : RaisesNext key d i) where
  abbrev area : ℕ
  area = raises.area

  abbrev end : ℕ
  end = base_of d (suc area)

  abbrev last : SlotId
  last = last_slot d area

  abbrev behind : List ℕ
  behind = raises.raises.behind

  front : SameFront end d behind
  front = raises.raises.front

  ends : base_of d (suc area) ≤ end
  ends = omega arith

  place_is : place_of d last + 128 ≡ end
  place_is = let next = base_next d area in let some = raises.known in omega (arith, next, some)

  bases_b : (a : ℕ) → a ≤ suc area → base_of behind a ≡ base_of d a
  bases_b a le = front_bases end d behind front area ends a le

  slots_b : (a : ℕ) → a ≤ area → slots_at behind (base_of behind a) ≡ slots_at d (base_of d a)
  slots_b a le = front_slots end d behind front area ends a le

  last_b : last_slot behind area ≡ last
  last_b = front_lasts end d behind front area ends area (omega arith)

  place_b : place_of behind last ≡ place_of d last
  place_b = ap (λ (b : ℕ). place_in b last.number) (bases_b area (omega arith))

  outside_b : OutsideSlot last behind i
  outside_b = widen (place_of d last) (place_of d last + 62) (place_of behind last) (place_of behind last + 128) behind i (omega (arith, place_b)) (omega (arith, place_b)) raises.raises.alone

  known_b : last.number < slots_at behind (base_of behind area)
  known_b = let some = raises.known in let same = slots_b area (omega arith) in omega (arith, some, same)

  bases_i : (a : ℕ) → a ≤ suc area → base_of i a ≡ base_of d a
  bases_i a le = Areas.bases last behind i outside_b known_b a ∙ bases_b a le

  slots_i : (a : ℕ) → a ≤ area → slots_at i (base_of i a) ≡ slots_at d (base_of d a)
  slots_i a le = Areas.slots_same last behind i outside_b known_b a ∙ slots_b a le

  same_before : (k : ℕ) → k < place_of d last → get_or i k 0 ≡ get_or d k 0
  same_before k lt = raises.raises.alone.same k (inl lt) ∙ front.same k (omega (arith, lt, place_is))

  before : IsTidy d → (a : ℕ) → a ≤ area → IsWhole i a → IsPlain i a
  before tidy a le whole =
      let up = area_below d a (suc area) (omega (arith, le)) in
      let same = slots_i a le in
      let long = front.long in
      let known = whole.known in
      let whole_d : IsWhole d a = record { known = omega (arith, known, same); within = omega (arith, up, long) } in
      plain_same d i a (bases_i a (omega (arith, le))) same whole
      (λ k low high. same_before k (reach a le k high)) (tidy a (open_down d a area le raises.current.is_open) whole_d)
    where
      reach : (a : ℕ) → a ≤ area → (k : ℕ) → k < place_in (base_of d a) (early_at d a) → k < place_of d last
      reach a le k high = elim (cases_lt a area) [
        | inl less ↦ let below = area_below d a area less in omega (arith, high, below)
        | inr ge ↦ let is : a ≡ area = omega (arith, le, ge) in subst (λ (x : ℕ). k < place_in (base_of d x) (early_at d x)) is high
      ]

  -- the next area is open once the link has been signed, and nothing in it is in use
  unspent : IsAreaOpen i (suc area) → IsUnspent key end i
  unspent is_open =
      let has = open_link i area is_open in
      let at : last_slot i area ≡ last = Areas.lasts last behind i outside_b known_b area ∙ last_b in
      let place : place_of i last ≡ place_of d last = Areas.places last behind i outside_b known_b last ∙ place_b in
      let gate : 0 < gate_of i last = subst (λ (s : SlotId). 0 < gate_of i s) at has.gate in
      elim raises.raises.gate [
        | inl same ↦ let open_gate : gate_of i last ≡ gate_at i (place_of d last) = ap (λ (p : ℕ). gate_at i p) place in let shut = raises.free in absurd (omega (arith, gate, open_gate, same, shut))
        | inr it ↦ it
      ]

  module _ (it : IsUnspent key end i) where
    base_is : base_of i (suc area) ≡ end
    base_is = bases_i (suc area) (omega arith)

    slots_is : slots_at i (base_of i (suc area)) ≡ slots_of key.kind
    slots_is = ap (λ (b : ℕ). slots_at i b) base_is ∙ ap (λ (k : ℕ). slots_of k) it.blank.block.kind

    gate_is : gate_at i (base_of i (suc area)) ≡ 0
    gate_is = ap (λ (b : ℕ). gate_at i b) base_is ∙ it.gate

    zeros_is : (k : ℕ) → base_of i (suc area) + 53 ≤ k → k < place_in (base_of i (suc area)) (slots_at i (base_of i (suc area))) → get_or i k 0 ≡ 0
    zeros_is k low high = it.blank.zero k (omega (arith, low, base_is)) (omega (arith, high, base_is, slots_is))

  pub raised_tidy : IsTidy d → IsTidy i
  raised_tidy tidy a is_open whole = elim (cases_lt area a) [
    | inr le ↦ before tidy a (omega (arith, le)) whole
    | inl more ↦
        let it = unspent (open_down i (suc area) a (omega (arith, more)) is_open) in
        elim (cases_lt (suc area) a) [
          | inl beyond ↦ absurd (blank_unlinked i (suc area) (gate_is it) (zeros_is it) (open_link i (suc area) (open_down i (suc (suc area)) a (omega (arith, beyond)) is_open)))
          | inr le ↦ let is : suc area ≡ a = omega (arith, more, le) in subst (λ (x : ℕ). IsPlain i x) is (blank_plain i (suc area) (gate_is it) (zeros_is it) (subst (λ (x : ℕ). IsWhole i x) (sym is) whole))
        ]
  ]

-- ---- the gate of a link that waits

module _ (d i : List ℕ) (opens : OpensLink d i) where
  abbrev at : ℕ
  at = opens.closed.area

  abbrev link_slot : SlotId
  link_slot = last_slot d at

  link_place : place_of d link_slot ≡ opens.end - 128
  link_place = LinkSteps.place_is d i opens.end opens.closed

  pub link_known : link_slot.number < slots_at d (base_of d at)
  link_known = let some = opens.closed.known in omega (arith, some)

  pub link_whole : IsWhole d at
  link_whole = record {
    known = opens.closed.known;
    within = let within = opens.closed.within in let ends = opens.closed.ends in let next = base_next d at in omega (arith, within, ends, next);
  }

  link_alone : AgreesOutside (place_of d link_slot) (place_of d link_slot + 1) d i
  link_alone = subst (λ (p : ℕ). AgreesOutside p (p + 1) d i) (sym link_place) opens.alone

  pub link_outside : OutsideSlot link_slot d i
  link_outside = widen (place_of d link_slot) (place_of d link_slot + 1) (place_of d link_slot) (place_of d link_slot + 128) d i (omega arith) (omega arith) link_alone

  pub bases_l : (a : ℕ) → base_of i a ≡ base_of d a
  bases_l a = Areas.bases link_slot d i link_outside link_known a

  pub slots_l : (a : ℕ) → slots_at i (base_of i a) ≡ slots_at d (base_of d a)
  slots_l a = Areas.slots_same link_slot d i link_outside link_known a

  -- up to the area of the link, an area that is open was open before
  back_l : (a : ℕ) → a ≤ at → IsAreaOpen i a → IsAreaOpen d a
  back_l a le = Areas.open_kept link_slot i d (Areas.turned link_slot d i link_outside link_known) (Areas.known_turned link_slot d i link_outside link_known) a
      (λ b lt has is. let same : b ≡ at = ap (λ (s : SlotId). s.area) is in omega (arith, same, lt, le))

  -- an area that is open was open before, or it comes after the area of the link, which was the current one
  pub opened : (a : ℕ) → IsAreaOpen i a → IsAreaOpen d a ⊎ (IsCurrent d at × (at < a))
  opened a is_open = elim (cases_lt at a) [
    | inr le ↦ inl (back_l a (omega (arith, le)) is_open)
    | inl more ↦ inr (
      record {
        is_open = back_l at (omega arith) (open_down i at a (omega (arith, more)) is_open);
        no_later = λ later. let has = open_link d at later in let gate = has.gate in let shut = opens.closed.shut in omega (arith, gate, shut);
      },
      more,
    )
  ]

  -- the octets that make an area plain are unchanged
  early_l : (a : ℕ) (k : ℕ) → base_of d a ≤ k → k < place_in (base_of d a) (early_at d a) → get_or i k 0 ≡ get_or d k 0
  early_l a k low high = elim (cases_lt a at) [
    | inl before ↦ let le = area_below d a at before in link_outside.same k (inl (omega (arith, high, le)))
    | inr ge ↦ elim (cases_lt at a) [
      | inl after ↦ let le = area_below d at a after in link_outside.same k (inr (omega (arith, low, le, link_known)))
      | inr le ↦ let is : a ≡ at = omega (arith, ge, le) in let lt : k < place_in (base_of d at) (early_at d at) = subst (λ (x : ℕ). k < place_in (base_of d x) (early_at d x)) is high in link_outside.same k (inl lt)
    ]
  ]

  module _ (fresh : HasFreshLink d) (current : IsCurrent d at) where
    untouched : IsUntouched d (suc at)
    untouched = fresh at current link_whole opens.closed.shut opens.closed.link

    pub behind_link : (k : ℕ) → base_of d (suc at) ≤ k → get_or i k 0 ≡ get_or d k 0
    behind_link k low = let next = base_next d at in link_outside.same k (inr (omega (arith, low, next, link_known)))

    pub gate_l : gate_at i (base_of i (suc at)) ≡ 0
    gate_l = ap (λ (b : ℕ). gate_at i b) (bases_l (suc at)) ∙ behind_link (base_of d (suc at)) (omega arith) ∙ untouched.gate

    pub zeros_l : (k : ℕ) → base_of i (suc at) + 53 ≤ k → k < place_in (base_of i (suc at)) (slots_at i (base_of i (suc at))) → get_or i k 0 ≡ 0
    zeros_l k low high =
        let base = bases_l (suc at) in
        let slots = slots_l (suc at) in
        behind_link k (omega (arith, low, base)) ∙ untouched.zero k (omega (arith, low, base)) (omega (arith, high, base, slots))

  pub opened_tidy : HasFreshLink d → IsTidy d → IsTidy i
  opened_tidy fresh tidy a is_open whole = elim (opened a is_open) [
    | inl was ↦ plain_same d i a (bases_l a) (slots_l a) whole (early_l a) (tidy a was (whole_back d i a (bases_l a) (slots_l a) link_outside.long whole))
    | inr both ↦ elim (cases_lt (suc at) a) [
      | inl beyond ↦ absurd (blank_unlinked i (suc at) (gate_l fresh both.0) (zeros_l fresh both.0) (open_link i (suc at) (open_down i (suc (suc at)) a (omega (arith, beyond)) is_open)))
      | inr le ↦
          let more = both.1 in
          let is : suc at ≡ a = omega (arith, more, le) in
          subst (λ (x : ℕ). IsPlain i x) is (blank_plain i (suc at) (gate_l fresh both.0) (zeros_l fresh both.0) (subst (λ (x : ℕ). IsWhole i x) (sym is) whole))
    ]
  ]

-- ---- the changes that a look makes

texted_tidy : (d i : List ℕ) → OpensTexted d i → IsTidy d → IsTidy i
texted_tidy d i opens = signed_tidy opens.slot 0 d i (omega arith) opens.texted.free (widen (place_of d opens.slot) (place_of d opens.slot + 1) (place_of d opens.slot) (place_of d opens.slot + 2 + 0) d i (omega arith) (omega arith) opens.alone)

pub spent_tidy : (what : Use) (d i : List ℕ) → MaySpend what d i → HasFreshLink d → IsTidy d → IsTidy i
spent_tidy Key d i is fresh tidy = subst IsTidy (sym is) tidy
spent_tidy Links d i is fresh tidy = subst IsTidy (sym is) tidy
spent_tidy Publish d i (inl is) fresh tidy = subst IsTidy (sym is) tidy
spent_tidy Publish d i (inr opens) fresh tidy = texted_tidy d i opens tidy
spent_tidy Succeed d i (inl is) fresh tidy = subst IsTidy (sym is) tidy
spent_tidy Succeed d i (inr opens) fresh tidy = opened_tidy d i opens fresh tidy

pub text_tidy : (slot : SlotId) (text d i : List ℕ) → length text ≤ 104 → IsLowestFree d slot → PutsText slot text d i → IsTidy d → IsTidy i
text_tidy slot text d i short free alone = signed_tidy slot (length text) d i short free alone
