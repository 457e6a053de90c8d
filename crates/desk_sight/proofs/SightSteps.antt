-- One area after the other.
use Rattle.std.proofs.Common.{◌≡◌, ◌≢◌, ◌⊎◌, ◌↔◌, ℕ, suc, ◌+◌, ◌-◌, ◌*◌, ◌<◌, ◌≤◌, List, length, true, false, Bool, arith, inl, inr, refl, sym, ◌∙◌, ap, subst, Some, None, Option, MatchOption, IfSome, IfNone}
use Rattle.std.proofs.lemmas.Bool.{cases_lt, cases_eq}
use Rattle.lms_tree.specs.Links.{IsLink}
use Rattle.desk_areas.specs.Layout.{SlotId, slots_at, place_in, base_of, place_of, gate_at, text_at, gate_of, text_of, last_slot, IsWithin, HasLink, IsAreaOpen, IsCurrent}
use Rattle.desk_areas.specs.Reading.{IsLinkTo}
use Rattle.desk_areas.proofs.Areas.{base_next, first_open, next_open, open_link}
use Rattle.desk_sight.specs.Slots.{IsSlots, IsOrderly, IsWaitingIn, IsWrong}
use Rattle.desk_sight.specs.Areas.{early_at, IsWhole, IsPlainBlock, IsPlain, IsReached, IsWrongIn, IsFirstWrong, IsStrange, IsShut, IsWaitingLink, IsFollowed}
use Rattle.desk_sight.specs.Areas.IsStrange.{Closed, Wrong}
use Rattle.desk_sight.specs.Sights.{IsTold, IsSightOf, IsSight, IsUntold}
use Rattle.desk_sight.specs.Sights.IsUntold.{NoKey, NotWhole, Ninth}
use Rattle.desk_sight.specs.declared.slots.Signed.{Signed}
use Rattle.desk_sight.specs.declared.sight.Sight.{Sight}
use Rattle.desk_sight.specs.declared.slots.Slots.{Slots}
use Rattle.desk_sight.specs.declared.sight.Told.{Told}
use Rattle.desk_sight.specs.declared.strange.Strange.{Strange}
use Rattle.desk_sight.specs.declared.strange.Strange.TheVariants.{Gap, Text, Block, Tail, Link, Shut}

-- the first area is reached if the first gate is open
pub first_reached : (image : List ℕ) → 0 < gate_at image 0 → IsReached image 0
first_reached image gate = record { is_open = first_open image gate; plain = λ before lt. absurd (omega arith) }

module _ (image : List ℕ) (area base slots : ℕ) (base_is : base ≡ base_of image area) (slots_is : slots ≡ slots_at image base) where
  pub slots_here : slots ≡ slots_at image (base_of image area)
  slots_here = slots_is ∙ ap (λ (b : ℕ). slots_at image b) base_is

  pub last_place : place_in base (slots - 1) ≡ place_of image (last_slot image area)
  last_place = ap (λ (b : ℕ). place_in b (slots - 1)) base_is ∙ ap (λ (n : ℕ). place_in (base_of image area) (n - 1)) slots_here

  pub next_base : place_in base slots ≡ base_of image (suc area)
  next_base = ap (λ (b : ℕ). place_in b slots) base_is ∙ ap (λ (n : ℕ). place_in (base_of image area) n) slots_here ∙ sym (base_next image area)

  module _ (some : 0 < slots) (within : place_in base slots ≤ length image) where
    pub whole_here : IsWhole image area
    whole_here = record { known = omega (arith, some, slots_here); within = omega (arith, within, slots_here, base_is) }

    pub link_here : 0 < gate_at image (place_in base (slots - 1)) → IsLink (text_at image (place_in base (slots - 1))) → HasLink image area
    link_here gate link = record {
      place = record { known = omega (arith, some, slots_here); whole = omega (arith, within, some, last_place) };
      gate = subst (λ (p : ℕ). 0 < gate_at image p) last_place gate;
      link = subst (λ (p : ℕ). IsLink (text_at image p)) last_place link;
    }

  pub has_link : HasLink image area → (0 < gate_at image (place_in base (slots - 1))) × IsLink (text_at image (place_in base (slots - 1)))
  has_link has = (
    subst (λ (p : ℕ). 0 < gate_at image p) (sym last_place) has.gate,
    subst (λ (p : ℕ). IsLink (text_at image p)) (sym last_place) has.link,
  )

  pub waits_here : (key : List ℕ) → gate_at image (place_in base (slots - 1)) ≡ 0 → IsLinkTo (text_at image (place_in base (slots - 1))) key → IsWaitingLink image area key
  waits_here key gate names = record {
    free = ap (λ (p : ℕ). gate_at image p) (sym last_place) ∙ gate;
    names = subst (λ (p : ℕ). IsLinkTo (text_at image p) key) last_place names;
  }

  pub waits_there : (key : List ℕ) → IsWaitingLink image area key → (gate_at image (place_in base (slots - 1)) ≡ 0) × IsLink (text_at image (place_in base (slots - 1)))
  waits_there key it = (
    ap (λ (p : ℕ). gate_at image p) last_place ∙ it.free,
    subst (λ (p : ℕ). IsLink (text_at image p)) (sym last_place) it.names.link,
  )

  pub followed_place : 0 < slots → place_in base (slots - 1) + 192 ≡ place_in (base_of image (suc area)) 0
  followed_place some = omega (arith, next_base, some)

  early_is : slots - 1 ≡ early_at image area
  early_is = ap (λ (n : ℕ). n - 1) slots_here

  next_is : area + 1 ≡ suc area
  next_is = omega arith

  moved : (strange : Strange) → IsWrong image base (slots - 1) (area + 1) strange → IsWrong image (base_of image area) (early_at image area) (suc area) strange
  moved strange w =
      subst (λ (n : ℕ). IsWrong image (base_of image area) (early_at image area) n strange) next_is
      (subst (λ (n : ℕ). IsWrong image (base_of image area) n (area + 1) strange) early_is (subst (λ (b : ℕ). IsWrong image b (slots - 1) (area + 1) strange) base_is w))

  pub wrong_slot : IsPlainBlock image area → (strange : Strange) → IsWrong image base (slots - 1) (area + 1) strange → IsWrongIn image area strange
  wrong_slot block (Gap key slot) w = (block, moved (Gap key slot) w)
  wrong_slot block (Text key slot) w = (block, moved (Text key slot) w)
  wrong_slot block (Tail key slot) w = (block, moved (Tail key slot) w)
  wrong_slot block (Block key) w = absurd w.2
  wrong_slot block (Link key) w = absurd w.2
  wrong_slot block Shut w = absurd w.2

  link_told : (found : Option (List ℕ)) → IfSome found (λ key. (gate_at image (place_in base (slots - 1)) ≡ 0) × IsLinkTo (text_at image (place_in base (slots - 1))) key)
      → IfNone found (gate_at image (place_in base (slots - 1)) ≡ 0 → IsLink (text_at image (place_in base (slots - 1))) → ⊥)
      → MatchOption found ((key : List ℕ) → IsWaitingLink image area key → ⊥) (IsWaitingLink image area)
  link_told None some none = λ key it. let both = waits_there key it in none both.0 both.1
  link_told (Some key) some none = waits_here key some.0 some.1

  pub sight_all : 0 < slots → place_in base slots ≤ length image → IsPlainBlock image area → (found : Slots) → IsSlots image base (slots - 1) found → (told : Told) → IsTold image (area + 1) told
      → (link : Option (List ℕ)) → IfSome link (λ key. (gate_at image (place_in base (slots - 1)) ≡ 0) × IsLinkTo (text_at image (place_in base (slots - 1))) key)
      → IfNone link (gate_at image (place_in base (slots - 1)) ≡ 0 → IsLink (text_at image (place_in base (slots - 1))) → ⊥)
      → (followed : Bool) → ((followed ≡ true) ↔ (0 < gate_at image (place_in base (slots - 1) + 192)))
      → IsSightOf image area (record { key = area + 1; size = slots - 1; spent = found.spent; last = told.last; greatest = told.greatest; waiting = found.waiting; link = link; is_followed = followed })
  sight_all some within block found so told told_so link link_some link_none followed follows = record {
    key = next_is;
    whole = whole_here some within;
    block = block;
    size = early_is;
    slots = subst (λ (n : ℕ). IsOrderly image (base_of image area) found.spent n) early_is (subst (λ (b : ℕ). IsOrderly image b found.spent (slots - 1)) base_is so.orderly);
    waiting = subst (λ (n : ℕ). MatchOption found.waiting ((signed : Signed) → IsWaitingIn image (base_of image area) found.spent n signed → ⊥) (IsWaitingIn image (base_of image area) found.spent n)) early_is
        (subst (λ (b : ℕ). MatchOption found.waiting ((signed : Signed) → IsWaitingIn image b found.spent (slots - 1) signed → ⊥) (IsWaitingIn image b found.spent (slots - 1))) base_is so.waiting);
    told = subst (λ (n : ℕ). IsTold image n (record { last = told.last; greatest = told.greatest })) next_is told_so;
    link = link_told link link_some link_none;
    followed = (
      λ is. record { spent = subst (λ (p : ℕ). 0 < gate_at image p) (followed_place some) (follows.0 is) },
      λ it. follows.1 (subst (λ (p : ℕ). 0 < gate_at image p) (sym (followed_place some)) it.spent),
    );
  }

-- an area whose sight is reported is plain
pub sight_plain : (image : List ℕ) (area : ℕ) (sight : Sight) → IsSightOf image area sight → IsPlain image area
sight_plain image area sight it = record { whole = it.whole; block = it.block; spent = sight.spent; slots = it.slots }

pub more_plain : (image : List ℕ) (area : ℕ) → IsReached image area → IsPlain image area → (before : ℕ) → before < suc area → IsPlain image before
more_plain image area reached here before lt = elim (cases_lt before area) [
  | inl less ↦ reached.plain before less
  | inr not ↦ let is : area ≡ before = omega arith in subst (λ (a : ℕ). IsPlain image a) is here
]

pub next_reached : (image : List ℕ) (area : ℕ) → IsReached image area → IsPlain image area → HasLink image area → area < 7 → IsReached image (suc area)
next_reached image area reached here link few = record { is_open = next_open image area reached.is_open link few; plain = more_plain image area reached here }

pub ninth : (image : List ℕ) (area : ℕ) → area ≡ 7 → IsReached image area → IsPlain image area → HasLink image area → IsUntold image
ninth image area is reached here link = Ninth (subst (λ (a : ℕ). IsReached image a) is reached) (subst (λ (a : ℕ). IsPlain image a) is here) (subst (λ (a : ℕ). HasLink image a) is link)

-- the sight of the current area
pub sight_here : (image : List ℕ) (area : ℕ) (sight : Sight) → IsReached image area → IsSightOf image area sight → (HasLink image area → ⊥) → IsSight image sight
sight_here image area sight reached it none = record {
  area = area;
  current = record { is_open = reached.is_open; no_later = λ later. none (open_link image area later) };
  last = none;
  reached = reached;
  here = it;
}

pub wrong_here : (image : List ℕ) (area : ℕ) (strange : Strange) → IsReached image area → IsWhole image area → IsWrongIn image area strange → IsStrange image strange
wrong_here image area strange reached whole wrong = Wrong (record { area = area; reached = reached; whole = whole; wrong = wrong })
