-- The keys of open areas remain.
use Rattle.std.proofs.Common.{◌≡◌, ℕ, ◌+◌, ◌<◌, ◌++◌, List, length, inl, inr, refl, sym, ap, ◌∙◌, subst, arith}
use Rattle.std.proofs.lemmas.Bool.{cases_eq}
use Rattle.std.proofs.lemmas.Bool.Decides.{nat_tests}
use Rattle.lms_tree.specs.Signatures.{KeyOf}
use Rattle.desk_areas.specs.Layout.{SlotId, slots_of, slots_at, base_of, kind_at, secret_at, OutsideSlot}
use Rattle.desk_areas.specs.Keys.{key_from}
use Rattle.desk_areas.proofs.Areas.{kinds, secrets}
use Rattle.desk_areas.proofs.Growth.{open_upto}
use Rattle.key_desk.specs.declared.desk.Desk.{Desk}
use Rattle.key_desk.specs.Desk.{HasAreas}
use Rattle.key_desk.specs.Stands.{SameKeys}
use Rattle.key_desk.specs.Succession.{HasKeys}

-- a key is determined by its kind and its secret
pub one_key : (kind number : ℕ) (secret octets : List ℕ) → kind ≡ number → secret ≡ octets → key_from kind secret ≡ key_from number octets
one_key kind number secret octets same is = ap (λ (k : ℕ). key_from k secret) same ∙ ap (λ (s : List ℕ). key_from number s) is

pub stays_keys : (d i : List ℕ) → i ≡ d → SameKeys d i
stays_keys d i is = subst (λ (x : List ℕ). SameKeys d x) (sym is) (λ area is_open. refl)

-- where the blocks of a desk's keys are, before and after
pub desk_keys : (desk : Desk) (d i : List ℕ) → HasAreas desk d → HasKeys desk i → SameKeys d i
desk_keys desk d i areas keys area is_open =
    let le = open_upto d (length desk.earlier) area areas.current is_open in
    let was = areas.keys area le in
    let now = keys area le in
    one_key (kind_at i (base_of i area)) (kind_at d (base_of d area)) (secret_at i (base_of i area)) (secret_at d (base_of d area)) (now.kind ∙ sym was.kind) (now.secret ∙ sym was.secret)

-- if nothing changes outside a slot
pub slot_keys : (slot : SlotId) (d i : List ℕ) → OutsideSlot slot d i → slot.number < slots_at d (base_of d slot.area) → SameKeys d i
slot_keys slot d i out known area is_open =
    one_key (kind_at i (base_of i area)) (kind_at d (base_of d area)) (secret_at i (base_of i area)) (secret_at d (base_of d area)) (kinds slot d i out known area) (secrets slot d i out known area)

-- a key has more than one slot
pub more_slots : (kind : ℕ) → 0 < slots_of kind → 1 < slots_of kind
unfolding slots_of
more_slots kind some = elim (cases_eq kind 5) [
  | inl five ↦ subst (λ (k : ℕ). 1 < slots_of k) (sym five) (omega arith)
  | inr other ↦ elim (cases_eq kind 6) [
    | inl six ↦ subst (λ (k : ℕ). 1 < slots_of k) (sym six) (omega arith)
    | inr unknown ↦ let none : slots_of kind ≡ 0 = grind (arith, nat_tests) in absurd (omega (arith, some, none))
  ]
]
