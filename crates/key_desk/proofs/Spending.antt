-- The lowest free slot of a desk, and the effect of opening its gate.
use Rattle.std.proofs.Common.{◌≡◌, ◌≢◌, ◌⊎◌, ℕ, ◌+◌, ◌-◌, ◌<◌, ◌≤◌, List, length, take, true, arith, inl, inr, refl, sym, ◌∙◌, ap, subst, Some, Option}
use Rattle.std.proofs.lemmas.Bool.{cases_lt}
use Rattle.std.specs.List.{slice_index_or}
use Rattle.std.specs.Option.{ForSome}
use Rattle.road_io.specs.declared.disk.Disk.{Ghosts}
use Rattle.road_io.specs.Disk.{Stays}
use Rattle.road_io.specs.Moments.{Image, EachImage, AtEachMoment}
use Rattle.road_io.proofs.MomentLaws.{weaker, at_end, continued}
use Rattle.lms_tree.specs.Signatures.{KeyOf}
use Rattle.lms_tree.specs.Links.{IsLink}
use Rattle.desk_areas.specs.declared.area.Count.{Count}
use Rattle.desk_areas.specs.declared.area.Count.TheVariants
use Rattle.desk_areas.specs.Layout.{SlotId, slots_of, slots_at, place_in, base_of, place_of, gate_at, text_at, gate_of, text_of, IsSigned, AgreesOutside, OutsideSlot}
use Rattle.desk_areas.specs.Settled.{IsSettled}
use Rattle.desk_areas.proofs.Areas.{places, slot_eq}
use Rattle.desk_areas.proofs.Growth.{one_current}
use Rattle.desk_areas.proofs.Pairs.{gate_signs_text, gate_outside, text_stays}
use Rattle.key_desk.specs.declared.desk.Desk.{Desk}
use Rattle.key_desk.specs.Desk.{count_at, slot_here, HasAreas, Fits}
use Rattle.key_desk.specs.Stands.{KeepsStanding, SameKeys}
use Rattle.key_desk.specs.Spending.{IsLowestFree, IsSpendable, IsTexted, OpensTexted, HasSpent, SpendsTexted}
use Rattle.key_desk.proofs.Counts.{count_here, key_here, own_here, sized_here, free_isnt_spent, other_than}
use Rattle.key_desk.proofs.KeptKeys.{stays_keys, slot_keys}
use Rattle.key_desk.proofs.Standing.{standing}
use Rattle.key_desk.proofs.Steps.{place_here, whole_on, areas_kept_early, signed_by, fits_stays}

-- ---- what a desk's states imply for an image

module _ {D : Type 0} (g : Ghosts D) (desk : Desk) (disk : D) (fits : Fits g desk disk) (opened : desk.is_open ≡ true)
    (either : (s : ℕ) → (count_at desk s ≡ TheVariants.Free) ⊎ (count_at desk s ≡ TheVariants.Spent)) (i : List ℕ) (now : Image g disk i) where
  -- a slot that counts as free has a closed gate
  free_shut : (q : ℕ) → q < slots_of desk.key.kind → count_at desk q ≡ TheVariants.Free → gate_of i (slot_here desk q) ≡ 0
  free_shut q lt free = fits.others opened i now (slot_here desk q) (own_here desk q lt) (λ is. free_isnt_spent (sym free ∙ sym (count_here desk (slot_here desk q) refl) ∙ is))

  -- and any other slot has an open one
  spent_open : (q : ℕ) → q < slots_of desk.key.kind → count_at desk q ≢ TheVariants.Free → 0 < gate_of i (slot_here desk q)
  spent_open q lt isnt = elim (either q) [
    | inl free ↦ absurd (isnt free)
    | inr spent ↦ (fits.spent opened i i now now (slot_here desk q) (own_here desk q lt) (count_here desk (slot_here desk q) refl ∙ spent)).open_gate
  ]

  -- the slots of the current area
  slots_here : slots_at i (base_of i (length desk.earlier)) ≡ slots_of desk.key.kind
  slots_here =
      let key = (fits.areas i now).keys (length desk.earlier) (omega arith) in
      ap (λ (k : ℕ). slots_of k) key.kind ∙ ap (λ (k : KeyOf). slots_of k.kind) (key_here desk (length desk.earlier) refl)

  -- the slot that a desk takes next is the lowest free one
  pub lowest_free : (q : ℕ) → q + 1 < slots_of desk.key.kind → count_at desk q ≡ TheVariants.Free → ((s : ℕ) → s < q → count_at desk s ≢ TheVariants.Free) → IsLowestFree i (slot_here desk q)
  lowest_free q early free lowest = record {
    current = (fits.areas i now).current;
    early = omega (arith, early, slots_here);
    shut = free_shut q (omega (arith, early)) free;
    lowest = λ s lt. spent_open s (omega (arith, early, lt)) (lowest s lt);
  }

  -- if no slot counts as free, no slot is free
  pub none_free : ((s : ℕ) → s + 1 < length desk.counts → count_at desk s ≢ TheVariants.Free) → (slot : SlotId) → IsLowestFree i slot → ⊥
  none_free none slot is =
      let here : slot.area ≡ length desk.earlier = one_current i slot.area (length desk.earlier) is.current (fits.areas i now).current in
      let early : slot.number + 1 < slots_of desk.key.kind = omega (arith, subst (λ (a : ℕ). slot.number + 1 < slots_at i (base_of i a)) here is.early, slots_here) in
      let slot_is : slot ≡ slot_here desk slot.number = slot_eq slot (slot_here desk slot.number) here refl in
      let shut : gate_of i (slot_here desk slot.number) ≡ 0 = ap (λ (s : SlotId). gate_of i s) (sym slot_is) ∙ is.shut in
      let gate = spent_open slot.number (omega (arith, early)) (none slot.number (omega (arith, early, sized_here desk fits.sound))) in
      omega (arith, shut, gate)

  -- the lowest free slot is the one that a desk takes next
  pub first_is : (q : ℕ) → q + 1 < slots_of desk.key.kind → count_at desk q ≡ TheVariants.Free → ((s : ℕ) → s < q → count_at desk s ≢ TheVariants.Free) → (slot : SlotId) → IsLowestFree i slot → slot ≡ slot_here desk q
  first_is q early free lowest slot is =
      let here : slot.area ≡ length desk.earlier = one_current i slot.area (length desk.earlier) is.current (fits.areas i now).current in
      let slot_is : slot ≡ slot_here desk slot.number = slot_eq slot (slot_here desk slot.number) here refl in
      slot_eq slot (slot_here desk q) here (elim (cases_lt slot.number q) [
        | inl below ↦
            let shut : gate_of i (slot_here desk slot.number) ≡ 0 = ap (λ (s : SlotId). gate_of i s) (sym slot_is) ∙ is.shut in
            let gate = spent_open slot.number (omega (arith, early, below)) (lowest slot.number below) in
            absurd (omega (arith, shut, gate))
        | inr not_below ↦ elim (cases_lt q slot.number) [
          | inl above ↦
              let gate : 0 < gate_of i (slot_here desk q) = subst (λ (a : ℕ). 0 < gate_of i (record { area = a; number = q })) here (is.lowest q above) in
              let shut = free_shut q (omega (arith, early)) free in
              absurd (omega (arith, shut, gate))
          | inr not_above ↦ omega arith
        ]
      ])

-- the value read from a slot, in each image of a settled disk
pub text_everywhere : {D : Type 0} (g : Ghosts D) (desk : Desk) (old disk : D) → Fits g desk old → AtEachMoment g old disk Stays → IsSettled g old → ((c : List ℕ) → g.content disk ≡ Some c → Image g disk c) → ((i : List ℕ) → Image g disk i → (c : List ℕ) × (g.content disk ≡ Some c))
    → (q place : ℕ) (text : List ℕ) → place ≡ place_in desk.base q → ForSome (g.content disk) (λ c. text_at c place ≡ text) → EachImage g disk (λ i. text_of i (slot_here desk q) ≡ text)
text_everywhere g desk old disk fits stays settled reads tells q place text place_is read i now =
    let c = tells i now in
    let was : (x : List ℕ) → Image g disk x → Image g old x = λ x h. let e = at_end g old disk Stays stays x h in subst (λ (y : List ℕ). Image g old y) (sym e.2) e.1 in
    let same : i ≡ c.0 = settled i c.0 (was i now) (was c.0 (reads c.0 c.1)) in
    let areas = fits.areas c.0 (was c.0 (reads c.0 c.1)) in
    ap (λ (x : List ℕ). text_of x (slot_here desk q)) same ∙ ap (λ (p : ℕ). text_at c.0 p) (place_here desk c.0 q areas ∙ sym place_is) ∙ read c.0 c.1

-- ---- the slot that is examined

module _ {D : Type 0} (g : Ghosts D) (desk : Desk) (old : D) (fits : Fits g desk old) (counts : List Count) (counts_is : counts ≡ desk.counts) (q : ℕ)
    (some : (slice_index_or counts q TheVariants.Spent ≡ TheVariants.Free) × (q + 1 < length counts)) where
  free_here : count_at desk q ≡ TheVariants.Free
  free_here = ap (λ (l : List Count). slice_index_or l q TheVariants.Spent) (sym counts_is) ∙ some.0

  early_here : q + 1 < slots_of desk.key.kind
  early_here = omega (arith, some.1, ap (λ (l : List Count). length l) counts_is, sized_here desk fits.sound)

  -- the whole slot lies within the content read
  pub room_here : ((c : List ℕ) → g.content old ≡ Some c → Image g old c) → (place : ℕ) → place ≡ place_in desk.base q → ForSome (g.content old) (λ c. place + 128 ≤ length c)
  room_here reads place place_is x told =
      let areas = fits.areas x (reads x told) in
      omega (arith, whole_on desk x (slot_here desk q) areas (own_here desk q (omega (arith, early_here))), place_here desk x q areas, place_is)

  module _ (disk : D) (stays : AtEachMoment g old disk Stays) (opened : desk.is_open ≡ true) (either : (s : ℕ) → (count_at desk s ≡ TheVariants.Free) ⊎ (count_at desk s ≡ TheVariants.Spent)) (settled : IsSettled g old)
      (reads : (c : List ℕ) → g.content disk ≡ Some c → Image g disk c) (tells : (i : List ℕ) → Image g disk i → (c : List ℕ) × (g.content disk ≡ Some c))
      (lowest : (k : ℕ) → k < q → slice_index_or counts k TheVariants.Spent ≢ TheVariants.Free) (place : ℕ) (place_is : place ≡ place_in desk.base q) (text : List ℕ) (read : ForSome (g.content disk) (λ c. text_at c place ≡ text)) where
    fits_now : Fits g desk disk
    fits_now = fits_stays g desk old disk fits stays

    lowest_here : (s : ℕ) → s < q → count_at desk s ≢ TheVariants.Free
    lowest_here s lt = subst (λ (l : List Count). slice_index_or l s TheVariants.Spent ≢ TheVariants.Free) counts_is (lowest s lt)

    text_here : EachImage g disk (λ i. text_of i (slot_here desk q) ≡ text)
    text_here = text_everywhere g desk old disk fits stays settled reads tells q place text place_is read

    pub early_is : q + 1 < slots_of desk.key.kind
    early_is = early_here

    -- a text that the slot may have signed
    pub is_texted : IsSpendable text → EachImage g disk (λ i. IsTexted i (slot_here desk q))
    is_texted spendable i now = record {
      free = lowest_free g desk disk fits_now opened either i now q early_here free_here lowest_here;
      text = subst IsSpendable (sym (text_here i now)) spendable;
    }

    -- and a text that it cannot have signed
    pub not_texted : (IsSpendable text → ⊥) → EachImage g disk (λ i. (slot : SlotId) → IsTexted i slot → ⊥)
    not_texted isnt i now slot is =
        let here : slot ≡ slot_here desk q = first_is g desk disk fits_now opened either i now q early_here free_here lowest_here slot is.free in
        isnt (subst IsSpendable (ap (λ (s : SlotId). text_of i s) here ∙ text_here i now) is.text)

-- if no slot counts as free
pub none_texted : {D : Type 0} (g : Ghosts D) (desk : Desk) (disk : D) → Fits g desk disk → desk.is_open ≡ true → ((s : ℕ) → (count_at desk s ≡ TheVariants.Free) ⊎ (count_at desk s ≡ TheVariants.Spent)) → (counts : List Count) → counts ≡ desk.counts
    → ((k : ℕ) → k + 1 < length counts → slice_index_or counts k TheVariants.Spent ≢ TheVariants.Free) → EachImage g disk (λ i. (slot : SlotId) → IsTexted i slot → ⊥)
none_texted g desk disk fits opened either counts counts_is none i now slot is =
    none_free g desk disk fits opened either i now (subst (λ (l : List Count). (k : ℕ) → k + 1 < length l → slice_index_or l k TheVariants.Spent ≢ TheVariants.Free) counts_is none) slot is.free

-- ---- the opened gate

module _ {D : Type 0} (g : Ghosts D) (desk : Desk) (before after : D) (q : ℕ) (fits : Fits g desk before) (early : q + 1 < slots_of desk.key.kind)
    (texted : EachImage g before (λ i. IsTexted i (slot_here desk q))) (m : AtEachMoment g before after (AgreesOutside (place_in desk.base q) (place_in desk.base q + 1))) where
  there : (d : List ℕ) → Image g before d → slots_at d (base_of d (length desk.earlier)) ≡ slots_of desk.key.kind
  there d now =
      let key = (fits.areas d now).keys (length desk.earlier) (omega arith) in
      ap (λ (k : ℕ). slots_of k) key.kind ∙ ap (λ (k : KeyOf). slots_of k.kind) (key_here desk (length desk.earlier) refl)

  here : (d i : List ℕ) → Image g before d → AgreesOutside (place_in desk.base q) (place_in desk.base q + 1) d i → AgreesOutside (place_of d (slot_here desk q)) (place_of d (slot_here desk q) + 1) d i
  here d i now h = subst (λ (p : ℕ). AgreesOutside p (p + 1) d i) (sym (place_here desk d q (fits.areas d now))) h

  known : (d : List ℕ) → Image g before d → q < slots_at d (base_of d (length desk.earlier))
  known d now = omega (arith, early, there d now)

  pub opens_moments : AtEachMoment g before after OpensTexted
  opens_moments = weaker g before after _ OpensTexted m (λ d i now h. record {
    slot = slot_here desk q;
    texted = texted d now;
    alone = here d i now h;
    signs = (gate_signs_text (slot_here desk q) (text_of d (slot_here desk q)) d i (known d now) (texted d now).free.shut refl (here d i now h) (omega (arith, early, there d now))).1;
  })

  pub opens_spent : EachImage g after (λ i. gate_at i (place_in desk.base q) ≡ 1) → EachImage g after (λ i. (d : List ℕ) × Image g before d × HasSpent q d i)
  opens_spent gate i now =
      let e = at_end g before after _ m i now in
      let d = e.0 in
      let areas = fits.areas d e.1 in
      let h = here d i e.1 e.2 in
      let outside : OutsideSlot (slot_here desk q) d i = gate_outside (slot_here desk q) (text_of d (slot_here desk q)) d i (known d e.1) (texted d e.1).free.shut refl h in
      let text : text_of i (slot_here desk q) ≡ text_of d (slot_here desk q) = text_stays (slot_here desk q) (text_of d (slot_here desk q)) d i (known d e.1) (texted d e.1).free.shut refl h in
      let areas_i = areas_kept_early desk q d i areas early outside (λ open_gate link. (texted d e.1).text.plain (subst IsLink text link)) in
      let gate_is : gate_of i (slot_here desk q) ≡ 1 = ap (λ (p : ℕ). gate_at i p) (place_here desk i q areas_i) ∙ gate i now in (
        d,
        e.1,
        record {
          slot = slot_here desk q;
          number_is = refl;
          texted = texted d e.1;
          signed = signed_by desk i (slot_here desk q) (text_of d (slot_here desk q)) areas_i (own_here desk q (omega (arith, early))) (omega (arith, gate_is)) text;
        },
      )

-- ---- the whole call

-- steps that open a gate over a text keep the signed pairs and the keys
pub spends_by : {D : Type 0} (g : Ghosts D) (old new : D) → AtEachMoment g old new (λ d i. (i ≡ d) ⊎ OpensTexted d i) → SpendsTexted g old new
spends_by g old new moments = record {
  moments = moments;
  stands = standing g old new (λ d i. (i ≡ d) ⊎ OpensTexted d i) moments
      (λ d i h s t signed. elim h [ inl is ↦ subst (λ (x : List ℕ). IsSigned x s t) (sym is) signed | inr opens ↦ opens.signs.keeps s t signed ]);
  keys = weaker g old new (λ d i. (i ≡ d) ⊎ OpensTexted d i) SameKeys moments (λ d i now h. elim h [
    | inl is ↦ stays_keys d i is
    | inr opens ↦
        let early = opens.texted.free.early in
        let known : opens.slot.number < slots_at d (base_of d opens.slot.area) = omega (arith, early) in
        slot_keys opens.slot d i (gate_outside opens.slot (text_of d opens.slot) d i known opens.texted.free.shut refl opens.alone) known
  ]);
}

-- if nothing changes
pub spends_nothing : {D : Type 0} (g : Ghosts D) (old new : D) → AtEachMoment g old new Stays → SpendsTexted g old new
spends_nothing g old new stays = spends_by g old new (weaker g old new Stays (λ d i. (i ≡ d) ⊎ OpensTexted d i) stays (λ d i now is. inl is))

-- first a look, then the gate
pub spends_after : {D : Type 0} (g : Ghosts D) (old mid new : D) → AtEachMoment g old mid Stays → AtEachMoment g mid new OpensTexted → SpendsTexted g old new
spends_after g old mid new stays opens = spends_by g old new (continued g old mid new Stays OpensTexted (λ d i. (i ≡ d) ⊎ OpensTexted d i) stays opens
    (λ d i now is. inl is)
    (λ d e i now_d now_e is h. inr (subst (λ (x : List ℕ). OpensTexted x i) is h)))

pub stays_twice : {D : Type 0} (g : Ghosts D) (old mid new : D) → AtEachMoment g old mid Stays → AtEachMoment g mid new Stays → AtEachMoment g old new Stays
stays_twice g old mid new first second = continued g old mid new Stays Stays Stays first second (λ d i now is. is) (λ d e i now_d now_e is h. h ∙ is)

-- after a sync there is one image, which was read before
pub one_settled : {D : Type 0} (g : Ghosts D) (disk : D) (told : Option (List ℕ)) → EachImage g disk (λ i. told ≡ Some i) → IsSettled g disk
one_settled g disk told one i j now_i now_j = let both = sym (one i now_i) ∙ one j now_j in cc

-- the text that was spent was in the content read
pub spent_of_read : {D : Type 0} (g : Ghosts D) (mid disk new : D) (told : Option (List ℕ)) (number : ℕ) → EachImage g mid (λ i. told ≡ Some i) → AtEachMoment g mid disk Stays → EachImage g new (λ i. (d : List ℕ) × Image g disk d × HasSpent number d i)
    → EachImage g new (λ i. (c : List ℕ) × (told ≡ Some c) × HasSpent number c i)
spent_of_read g mid disk new told number one stays spent i now =
    let d = spent i now in
    let e = at_end g mid disk Stays stays d.0 d.1 in
    (d.0, one d.0 (subst (λ (x : List ℕ). Image g mid x) (sym e.2) e.1), d.2)
