-- The four writes of a succession taken together, at each moment.
use Rattle.std.proofs.Common.{◌≡◌, ◌≢◌, ◌⊎◌, ℕ, suc, ◌+◌, ◌-◌, ◌<◌, ◌≤◌, true, List, length, arith, inl, inr, refl, sym, ◌∙◌, ap, subst}
use Rattle.std.proofs.lemmas.Bool.{cases_lt}
use Rattle.road_io.specs.declared.disk.Disk.{Ghosts}
use Rattle.road_io.specs.Disk.{Torn}
use Rattle.road_io.specs.Moments.{Image, EachImage, AtEachMoment}
use Rattle.road_io.proofs.MomentLaws.{weaker, continued, at_end}
use Rattle.lms_tree.specs.Signatures.{KeyOf, public_key}
use Rattle.lms_tree.specs.Links.{IsLink, link_text}
use Rattle.key_desk.specs.declared.desk.Desk.{Desk}
use Rattle.desk_areas.specs.declared.area.Count.TheVariants
use Rattle.desk_areas.specs.Layout.{SlotId, slots_of, place_in, place_of, slots_at, base_of, gate_at, text_at, gate_of, text_of, IsSigned, AgreesOutside, OutsideSlot, SameSigned, SignsAtMost, SameFront}
use Rattle.desk_areas.specs.Blank.{IsBlankArea}
use Rattle.key_desk.specs.Desk.{count_of, slot_here, key_of, IsSlotOf, HasAreas, SameSpent, Fits}
use Rattle.key_desk.specs.Succession.{last_number, next_desk, CanSucceed, HasKeys}
use Rattle.desk_areas.specs.Settled.{IsSettled}
use Rattle.desk_areas.proofs.Areas.{slot_cases, bases, kinds, secrets}
use Rattle.key_desk.proofs.Counts.{own_here, count_here, free_isnt_spent}
use Rattle.key_desk.proofs.Steps.{place_here, known_on}
use Rattle.desk_areas.proofs.Growth.{torn_front, outside_front}
use Rattle.key_desk.proofs.Successors

-- two changes after a prefix, one after the other
front_twice : (end : ℕ) (d e i : List ℕ) → SameFront end d e → SameFront end e i → SameFront end d i
front_twice end d e i h k = record { long = h.long; longer = k.longer; same = λ n lt. k.same n lt ∙ h.same n lt }

same_signed_twice : (d e i : List ℕ) → SameSigned d e → SameSigned e i → SameSigned d i
same_signed_twice d e i h k = record { keeps = λ s t signed. k.keeps s t (h.keeps s t signed); adds_none = λ s t signed. h.adds_none s t (k.adds_none s t signed) }

pub signs_none : (slot : SlotId) (text d i : List ℕ) → SameSigned d i → SignsAtMost slot text d i
signs_none slot text d i h = record { keeps = h.keeps; adds = λ s t signed. inl (h.adds_none s t signed) }

signs_later : (slot : SlotId) (text d e i : List ℕ) → SameSigned d e → SignsAtMost slot text e i → SignsAtMost slot text d i
signs_later slot text d e i h k = record {
  keeps = λ s t signed. k.keeps s t (h.keeps s t signed);
  adds = λ s t signed. elim (k.adds s t signed) [ inl was ↦ inl (h.adds_none s t was) | inr new ↦ inr new ];
}

module _ {D : Type 0} (g : Ghosts D) (desk : Desk) (key : KeyOf) (old : D) (fits : Fits g desk old) (can : CanSucceed desk key) where
  -- the slot that signs the key, the key's link text, and the base of the key's area
  abbrev last : SlotId
  last = slot_here desk (last_number desk)

  abbrev link : List ℕ
  link = link_text (public_key key)

  abbrev end : ℕ
  end = place_in desk.base (slots_of desk.key.kind)

  last_own : IsSlotOf desk (slot_here desk (last_number desk))
  last_own = own_here desk (last_number desk) (omega (arith, fits.sound.known))

  shut_old : (d : List ℕ) → Image g old d → gate_of d (slot_here desk (last_number desk)) ≡ 0
  shut_old d now = fits.others can.opened d now (slot_here desk (last_number desk)) last_own (λ is. can.free (sym (count_here desk (slot_here desk (last_number desk)) refl) ∙ is))

  -- ---- the new area

  pub cleared : (mid : D) (n : ℕ) → AtEachMoment g old mid (Torn (place_in desk.base (slots_of desk.key.kind)) n) → AtEachMoment g old mid (SameFront (place_in desk.base (slots_of desk.key.kind)))
  cleared mid n m = weaker g old mid _ (SameFront (place_in desk.base (slots_of desk.key.kind))) m
      (λ d i now h. torn_front _ _ n d i (omega arith) (Successors.long_on desk d (fits.areas d now)) h)

  pub blocked : (mid new : D) (from to : ℕ) → place_in desk.base (slots_of desk.key.kind) ≤ from → AtEachMoment g old mid (SameFront (place_in desk.base (slots_of desk.key.kind))) → AtEachMoment g mid new (AgreesOutside from to) → AtEachMoment g old new (SameFront (place_in desk.base (slots_of desk.key.kind)))
  blocked mid new from to le m k = continued g old mid new _ _ (SameFront (place_in desk.base (slots_of desk.key.kind))) m k
      (λ d i now h. h)
      (λ d e i now_d now_e h j. front_twice _ d e i h (outside_front _ from to e i le h.longer j))

  pub front_moments : (new : D) → AtEachMoment g old new (SameFront (place_in desk.base (slots_of desk.key.kind))) → AtEachMoment g old new SameSigned
  front_moments new m = weaker g old new _ SameSigned m (λ d i now h. Successors.front_same desk d i (fits.areas d now) h)

  -- the blocks of the desk's keys are unchanged
  pub front_keys : (new : D) → AtEachMoment g old new (SameFront (place_in desk.base (slots_of desk.key.kind))) → AtEachMoment g old new (λ d i. HasKeys desk i)
  front_keys new m = weaker g old new _ (λ d i. HasKeys desk i) m (λ d i now h. let areas = Successors.front_areas desk d i (fits.areas d now) h in areas.keys)

  -- the known facts about an image once the area is added
  pub record Added (d e : List ℕ) : Type 0 where
    pub areas : HasAreas desk e
    pub shut : gate_of e (slot_here desk (last_number desk)) ≡ 0
    pub slots : (s : SlotId) → IsSlotOf desk s → s ≢ slot_here desk (last_number desk) → (gate_of e s ≡ gate_of d s) × (text_of e s ≡ text_of d s)

  added : (d e : List ℕ) → Image g old d → SameFront (place_in desk.base (slots_of desk.key.kind)) d e → Added d e
  added d e now h =
      let areas = fits.areas d now in
      let here = Successors.front_slot desk d e areas h (slot_here desk (last_number desk)) last_own in
      record {
        areas = Successors.front_areas desk d e areas h;
        shut = here.0 ∙ shut_old d now;
        slots = λ s own ne. Successors.front_slot desk d e areas h s own;
      }

  -- ---- the link text

  abbrev pub TextChange : List ℕ → List ℕ → Type 0
  TextChange = AgreesOutside (place_in desk.base (last_number desk) + 1) (place_in desk.base (last_number desk) + 128)

  pub text_moments : (mid new : D) → AtEachMoment g old mid (SameFront (place_in desk.base (slots_of desk.key.kind))) → AtEachMoment g mid new (AgreesOutside (place_in desk.base (last_number desk) + 1) (place_in desk.base (last_number desk) + 128)) → AtEachMoment g old new SameSigned
  text_moments mid new m k = continued g old mid new _ _ SameSigned m k
      (λ d i now h. Successors.front_same desk d i (fits.areas d now) h)
      (λ d e i now_d now_e h j.
      let a = added d e now_d h in
      same_signed_twice d e i (Successors.front_same desk d e (fits.areas d now_d) h) (Successors.text_same desk fits.sound.known e i a.areas a.shut j))

  pub text_keys : (mid new : D) → AtEachMoment g old mid (SameFront (place_in desk.base (slots_of desk.key.kind))) → AtEachMoment g mid new (AgreesOutside (place_in desk.base (last_number desk) + 1) (place_in desk.base (last_number desk) + 128)) → AtEachMoment g old new (λ d i. HasKeys desk i)
  text_keys mid new m k = continued g old mid new _ _ (λ d i. HasKeys desk i) m k
      (λ d i now h. let areas = Successors.front_areas desk d i (fits.areas d now) h in areas.keys)
      (λ d e i now_d now_e h j.
      let a = added d e now_d h in
      let areas = Successors.text_areas desk fits.sound.known e i a.areas a.shut j in
      areas.keys)

  -- the known facts about each image once the text is written
  pub record Texted (i : List ℕ) : Type 0 where
    pub areas : HasAreas desk i
    pub shut : gate_of i (slot_here desk (last_number desk)) ≡ 0
    pub from : List ℕ
    pub was : Image g old from
    pub slots : (s : SlotId) → IsSlotOf desk s → s ≢ slot_here desk (last_number desk) → (gate_of i s ≡ gate_of from s) × (text_of i s ≡ text_of from s)

  pub texted : (mid new : D) → AtEachMoment g old mid (SameFront (place_in desk.base (slots_of desk.key.kind))) → AtEachMoment g mid new (AgreesOutside (place_in desk.base (last_number desk) + 1) (place_in desk.base (last_number desk) + 128)) → (i : List ℕ) → Image g new i → Texted i
  texted mid new m k i now =
      let e = at_end g mid new _ k i now in
      let d = at_end g old mid _ m e.0 e.1 in
      let a = added d.0 e.0 d.1 d.2 in
      record {
        areas = Successors.text_areas desk fits.sound.known e.0 i a.areas a.shut e.2;
        shut = Successors.text_shut desk fits.sound.known e.0 i a.areas a.shut e.2;
        from = d.0;
        was = d.1;
        slots = λ s own ne.
            let first = a.slots s own ne in
            let second = Successors.text_slot desk fits.sound.known e.0 i a.areas a.shut e.2 s own ne in
            (second.0 ∙ first.0, second.1 ∙ first.1);
      }

  -- the new area remains blank while the text is written
  pub blank_stays : (mid new : D) → EachImage g mid (IsBlankArea key (place_in desk.base (slots_of desk.key.kind))) → AtEachMoment g mid new (AgreesOutside (place_in desk.base (last_number desk) + 1) (place_in desk.base (last_number desk) + 128))
      → EachImage g new (IsBlankArea key (place_in desk.base (slots_of desk.key.kind)))
  blank_stays mid new blank k i now =
      let e = at_end g mid new _ k i now in
      Successors.blank_apart key _ _ _ e.0 i (omega (arith, fits.sound.known)) e.2 (blank e.0 e.1)

  -- the text, at the slot's offset
  text_here : (i : List ℕ) → HasAreas desk i → text_at i (place_in desk.base (last_number desk)) ≡ link_text (public_key key) → text_of i (slot_here desk (last_number desk)) ≡ link_text (public_key key)
  text_here i areas is = ap (λ (p : ℕ). text_at i p) (place_here desk i (last_number desk) areas) ∙ is

  -- ---- the gate

  -- the gate is not part of a key block
  gate_blocks : (e i : List ℕ) → HasAreas desk e → AgreesOutside (place_in desk.base (last_number desk)) (place_in desk.base (last_number desk) + 1) e i → HasKeys desk i
  gate_blocks e i areas h area le =
      let slot = slot_here desk (last_number desk) in
      let at : place_of e slot ≡ place_in desk.base (last_number desk) = place_here desk e (last_number desk) areas in
      let out : OutsideSlot slot e i = record {
        long = h.long;
        same = λ n apart. h.same n (elim apart [ inl before ↦ inl (omega (arith, before, at)) | inr behind ↦ inr (omega (arith, behind, at)) ]);
      } in
      let known : slot.number < slots_at e (base_of e slot.area) = known_on desk e slot areas last_own in
      let was = areas.keys area le in
      record {
        kind = kinds slot e i out known area ∙ was.kind;
        secret = secrets slot e i out known area ∙ was.secret;
        within = omega (arith, was.within, out.long, bases slot e i out known area);
      }

  pub gate_keys : (mid new : D) → AtEachMoment g old mid (λ d i. HasKeys desk i) → ((i : List ℕ) → Image g mid i → Texted i) → AtEachMoment g mid new (AgreesOutside (place_in desk.base (last_number desk)) (place_in desk.base (last_number desk) + 1)) → AtEachMoment g old new (λ d i. HasKeys desk i)
  gate_keys mid new m ready k = continued g old mid new _ _ (λ d i. HasKeys desk i) m k (λ d i now h. h)
      (λ d e i now_d now_e h j. let r = ready e now_e in gate_blocks e i r.areas j)

  module _ (mid new : D) (before : AtEachMoment g old mid SameSigned) (ready : (i : List ℕ) → Image g mid i → Texted i) (blank : EachImage g mid (IsBlankArea key (place_in desk.base (slots_of desk.key.kind))))
      (stored : EachImage g mid (λ i. text_at i (place_in desk.base (last_number desk)) ≡ link_text (public_key key)))
      (k : AtEachMoment g mid new (AgreesOutside (place_in desk.base (last_number desk)) (place_in desk.base (last_number desk) + 1))) where
    pub gate_moments : AtEachMoment g old new (SignsAtMost (slot_here desk (last_number desk)) (link_text (public_key key)))
    gate_moments = continued g old mid new _ _ (SignsAtMost (slot_here desk (last_number desk)) (link_text (public_key key))) before k
        (λ d i now h. signs_none _ _ d i h)
        (λ d e i now_d now_e h j.
        let r = ready e now_e in
        signs_later _ _ d e i h (Successors.gate_signs desk key fits.sound.known can e i r.areas r.shut (text_here e r.areas (stored e now_e)) (blank e now_e) j))

    module _ (is_link : IsLink (link_text (public_key key))) (gate : EachImage g new (λ i. gate_at i (place_in desk.base (last_number desk)) ≡ 1)) where
      some_gate : (i : List ℕ) → Image g new i → 0 < gate_at i (place_in desk.base (last_number desk))
      some_gate i now = let is = gate i now in omega (arith, is)

      pub raised_areas : EachImage g new (HasAreas (next_desk desk key))
      raised_areas i now =
          let e = at_end g mid new _ k i now in
          let r = ready e.0 e.1 in
          Successors.next_areas desk key fits.sound.known can e.0 i r.areas r.shut (text_here e.0 r.areas (stored e.0 e.1)) (blank e.0 e.1) e.2 (some_gate i now) is_link

      pub raised_signed : EachImage g new (λ i. IsSigned i (slot_here desk (last_number desk)) (link_text (public_key key)))
      raised_signed i now =
          let e = at_end g mid new _ k i now in
          let r = ready e.0 e.1 in
          Successors.gate_spent desk key fits.sound.known can e.0 i r.areas r.shut (text_here e.0 r.areas (stored e.0 e.1)) (blank e.0 e.1) e.2 (some_gate i now) is_link

      -- which gates are open
      gates_are : (i : List ℕ) → Image g new i → (s : SlotId) → IsSlotOf (next_desk desk key) s → ((count_of (next_desk desk key) s ≡ TheVariants.Spent) × (0 < gate_of i s)) ⊎ ((count_of (next_desk desk key) s ≢ TheVariants.Spent) × (gate_of i s ≡ 0))
      gates_are i now s own =
          let e = at_end g mid new _ k i now in
          let r = ready e.0 e.1 in
          elim (cases_lt (length desk.earlier) s.area) [
            | inl later ↦
                let is : s.area ≡ suc (length desk.earlier) = omega (arith, own.area, Successors.one_more desk key, later) in
                let lt : s.number < slots_of key.kind = subst (λ (x : KeyOf). s.number < slots_of x.kind) (Successors.key_next desk key s.area is) own.known in
                let free = Successors.next_free desk key s is lt in
                inr (
                  (λ spent. free_isnt_spent (sym free ∙ spent)),
                  Successors.shut_at desk key fits.sound.known can e.0 i r.areas r.shut (text_here e.0 r.areas (stored e.0 e.1)) (blank e.0 e.1) e.2 (some_gate i now) s is lt,
                )
            | inr before ↦ elim (slot_cases s (slot_here desk (last_number desk))) [
              | inl here ↦
                  inl (
                    Successors.next_spent desk key fits.sound s here,
                    subst (λ (x : SlotId). 0 < gate_of i x) (sym here) (Successors.next_gate desk key fits.sound.known can e.0 i r.areas r.shut (text_here e.0 r.areas (stored e.0 e.1)) (blank e.0 e.1) e.2 (some_gate i now)),
                  )
              | inr ne ↦
                  let own_was : IsSlotOf desk s = record { area = before; known = subst (λ (x : KeyOf). s.number < slots_of x.kind) (Successors.key_before desk key s.area before) own.known } in
                  let counts = Successors.next_counts desk key fits.sound can s before ne in
                  let last_step = Successors.gate_slot desk key fits.sound.known can e.0 i r.areas r.shut (text_here e.0 r.areas (stored e.0 e.1)) (blank e.0 e.1) e.2 (some_gate i now) s own_was ne in
                  let first_steps = r.slots s own_was ne in
                  elim (Successors.spent_or_not (count_of desk s)) [
                    | inl spent ↦
                        let was = fits.spent can.opened r.from r.from r.was r.was s own_was spent in
                        let open_gate : 0 < gate_of i s = omega (arith, was.open_gate, last_step.0, first_steps.0) in
                        inl (counts ∙ spent, open_gate)
                    | inr isnt ↦
                        inr (
                          (λ spent. isnt (sym counts ∙ spent)),
                          last_step.0 ∙ first_steps.0 ∙ fits.others can.opened r.from r.was s own_was isnt,
                        )
                  ]
            ]
          ]

      pub raised_fits : IsSettled g new → Fits g (next_desk desk key) new
      raised_fits settled = record {
        sound = Successors.sound_next desk key fits.sound can;
        areas = raised_areas;
        spent = λ opened i j now_i now_j s own is. elim (gates_are i now_i s own) [
          | inl spent ↦ let same = settled i j now_i now_j in record { open_gate = spent.1; gate = ap (λ (x : List ℕ). gate_of x s) same; text = ap (λ (x : List ℕ). text_of x s) same }
          | inr isnt ↦ absurd (isnt.0 is)
        ];
        others = λ opened i now s own isnt. elim (gates_are i now s own) [
          | inl spent ↦ absurd (isnt spent.0)
          | inr shut ↦ shut.1
        ];
      }
