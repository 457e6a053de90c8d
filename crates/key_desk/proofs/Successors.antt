-- The effect of the steps of a succession on the areas.
use Rattle.std.proofs.Common.{◌≡◌, ◌≢◌, ◌⊎◌, ℕ, zero, suc, ◌+◌, ◌-◌, ◌*◌, ◌<◌, ◌≤◌, true, List, [], ◌∷◌, ◌++◌, length, map, get_or, set, replicate, arith, inl, inr, refl, sym, ◌∙◌, ap, subst, length-set, length-append, get_or-set_same}
use Rattle.std.proofs.lemmas.Bool.{cases_lt, cases_eq}
use Rattle.std.proofs.lemmas.List.{get_or_past, get_or_default, get_or_append_left, get_or-replicate, length-map, map-append, length-replicate}
use Rattle.std.proofs.Math.Seq.{get_or-append_seam}
use Rattle.road_io.specs.declared.disk.Disk.{Ghosts}
use Rattle.road_io.specs.Moments.{Image, EachImage}
use Rattle.lms_tree.specs.Signatures.{KeyOf, public_key}
use Rattle.lms_tree.specs.Links.{IsLink, link_text}
use Rattle.key_desk.specs.declared.desk.Desk.{Desk}
use Rattle.desk_areas.specs.declared.area.Count.{Count}
use Rattle.desk_areas.specs.declared.area.Count.TheVariants
use Rattle.desk_areas.specs.Area.{AreaView}
use Rattle.desk_areas.specs.Layout.{SlotId, slots_of, slots_at, place_in, base_of, place_of, gate_at, text_at, gate_of, text_of, kind_at, secret_at, last_slot, IsWithin, HasLink, IsAreaOpen, IsCurrent, IsSigned, AgreesOutside, OutsideSlot, SameFront, SameSigned, SignsAtMost}
use Rattle.desk_areas.specs.Blank.{HasKey, IsBlankArea}
use Rattle.key_desk.specs.Desk.{key_of, counts_of, count_of, count_at, slot_here, IsSlotOf, IsSound, HasAreas, SameSpent, Fits}
use Rattle.key_desk.specs.Succession.{last_number, next_desk, CanSucceed}
use Rattle.desk_areas.proofs.Areas
use Rattle.desk_areas.proofs.Growth
use Rattle.desk_areas.proofs.Frame.{Apart, range_apart, gate_apart, kind_kept, text_behind}
use Rattle.desk_areas.proofs.Pairs.{text_signs_nothing, gate_signs_link}
use Rattle.key_desk.proofs.Counts.{key_here, counts_here, count_here, own_here, other_counts, sized_here}
use Rattle.key_desk.proofs.Steps.{known_on, place_here, whole_on, areas_kept, linked_kept, plain_kept}

-- ---- the areas of the next desk

module _ {T : Type 0} (f : AreaView → T) (earlier : List AreaView) (x : AreaView) (d : T) where
  joined : map f (earlier ++ x ∷ []) ≡ map f earlier ++ f x ∷ []
  joined = map-append f earlier (x ∷ [])

  at_before : (e : T) (area : ℕ) → area < length earlier → get_or (map f (earlier ++ x ∷ [])) area d ≡ get_or (map f earlier) area e
  at_before e area lt =
      let there : area < length (map f earlier) = omega (arith, lt, length-map earlier f) in
      ap (λ (l : List T). get_or l area d) joined ∙ get_or_append_left (map f earlier) (f x ∷ []) d area there ∙ get_or_default (map f earlier) area d e there

  at_seam : (area : ℕ) → area ≡ length earlier → get_or (map f (earlier ++ x ∷ [])) area d ≡ f x
  at_seam area is =
      let there : area ≡ length (map f earlier) = omega (arith, is, length-map earlier f) in
      ap (λ (l : List T). get_or l area d) joined ∙ ap (λ (n : ℕ). get_or (map f earlier ++ f x ∷ []) n d) there ∙ get_or-append_seam (map f earlier) (f x) [] d

module _ (desk : Desk) (key : KeyOf) where
  -- the slot that signs the next key
  abbrev last : SlotId
  last = slot_here desk (last_number desk)

  -- where the next area begins
  abbrev end : ℕ
  end = place_in desk.base (slots_of desk.key.kind)

  abbrev area_left : AreaView
  area_left = record { key = desk.key; counts = set desk.counts (last_number desk) TheVariants.Spent }

  pub one_more : length (next_desk desk key).earlier ≡ suc (length desk.earlier)
  one_more = let l = length-append desk.earlier (area_left ∷ []) in omega (arith, l)

  pub key_before : (area : ℕ) → area ≤ length desk.earlier → key_of (next_desk desk key) area ≡ key_of desk area
  key_before area le = elim (cases_lt area (length desk.earlier)) [
    | inl lt ↦ at_before (λ (a : AreaView). a.key) desk.earlier area_left key desk.key area lt
    | inr ge ↦
        let is : area ≡ length desk.earlier = omega arith in
        at_seam (λ (a : AreaView). a.key) desk.earlier area_left key area is ∙ sym (key_here desk area is)
  ]

  pub key_next : (area : ℕ) → area ≡ suc (length desk.earlier) → key_of (next_desk desk key) area ≡ key
  key_next area is = key_here (next_desk desk key) area (omega (arith, is, one_more))

  counts_before : (area : ℕ) → area < length desk.earlier → counts_of (next_desk desk key) area ≡ counts_of desk area
  counts_before area lt = at_before (λ (a : AreaView). a.counts) desk.earlier area_left (replicate (slots_of key.kind) TheVariants.Free) desk.counts area lt

  counts_left : (area : ℕ) → area ≡ length desk.earlier → counts_of (next_desk desk key) area ≡ set desk.counts (last_number desk) TheVariants.Spent
  counts_left area is = at_seam (λ (a : AreaView). a.counts) desk.earlier area_left (replicate (slots_of key.kind) TheVariants.Free) area is

  counts_next : (area : ℕ) → area ≡ suc (length desk.earlier) → counts_of (next_desk desk key) area ≡ replicate (slots_of key.kind) TheVariants.Free
  counts_next area is = counts_here (next_desk desk key) area (omega (arith, is, one_more))

-- how many slots the current area has, in an image
pub slots_on : (desk : Desk) (d : List ℕ) → HasAreas desk d → slots_at d (base_of d (length desk.earlier)) ≡ slots_of desk.key.kind
slots_on desk d areas =
    let here = areas.keys (length desk.earlier) (omega arith) in
    ap (λ (k : ℕ). slots_of k) here.kind ∙ ap (λ (k : KeyOf). slots_of k.kind) (key_here desk (length desk.earlier) refl)

-- where the next area begins, in an image
pub end_on : (desk : Desk) (d : List ℕ) → HasAreas desk d → base_of d (suc (length desk.earlier)) ≡ place_in desk.base (slots_of desk.key.kind)
end_on desk d areas = Areas.base_next d (length desk.earlier) ∙ ap (λ (b : ℕ). place_in b (slots_at d (base_of d (length desk.earlier)))) areas.based ∙ ap (λ (n : ℕ). place_in desk.base n) (slots_on desk d areas)

-- the last slot, in an image
pub last_on : (desk : Desk) (d : List ℕ) → HasAreas desk d → last_slot d (length desk.earlier) ≡ slot_here desk (last_number desk)
last_on desk d areas = ap (λ (n : ℕ). slot_here desk (n - 1)) (slots_on desk d areas)

-- all areas lie within the image
pub long_on : (desk : Desk) (d : List ℕ) → HasAreas desk d → place_in desk.base (slots_of desk.key.kind) ≤ length d
long_on desk d areas =
    let here = areas.keys (length desk.earlier) (omega arith) in
    subst (λ (k : KeyOf). place_in desk.base (slots_of k.kind) ≤ length d) (key_here desk (length desk.earlier) refl)
    (subst (λ (b : ℕ). place_in b (slots_of (key_of desk (length desk.earlier)).kind) ≤ length d) areas.based here.within)

-- ---- the zeros and the key block of the new area; nothing before it changes

module _ (desk : Desk) (d e : List ℕ) (areas : HasAreas desk d) (front : SameFront (place_in desk.base (slots_of desk.key.kind)) d e) where
  ends : base_of d (suc (length desk.earlier)) ≤ place_in desk.base (slots_of desk.key.kind)
  ends = omega (arith, end_on desk d areas)

  front_key : (area : ℕ) → area ≤ length desk.earlier → HasKey (key_of desk area) (base_of e area) e
  front_key area le =
      let key = areas.keys area le in
      let within = Growth.area_in (place_in desk.base (slots_of desk.key.kind)) d e front (length desk.earlier) ends area le in
      let same : slots_at d (base_of d area) ≡ slots_of (key_of desk area).kind = ap (λ (k : ℕ). slots_of k) key.kind in
      record {
        kind = Growth.front_kinds (place_in desk.base (slots_of desk.key.kind)) d e front (length desk.earlier) ends area le ∙ key.kind;
        secret = Growth.front_secrets (place_in desk.base (slots_of desk.key.kind)) d e front (length desk.earlier) ends area le ∙ key.secret;
        within = omega (arith, within, same, front.longer, Growth.front_bases (place_in desk.base (slots_of desk.key.kind)) d e front (length desk.earlier) ends area (omega arith));
      }

  front_linked : (area : ℕ) → area < length desk.earlier → text_of e (last_slot e area) ≡ link_text (public_key (key_of desk (suc area)))
  front_linked area lt =
      let has = Areas.open_link d area (Areas.open_down d (suc area) (length desk.earlier) lt areas.current.is_open) in
      ap (λ (s : SlotId). text_of e s) (Growth.front_lasts (place_in desk.base (slots_of desk.key.kind)) d e front (length desk.earlier) ends area (omega arith))
      ∙ Growth.front_text (place_in desk.base (slots_of desk.key.kind)) d e front (length desk.earlier) ends (last_slot d area) (omega arith) has.place.known
      ∙ areas.linked area lt

  front_plain : (s : SlotId) → IsSlotOf desk s → 0 < gate_of e s → IsLink (text_of e s) → (s ≡ last_slot e s.area) × (s.area < length desk.earlier)
  front_plain s own gate link =
      let there = known_on desk d s areas own in
      let gate_was : 0 < gate_of d s = omega (arith, gate, Growth.front_gate (place_in desk.base (slots_of desk.key.kind)) d e front (length desk.earlier) ends s own.area there) in
      let was = areas.plain s own gate_was (subst IsLink (Growth.front_text (place_in desk.base (slots_of desk.key.kind)) d e front (length desk.earlier) ends s own.area there) link) in
      (was.0 ∙ sym (Growth.front_lasts (place_in desk.base (slots_of desk.key.kind)) d e front (length desk.earlier) ends s.area own.area), was.1)

  pub front_areas : HasAreas desk e
  front_areas = record {
    current = Growth.front_current (place_in desk.base (slots_of desk.key.kind)) d e front (length desk.earlier) ends areas.current;
    based = Growth.front_bases (place_in desk.base (slots_of desk.key.kind)) d e front (length desk.earlier) ends (length desk.earlier) (omega arith) ∙ areas.based;
    keys = front_key;
    linked = front_linked;
    plain = front_plain;
  }

  pub front_slot : (s : SlotId) → IsSlotOf desk s → (gate_of e s ≡ gate_of d s) × (text_of e s ≡ text_of d s)
  front_slot s own =
      let there = known_on desk d s areas own in (
        Growth.front_gate (place_in desk.base (slots_of desk.key.kind)) d e front (length desk.earlier) ends s own.area there,
        Growth.front_text (place_in desk.base (slots_of desk.key.kind)) d e front (length desk.earlier) ends s own.area there,
      )

  pub front_same : SameSigned d e
  front_same = Growth.front_signs (place_in desk.base (slots_of desk.key.kind)) d e front (length desk.earlier) ends areas.current

-- ---- the link text, behind the closed gate of the last slot

module _ (desk : Desk) (some : 0 < slots_of desk.key.kind) (d e : List ℕ) (areas : HasAreas desk d) (shut : gate_of d (slot_here desk (last_number desk)) ≡ 0)
    (h : AgreesOutside (place_in desk.base (last_number desk) + 1) (place_in desk.base (last_number desk) + 128) d e) where
  last_own : IsSlotOf desk (slot_here desk (last_number desk))
  last_own = own_here desk (last_number desk) (omega (arith, some))

  text_known : last_number desk < slots_at d (base_of d (length desk.earlier))
  text_known = known_on desk d (slot_here desk (last_number desk)) areas last_own

  text_both : OutsideSlot (slot_here desk (last_number desk)) d e × SameSigned d e
  text_both =
      let place = place_here desk d (last_number desk) areas in
      text_signs_nothing (slot_here desk (last_number desk)) _ _ d e (omega (arith, place)) (omega (arith, place)) text_known shut h

  pub text_same : SameSigned d e
  text_same = text_both.1

  text_place : place_of e (slot_here desk (last_number desk)) ≡ place_in desk.base (last_number desk)
  text_place = Areas.places (slot_here desk (last_number desk)) d e text_both.0 text_known (slot_here desk (last_number desk)) ∙ place_here desk d (last_number desk) areas

  pub text_shut : gate_of e (slot_here desk (last_number desk)) ≡ 0
  text_shut =
      ap (λ (p : ℕ). gate_at e p) text_place
      ∙ gate_apart _ _ d e h (place_in desk.base (last_number desk)) (inl (omega arith))
      ∙ ap (λ (p : ℕ). gate_at d p) (sym (place_here desk d (last_number desk) areas))
      ∙ shut

  pub text_areas : HasAreas desk e
  text_areas = areas_kept desk (last_number desk) d e areas (omega (arith, some)) text_both.0
      (Areas.closed_no_link (slot_here desk (last_number desk)) d shut) (Areas.closed_no_link (slot_here desk (last_number desk)) e text_shut)
      (λ gate link. omega (arith, gate, text_shut))

  pub text_slot : (s : SlotId) → IsSlotOf desk s → s ≢ slot_here desk (last_number desk) → (gate_of e s ≡ gate_of d s) × (text_of e s ≡ text_of d s)
  text_slot s own ne =
      let there = known_on desk d s areas own in (
        Areas.gate_same (slot_here desk (last_number desk)) d e text_both.0 text_known s ne there,
        Areas.text_same (slot_here desk (last_number desk)) d e text_both.0 text_known s ne there,
      )

-- a blank area has no open gate
pub blank_shut : (key : KeyOf) (base : ℕ) (d : List ℕ) → IsBlankArea key base d → (number : ℕ) → number < slots_of key.kind → gate_at d (place_in base number) ≡ 0
blank_shut key base d blank number lt = blank.zero (place_in base number) (omega arith) (omega (arith, lt))

-- a blank area remains blank if an image changes in a range before it
pub blank_apart : (key : KeyOf) (base from to : ℕ) (d e : List ℕ) → to ≤ base → AgreesOutside from to d e → IsBlankArea key base d → IsBlankArea key base e
blank_apart key base from to d e le h blank = record {
  block = record {
    kind = kind_kept from to d e h base (inr le) ∙ blank.block.kind;
    secret = range_apart from to d e h (base + 5) 48 (inr (omega arith)) ∙ blank.block.secret;
    within = omega (arith, blank.block.within, h.long);
  };
  zero = λ k at below. h.same k (inr (omega (arith, at))) ∙ blank.zero k at below;
}

-- ---- the gate of the last slot

module _ (desk : Desk) (key : KeyOf) (some : 0 < slots_of desk.key.kind) (can : CanSucceed desk key) (d e : List ℕ) (areas : HasAreas desk d) (shut : gate_of d (slot_here desk (last_number desk)) ≡ 0)
    (text_is : text_of d (slot_here desk (last_number desk)) ≡ link_text (public_key key)) (blank : IsBlankArea key (place_in desk.base (slots_of desk.key.kind)) d)
    (h : AgreesOutside (place_in desk.base (last_number desk)) (place_in desk.base (last_number desk) + 1) d e) where
  gate_known : last_number desk < slots_at d (base_of d (length desk.earlier))
  gate_known = known_on desk d (slot_here desk (last_number desk)) areas (own_here desk (last_number desk) (omega (arith, some)))

  gate_here : AgreesOutside (place_of d (slot_here desk (last_number desk))) (place_of d (slot_here desk (last_number desk)) + 1) d e
  gate_here = subst (λ (p : ℕ). AgreesOutside p (p + 1) d e) (sym (place_here desk d (last_number desk) areas)) h

  fresh : (number : ℕ) → number < slots_at d (base_of d (suc (length desk.earlier))) → gate_of d (record { area = suc (length desk.earlier); number = number }) ≡ 0
  fresh number lt =
      let base = end_on desk d areas in
      ap (λ (b : ℕ). gate_at d (place_in b number)) base
      ∙ blank_shut key (place_in desk.base (slots_of desk.key.kind)) d blank number (subst (λ (k : ℕ). number < slots_of k) blank.block.kind (subst (λ (b : ℕ). number < slots_at d b) base lt))

  gate_both : OutsideSlot (slot_here desk (last_number desk)) d e × SignsAtMost (slot_here desk (last_number desk)) (link_text (public_key key)) d e
  gate_both = gate_signs_link (slot_here desk (last_number desk)) (link_text (public_key key)) d e gate_known shut text_is gate_here areas.current fresh

  pub gate_signs : SignsAtMost (slot_here desk (last_number desk)) (link_text (public_key key)) d e
  gate_signs = gate_both.1

  -- ---- once the gate is open, the areas are those of the next desk

  module _ (gate : 0 < gate_at e (place_in desk.base (last_number desk))) where
    out : OutsideSlot (slot_here desk (last_number desk)) d e
    out = gate_both.0

    open_before : (area : ℕ) → area ≤ length desk.earlier → IsAreaOpen e area
    open_before area le = Areas.open_kept (slot_here desk (last_number desk)) d e out gate_known area (λ a lt. Areas.closed_no_link (slot_here desk (last_number desk)) d shut a) (Areas.open_down d area (length desk.earlier) le areas.current.is_open)

    gate_is : 0 < gate_of e (slot_here desk (last_number desk))
    gate_is =
        let place = Areas.places (slot_here desk (last_number desk)) d e out gate_known (slot_here desk (last_number desk)) ∙ place_here desk d (last_number desk) areas in
        subst (λ (p : ℕ). 0 < gate_at e p) (sym place) gate

    text_now : text_of e (slot_here desk (last_number desk)) ≡ link_text (public_key key)
    text_now =
        ap (λ (p : ℕ). text_at e p) (Areas.places (slot_here desk (last_number desk)) d e out gate_known (slot_here desk (last_number desk)))
        ∙ text_behind (place_of d (slot_here desk (last_number desk))) d e gate_here
        ∙ text_is

    last_is : last_slot e (length desk.earlier) ≡ slot_here desk (last_number desk)
    last_is = Areas.lasts (slot_here desk (last_number desk)) d e out gate_known (length desk.earlier) ∙ last_on desk d areas

    base_is : base_of e (suc (length desk.earlier)) ≡ place_in desk.base (slots_of desk.key.kind)
    base_is = Areas.bases (slot_here desk (last_number desk)) d e out gate_known (suc (length desk.earlier)) ∙ end_on desk d areas

    blank_now : IsBlankArea key (place_in desk.base (slots_of desk.key.kind)) e
    blank_now = blank_apart key (place_in desk.base (slots_of desk.key.kind)) (place_in desk.base (last_number desk)) (place_in desk.base (last_number desk) + 1) d e (omega (arith, some)) h blank

    has_link : IsLink (link_text (public_key key)) → HasLink e (length desk.earlier)
    has_link link = record {
      place = subst (λ (s : SlotId). IsWithin e s) (sym last_is) (Areas.within_same (slot_here desk (last_number desk)) d e out gate_known (slot_here desk (last_number desk))
          (record { known = gate_known; whole = whole_on desk d (slot_here desk (last_number desk)) areas (own_here desk (last_number desk) (omega (arith, some))) }));
      gate = subst (λ (s : SlotId). 0 < gate_of e s) (sym last_is) gate_is;
      link = subst (λ (s : SlotId). IsLink (text_of e s)) (sym last_is) (subst IsLink (sym text_now) link);
    }

    -- no slot of the new area is spent
    shut_next : (number : ℕ) → number < slots_of key.kind → gate_of e (record { area = suc (length desk.earlier); number = number }) ≡ 0
    shut_next number lt = ap (λ (b : ℕ). gate_at e (place_in b number)) base_is ∙ blank_shut key (place_in desk.base (slots_of desk.key.kind)) e blank_now number lt

    slots_next : slots_at e (base_of e (suc (length desk.earlier))) ≡ slots_of key.kind
    slots_next = ap (λ (b : ℕ). slots_at e b) base_is ∙ ap (λ (k : ℕ). slots_of k) blank_now.block.kind

    no_later : IsAreaOpen e (suc (suc (length desk.earlier))) → ⊥
    no_later is_open =
        let has = Areas.open_link e (suc (length desk.earlier)) is_open in
        let closed = shut_next (slots_at e (base_of e (suc (length desk.earlier))) - 1) (omega (arith, has.place.known, slots_next)) in
        omega (arith, has.gate, closed)

    key_now : (area : ℕ) → area ≤ suc (length desk.earlier) → HasKey (key_of (next_desk desk key) area) (base_of e area) e
    key_now area le = elim (cases_lt (length desk.earlier) area) [
      | inl later ↦
          let is : area ≡ suc (length desk.earlier) = omega arith in
          subst (λ (a : ℕ). HasKey (key_of (next_desk desk key) a) (base_of e a) e) (sym is)
          (subst (λ (b : ℕ). HasKey (key_of (next_desk desk key) (suc (length desk.earlier))) b e) (sym base_is)
          (subst (λ (k : KeyOf). HasKey k (place_in desk.base (slots_of desk.key.kind)) e) (sym (key_next desk key (suc (length desk.earlier)) refl)) blank_now.block))
      | inr before ↦
          let was = areas.keys area before in
          subst (λ (k : KeyOf). HasKey k (base_of e area) e) (sym (key_before desk key area before))
          (record {
            kind = Areas.kinds (slot_here desk (last_number desk)) d e out gate_known area ∙ was.kind;
            secret = Areas.secrets (slot_here desk (last_number desk)) d e out gate_known area ∙ was.secret;
            within = omega (arith, was.within, out.long, Areas.bases (slot_here desk (last_number desk)) d e out gate_known area);
          })
    ]

    linked_now : (area : ℕ) → area < suc (length desk.earlier) → text_of e (last_slot e area) ≡ link_text (public_key (key_of (next_desk desk key) (suc area)))
    linked_now area lt = elim (cases_lt area (length desk.earlier)) [
      | inl before ↦
          linked_kept desk (last_number desk) d e areas (omega (arith, some)) out area before
          ∙ ap (λ (k : KeyOf). link_text (public_key k)) (sym (key_before desk key (suc area) before))
      | inr ge ↦
          let is : area ≡ length desk.earlier = omega arith in
          ap (λ (a : ℕ). text_of e (last_slot e a)) is
          ∙ ap (λ (s : SlotId). text_of e s) last_is
          ∙ text_now
          ∙ ap (λ (k : KeyOf). link_text (public_key k)) (sym (key_next desk key (suc area) (ap (λ (n : ℕ). suc n) is)))
    ]

    plain_now : (s : SlotId) → IsSlotOf (next_desk desk key) s → 0 < gate_of e s → IsLink (text_of e s) → (s ≡ last_slot e s.area) × (s.area < suc (length desk.earlier))
    plain_now s own open_gate link = elim (cases_lt (length desk.earlier) s.area) [
      | inl later ↦
          let is : s.area ≡ suc (length desk.earlier) = omega (arith, own.area, one_more desk key, later) in
          let lt : s.number < slots_of key.kind = subst (λ (k : KeyOf). s.number < slots_of k.kind) (key_next desk key s.area is) own.known in
          let closed : gate_of e s ≡ 0 = ap (λ (a : ℕ). gate_at e (place_in (base_of e a) s.number)) is ∙ shut_next s.number lt in
          absurd (omega (arith, open_gate, closed))
      | inr before ↦
          let own_was : IsSlotOf desk s = record { area = before; known = subst (λ (k : KeyOf). s.number < slots_of k.kind) (key_before desk key s.area before) own.known } in
          elim (Areas.slot_cases s (slot_here desk (last_number desk))) [
            | inl here ↦
                let area : s.area ≡ length desk.earlier = ap (λ (x : SlotId). x.area) here in (
                  here ∙ sym last_is ∙ ap (λ (a : ℕ). last_slot e a) (sym area),
                  omega (arith, area),
                )
            | inr ne ↦ let was = plain_kept desk (last_number desk) d e areas (omega (arith, some)) out s ne own_was open_gate link in (was.0, omega (arith, was.1))
          ]
    ]

    pub next_areas : IsLink (link_text (public_key key)) → HasAreas (next_desk desk key) e
    next_areas link =
        let more = one_more desk key in
        record {
          current = subst (λ (n : ℕ). IsCurrent e n) (sym more) (record { is_open = Areas.next_open e (length desk.earlier) (open_before (length desk.earlier) (omega arith)) (has_link link) can.few; no_later = no_later });
          based = ap (λ (n : ℕ). base_of e n) more ∙ base_is;
          keys = λ area le. key_now area (omega (arith, le, more));
          linked = λ area lt. linked_now area (omega (arith, lt, more));
          plain = λ s own open_gate is_link. let was = plain_now s own open_gate is_link in (was.0, omega (arith, was.1, more));
        }

    -- every other slot is unchanged
    pub gate_slot : (s : SlotId) → IsSlotOf desk s → s ≢ slot_here desk (last_number desk) → (gate_of e s ≡ gate_of d s) × (text_of e s ≡ text_of d s)
    gate_slot s own ne =
        let there = known_on desk d s areas own in (
          Areas.gate_same (slot_here desk (last_number desk)) d e out gate_known s ne there,
          Areas.text_same (slot_here desk (last_number desk)) d e out gate_known s ne there,
        )

    pub gate_spent : IsLink (link_text (public_key key)) → IsSigned e (slot_here desk (last_number desk)) (link_text (public_key key))
    gate_spent link = record {
      area = open_before (length desk.earlier) (omega arith);
      place = Areas.within_same (slot_here desk (last_number desk)) d e out gate_known (slot_here desk (last_number desk))
          (record { known = gate_known; whole = whole_on desk d (slot_here desk (last_number desk)) areas (own_here desk (last_number desk) (omega (arith, some))) });
      spent = record { gate = gate_is; text_is = text_now };
    }

    pub next_shut : (number : ℕ) → number < slots_of key.kind → gate_of e (slot_here (next_desk desk key) number) ≡ 0
    next_shut number lt = ap (λ (a : ℕ). gate_at e (place_in (base_of e a) number)) (one_more desk key) ∙ shut_next number lt

    pub shut_at : (s : SlotId) → s.area ≡ suc (length desk.earlier) → s.number < slots_of key.kind → gate_of e s ≡ 0
    shut_at s is lt = ap (λ (a : ℕ). gate_at e (place_in (base_of e a) s.number)) is ∙ shut_next s.number lt

    pub next_gate : 0 < gate_of e (slot_here desk (last_number desk))
    next_gate = gate_is

-- ---- the next desk

pub sound_next : (desk : Desk) (key : KeyOf) → IsSound desk → CanSucceed desk key → IsSound (next_desk desk key)
sound_next desk key sound can =
    let more = one_more desk key in
    record {
      few = omega (arith, can.few, more);
      known = can.known;
      sized = λ area le. elim (cases_lt area (length desk.earlier)) [
        | inl lt ↦
            ap (λ (l : List Count). length l) (counts_before desk key area lt) ∙ sound.sized area (omega arith) ∙ ap (λ (k : KeyOf). slots_of k.kind) (sym (key_before desk key area (omega arith)))
        | inr ge ↦ elim (cases_eq area (length desk.earlier)) [
          | inl is ↦
              ap (λ (l : List Count). length l) (counts_left desk key area is)
              ∙ length-set desk.counts (last_number desk) TheVariants.Spent
              ∙ sized_here desk sound
              ∙ ap (λ (k : KeyOf). slots_of k.kind) (sym (key_here desk area is))
              ∙ ap (λ (k : KeyOf). slots_of k.kind) (sym (key_before desk key area (omega (arith, is))))
          | inr ne ↦
              let is : area ≡ suc (length desk.earlier) = omega (arith, le, more, ge, ne) in
              ap (λ (l : List Count). length l) (counts_next desk key area is)
              ∙ length-replicate (slots_of key.kind) TheVariants.Free
              ∙ ap (λ (k : KeyOf). slots_of k.kind) (sym (key_next desk key area is))
        ]
      ];
      named = λ area le. elim (cases_lt (length desk.earlier) area) [
        | inl later ↦ ap (λ (k : KeyOf). length k.i) (key_next desk key area (omega (arith, le, more, later))) ∙ can.named
        | inr before ↦ ap (λ (k : KeyOf). length k.i) (key_before desk key area before) ∙ sound.named area before
      ];
      distinct = λ a b lt le. elim (cases_lt (length desk.earlier) b) [
        | inl later ↦ λ same. can.distinct a (omega (arith, lt, le, more)) (ap (λ (k : KeyOf). k.i) (sym (key_before desk key a (omega (arith, lt, le, more)))) ∙ same ∙ ap (λ (k : KeyOf). k.i) (key_next desk key b (omega (arith, le, more, later))))
        | inr before ↦ λ same.
            sound.distinct a b lt before (ap (λ (k : KeyOf). k.i) (sym (key_before desk key a (omega arith))) ∙ same ∙ ap (λ (k : KeyOf). k.i) (key_before desk key b before))
      ];
      last = inl (get_or-replicate (slots_of key.kind) (slots_of key.kind - 1) TheVariants.Free TheVariants.Spent (omega (arith, can.known)));
    }

-- the states that the next desk counts
pub next_counts : (desk : Desk) (key : KeyOf) → IsSound desk → CanSucceed desk key → (s : SlotId) → s.area ≤ length desk.earlier → s ≢ slot_here desk (last_number desk) → count_of (next_desk desk key) s ≡ count_of desk s
next_counts desk key sound can s le ne = elim (cases_lt s.area (length desk.earlier)) [
  | inl lt ↦ ap (λ (l : List Count). get_or l s.number TheVariants.Spent) (counts_before desk key s.area lt)
  | inr ge ↦
      let is : s.area ≡ length desk.earlier = omega arith in
      ap (λ (l : List Count). get_or l s.number TheVariants.Spent) (counts_left desk key s.area is)
      ∙ other_counts desk.counts (last_number desk) TheVariants.Spent s.number (λ at. ne (Areas.slot_eq s (slot_here desk (last_number desk)) is at))
      ∙ sym (count_here desk s is)
]

pub next_free : (desk : Desk) (key : KeyOf) (s : SlotId) → s.area ≡ suc (length desk.earlier) → s.number < slots_of key.kind → count_of (next_desk desk key) s ≡ TheVariants.Free
next_free desk key s is lt = ap (λ (l : List Count). get_or l s.number TheVariants.Spent) (counts_next desk key s.area is) ∙ get_or-replicate (slots_of key.kind) s.number TheVariants.Free TheVariants.Spent lt

pub next_spent : (desk : Desk) (key : KeyOf) → IsSound desk → (s : SlotId) → s ≡ slot_here desk (last_number desk) → count_of (next_desk desk key) s ≡ TheVariants.Spent
next_spent desk key sound s is =
    let area : s.area ≡ length desk.earlier = ap (λ (x : SlotId). x.area) is in
    let number : s.number ≡ last_number desk = ap (λ (x : SlotId). x.number) is in
    ap (λ (l : List Count). get_or l s.number TheVariants.Spent) (counts_left desk key s.area area)
    ∙ ap (λ (n : ℕ). get_or (set desk.counts (last_number desk) TheVariants.Spent) n TheVariants.Spent) number
    ∙ get_or-set_same desk.counts (last_number desk) TheVariants.Spent TheVariants.Spent (omega (arith, sound.known, sized_here desk sound))

pub spent_or_not : (count : Count) → (count ≡ TheVariants.Spent) ⊎ (count ≢ TheVariants.Spent)
spent_or_not TheVariants.Free = inr (λ is. cc)
spent_or_not TheVariants.Out = inr (λ is. cc)
spent_or_not TheVariants.Written = inr (λ is. cc)
spent_or_not TheVariants.Spent = inl refl
