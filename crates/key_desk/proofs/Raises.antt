-- The changes that the writes of a succession make in an image: first in the area after the last one, then in one
-- slot.
use Rattle.std.proofs.Common.{◌≡◌, ◌≢◌, ◌⊎◌, ℕ, suc, ◌+◌, ◌-◌, ◌<◌, ◌≤◌, true, List, length, arith, inl, inr, refl, sym, ◌∙◌, ap, subst}
use Rattle.road_io.specs.declared.disk.Disk.{Ghosts}
use Rattle.road_io.specs.Disk.{Torn, Stays}
use Rattle.road_io.specs.Moments.{Image, EachImage, AtEachMoment}
use Rattle.road_io.proofs.MomentLaws.{weaker, continued, at_end}
use Rattle.lms_tree.specs.Signatures.{KeyOf}
use Rattle.desk_areas.specs.Layout.{SlotId, slots_of, place_in, base_of, place_of, gate_at, gate_of, last_slot, AgreesOutside, SameFront}
use Rattle.desk_areas.specs.Blank.{IsZero, IsBlankArea}
use Rattle.desk_areas.proofs.Areas.{base_next}
use Rattle.desk_areas.proofs.Frame.{gate_apart}
use Rattle.desk_areas.proofs.Growth.{torn_front, outside_front}
use Rattle.desk_areas.proofs.Pieces.{widen}
use Rattle.key_desk.specs.declared.desk.Desk.{Desk}
use Rattle.key_desk.specs.Desk.{slot_here, HasAreas, Fits}
use Rattle.key_desk.specs.Succession.{last_number, CanSucceed, IsUnspent, RaisesAt, RaisesNext}
use Rattle.key_desk.proofs.Counts.{own_here, count_here}
use Rattle.key_desk.proofs.Puts.{unchanged}
use Rattle.key_desk.proofs.Steps.{place_here}
use Rattle.key_desk.proofs.Successors.{blank_apart, slots_on, last_on, long_on}

front_twice : (end : ℕ) (d e i : List ℕ) → SameFront end d e → SameFront end e i → SameFront end d i
front_twice end d e i h k = record { long = h.long; longer = k.longer; same = λ n lt. k.same n lt ∙ h.same n lt }

unspent_apart : (key : KeyOf) (end from to : ℕ) (d i : List ℕ) → to ≤ end → AgreesOutside from to d i → IsUnspent key end d → IsUnspent key end i
unspent_apart key end from to d i le h it = record {
  blank = blank_apart key end from to d i le h it.blank;
  gate = gate_apart from to d i h end (inr le) ∙ it.gate;
}

module _ {D : Type 0} (g : Ghosts D) (key : KeyOf) (end place : ℕ) (lies : place + 128 ≤ end) (old : D) (within : EachImage g old (λ i. end ≤ length i)) where
  by_front : (d i : List ℕ) → SameFront end d i → RaisesAt key end place d i
  by_front d i front = record { behind = i; front = front; alone = unchanged place (place + 62) i; gate = inl (front.same place (omega arith)) }

  module _ (one : D) (n : ℕ) (m1 : AtEachMoment g old one (Torn end n)) where
    front1 : AtEachMoment g old one (SameFront end)
    front1 = weaker g old one _ (SameFront end) m1 (λ d i now h. torn_front end end n d i (omega arith) (within d now) h)

    pub raises1 : AtEachMoment g old one (RaisesAt key end place)
    raises1 = weaker g old one _ (RaisesAt key end place) front1 (λ d i now h. by_front d i h)

    module _ (two : D) (m2 : AtEachMoment g one two (AgreesOutside (end + 1) (end + 53))) where
      front2 : AtEachMoment g old two (SameFront end)
      front2 = continued g old one two _ _ (SameFront end) front1 m2
          (λ d i now h. h)
          (λ d e i now_d now_e h k. front_twice end d e i h (outside_front end (end + 1) (end + 53) e i (omega arith) h.longer k))

      pub raises2 : AtEachMoment g old two (RaisesAt key end place)
      raises2 = weaker g old two _ (RaisesAt key end place) front2 (λ d i now h. by_front d i h)

      module _ (three : D) (m3 : AtEachMoment g two three (AgreesOutside (place + 1) (place + 62))) where
        -- first the area after the last one, then the text
        abbrev pub Texts : List ℕ → List ℕ → Type 0
        Texts d i = (e : List ℕ) × SameFront end d e × AgreesOutside (place + 1) (place + 62) e i

        texts3 : AtEachMoment g old three Texts
        texts3 = continued g old two three _ _ Texts front2 m3
            (λ d i now h. (i, h, unchanged (place + 1) (place + 62) i))
            (λ d e i now_d now_e h k. (e, h, k))

        text_raises : (d i : List ℕ) → Texts d i → RaisesAt key end place d i
        text_raises d i t = record {
          behind = t.0;
          front = t.1;
          alone = widen (place + 1) (place + 62) place (place + 62) t.0 i (omega arith) (omega arith) t.2;
          gate = inl (gate_apart (place + 1) (place + 62) t.0 i t.2 place (inl (omega arith)) ∙ t.1.same place (omega arith));
        }

        pub raises3 : AtEachMoment g old three (RaisesAt key end place)
        raises3 = weaker g old three _ (RaisesAt key end place) texts3 (λ d i now h. text_raises d i h)

        -- the gate is opened over an unspent area
        pub raises4 : (four : D) → AtEachMoment g three four (AgreesOutside place (place + 1)) → 1 ≤ n → EachImage g one (IsZero end n) → EachImage g two (IsBlankArea key end) → AtEachMoment g old four (RaisesAt key end place)
        raises4 four m4 some cleared blank = continued g old three four _ _ (RaisesAt key end place) texts3 m4
            (λ d i now h. text_raises d i h)
            (λ d e i now_d now_e h k. record {
              behind = h.0;
              front = h.1;
              alone = joined h.0 e i h.2 k;
              gate = inr (unspent_apart key end place (place + 1) e i (omega arith) k (unspent3 e now_e));
            })
          where
            unspent2 : EachImage g two (IsUnspent key end)
            unspent2 i now =
                let d = at_end g one two (AgreesOutside (end + 1) (end + 53)) m2 i now in
                let zero = cleared d.0 d.1 in
                record { blank = blank i now; gate = gate_apart (end + 1) (end + 53) d.0 i d.2 end (inl (omega arith)) ∙ zero.zero end (omega arith) (omega (arith, some)) }

            unspent3 : EachImage g three (IsUnspent key end)
            unspent3 i now = let d = at_end g two three (AgreesOutside (place + 1) (place + 62)) m3 i now in unspent_apart key end (place + 1) (place + 62) d.0 i (omega arith) d.2 (unspent2 d.0 d.1)

            joined : (b e i : List ℕ) → AgreesOutside (place + 1) (place + 62) b e → AgreesOutside place (place + 1) e i → AgreesOutside place (place + 62) b i
            joined b e i h k = record {
              long = let a = h.long in let c = k.long in omega (arith, a, c);
              same = λ m out. elim out [
                | inl low ↦ k.same m (inl low) ∙ h.same m (inl (omega arith))
                | inr high ↦ k.same m (inr (omega arith)) ∙ h.same m (inr high)
              ];
            }

pub raised_text : {D : Type 0} (g : Ghosts D) (old new : D) (place n : ℕ) → n ≡ 60 → AtEachMoment g old new (AgreesOutside (place + 1) (place + 2 + n)) → AtEachMoment g old new (AgreesOutside (place + 1) (place + 62))
raised_text g old new place n is m = weaker g old new _ (AgreesOutside (place + 1) (place + 62)) m (λ d i now h. widen (place + 1) (place + 2 + n) (place + 1) (place + 62) d i (omega arith) (omega (arith, is)) h)

pub raises_as : {D : Type 0} (g : Ghosts D) (key : KeyOf) (old new : D) (end place to at : ℕ) → end ≡ to → place ≡ at → AtEachMoment g old new (RaisesAt key end place) → AtEachMoment g old new (RaisesAt key to at)
raises_as g key old new end place to at ends places m = subst (λ (e : ℕ). AtEachMoment g old new (RaisesAt key e at)) ends (subst (λ (p : ℕ). AtEachMoment g old new (RaisesAt key end p)) places m)

-- this holds on the image of a desk that can be followed
pub raises_next : {D : Type 0} (g : Ghosts D) (desk : Desk) (key : KeyOf) (old new : D) (base slots : ℕ) → Fits g desk old → CanSucceed desk key → desk.base ≡ base → slots_of desk.key.kind ≡ slots
    → AtEachMoment g old new (RaisesAt key (place_in base slots) (place_in base (slots - 1))) → AtEachMoment g old new (λ d i. (i ≡ d) ⊎ RaisesNext key d i)
raises_next g desk key old new base slots fits can base_is slots_is m = weaker g old new _ (λ d i. (i ≡ d) ⊎ RaisesNext key d i) m (λ d i now h. inr (here d i (fits.areas d now) now h))
  where
    here : (d i : List ℕ) → HasAreas desk d → Image g old d → RaisesAt key (place_in base slots) (place_in base (slots - 1)) d i → RaisesNext key d i
    here d i areas now h =
        let last = last_on desk d areas in
        let at : place_of d (last_slot d (length desk.earlier)) ≡ place_in base (slots - 1) =
        ap (λ (s : SlotId). place_of d s) last ∙ place_here desk d (last_number desk) areas ∙ ap (λ (b : ℕ). place_in b (last_number desk)) base_is ∙ ap (λ (n : ℕ). place_in base (n - 1)) slots_is in
        let end : base_of d (suc (length desk.earlier)) ≡ place_in base slots =
        base_next d (length desk.earlier) ∙ ap (λ (n : ℕ). place_in (base_of d (length desk.earlier)) n) (slots_on desk d areas ∙ slots_is) ∙ ap (λ (b : ℕ). place_in b slots) (areas.based ∙ base_is) in
        record {
          area = length desk.earlier;
          current = areas.current;
          known = let known = fits.sound.known in let same = slots_on desk d areas in omega (arith, known, same);
          free = ap (λ (s : SlotId). gate_of d s) last
              ∙ fits.others can.opened d now (slot_here desk (last_number desk)) (own_here desk (last_number desk) (let known = fits.sound.known in omega (arith, known))) (λ is. can.free (sym (count_here desk (slot_here desk (last_number desk)) refl) ∙ is));
          raises = subst (λ (e : ℕ). RaisesAt key e (place_of d (last_slot d (length desk.earlier))) d i) (sym end) (subst (λ (p : ℕ). RaisesAt key (place_in base slots) p d i) (sym at) h);
        }

-- after a reading that changes no image
pub raises_later : {D : Type 0} (g : Ghosts D) (key : KeyOf) (old mid new : D) → AtEachMoment g old mid Stays → AtEachMoment g mid new (λ d i. (i ≡ d) ⊎ RaisesNext key d i) → AtEachMoment g old new (λ d i. (i ≡ d) ⊎ RaisesNext key d i)
raises_later g key old mid new read m = continued g old mid new Stays _ (λ d i. (i ≡ d) ⊎ RaisesNext key d i) read m
    (λ d i now is. inl is)
    (λ d e i now_d now_e is h. subst (λ (x : List ℕ). (i ≡ x) ⊎ RaisesNext key x i) is h)
