-- The writes of a succession, at the offsets that the code computes.
use Rattle.std.proofs.Common.{◌≡◌, ◌+◌, ◌-◌, ◌<◌, ◌≤◌, List, ℕ, arith, sym, ◌∙◌, ap, subst, length, take, refl}
use Rattle.road_io.specs.declared.disk.Disk.{Ghosts}
use Rattle.road_io.specs.Moments.{Image, EachImage, AtEachMoment}
use Rattle.road_io.specs.Disk.{Torn}
use Rattle.road_io.proofs.MomentLaws.{weaker}
use Rattle.lms_tree.specs.Signatures.{KeyOf, public_key}
use Rattle.lms_tree.specs.Links.{IsLink, link_mark, link_text}
use Rattle.key_desk.specs.View.{View}
use Rattle.desk_areas.specs.Layout.{slots_of, place_in, gate_at, text_at, AgreesOutside, SameSigned, SignsAtMost, IsSigned, SameFront}
use Rattle.desk_areas.specs.Blank.{IsBlankArea}
use Rattle.key_desk.specs.Desk.{slot_here, Fits}
use Rattle.key_desk.specs.Succession.{last_number, next_desk, CanSucceed, HasKeys}
use Rattle.desk_areas.specs.Settled.{IsSettled}
use Rattle.key_desk.proofs.Raising

-- the text of a link is a link text
pub link_is : (key : List ℕ) → length key ≡ 56 → IsLink (link_text key)
link_is key size = record { size = omega (arith, size); mark = refl_mark key }
  where
    refl_mark : (k : List ℕ) → take 4 (link_text k) ≡ link_mark
    refl_mark k = refl

pub link_size : (key link : List ℕ) → link ≡ link_text key → length link ≡ 60 → length key ≡ 56
link_size key link is size = let same : length link ≡ length (link_text key) = ap (λ (l : List ℕ). length l) is in omega (arith, same, size)

module _ {D : Type 0} (g : Ghosts D) (desk : View) (key : KeyOf) (old : D) (fits : Fits g desk old) (can : CanSucceed desk key) (base slots end place : ℕ)
    (base_is : desk.base ≡ base) (slots_is : slots_of desk.key.kind ≡ slots) (end_is : end ≡ place_in base slots) (place_is : place ≡ place_in base (slots - 1)) where
  end_here : end ≡ place_in desk.base (slots_of desk.key.kind)
  end_here = omega (arith, base_is, slots_is, end_is)

  place_here : place ≡ place_in desk.base (last_number desk)
  place_here = place_is ∙ ap (λ (n : ℕ). place_in base (n - 1)) (sym slots_is) ∙ ap (λ (b : ℕ). place_in b (last_number desk)) (sym base_is)

  -- nothing is signed while the area is added
  module _ (one : D) (n : ℕ) (m1 : AtEachMoment g old one (Torn end n)) where
    front1 : AtEachMoment g old one (SameFront (place_in desk.base (slots_of desk.key.kind)))
    front1 = Raising.cleared g desk key old fits can one n (subst (λ (p : ℕ). AtEachMoment g old one (Torn p n)) end_here m1)

    pub signs1 : AtEachMoment g old one (SignsAtMost (slot_here desk (last_number desk)) (link_text (public_key key)))
    signs1 = weaker g old one _ _ (Raising.front_moments g desk key old fits can one front1) (λ d i now h. Raising.signs_none _ _ d i h)

    pub keys1 : AtEachMoment g old one (λ d i. HasKeys desk i)
    keys1 = Raising.front_keys g desk key old fits can one front1

    module _ (two : D) (m2 : AtEachMoment g one two (AgreesOutside (end + 1) (end + 53))) where
      front2 : AtEachMoment g old two (SameFront (place_in desk.base (slots_of desk.key.kind)))
      front2 = Raising.blocked g desk key old fits can one two (end + 1) (end + 53) (omega (arith, end_here)) front1 m2

      pub signs2 : AtEachMoment g old two (SignsAtMost (slot_here desk (last_number desk)) (link_text (public_key key)))
      signs2 = weaker g old two _ _ (Raising.front_moments g desk key old fits can two front2) (λ d i now h. Raising.signs_none _ _ d i h)

      pub keys2 : AtEachMoment g old two (λ d i. HasKeys desk i)
      keys2 = Raising.front_keys g desk key old fits can two front2

      -- nor is anything signed while the text is written
      module _ (three : D) (m3 : AtEachMoment g two three (AgreesOutside (place + 1) (place + 128))) where
        text3 : AtEachMoment g two three (AgreesOutside (place_in desk.base (last_number desk) + 1) (place_in desk.base (last_number desk) + 128))
        text3 = subst (λ (p : ℕ). AtEachMoment g two three (AgreesOutside (p + 1) (p + 128))) place_here m3

        same3 : AtEachMoment g old three SameSigned
        same3 = Raising.text_moments g desk key old fits can two three front2 text3

        pub signs3 : AtEachMoment g old three (SignsAtMost (slot_here desk (last_number desk)) (link_text (public_key key)))
        signs3 = weaker g old three _ _ same3 (λ d i now h. Raising.signs_none _ _ d i h)

        pub keys3 : AtEachMoment g old three (λ d i. HasKeys desk i)
        keys3 = Raising.text_keys g desk key old fits can two three front2 text3

        -- opening the gate signs the link
        module _ (four : D) (m4 : AtEachMoment g three four (AgreesOutside place (place + 1))) (blank : EachImage g two (IsBlankArea key end)) (stored : EachImage g three (λ i. text_at i place ≡ link_text (public_key key))) where
          gate4 : AtEachMoment g three four (AgreesOutside (place_in desk.base (last_number desk)) (place_in desk.base (last_number desk) + 1))
          gate4 = subst (λ (p : ℕ). AtEachMoment g three four (AgreesOutside p (p + 1))) place_here m4

          blank3 : EachImage g three (IsBlankArea key (place_in desk.base (slots_of desk.key.kind)))
          blank3 = Raising.blank_stays g desk key old fits can two three (subst (λ (p : ℕ). EachImage g two (IsBlankArea key p)) end_here blank) text3

          stored3 : EachImage g three (λ i. text_at i (place_in desk.base (last_number desk)) ≡ link_text (public_key key))
          stored3 = subst (λ (p : ℕ). EachImage g three (λ i. text_at i p ≡ link_text (public_key key))) place_here stored

          pub signs4 : AtEachMoment g old four (SignsAtMost (slot_here desk (last_number desk)) (link_text (public_key key)))
          signs4 = Raising.gate_moments g desk key old fits can three four same3 (Raising.texted g desk key old fits can two three front2 text3) blank3 stored3 gate4

          pub keys4 : AtEachMoment g old four (λ d i. HasKeys desk i)
          keys4 = Raising.gate_keys g desk key old fits can three four keys3 (Raising.texted g desk key old fits can two three front2 text3) gate4

          module _ (size : length (public_key key) ≡ 56) (gate : EachImage g four (λ i. gate_at i place ≡ 1)) where
            gate_is : EachImage g four (λ i. gate_at i (place_in desk.base (last_number desk)) ≡ 1)
            gate_is = subst (λ (p : ℕ). EachImage g four (λ i. gate_at i p ≡ 1)) place_here gate

            pub fits4 : IsSettled g four → Fits g (next_desk desk key) four
            fits4 = Raising.raised_fits g desk key old fits can three four same3 (Raising.texted g desk key old fits can two three front2 text3) blank3 stored3 gate4 (link_is (public_key key) size) gate_is

            pub signed4 : EachImage g four (λ i. IsSigned i (slot_here desk (last_number desk)) (link_text (public_key key)))
            signed4 = Raising.raised_signed g desk key old fits can three four same3 (Raising.texted g desk key old fits can two three front2 text3) blank3 stored3 gate4 (link_is (public_key key) size) gate_is
