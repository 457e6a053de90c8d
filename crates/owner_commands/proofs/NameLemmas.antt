-- No two open areas have keys with the same identifier, if a desk fits the disk.
use Rattle.std.proofs.Common.{◌≡◌, inl, inr, ℕ, ◌<◌, ◌≤◌, List, length, arith, refl, sym, ap, ◌∙◌}
use Rattle.std.proofs.lemmas.Bool.{cases_lt}
use Rattle.road_io.specs.declared.disk.Disk.{Ghosts}
use Rattle.road_io.specs.Moments.{Image, EachImage, AtEachMoment}
use Rattle.road_io.proofs.MomentLaws.{weaker, at_end}
use Rattle.road_map.specs.declared.parts.Parts.{Parts}
use Rattle.book_model.specs.declared.settings.Settings.{Settings}
use Rattle.lms_tree.specs.Signatures.{KeyOf}
use Rattle.desk_areas.specs.Layout.{base_of, IsAreaOpen, IsCurrent}
use Rattle.desk_areas.proofs.Areas.{open_down}
use Rattle.desk_areas.proofs.Growth.{open_upto}
use Rattle.key_desk.specs.declared.desk.Desk.{Desk}
use Rattle.key_desk.specs.Desk.{key_of, HasAreas, IsSound, Fits}
use Rattle.key_desk.specs.Stands.{key_in, SameKeys}
use Rattle.key_desk.proofs.Puts.{puts_outside}
use Rattle.key_desk.proofs.ReadGood.{key_is}
use Rattle.key_desk.proofs.KeptKeys.{stays_keys, slot_keys}
use Rattle.proof_octets.specs.Headers.{header_text}
use Rattle.route_owner.specs.Published.{SignsHeader}
use Rattle.owner_commands.specs.Names.{HasDistinctNames}

-- an image whose open areas have the keys of a sound desk
distinct_in : (desk : Desk) (i : List ℕ) → IsSound desk → ((area : ℕ) → IsAreaOpen i area → (area ≤ length desk.earlier) × (key_in i area ≡ key_of desk area)) → HasDistinctNames i
distinct_in desk i sound there a b open_a open_b same =
    let at_a = there a open_a in
    let at_b = there b open_b in
    let one : (key_of desk a).i ≡ (key_of desk b).i = ap (λ (k : KeyOf). k.i) (sym at_a.1) ∙ same ∙ ap (λ (k : KeyOf). k.i) at_b.1 in
    elim (cases_lt a b) [
      | inl lt ↦ absurd (sound.distinct a b lt at_b.0 one)
      | inr ge ↦ elim (cases_lt b a) [
        | inl lt ↦ absurd (sound.distinct b a lt at_a.0 (sym one))
        | inr le ↦ omega (arith, ge, le)
      ]
    ]

-- the key of a desk's area is in the image
pub held_in : (desk : Desk) (i : List ℕ) → IsSound desk → HasAreas desk i → (area : ℕ) → area ≤ length desk.earlier → key_in i area ≡ key_of desk area
held_in desk i sound areas area le = key_is (key_of desk area) (base_of i area) i (areas.keys area le) (sound.named area le)

pub names_in : (desk : Desk) (i : List ℕ) → IsSound desk → HasAreas desk i → HasDistinctNames i
names_in desk i sound areas = distinct_in desk i sound (λ area is_open.
    let le = open_upto i (length desk.earlier) area areas.current is_open in
    (le, held_in desk i sound areas area le))

pub names_on : {D : Type 0} (g : Ghosts D) (desk : Desk) (disk : D) → Fits g desk disk → EachImage g disk HasDistinctNames
names_on g desk disk fits i now = names_in desk i fits.sound (fits.areas i now)

-- signing a header keeps the keys
pub keys_signed : {D : Type 0} (g : Ghosts D) (old new : D) (hash : List ℕ → List ℕ) (parts : Parts) (s : Settings) → SignsHeader g old new hash parts s → AtEachMoment g old new SameKeys
keys_signed g old new hash parts s signs = weaker g old new _ SameKeys signs.each
    (λ d i now h. elim h [ inl is ↦ stays_keys d i is | inr one ↦ slot_keys signs.slot d i (puts_outside signs.slot (header_text signs.header) d i (let short = one.short in omega (arith, short)) one.alone) (omega (arith, one.early)) ])

-- steps that keep the keys and open no area
module _ {D : Type 0} (g : Ghosts D) (desk : Desk) (mid new : D) (fits : Fits g desk mid) (keys : AtEachMoment g mid new SameKeys) (current : EachImage g new (λ i. IsCurrent i (length desk.earlier))) where
  pub held_after : (i : List ℕ) → Image g new i → (area : ℕ) → area ≤ length desk.earlier → key_in i area ≡ key_of desk area
  held_after i now area le =
      let d = at_end g mid new SameKeys keys i now in
      let areas = fits.areas d.0 d.1 in
      d.2 area (open_down d.0 area (length desk.earlier) le areas.current.is_open) ∙ held_in desk d.0 fits.sound areas area le

  pub names_after : EachImage g new HasDistinctNames
  names_after i now = distinct_in desk i fits.sound (λ area is_open.
      let le = open_upto i (length desk.earlier) area (current i now) is_open in
      (le, held_after i now area le))
