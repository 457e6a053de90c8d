-- The values read from the areas of a disk.
use Rattle.std.specs.Prelude.{◌≡◌, ℕ, suc, ◌+◌, ◌-◌, ◌<◌, ◌≤◌, List, length, slice_index_or}
use Rattle.std.specs.declared.option.Option.{Option}
use Rattle.std.specs.declared.option.Option.TheVariants.{None, Some}
use Rattle.lms_tree.specs.Signatures.{KeyOf, public_key}
use Rattle.lms_tree.specs.Links.{IsLink, link_text}
use Rattle.desk_areas.specs.declared.area.Count.{Count}
use Rattle.desk_areas.specs.declared.area.Count.TheVariants
use Rattle.desk_areas.specs.Layout.{slots_of, slots_at, place_in, base_of, gate_at, text_at, text_of, last_slot, IsAreaOpen}
use Rattle.desk_areas.specs.Keys.{key_at}
use Rattle.desk_areas.specs.Area.{AreaView, area_in}

-- ---- searching for a text

-- the first areas of the image have the slots counted here, and all of these slots lie within the image
pub record IsLaidOut (areas : List AreaView) (image : List ℕ) : Type 0 where
  pub slots : (area : ℕ) → area < length areas →
      slots_at image (base_of image area) ≡ length (area_in areas area).counts
  pub whole : (area : ℕ) → area < length areas → base_of image (suc area) ≤ length image

-- a slot of the area at a base counts as spent, and holds this text
pub record FindsIn (counts : List Count) (base : ℕ) (text image : List ℕ) : Type 0 where
  pub number : ℕ
  pub known : number < length counts
  pub spent : slice_index_or counts number TheVariants.Spent ≡ TheVariants.Spent
  pub text_is : text_at image (place_in base number) ≡ text

-- a slot of one of the first areas counts as spent, and holds this text
pub record FindsEarlier (areas : List AreaView) (text image : List ℕ) : Type 0 where
  pub area : ℕ
  pub known : area < length areas
  pub finds : FindsIn (area_in areas area).counts (base_of image area) text image

-- ---- reading one area

-- a slot before the last one counts as spent, and holds a link text
pub record HasStray (counts : List Count) (base : ℕ) (image : List ℕ) : Type 0 where
  pub number : ℕ
  pub early : number + 1 < length counts
  pub spent : slice_index_or counts number TheVariants.Spent ≡ TheVariants.Spent
  pub link : IsLink (text_at image (place_in base number))

-- the states agree with the gates in the area at a base
pub record HasGates (counts : List Count) (base : ℕ) (image : List ℕ) : Type 0 where
  pub free : (number : ℕ) → number < length counts →
      slice_index_or counts number TheVariants.Spent ≡ TheVariants.Free →
      gate_at image (place_in base number) ≡ 0
  pub spent : (number : ℕ) → number < length counts →
      slice_index_or counts number TheVariants.Spent ≡ TheVariants.Spent →
      0 < gate_at image (place_in base number)

-- the key and the states are those of the area at a base; the area itself can be used
pub record IsReadArea (area : AreaView) (base : ℕ) (image : List ℕ) : Type 0 where
  pub key : area.key ≡ key_at image base
  pub known : 0 < slots_of area.key.kind
  pub within : place_in base (slots_of area.key.kind) ≤ length image
  pub gates : HasGates area.counts base image
  pub plain : HasStray area.counts base image → ⊥

-- a text is the link to a key
pub record IsLinkTo (text key : List ℕ) : Type 0 where
  pub link : IsLink text
  pub is : text ≡ link_text key

-- the last slot at a base counts as spent and holds the link to a key; or there is no such link
abbrev pub IsLastLink : List Count → ℕ → Option (List ℕ) → List ℕ → Type 0
IsLastLink counts base (Some key) image =
    (slice_index_or counts (length counts - 1) TheVariants.Spent ≡ TheVariants.Spent) ×
    IsLinkTo (text_at image (place_in base (length counts - 1))) key
IsLastLink counts base None image = slice_index_or counts
    (length counts - 1) TheVariants.Spent ≡ TheVariants.Spent →
    IsLink (text_at image (place_in base (length counts - 1))) → ⊥

-- ---- reading all areas

-- the link before an area names the area's key; no link comes before the first area
abbrev pub IsNamed : Option (List ℕ) → KeyOf → Type 0
IsNamed (Some key) area = public_key area ≡ key
IsNamed None area = Unit {0}

-- the link before the area with a number, if an area comes before it
abbrev pub IsLinkBefore : ℕ → Option (List ℕ) → List ℕ → Type 0
IsLinkBefore area (Some key) image = (before : ℕ) × (area ≡ suc before) ×
    (text_of image (last_slot image before) ≡ link_text key)
IsLinkBefore area None image = area ≡ 0

-- these are the first areas of the image; the next area is open, begins at a base, and this link comes before it
pub record HasRead (areas : List AreaView) (base : ℕ) (named : Option (List ℕ))
    (image : List ℕ) : Type 0 where
  pub is_open : IsAreaOpen image (length areas)
  pub based : base_of image (length areas) ≡ base
  pub each : (area : ℕ) → area < length areas →
      IsReadArea (area_in areas area) (base_of image area) image
  pub linked : (area : ℕ) → suc area < length areas →
      text_of image (last_slot image area) ≡ link_text (public_key (area_in areas (suc area)).key)
  pub before : IsLinkBefore (length areas) named image
