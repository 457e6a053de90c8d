-- The list of the pairs that an image has signed, as a function of its octets.
use Rattle.std.specs.Prelude.{◌≡◌, ◌⊎◌, ℕ, zero, suc, ◌+◌, ◌==◌, ◌&&◌, Bool, nat_lt, nat_le, List, [], ◌∷◌, ◌++◌, length, take, if◌then◌else◌}
use Rattle.std.specs.Str.{bytes_eq}
use Rattle.lms_tree.specs.Links.{link_mark}
use Rattle.desk_areas.specs.Layout.{SlotId, slots_at, base_of, place_of, gate_at, gate_of, text_of, last_slot}

-- whether a text is a link text
abbrev pub is_link : List ℕ → Bool
is_link text = length text == 60 && bytes_eq (take 4 text) link_mark

-- whether a slot belongs to its area and all of it lies within the image
abbrev pub is_within : List ℕ → SlotId → Bool
is_within image slot = nat_lt slot.number (slots_at image (base_of image slot.area)) && nat_le
    (place_of image slot + 128) (length image)

-- whether the last slot of the area is spent with a link text
abbrev pub has_link : List ℕ → ℕ → Bool
has_link image area =
    is_within image (last_slot image area) &&
    (nat_lt 0 (gate_of image (last_slot image area)) && is_link
    (text_of image (last_slot image area)))

-- whether the area is open
unfoldable pub is_area_open : List ℕ → ℕ → Bool
is_area_open image zero = nat_lt 0 (gate_at image 0)
is_area_open image (suc area) = is_area_open image area && (has_link image area && nat_lt area 7)

-- whether the slot is spent and all of it lies within the image
abbrev pub is_spent : List ℕ → SlotId → Bool
is_spent image slot = nat_lt 0 (gate_of image slot) && nat_le (place_of image slot + 128)
    (length image)

-- the pairs of this many slots of an area, from a slot number on
abbrev pub signed_from : List ℕ → ℕ → ℕ → ℕ → List (SlotId × List ℕ)
signed_from image area number zero = []
signed_from image area number (suc n) =
    if is_spent image (record { area = area; number = number })
    then (
      record { area = area; number = number },
      text_of image (record { area = area; number = number }),
    ) ∷ signed_from image area
    (number + 1) n
    else signed_from image area (number + 1) n

-- the pairs of an area, if it is open
abbrev pub signed_in : List ℕ → ℕ → List (SlotId × List ℕ)
signed_in image area = if is_area_open image area then signed_from image area 0
    (slots_at image (base_of image area)) else []

-- the pairs of this many areas, from the first area on
unfoldable pub signed_before : List ℕ → ℕ → List (SlotId × List ℕ)
signed_before image zero = []
signed_before image (suc area) = signed_before image area ++ signed_in image area

-- the signed pairs of an image, by area and slot; there are none if the key gate is closed or the kind is unknown
abbrev pub signed : List ℕ → List (SlotId × List ℕ)
signed image = signed_before image 8

-- this pair is in the list
abbrev pub IsListed : List (SlotId × List ℕ) → SlotId → List ℕ → Type 0
IsListed [] slot text = ⊥
IsListed (pair ∷ pairs) slot text = ((pair.0 ≡ slot) × (pair.1 ≡ text)) ⊎ IsListed pairs slot text
