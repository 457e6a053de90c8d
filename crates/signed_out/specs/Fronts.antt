-- Whether octets begin with a header that a key has signed.
use Rattle.std.specs.Prelude.{◌≡◌, ◌⊎◌, ℕ, ◌+◌, ◌&&◌, Bool, true, nat_le, List, [], length, take, drop, is_ok}
use Rattle.std.specs.Int.{w16, from_be_bytes}
use Rattle.std.specs.declared.option.Option.{Option}
use Rattle.std.specs.declared.option.Option.TheVariants.{None, Some}
use Rattle.lms_tree.specs.Signatures.{verified}

-- a signature by this key is valid for a header (RFC 8554, § 5.4.2)
unfoldable pub is_verified : List ℕ → List ℕ → List ℕ → Bool
is_verified key header signature = is_ok (verified key header signature)

-- the number of octets in the signature of a publication: the number in the two octets at offset 108
unfoldable pub seal_length : List ℕ → ℕ
seal_length octets = from_be_bytes w16 (take 2 (drop 108 octets))

-- the header at offset 4 and the signature at offset 110 exist, and the signature by this key is valid for the
-- header
unfoldable pub is_signed : List ℕ → List ℕ → Bool
is_signed key octets = nat_le 110 (length octets) && nat_le (110 + seal_length octets) (length octets) &&
    is_verified key (take 104 (drop 4 octets)) (take (seal_length octets) (drop 110 octets))

-- the same for the expected key, if there is one
abbrev pub is_signed_by : Option (List ℕ) → List ℕ → Bool
is_signed_by None octets = true
is_signed_by (Some key) octets = is_signed key octets

-- The written octets agree with octets that begin with a header and its signature by this key: one text is a prefix
-- of the other.
pub record IsSignedOut (key out : List ℕ) : Type 0 where
  pub front : List ℕ
  pub signed : is_signed key front ≡ true
  pub agrees : (out ≡ take (length out) front) ⊎ (front ≡ take (length front) out)

-- nothing was written, or the written octets are signed by the expected key, if there is one
abbrev pub GoesOut : Option (List ℕ) → List ℕ → Type 0
GoesOut None out = Unit {0}
GoesOut (Some key) out = (out ≡ []) ⊎ IsSignedOut key out
