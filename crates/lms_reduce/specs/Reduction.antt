-- The result of reducing a forgery: a collision of the hash, or a value of a chain that only the owner could know.
use Rattle.std.specs.Prelude.{ℕ, ◌≡◌, ◌⊎◌, ◌<◌, ◌≤◌, ◌+◌, ◌*◌, List, take, drop, slice_index, Option, Some, Ok}
use Rattle.sha2.specs.Sha256.{sha256}
use Rattle.octet_text.specs.Collisions.{AreCollision}
use Rattle.lms_tree.specs.Signatures.{KeyOf, number_at, public_key, verified}
use Rattle.lms_reduce.specs.Meetings.{MeetOnWay, MeetSigned}
use Rattle.lms_reduce.specs.Released.{claimed_digits, own_value, IsUnreleased}
use Rattle.lms_reduce.specs.declared.reduced.Reduced.{Reduced}
use Rattle.lms_reduce.specs.declared.reduced.Reduced.TheVariants.{Collision, Chain}

-- a valid signature; its slot, with this number, has signed the same text
pub record IsOfSigned (key : KeyOf) (spent : Option (List ℕ)) (text sig : List ℕ)
    (slot : ℕ) : Type 0 where
  pub good : verified (public_key key) text sig ≡ Ok tt
  pub signed : spent ≡ Some text
  pub of_slot : slot ≡ number_at sig 0

-- the signature shows a value of the key's own chain that its slot has not released, and this chain is the first
-- such
pub record ShowsUnreleased (key : KeyOf) (spent : Option (List ℕ)) (text sig : List ℕ)
    (slot at step : ℕ) (value : List ℕ) : Type 0 where
  pub of_slot : slot ≡ number_at sig 0
  pub place : at < 34
  pub of_digit : step ≡ slice_index (claimed_digits key text sig) at
  pub shown : value ≡ take 32 (drop (40 + 32 * at) sig)
  pub own : value ≡ own_value key slot at step
  pub unreleased : IsUnreleased key slot spent at step
  pub least : (b : ℕ) → b < 34 → IsUnreleased key slot spent b
      (slice_index (claimed_digits key text sig) b) → at ≤ b

-- A collision between the check of a signature and the key itself. The left text is the key's own, and the right
-- one is hashed from the signature.
pub record CollidesWithOwn (key : KeyOf) (spent : Option (List ℕ)) (text sig left right : List ℕ) :
    Type 0 where
  pub collide : AreCollision sha256 left right
  pub meet : MeetOnWay key (number_at sig 0) text sig left right
      ⊎ MeetSigned key spent text sig left right

-- the result of reducing a signature of a text, if its slot has signed no text or another one
abbrev pub Reduces : KeyOf → Option (List ℕ) → List ℕ → List ℕ → Reduced → Type 0
Reduces key spent text sig (Collision left right) = CollidesWithOwn key spent text sig left right
Reduces key spent text sig (Chain slot at step value) = ShowsUnreleased key spent text sig slot at
    step value
