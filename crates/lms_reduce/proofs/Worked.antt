-- The definitions of released values, evaluated for some steps. A changed definition fails here.
use Rattle.std.proofs.Common.{◌≡◌, ℕ, ◌+◌, ◌<◌, ◌≤◌, List, slice_index, Some, None, arith, refl}
use Rattle.sha2.specs.Sha256.{sha256}
use Rattle.octet_text.specs.Collisions.{AreCollision}
use Rattle.lms_ots.specs.Chains.{chain_of, secret_of, digits_of, randomiser_of}
use Rattle.lms_tree.specs.Signatures.{KeyOf}
use Rattle.lms_reduce.specs.Meetings.{own_step, shown_step, MeetInChain}
use Rattle.lms_reduce.specs.Released.{signed_digits, own_value, IsUnreleased}

-- a value that a slot's signature shows is released
shown_is_released : (key : KeyOf) (slot at : ℕ) (text : List ℕ) → IsUnreleased key slot (Some text) at (slice_index (signed_digits key slot text) at) → ⊥
shown_is_released key slot at text h = omega (arith, h)

-- the value one step before it is not
before_is_not : (key : KeyOf) (slot at step : ℕ) (text : List ℕ) → slice_index (signed_digits key slot text) at ≡ step + 1 → IsUnreleased key slot (Some text) at step
before_is_not key slot at step text is = omega (arith, is)

-- a slot that signed no text has released nothing
nothing_is_released : (key : KeyOf) (slot at step : ℕ) → IsUnreleased key slot None at step
nothing_is_released key slot at step = tt

-- the digits are those of the signed text, under the slot's own number and C
digits_are : (key : KeyOf) (slot : ℕ) (text : List ℕ) → signed_digits key slot text ≡ digits_of key.i slot (randomiser_of key.i slot key.seed) text
digits_are key slot text = refl

value_is : (key : KeyOf) (slot at step : ℕ) → own_value key slot at step ≡ chain_of key.i slot at 0 step (secret_of key.i slot key.seed at)
value_is key slot at step = refl

-- no step from the digit up to the one where two texts meet hashes different texts to one digest, not even the step
-- just before it
first_of_a_chain : (i : List ℕ) (q : ℕ) (seed digits ots left right : List ℕ) (m : MeetInChain i q seed digits ots left right) (b : ℕ) → slice_index digits m.at ≤ b → b + 1 ≡ m.number → AreCollision sha256 (own_step i q seed m.at b) (shown_step i q digits ots m.at b) → ⊥
first_of_a_chain i q seed digits ots left right m b later is = m.first b later (omega (arith, is))
