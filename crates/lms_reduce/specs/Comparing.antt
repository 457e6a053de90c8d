-- Which values in a signature are the key's own.
use Rattle.std.specs.Prelude.{ℕ, ◌≡◌, ◌<◌, ◌≤◌, ◌+◌, ◌*◌, List, take, drop, slice_index}
use Rattle.lms_ots.specs.Chains.{chain_of, ended_value, public_value, secret_of}

-- each chain ends at the key's own public value
pub record EndsOwn (i : List ℕ) (q : ℕ) (seed digits ots : List ℕ) : Type 0 where
  pub ends : (at : ℕ) → at < 34 → ended_value i q digits ots at ≡ public_value i q seed at

-- each value is the key's own: it is as many steps from the secret value as its digit
pub record ShowsOwn (i : List ℕ) (q : ℕ) (seed digits ots : List ℕ) : Type 0 where
  pub values : (at : ℕ) → at < 34 →
      take 32 (drop (36 + 32 * at) ots) ≡ chain_of i q at 0 (slice_index digits at)
      (secret_of i q seed at)

-- the first index at which one list of 34 digits has a lesser digit than another list
pub record IsFirstLesser (digits others : List ℕ) (at : ℕ) : Type 0 where
  pub place : at < 34
  pub lesser : slice_index digits at < slice_index others at
  pub before : (b : ℕ) → b < at → slice_index others b ≤ slice_index digits b

-- no digit is less than the digit of the other list
pub record HasNoLesser (digits others : List ℕ) : Type 0 where
  pub none : (b : ℕ) → b < 34 → slice_index others b ≤ slice_index digits b
