-- Chains and paths up a tree, over any hash. Over SHA-256 they are those of RFC 8554, § 4.3 and § 5.4.2.
use Rattle.std.specs.Prelude.{ℕ, zero, suc, ◌+◌, ◌*◌, ◌/◌, ◌^◌, List, take, drop}
use Rattle.lms_reduce.specs.Texts.{step_text, parent_text}

-- the given number of steps of chain at; from is the number of the first one
unfoldable pub walked : (List ℕ → List ℕ) → List ℕ → ℕ → ℕ → ℕ → ℕ → List ℕ → List ℕ
walked hash i q at from zero x = x
walked hash i q at from (suc count) x = hash
    (step_text i q at (from + count) (walked hash i q at from count x))

-- the value this many levels above node r, along the path of sibling values
unfoldable pub raised : (List ℕ → List ℕ) → List ℕ → ℕ → List ℕ → List ℕ → ℕ → List ℕ
raised hash i r value path zero = value
raised hash i r value path (suc n) =
    hash (parent_text i (r / 2 ^ n) (raised hash i r value path n) (take 32 (drop (32 * n) path)))
