-- The meaning of the octets of a slot.
use Rattle.std.specs.Prelude.{◌≡◌, ◌≢◌, ℕ, ◌+◌, ◌<◌, ◌≤◌, List, get_or}
use Rattle.desk_areas.specs.Layout.{text_at}
use Rattle.proof_octets.specs.Headers.{header}
use Rattle.proof_octets.specs.declared.header.Header.{Header}
use Rattle.desk_sight.specs.declared.slots.Signed.{Signed}

-- the octets of an image from one offset up to another are zero
abbrev pub IsZeroFrom : ℕ → ℕ → List ℕ → Type 0
IsZeroFrom from to image = (k : ℕ) → from ≤ k → k < to → get_or image k 0 ≡ 0

-- a root other than zeros
pub record IsSomeRoot (root : List ℕ) : Type 0 where
  pub place : ℕ
  pub some : get_or root place 0 ≢ 0

-- The slot at an offset has a text of 104 octets that is a header with a root other than zeros. These facts about
-- it are reported.
pub record HasHeader (image : List ℕ) (place : ℕ) (signed : Signed) : Type 0 where
  pub whole : Header
  pub fits : header.Fits whole
  pub long : get_or image (place + 1) 0 ≡ 104
  pub text : text_at image place ≡ header.spell whole
  pub root : IsSomeRoot whole.node_root
  pub version : signed.version ≡ whole.version
  pub nodes : signed.nodes ≡ whole.nodes
