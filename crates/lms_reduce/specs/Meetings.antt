-- Where two paths to the same digest meet. There, the key's own path hashes the left text, and the signature's path
-- hashes the right one.
use Rattle.std.specs.Prelude.{◌≡◌, ◌⊎◌, ℕ, ◌+◌, ◌-◌, ◌*◌, ◌/◌, ◌^◌, ◌<◌, ◌≤◌, List, take, drop, slice_index, Option, Some}
use Rattle.sha2.specs.Sha256.{sha256}
use Rattle.octet_text.specs.Collisions.{AreCollision}
use Rattle.lms_ots.specs.Chains.{chain_of, secret_of, public_value, public_of, ended_value, candidate_of, randomiser_of}
use Rattle.lms_tree.specs.Signatures.{KeyOf, height_of, node_of, path_node, leaf_of, climbed, number_at}
use Rattle.lms_reduce.specs.Released.{claimed_digits}
use Rattle.lms_reduce.specs.Texts.{step_text, parent_text, leaf_text, values_text, message_text}
use Rattle.lms_reduce.specs.Ways.{walked, raised}

-- ---- over any hash

-- the text that the step with a number hashes in chain at, on the way from the value before step from
abbrev pub text_of_step : (List ℕ → List ℕ) → List ℕ → ℕ → ℕ → ℕ → List ℕ → ℕ → List ℕ
text_of_step hash i q at from x number = step_text i q at number
    (walked hash i q at from (number - from) x)

-- the text that is hashed this many levels above node r, along a path
abbrev pub text_above : (List ℕ → List ℕ) → List ℕ → ℕ → List ℕ → List ℕ → ℕ → List ℕ
text_above hash i r value path level = parent_text i (r / 2 ^ level)
    (raised hash i r value path level) (take 32 (drop (32 * level) path))

-- the first step, with this number or a greater one, at which the chains from two values hash different texts to
-- the same digest
pub record IsFirstMeeting (hash : List ℕ → List ℕ) (i : List ℕ) (q at from : ℕ)
    (x y left right : List ℕ) : Type 0 where
  pub number : ℕ
  pub later : from ≤ number
  pub within : number < 255
  pub of_left : left ≡ text_of_step hash i q at from x number
  pub of_right : right ≡ text_of_step hash i q at from y number
  pub first : (b : ℕ) → from ≤ b → b < number → ¬ AreCollision hash
      (text_of_step hash i q at from x b) (text_of_step hash i q at from y b)

-- the highest of this many levels at which two paths up from node r hash different texts to the same digest
pub record IsHighestMeeting (hash : List ℕ → List ℕ) (i : List ℕ) (r : ℕ)
    (x x_path y y_path : List ℕ) (levels : ℕ) (left right : List ℕ) : Type 0 where
  pub level : ℕ
  pub within : level < levels
  pub of_left : left ≡ text_above hash i r x x_path level
  pub of_right : right ≡ text_above hash i r y y_path level
  pub highest : (above : ℕ) → level < above → above < levels → ¬ AreCollision hash
      (text_above hash i r x x_path above) (text_above hash i r y y_path above)

-- ---- for a key and a signature

-- the text that the key hashes at the parent of the node this many levels above leaf q
abbrev pub own_node : KeyOf → ℕ → ℕ → List ℕ
own_node key q level =
    let h = height_of key.kind in
    let r = (2 ^ h + q) / 2 ^ level in
    parent_text key.i r (node_of key.i key.seed h level r) (path_node key.i key.seed h q level)

-- the text that the check hashes there, from the signature's path
abbrev pub shown_node : KeyOf → ℕ → List ℕ → List ℕ → ℕ → List ℕ
shown_node key q text sig level =
    let leaf = 2 ^ height_of key.kind + q in
    let value = leaf_of key.i leaf (candidate_of key.i q (take 1124 (drop 4 sig)) text) in
    parent_text key.i (leaf / 2 ^ level) (climbed key.i leaf value sig 1132 level)
    (take 32 (drop (1132 + 32 * level) sig))

-- the collision is at the node nearest to the root at which the two paths to the root collide
pub record MeetAtNode (key : KeyOf) (q : ℕ) (text sig left right : List ℕ) : Type 0 where
  pub level : ℕ
  pub within : level < height_of key.kind
  pub own : left ≡ own_node key q level
  pub shown : right ≡ shown_node key q text sig level
  pub highest : (above : ℕ) → level < above → above < height_of key.kind → ¬ AreCollision sha256
      (own_node key q above) (shown_node key q text sig above)

-- the collision is at the leaf
pub record MeetAtLeaf (key : KeyOf) (q : ℕ) (text sig left right : List ℕ) : Type 0 where
  pub own : left ≡ leaf_text key.i (2 ^ height_of key.kind + q) (public_of key.i q key.seed)
  pub shown : right ≡ leaf_text key.i (2 ^ height_of key.kind + q)
      (candidate_of key.i q (take 1124 (drop 4 sig)) text)

-- the collision is at the ends of the chains
pub record MeetAtEnds (i : List ℕ) (q : ℕ) (seed digits ots left right : List ℕ) : Type 0 where
  pub own : left ≡ values_text i q (public_value i q seed)
  pub shown : right ≡ values_text i q (ended_value i q digits ots)

-- the text that a step of a chain hashes, from the key's own value
abbrev pub own_step : List ℕ → ℕ → List ℕ → ℕ → ℕ → List ℕ
own_step i q seed at number = step_text i q at number
    (chain_of i q at 0 number (secret_of i q seed at))

-- the text that the step hashes, from the value in a one-time signature
abbrev pub shown_step : List ℕ → ℕ → List ℕ → List ℕ → ℕ → ℕ → List ℕ
shown_step i q digits ots at number =
    let digit = slice_index digits at in step_text i q at number
    (chain_of i q at digit (number - digit) (take 32 (drop (36 + 32 * at) ots)))

-- the collision is at the first step after the digit at which the two ways along the chain collide
pub record MeetInChain (i : List ℕ) (q : ℕ) (seed digits ots left right : List ℕ) : Type 0 where
  pub at : ℕ
  pub place : at < 34
  pub number : ℕ
  pub later : slice_index digits at ≤ number
  pub within : number < 255
  pub own : left ≡ own_step i q seed at number
  pub shown : right ≡ shown_step i q digits ots at number
  pub first : (b : ℕ) → slice_index digits at ≤ b → b < number → ¬ AreCollision sha256
      (own_step i q seed at b) (shown_step i q digits ots at b)

-- the collision is between the two messages
pub record MeetAtMessages (i : List ℕ) (q : ℕ) (seed own_text c text left right : List ℕ) :
    Type 0 where
  pub own : left ≡ message_text i q (randomiser_of i q seed) own_text
  pub shown : right ≡ message_text i q c text

-- the collision is somewhere on the way from the digits of a text to the root
abbrev pub MeetOnWay : KeyOf → ℕ → List ℕ → List ℕ → List ℕ → List ℕ → Type 0
MeetOnWay key q text sig left right = MeetAtNode key q text sig left right
    ⊎ (MeetAtLeaf key q text sig left right
    ⊎ (MeetAtEnds key.i q key.seed (claimed_digits key text sig) (take 1124 (drop 4 sig)) left right
    ⊎ MeetInChain key.i q key.seed (claimed_digits key text sig) (take 1124 (drop 4 sig)) left
    right))

-- the collision is between the text and another text that the slot has signed
pub record MeetSigned (key : KeyOf) (spent : Option (List ℕ)) (text sig left right : List ℕ) :
    Type 0 where
  pub other : List ℕ
  pub signed : spent ≡ Some other
  pub at : MeetAtMessages key.i (number_at sig 0) key.seed other (take 32 (drop 8 sig)) text left
      right
