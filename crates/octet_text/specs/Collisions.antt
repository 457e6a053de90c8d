-- Collisions of a hash.
use Rattle.std.specs.Prelude.{◌≡◌, ◌≢◌, ℕ, List}
use Rattle.octet_text.specs.Exact.{IsBytes}

-- Two different texts with the same digest. Both consist of octets: the definition of SHA-256 also takes lists of
-- greater numbers, and gives some of these lists the same digest.
pub record AreCollision (hash : List ℕ → List ℕ) (left right : List ℕ) : Type 0 where
  pub left_octets : IsBytes left
  pub right_octets : IsBytes right
  pub differ : left ≢ right
  pub one_digest : hash left ≡ hash right
