-- The identifiers of the keys on an owner's disk. Source: RFC 8554, section 5.1 and appendix A: a key
-- derives its one-time keys from its identifier I, their numbers and its seed.
use Rattle.std.specs.Prelude.{◌≡◌, ℕ, List}
use Rattle.desk_areas.specs.Layout.{IsAreaOpen}
use Rattle.key_desk.specs.Stands.{key_in}

-- no two open areas of the image have keys with the same identifier
abbrev pub HasDistinctNames : List ℕ → Type 0
HasDistinctNames image = (a b : ℕ) → IsAreaOpen image a → IsAreaOpen image b →
    (key_in image a).i ≡ (key_in image b).i → a ≡ b
