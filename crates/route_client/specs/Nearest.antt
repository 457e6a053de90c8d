-- The listed nodes among those within a radius, nearest first. Source: Papadias, Zhang, Mamoulis and Tao, VLDB
-- 2003: nearest neighbours in a road network, by network distance. Ties are broken by id; this is the program's
-- profile.
use Rattle.std.specs.Prelude.{◌≡◌, ℕ, ◌↔◌, List, Contains, length, take}
use Rattle.std.specs.List.Sorted.{IsStrictlySortedBy}
use Rattle.std.specs.Ordering.{nat_cmp, ordering_then}
use Rattle.std.specs.declared.cmp.Ordering.{Ordering}
use Rattle.proof_octets.specs.declared.marks.Mark.{Mark}
use Rattle.route_client.specs.declared.picking.Picked.{Picked}

-- by distance, then by id
abbrev pub nearer_cmp : Mark → Mark → Ordering
nearer_cmp one other = ordering_then (nat_cmp one.distance other.distance)
    (nat_cmp one.id other.id)

-- Exactly the marks that satisfy P and whose ids are listed, nearest first. Each appears once, however
-- often its id is listed.
pub record AreRanked (P : Mark → Type 0) (ids : List ℕ) (marks : List Mark) : Type 0 where
  pub rising : IsStrictlySortedBy nearer_cmp marks
  pub same : (m : Mark) → Contains marks m ↔ (P m × Contains ids m.id)

-- the first `most` of the listed marks, and the number of all of them
pub record PicksNearest (P : Mark → Type 0) (ids : List ℕ) (most : ℕ) (x : Picked) : Type 0 where
  pub all : List Mark
  pub ranked : AreRanked P ids all
  pub nodes : x.nodes ≡ take most all
  pub count : x.count ≡ length all
