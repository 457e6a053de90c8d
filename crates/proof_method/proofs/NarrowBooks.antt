-- Walks over a book's leaves use few ids and short arcs.
use Rattle.std.proofs.Common.{◌≡◌, ℕ, ◌<◌, ◌≤◌, ◌^◌, Bool, Option, None, Some, IsSome, List, length, refl, arith, subst}
use Rattle.std.specs.List.{Contains}
use Rattle.std.proofs.lemmas.List.{length-map}
use Rattle.road_map.specs.declared.arc.Arc.{Arc}
use Rattle.road_map.specs.declared.parts.Node.{Node}
use Rattle.road_map.specs.Walks.{Knows, ids}
use Rattle.road_map.specs.ArcsOut.{arcs_out}
use Rattle.road_map.specs.Maps.{IsMap}
use Rattle.road_map.proofs.ArcLaws.{HopOf, arcs_out-sound}
use Rattle.road_map.proofs.ChartLaws.{road_place}
use Rattle.book_model.specs.Books.{Book, leaf}
use Rattle.proof_judge.specs.ItemWalks.{leaf_ways}
use Rattle.proof_judge.specs.SharedTests.{HasAtMost, IsNarrow}
use Rattle.proof_judge.proofs.LowWalks.{at_most_from}
use Rattle.proof_method.proofs.BookLaws.{book_of_map}

module _ (b : Book) (m : IsMap b.parts) (lets : ℕ → ℕ → Bool) where
  known : (id : ℕ) → IsSome ((leaf_ways lets (leaf b)).arcs id) → Knows b.parts id
  known id some = by_out ((leaf_ways lets (leaf b)).arcs id) refl some
    where
      by_out : (o : Option (List Arc)) → (leaf_ways lets (leaf b)).arcs id ≡ o → IsSome o → Knows b.parts id
      by_out None is some = cc
      by_out (Some out) is some = (book_of_map b lets id out is).1

  -- at most as many as the map has nodes
  pub book_at_most : HasAtMost 65536 (leaf_ways lets (leaf b))
  book_at_most = at_most_from (leaf_ways lets (leaf b)) (ids b.parts.nodes) 65536 (let few : length b.parts.nodes ≤ 65536 = m.sized.1 in omega (arith, few, length-map b.parts.nodes (λ (n : Node). n.id))) known

  pub book_narrow : IsNarrow (leaf_ways lets (leaf b))
  book_narrow = record {
    few = λ xs distinct enter. omega (arith, book_at_most xs distinct enter);
    short = λ id out a e c.
        (let of : (out ≡ arcs_out b.parts.roads id) × Knows b.parts id = book_of_map b lets id out e in
        let h : HopOf b.parts.roads id a = arcs_out-sound b.parts.roads id a (subst (λ x. Contains x a) of.0 c) in
        let few : h.hop.road.length < 2 ^ 32 = (road_place b.parts h.hop.road m.joined h.among).3 in
        subst (λ n. n < 2 ^ 32) h.long few);
  }
