-- Items gathered under DIJ and FULL for ends without a route are judged good.
use Rattle.std.proofs.Common.{◌≡◌, ◌≢◌, ℕ, ◌+◌, ◌==◌, min, max, Bool, true, false, cond, Option, None, Some, is_none, IsSome, Ok, [], inl, inr, refl, arith, ap, sym, ◌∙◌, subst}
use Rattle.std.specs.List.{Contains}
use Rattle.road_map.specs.declared.parts.Parts.{Parts}
use Rattle.road_map.specs.Walks.{Knows, Joins, IsDistance, distance}
use Rattle.road_map.specs.Maps.{IsMap}
use Rattle.road_map.proofs.WalkLaws.{distance-is}
use Rattle.road_search.specs.Passing.{Ways}
use Rattle.road_leaf.specs.declared.leaf.NodeLeaf.{NodeLeaf}
use Rattle.road_leaf.specs.declared.pair.PairLeaf.{PairLeaf}
use Rattle.book_model.specs.declared.items.Query.{Query}
use Rattle.book_model.specs.declared.items.Items.{Items}
use Rattle.book_model.specs.Books.{Kind, Dij, Full, Book}
use Rattle.proof_judge.specs.declared.refusal.Refusal.TheVariants.{MissingTuple, Shorter}
use Rattle.proof_judge.specs.ItemWalks.{item_at, any_ways}
use Rattle.proof_judge.specs.Judgement.{Then, pair_at, distance_in}
use Rattle.proof_judge.specs.Apart.{Leads, HasWay, said_apart, named_apart, joined_fault, by_fault, ApartTests, JudgedApart}
use Rattle.proof_judge.proofs.AllWalks.{lacking_way}
use Rattle.proof_method.specs.Gathering.{IsPairOf, AreUnjoined}
use Rattle.proof_method.specs.Apart.{IsGatheredApart}
use Rattle.proof_method.specs.Laws.{IsCompleteApart}
use Rattle.proof_method.proofs.Along.{IsOfMap, reaches_joins}
use Rattle.proof_method.proofs.Completes.{not_both, no_item}
use Rattle.proof_method.proofs.PairLaws.{pair_named, named_joins}
use Rattle.proof_method.proofs.RouteLaws.{have_arcs, items_of_map, roads_known}

-- if both ends have an item, no end lacks one
none_lacking : (from to : ℕ) (o p : Option NodeLeaf) → IsSome o → IsSome p → cond (is_none o) (Some from) (cond (is_none p) (Some to) None) ≡ None
none_lacking from to None p some other = cc
none_lacking from to (Some a) None some other = cc
none_lacking from to (Some a) (Some b) some other = refl

-- the gathered items pass the tests that all methods share
pub begins_apart : (k : Kind) (b : Book) (g : Items) (q : Query) → IsGatheredApart k b q g → ApartTests k b.numbers g q (Ok tt) → JudgedApart k b.numbers g q (Ok tt)
begins_apart k b g q h own =
    (None, h.distinct, subst (λ o. Then MissingTuple (ApartTests k b.numbers g q) o (Ok tt)) (sym (none_lacking q.from q.to (item_at g.nodes q.from) (item_at g.nodes q.to) ((h.nodes q.from).1 (inl (inl refl))) ((h.nodes q.to).1 (inl (inr refl))))) own)

-- a walk over authentic items is a walk of the map
pub leads_joins : (b : Book) (g : Items) (w : Ways) → IsOfMap b.parts w → (s t d : ℕ) → Knows b.parts s → Leads w s t d → Joins b.parts s t d
leads_joins b g w of s t d known r = reaches_joins b.parts w of s (d + 1) t d known r

pub complete_apart_dij : IsCompleteApart Dij
complete_apart_dij b g q m is h =
    let w : Ways = any_ways (item_at g.nodes) in
    let of : IsOfMap b.parts w = items_of_map b.parts g.nodes (λ _ _. true) (have_arcs b g h.authentic) in
    begins_apart Dij b g q h (
      None,
      (λ id l.
          let r : HasWay w q.from id × (w.arcs id ≡ None) = lacking_way w q.from id l in
          not_both (item_at g.nodes id) ((h.nodes id).1 (inr (r.0.0, leads_joins b g w of q.from id r.0.0 h.unjoined.0 r.0.1))) (no_item (item_at g.nodes id) r.1)),
      (None, (λ d r. h.unjoined.2 d (leads_joins b g w of q.from q.to d h.unjoined.0 r)), refl),
    )

-- the pair of two ids that no walk joins states no distance
module _ (parts : Parts) (m : IsMap parts) (g : Items) (pairs_of : (p : PairLeaf) → Contains g.pairs p → IsPairOf parts p) (b c sum : ℕ) (apart : (d : ℕ) → Joins parts b c d → ⊥) (differ : b ≢ c) (there : IsSome (pair_at g.pairs b c)) where
  silent : (p : PairLeaf) → pair_at g.pairs b c ≡ Some p → distance_in p ≡ None
  silent p is =
      let n : Contains g.pairs p × (p.a ≡ min b c) × (p.b ≡ max b c) = pair_named g.pairs b c p is in
      let of : IsPairOf parts p = pairs_of p n.0 in
      of.says ∙ by_distance p n.1 n.2 (distance parts p.a p.b) (distance-is parts (roads_known parts m) p.a p.b)
    where
      by_distance : (p : PairLeaf) → p.a ≡ min b c → p.b ≡ max b c → (o : Option ℕ) → IsDistance parts p.a p.b o → o ≡ None
      by_distance p first last None d = refl
      by_distance p first last (Some w) d = absurd (apart w (named_joins parts (roads_known parts m) b c w p.a p.b first last d.0))

  by_item : (o : Option PairLeaf) → pair_at g.pairs b c ≡ o → IsSome o → named_apart b c o ≡ None
  by_item None is some = cc
  by_item (Some p) is some = ap said_apart (silent p is)

  by_same : (t : Bool) → (b == c) ≡ t → cond t (Some (Shorter sum)) (named_apart b c (pair_at g.pairs b c)) ≡ None
  by_same true e = absurd (differ (grind (arith, e)))
  by_same false e = by_item (pair_at g.pairs b c) refl there

  pub apart_faultless : joined_fault g.pairs b c sum ≡ None
  apart_faultless = by_same (b == c) refl

-- ends that no walk joins are different
pub ends_differ : (parts : Parts) (q : Query) → AreUnjoined parts q → q.from ≢ q.to
ends_differ parts q h same = h.2 0 (record { walk = record { start = q.from; hops = [] }; known = h.0; starts = refl; follows = tt; ends = same; sums = refl })

pub complete_apart_full : IsCompleteApart Full
complete_apart_full b g q m is h =
    let differ : q.from ≢ q.to = ends_differ b.parts q h.unjoined in
    begins_apart Full b g q h (ap by_fault (sym (apart_faultless b.parts m g h.authentic.pairs q.from q.to 0 h.unjoined.2 differ (h.pairs q.from q.to (refl, refl, differ)))))
