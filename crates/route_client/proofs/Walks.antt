-- The relation between a search over the items and the walks over them.
use Rattle.std.proofs.Common.{◌≡◌, ℕ, ◌+◌, ◌^◌, inl, inr, Option, None, Some, IfSome, List, arith, sym, subst}
use Rattle.road_map.specs.Least.{IsLeast}
use Rattle.road_map.proofs.LeastLaws.{IsLeast-unique}
use Rattle.road_search.specs.Labelling.{Found, IsWay, length_at, route_at}
use Rattle.road_search.specs.Passing.{Ways, LetsShorter, Reaches, IsLeastPassing}
use Rattle.road_search.proofs.WholeMapLaws.{least_higher}
use Rattle.road_leaf.specs.declared.leaf.NodeLeaf.{NodeLeaf}
use Rattle.proof_judge.specs.Apart.{Leads}
use Rattle.proof_judge.specs.ItemWalks.{item_at, any_ways}
use Rattle.proof_judge.specs.SharedTests.{IsNarrow}
use Rattle.proof_judge.proofs.AllWalks.{any_length, reaches_leads}
use Rattle.proof_octets.specs.declared.marks.Mark.{Mark}
use Rattle.proof_octets.specs.declared.query.NearQuery.{NearQuery}
use Rattle.proof_octets.specs.Radius.{ListsMarks}
use Rattle.proof_octets.proofs.MarkLaws.{listed_same}
use Rattle.route_client.specs.NearVerdicts.{IsReached, limit_of}
use Rattle.route_client.specs.Reached.{IsLimitAbove, AreLeast, IsLabelled}

-- a length that is least of all lengths is least below a greater limit
below_limit : (w : Ways) (from v : ℕ) (o : Option ℕ) → IsLeastPassing w from 18446744073709551615 v o → IsLeast (Leads w from v) o → IsLeastPassing w from (2 ^ 64) v o
below_limit w from v None least every = λ d r. every d (reaches_leads w from (2 ^ 64) v d r)
below_limit w from v (Some d) least every = least_higher w from 18446744073709551615 (2 ^ 64) v d (omega arith) least

-- a search below the greatest 64-bit number finds the least lengths of all walks
pub at_radius : (w : Ways) → LetsShorter w → IsNarrow w → (from radius limit : ℕ) (found : Found) → IsLimitAbove radius limit → AreLeast w from limit found → ((v : ℕ) → IfSome (route_at found v) (IsWay w from limit v (length_at found v)))
    → AreLeast w from (radius + 1) found
at_radius w shorter narrow from radius limit found (inl e) lengths ways = subst (λ (l : ℕ). AreLeast w from l found) e lengths
at_radius w shorter narrow from radius limit found (inr both) lengths ways =
    let top : limit ≡ 18446744073709551615 = omega (arith, both.1) in
    let least : AreLeast w from 18446744073709551615 found = subst (λ (l : ℕ). AreLeast w from l found) top lengths in
    let every : (v : ℕ) → IsLeast (Leads w from v) (length_at found v) =
    any_length w shorter narrow from found least (λ v. subst (λ (l : ℕ). IfSome (route_at found v) (IsWay w from l v (length_at found v))) top (ways v)) in
    subst (λ (l : ℕ). AreLeast w from l found) (sym both.0) (λ v. below_limit w from v (length_at found v) (least v) (every v))

-- the ids that have a length are those at which walks end
pub reached_marks : (nodes : List NodeLeaf) (q : NearQuery) (found : Found) (marks : List Mark) → AreLeast (any_ways (item_at nodes)) q.from (limit_of q) found → ListsMarks (IsLabelled found q.radius) marks → ListsMarks (IsReached nodes q) marks
reached_marks nodes q found marks least listed = listed_same marks (λ m. (to m, back m)) listed
  where
    to : (m : Mark) → IsLabelled found q.radius m → IsReached nodes q m
    to m l = subst (IsLeastPassing (any_ways (item_at nodes)) q.from (limit_of q) m.id) l.length_is (least m.id)

    back : (m : Mark) → IsReached nodes q m → IsLabelled found q.radius m
    back m r = record {
      length_is = IsLeast-unique (Reaches (any_ways (item_at nodes)) q.from (limit_of q) m.id) (length_at found m.id) (Some m.distance) (least m.id) r;
      within = omega (arith, r.0.1.below);
    }
