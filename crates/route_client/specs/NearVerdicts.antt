-- The verdict of a client on octets as the reply to a query for the nodes within a radius: the first test that they
-- fail, or the accepted nodes. The walks over the items of the reply determine the accepted nodes. Source:
-- Papadias, Zhang, Mamoulis and Tao, VLDB 2003 (range search in a road network), and Yiu, Lin and Mouratidis, ICDE
-- 2010 (signed roots, tuples and covers). The order of the tests is this program's profile.
use Rattle.std.specs.Prelude.{◌≡◌, ℕ, ◌+◌, ◌≤◌, List, map, None, Some, Result, Ok, Err}
use Rattle.octet_text.specs.Format.{whole}
use Rattle.road_map.specs.Least.{IsLeast}
use Rattle.road_search.specs.Passing.{IsLeastPassing}
use Rattle.road_leaf.specs.declared.leaf.NodeLeaf.{NodeLeaf}
use Rattle.road_leaf.specs.Leaves.{node_leaf_text}
use Rattle.lms_tree.specs.declared.links.Link.{Link}
use Rattle.lms_tree.specs.Chains.{chained, verified_along}
use Rattle.proof_judge.specs.ItemWalks.{item_at, StandsTwice, any_ways, Lacks}
use Rattle.proof_octets.specs.Headers.{header_text}
use Rattle.route_client.specs.declared.errors.CheckError.{CheckError}
use Rattle.route_client.specs.declared.errors.CheckError.TheVariants as tests
use Rattle.route_client.specs.Verdicts.{◌>>=◌, header_tested, covered}
use Rattle.proof_octets.specs.declared.marks.Mark.{Mark}
use Rattle.proof_octets.specs.declared.query.NearQuery.{NearQuery}
use Rattle.proof_octets.specs.declared.near_reply.NearReply.{NearReply}
use Rattle.proof_octets.specs.NearReplies.{near_reply, IsNamed}
use Rattle.proof_octets.specs.Radius.{ListsMarks}
use Rattle.route_client.specs.declared.near_errors.NearError.{NearError}
use Rattle.route_client.specs.declared.near_errors.NearError.TheVariants as errors
use Rattle.route_client.specs.declared.within.CheckedReply.{CheckedReply}
use Rattle.route_client.specs.declared.within.Within.{Within}
use Rattle.octet_text.specs.Want.{no_memory}

-- ---- the tests before the items are walked

-- the octets encode a reply
abbrev pub spelled : Result NearReply ℕ → Result NearReply NearError
spelled (Ok a) = Ok a
spelled (Err at) = Err (errors.Malformed at)

-- the items and the cover recompute the root of the node tree, which is tree 1
abbrev pub items_covered : (List ℕ → List ℕ) → NearReply → Result (Unit {0}) CheckError
items_covered hash a = covered hash 1 a.header.nodes a.header.fan a.places
    (map node_leaf_text a.nodes) a.cover a.header.node_root

-- the tests that replies for routes share: the tests of the header, and the test of the cover
unfoldable pub header_and_cover : (List ℕ → List ℕ) → List ℕ → List Link → ℕ → NearReply →
    Result (Unit {0}) CheckError
header_and_cover hash key links least a = do
  _ ← header_tested key links least a.header a.signature
  items_covered hash a

-- a failed test, converted to an error of this check; these tests have no other errors
abbrev pub near_error : CheckError → NearError
near_error (tests.Stale version) = errors.Stale version
near_error (tests.BadChain link why) = errors.BadChain link why
near_error (tests.BadSignature why) = errors.BadSignature why
near_error (tests.BadCover tree why) = errors.BadCover why
near_error _ = errors.Memory no_memory

-- the errors of the tests before the walk
abbrev pub IsEarly : CheckError → Type 0
IsEarly (tests.Stale _) = Unit {0}
IsEarly (tests.BadChain _ _) = Unit {0}
IsEarly (tests.BadSignature _) = Unit {0}
IsEarly (tests.BadCover _ _) = Unit {0}
IsEarly (tests.Memory _) = Unit {0}
IsEarly _ = ⊥

abbrev pub after_tests : NearReply → Result (Unit {0}) CheckError → Result NearReply NearError
after_tests a (Ok _) = Ok a
after_tests a (Err e) = Err (near_error e)

abbrev pub tested : (List ℕ → List ℕ) → List ℕ → List Link → ℕ → Result NearReply NearError →
    Result NearReply NearError
tested hash key links least (Ok a) = after_tests a (header_and_cover hash key links least a)
tested hash key links least (Err e) = Err e

-- the reply that passes every test before its items are walked, or the first test that fails
unfoldable pub near_passed : (List ℕ → List ℕ) → List ℕ → List Link → List ℕ → ℕ →
    Result NearReply NearError
near_passed hash key links octets least =
    tested hash key links least (spelled (whole near_reply octets))

-- ---- the walks over the items

-- the greatest length of a walk within the radius
abbrev pub limit_of : NearQuery → ℕ
limit_of q = q.radius + 1

-- the id of the mark is the end of a walk no longer than the radius, and the mark has the least length of such a
-- walk
abbrev pub IsReached : List NodeLeaf → NearQuery → Mark → Type 0
IsReached nodes q m = IsLeastPassing (any_ways (item_at nodes)) q.from (limit_of q) m.id
    (Some m.distance)

-- a walk no longer than the radius ends at an id without an item
abbrev pub LacksItem : List NodeLeaf → NearQuery → ℕ → Type 0
LacksItem nodes q id = Lacks (any_ways (item_at nodes)) q.from (limit_of q) id

-- the list of nodes, if no two items have the same id
abbrev pub Listed : List NodeLeaf → NearQuery → Result (List Mark) NearError → Type 0
Listed nodes q (Err (errors.MissingTuple id)) = IsLeast (LacksItem nodes q) (Some id)
Listed nodes q (Ok marks) = IsLeast (LacksItem nodes q) None × ListsMarks (IsReached nodes q) marks
Listed nodes q (Err _) = ⊥

abbrev pub Walked : List NodeLeaf → NearQuery → Result (List Mark) NearError → Type 0
Walked nodes q (Err (errors.RepeatedNode id)) = IsLeast (StandsTwice nodes) (Some id)
Walked nodes q v = IsLeast (StandsTwice nodes) None × Listed nodes q v

-- ---- the verdict

abbrev pub as_within : NearReply → Result (List Mark) NearError → Result Within NearError
as_within a (Ok marks) = Ok (record {
  nodes = marks;
  version = a.header.version;
  header = a.header;
})
as_within a (Err e) = Err e

-- the part of the result that a client keeps
abbrev pub taken : Result CheckedReply NearError → Result Within NearError
taken (Ok checked) = as_within checked.reply (Ok checked.nodes)
taken (Err e) = Err e

abbrev pub WalkedAfter : Result NearReply NearError → NearQuery → Result Within NearError → Type 0
WalkedAfter (Err e) q v = v ≡ Err e
WalkedAfter (Ok a) q v = (r : Result (List Mark) NearError) × Walked a.nodes q r ×
    (v ≡ as_within a r)

-- the verdict on octets, for a query and a minimum version, under a public key and a chain of links
-- from it
unfoldable pub IsNearVerdict : (List ℕ → List ℕ) → List ℕ → List Link → List ℕ → NearQuery → ℕ →
    Result Within NearError → Type 0
IsNearVerdict hash key links octets q least v =
    WalkedAfter (near_passed hash key links octets least) q v

-- the octets encode a reply that passes every test, and this is its content
pub record NearAccepts (hash : List ℕ → List ℕ) (key : List ℕ) (links : List Link)
    (octets : List ℕ) (q : NearQuery) (least : ℕ) (x : Within) : Type 0 where
  pub reply : NearReply
  pub spelled : whole near_reply octets ≡ Ok reply
  pub fresh : least ≤ reply.header.version
  pub chain : chained key links ≡ Ok tt
  pub signed : verified_along key links (header_text reply.header) reply.signature ≡ Ok tt
  pub covered : items_covered hash reply ≡ Ok tt
  pub distinct : (id : ℕ) → ¬ StandsTwice reply.nodes id
  pub complete : (id : ℕ) → ¬ LacksItem reply.nodes q id
  pub nodes : ListsMarks (IsReached reply.nodes q) x.nodes
  pub version : x.version ≡ reply.header.version
  pub header : x.header ≡ reply.header

-- ---- the result of a function

-- Every result that a predicate allows, and out of memory at any time.
abbrev pub UnlessMemory : {A : Type 0} → (Result A NearError → Type 0) → Result A NearError → Type 0
UnlessMemory P (Err (errors.Memory _)) = Unit {0}
UnlessMemory P r = P r

abbrev pub Meets : {A : Type 0} → Result A NearError → Result A NearError → Type 0
Meets r v = UnlessMemory (λ x. v ≡ x) r

-- The result of checking octets. It is their verdict, so a reply that passes every test is accepted. Memory can
-- only run out if the octets begin with the name of such a reply.
pub record ChecksNear (hash : List ℕ → List ℕ) (key : List ℕ) (links : List Link) (octets : List ℕ)
    (q : NearQuery) (least : ℕ) (result : Result Within NearError) : Type 0 where
  pub verdict : UnlessMemory (IsNearVerdict hash key links octets q least) result
  pub accepts : (x : Within) → NearAccepts hash key links octets q least x →
      UnlessMemory (λ r. r ≡ Ok x) result
  pub named : result ≡ Err (errors.Memory no_memory) → IsNamed octets
