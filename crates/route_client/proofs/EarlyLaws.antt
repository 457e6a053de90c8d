-- The tests before the items are walked have only a few errors.
use Rattle.std.proofs.Common.{ℕ, ◌==◌, nat_lt, Bool, true, false, cond, if◌then◌else◌, List, length, map, Result, Ok, Err, subst}
use Rattle.std.specs.Str.{bytes_eq}
use Rattle.road_leaf.specs.Leaves.{node_leaf_text}
use Rattle.lms_tree.specs.Chains.{chained, verified_along}
use Rattle.lms_tree.specs.declared.links.Link.{Link}
use Rattle.lms_tree.specs.declared.seals.SealError.{SealError}
use Rattle.merkle_cover.specs.Covers.{fold_of}
use Rattle.merkle_cover.specs.declared.folds.FoldError.{FoldError}
use Rattle.proof_octets.specs.Headers.{header_text}
use Rattle.proof_octets.specs.declared.near_reply.NearReply.{NearReply}
use Rattle.route_client.specs.declared.errors.CheckError.{CheckError}
use Rattle.route_client.specs.declared.errors.CheckError.TheVariants as tests
use Rattle.route_client.specs.declared.errors.CoverFault.TheVariants as faults
use Rattle.route_client.specs.Verdicts.{◌>>=◌, fresh, linked, signed, header_tested, matched, covered, Meets}
use Rattle.route_client.specs.NearVerdicts.{IsEarly, items_covered, header_and_cover}

OnlyEarly : Result (Unit {0}) CheckError → Type 0
OnlyEarly (Ok _) = Unit {0}
OnlyEarly (Err e) = IsEarly e

either : (b : Bool) (r s : Result (Unit {0}) CheckError) → OnlyEarly r → OnlyEarly s → OnlyEarly (cond b r s)
unfolding OnlyEarly
either true r s h k = h
either false r s h k = k

in_turn : (r s : Result (Unit {0}) CheckError) → OnlyEarly r → OnlyEarly s → OnlyEarly (r >>= λ _. s)
unfolding OnlyEarly
in_turn (Ok _) s h k = k
in_turn (Err e) s h k = h

of_links : (r : Result (Unit {0}) (ℕ × SealError)) → OnlyEarly (linked r)
unfolding OnlyEarly
of_links (Ok _) = tt
of_links (Err e) = tt

of_signature : (r : Result (Unit {0}) SealError) → OnlyEarly (signed r)
unfolding OnlyEarly
of_signature (Ok _) = tt
of_signature (Err e) = tt

of_root : (tree : ℕ) (root : List ℕ) (r : Result (List ℕ) FoldError) → OnlyEarly (matched tree root r)
unfolding OnlyEarly
of_root tree root (Ok digest) = either (bytes_eq digest root) (Ok tt) (Err (tests.BadCover tree faults.Differs)) tt tt
of_root tree root (Err e) = tt

of_cover : (hash : List ℕ → List ℕ) (tree leaves fan : ℕ) (places : List ℕ) (texts cover : List (List ℕ)) (root : List ℕ) → OnlyEarly (covered hash tree leaves fan places texts cover root)
unfolding OnlyEarly
of_cover hash tree leaves fan places texts cover root =
    let folded = fold_of hash leaves fan places texts cover in
    let none : Result (Unit {0}) CheckError = if length cover == 0 then Ok tt else Err (tests.BadCover tree faults.Long) in
    let some : Result (Unit {0}) CheckError = if leaves == 0 then Err (tests.BadCover tree faults.Place) else matched tree root folded in
    either (length places == 0) none some (either (length cover == 0) (Ok tt) (Err (tests.BadCover tree faults.Long)) tt tt) (either (leaves == 0) (Err (tests.BadCover tree faults.Place)) (matched tree root folded) tt (of_root tree root folded))

of_tests : (hash : List ℕ → List ℕ) (key : List ℕ) (links : List Link) (least : ℕ) (a : NearReply) → OnlyEarly (header_and_cover hash key links least a)
unfolding OnlyEarly header_and_cover header_tested
of_tests hash key links least a =
    let version = a.header.version in
    let keys = chained key links in
    let last = verified_along key links (header_text a.header) a.signature in
    let is_fresh = either (nat_lt version least) (Err (tests.Stale version)) (Ok tt) tt tt in
    let is_signed = in_turn (linked keys) (signed last) (of_links keys) (of_signature last) in
    in_turn (fresh least a.header >>= λ _. linked keys >>= λ _. signed last) (items_covered hash a) (in_turn (fresh least a.header) (linked keys >>= λ _. signed last) is_fresh is_signed)
    (of_cover hash 1 a.header.nodes a.header.fan a.places (map node_leaf_text a.nodes) a.cover a.header.node_root)

-- a test that fails is one of these tests
pub early : (hash : List ℕ → List ℕ) (key : List ℕ) (links : List Link) (least : ℕ) (a : NearReply) (e : CheckError) → Meets {A = Unit {0}} (Err e) (header_and_cover hash key links least a) → IsEarly e
unfolding OnlyEarly
early hash key links least a (tests.Memory _) is = tt
early hash key links least a (tests.Stale version) is = tt
early hash key links least a (tests.BadChain link why) is = tt
early hash key links least a (tests.BadSignature why) is = tt
early hash key links least a (tests.BadCover tree why) is = tt
early hash key links least a (tests.NotAnswer kind) is = subst OnlyEarly is (of_tests hash key links least a)
early hash key links least a (tests.Malformed at) is = subst OnlyEarly is (of_tests hash key links least a)
early hash key links least a (tests.Judged why) is = subst OnlyEarly is (of_tests hash key links least a)
