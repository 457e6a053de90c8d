-- Items under a signed root are at most as many as the tree has leaves.
use Rattle.std.proofs.Common.{◌≡◌, ℕ, ◌<◌, ◌≤◌, ◌⊎◌, inl, inr, Bool, true, false, cond, List, [], ◌∷◌, Option, None, Some, Result, Ok, Err, length, nat_eq, refl, arith}
use Rattle.std.proofs.lemmas.Bool.Decides.{nat_tests}
use Rattle.lms_tree.specs.declared.links.Link.{Link}
use Rattle.merkle_cover.specs.Covers.{IsRising, fold_of, fold_exact, first_fault, after_fault}
use Rattle.merkle_cover.specs.declared.folds.FoldError.{FoldError}
use Rattle.merkle_cover.proofs.FoldLemmas.{rising-index, rising-first_fault}
use Rattle.proof_octets.specs.declared.reply.Answer as answers
use Rattle.proof_octets.specs.Good.{IsGood}
use Rattle.route_client.specs.declared.errors.CheckError.{CheckError}
use Rattle.route_client.specs.Verdicts.{matched, covered, nodes_covered, pairs_covered, header_tested, tested}
use Rattle.route_client.proofs.VerdictLaws.{all_pass}

pub few_rising : (n : ℕ) (places : List ℕ) → IsRising n places → length places ≤ n
few_rising n [] rising = omega arith
few_rising n (p ∷ ps) rising =
    let last : length ps < length (p ∷ ps) = omega arith in
    omega (arith, rising-index n (p ∷ ps) rising (length ps) last, rising.below (length ps) last)

no_fault : (o : Option ℕ) (r : Result (List ℕ) FoldError) (digest : List ℕ) → after_fault o r ≡ Ok digest → o ≡ None
no_fault None r digest e = refl
no_fault (Some i) r digest e = absurd cc

folded : (tree : ℕ) (root : List ℕ) (r : Result (List ℕ) FoldError) → matched tree root r ≡ Ok tt → (digest : List ℕ) × (r ≡ Ok digest)
folded tree root (Ok digest) e = (digest, refl)
folded tree root (Err why) e = absurd cc

-- the root of a tree without items is not recomputed; any other root is
folds : (none zero : Bool) (first m : Result (Unit {0}) CheckError) (e : CheckError) → cond none first (cond zero (Err e) m) ≡ Ok tt → (none ≡ true) ⊎ (m ≡ Ok tt)
folds true zero first m e h = inl refl
folds false true first m e h = absurd cc
folds false false first m e h = inr h

none_is : (n : ℕ) → nat_eq n 0 ≡ true → n ≡ 0
none_is n e = grind (arith, nat_tests)

few_covered : (hash : List ℕ → List ℕ) (tree leaves fan : ℕ) (places : List ℕ) (texts cover : List (List ℕ)) (root : List ℕ) → covered hash tree leaves fan places texts cover root ≡ Ok tt → length places ≤ leaves
few_covered hash tree leaves fan places texts cover root h =
    elim (folds (nat_eq (length places) 0) (nat_eq leaves 0) _ (matched tree root (fold_of hash leaves fan places texts cover)) _ h) [
      | inl none ↦ omega (arith, none_is (length places) none)
      | inr fold ↦
          let is = folded tree root (fold_of hash leaves fan places texts cover) fold in
          few_rising leaves places (rising-first_fault leaves places (no_fault (first_fault leaves places) (fold_exact hash leaves fan places texts cover) is.0 is.1))
    ]

-- an accepted answer has at most as many node items as a map has nodes
pub few_nodes : (hash : List ℕ → List ℕ) (key : List ℕ) (links : List Link) (least : ℕ) (a : answers.Answer) → IsGood a → tested hash key links least a ≡ Ok tt → length a.items.nodes ≤ 65536
unfolding tested nodes_covered
few_nodes hash key links least a good h =
    let tests = all_pass (header_tested key links least a.header a.signature) (nodes_covered hash a) (pairs_covered hash a) h in
    omega (arith, few_covered hash 1 a.header.nodes a.header.fan a.node_places _ a.node_cover a.header.node_root tests.nodes, good.nodes.one_each, good.header.nodes_high)
