-- A part of a tree that recomputes its root.
use Rattle.std.proofs.Common.{◌≡◌, ℕ, ◌≤◌, Bool, true, false, cond, Option, None, Some, List, [], ◌∷◌, length, Result, Ok, Err, nat_eq, refl, sym, ap, subst, arith, ◌∙◌}
use Rattle.std.specs.Prelude.{◌↔◌, IfOk, IfSome, IsNone}
use Rattle.std.specs.Option.{option_map}
use Rattle.std.specs.Str.{bytes_eq}
use Rattle.std.proofs.lemmas.Bool.Decides.{nat_tests}
use Rattle.std.proofs.lemmas.Slice.Eq.{bytes_eq-Decides}
use Rattle.merkle_cover.specs.Clashes.{AreHashed}
use Rattle.merkle_cover.specs.Covers.{IsRising, chosen_texts, cover_of, fold_of}
use Rattle.merkle_cover.specs.Trees.{Levels, tree_of}
use Rattle.merkle_cover.specs.declared.folds.FoldError.{FoldError}
use Rattle.merkle_cover.specs.declared.clashes.TwoTexts.{TwoTexts}
use Rattle.merkle_cover.proofs.ClashTop.{GoodFold-ok}
use Rattle.merkle_cover.proofs.FoldLemmas.{rising-first_fault}
use Rattle.route_client.specs.declared.errors.CheckError.{CheckError}
use Rattle.route_client.specs.declared.errors.CheckError.TheVariants as errors
use Rattle.route_client.specs.declared.errors.CoverFault.TheVariants as faults
use Rattle.route_client.specs.Verdicts.{covered, matched}
use Rattle.route_server.specs.Headers.{root_or_zeros}
use Rattle.route_server.specs.Keeping.{some_texts}
use Rattle.route_audit.specs.Comparing.{FoldsUnder, leaves_or_none}
use Rattle.route_audit.specs.Evidence.{Part, IsTreesOwn, Clashes}

-- ---- tests that passed

matched_ok : (tree : ℕ) (top : List ℕ) (r : Result (List ℕ) FoldError) → matched tree top r ≡ Ok tt → r ≡ Ok top
matched_ok tree top (Err e) is = absurd cc
matched_ok tree top (Ok d) is = by_test (bytes_eq d top) refl is
  where
    by_test : (b : Bool) → bytes_eq d top ≡ b → ◌≡◌ {A = Result (Unit {0}) CheckError} (cond b (Ok tt) (Err (errors.BadCover tree faults.Differs))) (Ok tt) → ◌≡◌ {A = Result (List ℕ) FoldError} (Ok d) (Ok top)
    by_test true e h = ap (λ (x : List ℕ). Ok x) ((bytes_eq-Decides d top).0 e)
    by_test false e h = absurd cc

-- without any index, there is no cover
pub no_cover : (hash : List ℕ → List ℕ) (which : ℕ) (part : Part) → FoldsUnder hash which part → part.places ≡ [] → part.cover ≡ []
no_cover hash which part folds none =
    by_cover part.cover (subst (λ (places : List ℕ). covered hash which (length part.leaves) part.fan places part.texts part.cover (root_or_zeros hash part.fan part.leaves) ≡ Ok tt) none folds)
  where
    by_cover : (cover : List (List ℕ)) → covered hash which (length part.leaves) part.fan [] part.texts cover (root_or_zeros hash part.fan part.leaves) ≡ Ok tt → cover ≡ []
    by_cover [] h = refl
    by_cover (d ∷ cover) h = absurd (wrong (nat_eq (length (d ∷ cover)) 0) (grind (arith, nat_tests)) h)
      where
        wrong : (b : Bool) → b ≡ false → ◌≡◌ {A = Result (Unit {0}) CheckError} (cond b (Ok tt) (Err (errors.BadCover which faults.Long))) (Ok tt) → ⊥
        wrong true e h = cc
        wrong false e h = cc

-- so the part is the tree's own
pub own_of_none : (hash : List ℕ → List ℕ) (which : ℕ) (part : Part) → FoldsUnder hash which part → length part.texts ≡ length part.places → part.places ≡ [] → IsTreesOwn hash part
own_of_none hash which part folds one_each none = record {
  rising = subst (IsRising (length part.leaves)) (sym none) (record { rises = λ q r lt below. absurd (omega (arith, below)); below = λ q below. absurd (omega (arith, below)) });
  texts = no_text part.texts (omega (arith, one_each, ap (λ (xs : List ℕ). length xs) none)) ∙ ap (chosen_texts part.leaves) (sym none);
  cover = no_cover hash which part folds none ∙ ap (cover_of hash part.leaves part.fan) (sym none);
}
  where
    no_text : (texts : List (List ℕ)) → length texts ≡ 0 → texts ≡ []
    no_text [] e = refl
    no_text (t ∷ texts) e = absurd (omega (arith, e))

-- with at least one index, there are leaves, and they recompute their root
pub record FoldsToRoot (hash : List ℕ → List ℕ) (part : Part) : Type 0 where
  pub some : 1 ≤ length part.leaves
  pub value : fold_of hash (length part.leaves) part.fan part.places part.texts part.cover ≡ Ok (root_or_zeros hash part.fan part.leaves)

pub folds_to_root : (hash : List ℕ → List ℕ) (which : ℕ) (part : Part) → FoldsUnder hash which part → 1 ≤ length part.places → FoldsToRoot hash part
folds_to_root hash which part folds some =
    by_tests (nat_eq (length part.places) 0) (nat_eq (length part.leaves) 0) _ (grind (arith, nat_tests)) refl folds
  where
    by_tests : (a b : Bool) (r : Result (Unit {0}) CheckError) → a ≡ false → nat_eq (length part.leaves) 0 ≡ b
        → ◌≡◌ {A = Result (Unit {0}) CheckError} (cond a r (cond b (Err (errors.BadCover which faults.Place)) (matched which (root_or_zeros hash part.fan part.leaves) (fold_of hash (length part.leaves) part.fan part.places part.texts part.cover)))) (Ok tt)
        → FoldsToRoot hash part
    by_tests true b r e f h = absurd cc
    by_tests false true r e f h = absurd cc
    by_tests false false r e f h = record {
      some = grind (arith, nat_tests);
      value = matched_ok which (root_or_zeros hash part.fan part.leaves) (fold_of hash (length part.leaves) part.fan part.places part.texts part.cover) h;
    }

pub rising_of : (hash : List ℕ → List ℕ) (part : Part) → FoldsToRoot hash part → IsRising (length part.leaves) part.places
rising_of hash part good =
    rising-first_fault (length part.leaves) part.places
    (GoodFold-ok hash (length part.leaves) part.fan part.places part.texts part.cover (root_or_zeros hash part.fan part.leaves) good.value).none

-- ---- trees that may exist

pub root_is : (hash : List ℕ → List ℕ) (fan : ℕ) (texts : List (List ℕ)) → 1 ≤ length texts → root_or_zeros hash fan texts ≡ (tree_of hash texts fan).root
unfolding tree_of
root_is hash fan [] some = absurd (omega (arith, some))
root_is hash fan (t ∷ texts) some = refl

pub fan_is : (hash : List ℕ → List ℕ) (fan : ℕ) (texts : List (List ℕ)) → (tree_of hash texts fan).fan ≡ fan
unfolding tree_of
fan_is hash fan texts = refl

pub leaves_are : (texts : List (List ℕ)) → leaves_or_none (some_texts texts) ≡ texts
leaves_are [] = refl
leaves_are (t ∷ texts) = refl

pub some_leaves : (o : Option (List (List ℕ))) (texts : List (List ℕ)) → o ≡ Some texts → leaves_or_none o ≡ texts
some_leaves o texts e = ap leaves_or_none e

-- the existing tree is the tree of the leaves
pub tree_is : (hash : List ℕ → List ℕ) (fan : ℕ) (o : Option (List (List ℕ))) (t : Levels) (leaves : List (List ℕ)) → Some leaves ≡ o → Some t ≡ option_map (λ texts. tree_of hash texts fan) o → t ≡ tree_of hash leaves fan
tree_is hash fan o t leaves is tree =
    let both : ◌≡◌ {A = Option Levels} (Some t) (Some (tree_of hash leaves fan)) = tree ∙ ap (option_map (λ texts. tree_of hash texts fan)) (sym is) in
    cc

-- an existing tree, over its leaves
pub record IsThere (hash : List ℕ → List ℕ) (fan : ℕ) (o : Option (List (List ℕ))) (t : Levels) (leaves : List (List ℕ)) : Type 0 where
  pub built : t ≡ tree_of hash leaves t.fan
  pub fan_same : t.fan ≡ fan
  pub leaves_same : leaves ≡ leaves_or_none o
  pub root_same : 1 ≤ length leaves → root_or_zeros hash fan leaves ≡ t.root

pub is_there : (hash : List ℕ → List ℕ) (fan : ℕ) (o : Option (List (List ℕ))) (t : Levels) (leaves : List (List ℕ)) → Some leaves ≡ o → Some t ≡ option_map (λ texts. tree_of hash texts fan) o → IsThere hash fan o t leaves
is_there hash fan o t leaves is tree =
    let same : t ≡ tree_of hash leaves fan = tree_is hash fan o t leaves is tree in
    let fans : t.fan ≡ fan = ap (λ (x : Levels). x.fan) same ∙ fan_is hash fan leaves in
    record {
      built = same ∙ ap (tree_of hash leaves) (sym fans);
      fan_same = fans;
      leaves_same = sym (some_leaves o leaves (sym is));
      root_same = λ some. root_is hash fan leaves some ∙ ap (λ (x : Levels). x.root) (sym same);
    }

pub folds_there : (hash : List ℕ → List ℕ) (part : Part) (o : Option (List (List ℕ))) (t : Levels) (leaves : List (List ℕ)) → part.leaves ≡ leaves_or_none o → IsThere hash part.fan o t leaves → FoldsToRoot hash part
    → fold_of hash (length leaves) t.fan part.places part.texts part.cover ≡ Ok t.root
folds_there hash part o t leaves own there good =
    let same : leaves ≡ part.leaves = there.leaves_same ∙ sym own in
    let some : 1 ≤ length leaves = omega (arith, good.some, ap (λ (ls : List (List ℕ)). length ls) same) in
    let top : root_or_zeros hash part.fan part.leaves ≡ t.root = ap (root_or_zeros hash part.fan) (sym same) ∙ there.root_same some in
    ap (λ (f : ℕ). fold_of hash (length leaves) f part.places part.texts part.cover) there.fan_same
    ∙ ap (λ (ls : List (List ℕ)). fold_of hash (length ls) part.fan part.places part.texts part.cover) same
    ∙ good.value
    ∙ ap (λ (r : List ℕ). Ok r) top

-- what a clash implies for an existing tree
pub own_there : (hash : List ℕ → List ℕ) (part : Part) (o : Option (List (List ℕ))) (t : Levels) (leaves : List (List ℕ)) → part.leaves ≡ leaves_or_none o → IsThere hash part.fan o t leaves → FoldsToRoot hash part
    → ((part.texts ≡ chosen_texts leaves part.places) × (part.cover ≡ cover_of hash leaves t.fan part.places)) ↔ IsTreesOwn hash part
own_there hash part o t leaves own there good =
    let same : leaves ≡ part.leaves = there.leaves_same ∙ sym own in (
      λ h. record {
        rising = rising_of hash part good;
        texts = h.0 ∙ ap (λ (ls : List (List ℕ)). chosen_texts ls part.places) same;
        cover = h.1 ∙ ap (λ (f : ℕ). cover_of hash leaves f part.places) there.fan_same ∙ ap (λ (ls : List (List ℕ)). cover_of hash ls part.fan part.places) same;
      },
      λ h. (
        h.texts ∙ ap (λ (ls : List (List ℕ)). chosen_texts ls part.places) (sym same),
        h.cover ∙ ap (λ (ls : List (List ℕ)). cover_of hash ls part.fan part.places) (sym same) ∙ ap (λ (f : ℕ). cover_of hash leaves f part.places) (sym there.fan_same),
      ),
    )

pub own_found : {E : Type 0} (hash : List ℕ → List ℕ) (part : Part) (r : Result (Option TwoTexts) E) (A : Type 0) → A ↔ IsTreesOwn hash part → IfOk r (λ x. IsNone x ↔ A) → IfOk r (λ x. IsNone x ↔ IsTreesOwn hash part)
own_found hash part (Ok x) A same own = (λ h. same.0 (own.0 h), λ h. own.1 (same.1 h))
own_found hash part (Err e) A same own = tt

pub clash_found : {E : Type 0} (hash : List ℕ → List ℕ) (part : Part) (o : Option (List (List ℕ))) (t : Levels) (leaves : List (List ℕ)) (r : Result (Option TwoTexts) E) → part.leaves ≡ leaves_or_none o → IsThere hash part.fan o t leaves
    → IfOk r (λ x. IsNone x ↔ IsTreesOwn hash part) → IfOk r (λ x. IfSome x (λ two. AreHashed hash leaves t.fan part.places part.texts part.cover two.left two.right)) → IfOk r (λ x. IfSome x (Clashes hash part))
clash_found hash part o t leaves (Err e) own there found hashed = tt
clash_found hash part o t leaves (Ok None) own there found hashed = tt
clash_found hash part o t leaves (Ok (Some two)) own there found hashed =
    let same : leaves ≡ part.leaves = there.leaves_same ∙ sym own in
    record {
      not_own = λ h. wrong (found.1 h);
      hashed =
          subst (λ (ls : List (List ℕ)). AreHashed hash ls part.fan part.places part.texts part.cover two.left two.right) same
          (subst (λ (f : ℕ). AreHashed hash leaves f part.places part.texts part.cover two.left two.right) there.fan_same hashed);
    }
  where
    wrong : IsNone (Some two) → ⊥
    wrong h = cc
