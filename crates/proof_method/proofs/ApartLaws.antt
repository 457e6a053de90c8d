-- If the codes of two nodes lack a walk at different landmarks, no walk joins the nodes.
use Rattle.std.proofs.Common.{◌≡◌, ◌≢◌, ℕ, ◌+◌, ◌/◌, ◌==◌, ◌&&◌, ◌||◌, ◌↔◌, not, Bool, true, false, cond, Option, None, Some, List, [], ◌∷◌, refl, arith, length}
use Rattle.std.specs.List.{Contains}
use Rattle.road_map.specs.declared.parts.Parts.{Parts}
use Rattle.road_map.specs.Walks.{Joins, IsDistance, distance}
use Rattle.road_map.specs.Maps.{IsMap}
use Rattle.road_map.proofs.Among.{Contains-here, Contains-there}
use Rattle.road_map.proofs.WalkLaws.{distance-is}
use Rattle.book_model.specs.Bounds.{Vector, vector_at}
use Rattle.book_model.specs.Landmarks.{no_code, code_of, codes_of}
use Rattle.proof_judge.specs.ItemWalks.{item_at}
use Rattle.proof_judge.specs.Apart.{is_split, are_split, apart_of}
use Rattle.proof_method.specs.Vectors.{AreNear, AreVectors}
use Rattle.proof_method.specs.Laws.{PartsUnjoined}
use Rattle.proof_method.proofs.Along.{Joins-turn, Joins-append}
use Rattle.proof_method.proofs.BoundLaws.{items_say, vector_near}
use Rattle.proof_method.proofs.RouteLaws.{roads_known}
use Rattle.proof_method.proofs.SoundLdm.{leaves_true}

-- codes that agree on whether a walk exists are not split
split_apart : (a b : ℕ) → is_split a b ≡ true → (a ≡ no_code → b ≡ no_code) → (b ≡ no_code → a ≡ no_code) → ⊥
split_apart a b h to from = by_tests (a == no_code) (b == no_code) refl refl h
  where
    by_tests : (s u : Bool) → (a == no_code) ≡ s → (b == no_code) ≡ u → cond s (not u) u ≡ true → ⊥
    by_tests true true e f h = cc
    by_tests true false e f h = let there : b ≡ no_code = to (grind (arith, e)) in grind (arith, f, there)
    by_tests false true e f h = let here : a ≡ no_code = from (grind (arith, f)) in grind (arith, e, here)
    by_tests false false e f h = cc

either : (a b : Bool) → (a || b) ≡ true → (a ≡ true → ⊥) → b ≡ true
either true b e none = absurd (none refl)
either false b e none = e

module _ (parts : Parts) (m : IsMap parts) (step u t d : ℕ) (j : Joins parts u t d) where
  -- if a landmark has a walk to one of the two, it has a walk to the other
  one_landmark : (l a b : ℕ) (o p : Option ℕ) → IsDistance parts l u o → IsDistance parts l t p → ((x : ℕ) → o ≡ Some x → x / step ≢ no_code) → ((x : ℕ) → p ≡ Some x → x / step ≢ no_code) →
      (code_of step o ≡ no_code) ↔ (a ≡ no_code) → (code_of step p ≡ no_code) ↔ (b ≡ no_code) → is_split a b ≡ true → ⊥
  one_landmark l a b None None is_u is_t told_u told_t na nb h = split_apart a b h (λ _. nb.0 refl) (λ _. na.0 refl)
  one_landmark l a b (Some x) None is_u is_t told_u told_t na nb h = is_t (x + d) (Joins-append parts l u t x d is_u.0 j)
  one_landmark l a b None (Some y) is_u is_t told_u told_t na nb h = is_u (y + d) (Joins-append parts l t u y d is_t.0 (Joins-turn parts (roads_known parts m) u t d j))
  one_landmark l a b (Some x) (Some y) is_u is_t told_u told_t na nb h = split_apart a b h (λ e. absurd (told_u x refl (na.1 e))) (λ e. absurd (told_t y refl (nb.1 e)))

  pub no_split : (ev et : ℕ) (chosen cu ct : List ℕ) → ((l id x : ℕ) → Contains chosen l → distance parts l id ≡ Some x → x / step ≢ no_code) → AreNear ev (codes_of (distance parts) step chosen u) cu → AreNear et (codes_of (distance parts) step chosen t) ct → are_split cu ct ≡ true → ⊥
  no_split ev et [] [] [] told hu ht h = cc
  no_split ev et [] [] (b ∷ ct) told hu ht h = absurd ht
  no_split ev et [] (a ∷ cu) ct told hu ht h = absurd hu
  no_split ev et (l ∷ chosen) [] ct told hu ht h = absurd hu
  no_split ev et (l ∷ chosen) (a ∷ cu) [] told hu ht h = absurd ht
  no_split ev et (l ∷ chosen) (a ∷ cu) (b ∷ ct) told hu ht h =
      no_split ev et chosen cu ct (λ k id x c is. told k id x (Contains-there l k chosen c) is) hu.2 ht.2
      (either (is_split a b) (are_split cu ct) h
      (one_landmark l a b (distance parts l u) (distance parts l t) (distance-is parts (roads_known parts m) l u) (distance-is parts (roads_known parts m) l t)
      (λ x is. told l u x (Contains-here l chosen) is) (λ x is. told l t x (Contains-here l chosen) is) hu.0 ht.0))

second : (a b : Bool) → (a && b) ≡ true → b ≡ true
second true b e = e
second false b e = cc

-- no walk joins ids that are apart over the leaves at hand
pub parts_unjoined : PartsUnjoined
parts_unjoined b g u t m is a apart d j = by_vectors (vector_at (item_at g.nodes) (item_at g.nodes u)) (vector_at (item_at g.nodes) (item_at g.nodes t)) refl refl apart
  where
    chosen : List ℕ
    chosen = is.0

    are : AreVectors b.parts b.numbers.first chosen b.extra_of
    are = is.1

    near : (v : ℕ) (c : Vector) → vector_at (item_at g.nodes) (item_at g.nodes v) ≡ Some c → AreNear c.error (codes_of (distance b.parts) b.numbers.first chosen v) c.codes
    near v c e = vector_near b.parts b.numbers.first chosen b.extra_of are (item_at g.nodes) (items_say b.parts b.extra_of g.nodes (leaves_true b g a)) v c (item_at g.nodes v) refl e

    by_vectors : (v w : Option Vector) → vector_at (item_at g.nodes) (item_at g.nodes u) ≡ v → vector_at (item_at g.nodes) (item_at g.nodes t) ≡ w → apart_of v w ≡ true → ⊥
    by_vectors None w e f h = cc
    by_vectors (Some v) None e f h = cc
    by_vectors (Some v) (Some w) e f h = no_split b.parts m b.numbers.first u t d j v.error w.error chosen v.codes w.codes are.told (near u v e) (near t w f) (second (length v.codes == length w.codes) (are_split v.codes w.codes) h)
