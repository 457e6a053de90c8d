-- An element found in a list has the key that was searched for.
use Rattle.std.proofs.Common.{◌≡◌, ℕ, ◌==◌, Bool, true, false, cond, Some, List, [], ◌∷◌, refl, arith, subst, find}
use Rattle.std.specs.List.{Contains}
use Rattle.road_map.proofs.Among.{Contains-here, Contains-there}
use Rattle.road_leaf.specs.declared.leaf.NodeLeaf.{NodeLeaf}
use Rattle.proof_judge.specs.ItemWalks.{item_at}

find_next : {X : Type 0} (test : X → Bool) (y : X) (ys : List X) (x : X) → (find test ys ≡ Some x → Contains ys x × (test x ≡ true)) → (b : Bool) → test y ≡ b → cond b (Some y) (find test ys) ≡ Some x → Contains (y ∷ ys) x × (test x ≡ true)
find_next test y ys x rest true t e = let same : y ≡ x = cc in (subst (Contains (y ∷ ys)) same (Contains-here y ys), subst (λ z. test z ≡ true) same t)
find_next test y ys x rest false t e = let r : Contains ys x × (test x ≡ true) = rest e in (Contains-there y x ys r.0, r.1)

pub find_some : {X : Type 0} (test : X → Bool) (xs : List X) (x : X) → find test xs ≡ Some x → Contains xs x × (test x ≡ true)
find_some test [] x e = cc
find_some test (y ∷ ys) x e = find_next test y ys x (find_some test ys x) (test y) refl e

pub item_found : (nodes : List NodeLeaf) (id : ℕ) (n : NodeLeaf) → item_at nodes id ≡ Some n → Contains nodes n × (n.id ≡ id)
item_found nodes id n e = let f : Contains nodes n × ((n.id == id) ≡ true) = find_some (λ (n : NodeLeaf). n.id == id) nodes n e in (f.0, grind (arith, f.1))
