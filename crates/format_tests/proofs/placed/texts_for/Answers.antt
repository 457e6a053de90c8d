use Rattle.std.proofs.Common.{◌≡◌, ◌∙◌, ℕ, List, [], ◌∷◌, Some, Result, Ok, Err, IfOk, length, map, get_or, slice_get, refl, arith, sym}
use Rattle.road_leaf.specs.declared.leaf.NodeLeaf.{NodeLeaf}
use Rattle.road_leaf.specs.Leaves.{node_leaf_text}
use Rattle.road_leaf.specs.Seen.{seen}
use Rattle.proof_octets.specs.Placed.{text_at}
use Rattle.format_tests.proofs.placed.texts_for.Goals as goal

-- a list of two items is determined by them
two_items : {X : Type 0} (xs : List X) (a b : X) → length xs ≡ 2 → slice_get xs 0 ≡ Some a → slice_get xs 1 ≡ Some b → xs ≡ a ∷ b ∷ []
two_items [] a b two first last = cc
two_items (x ∷ []) a b two first last = cc
two_items (x ∷ y ∷ []) a b two first last = cc
two_items (x ∷ y ∷ z ∷ xs) a b two first last = absurd (omega (arith, two))

two_places : (xs : List ℕ) → length xs ≡ 2 → get_or xs 0 0 ≡ 0 → get_or xs 1 0 ≡ 2 → xs ≡ 0 ∷ 2 ∷ []
two_places [] two first last = cc
two_places (x ∷ []) two first last = cc
two_places (x ∷ y ∷ []) two first last = cc
two_places (x ∷ y ∷ z ∷ xs) two first last = absurd (omega (arith, two))

-- the texts at these indices are those of the leaves
spelled : (places : List ℕ) (leaves : List NodeLeaf) (a b : NodeLeaf) → places ≡ 0 ∷ 2 ∷ [] → leaves ≡ a ∷ b ∷ [] → (texts : List (List ℕ)) → texts ≡ node_leaf_text a ∷ [] ∷ node_leaf_text b ∷ [] → map (text_at texts) places ≡ map node_leaf_text leaves
spelled places leaves a b p l texts t = rw (p, l, t) refl

if_ok : {A E : Type 0} (r : Result A E) (P Q : A → Type 0) → ((a : A) → P a → Q a) → IfOk r P → IfOk r Q
if_ok (Ok a) P Q f h = f a h
if_ok (Err e) P Q f h = h

pub returns-clause-spelled : goal.returns-clause-spelled
returns-clause-spelled c =
    let places : c.args.places.now ≡ 0 ∷ 2 ∷ [] = sym c.as_slice-places.ensures ∙ two_places c.as_slice-places.result.now c.if-places-ne2.false c.if-places-ne0.false c.if-places-ne2-2.false in
    let leaves : c.args.leaves.now ≡ seen c.at.result ∷ seen c.at-2.result ∷ [] = two_items c.args.leaves.now (seen c.at.result) (seen c.at-2.result) (sym c.len.ensures ∙ c.if-len-ne2.false) c.at.ensures c.at-2.ensures in
    if_ok c.texts_around.result _ _ (spelled c.args.places.now c.args.leaves.now (seen c.at.result) (seen c.at-2.result) places leaves) c.texts_around.ensures
