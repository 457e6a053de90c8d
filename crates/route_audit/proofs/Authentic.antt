-- Texts of a tree's own leaves belong to no other leaves.
use Rattle.std.proofs.Common.{◌≡◌, ℕ, suc, ◌<◌, List, [], ◌∷◌, length, get_or, map, Result, Ok, sym, ap, subst, arith, ◌∙◌, inl, inr}
use Rattle.std.specs.Prelude.{All}
use Rattle.std.specs.List.{Contains}
use Rattle.std.proofs.lemmas.List.Elements.{All-contains, Contains-get_or}
use Rattle.std.proofs.lemmas.List.{get_or-map}
use Rattle.octet_text.specs.Format.{Format, whole}
use Rattle.octet_text.specs.Exact.{IsExact}
use Rattle.octet_text.proofs.Fields.{whole_again}
use Rattle.road_map.proofs.Among.{Contains-none, Contains-cases, Contains-here, Contains-there}
use Rattle.road_leaf.specs.declared.leaf.LeafKind.{LeafKind}
use Rattle.road_leaf.specs.declared.leaf.NodeLeaf.{NodeLeaf}
use Rattle.road_leaf.specs.declared.pair.PairLeaf.{PairLeaf}
use Rattle.road_leaf.specs.Leaves.{node_leaf, node_leaf_text, pair_leaf}
use Rattle.road_leaf.proofs.LeafLaws.{leaf_same, node_leaf_exact, pair_leaf_exact}
use Rattle.merkle_cover.specs.Covers.{chosen_texts}

-- values with the same encoding are equal
spells_one : {A : Type 0} (f : Format A) → IsExact f → (x y : A) → f.Fits x → f.Fits y → f.spell x ≡ f.spell y → x ≡ y
spells_one {A} f exact x y fits other e = same (sym (whole_again f exact x fits) ∙ ap (whole f) e ∙ whole_again f exact y other)
  where
    same : ◌≡◌ {A = Result A ℕ} (Ok x) (Ok y) → x ≡ y
    same h = cc

pub one_leaf : (kind : LeafKind) (l m : NodeLeaf) → (node_leaf kind).Fits l → (node_leaf kind).Fits m → node_leaf_text l ≡ node_leaf_text m → l ≡ m
one_leaf kind l m fits other e = spells_one (node_leaf kind) (node_leaf_exact kind) l m fits other (leaf_same kind l fits ∙ e ∙ sym (leaf_same kind m other))

pub one_pair : (l m : PairLeaf) → pair_leaf.Fits l → pair_leaf.Fits m → pair_leaf.spell l ≡ pair_leaf.spell m → l ≡ m
one_pair l m fits other e = spells_one pair_leaf pair_leaf_exact l m fits other e

first_and_rest : {A : Type 0} (x y : A) (xs ys : List A) → x ∷ xs ≡ y ∷ ys → (x ≡ y) × (xs ≡ ys)
first_and_rest x y xs ys e = (cc, cc)

-- the items carried are among the leaves, since texts determine values
pub stands : {X : Type 0} (text : X → List ℕ) (Fits : X → Type 0) (leaves given : List X) (places : List ℕ) → ((x y : X) → Fits x → Fits y → text x ≡ text y → x ≡ y)
    → All Fits leaves → ((x : X) → Contains given x → Fits x) → ((q : ℕ) → q < length places → get_or places q 0 < length leaves) → map text given ≡ chosen_texts (map text leaves) places
    → (x : X) → Contains given x → Contains leaves x
stands text Fits leaves [] places one fit fits below e x h = absurd (Contains-none x h)
stands text Fits leaves (y ∷ given) [] one fit fits below e x h = absurd cc
stands text Fits leaves (y ∷ given) (p ∷ places) one fit fits below e x h =
    let lt : p < length leaves = below 0 (omega arith) in
    let l = get_or leaves p y in
    let here : Contains leaves l = Contains-get_or leaves p y lt in
    let both = first_and_rest (text y) (get_or (map text leaves) p []) (map text given) (chosen_texts (map text leaves) places) e in
    let text_is : get_or (map text leaves) p [] ≡ text l = get_or-map text leaves p y [] lt in
    elim (Contains-cases y x given h) [
      | inl same ↦
          let own : y ≡ l = one y l (fits y (Contains-here y given)) (All-contains Fits leaves l fit here) (both.0 ∙ text_is) in
          subst (Contains leaves) (sym own ∙ same) here
      | inr later ↦ stands text Fits leaves given places one fit (λ z k. fits z (Contains-there y z given k)) (λ q k. below (suc q) (omega (arith, k))) both.1 x later
    ]
