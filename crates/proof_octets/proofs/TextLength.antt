-- The length of a node leaf's text.
use Rattle.std.proofs.Common.{◌≡◌, ℕ, ℤ, ◌+◌, ◌*◌, List, [], ◌∷◌, ◌++◌, length, arith, ◌∙◌}
use Rattle.std.specs.List.{flat_map}
use Rattle.std.specs.Int.{w8, w16, w32, to_be_bytes}
use Rattle.std.proofs.lemmas.List.{length-append}
use Rattle.octet_text.specs.Format.{i32}
use Rattle.road_map.specs.declared.arc.Arc.{Arc}
use Rattle.road_leaf.specs.declared.leaf.Extra.{Extra}
use Rattle.road_leaf.specs.declared.leaf.Extra.TheVariants.{Plain, Own, Near, Cell}
use Rattle.road_leaf.specs.declared.leaf.NodeLeaf.{NodeLeaf}
use Rattle.road_leaf.specs.Leaves.{arc, bit_of, node_leaf, node_leaf_text}
use Rattle.proof_octets.specs.Lengths.{added_length}
use Rattle.proof_octets.proofs.TextRoom.{all_short}

arcs_long : (own : ℕ) (arcs : List Arc) → length (flat_map (arc own 0).spell arcs) ≡ 8 * length arcs
arcs_long own arcs = all_short (arc own 0).spell 8 (λ a. omega arith) arcs

codes_long : (codes : List ℕ) → length (flat_map (to_be_bytes w16) codes) ≡ 2 * length codes
codes_long codes = all_short (to_be_bytes w16) 2 (λ n. omega arith) codes

long : (i x y c arcs added : List ℕ) → length i ≡ 4 → length x ≡ 4 → length y ≡ 4 → length c ≡ 2
    → length ((0x4e ∷ []) ++ (i ++ (x ++ (y ++ ((c ++ arcs) ++ added))))) ≡ 15 + length arcs + length added
long i x y c arcs added ei ex ey ec =
    omega (
      arith,
      length-append i (x ++ (y ++ ((c ++ arcs) ++ added))),
      length-append x (y ++ ((c ++ arcs) ++ added)),
      length-append y ((c ++ arcs) ++ added),
      length-append (c ++ arcs) added,
      length-append c arcs,
      ei,
      ex,
      ey,
      ec,
    )

-- the text, with the contents that its kind adds
with_added : (id : ℕ) (x y : ℤ) (arcs : List Arc) (added : List ℕ)
    → length ((0x4e ∷ []) ++ (to_be_bytes w32 id ++ (i32.spell x ++ (i32.spell y ++ ((to_be_bytes w16 (length arcs) ++ flat_map (arc id 0).spell arcs) ++ added))))) ≡ 15 + 8 * length arcs + length added
with_added id x y arcs added =
    long (to_be_bytes w32 id) (i32.spell x) (i32.spell y) (to_be_bytes w16 (length arcs)) (flat_map (arc id 0).spell arcs) added (omega arith) (omega arith) (omega arith) (omega arith)
    ∙ omega (arith, arcs_long id arcs)

by_extra : (id : ℕ) (x y : ℤ) (arcs : List Arc) (e : Extra)
    → length (node_leaf_text (record { id = id; x = x; y = y; arcs = arcs; extra = e })) ≡ 15 + 8 * length arcs + added_length e
unfolding node_leaf_text node_leaf
by_extra id x y arcs Plain = with_added id x y arcs []
by_extra id x y arcs (Own codes) = with_added id x y arcs (to_be_bytes w8 0 ++ flat_map (to_be_bytes w16) codes) ∙ omega (arith, length-append (to_be_bytes w8 0) (flat_map (to_be_bytes w16) codes), codes_long codes)
by_extra id x y arcs (Near reference error) = with_added id x y arcs (to_be_bytes w8 1 ++ (to_be_bytes w32 reference ++ to_be_bytes w16 error)) ∙ omega arith
by_extra id x y arcs (Cell cell border) = with_added id x y arcs (to_be_bytes w32 cell ++ to_be_bytes w8 (bit_of border)) ∙ omega arith

pub text_long : (l : NodeLeaf) → length (node_leaf_text l) ≡ 15 + 8 * length l.arcs + added_length l.extra
text_long l = by_extra l.id l.x l.y l.arcs l.extra
