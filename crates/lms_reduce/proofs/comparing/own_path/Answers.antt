use Rattle.std.proofs.Common.{◌≡◌, ℕ, suc, ◌+◌, ◌-◌, ◌*◌, ◌/◌, ◌^◌, ◌<◌, ◌≤◌, ◌++◌, List, [], take, drop, length, arith, ap, subst, ◌∙◌, sym}
use Rattle.std.specs.List.{range_with_len, flat_map}
use Rattle.std.proofs.Math.Nat.{one-le-pow}
use Rattle.lms_ots.proofs.OtsLemmas.{pieces-more, piece-at}
use Rattle.lms_tree.specs.Signatures.{KeyOf, height_of, path_node, sibling}
use Rattle.lms_tree.specs.Nodes.{IsNode}
use Rattle.lms_tree.proofs.PathLemmas.{sibling-in, node-in, path-in, length-node_of}
use Rattle.lms_reduce.proofs.RootLemmas.{take-inside}
use Rattle.lms_reduce.proofs.comparing.own_path.Goals as goal

-- the number of a node beside the path is at least that of the root
beside-in : (h q k : ℕ) → q < 2 ^ h → k < h → 1 ≤ sibling ((2 ^ h + q) / 2 ^ k)
beside-in h q k l lt =
    let j : ℕ = h - k - 1 in
    let e : suc j + k ≡ h = omega arith in
    let here = node-in h q k j e l in
    omega (arith, (sibling-in j ((2 ^ h + q) / 2 ^ k) here.0 here.1).0, one-le-pow (suc j) 2 (omega arith))

-- and its digest is the one in the path
beside-is : (key : KeyOf) (q k : ℕ) (digest : List ℕ) → q < 2 ^ height_of key.kind → k < height_of key.kind → IsNode key (sibling ((2 ^ height_of key.kind + q) / 2 ^ k)) digest → digest ≡ path_node key.i key.seed (height_of key.kind) q k
unfolding path_node
beside-is key q k digest l lt n =
    let h = height_of key.kind in
    let j : ℕ = h - k - 1 in
    let e : suc j + k ≡ h = omega arith in
    let here = node-in h q k j e l in
    let there = sibling-in j ((2 ^ h + q) / 2 ^ k) here.0 here.1 in
    n k (suc j) e there.0 there.1

length-path_node : (i seed : List ℕ) (h q k : ℕ) → length (path_node i seed h q k) ≡ 32
unfolding path_node
length-path_node i seed h q k = length-node_of i seed h k (sibling ((2 ^ h + q) / 2 ^ k))

pub node-requires-clause-low : goal.node-requires-clause-low
node-requires-clause-low c =
    let h = height_of c.args.key.now.kind in
    let q = c.args.q in
    let k = c.loop-level.level in
    let number : c.beside.result ≡ sibling ((2 ^ h + q) / 2 ^ k) = c.beside.ensures ∙ ap (λ x. sibling ((x + q) / 2 ^ k)) c.slots.ensures in
    omega (arith, number, beside-in h q k c.requires (omega (arith, c.loop-level-test.true, c.height-level-end.ensures.height)))

pub node-requires-clause-high : goal.node-requires-clause-high
node-requires-clause-high c =
    let h = height_of c.args.key.now.kind in
    let q = c.args.q in
    let k = c.loop-level.level in
    let number : c.beside.result ≡ sibling ((2 ^ h + q) / 2 ^ k) = c.beside.ensures ∙ ap (λ x. sibling ((x + q) / 2 ^ k)) c.slots.ensures in
    omega (arith, number, path-in h q k c.requires (omega (arith, c.loop-level-test.true, c.height-level-end.ensures.height)))

pub loop-level-preserved : goal.loop-level-preserved
loop-level-preserved c =
    let key = c.args.key.now in
    let h = height_of key.kind in
    let q = c.args.q in
    let k = c.loop-level.level in
    let g = path_node key.i key.seed h q in
    let within : k < h = omega (arith, c.loop-level-test.true, c.height-level-end.ensures.height) in
    let number : c.beside.result ≡ sibling ((2 ^ h + q) / 2 ^ k) = c.beside.ensures ∙ ap (λ x. sibling ((x + q) / 2 ^ k)) c.slots.ensures in
    let value : c.node.result ≡ g k = beside-is key q k c.node.result c.requires within (subst (λ x. IsNode key x c.node.result) number c.node.ensures) in
    let place : 32 * (k + 1) ≡ 32 * k + 32 = omega arith in
    record {
      size = omega arith;
      written = ap (λ n. take n c.write_array.new.out) place ∙ c.write_array.ensures.written
          ∙ ap (λ (l : List ℕ). l ++ c.node.result) c.loop-level.invariant.written
          ∙ ap (λ (l : List ℕ). flat_map g (range_with_len 0 k) ++ l) value ∙ pieces-more g [] k;
    }

pub returns : goal.returns
returns c =
    let key = c.args.key.now in
    let h = height_of key.kind in
    let q = c.args.q in
    let g = path_node key.i key.seed h q in
    let path = c.loop-level.path in
    let all : c.loop-level.level ≡ h = omega (arith, c.loop-level-test.false, c.loop-level.auto.level-end, c.height-level-end.ensures.height) in
    let whole : take (32 * h) path ≡ flat_map g (range_with_len 0 h) = subst (λ n. take (32 * n) path ≡ flat_map g (range_with_len 0 n)) all c.loop-level.invariant.written in
    λ level lt.
    let e : 0 + level ≡ level = omega arith in
    sym (take-inside (32 * level) 32 (32 * h) path (omega (arith, lt))) ∙ ap (λ (l : List ℕ). take 32 (drop (32 * level) l)) whole
    ∙ piece-at g (λ a. length-path_node key.i key.seed h q a) 0 h level lt ∙ ap g e
