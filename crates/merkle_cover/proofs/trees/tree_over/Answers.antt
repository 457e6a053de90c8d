use Rattle.std.proofs.Common.{◌≡◌, ℕ, suc, ◌+◌, ◌<◌, ◌≤◌, List, [], ◌∷◌, ◌++◌, length, get_or, arith, ap, ◌∙◌, sym, add-one}
use Rattle.std.proofs.lemmas.Grind.{common_steps}
use Rattle.merkle_cover.specs.Shape.{places_at}
use Rattle.merkle_cover.specs.Trees.{level, level_over, digest}
use Rattle.merkle_cover.proofs.ShapeLemmas.{div_ceil-falls}
use Rattle.merkle_cover.proofs.LevelLemmas.{level-leaves, level_over-level, length-level, get_or-level, levels_to-zero, levels_to-push, length-levels_to, get_or-levels_to, top-single, top-more, IsShaped-levels_to, tree_of-is, places_at-some}
use Rattle.merkle_cover.proofs.trees.tree_over.Goals as goal

-- a level has fewer positions than the one below
falls : (n f k : ℕ) → 2 ≤ f → 1 < places_at n f k → places_at n f (k + 1) < places_at n f k
unfolding places_at
falls n f k h l = rw add-one (div_ceil-falls (places_at n f k) f h l)

pub loop-count-init : goal.loop-count-init
unfolding places_at
loop-count-init g c =
    let h = g.H.Hasher.hash in
    let texts = c.args.leaves.now in
    let f = c.args.fan in
    let first : c.in_ok-first.first ≡ level h texts f 0 = c.in_ok-first.ensures ∙ level-leaves h texts f in
    let size : length c.in_ok-first.first ≡ length texts = ap (λ (l : List (List ℕ)). length l) first ∙ length-level h texts f 0 in
    let one : c.push.new.list.items ≡ c.in_ok-first.first ∷ [] = grind (arith, common_steps) in
    record {
      told = one ∙ ap (λ (l : List (List ℕ)). l ∷ []) first ∙ sym (levels_to-zero h texts f);
      count_is = c.count_of-count.ensures ∙ size;
      last_in = omega arith;
      few = omega (arith, c.count_of-count.ensures, size);
    }

pub index-below-requires : goal.index-below-requires
index-below-requires g c =
    let h = g.H.Hasher.hash in
    let texts = c.args.leaves.now in
    omega (arith, length-levels_to h texts c.args.fan c.loop-count.last, ap (λ (l : List (List (List ℕ))). length l) c.loop-count.invariant.told, c.loop-count.levels.ok.0)

pub loop-count-smaller : goal.loop-count-smaller
loop-count-smaller g c =
    let h = g.H.Hasher.hash in
    let texts = c.args.leaves.now in
    let f = c.args.fan in
    let last = c.loop-count.last in
    let at = c.loop-count.invariant in
    let below : c.index-below.result.now ≡ level h texts f last =
    c.index-below.ensures ∙ ap (λ (l : List (List (List ℕ))). get_or l last c.index-below.result.now) at.told ∙ get_or-levels_to h texts f last last c.index-below.result.now (omega arith) in
    let next : c.in_ok-next.next ≡ level h texts f (last + 1) =
    (let e : suc last ≡ last + 1 = omega arith in c.in_ok-next.ensures ∙ ap (level_over h f) (c.as_slice.ensures ∙ below) ∙ level_over-level h texts f last ∙ ap (level h texts f) e) in
    let size : length c.in_ok-next.next ≡ places_at (length texts) f (last + 1) = ap (λ (l : List (List ℕ)). length l) next ∙ length-level h texts f (last + 1) in
    omega (arith, c.count_of-count-in-loop-count.ensures, size, falls (length texts) f last c.requires.fan (omega (arith, at.count_is, c.loop-count-test.true)), at.count_is)

pub loop-count-preserved : goal.loop-count-preserved
loop-count-preserved g c =
    let h = g.H.Hasher.hash in
    let texts = c.args.leaves.now in
    let f = c.args.fan in
    let last = c.loop-count.last in
    let at = c.loop-count.invariant in
    let below : c.index-below.result.now ≡ level h texts f last =
    c.index-below.ensures ∙ ap (λ (l : List (List (List ℕ))). get_or l last c.index-below.result.now) at.told ∙ get_or-levels_to h texts f last last c.index-below.result.now (omega arith) in
    let next : c.in_ok-next.next ≡ level h texts f (last + 1) =
    (let e : suc last ≡ last + 1 = omega arith in c.in_ok-next.ensures ∙ ap (level_over h f) (c.as_slice.ensures ∙ below) ∙ level_over-level h texts f last ∙ ap (level h texts f) e) in
    let more : c.push-in-loop-count.new.list.items ≡ c.loop-count.levels.items ++ c.in_ok-next.next ∷ [] = grind (arith, common_steps) in
    let size : length c.in_ok-next.next ≡ places_at (length texts) f (last + 1) = ap (λ (l : List (List ℕ)). length l) next ∙ length-level h texts f (last + 1) in
    record {
      told = more ∙ ap (λ (x : List (List ℕ)). c.loop-count.levels.items ++ x ∷ []) next ∙ ap (λ (l : List (List (List ℕ))). l ++ level h texts f (last + 1) ∷ []) at.told ∙ sym (levels_to-push h texts f last);
      count_is = c.count_of-count-in-loop-count.ensures ∙ size;
      last_in = top-more (length texts) f last c.requires.fan at.last_in (omega (arith, at.count_is, c.loop-count-test.true));
      few = omega (arith, at.few, c.count_of-count-in-loop-count.ensures, size, falls (length texts) f last c.requires.fan (omega (arith, at.count_is, c.loop-count-test.true)), at.count_is);
    }

pub index-top-requires : goal.index-top-requires
index-top-requires g c =
    let h = g.H.Hasher.hash in
    let texts = c.args.leaves.now in
    omega (arith, length-levels_to h texts c.args.fan c.loop-count.last, ap (λ (l : List (List (List ℕ))). length l) c.loop-count.invariant.told, c.loop-count.levels.ok.0)

pub first_digest-root-requires : goal.first_digest-root-requires
first_digest-root-requires g c =
    let h = g.H.Hasher.hash in
    let texts = c.args.leaves.now in
    let f = c.args.fan in
    let last = c.loop-count.last in
    let at = c.loop-count.invariant in
    let top_is : c.index-top.result.now ≡ level h texts f last =
    c.index-top.ensures ∙ ap (λ (l : List (List (List ℕ))). get_or l last c.index-top.result.now) at.told ∙ get_or-levels_to h texts f last last c.index-top.result.now (omega arith) in
    omega (arith, ap (λ (l : List (List ℕ)). length l) (c.as_slice-2.ensures ∙ top_is), length-level h texts f last, places_at-some (length texts) f last (omega (arith, c.requires.fan)) c.requires.leaves)

pub invariant_of-result : goal.invariant_of-result
invariant_of-result g c =
    let at = c.loop-count.invariant in
    let one = top-single (length c.args.leaves.now) c.args.fan c.loop-count.last c.requires.fan at.last_in (omega (arith, at.count_is, c.loop-count-test.false)) in
    IsShaped-levels_to g.H.Hasher.hash c.args.leaves.now c.args.fan c.loop-count.last c.loop-count.levels.items c.requires.fan c.requires.fan_max c.requires.leaves c.requires.leaves_max one at.told

pub returns : goal.returns
returns g c =
    let h = g.H.Hasher.hash in
    let texts = c.args.leaves.now in
    let f = c.args.fan in
    let last = c.loop-count.last in
    let at = c.loop-count.invariant in
    let one = top-single (length texts) f last c.requires.fan at.last_in (omega (arith, at.count_is, c.loop-count-test.false)) in
    let top_is : c.index-top.result.now ≡ level h texts f last =
    c.index-top.ensures ∙ ap (λ (l : List (List (List ℕ))). get_or l last c.index-top.result.now) at.told ∙ get_or-levels_to h texts f last last c.index-top.result.now (omega arith) in
    let first : c.first_digest-root.result ≡ digest h texts f last 0 = c.first_digest-root.ensures ∙ ap (λ (l : List (List ℕ)). get_or l 0 []) (c.as_slice-2.ensures ∙ top_is) ∙ get_or-level h texts f last 0 [] (places_at-some (length texts) f last (omega (arith, c.requires.fan)) c.requires.leaves) in
    tree_of-is h texts f last c.first_digest-root.result c.loop-count.levels.items one at.told first
