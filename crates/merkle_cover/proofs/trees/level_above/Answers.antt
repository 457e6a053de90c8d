use Rattle.std.proofs.Common.{◌≡◌, ℕ, List, [], ◌∷◌, ◌++◌, length, map, arith, ap, ◌∙◌, sym}
use Rattle.std.specs.List.{range_with_len, flat_map}
use Rattle.std.proofs.lemmas.Grind.{common_steps}
use Rattle.std.proofs.lemmas.List.FromFn.{map-range_with_len_more}
use Rattle.merkle_cover.specs.Trees.{group_digest, level_over}
use Rattle.merkle_cover.proofs.ShapeLemmas.{mul-lt-div_ceil}
use Rattle.merkle_cover.proofs.trees.level_above.Goals as goal

pub group-requires : goal.group-requires
group-requires g c =
    mul-lt-div_ceil c.loop-place.place (length c.args.below.now) c.args.fan c.requires.fan (omega (arith, c.loop-place-test.true, c.div_ceil-place-end.ensures))

pub loop-place-preserved : goal.loop-place-preserved
unfolding group_digest
loop-place-preserved g c =
    let f = group_digest g.H.Hasher.hash c.args.fan c.args.below.now in
    let more : c.push.new.list.items ≡ c.loop-place.digests.items ++ c.digest_of_pieces-digest.result ∷ [] = grind (arith, common_steps) in
    let here : c.digest_of_pieces-digest.result ≡ f c.loop-place.place = c.digest_of_pieces-digest.ensures ∙ ap (λ (l : List (List ℕ)). g.H.Hasher.hash (1 ∷ flat_map (λ (d : List ℕ). d) l)) c.group.ensures in
    more ∙ ap (λ (x : List ℕ). c.loop-place.digests.items ++ x ∷ []) here ∙ ap (λ (l : List (List ℕ)). l ++ f c.loop-place.place ∷ []) c.loop-place.invariant ∙ sym (map-range_with_len_more f 0 c.loop-place.place c.loop-place.place (omega arith))

pub returns : goal.returns
unfolding level_over
returns g c =
    let f = group_digest g.H.Hasher.hash c.args.fan c.args.below.now in
    let all : c.loop-place.place ≡ c.div_ceil-place-end.result = omega (arith, c.loop-place-test.false, c.loop-place.auto.place-end) in
    c.from_vec.ensures ∙ c.loop-place.invariant ∙ ap (λ n. map f (range_with_len 0 n)) (all ∙ c.div_ceil-place-end.ensures)
