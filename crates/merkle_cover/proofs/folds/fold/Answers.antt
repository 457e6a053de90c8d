use Rattle.std.proofs.Common.{◌≡◌, ◌^◌, arith, subst, rules, None}
use Rattle.merkle_cover.specs.Covers.{first_fault}
use Rattle.merkle_cover.proofs.FoldLemmas.{CanWalk-start, rising-first_fault}
use Rattle.merkle_cover.proofs.folds.fold.Goals as goal

pub fold_place-all-requires : goal.fold_place-all-requires
fold_place-all-requires g c =
    let none : first_fault c.args.leaves c.args.places.now ≡ None = search rules in
    rw (c.from.ensures, c.from-2.ensures) (record { walk = CanWalk-start c.args.leaves c.args.fan c.args.places.now c.top_of-level.result.0 c.top_of-level.result.1 c.requires.fan c.requires.fan_max c.requires.leaves (omega (arith, c.ranges.leaves)) (rising-first_fault c.args.leaves c.args.places.now none) (subst (λ x. c.top_of-level.result.1 ≡ x ^ c.top_of-level.result.0) c.from-2.ensures c.top_of-level.ensures.span) c.top_of-level.ensures.few; texts = c.requires.texts; taken = omega arith })
