use Rattle.std.proofs.Common.{◌≡◌, ◌+◌, ◌<◌, ◌^◌, length, get_or, take, count_by, sym, ◌∙◌, ap, arith, Some}
use Rattle.std.proofs.Math.ListN.{length-set}
use Rattle.std.proofs.lemmas.List.{get_or_default}
use Rattle.dimacs_reader.specs.declared.arc.Arc.{Arc}
use Rattle.dimacs_reader.specs.Dimacs.{is_arc}
use Rattle.dimacs_reader.specs.Left.{left_of, place_in}
use Rattle.dimacs_reader.proofs.SortedArcs.{has_place, within_arcs, one_more, none_left, at_place, few_counted, first_of}
use Rattle.dimacs_reader.proofs.pairing.count_arcs.Goals as goal

pub loop-arc-init : goal.loop-arc-init
loop-arc-init c = record { long = c.in_ok-left.ensures.long; counts = λ arc. none_left c.args.sorted.now c.in_ok-left.left.items c.in_ok-left.ensures.zero arc }

pub unwrap-place-requires : goal.unwrap-place-requires
unwrap-place-requires c =
    let d : Arc = record { from = 0; to = 0; length = 0 } in
    let within : c.loop-arc.arc-index < length c.args.sorted.now = omega arith in
    first_of c.place_in.result c.place_in.ensures (has_place c.args.sorted.now c.loop-arc.arc-index (get_or c.args.sorted.now c.loop-arc.arc-index d) within (get_or_default c.args.sorted.now c.loop-arc.arc-index d (get_or c.args.sorted.now c.loop-arc.arc-index d) within))

pub add_one-requires : goal.add_one-requires
add_one-requires c =
    let d : Arc = record { from = 0; to = 0; length = 0 } in
    let arc : Arc = get_or c.args.sorted.now c.loop-arc.arc-index d in
    let at : Some c.unwrap-place.result ≡ place_in c.args.sorted.now arc = sym c.unwrap-place.ensures ∙ c.place_in.ensures in
    let long : length c.loop-arc.left.items ≡ length c.args.sorted.now = c.loop-arc.invariant.long in
    let within : c.unwrap-place.result < length c.args.sorted.now = within_arcs c.args.sorted.now arc c.unwrap-place.result at in
    let few : length c.args.sorted.now < 2 ^ 32 = c.requires.few in
    let here : left_of c.args.sorted.now c.loop-arc.left.items arc ≡ get_or c.loop-arc.left.items c.unwrap-place.result 0 = at_place c.args.sorted.now c.loop-arc.left.items arc c.unwrap-place.result at in
    let so_far : left_of c.args.sorted.now c.loop-arc.left.items arc ≡ count_by (is_arc arc) (take c.loop-arc.arc-index c.args.sorted.now) = c.loop-arc.invariant.counts arc in
    let most = few_counted (is_arc arc) c.args.sorted.now c.loop-arc.arc-index in
    let below : c.loop-arc.arc-index < length c.args.sorted.now = omega arith in
    record { within = omega (arith, long, within); room = omega (arith, here, so_far, most, few, below) }

pub loop-arc-preserved : goal.loop-arc-preserved
loop-arc-preserved c =
    let d : Arc = record { from = 0; to = 0; length = 0 } in
    let arc : Arc = get_or c.args.sorted.now c.loop-arc.arc-index d in
    let at : Some c.unwrap-place.result ≡ place_in c.args.sorted.now arc = sym c.unwrap-place.ensures ∙ c.place_in.ensures in
    let within : c.loop-arc.arc-index < length c.args.sorted.now = omega arith in
    record {
      long = ap length c.add_one.ensures ∙ (length-set c.loop-arc.left.items c.unwrap-place.result (get_or c.loop-arc.left.items c.unwrap-place.result 0 + 1) ∙ c.loop-arc.invariant.long);
      counts = λ other. ap (λ ns. left_of c.args.sorted.now ns other) c.add_one.ensures ∙ one_more c.args.sorted.now c.loop-arc.left.items arc c.unwrap-place.result c.loop-arc.arc-index c.loop-arc.invariant.long at within (get_or_default c.args.sorted.now c.loop-arc.arc-index d arc within) c.loop-arc.invariant.counts other;
    }
