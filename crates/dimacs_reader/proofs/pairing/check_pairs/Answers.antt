use Rattle.std.proofs.Common.{◌≡◌, List, length, count_by, arith, ap, sym, ◌∙◌}
use Rattle.std.proofs.lemmas.List.Sorted.{length_permutation}
use Rattle.dimacs_reader.specs.declared.arc.Arc.{Arc}
use Rattle.dimacs_reader.specs.Dimacs.{is_arc}
use Rattle.dimacs_reader.specs.Left.{left_of}
use Rattle.dimacs_reader.proofs.SortedArcs.{same_counts}
use Rattle.dimacs_reader.proofs.pairing.check_pairs.Goals as goal

pub count_arcs-requires-clause-few : goal.count_arcs-requires-clause-few
count_arcs-requires-clause-few c =
    let lent : length c.deref.result.now ≡ length c.in_ok-sorted.sorted.items = ap length c.deref.ensures.value in
    let long : length c.in_ok-sorted.sorted.items ≡ length c.args.arcs.now = length_permutation c.args.arcs.now c.in_ok-sorted.sorted.items c.in_ok-sorted.ensures.same in
    omega (arith, lent, long, c.requires)

pub find_unpaired-requires-clause-counts : goal.find_unpaired-requires-clause-counts
find_unpaired-requires-clause-counts c = λ arc.
    ap (λ (xs : List Arc). left_of xs c.in_ok-left.left.items arc) (c.deref-2.ensures.value ∙ sym c.deref.ensures.value)
    ∙ (c.in_ok-left.ensures.counts arc
    ∙ (ap (count_by (is_arc arc)) c.deref.ensures.value ∙ same_counts c.args.arcs.now c.in_ok-sorted.sorted.items c.in_ok-sorted.ensures.same arc))
