use Rattle.std.proofs.Common.{rules, ◌≡◌, true, false, sym, ◌∙◌, arith, subst, ◌<◌, length}
use Rattle.std.specs.List.Sorted.{IsPartitionPoint}
use Rattle.std.proofs.lemmas.List.Sorted.{IsPartitionPoint-from_clause}
use Rattle.dimacs_reader.specs.declared.arc.Arc.{Arc}
use Rattle.dimacs_reader.specs.Dimacs.{is_arc}
use Rattle.dimacs_reader.specs.Left.{precedes}
use Rattle.dimacs_reader.proofs.SortedArcs.{partitioned, place_here, place_past, place_not}
use Rattle.dimacs_reader.proofs.pairing.place_in.Goals as goal

pub returns-in-None : goal.returns-in-None
returns-in-None c =
    let point : IsPartitionPoint (λ y. precedes c.args.arc y ≡ true) (λ y. precedes c.args.arc y ≡ false) c.args.sorted.now c.partition_point-place.result = IsPartitionPoint-from_clause (precedes c.args.arc) c.args.sorted.now c.partition_point-place.result c.partition_point-place.ensures.partitioned (partitioned c.args.sorted.now c.requires c.args.arc) (λ y r f k. search rules) in
    place_past c.args.sorted.now c.requires c.args.arc c.partition_point-place.result point c.args.arc (omega (arith, c.in-None.ensures.lookup.3))

pub returns-then-is_arc : goal.returns-then-is_arc
returns-then-is_arc c =
    let point : IsPartitionPoint (λ y. precedes c.args.arc y ≡ true) (λ y. precedes c.args.arc y ≡ false) c.args.sorted.now c.partition_point-place.result = IsPartitionPoint-from_clause (precedes c.args.arc) c.args.sorted.now c.partition_point-place.result c.partition_point-place.ensures.partitioned (partitioned c.args.sorted.now c.requires c.args.arc) (λ y r f k. search rules) in
    let within : c.partition_point-place.result < length c.args.sorted.now = grind (arith, c.in-Some.ensures.lookup.0) in
    place_here c.args.sorted.now c.requires c.args.arc c.partition_point-place.result point c.in-Some.other.now within (subst (λ (x : Arc). is_arc c.args.arc x ≡ true) c.in-Some.ensures.lookup.1 (sym c.is_arc.ensures ∙ c.if-is_arc.true))

pub returns-else-is_arc : goal.returns-else-is_arc
returns-else-is_arc c =
    let point : IsPartitionPoint (λ y. precedes c.args.arc y ≡ true) (λ y. precedes c.args.arc y ≡ false) c.args.sorted.now c.partition_point-place.result = IsPartitionPoint-from_clause (precedes c.args.arc) c.args.sorted.now c.partition_point-place.result c.partition_point-place.ensures.partitioned (partitioned c.args.sorted.now c.requires c.args.arc) (λ y r f k. search rules) in
    let within : c.partition_point-place.result < length c.args.sorted.now = grind (arith, c.in-Some.ensures.lookup.0) in
    place_not c.args.sorted.now c.requires c.args.arc c.partition_point-place.result point c.in-Some.other.now within (subst (λ (x : Arc). is_arc c.args.arc x ≡ false) c.in-Some.ensures.lookup.1 (sym c.is_arc.ensures ∙ c.if-is_arc.false))
