use Rattle.std.proofs.Common.{rules, ◌≡◌, true, false, sym, ◌∙◌, arith}
use Rattle.std.specs.List.Sorted.{IsPartitionPoint}
use Rattle.std.proofs.lemmas.List.Sorted.{IsPartitionPoint-from_clause}
use Rattle.proof_judge.proofs.PairKeys.{before, partitioned, named_here, named_past, named_not, stands}
use Rattle.proof_judge.proofs.pairs_by_id.find_sorted.Goals as goal

pub returns-in-None : goal.returns-in-None
returns-in-None c =
    let point : IsPartitionPoint (λ y. before c.args.a c.args.b y ≡ true) (λ y. before c.args.a c.args.b y ≡ false) c.args.sorted.now c.partition_point-place.result = IsPartitionPoint-from_clause (before c.args.a c.args.b) c.args.sorted.now c.partition_point-place.result c.partition_point-place.ensures.partitioned (partitioned c.args.sorted.now c.requires c.args.a c.args.b) (λ y r f k. search rules) in
    named_past c.args.sorted.now c.requires c.args.a c.args.b c.partition_point-place.result point (omega (arith, c.in-None.ensures.lookup.3))

pub returns-then-names : goal.returns-then-names
returns-then-names c =
    let point : IsPartitionPoint (λ y. before c.args.a c.args.b y ≡ true) (λ y. before c.args.a c.args.b y ≡ false) c.args.sorted.now c.partition_point-place.result = IsPartitionPoint-from_clause (before c.args.a c.args.b) c.args.sorted.now c.partition_point-place.result c.partition_point-place.ensures.partitioned (partitioned c.args.sorted.now c.requires c.args.a c.args.b) (λ y r f k. search rules) in
    named_here c.args.sorted.now c.requires c.args.a c.args.b c.partition_point-place.result point c.in-Some.pair.now (stands c.args.sorted.now c.partition_point-place.result c.in-Some.pair.now c.in-Some.ensures.lookup.0 c.in-Some.ensures.lookup.1) (sym c.names.ensures ∙ c.if-names.true)

pub returns-else-names : goal.returns-else-names
returns-else-names c =
    let point : IsPartitionPoint (λ y. before c.args.a c.args.b y ≡ true) (λ y. before c.args.a c.args.b y ≡ false) c.args.sorted.now c.partition_point-place.result = IsPartitionPoint-from_clause (before c.args.a c.args.b) c.args.sorted.now c.partition_point-place.result c.partition_point-place.ensures.partitioned (partitioned c.args.sorted.now c.requires c.args.a c.args.b) (λ y r f k. search rules) in
    named_not c.args.sorted.now c.requires c.args.a c.args.b c.partition_point-place.result point c.in-Some.pair.now (stands c.args.sorted.now c.partition_point-place.result c.in-Some.pair.now c.in-Some.ensures.lookup.0 c.in-Some.ensures.lookup.1) (sym c.names.ensures ∙ c.if-names.false)
