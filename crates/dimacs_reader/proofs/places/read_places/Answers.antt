use Rattle.std.proofs.Common.{◌≡◌, ◌≢◌, inr, length, arith}
use Rattle.std.proofs.lemmas.Grind.{common_steps}
use Rattle.std.proofs.lemmas.Result.{err_from_is_err_and}
use Rattle.road_reader.specs.Lines.{words_of}
use Rattle.dimacs_reader.specs.Told.{told_lines}
use Rattle.dimacs_reader.proofs.FileLaws.{places_of_nothing, places_unsized, places_bad, places_other, places_miscounted, places_whole}
use Rattle.dimacs_reader.proofs.places.read_places.Goals as goal
use Rattle.dimacs_reader.proofs.places.read_places.Goals.{then-count-nodes-via-then-count-nodes, then-count-nodes-via-else-count-nodes+then-len-count}

pub returns-in_default-clause-fault : goal.returns-in_default-clause-fault
returns-in_default-clause-fault c = inr (places_of_nothing c.args.nodes c.args.text.now c.in_default.ensures.line)

pub returns-in_err-count-clause-fault : goal.returns-in_err-count-clause-fault
returns-in_err-count-clause-fault c =
    let p = err_from_is_err_and c.from_residual.result c.from_residual.ensures.1 in
    rw (p.1, p.2) (inr (places_unsized c.args.nodes c.args.text.now c.in-Some.problem.number (words_of c.in-Some.problem.octets.now) (told_lines c.next_line.new.lines.passed c.next_line.new.lines.rest.now) c.in-Some.ensures.line _ c.in_err-count.ensures))

pub returns-in_err-places-clause-fault : goal.returns-in_err-places-clause-fault
returns-in_err-places-clause-fault c =
    let p = err_from_is_err_and c.from_residual-in_err-places.result c.from_residual-in_err-places.ensures.1 in
    rw (p.1, p.2) (places_bad c.args.nodes c.args.text.now c.in-Some.problem.number (words_of c.in-Some.problem.octets.now) (told_lines c.next_line.new.lines.passed c.next_line.new.lines.rest.now) c.in-Some.ensures.line c.in_ok-count.count _ c.in_ok-count.ensures c.in_err-places.ensures.fault)

pub returns-then-count-nodes-clause-fault : goal.returns-then-count-nodes-clause-fault
returns-then-count-nodes-clause-fault c = elim c.then-count-nodes.branch [
  | then-count-nodes-via-then-count-nodes w ↦
      inr (places_other c.args.nodes c.args.text.now c.in-Some.problem.number (words_of c.in-Some.problem.octets.now) (told_lines c.next_line.new.lines.passed c.next_line.new.lines.rest.now) c.in-Some.ensures.line c.in_ok-count.count c.in_ok-places.places.items c.in_ok-count.ensures c.in_ok-places.ensures.places w.if-count-nodes.true)
  | then-count-nodes-via-else-count-nodes+then-len-count w ↦
      let apart : length c.in_ok-places.places.items ≢ c.in_ok-count.count = grind (arith, common_steps) in
      inr (places_miscounted c.args.nodes c.args.text.now c.in-Some.problem.number (words_of c.in-Some.problem.octets.now) (told_lines c.next_line.new.lines.passed c.next_line.new.lines.rest.now) c.in-Some.ensures.line c.in_ok-count.count c.in_ok-places.places.items c.in_ok-count.ensures c.in_ok-places.ensures.places w.if-count-nodes.false apart)
]

pub returns-clause-places : goal.returns-clause-places
returns-clause-places c =
    let long : length c.in_ok-places.places.items ≡ c.in_ok-count.count = grind (arith, common_steps) in
    places_whole c.args.nodes c.args.text.now c.in-Some.problem.number (words_of c.in-Some.problem.octets.now) (told_lines c.next_line.new.lines.passed c.next_line.new.lines.rest.now) c.in-Some.ensures.line c.in_ok-count.count c.in_ok-places.places.items c.in_ok-count.ensures c.in_ok-places.ensures.places c.if-count-nodes.false long
