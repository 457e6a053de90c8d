use Rattle.std.proofs.Common.{◌≡◌, ◌≢◌, inr, length, arith}
use Rattle.std.proofs.lemmas.Grind.{common_steps}
use Rattle.std.proofs.lemmas.Result.{err_from_is_err_and}
use Rattle.road_reader.specs.Lines.{words_of}
use Rattle.dimacs_reader.specs.Told.{told_lines}
use Rattle.dimacs_reader.proofs.FileLaws.{graph_of_nothing, graph_unsized, graph_bad_arc, graph_miscounted, graph_whole}
use Rattle.dimacs_reader.proofs.graph.read_graph.Goals as goal

pub returns-in_default-clause-fault : goal.returns-in_default-clause-fault
returns-in_default-clause-fault c = inr (graph_of_nothing c.args.text.now c.in_default.ensures.line)

pub returns-in_err-size-clause-fault : goal.returns-in_err-size-clause-fault
returns-in_err-size-clause-fault c =
    let p = err_from_is_err_and c.from_residual.result c.from_residual.ensures.1 in
    rw (p.1, p.2) (inr (graph_unsized c.args.text.now c.in-Some.problem.number (words_of c.in-Some.problem.octets.now) (told_lines c.next_line.new.lines.passed c.next_line.new.lines.rest.now) c.in-Some.ensures.line _ c.in_err-size.ensures))

pub returns-in_err-arcs-clause-fault : goal.returns-in_err-arcs-clause-fault
returns-in_err-arcs-clause-fault c =
    let p = err_from_is_err_and c.from_residual-in_err-arcs.result c.from_residual-in_err-arcs.ensures.1 in
    rw (p.1, p.2) (graph_bad_arc c.args.text.now c.in-Some.problem.number (words_of c.in-Some.problem.octets.now) (told_lines c.next_line.new.lines.passed c.next_line.new.lines.rest.now) c.in-Some.ensures.line c.in_ok-size.size _ c.in_ok-size.ensures c.in_err-arcs.ensures.fault)

pub returns-then-len-size-clause-fault : goal.returns-then-len-size-clause-fault
returns-then-len-size-clause-fault c =
    let apart : length c.in_ok-arcs.arcs.items ≢ c.in_ok-size.size.arcs = grind (arith, common_steps) in
    inr (graph_miscounted c.args.text.now c.in-Some.problem.number (words_of c.in-Some.problem.octets.now) (told_lines c.next_line.new.lines.passed c.next_line.new.lines.rest.now) c.in-Some.ensures.line c.in_ok-size.size c.in_ok-arcs.arcs.items c.in_ok-size.ensures c.in_ok-arcs.ensures.arcs apart)

pub returns-clause-graph : goal.returns-clause-graph
returns-clause-graph c =
    let same : length c.in_ok-arcs.arcs.items ≡ c.in_ok-size.size.arcs = grind (arith, common_steps) in
    rw c.from_vec.ensures (graph_whole c.args.text.now c.in-Some.problem.number (words_of c.in-Some.problem.octets.now) (told_lines c.next_line.new.lines.passed c.next_line.new.lines.rest.now) c.in-Some.ensures.line c.in_ok-size.size c.in_ok-arcs.arcs.items c.in_ok-size.ensures c.in_ok-arcs.ensures.arcs same)
