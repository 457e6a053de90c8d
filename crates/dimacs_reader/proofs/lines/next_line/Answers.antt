use Rattle.std.proofs.Common.{◌≡◌, length, sym, ◌∙◌, arith}
use Rattle.dimacs_reader.proofs.ToldLaws.{told_lines_kept, told_lines_skipped, told_lines_none}
use Rattle.dimacs_reader.proofs.lines.next_line.Goals as goal

pub returns-then-not-is_comment-clause-line : goal.returns-then-not-is_comment-clause-line
returns-then-not-is_comment-clause-line c =
    sym c.loop-octets.invariant.same
    ∙ told_lines_kept c.loop-octets.lines.passed c.loop-octets.lines.rest.now c.split_line.result.0.now c.split_line.result.1.now
    c.split_line.ensures.line (sym c.is_comment.ensures ∙ c.if-not-is_comment.true)

pub loop-octets-preserved : goal.loop-octets-preserved
loop-octets-preserved c = record {
  same =
      sym (told_lines_skipped c.loop-octets.lines.passed c.loop-octets.lines.rest.now c.split_line.result.0.now c.split_line.result.1.now
      c.split_line.ensures.line (sym c.is_comment.ensures ∙ c.if-not-is_comment.false))
      ∙ c.loop-octets.invariant.same;
  fits = omega arith;
  shorter = omega arith;
}

pub returns-clause-line : goal.returns-clause-line
returns-clause-line c =
    let none : length c.loop-octets.lines.rest.now ≡ 0 = grind arith in
    sym c.loop-octets.invariant.same ∙ told_lines_none c.loop-octets.lines.passed c.loop-octets.lines.rest.now none
