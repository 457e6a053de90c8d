use Rattle.std.proofs.Common.{◌≡◌, ◌<◌, length, sym, ◌∙◌, ap, arith}
use Rattle.road_reader.proofs.WordLaws.{words_of_none}
use Rattle.dimacs_reader.specs.Told.{is_comment}
use Rattle.dimacs_reader.proofs.ToldLaws.{is_comment_first}
use Rattle.dimacs_reader.proofs.lines.is_comment.Goals as goal

pub returns-then-is_empty : goal.returns-then-is_empty
returns-then-is_empty c =
    let none : length c.skip_blanks-rest.result.now ≡ 0 = grind arith in
    c.if-is_empty.true ∙ ap is_comment (sym (words_of_none c.skip_blanks-rest.result.now none) ∙ c.skip_blanks-rest.ensures.words)

pub returns-else-is_empty : goal.returns-else-is_empty
returns-else-is_empty c =
    let some : 0 < length c.skip_blanks-rest.result.now = grind arith in
    sym (is_comment_first c.skip_blanks-rest.result.now some (c.skip_blanks-rest.ensures.word some)) ∙ ap is_comment c.skip_blanks-rest.ensures.words
