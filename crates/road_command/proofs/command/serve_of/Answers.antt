use Rattle.std.proofs.Common.{Some, sym, ap, ◌∙◌}
use Rattle.road_command.proofs.ServeWords.{three_words, four_words}
use Rattle.road_command.proofs.command.serve_of.Goals as goal

pub returns-in-3-clause-is : goal.returns-in-3-clause-is
returns-in-3-clause-is c = ap (λ x. Some x) c.serve_signed.ensures.is ∙ three_words c.args.words.now (sym c.count.ensures ∙ c.in-3.is)

pub returns-in-4-clause-is : goal.returns-in-4-clause-is
returns-in-4-clause-is c =
    ap (λ x. Some x) c.serve_signed-in-4.ensures.is
    ∙ four_words c.args.words.now c.word-in-4.result.now (sym c.count.ensures ∙ c.in-4.is) c.word-in-4.ensures
