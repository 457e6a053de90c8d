use Rattle.std.proofs.Common.{refl, sym, ◌∙◌}
use Rattle.road_command.specs.Requests.{check_reach_words, check_reach_of}
use Rattle.road_command.proofs.SevenWords.{seven_words}
use Rattle.road_command.proofs.command.check_reach_of.Goals as goal

pub returns-in-7-clause-is : goal.returns-in-7-clause-is
returns-in-7-clause-is c =
    c.check_reach_along-in-7.ensures.is
    ∙ seven_words check_reach_words check_reach_of (λ a b c d e f. refl) c.args.words.now c.word.result.now (sym c.count.ensures ∙ c.in-7.is) c.word.ensures
