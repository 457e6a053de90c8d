use Rattle.std.proofs.Common.{List, ℕ, [], ◌∷◌, ◌++◌, ◌∙◌, ap, sym, arith}
use Rattle.std.proofs.lemmas.List.{take_all}
use Rattle.lms_reduce.specs.Texts.{step_text}
use Rattle.lms_reduce.proofs.texts.step_text.Goals as goal

pub returns : goal.returns
unfolding step_text
returns c =
    sym (take_all 55 c.write_array-3.new.out (omega arith)) ∙ c.write_array-3.ensures.written
    ∙ ap (λ (l : List ℕ). l ++ c.args.value.now) (c.write_array-2.ensures.written ∙ ap (λ (l : List ℕ). l ++ c.args.number ∷ []) (c.write_array.ensures.written ∙ c.prefix.ensures))
