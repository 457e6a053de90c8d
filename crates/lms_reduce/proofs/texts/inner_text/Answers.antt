use Rattle.std.proofs.Common.{List, ℕ, ◌++◌, ◌∙◌, ap, sym, arith}
use Rattle.std.proofs.lemmas.List.{take_all}
use Rattle.lms_reduce.specs.Texts.{inner_text}
use Rattle.lms_reduce.proofs.texts.inner_text.Goals as goal

pub returns : goal.returns
unfolding inner_text
returns c =
    sym (take_all 86 c.write_array-3.new.out (omega arith)) ∙ c.write_array-3.ensures.written
    ∙ ap (λ (l : List ℕ). l ++ c.args.right.now) (c.write_array-2.ensures.written ∙ ap (λ (l : List ℕ). l ++ c.args.left.now) (c.write_array.ensures.written ∙ c.prefix.ensures))
