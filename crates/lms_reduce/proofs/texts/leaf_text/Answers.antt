use Rattle.std.proofs.Common.{List, ℕ, ◌++◌, ◌∙◌, ap, sym, arith}
use Rattle.std.proofs.lemmas.List.{take_all}
use Rattle.lms_reduce.specs.Texts.{leaf_text}
use Rattle.lms_reduce.proofs.texts.leaf_text.Goals as goal

pub returns : goal.returns
unfolding leaf_text
returns c =
    sym (take_all 54 c.write_array-2.new.out (omega arith)) ∙ c.write_array-2.ensures.written
    ∙ ap (λ (l : List ℕ). l ++ c.args.key.now) (c.write_array.ensures.written ∙ c.prefix.ensures)
