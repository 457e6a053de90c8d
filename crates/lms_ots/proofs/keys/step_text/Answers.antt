use Rattle.std.proofs.Common.{List, ℕ, ◌++◌, ap, ◌∙◌, arith}
use Rattle.std.specs.Int.{w32, to_be_bytes}
use Rattle.lms_ots.proofs.PlaceLemmas.{drop-written, take-written}
use Rattle.lms_ots.proofs.keys.step_text.Goals as goal

pub returns-clause-prefix : goal.returns-clause-prefix
returns-clause-prefix c =
    take-written c.write_array-3.new.out c.write_array-4.new.out c.args.value.now 22 23 32 (omega arith) (omega arith) c.write_array-4.ensures.written
    ∙ c.write_array-3.ensures.written ∙ ap (λ (l : List ℕ). l ++ c.to_be_bytes-2.result) (c.write_array-2.ensures.written ∙ ap (λ (l : List ℕ). l ++ c.to_be_bytes.result) c.write_array.ensures.written)
    ∙ ap (λ (l : List ℕ). c.args.i.now ++ l ++ c.to_be_bytes-2.result) c.to_be_bytes.ensures ∙ ap (λ (l : List ℕ). c.args.i.now ++ to_be_bytes w32 c.args.q ++ l) c.to_be_bytes-2.ensures

pub returns-clause-value : goal.returns-clause-value
returns-clause-value c =
    drop-written c.write_array-3.new.out c.write_array-4.new.out c.args.value.now 23 32 (omega arith) (omega arith) c.write_array-4.ensures.written
