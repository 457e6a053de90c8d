use Rattle.std.proofs.Common.{◌++◌, ◌∙◌, ap, sym, List, ℕ, arith}
use Rattle.std.specs.Int.{w16, to_be_bytes}
use Rattle.std.proofs.lemmas.List.{take_all}
use Rattle.lms_ots.specs.Chains.{digits_of, text_hash, checksum}
use Rattle.lms_ots.proofs.signatures.digits.Goals as goal

pub returns : goal.returns
unfolding digits_of text_hash
returns c =
    let out = c.write_array-2.new.out in
    let hash = c.end-hash.ensures _ (c.add-2.ensures _ (c.add.ensures _ c.prefixed-hasher.ensures)) in
    sym (take_all 34 out (omega arith)) ∙ c.write_array-2.ensures.written
    ∙ ap (λ (l : List ℕ). l ++ c.to_be_bytes.result) c.write_array.ensures.written
    ∙ ap (λ (l : List ℕ). c.end-hash.result ++ l) (c.to_be_bytes.ensures ∙ ap (to_be_bytes w16) c.checksum_of.ensures)
    ∙ ap (λ (h : List ℕ). h ++ to_be_bytes w16 (checksum h)) hash
