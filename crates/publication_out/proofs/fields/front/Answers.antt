use Rattle.std.proofs.Common.{[], ◌∙◌, refl, sym, arith, ap, take, length}
use Rattle.std.specs.Int.{w16, to_be_bytes}
use Rattle.std.proofs.lemmas.List.{take_all}
use Rattle.octet_text.proofs.Writes.{then, wrote}
use Rattle.publication_out.proofs.fields.front.Goals as goal

pub returns : goal.returns
returns c =
    let name = wrote {old = []} {new = take 4 c.write_array.new.out} c.write_array.ensures.written refl in
    let header = wrote {old = take 4 c.write_array.new.out} {new = take 108 c.write_array-2.new.out} c.write_array-2.ensures.written c.write.ensures in
    let long = wrote {old = take 108 c.write_array-2.new.out} {new = take 110 c.write_array-3.new.out} c.write_array-3.ensures.written (c.to_be_bytes.ensures ∙ ap (λ xs. to_be_bytes w16 (length xs)) c.as_slice.ensures) in
    sym (take_all 110 c.write_array-3.new.out (omega arith)) ∙ (then name (then header long)).is
