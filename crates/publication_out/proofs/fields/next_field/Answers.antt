use Rattle.std.proofs.Common.{◌≡◌, ◌+◌, ◌-◌, ◌<◌, ◌≤◌, List, ℕ, length, take, drop, ◌∙◌, sym, arith, ap, subst}
use Rattle.std.proofs.lemmas.List.{take_rest, length-drop}
use Rattle.publication_out.specs.Ahead.{IsStep}
use Rattle.publication_out.specs.declared.fields.Part.{Part}
use Rattle.publication_out.proofs.AheadLemmas.{signature_step}
use Rattle.publication_out.proofs.fields.next_field.Goals as goal

pub returns-then-index-signature : goal.returns-then-index-signature
returns-then-index-signature c =
    let b = c.args.publication.now in
    let i = c.args.index in
    let s = c.as_slice-signature.result.now in
    let len = c.write_front-len.result in
    let rest : take (length s - i) (drop i s) ≡ drop i s = take_rest s i in
    let long : length (take (length s - i) (drop i s)) ≡ length s - i = ap length rest ∙ length-drop i s in
    let some : 0 < len = c.write_front-len.ensures.some (omega (arith, long, c.if-index-signature.true)) in
    let same : take len c.write_front-len.new.buffer ≡ take len (drop i b.signature) = c.write_front-len.ensures.text ∙ ap (take len) (rest ∙ ap (drop i) c.as_slice-signature.ensures) in
    let within : len ≤ length c.write_front-len.new.buffer = omega (arith, c.write_front-len.ensures.within.0, c.write_front-len.auto.buffer) in
    subst (λ (p : Part). IsStep b p i c.write_front-len.new.buffer (record { len = len; part = p; index = i + len })) (sym c.in-Signature.is) (signature_step b i len c.write_front-len.new.buffer some same within)
