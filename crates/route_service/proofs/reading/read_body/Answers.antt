use Rattle.std.proofs.Common.{◌≡◌, ◌+◌, ◌-◌, ℕ, List, arith, ap, ◌∙◌, length, length-append, replicate, vec_len, refl, sym, [], take, length-take-le, append-nil}
use Rattle.std.proofs.lemmas.List.{length-replicate}
use Rattle.route_service.proofs.FrameLemmas.{Consumes_alone}
use Rattle.route_service.proofs.reading.read_body.Given.{Over}
use Rattle.route_service.proofs.reading.read_body.Goals as goal
use Rattle.route_service.proofs.reading.read_body.Goals.{In-Err-read_whole}

pub returns-in-Err-clause-gave : goal.returns-in-Err-clause-gave
returns-in-Err-clause-gave g c = record { octets = []; gave = sym (append-nil _); is = refl }

pub returns-in-Ok-clause-gave : goal.returns-in-Ok-clause-gave
returns-in-Ok-clause-gave g c =
    let octets = take c.in-Ok.n c.read_whole.new.into in
    let size = length-take-le c.in-Ok.n c.read_whole.new.into c.in-Ok.ensures.most in
    record { octets = octets; gave = c.in-Ok.ensures.gave; is = (octets, rw size c.if-n-size.true, Consumes_alone octets, refl) }

-- the buffer has the size of the body
sized : (g : Over) (c : In-Err-read_whole g) → length c.as_mut_slice.result.now ≡ c.args.size
sized g c =
    let short = c.truncate.new.self in
    let more : ℕ = c.args.size - vec_len short in
    let all : length c.as_mut_slice.result.now ≡ length short.items + more = ap (λ (l : List ℕ). length l) (c.as_mut_slice.ensures.value ∙ c.in_default.ensures.items) ∙ (length-append short.items (replicate more 0) ∙ ap (λ (n : ℕ). length short.items + n) (length-replicate more 0)) in
    omega (arith, all, c.truncate.ensures.len, short.ok.0)

pub returns-in-Err-read_whole-clause-takes : goal.returns-in-Err-read_whole-clause-takes
returns-in-Err-read_whole-clause-takes g c =
    let got = c.in-Err-read_whole.ensures.err in
    (got.0, omega (arith, sized g c, got.1), got.2)

pub returns-in-Err-read_whole-clause-gave : goal.returns-in-Err-read_whole-clause-gave
returns-in-Err-read_whole-clause-gave g c =
    let some = c.in-Err-read_whole.ensures.gave_some in
    record { octets = some.octets; gave = some.gave; is = (some.octets, omega (arith, sized g c, some.is), Consumes_alone some.octets) }
