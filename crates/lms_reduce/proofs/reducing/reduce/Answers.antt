use Rattle.std.proofs.Common.{◌≡◌, ℕ, List, Ok, Err, ap, sym, ◌∙◌}
use Rattle.std.specs.Int.{w32, from_be_bytes}
use Rattle.lms_tree.specs.Signatures.{number_at, public_key, verified}
use Rattle.lms_reduce.specs.declared.reduced.ReduceError.TheVariants.{Signed}
use Rattle.lms_reduce.proofs.reducing.reduce.Goals as goal
use Rattle.lms_reduce.proofs.reducing.reduce.Goals.{After-from_be_bytes-q}

number : (c : After-from_be_bytes-q) → c.from_be_bytes-q.result ≡ number_at c.args.sig.now 0
unfolding number_at
number c = c.from_be_bytes-q.ensures ∙ ap (from_be_bytes w32) c.array_at.ensures

good : (c : After-from_be_bytes-q) → verified (public_key c.args.key.now) c.args.text.now c.args.sig.now ≡ Ok tt
good c =
    ap (λ (k : List ℕ). verified k c.args.text.now c.args.sig.now) (sym c.public.ensures) ∙ sym c.verify.ensures ∙ c.in_default.is

pub returns-then-is_signed-clause-signed : goal.returns-then-is_signed-clause-signed
returns-then-is_signed-clause-signed c q =
    let d = (goal.at.returns-then-is_signed-clause-signed c).After-from_be_bytes-q in
    let n = number d in (
      λ e. record { good = good d; signed = c.if-is_signed.ensures.signed; of_slot = (let s : c.from_be_bytes-q.result ≡ q = cc in sym s ∙ n) },
      λ f. ap (λ x. Err (Signed x)) (n ∙ sym f.of_slot),
    )

pub reduce_good-requires-clause-slot : goal.reduce_good-requires-clause-slot
reduce_good-requires-clause-slot c = number (goal.at.reduce_good-requires-clause-slot c).After-from_be_bytes-q
