use Rattle.std.proofs.Common.{◌≡◌, ℕ, List, Ok, Err, inl, inr, refl, subst, arith}
use Rattle.std.proofs.lemmas.Result.{err_from_is_err_and}
use Rattle.route_client.specs.Verdicts.{Meets, header_tested}
use Rattle.route_client.proofs.earlier_tests.test_outline.Goals as goal

pub returns-in_err-test_header : goal.returns-in_err-test_header
returns-in_err-test_header c =
    let p = err_from_is_err_and c.from_residual.result c.from_residual.ensures.1 in
    rw (p.1, p.2) (record {
      many = omega arith;
      why = inl (subst (λ (s : List ℕ). Meets {A = Unit {0}} (Err c.in_err-test_header.field-0.0) (header_tested c.args.public.now c.args.chain.now c.args.least c.args.outline.now.header s)) c.as_slice-signature.ensures c.in_err-test_header.ensures);
    })

pub returns : goal.returns
returns c = record {
  many = omega arith;
  why = inr (subst (λ (s : List ℕ). header_tested c.args.public.now c.args.chain.now c.args.least c.args.outline.now.header s ≡ Ok tt) c.as_slice-signature.ensures c.in_ok-test_header.ensures, refl);
}
