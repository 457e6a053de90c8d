use Rattle.std.proofs.Common.{◌≡◌, ◌≢◌, ℕ, List, Option, Some, IfSome, subst}
use Rattle.octet_text.specs.Exact.{IsBytes}
use Rattle.merkle_cover.specs.declared.clashes.TwoTexts.{TwoTexts}
use Rattle.route_audit.proofs.comparing.clash_under.Goals as goal

-- a fact about a value that exists
of_some : {A : Type 0} (P : A → Type 0) (o : Option A) (x : A) → o ≡ Some x → IfSome o P → P x
of_some {A} P o x is p = subst (λ (y : Option A). IfSome y P) is p

pub returns-clause-collision : goal.returns-clause-collision
returns-clause-collision g c =
    let two : TwoTexts = c.in-Some.two in
    let hash = g.H.Hasher.hash in
    record {
      left_octets = subst (λ (x : List ℕ). IsBytes x) c.as_slice.ensures c.octet_law.ensures;
      right_octets = subst (λ (x : List ℕ). IsBytes x) c.as_slice-2.ensures c.octet_law-2.ensures;
      differ = of_some (λ (t : TwoTexts). t.left ≢ t.right) c.in_ok-found.found two c.in-Some.is c.in_ok-found.ensures.differ;
      one_digest = of_some (λ (t : TwoTexts). hash t.left ≡ hash t.right) c.in_ok-found.found two c.in-Some.is c.in_ok-found.ensures.one_digest;
    }
