use Rattle.std.proofs.Common.{◌≡◌, ℕ, Err, sym, subst}
use Rattle.std.specs.Prelude.{IfOk, IfErr}
use Rattle.proof_method.specs.Gathering.{IsFound, IsFirstUnknown, WhyNone}
use Rattle.proof_method.specs.declared.found.GatherError.TheVariants.{UnknownNode}
use Rattle.method_books.specs.declared.any.AnyBook.{AnyBook}
use Rattle.method_books.specs.AnyBooks.{kind_in, shown_in}
use Rattle.method_books.proofs.any.AnyBookMethodBook.gather.Goals as goal

pub returns-in-Dij-clause-refused : goal.returns-in-Dij-clause-refused
returns-in-Dij-clause-refused c = subst (λ (b : AnyBook). IfErr c.gather.result (WhyNone (shown_in b).parts c.args.query)) (sym c.in-Dij.is) c.gather.ensures.refused

pub returns-in-Full-clause-refused : goal.returns-in-Full-clause-refused
returns-in-Full-clause-refused c = subst (λ (b : AnyBook). IfErr c.gather-in-Full.result (WhyNone (shown_in b).parts c.args.query)) (sym c.in-Full.is) c.gather-in-Full.ensures.refused

pub returns-in-Ldm-clause-refused : goal.returns-in-Ldm-clause-refused
returns-in-Ldm-clause-refused c = subst (λ (b : AnyBook). IfErr c.gather-in-Ldm.result (WhyNone (shown_in b).parts c.args.query)) (sym c.in-Ldm.is) c.gather-in-Ldm.ensures.refused

pub returns-in-Hyp-clause-refused : goal.returns-in-Hyp-clause-refused
returns-in-Hyp-clause-refused c = subst (λ (b : AnyBook). IfErr c.gather-in-Hyp.result (WhyNone (shown_in b).parts c.args.query)) (sym c.in-Hyp.is) c.gather-in-Hyp.ensures.refused

pub returns-in-Dij-clause-unknown : goal.returns-in-Dij-clause-unknown
returns-in-Dij-clause-unknown c = subst (λ (b : AnyBook). (id : ℕ) → IsFirstUnknown (shown_in b).parts c.args.query id → c.gather.result ≡ Err (UnknownNode id)) (sym c.in-Dij.is) c.gather.ensures.unknown

pub returns-in-Full-clause-unknown : goal.returns-in-Full-clause-unknown
returns-in-Full-clause-unknown c = subst (λ (b : AnyBook). (id : ℕ) → IsFirstUnknown (shown_in b).parts c.args.query id → c.gather-in-Full.result ≡ Err (UnknownNode id)) (sym c.in-Full.is) c.gather-in-Full.ensures.unknown

pub returns-in-Ldm-clause-unknown : goal.returns-in-Ldm-clause-unknown
returns-in-Ldm-clause-unknown c = subst (λ (b : AnyBook). (id : ℕ) → IsFirstUnknown (shown_in b).parts c.args.query id → c.gather-in-Ldm.result ≡ Err (UnknownNode id)) (sym c.in-Ldm.is) c.gather-in-Ldm.ensures.unknown

pub returns-in-Hyp-clause-unknown : goal.returns-in-Hyp-clause-unknown
returns-in-Hyp-clause-unknown c = subst (λ (b : AnyBook). (id : ℕ) → IsFirstUnknown (shown_in b).parts c.args.query id → c.gather-in-Hyp.result ≡ Err (UnknownNode id)) (sym c.in-Hyp.is) c.gather-in-Hyp.ensures.unknown

pub returns-in-Hyp-clause-found : goal.returns-in-Hyp-clause-found
returns-in-Hyp-clause-found c = subst (λ (b : AnyBook). IfOk c.gather-in-Hyp.result (λ found. (d : ℕ) × IsFound (kind_in b) (shown_in b) c.args.query d found)) (sym c.in-Hyp.is) c.gather-in-Hyp.ensures.found
