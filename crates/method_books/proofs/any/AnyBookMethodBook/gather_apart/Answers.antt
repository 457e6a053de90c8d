use Rattle.std.proofs.Common.{subst}
use Rattle.proof_method.specs.Gathering.{AreUnjoined}
use Rattle.method_books.specs.declared.any.AnyBook.{AnyBook}
use Rattle.method_books.specs.AnyBooks.{shown_in}
use Rattle.method_books.proofs.any.AnyBookMethodBook.gather_apart.Goals as goal

pub gather_apart-requires : goal.gather_apart-requires
gather_apart-requires c = subst (λ (b : AnyBook). AreUnjoined (shown_in b).parts c.args.query) c.in-Dij.is c.requires

pub gather_apart-requires-in-Full : goal.gather_apart-requires-in-Full
gather_apart-requires-in-Full c = subst (λ (b : AnyBook). AreUnjoined (shown_in b).parts c.args.query) c.in-Full.is c.requires

pub gather_apart-requires-in-Ldm : goal.gather_apart-requires-in-Ldm
gather_apart-requires-in-Ldm c = subst (λ (b : AnyBook). AreUnjoined (shown_in b).parts c.args.query) c.in-Ldm.is c.requires

pub gather_apart-requires-in-Hyp : goal.gather_apart-requires-in-Hyp
gather_apart-requires-in-Hyp c = subst (λ (b : AnyBook). AreUnjoined (shown_in b).parts c.args.query) c.in-Hyp.is c.requires
