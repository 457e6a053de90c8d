use Rattle.std.proofs.Common.{◌≡◌, List, ℕ, [], ◌∷◌, ◌++◌, ap, ◌∙◌, subst, Contains}
use Rattle.proof_method.specs.Gathering.{Lists}
use Rattle.proof_method.proofs.EndLaws.{ends_are}
use Rattle.proof_method.proofs.in_order.ends.Goals as goal

pub returns : goal.returns
returns c =
    let first : c.push.new.list.items ≡ c.args.query.from ∷ [] = c.in_ok-push.ensures.items ∙ ap (λ (xs : List ℕ). xs ++ c.args.query.from ∷ []) c.new-ids.ensures.items in
    let both : c.push-2.new.list.items ≡ c.args.query.from ∷ c.args.query.to ∷ [] = c.in_ok-push-2.ensures.items ∙ ap (λ (xs : List ℕ). xs ++ c.args.query.to ∷ []) first in
    ends_are c.args.query c.rising.result (subst (λ (xs : List ℕ). Lists (Contains xs) c.rising.result) both c.rising.ensures)
