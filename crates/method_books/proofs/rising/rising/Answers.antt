use Rattle.std.proofs.Common.{◌≡◌, List, ℕ, sym, ◌∙◌, subst, nat_eq, Contains}
use Rattle.std.specs.List.{IsDistinct}
use Rattle.proof_method.specs.Gathering.{Lists}
use Rattle.method_books.proofs.FullLaws.{sorted_lists}
use Rattle.method_books.proofs.rising.rising.Goals as goal

pub returns : goal.returns
returns c =
    let same : c.in_ok-sorted.sorted.items ≡ c.args.ids.now = c.in_ok-sorted.ensures.items ∙ c.as_slice.ensures in
    let all : Lists (λ id. Contains c.in_ok-sorted.sorted.items id) c.sort_unstable.new.self.items = sorted_lists c.in_ok-sorted.sorted.items c.sort_unstable.new.self.items (subst (IsDistinct nat_eq) (sym same) c.requires) c.sort_unstable.ensures.permutation c.sort_unstable.ensures.sorted in
    subst (Lists (λ id. Contains c.args.ids.now id)) (sym c.from_vec.ensures) (subst (λ (xs : List ℕ). Lists (λ id. Contains xs id) c.sort_unstable.new.self.items) same all)
