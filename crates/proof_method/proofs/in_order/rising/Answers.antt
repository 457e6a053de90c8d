use Rattle.std.proofs.Common.{◌≡◌, List, ℕ, nat_eq, sym, ◌∙◌, subst}
use Rattle.std.specs.List.{Contains, dedup}
use Rattle.std.proofs.lemmas.List.Filters.{dedup_is}
use Rattle.std.proofs.lemmas.List.Kept.{Contains-dedup_nat, Contains-from_dedup}
use Rattle.std.proofs.lemmas.List.Sorted.{Contains-permutation, IsPermutation-sym}
use Rattle.std.proofs.lemmas.Map.Keys.{IsStrictlyIncreasing-dedup, sorted_from_strictly_increasing}
use Rattle.proof_method.specs.Gathering.{Lists}
use Rattle.proof_method.proofs.in_order.rising.Goals as goal

pub returns : goal.returns
returns c =
    let sorted : List ℕ = c.sort_unstable.new.self.items in
    let is : c.from_vec.result ≡ dedup nat_eq c.sort_unstable.new.self.items = c.from_vec.ensures ∙ dedup_is nat_eq c.sort_unstable.new.self.items c.dedup.new.self.items c.dedup.ensures.filtered in
    let moved = c.sort_unstable.ensures.permutation in
    subst (Lists (Contains c.args.ids.items)) (sym is) (record {
      rising = sorted_from_strictly_increasing (dedup nat_eq c.sort_unstable.new.self.items) (IsStrictlyIncreasing-dedup c.sort_unstable.new.self.items c.sort_unstable.ensures.sorted);
      same = λ id. (
        λ h. Contains-permutation c.sort_unstable.new.self.items c.args.ids.items id (IsPermutation-sym c.args.ids.items c.sort_unstable.new.self.items moved) (Contains-from_dedup nat_eq c.sort_unstable.new.self.items id h),
        λ h. Contains-dedup_nat c.sort_unstable.new.self.items id (Contains-permutation c.args.ids.items c.sort_unstable.new.self.items id moved h),
      );
    })
