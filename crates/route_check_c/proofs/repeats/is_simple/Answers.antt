use Rattle.std.proofs.Common.{◌≡◌, ℕ, ◌∙◌, rules, sym, subst, true, eq-eqb}
use Rattle.std.specs.Ordering.{nat_cmp, eq_by_cmp}
use Rattle.std.specs.Cmp.{nat_cmp_total, eq_by_cmp_equiv}
use Rattle.std.specs.BTreeSet as sorted
use Rattle.std.specs.Bool.{Decides}
use Rattle.std.proofs.lemmas.Bool.{eqb-true}
use Rattle.std.proofs.lemmas.Map.Made.{IsDistinct-from_count, distinct_count-from_IsDistinct, AllPairs-from_IsDistinct, IsDistinct-from_AllPairs}
use Rattle.std.proofs.lemmas.Map.Views.{tells_apart, btree_set_len-from_list}
use Rattle.std.proofs.lemmas.Map.Lookups.{exact_unsigned}
use Rattle.route_check_c.proofs.repeats.is_simple.Goals as goal

same : (a b : ℕ) → Decides (eq_by_cmp nat_cmp a b) (a ≡ b)
same a b = (tells_apart exact_unsigned a b, λ e. subst (λ x. eq_by_cmp nat_cmp x b ≡ true) (sym e) ((eq_by_cmp_equiv nat_cmp_total).refl b))

pub returns : goal.returns
returns c =
    let laws = eq_by_cmp_equiv nat_cmp_total in
    let h : sorted.IsFromIterResult nat_cmp c.args.ids.now c.in_ok-nodes.nodes = search rules in
    let count = btree_set_len-from_list nat_cmp_total c.args.ids.now c.in_ok-nodes.nodes h in
    rw c.len.ensures.len (
      λ e. AllPairs-from_IsDistinct same c.args.ids.now (IsDistinct-from_count laws c.args.ids.now (sym count ∙ eqb-true _ _ e)),
      λ d. eq-eqb _ _ (count ∙ distinct_count-from_IsDistinct laws c.args.ids.now (IsDistinct-from_AllPairs same c.args.ids.now d)),
    )
