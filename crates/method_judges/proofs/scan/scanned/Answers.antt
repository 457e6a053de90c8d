use Rattle.std.proofs.Common.{List, ℕ, ap, sym, ◌∙◌}
use Rattle.method_judges.specs.Scans.{scan}
use Rattle.method_judges.proofs.scan.scanned.Goals as goal

pub returns : goal.returns
returns g c = record {
  near_borders = c.in_ok-near.near.items;
  far_borders = c.in_ok-far.far.items;
  near = c.in_ok-near.ensures;
  far = c.in_ok-far.ensures;
  finds = ap (λ (xs : List (ℕ × ℕ)). scan (g.F.Faults.fault_of c.args.faults.now) (g.F.Faults.limit c.args.faults.now) xs c.in_ok-far.far.items) (sym c.as_slice.ensures.value) ∙ (ap (λ (xs : List (ℕ × ℕ)). scan (g.F.Faults.fault_of c.args.faults.now) (g.F.Faults.limit c.args.faults.now) c.as_slice.result.now xs) (sym c.as_slice-2.ensures.value) ∙ sym c.first_fault-found.ensures);
}
