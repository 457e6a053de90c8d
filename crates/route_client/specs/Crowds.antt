-- Answers with more node items than a node tree has leaves.
use Rattle.std.specs.Prelude.{◌≡◌, ℕ, ◌<◌, List, Ok, Err, ◌⊎◌}
use Rattle.lms_tree.specs.declared.links.Link.{Link}
use Rattle.proof_octets.specs.declared.outline.Outline.{Outline}
use Rattle.route_client.specs.declared.errors.CheckError.{CheckError}
use Rattle.route_client.specs.declared.errors.CheckError.TheVariants as errors
use Rattle.route_client.specs.declared.errors.CoverFault.TheVariants as faults
use Rattle.route_client.specs.Verdicts.{Meets, header_tested}

-- there are more items, so the header fails its tests, or an index lies outside the tree
pub record IsCrowded (key : List ℕ) (links : List Link) (least : ℕ) (o : Outline)
    (e : CheckError) : Type 0 where
  pub many : 65536 < o.nodes
  pub why : Meets {A = Unit {0}} (Err e) (header_tested key links least o.header o.signature) ⊎
      ((header_tested key links least o.header o.signature ≡ Ok tt) ×
      (e ≡ errors.BadCover 1 faults.Place))
