use Rattle.std.proofs.Common.{rules}
use Rattle.std.proofs.lemmas.List.Sorted.{answers_always}
use Rattle.proof_octets.specs.declared.marks.Mark.{Mark}
use Rattle.route_client.proofs.picking.rank.Goals as goal

pub returns-clause-sorted : goal.returns-clause-sorted
returns-clause-sorted c = c.sort_unstable_by_key.ensures.sorted (λ (m : Mark). (m.distance, m.id)) (answers_always _ _ _ (λ f a r g h. search rules))
