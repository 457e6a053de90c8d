use Rattle.route_client.proofs.MarkSteps.{in_order}
use Rattle.route_client.proofs.walking.ids_within.Goals as goal

pub returns : goal.returns
returns c = in_order c.args.labels.now c.args.most c.in_ok-ids.ids.items c.sort_unstable.new.self.items c.in_ok-ids.ensures.distinct c.in_ok-ids.ensures.same c.sort_unstable.ensures.permutation c.sort_unstable.ensures.sorted
