use Rattle.std.proofs.Common.{◌≡◌, ◌≤◌, length, arith, ◌∙◌}
use Rattle.road_map.proofs.IdLaws.{one_more, all_ids}
use Rattle.road_map.proofs.map.Map.ids.Goals as goal

pub loop-position-preserved : goal.loop-position-preserved
loop-position-preserved c = one_more c.args.self.now.order c.loop-position.position c.node.result c.loop-position.rising.items c.push.new.list.items c.node.ensures c.loop-position.invariant c.in_ok-push.ensures.items

pub returns : goal.returns
returns c =
    let ends : length c.args.self.now.order ≤ c.loop-position.position = (let e : c.count-position-end.result ≡ length c.args.self.now.order = c.count-position-end.ensures in let f : c.count-position-end.result ≤ c.loop-position.position = c.loop-position-test.false in omega arith) in
    c.from_vec.ensures ∙ all_ids c.args.self.now.order c.loop-position.position c.loop-position.rising.items c.loop-position.invariant ends
