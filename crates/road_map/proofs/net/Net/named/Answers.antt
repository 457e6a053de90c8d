use Rattle.std.proofs.Common.{◌≡◌, ◌∙◌, ap, map}
use Rattle.road_map.specs.Rows.{named_arc}
use Rattle.road_map.proofs.PartedLaws.{parted-map}
use Rattle.road_map.proofs.net.Net.named.Goals as goal

pub returns : goal.returns
returns c =
    let ends : c.in_ok-ends.ends.items ≡ c.self.inside.ends.items = c.in_ok-ends.ensures.items ∙ c.as_slice-2.ensures.value in
    let arcs : c.in_ok-arcs.arcs.items ≡ map (named_arc c.args.order.now) c.self.inside.arcs.items = c.in_ok-arcs.ensures ∙ ap (map (named_arc c.args.order.now)) c.as_slice.ensures.value in
    rw (ends, arcs) (parted-map (named_arc c.args.order.now) 0 c.self.inside.ends.items c.self.inside.arcs.items ∙ ap (map (map (named_arc c.args.order.now))) c.self.view_is)
