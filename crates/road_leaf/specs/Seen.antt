-- Borrowed leaves.
use Rattle.road_leaf.specs.declared.leaf.Extra.{Extra}
use Rattle.road_leaf.specs.declared.leaf.Extra.TheVariants.{Plain, Own, Near, Cell}
use Rattle.road_leaf.specs.declared.leaf.NodeLeaf.{NodeLeaf}
use Rattle.road_leaf.specs.declared.view.ExtraView.{ExtraView}
use Rattle.road_leaf.specs.declared.view.ExtraView.TheVariants as views
use Rattle.road_leaf.specs.declared.view.NodeView.{NodeView}

-- the extra contents of the leaf
abbrev pub extra_seen : ExtraView → Extra
extra_seen views.Plain = Plain
extra_seen (views.Own codes) = Own codes.now
extra_seen (views.Near reference error) = Near reference error
extra_seen (views.Cell cell border) = Cell cell border

-- the leaf
abbrev pub seen : NodeView → NodeLeaf
seen v = record { id = v.id; x = v.x; y = v.y; arcs = v.arcs.now; extra = extra_seen v.extra }
