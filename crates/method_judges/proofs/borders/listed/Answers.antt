use Rattle.std.proofs.Common.{sym, subst}
use Rattle.road_search.specs.Labelling.{length_at}
use Rattle.method_judges.specs.Scans.{IsBorderList}
use Rattle.method_judges.proofs.BorderLaws.{border_list}
use Rattle.method_judges.proofs.borders.listed.Goals as goal

pub returns : goal.returns
returns c = subst (IsBorderList c.args.nodes.now (length_at c.args.labels.now)) (sym c.in_ok-list.ensures.entries) (border_list c.args.nodes.now (length_at c.args.labels.now) c.in_ok-near.near c.in_order.ensures.ordered c.in_ok-near.ensures)
