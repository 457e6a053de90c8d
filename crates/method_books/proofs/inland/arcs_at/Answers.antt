use Rattle.std.proofs.Common.{Some, ap, sym, ◌∙◌}
use Rattle.std.specs.Option.{option_map}
use Rattle.road_leaf.specs.declared.leaf.NodeLeaf.{NodeLeaf}
use Rattle.method_books.proofs.HypLaws.{leaf_at_place, no_leaf}
use Rattle.method_books.proofs.inland.arcs_at.Goals as goal

pub returns-in-None : goal.returns-in-None
returns-in-None c = λ e. sym (ap (option_map (λ (n : NodeLeaf). n.arcs)) (no_leaf c.args.map.now.parts c.args.map.now.order c.parts-parts.ensures.by_id c.args.id c.in-None.ensures.none e))

pub returns-in-Some : goal.returns-in-Some
returns-in-Some c = λ e.
    let f = c.in-Some.ensures.found in
    ap Some (c.arcs.ensures f.0 f.1) ∙ sym (ap (option_map (λ (n : NodeLeaf). n.arcs)) (leaf_at_place c.args.map.now.parts c.args.map.now.order c.parts-parts.ensures.is_map c.parts-parts.ensures.by_id c.args.id c.in-Some.position f.0 f.1 f.2 e))
