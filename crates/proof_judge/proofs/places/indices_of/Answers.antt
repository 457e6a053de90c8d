use Rattle.std.proofs.Common.{◌≡◌, ◌∙◌, ◌<◌, Some, is_some, length, arith, ap, sym}
use Rattle.std.proofs.lemmas.List.{length-set, length-replicate}
use Rattle.road_leaf.specs.declared.leaf.NodeLeaf.{NodeLeaf}
use Rattle.road_leaf.specs.Seen.{seen}
use Rattle.road_map.specs.Places.{place_in}
use Rattle.road_map.proofs.RisingLaws.{placed_within}
use Rattle.proof_judge.proofs.PlaceLaws.{has_place, noted_turn}
use Rattle.proof_judge.proofs.places.indices_of.Goals as goal

pub loop-index-init : goal.loop-index-init
loop-index-init c = record {
  count = ap length c.in_ok-indices.ensures.items ∙ (length-replicate c.len.result 0 ∙ c.len.ensures);
  noted = λ index n lt at. absurd (omega (arith, lt));
}

pub unwrap-place-requires : goal.unwrap-place-requires
unwrap-place-requires c =
    let n : NodeLeaf = seen c.at-id.result in
    let p = has_place c.args.nodes.now c.args.ids.now c.requires.rise c.requires.as_many c.loop-index.index n c.at-id.ensures in
    ap is_some (c.place.ensures ∙ p.1)

pub note-requires : goal.note-requires
note-requires c =
    let within : c.unwrap-place.result < length c.args.ids.now = placed_within c.args.ids.now c.at-id.result.id c.unwrap-place.result (sym c.place.ensures ∙ c.unwrap-place.ensures) in
    omega (arith, within, c.requires.count, c.loop-index.invariant.count)

pub loop-index-preserved : goal.loop-index-preserved
loop-index-preserved c =
    let n : NodeLeaf = seen c.at-id.result in
    let placed : place_in c.args.ids.now n.id ≡ Some c.unwrap-place.result = sym c.place.ensures ∙ c.unwrap-place.ensures in
    let within : c.unwrap-place.result < length c.args.ids.now = placed_within c.args.ids.now n.id c.unwrap-place.result placed in
    record {
      count = ap length c.note.ensures ∙ (length-set c.loop-index.indices.items c.unwrap-place.result c.loop-index.index ∙ c.loop-index.invariant.count);
      noted = noted_turn c.args.nodes.now c.args.ids.now c.loop-index.indices.items c.note.new.indices.items c.loop-index.index c.unwrap-place.result n c.requires.distinct c.at-id.ensures placed (omega (arith, within, c.requires.count, c.loop-index.invariant.count)) c.note.ensures c.loop-index.invariant.noted;
    }

pub returns : goal.returns
returns c = λ index n lt at. c.loop-index.invariant.noted index n (omega (arith, lt, c.loop-index-test.false, c.len-index-end.ensures)) at
