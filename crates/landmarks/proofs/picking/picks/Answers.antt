use Rattle.std.proofs.Common.{◌≡◌, arith, sym, ◌∙◌, ap}
use Rattle.road_map.specs.Walks.{distance}
use Rattle.book_model.specs.Books.{landmarks}
use Rattle.landmarks.specs.Rows.{rows_of, nearest_row}
use Rattle.landmarks.proofs.PickLaws.{landmarks_none, landmarks_more}
use Rattle.landmarks.proofs.picking.picks.Goals as goal

pub loop-k-init : goal.loop-k-init
loop-k-init c = record {
  same = c.of-survey.ensures;
  chosen = c.new.ensures.items ∙ landmarks_none c.args.map.now.parts;
  near = c.in_ok-no_lengths.ensures ∙ ap (nearest_row (distance c.args.map.now.parts) c.args.ids.now) (sym c.new.ensures.items);
  rows = c.new-2.ensures.items ∙ ap (rows_of (distance c.args.map.now.parts) c.args.ids.now) (sym c.new.ensures.items);
}

pub loop-k-preserved : goal.loop-k-preserved
loop-k-preserved c = record {
  same = c.pick_next.ensures.same;
  chosen = landmarks_more c.args.map.now.parts c.args.ids.now c.loop-k.picked.chosen.items c.pick_next.new.picked.chosen.items c.loop-k._k c.requires.ids c.loop-k.invariant.chosen c.in_ok-pick_next.ensures.chosen;
  near = c.in_ok-pick_next.ensures.near;
  rows = c.in_ok-pick_next.ensures.rows;
}

pub pick_next-requires : goal.pick_next-requires
pick_next-requires c = record { same = c.loop-k.invariant.same; ids = c.requires.ids; near = c.loop-k.invariant.near; rows = c.loop-k.invariant.rows }

pub returns : goal.returns
returns c =
    let inv = c.loop-k.invariant in
    let all : c.loop-k._k ≡ c.args.count = omega arith in
    let picked = inv.chosen ∙ ap (landmarks c.args.map.now.parts) all in
    record { chosen = picked; rows = inv.rows ∙ ap (rows_of (distance c.args.map.now.parts) c.args.ids.now) picked }
