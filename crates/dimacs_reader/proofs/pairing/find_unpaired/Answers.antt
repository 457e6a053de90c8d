use Rattle.std.proofs.Common.{◌≡◌, ◌<◌, length, get_or, arith, sym, ◌∙◌}
use Rattle.std.proofs.lemmas.Option.{slice_get-get_or, get_or_from_slice_get}
use Rattle.dimacs_reader.specs.declared.arc.Arc.{Arc}
use Rattle.dimacs_reader.specs.Left.{left_of}
use Rattle.dimacs_reader.proofs.PairLaws.{paired_next, first_is_here, first_is_none}
use Rattle.dimacs_reader.proofs.pairing.find_unpaired.Goals as goal

pub returns-then-not-take_back : goal.returns-then-not-take_back
returns-then-not-take_back c =
    let d : Arc = record { from = 0; to = 0; length = 0 } in
    let within : c.loop-index.index < length c.args.arcs.now = omega arith in
    let arc : Arc = get_or c.args.arcs.now c.loop-index.index d in
    let is : arc ≡ get_or c.args.arcs.now c.loop-index.index arc = sym (get_or_from_slice_get c.args.arcs.now c.loop-index.index arc arc (slice_get-get_or c.args.arcs.now c.loop-index.index d within)) in
    first_is_here c.args.arcs.now c.loop-index.index arc (left_of c.args.sorted.now c.loop-index.left.items) c.loop-index.invariant.paired within is (sym c.take_back.ensures.paired ∙ c.if-not-take_back.true)

pub loop-index-preserved : goal.loop-index-preserved
loop-index-preserved c = record {
  long = c.take_back.ensures.long;
  paired =
      let d : Arc = record { from = 0; to = 0; length = 0 } in
      let within : c.loop-index.index < length c.args.arcs.now = omega arith in
      let arc : Arc = get_or c.args.arcs.now c.loop-index.index d in
      let is : arc ≡ get_or c.args.arcs.now c.loop-index.index arc = sym (get_or_from_slice_get c.args.arcs.now c.loop-index.index arc arc (slice_get-get_or c.args.arcs.now c.loop-index.index d within)) in
      paired_next c.args.arcs.now c.loop-index.index arc (left_of c.args.sorted.now c.loop-index.left.items) c.loop-index.invariant.paired within is (left_of c.args.sorted.now c.take_back.new.left.items) (sym c.take_back.ensures.paired ∙ c.if-not-take_back.false) (c.take_back.ensures.left c.if-not-take_back.false);
}

pub returns : goal.returns
returns c = first_is_none c.args.arcs.now c.loop-index.index (left_of c.args.sorted.now c.loop-index.left.items) (omega arith) c.loop-index.invariant.paired
