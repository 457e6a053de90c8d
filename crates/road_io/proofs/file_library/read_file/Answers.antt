use Rattle.std.proofs.Common.{◌≡◌, ◌<◌, ◌+◌, length, take, arith, rules}
use Rattle.std.proofs.lemmas.List.{length-take-le}
use Rattle.road_io.proofs.ShelfSteps.{ended_file, longer_file}
use Rattle.road_io.proofs.file_library.read_file.Goals as goal

pub returns-then-count-eq0-clause-read : goal.returns-then-count-eq0-clause-read
returns-then-count-eq0-clause-read g c = λ files agree.
    ended_file files c.args.name.now c.loop-reads.octets.items c.loop-reads.folder.history.events c.read_piece.new.folder.history.events
    (search rules) c.loop-reads.invariant.opened c.loop-reads.invariant.read agree

pub returns-then-count-most-clause-read : goal.returns-then-count-most-clause-read
returns-then-count-most-clause-read g c = λ files agree.
    let piece = take c.in_ok-count.count c.read_piece.new.piece in
    let fits : length piece ≡ c.in_ok-count.count = length-take-le c.in_ok-count.count c.read_piece.new.piece (search rules) in
    let more : c.args.most < length c.loop-reads.octets.items + length piece = grind (arith, fits, c.if-count-most.true, c.len.ensures) in
    longer_file files c.args.name.now c.loop-reads.octets.items piece c.loop-reads.folder.history.events c.read_piece.new.folder.history.events c.args.most
    (search rules) c.loop-reads.invariant.opened c.loop-reads.invariant.read more agree
