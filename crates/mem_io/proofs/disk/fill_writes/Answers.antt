use Rattle.std.proofs.Common.{◌≡◌, suc, length, get_or, arith, rules, ap}
use Rattle.mem_io.specs.declared.disk.Entry.TheVariants.{Sync, Write}
use Rattle.mem_io.specs.Journal.{content_at, entry_at}
use Rattle.mem_io.proofs.JournalSteps.{last_le, no_sync, length-filled, content_grows, end_within}
use Rattle.mem_io.proofs.disk.fill_writes.Goals as goal

pub loop-i-init : goal.loop-i-init
loop-i-init c = record {
  filled = c.requires.start;
  capacity = omega arith;
  within = omega (arith, c.requires.since, last_le c.args.entries.now (length c.args.entries.now));
}

pub unreachable-requires : goal.unreachable-requires
unreachable-requires c =
    let is : get_or c.args.entries.now c.loop-i.i Sync ≡ Sync = search rules in
    no_sync c.args.base.now c.args.entries.now c.args.octets.now c.args.fill c.requires.kept c.requires.placed (length c.args.entries.now) c.loop-i.i (omega (arith, c.requires.since)) c.loop-i-test.true is

pub fill_piece-requires-clause-at : goal.fill_piece-requires-clause-at
fill_piece-requires-clause-at c =
    let is : get_or c.args.entries.now c.loop-i.i Sync ≡ Write c.in-Write.p = search rules in
    let placed = c.requires.placed c.loop-i.i c.loop-i-test.true in
    let long = length-filled c.args.base.now c.args.entries.now c.args.octets.now c.args.fill c.requires.kept c.requires.placed c.loop-i.i (omega arith) in
    omega (arith, placed, ap entry_at is, long, ap length c.loop-i.invariant.filled)

pub fill_piece-requires-clause-room : goal.fill_piece-requires-clause-room
fill_piece-requires-clause-room c =
    let is : get_or c.args.entries.now c.loop-i.i Sync ≡ Write c.in-Write.p = search rules in
    let content = content_at c.args.base.now c.args.entries.now c.args.octets.now c.loop-i.i in
    let reach = end_within (get_or c.args.entries.now c.loop-i.i Sync) c.in-Write.p c.args.octets.now content is (c.requires.placed c.loop-i.i c.loop-i-test.true) (c.requires.kept c.loop-i.i c.loop-i-test.true) in
    let grows = content_grows c.args.base.now c.args.entries.now c.args.octets.now c.args.fill c.requires.kept c.requires.placed (suc c.loop-i.i) (length c.args.entries.now) (omega arith) (omega arith) in
    omega (arith, reach, grows, c.requires.room)
