use Rattle.std.proofs.Common.{◌≡◌, ◌≤◌, ℕ, length, arith, ap, subst, sym, ◌∙◌}
use Rattle.mem_io.specs.Journal.{content_at, LeftAt, last_sync, filled_at}
use Rattle.mem_io.proofs.JournalSteps.{last_le, synced_left, filled_left, last_filled, length-filled, content_grows}
use Rattle.mem_io.proofs.disk.pick_content.Goals as goal
use Rattle.mem_io.proofs.disk.pick_content.Goals.{Start}

module _ (c : Start) where
  -- the synced content is not longer
  shorter : length c.args.synced.now ≤ length c.args.content.now.items
  shorter =
      let n = length c.args.entries.now in
      let le : c.args.since ≤ n = omega (arith, c.requires.since, last_le c.args.entries.now n) in
      let grows = content_grows c.args.base.now c.args.entries.now c.args.octets.now 0 c.requires.kept c.requires.placed c.args.since n le (omega arith) in
      omega (arith, grows, ap length c.requires.synced, ap length c.requires.agrees)

  filled : (fill : ℕ) → c.args.synced.now ≡ filled_at fill c.args.base.now c.args.entries.now c.args.octets.now c.args.since
  filled fill =
      let is = last_filled c.args.base.now c.args.entries.now c.args.octets.now fill c.requires.kept c.requires.placed (length c.args.entries.now) in
      sym c.requires.synced ∙ sym (subst (λ (k : ℕ). filled_at fill c.args.base.now c.args.entries.now c.args.octets.now k ≡ content_at c.args.base.now c.args.entries.now c.args.octets.now k) c.requires.since is)

pub copy-requires : goal.copy-requires
copy-requires c = omega (arith, shorter (goal.at.copy-requires c).Start, c.requires.room)

pub copy-requires-in-Fill : goal.copy-requires-in-Fill
copy-requires-in-Fill c = omega (arith, shorter (goal.at.copy-requires-in-Fill c).Start, c.requires.room)

pub fill_writes-requires-clause-start : goal.fill_writes-requires-clause-start
fill_writes-requires-clause-start c = c.copy-in-Fill.ensures.copied ∙ filled (goal.at.fill_writes-requires-clause-start c).Start c.in-Fill.octet

pub returns-in-Old-clause-image : goal.returns-in-Old-clause-image
returns-in-Old-clause-image c =
    let here = synced_left c.args.base.now c.args.entries.now c.args.octets.now (length c.args.entries.now) in
    let is : content_at c.args.base.now c.args.entries.now c.args.octets.now (last_sync c.args.entries.now (length c.args.entries.now)) ≡ c.copy.new.to.items =
    ap (λ (k : ℕ). content_at c.args.base.now c.args.entries.now c.args.octets.now k) c.requires.since ∙ c.requires.synced ∙ sym c.copy.ensures.copied in
    subst (LeftAt c.args.base.now c.args.entries.now c.args.octets.now (length c.args.entries.now)) is here

pub returns-in-Old-clause-no_longer : goal.returns-in-Old-clause-no_longer
returns-in-Old-clause-no_longer c = omega (arith, shorter (goal.at.returns-in-Old-clause-no_longer c).Start, ap length c.copy.ensures.copied)

pub returns-in-Fill-clause-image : goal.returns-in-Fill-clause-image
returns-in-Fill-clause-image c =
    let here = filled_left c.args.base.now c.args.entries.now c.args.octets.now c.in-Fill.octet c.requires.kept c.requires.placed (length c.args.entries.now) (omega arith) in
    subst (LeftAt c.args.base.now c.args.entries.now c.args.octets.now (length c.args.entries.now)) (sym c.fill_writes.ensures.filled) here

pub returns-in-Fill-clause-no_longer : goal.returns-in-Fill-clause-no_longer
returns-in-Fill-clause-no_longer c =
    let long = length-filled c.args.base.now c.args.entries.now c.args.octets.now c.in-Fill.octet c.requires.kept c.requires.placed (length c.args.entries.now) (omega arith) in
    omega (arith, long, ap length c.fill_writes.ensures.filled, ap length c.requires.agrees)
