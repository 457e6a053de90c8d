use Rattle.std.proofs.Common.{◌≡◌, ◌<◌, ◌+◌, ℕ, List, length, take, true, false, arith}
use Rattle.lms_tree.specs.Links.{IsLink}
use Rattle.key_desk.proofs.Spending.{room_here, is_texted, not_texted, none_texted}
use Rattle.key_desk.proofs.desk.Desk.texted.Goals as goal

pub returns-in_default-clause-none : goal.returns-in_default-clause-none
returns-in_default-clause-none g c = none_texted g.D.Disk c.args.self.now c.args.disk.now c.requires.fits c.requires.opened c.requires.either c.counts.result.now c.counts.ensures.counts c.in_default.ensures.none

pub read_text-requires-clause-within : goal.read_text-requires-clause-within
read_text-requires-clause-within g c = room_here g.D.Disk c.args.self.now c.args.disk.now c.requires.fits c.counts.result.now c.counts.ensures.counts c.in-Some.number c.in-Some.ensures.some (g.met.D.Disk.reads_image c.args.disk.now) c.place-place.result c.place-place.ensures.place

pub returns-then-is_empty-clause-none : goal.returns-then-is_empty-clause-none
returns-then-is_empty-clause-none g c =
    not_texted g.D.Disk c.args.self.now c.args.disk.now c.requires.fits c.counts.result.now c.counts.ensures.counts c.in-Some.number c.in-Some.ensures.some c.read_text.new.disk c.read_text.ensures.moments c.requires.opened c.requires.either c.requires.settled (g.met.D.Disk.reads_image c.read_text.new.disk) (g.met.D.Disk.image_tells c.read_text.new.disk)
    c.in-Some.ensures.lowest c.place-place.result c.place-place.ensures.place (take c.in_ok-len.len c.read_text.new.into) c.in_ok-len.ensures.text
    (λ spendable. let none : length (take c.in_ok-len.len c.read_text.new.into) ≡ 0 = grind arith in omega (arith, none, spendable.some))

pub returns-then-is_link-clause-none : goal.returns-then-is_link-clause-none
returns-then-is_link-clause-none g c =
    not_texted g.D.Disk c.args.self.now c.args.disk.now c.requires.fits c.counts.result.now c.counts.ensures.counts c.in-Some.number c.in-Some.ensures.some c.read_text.new.disk c.read_text.ensures.moments c.requires.opened c.requires.either c.requires.settled (g.met.D.Disk.reads_image c.read_text.new.disk) (g.met.D.Disk.image_tells c.read_text.new.disk)
    c.in-Some.ensures.lowest c.place-place.result c.place-place.ensures.place (take c.in_ok-len.len c.read_text.new.into) c.in_ok-len.ensures.text
    (λ spendable. spendable.plain (c.is_link.ensures.0 c.if-is_link.true))

pub returns-clause-found : goal.returns-clause-found
returns-clause-found g c =
    is_texted g.D.Disk c.args.self.now c.args.disk.now c.requires.fits c.counts.result.now c.counts.ensures.counts c.in-Some.number c.in-Some.ensures.some c.read_text.new.disk c.read_text.ensures.moments c.requires.opened c.requires.either c.requires.settled (g.met.D.Disk.reads_image c.read_text.new.disk) (g.met.D.Disk.image_tells c.read_text.new.disk)
    c.in-Some.ensures.lowest c.place-place.result c.place-place.ensures.place (take c.in_ok-len.len c.read_text.new.into) c.in_ok-len.ensures.text
    (record {
      some = grind arith;
      plain = λ link. let is : c.is_link.result ≡ true = c.is_link.ensures.1 link in cc;
    })
