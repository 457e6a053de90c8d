use Rattle.std.proofs.Common.{◌≡◌, ◌+◌, ◌≤◌, Bool, true, false, length, arith, sym, ◌∙◌}
use Rattle.key_desk.proofs.Steps.{fits_stays}
use Rattle.key_desk.proofs.SlotTexts.{slot_within, spent_text, unspent}
use Rattle.key_desk.proofs.desk.Desk.text_of.Goals as goal

-- a value that satisfies both facts
no_spent : (b : Bool) → b ≡ true → b ≡ false → ⊥
no_spent b is isnt = cc

pub read_text-requires-clause-within : goal.read_text-requires-clause-within
read_text-requires-clause-within g c x told =
    let areas = c.requires.fits.areas x (g.met.D.Disk.reads_image c.args.disk.now x told) in
    omega (arith, slot_within c.args.self.now x _ areas c.requires.slot, c.place_of-place.ensures.place x c.requires.fits.sound areas)

pub returns-then-not-is_spent-clause-text : goal.returns-then-not-is_spent-clause-text
returns-then-not-is_spent-clause-text g c =
    unspent g.D.Disk c.args.self.now c.args.disk.now c.requires.fits (sym c.is_open-is_open.ensures ∙ c.if-not-is_open.false) (g.met.D.Disk.reads_image c.args.disk.now) (g.met.D.Disk.image_tells c.args.disk.now) _ c.requires.slot c.args.into.now
    (λ spent. no_spent c.is_spent-is_spent.result (c.is_spent-is_spent.ensures.1 spent) c.if-not-is_spent.true)

pub returns-in-Ok-clause-text : goal.returns-in-Ok-clause-text
returns-in-Ok-clause-text g c =
    spent_text g.D.Disk c.args.self.now c.read_text.new.disk (fits_stays g.D.Disk c.args.self.now c.args.disk.now c.read_text.new.disk c.requires.fits c.read_text.ensures.moments) (sym c.is_open-is_open.ensures ∙ c.if-not-is_open.false) (g.met.D.Disk.reads_image c.read_text.new.disk) (g.met.D.Disk.image_tells c.read_text.new.disk) _ c.requires.slot
    c.place_of-place.result c.in-Ok.len c.read_text.new.into (c.is_spent-is_spent.ensures.0 c.if-not-is_spent.false) (λ x areas. c.place_of-place.ensures.place x c.requires.fits.sound areas) c.in-Ok.ensures.short c.in-Ok.ensures.text
