use Rattle.audit_commands.proofs.SlotLemmas.{unnamed, named_within, named_beyond}
use Rattle.audit_commands.proofs.slots.slot_of.Goals as goal

pub returns-in-None-clause-none : goal.returns-in-None-clause-none
returns-in-None-clause-none c i areas = unnamed i c.args.area c.args.sig.now c.in-None.ensures.none

pub returns-in-Some-clause-some : goal.returns-in-Some-clause-some
returns-in-Some-clause-some c =
    let is = c.in-Some.ensures.some in
    named_within c.args.desk.now c.args.area c.args.sig.now c.in-Some.slot c.within.result is.0 is.1 (rw c.slots_in.ensures at c.within.ensures.some)

pub returns-in-Some-clause-none : goal.returns-in-Some-clause-none
returns-in-Some-clause-none c =
    let is = c.in-Some.ensures.some in
    named_beyond c.args.desk.now c.args.area c.args.sig.now c.in-Some.slot c.within.result c.requires.area is.0 is.1 (rw c.slots_in.ensures at c.within.ensures.none)
