use Rattle.std.proofs.Common.{List, length, subst, sym}
use Rattle.std.specs.Prelude.{Contains, IfOk}
use Rattle.std.specs.List.Sorted.{IsStrictlySortedBy}
use Rattle.std.specs.Ordering.{nat_cmp}
use Rattle.proof_octets.specs.declared.marks.Mark.{Mark}
use Rattle.proof_octets.specs.Radius.{marked_ids}
use Rattle.route_client.specs.Nearest.{PicksNearest}
use Rattle.route_check_c.specs.Placing.{HaveLeavesOf}
use Rattle.route_check_c.proofs.LeafLemmas.{pick_leaves}
use Rattle.route_check_c.proofs.nearby.pick.Goals as goal

pub nearest-requires : goal.nearest-requires
nearest-requires c = subst (λ (ms : List Mark). IsStrictlySortedBy nat_cmp (marked_ids ms)) (sym c.as_slice.ensures) c.requires.rising

pub returns-clause-picked : goal.returns-clause-picked
returns-clause-picked c =
    subst (λ (ms : List Mark). IfOk c.nearest.result (PicksNearest (λ m. Contains ms m) c.args.ids.now (length c.args.room.now))) c.as_slice.ensures c.nearest.ensures

pub returns-clause-leaves : goal.returns-clause-leaves
returns-clause-leaves c =
    pick_leaves c.args.checked.now.reply.nodes c.as_slice.result.now c.args.ids.now (length c.args.room.now) c.nearest.result
    (subst (HaveLeavesOf c.args.checked.now.reply.nodes) (sym c.as_slice.ensures) c.requires.leaves) c.nearest.ensures
