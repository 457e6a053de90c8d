use Rattle.std.proofs.Common.{refl, sym, ◌∙◌, get_or}
use Rattle.std.proofs.lemmas.Option.{slice_get-get_or}
use Rattle.pair_dist.proofs.LinkLaws.{own_link, missing_link, new_link}
use Rattle.pair_dist.proofs.chain.add_link.Goals as goal

pub returns-then-number-own : goal.returns-then-number-own
returns-then-number-own g c = λ fits. own_link (g.R.Rows.rows c.args.walled.now.rows.now) c.args.walled.now.walls.now c.args.places.now c.args.own c.args.walled.now.start c.args.number c.args.row.now.items c.if-number-own.true c.requires.below

pub returns-in_default : goal.returns-in_default
returns-in_default g c = λ fits. missing_link (g.R.Rows.rows c.args.walled.now.rows.now) c.args.walled.now.walls.now c.args.places.now c.args.own c.args.walled.now.start c.args.number (get_or c.args.places.now c.args.number 0) c.args.row.now.items _ (slice_get-get_or c.args.places.now c.args.number 0 c.requires.within) (sym c.length_of.ensures ∙ c.in_default.is) (c.requires.least (get_or c.args.places.now c.args.number 0)) c.requires.below

pub returns : goal.returns
returns g c = λ fits. new_link (g.R.Rows.rows c.args.walled.now.rows.now) c.args.walled.now.walls.now c.args.places.now c.args.own c.args.walled.now.start c.args.number (get_or c.args.places.now c.args.number 0) c.in-Some.length c.args.row.now.items c.push.new.list.items _ _ (slice_get-get_or c.args.places.now c.args.number 0 c.requires.within) (sym c.length_of.ensures ∙ c.in-Some.is) refl refl c.in_ok-push.ensures.items (c.requires.least (get_or c.args.places.now c.args.number 0)) c.requires.below
