use Rattle.std.proofs.Common.{◌≡◌, true, false, sym, ◌∙◌}
use Rattle.std.proofs.lemmas.Result.{err_from_is_err_and}
use Rattle.lms_tree.specs.ChainFiles.{link_row, many_at}
use Rattle.lms_tree.proofs.ChainLemmas.{begins, stops, goes_on, fails, is_done}
use Rattle.lms_tree.proofs.chain_files.read_some.Goals as goal

pub loop-init : goal.loop-init
loop-init c = rw c.new-links.ensures.items (begins link_row c.args.most c.args.cursor.now)

pub returns-then-is_empty : goal.returns-then-is_empty
returns-then-is_empty c =
    stops link_row c.loop.links.items c.args.most c.loop.counter c.loop.cursor (many_at link_row c.args.most c.args.cursor.now) c.loop-test.true (sym c.is_empty.ensures ∙ c.if-is_empty.true) c.loop.invariant

pub returns-in_err-link : goal.returns-in_err-link
returns-in_err-link c =
    let p = err_from_is_err_and c.from_residual.result c.from_residual.ensures.1 in
    rw (p.1, p.2)
    (fails link_row c.in_err-link.field-0.0 c.loop.links.items c.args.most c.loop.counter c.loop.cursor (many_at link_row c.args.most c.args.cursor.now) c.loop-test.true (sym c.is_empty.ensures ∙ c.if-is_empty.false) c.in_err-link.ensures c.loop.invariant)

pub loop-preserved : goal.loop-preserved
loop-preserved c =
    rw c.in_ok-push.ensures.items
    (goes_on link_row c.loop.links.items c.args.most c.loop.counter c.loop.cursor c.in_ok-link.link c.read_link.new.cursor (many_at link_row c.args.most c.args.cursor.now) c.loop-test.true (sym c.is_empty.ensures ∙ c.if-is_empty.false) c.in_ok-link.ensures c.loop.invariant)

pub returns : goal.returns
returns c = is_done link_row c.loop.links.items c.args.most c.loop.counter c.loop.cursor (many_at link_row c.args.most c.args.cursor.now) c.loop-test.false c.loop.invariant
