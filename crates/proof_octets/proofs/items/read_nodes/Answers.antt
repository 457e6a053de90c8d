use Rattle.std.proofs.Common.{◌≡◌, [], ◌∷◌, ◌++◌, ◌∙◌}
use Rattle.std.proofs.lemmas.Result.{err_from_is_err_and}
use Rattle.octet_text.specs.Format.{◌>>=◌, rows_at, seen_as}
use Rattle.octet_text.proofs.Loop.{begins, goes_on, ends, is_done}
use Rattle.proof_octets.specs.declared.items.NodeItem.{NodeItem}
use Rattle.proof_octets.specs.Replies.{node_item, after_node, parted}
use Rattle.proof_octets.proofs.OutlineLaws.{fails_then, map_push, parted_done}
use Rattle.proof_octets.proofs.items.read_nodes.Goals as goal

pub loop-init : goal.loop-init
loop-init c = ([], begins (node_item c.args.kind) after_node c.args.count 0 c.args.cursor.now, c.new-places.ensures.items, c.new-leaves.ensures)

pub returns-in_err-item : goal.returns-in_err-item
returns-in_err-item c =
    let p = err_from_is_err_and c.from_residual.result c.from_residual.ensures.1 in
    rw (p.1, p.2) (fails_then c.in_err-item.field-0.0 _ (seen_as parted) (ends c.in_err-item.field-0.0 (node_item c.args.kind) after_node c.loop.invariant.0 c.args.count c.loop.counter c.loop.least c.loop.cursor
    (rows_at (node_item c.args.kind) after_node c.args.count 0 c.args.cursor.now) c.loop-test.true c.in_err-item.ensures c.loop.invariant.1))

pub loop-preserved : goal.loop-preserved
loop-preserved c =
    rw c.after-least.ensures (
      c.loop.invariant.0 ++ c.in_ok-item.item ∷ [],
      goes_on (node_item c.args.kind) after_node c.loop.invariant.0 c.args.count c.loop.counter c.loop.least c.loop.cursor
          c.in_ok-item.item c.read.new.cursor (rows_at (node_item c.args.kind) after_node c.args.count 0 c.args.cursor.now) c.loop-test.true c.in_ok-item.ensures c.loop.invariant.1,
      c.in_ok-push.ensures.items ∙ map_push (λ (i : NodeItem). i.place) c.loop.invariant.0 c.in_ok-item.item c.loop.places.items c.loop.invariant.2,
      c.in_ok-push-2.ensures.ok ∙ map_push (λ (i : NodeItem). i.leaf) c.loop.invariant.0 c.in_ok-item.item c.loop.leaves c.loop.invariant.3,
    )

pub returns : goal.returns
returns c =
    parted_done (λ (i : NodeItem). i.place) (λ (i : NodeItem). i.leaf) c.loop.invariant.0 (rows_at (node_item c.args.kind) after_node c.args.count 0 c.args.cursor.now) c.loop.cursor _ _
    (is_done (node_item c.args.kind) after_node c.loop.invariant.0 c.args.count c.loop.counter c.loop.least c.loop.cursor (rows_at (node_item c.args.kind) after_node c.args.count 0 c.args.cursor.now) c.loop-test.false c.loop.invariant.1)
    (c.from_vec.ensures ∙ c.loop.invariant.2) c.loop.invariant.3
