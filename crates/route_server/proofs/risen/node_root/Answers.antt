use Rattle.std.proofs.Common.{◌+◌, ◌++◌, ℕ, List, [], get_or, ap, sym, ◌∙◌, arith}
use Rattle.book_model.specs.Books.{leaves_of}
use Rattle.proof_octets.proofs.Writable.{leaf_arcs}
use Rattle.road_leaf.specs.Leaves.{node_leaf_text}
use Rattle.route_server.specs.Fitting.{kind_of_leaves}
use Rattle.route_server.specs.Headers.{node_texts}
use Rattle.route_server.proofs.Fits.{leaf_fits}
use Rattle.route_server.proofs.Known.{some_ids}
use Rattle.route_server.proofs.Places.{contains_item}
use Rattle.route_server.proofs.RisenLemmas.{few_ids, length-node_texts, text_at}
use Rattle.route_server.proofs.risen.node_root.Goals as goal

pub overflow_cast-count : goal.overflow_cast-count
overflow_cast-count g c = omega (arith, few_ids _ _ c.requires.map c.requires.order)

pub unpushed-requires-clause-leaves : goal.unpushed-requires-clause-leaves
unpushed-requires-clause-leaves g c = omega (arith, some_ids _ _ c.requires.map c.requires.order)

pub unpushed-requires-clause-leaves_max : goal.unpushed-requires-clause-leaves_max
unpushed-requires-clause-leaves_max g c = omega (arith, few_ids _ _ c.requires.map c.requires.order)

pub loop-id-init : goal.loop-id-init
loop-id-init g c = record {
  pushed_is = c.in_ok-rising.ensures.unpushed;
  leaves_is = c.in_ok-rising.ensures.leaves;
  takes = c.in_ok-rising.ensures.takes _ (length-node_texts (g.B.MethodBook.shown c.args.book.now) c.args.order.now c.requires.order);
}

pub node_leaf-requires : goal.node_leaf-requires
node_leaf-requires g c = (c.requires.order.same _).0 (contains_item c.args.order.now c.loop-id.id-index c.loop-id-test.true)

pub write-requires : goal.write-requires
write-requires g c =
    let kind = g.B.MethodBook.kind c.args.book.now in
    let b = g.B.MethodBook.shown c.args.book.now in
    omega (
      arith,
      leaf_arcs (kind_of_leaves kind b.numbers) c.in_ok-leaf.leaf
          (leaf_fits kind b (get_or c.args.order.now c.loop-id.id-index 0) c.in_ok-leaf.leaf c.requires.map (c.map_laws.ensures.arcs b.parts) c.requires.fits c.in_ok-leaf.ensures c.has_widths.ensures),
    )

pub loop-id-preserved : goal.loop-id-preserved
loop-id-preserved g c =
    let b = g.B.MethodBook.shown c.args.book.now in
    let inv = c.loop-id.invariant in
    let texts = node_texts (leaves_of b c.args.order.now) in
    record {
      pushed_is = c.push.ensures.pushed ∙ ap (λ n. n + 1) inv.pushed_is;
      leaves_is = c.push.ensures.leaves ∙ inv.leaves_is;
      takes = c.push.ensures.takes _ _ _ inv.takes
          (ap (λ i. get_or texts i []) inv.pushed_is
          ∙ text_at b c.args.order.now (λ x h. (c.requires.order.same x).0 h) c.loop-id.id-index c.in_ok-leaf.leaf c.loop-id-test.true c.in_ok-leaf.ensures
          ∙ sym (c.deref.ensures.value ∙ c.in_ok-write.ensures.ok.is ∙ ap (λ (x : List ℕ). x ++ node_leaf_text c.in_ok-leaf.leaf) c.clear.ensures.items));
    }

pub returns : goal.returns
returns g c = c.end.ensures.root _ _ _ c.loop-id.invariant.takes
