use Rattle.std.proofs.Common.{◌≡◌, [], length}
use Rattle.book_model.specs.Books.{leaves_of}
use Rattle.merkle_cover.specs.Rising.{Takes}
use Rattle.route_server.specs.Headers.{node_texts}
use Rattle.route_server.proofs.risen.node_root.Given as goal

abbrev pub invariant-loop-id : goal.invariant-loop-id
invariant-loop-id g l = record {
  pushed_is : l.rising.pushed ≡ l.id-index;
  leaves_is : l.rising.leaves ≡ length l.order;
  takes : Takes g.H.Hasher.hash l.fan [] (node_texts (leaves_of (g.B.MethodBook.shown l.book) l.order)) l.rising;
}
