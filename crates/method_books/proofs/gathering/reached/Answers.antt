use Rattle.std.proofs.Common.{ℕ, get_or, sym, ap, ◌∙◌}
use Rattle.std.specs.List.{filter_map}
use Rattle.std.specs.Option.{option_map}
use Rattle.road_search.specs.Labelling.{length_at}
use Rattle.method_books.specs.HypBooks.{with_length}
use Rattle.method_books.proofs.HypFound.{one_kept, none_kept}
use Rattle.method_books.proofs.gathering.reached.Goals as goal
use Rattle.method_books.proofs.gathering.reached.Goals.{in-Some+in_ok-push, in_default}

pub loop-id-preserved : goal.loop-id-preserved
loop-id-preserved c =
    let h = with_length (length_at c.args.labels.now) in
    let id : ℕ = get_or c.args.borders.now c.loop-id.id-index 0 in
    elim c.match-get.branch [
      | in-Some+in_ok-push w ↦
          rw (w.list-is) (one_kept h c.args.borders.now c.loop-id.id-index c.loop-id.list.items w.push.new.list.items (filter_map h c.args.borders.now) (id, w.in-Some.length)
          c.loop-id-test.true (ap (option_map (λ (p : ℕ). (id, p))) (sym c.get.ensures ∙ w.in-Some.is)) w.in_ok-push.ensures.items c.loop-id.invariant)
      | in_default w ↦
          rw (w.list-is) (none_kept h c.args.borders.now c.loop-id.id-index c.loop-id.list.items (filter_map h c.args.borders.now)
          c.loop-id-test.true (ap (option_map (λ (p : ℕ). (id, p))) (sym c.get.ensures ∙ w.in_default.is)) c.loop-id.invariant)
    ]
