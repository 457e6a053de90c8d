use Rattle.std.proofs.Common.{◌≡◌, ℕ, ◌+◌, ◌≤◌, List, ◌++◌, length, take, Some, ◌∙◌, ap, sym, subst}
use Rattle.road_io.specs.Noted.{noted}
use Rattle.signed_out.proofs.FrontLemmas.{appended, part_after, whole_after, long_after, same_number}
use Rattle.signed_out.proofs.waiting.SignedSink.advance.Goals as goal

pub invariant_of-self-2-clause-part : goal.invariant_of-self-2-clause-part
invariant_of-self-2-clause-part g c =
    let s = c.args.self.now in
    let was : noted s.history.events ≡ take s.taken s.front = s.part c.requires.closed in
    let more : noted c.note.new.self.events ≡ noted s.history.events ++ take c.in_ok-count.count c.args.piece.now = ap noted c.note.ensures in
    λ closed. more ∙ ap (λ (x : List ℕ). x ++ take c.in_ok-count.count c.args.piece.now) was ∙ part_after s.front c.args.piece.now c.args.front s.taken c.in_ok-count.count c.requires.old_front c.in_ok-count.ensures.most c.requires.front

pub invariant_of-self-2-clause-long : goal.invariant_of-self-2-clause-long
invariant_of-self-2-clause-long g c =
    let s = c.args.self.now in
    let was : noted s.history.events ≡ take s.taken s.front = s.part c.requires.closed in
    let more : noted c.note.new.self.events ≡ noted s.history.events ++ take c.in_ok-count.count c.args.piece.now = ap noted c.note.ensures in
    let now : noted c.note.new.self.events ≡ take s.taken s.front ++ take c.in_ok-count.count c.args.piece.now = more ∙ ap (λ (x : List ℕ). x ++ take c.in_ok-count.count c.args.piece.now) was in
    λ is_open awaits. subst (λ (x : List ℕ). s.taken + length c.args.piece.now ≤ length x) (sym now)
    (long_after s.front c.args.piece.now s.taken c.in_ok-count.count (s.taken + length c.args.piece.now) c.requires.old_front c.in_ok-count.ensures.most (same_number (s.taken + c.in_ok-count.count) (s.taken + length c.args.piece.now) is_open))

pub invariant_of-self-2-clause-whole : goal.invariant_of-self-2-clause-whole
invariant_of-self-2-clause-whole g c =
    let s = c.args.self.now in
    let was : noted s.history.events ≡ take s.taken s.front = s.part c.requires.closed in
    let more : noted c.note.new.self.events ≡ noted s.history.events ++ take c.in_ok-count.count c.args.piece.now = ap noted c.note.ensures in
    let now : noted c.note.new.self.events ≡ take s.taken s.front ++ take c.in_ok-count.count c.args.piece.now = more ∙ ap (λ (x : List ℕ). x ++ take c.in_ok-count.count c.args.piece.now) was in
    λ is_open awaits. ap (λ (x : List ℕ). take (s.taken + length c.args.piece.now) x) now
    ∙ whole_after s.front c.args.piece.now c.args.front s.taken c.in_ok-count.count (s.taken + length c.args.piece.now) c.requires.old_front c.in_ok-count.ensures.most c.requires.front (same_number (s.taken + c.in_ok-count.count) (s.taken + length c.args.piece.now) is_open)

pub invariant_of-self-2-clause-inside : goal.invariant_of-self-2-clause-inside
invariant_of-self-2-clause-inside g c =
    let s = c.args.self.now in
    let more : noted c.note.new.self.events ≡ noted s.history.events ++ take c.in_ok-count.count c.args.piece.now = ap noted c.note.ensures in
    appended _ _ (noted s.history.events) (take c.in_ok-count.count c.args.piece.now) s.inside c.in_ok-count.ensures.taken ∙ ap Some (sym more)
