use Rattle.std.proofs.Common.{arith, ℕ, ◌≡◌, ◌+◌, ◌++◌, ◌-◌, ◌∙◌, ap, replicate, vec_len, List}
use Rattle.std.proofs.lemmas.List.{replicate-append-replicate, append_assoc}
use Rattle.octet_text.proofs.growing.fill_up.Goals as goal

pub loop-left-preserved : goal.loop-left-preserved
loop-left-preserved g c =
    let at = c.loop-left.invariant in
    let all = c.args.count - vec_len c.args.list.now in
    let done = all - c.loop-left.left in
    let more = c.min-more.result in
    let old = c.args.list.now.items in
    let item = c.args.item in
    let next : done + more ≡ all - (c.loop-left.left - more) = omega (arith, at.0, c.min-more.ensures) in
    let items : c.append.new.list.items ≡ old ++ replicate (all - (c.loop-left.left - more)) item =
    c.in_ok-append.ensures.items ∙ ap (λ (l : List g.row.T.Denot). l ++ replicate more item) at.1 ∙ append_assoc old (replicate done item) (replicate more item)
    ∙ ap (λ (l : List g.row.T.Denot). old ++ l) (replicate-append-replicate done more item) ∙ ap (λ (n : ℕ). old ++ replicate n item) next in
    (omega (arith, at.0, c.min-more.ensures), items, omega (arith, c.in_ok-append.ensures.len, at.2, next))
