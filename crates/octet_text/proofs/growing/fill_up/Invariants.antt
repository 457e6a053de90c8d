use Rattle.std.proofs.Common.{◌≡◌, ◌++◌, ◌≤◌, ◌-◌, ◌+◌, replicate, vec_len}
use Rattle.octet_text.proofs.growing.fill_up.Given as goal

abbrev pub invariant-loop-left : goal.invariant-loop-left
invariant-loop-left g l = (l.left ≤ l.fn.count - vec_len l.fn.list) ×
    (l.list.items ≡ l.fn.list.items ++ replicate (l.fn.count - vec_len l.fn.list - l.left) l.fn.item) ×
    (vec_len l.list ≡ vec_len l.fn.list + (l.fn.count - vec_len l.fn.list - l.left))

abbrev pub decreases-loop-left : goal.decreases-loop-left
decreases-loop-left g l = l.left
