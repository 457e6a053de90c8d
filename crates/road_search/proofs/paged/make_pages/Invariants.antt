use Rattle.std.proofs.Common.{◌≡◌, ℕ, ◌+◌, ◌-◌, length}
use Rattle.road_search.specs.Pages.{paged}
use Rattle.road_search.proofs.paged.make_pages.Given as goal

-- no mark has changed
abbrev pub invariant-loop-alloc : goal.invariant-loop-alloc
invariant-loop-alloc l = (v : ℕ) → paged l.pages.items v ≡ paged l.fn.pages.items v

abbrev pub decreases-loop-alloc : goal.decreases-loop-alloc
decreases-loop-alloc l = l.index + 1 - length l.pages.items
