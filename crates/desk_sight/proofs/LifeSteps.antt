-- Each image of a life of calls is in order.
use Rattle.std.proofs.Common.{◌≡◌, ◌⊎◌, ℕ, ◌<◌, ◌≤◌, List, [], ◌∷◌, arith, inl, inr, sym, subst}
use Rattle.std.proofs.lemmas.Bool.{cases_lt}
use Rattle.road_io.specs.declared.disk.Disk.{Ghosts}
use Rattle.road_io.specs.Moments.{Image, EachImage, AtEachMoment}
use Rattle.desk_sight.specs.Tidy.{IsTidy, HasFreshLink}
use Rattle.desk_sight.specs.CallLives.{PutsHeader, IsCall, IsStep, IsLifeOf, EachFresh, IsInOrder, InOrderWithin, StaysInOrder}
use Rattle.desk_sight.specs.CallLives.IsCall.{Makes, Signs, Adds, Looks}
use Rattle.desk_sight.specs.CallLives.IsStep.{Called, Cut}
use Rattle.desk_sight.proofs.TidySteps.{tidy_open, text_tidy, raised_tidy, fresh_tidy, spent_tidy}

in_order : (i : List ℕ) → IsTidy i → IsInOrder i
in_order i tidy gate strange is = tidy_open i strange tidy gate is

module _ {D : Type 0} (g : Ghosts D) where
  abbrev pub TidyAlong : D → D → Type 0
  TidyAlong old new = (k : ℕ) (i : List ℕ) → g.clock old ≤ k → k ≤ g.clock new → g.image_at new k i → IsTidy i

  by_steps : (old new : D) (S : List ℕ → List ℕ → Type 0) → EachImage g old IsTidy → AtEachMoment g old new S → ((d i : List ℕ) → Image g old d → S d i → IsTidy d → IsTidy i) → TidyAlong old new
  by_steps old new S tidy m keeps k i from to h = let d = m.each k i from to h in keeps d.0 i d.1 d.2 (tidy d.0 d.1)

  call_tidy : (old new : D) → IsCall g old new → EachImage g old HasFreshLink → EachImage g old IsTidy → TidyAlong old new
  call_tidy old new (Makes key m) fresh tidy = λ k i from to h. elim (cases_lt k m.turn) [
    | inl before ↦ tidy i (m.before k i from before to h)
    | inr since ↦ fresh_tidy key i (m.since k i since to h)
  ]
  call_tidy old new (Signs text m) fresh tidy = by_steps old new _ tidy m (λ d i now h was. elim h [
    | inl is ↦ subst IsTidy (sym is) was
    | inr puts ↦ text_tidy puts.slot text d i puts.short puts.free puts.alone was
  ])
  call_tidy old new (Adds key m) fresh tidy = by_steps old new _ tidy m (λ d i now h was. elim h [
    | inl is ↦ subst IsTidy (sym is) was
    | inr raises ↦ raised_tidy key d i raises was
  ])
  call_tidy old new (Looks what spends) fresh tidy = by_steps old new _ tidy spends.moments (λ d i now h was. spent_tidy what d i h (fresh d now) was)

  within : (old new : D) (step : IsStep g old new) → EachImage g old HasFreshLink → EachImage g old IsTidy → InOrderWithin g old new step
  within old new (Called later call) fresh tidy = λ k i from to h. in_order i (call_tidy old new call fresh tidy k i from to h)
  within old new (Cut called k call from to crashed) fresh tidy = λ n i past upto h. in_order i (call_tidy old called call fresh tidy n i past upto h)

  stepped : (old new : D) → IsStep g old new → EachImage g old HasFreshLink → EachImage g old IsTidy → EachImage g new IsTidy
  stepped old new (Called later call) fresh tidy = λ i now. call_tidy old new call fresh tidy (g.clock new) i later (omega arith) now
  stepped old new (Cut called k call from to crashed) fresh tidy = λ i now. call_tidy old called call fresh tidy k i from to (crashed.left i now)

  pub stays_in_order : (disk : D) (disks : List D) (life : IsLifeOf g disk disks) → EachFresh g disk disks → EachImage g disk IsTidy → StaysInOrder g disk disks life
  stays_in_order disk [] life fresh tidy = tt
  stays_in_order disk (next ∷ later) life fresh tidy =
      let after = stepped disk next life.0 fresh.0 tidy in (
        within disk next life.0 fresh.0 tidy,
        λ i now. in_order i (after i now),
        stays_in_order next later life.1 fresh.1 after,
      )
