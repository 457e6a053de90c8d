-- All publications that a guarded service holds are signed.
use Rattle.std.specs.Prelude.{ℕ, IfSome}
use Rattle.route_service.specs.Guards.{IsSigned}
use Rattle.route_service.specs.Machine.{State}

-- every publication from which a service in this state answers is signed as its guard requires
pub record HoldsSigned (state : State) : Type 0 where
  pub newest : IsSigned state.guard state.newest
  pub pinned : (session : ℕ) → IfSome (state.pinned session) (IsSigned state.guard)
