use Rattle.std.proofs.Common.{◌≡◌, ℕ, Vec, Global, subst, rules, arith}
use Rattle.sha2.specs.Sha256.{sha256}
use Rattle.route_service.specs.declared.guard.Guard.{Guard}
use Rattle.route_service.specs.Installs.{IsDecided}
use Rattle.route_service.specs.Sessions.{state_of}
use Rattle.route_service.proofs.StepLemmas.{carried_out}
use Rattle.route_service.proofs.service.Service.install.Goals as goal

pub returns-clause-step : goal.returns-clause-step
returns-clause-step g c =
    let version = c.version-newest.ensures in
    let pinned = c.deref.ensures in
    let view = c.self.view_is in
    let newest : c.version-newest.result ≡ c.args.self.now.newest.header.version = first_of (cc, grind arith, search rules) in
    let guard : c.self.inside.guard ≡ c.args.self.now.guard = first_of (cc, grind arith, search rules) in
    let decided : IsDecided g.H.Hasher.hash sha256 c.args.self.now.guard c.args.octets.now c.version-newest.result c.in_ok-decided.decided
    = subst (λ (x : Guard). IsDecided g.H.Hasher.hash sha256 x c.args.octets.now c.version-newest.result c.in_ok-decided.decided) guard c.in_ok-decided.ensures in
    carried_out g.H.Hasher.hash sha256 (state_of c.args.self.now) _ c.args.octets.now (λ (v : Vec ℕ Global). v.items) c.carry_out.result c.in_ok-decided.decided c.version-newest.result newest decided
    c.carry_out.ensures.replies c.carry_out.ensures.state
