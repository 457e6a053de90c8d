use Rattle.std.proofs.Common.{◌≡◌, ◌+◌, ◌<◌, ◌-◌, ◌^◌, arith}
use Rattle.std.proofs.lemmas.Bool.{OnFalse_at}
use Rattle.mirror_out.proofs.Promising.{puts_before_step}
use Rattle.mirror_out.proofs.mem_mirror.MemMirrorMirror.put.Goals as goal

pub returns-clause-puts : goal.returns-clause-puts
returns-clause-puts c =
    let below : c.args.self.now.calls < 2 ^ 64 - 1 = OnFalse_at c.if-is_planned.false c.is_planned.ensures.going in
    let one_more : c.saturating_add-self.result ≡ c.args.self.now.calls + 1 = omega (arith, c.saturating_add-self.ensures) in
    rw one_more (puts_before_step c.args.self.now.fails.items c.args.self.now.calls)
