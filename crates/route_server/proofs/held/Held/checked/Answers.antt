use Rattle.std.proofs.Common.{refl, sym, ◌∙◌}
use Rattle.route_server.proofs.held.Held.checked.Goals as goal

pub returns-then-is_same_header-clause-done : goal.returns-then-is_same_header-clause-done
returns-then-is_same_header-clause-done g c = (sym c.header.ensures ∙ c.if-is_same_header.ensures.same, c.signed.ensures)

pub returns-else-is_same_header-clause-refused : goal.returns-else-is_same_header-clause-refused
returns-else-is_same_header-clause-refused g c = (refl, λ e. c.if-is_same_header.ensures.apart (c.header.ensures ∙ e))
