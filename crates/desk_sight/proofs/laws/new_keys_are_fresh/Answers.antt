use Rattle.desk_sight.proofs.FreshSteps.{key_fresh, next_fresh}
use Rattle.desk_sight.proofs.laws.new_keys_are_fresh.Goals as goal

pub returns-clause-first : goal.returns-clause-first
returns-clause-first c = key_fresh

pub returns-clause-next : goal.returns-clause-next
returns-clause-next c = next_fresh
