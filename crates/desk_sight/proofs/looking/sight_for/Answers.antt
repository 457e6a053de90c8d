use Rattle.std.proofs.Common.{inl}
use Rattle.desk_sight.proofs.looking.sight_for.Goals as goal

pub returns-in-Ok-clause-strange_else : goal.returns-in-Ok-clause-strange_else
returns-in-Ok-clause-strange_else c e own is = let no_error = c.in-Ok.ensures.strange e is in cc

pub returns-in-Err-clause-strange_else : goal.returns-in-Err-clause-strange_else
returns-in-Err-clause-strange_else c e own is = let same = c.in-Err.ensures.strange e is in inl cc
