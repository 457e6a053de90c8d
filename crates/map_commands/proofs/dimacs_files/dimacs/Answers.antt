use Rattle.map_commands.proofs.MapLemmas.{dimacs_told}
use Rattle.map_commands.proofs.dimacs_files.dimacs.Goals as goal

pub returns-clause-promised : goal.returns-clause-promised
returns-clause-promised g c =
    dimacs_told _ _ _ _ c.in_ok-parts.ensures.loads.read _ _ _ _ _ _ _ _ _ c.deref.ensures.value c.in-Ok.ensures c.write_text.ensures.writes
