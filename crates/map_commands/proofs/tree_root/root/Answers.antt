use Rattle.map_commands.proofs.MapLemmas.{root_told}
use Rattle.map_commands.proofs.tree_root.root.Goals as goal

pub returns-clause-promised : goal.returns-clause-promised
returns-clause-promised g c =
    root_told _ _ _ c.in_ok-map.ensures.loads.read _ _ _ _ _ _ _ _ _ _ c.deref.ensures.value c.in-Ok.ensures c.write_text.ensures.writes
