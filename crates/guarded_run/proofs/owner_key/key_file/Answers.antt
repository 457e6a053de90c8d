use Rattle.guarded_run.proofs.KeyFiles.{by_gives}
use Rattle.guarded_run.proofs.owner_key.key_file.Goals as goal

pub returns-clause-known : goal.returns-clause-known
returns-clause-known g c = λ signs. by_gives (g.L.Library.files c.load.new.self) _ _ c.load.result c.known_by.result c.known_by.ensures.known c.load.ensures.file
