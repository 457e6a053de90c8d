-- The output of `reach`.
use Rattle.std.specs.Prelude.{◌≡◌, ℕ, List, []}
use Rattle.std.specs.declared.result.Result.TheVariants.{Ok, Err}
use Rattle.sha2.specs.Sha256.{sha256}
use Rattle.road_io.specs.Contents.{Folder}
use Rattle.road_map.specs.Walks.{Knows}
use Rattle.proof_octets.specs.declared.publication.Publication.{Publication}
use Rattle.proof_octets.specs.declared.query.NearQuery.{NearQuery}
use Rattle.route_server.specs.NearHonesty.{IsNearHonest}
use Rattle.command_files.specs.Reading.{publication_at}
use Rattle.command_files.specs.Endings.{Ending, EndsReading}
use Rattle.command_files.specs.declared.fault.Fault.TheVariants.{UnknownNode}
use Rattle.command_files.specs.declared.ended.Conclusion.TheVariants.{Done}
use Rattle.command_books.specs.Installing.{EndsInstalling}

-- over an installed publication: the honest reply, or nothing if no node has the id in the query
abbrev pub EndsNear : NearQuery → Publication → Ending
EndsNear q p (Ok Done) text = IsNearHonest sha256 sha256 p q text
EndsNear q p (Err (UnknownNode id)) text = (id ≡ q.from) × (¬ Knows p.parts q.from) × (text ≡ [])
EndsNear q p outcome text = ⊥

-- `reach` over a publication
abbrev pub EndsReach : NearQuery → Publication → Ending
EndsReach q p = EndsInstalling p (EndsNear q p)

-- the same over the publication file with this name
abbrev pub ends_reach : List ℕ → NearQuery → Folder → Ending
ends_reach publication q folder = EndsReading (publication_at folder publication) (EndsReach q)
