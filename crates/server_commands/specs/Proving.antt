-- The output of `prove`.
use Rattle.std.specs.Prelude.{ℕ, List}
use Rattle.std.specs.declared.result.Result.TheVariants.{Ok, Err}
use Rattle.sha2.specs.Sha256.{sha256}
use Rattle.road_io.specs.Contents.{Folder}
use Rattle.road_map.specs.Walks.{Knows}
use Rattle.book_model.specs.declared.items.Query.{Query}
use Rattle.proof_octets.specs.declared.publication.Publication.{Publication}
use Rattle.route_server.specs.Honesty.{IsHonest}
use Rattle.command_files.specs.Reading.{publication_at}
use Rattle.command_files.specs.TwoEnds.{IsFirstUnknown}
use Rattle.command_files.specs.Endings.{Ending, EndsReading}
use Rattle.command_files.specs.declared.fault.Fault.{Fault}
use Rattle.command_files.specs.declared.fault.Fault.TheVariants.{UnknownNode}
use Rattle.command_files.specs.declared.ended.Conclusion.TheVariants.{Done}
use Rattle.command_books.specs.Installing.{EndsInstalling}

-- over an installed publication: if both ends are nodes, an honest reply, with a route or with the proof that none
-- exists
abbrev pub EndsReply : Query → Publication → Ending
EndsReply q p (Ok Done) text = Knows p.parts q.from × Knows p.parts q.to ×
    IsHonest sha256 sha256 p q text
EndsReply q p (Err (UnknownNode id)) text = IsFirstUnknown p.parts q.from q.to id ×
    IsHonest sha256 sha256 p q text
EndsReply q p outcome text = ⊥

-- `prove` over a publication
abbrev pub EndsProve : Query → Publication → Ending
EndsProve q p = EndsInstalling p (EndsReply q p)

-- the same over the publication file with this name
abbrev pub ends_prove : List ℕ → Query → Folder → Ending
ends_prove publication q folder = EndsReading (publication_at folder publication) (EndsProve q)

-- the faults that are reported to the client: unknown nodes
abbrev pub TellsEnds : Fault → Type 0
TellsEnds (UnknownNode id) = Unit {0}
TellsEnds fault = ⊥
