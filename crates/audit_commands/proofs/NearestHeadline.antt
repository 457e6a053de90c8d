-- The conclusion of the headline follows from the truth of the result.
use Rattle.std.proofs.Common.{ℕ, List}
use Rattle.std.specs.declared.option.Option.{Option}
use Rattle.std.specs.declared.option.Option.TheVariants.{None, Some}
use Rattle.std.specs.declared.result.Result.{Result}
use Rattle.std.specs.declared.result.Result.TheVariants.{Ok, Err}
use Rattle.road_io.specs.declared.disk.Disk.{Ghosts}
use Rattle.road_io.specs.Contents.{Folder}
use Rattle.lms_tree.specs.declared.links.Link.{Link}
use Rattle.proof_octets.specs.declared.header.Header.{Header}
use Rattle.proof_octets.specs.declared.publication.Publication.{Publication}
use Rattle.proof_octets.specs.declared.query.NearQuery.{NearQuery}
use Rattle.route_client.specs.NearestTruth.{PicksAreNearest}
use Rattle.route_audit.specs.Radii.{radii}
use Rattle.command_files.specs.declared.fault.Fault.{Fault}
use Rattle.command_files.specs.declared.fault.Fault.TheVariants.{Library, Sink, Disk, Memory, OtherPublication}
use Rattle.command_files.specs.declared.ended.Conclusion.{Conclusion}
use Rattle.command_files.specs.declared.ended.Conclusion.TheVariants.{Done, Evidence}
use Rattle.audit_commands.specs.Headline.{AuditsAccepted, FindsTruth}
use Rattle.audit_commands.specs.Nearest.{AuditsNearest}

finds_as : {D : Type 0} (g : Ghosts D) (disk : D) (Brings Hashed : List ℕ → List ℕ → Type 0) (key : List ℕ) (links : List Link) (p : Publication) (accepted : Header) (Truth Other : Type 0) (old new : Option (List ℕ)) (o : Result Conclusion Fault) → (Truth → Other)
    → FindsTruth g disk Brings Hashed key links p accepted Truth old new o → FindsTruth g disk Brings Hashed key links p accepted Other old new o
finds_as g disk Brings Hashed key links p accepted Truth Other old new (Ok Done) follows h = (follows h.0, h.1)
finds_as g disk Brings Hashed key links p accepted Truth Other old new (Ok Evidence) follows h = h
finds_as g disk Brings Hashed key links p accepted Truth Other old new (Err OtherPublication) follows h = h
finds_as g disk Brings Hashed key links p accepted Truth Other old new (Err (Memory none)) follows h = h
finds_as g disk Brings Hashed key links p accepted Truth Other old new (Err Library) follows h = h
finds_as g disk Brings Hashed key links p accepted Truth Other old new (Err Sink) follows h = h
finds_as g disk Brings Hashed key links p accepted Truth Other old new (Err Disk) follows h = h
finds_as g disk Brings Hashed key links p accepted Truth Other old new o follows h = h

pub nearest : {D : Type 0} (g : Ghosts D) (content : Option (List ℕ)) (disk : D) (key publication reply : List ℕ) (q : NearQuery) (chain : Option (List ℕ)) (files : Option Folder) (old new : Option (List ℕ)) (outcome : Result Conclusion Fault) → PicksAreNearest
    → AuditsAccepted radii g content disk key publication reply q chain files old new outcome → AuditsNearest g content disk key publication reply q chain files old new outcome
nearest g content disk key publication reply q chain (Some folder) old new outcome law h = λ k links p accepted ids most x file picks. finds_as g disk _ _ k links p accepted.header _ _ old new outcome
    (λ t. record {
      of_map = t.of_map;
      same = t.same;
      signed = t.signed;
      truth = law p.parts q accepted.nodes ids most x t.of_map.is_map t.truth picks;
    })
    (h k links p accepted file)
nearest g content disk key publication reply q chain None old new outcome law h = tt
