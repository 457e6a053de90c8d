-- The guarantee for a user who picks the nearest of the listed nodes from an accepted range reply.
use Rattle.std.specs.Prelude.{◌≡◌, ℕ, List, Contains, Option, None, Some, Result}
use Rattle.sha2.specs.Sha256.{sha256}
use Rattle.road_io.specs.declared.disk.Disk.{Ghosts}
use Rattle.road_io.specs.Contents.{Folder}
use Rattle.lms_tree.specs.declared.links.Link.{Link}
use Rattle.proof_octets.specs.declared.publication.Publication.{Publication}
use Rattle.proof_octets.specs.declared.query.NearQuery.{NearQuery}
use Rattle.proof_octets.specs.Headers.{header_text}
use Rattle.route_server.specs.Headers.{HasHeader}
use Rattle.route_client.specs.declared.picking.Picked.{Picked}
use Rattle.route_client.specs.declared.within.Within.{Within}
use Rattle.route_client.specs.Nearest.{PicksNearest}
use Rattle.route_client.specs.NearestTruth.{AreNearest}
use Rattle.route_audit.specs.Radii.{radii}
use Rattle.command_files.specs.declared.fault.Fault.{Fault}
use Rattle.command_files.specs.declared.ended.Conclusion.{Conclusion}
use Rattle.audit_commands.specs.Owners.{look_everywhere}
use Rattle.audit_commands.specs.Headline.{IsBrought, ClashIn, IsAcceptedFile, FindsTruth}

-- the picked nodes are the nearest ones of the signed map: the accepted header is that of the map, and is in one
-- slot of every image
pub record AreTrue {D : Type 0} (g : Ghosts D) (disk : D) (p : Publication) (q : NearQuery)
    (accepted : Within) (ids : List ℕ) (most : ℕ) (x : Picked) : Type 0 where
  pub of_map : HasHeader sha256 sha256 p.parts p.settings p.header
  pub same : accepted.header ≡ p.header
  pub signed : (look_everywhere g disk).Signed (header_text p.header)
  pub truth : AreNearest p.parts q ids most x

-- for all octets that the client accepts, and for every pick from their nodes, the audit finds that the picked
-- nodes are true, or that the reply belongs to another publication, or it writes evidence
abbrev pub AuditsNearest : {D : Type 0} → Ghosts D → Option (List ℕ) → D → List ℕ → List ℕ →
    List ℕ → NearQuery → Option (List ℕ) → Option Folder → Option (List ℕ) → Option (List ℕ) →
    Result Conclusion Fault → Type 0
AuditsNearest g content disk key publication reply q chain (Some folder) old new outcome =
    (k : List ℕ) (links : List Link) (p : Publication) (accepted : Within) (ids : List ℕ) (most : ℕ)
    (x : Picked) →
    (file : IsAcceptedFile radii content folder key publication reply q chain k links p accepted) →
    PicksNearest (λ m. Contains accepted.nodes m) ids most x →
    FindsTruth g disk (IsBrought radii file.octets) (ClashIn radii p file.octets) k links p
    accepted.header (AreTrue g disk p q accepted ids most x) old new outcome
AuditsNearest g content disk key publication reply q chain None old new outcome = Unit {0}
