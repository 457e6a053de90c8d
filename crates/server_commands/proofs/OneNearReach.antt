-- `reach` has one result over its file.
use Rattle.std.proofs.Common.{◌≡◌, ℕ, List, refl, sym, ap, ◌∙◌}
use Rattle.std.specs.declared.result.Result.{Result}
use Rattle.std.specs.declared.result.Result.TheVariants.{Ok, Err}
use Rattle.road_io.specs.Contents.{Folder}
use Rattle.proof_octets.specs.declared.publication.Publication.{Publication}
use Rattle.proof_octets.specs.declared.query.NearQuery.{NearQuery}
use Rattle.command_files.specs.Reading.{publication_at}
use Rattle.command_files.specs.declared.fault.Fault.{Fault}
use Rattle.command_files.specs.declared.fault.Fault.TheVariants.{UnknownNode}
use Rattle.command_files.specs.declared.ended.Conclusion.{Conclusion}
use Rattle.command_files.specs.declared.ended.Conclusion.TheVariants.{Done}
use Rattle.command_files.proofs.OneEnd.{HasOneEnd, one_reading}
use Rattle.command_books.proofs.OneBuilding.{OneMaking, one_installing}
use Rattle.server_commands.specs.NearReaching.{EndsNear, EndsReach, ends_reach}

-- over an installed publication, `reach` has one end
one_near : (p : Publication) (q : NearQuery) (o e : Result Conclusion Fault) (s t : List ℕ) → EndsNear q p o s → EndsNear q p e t → o ≡ e
one_near p q (Ok Done) (Ok Done) s t h k = refl
one_near p q (Ok Done) (Err (UnknownNode id)) s t h k = absurd (k.1 h.known)
one_near p q (Ok Done) e s t h k = absurd k
one_near p q (Err (UnknownNode id)) (Ok Done) s t h k = absurd (h.1 k.known)
one_near p q (Err (UnknownNode id)) (Err (UnknownNode b)) s t h k = ap (λ x. Err (UnknownNode x)) (h.0 ∙ sym k.0)
one_near p q (Err (UnknownNode id)) e s t h k = absurd k
one_near p q o e s t h k = absurd h

-- so it has one end over the file
pub only_reach : OneMaking → (name : List ℕ) (q : NearQuery) (folder : Folder) → HasOneEnd (ends_reach name q folder)
only_reach makings name q folder =
    one_reading (publication_at folder name) (EndsReach q) (λ b o p s t. one_installing makings b (EndsNear q b) o p s t (one_near b q o p s t))
