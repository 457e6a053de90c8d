-- `prove` has one result over its file.
use Rattle.std.proofs.Common.{◌≡◌, ℕ, List, refl, ap}
use Rattle.std.specs.declared.result.Result.{Result}
use Rattle.std.specs.declared.result.Result.TheVariants.{Ok, Err}
use Rattle.road_io.specs.Contents.{Folder}
use Rattle.book_model.specs.declared.items.Query.{Query}
use Rattle.proof_octets.specs.declared.publication.Publication.{Publication}
use Rattle.command_files.specs.Reading.{publication_at}
use Rattle.command_files.specs.declared.fault.Fault.{Fault}
use Rattle.command_files.specs.declared.fault.Fault.TheVariants.{UnknownNode}
use Rattle.command_files.specs.declared.ended.Conclusion.{Conclusion}
use Rattle.command_files.specs.declared.ended.Conclusion.TheVariants.{Done}
use Rattle.command_files.proofs.Ends.{both_known, one_unknown}
use Rattle.command_files.proofs.OneEnd.{HasOneEnd, one_reading}
use Rattle.command_books.proofs.OneBuilding.{OneMaking, one_installing}
use Rattle.server_commands.specs.Proving.{EndsReply, EndsProve, ends_prove}

-- over an installed publication, `prove` has one end
one_reply : (p : Publication) (q : Query) (o e : Result Conclusion Fault) (s t : List ℕ) → EndsReply q p o s → EndsReply q p e t → o ≡ e
one_reply p q (Ok Done) (Ok Done) s t h k = refl
one_reply p q (Ok Done) (Err (UnknownNode id)) s t h k = absurd (both_known p.parts q.from q.to id h.0 h.1 k.0)
one_reply p q (Ok Done) e s t h k = absurd k
one_reply p q (Err (UnknownNode id)) (Ok Done) s t h k = absurd (both_known p.parts q.from q.to id k.0 k.1 h.0)
one_reply p q (Err (UnknownNode id)) (Err (UnknownNode b)) s t h k = ap (λ x. Err (UnknownNode x)) (one_unknown p.parts q.from q.to id b h.0 k.0)
one_reply p q (Err (UnknownNode id)) e s t h k = absurd k
one_reply p q o e s t h k = absurd h

-- so it has one end over the file
pub only_prove : OneMaking → (name : List ℕ) (q : Query) (folder : Folder) → HasOneEnd (ends_prove name q folder)
only_prove makings name q folder =
    one_reading (publication_at folder name) (EndsProve q) (λ b o p s t. one_installing makings b (EndsReply q b) o p s t (one_reply b q o p s t))
