-- How `reach` ends.
use Rattle.std.proofs.Common.{◌≡◌, ℕ, List, IfSome, IfErr, subst}
use Rattle.std.specs.declared.option.Option.{Option}
use Rattle.std.specs.declared.result.Result.{Result}
use Rattle.std.specs.declared.result.Result.TheVariants.{Ok, Err}
use Rattle.road_io.specs.Contents.{Folder}
use Rattle.proof_octets.specs.declared.publication.Publication.{Publication}
use Rattle.proof_octets.specs.declared.query.NearQuery.{NearQuery}
use Rattle.command_files.specs.Reading.{publication_at}
use Rattle.command_files.specs.Endings.{Promises, TellsNone, NoDisk, NoEnd, WhyNot, Writes}
use Rattle.command_files.specs.declared.fault.Fault.{Fault}
use Rattle.command_files.specs.declared.ended.Conclusion.{Conclusion}
use Rattle.command_files.specs.declared.ended.Conclusion.TheVariants.{Done}
use Rattle.command_files.proofs.Written.{CallsFor, over, reads, refused, written, why_map}
use Rattle.command_books.specs.Installing.{EndsInstalling, IsInstallable}
use Rattle.command_books.proofs.Installings.{installed, not_installed}
use Rattle.server_commands.specs.NearReaching.{EndsNear, EndsReach, ends_reach}

module _ (files : Option Folder) (name : List ℕ) (p : Publication) (q : NearQuery) (l l' k k' : ℕ) (read : IfSome files (λ folder. publication_at folder name ≡ Ok p)) (old : Option (List ℕ)) where
  -- what the file of a publication requires
  calls : (o : Result Conclusion Fault) (text : List ℕ) → EndsReach q p o text → CallsFor (ends_reach name q) files o text
  calls o text h =
      over files (λ folder. publication_at folder name ≡ Ok p) (λ folder. ends_reach name q folder o text)
      (λ folder is. reads (publication_at folder name) p (EndsReach q) o text is h) read

  -- a reply that was written
  pub reply_written : (new : Option (List ℕ)) (o : Result Conclusion Fault) (text : List ℕ) → EndsReach q p (Ok Done) text → Writes (Ok Done) text old new k k' o → Promises (ends_reach name q) TellsNone NoDisk files l l' old new k k' o
  reply_written new o text h w = written (ends_reach name q) TellsNone NoDisk files l l' k k' old (EndsReach q p) calls new (Ok Done) o text tt h w

  -- a publication that was not installed, or an unknown node
  pub reach_refused : (f : Fault) → WhyNot NoDisk (EndsReach q p) f → Promises (ends_reach name q) TellsNone NoDisk files l l' old old k k' (Err f)
  reach_refused f h = refused (ends_reach name q) TellsNone NoDisk files l l' k k' old (EndsReach q p) calls f h

-- ---- after an install

pub if_err : {T E : Type 0} (r : Result T E) (P Q : E → Type 0) → ((x : E) → P x → Q x) → IfErr r P → IfErr r Q
if_err (Ok x) P Q f h = tt
if_err (Err e) P Q f h = f e h

-- an end of the reply over the installed publication is an end of the command
pub why_behind : (p b : Publication) (q : NearQuery) → b ≡ p → IsInstallable p → (f : Fault) → WhyNot NoDisk (EndsNear q b) f → WhyNot NoDisk (EndsReach q p) f
why_behind p b q same is f h =
    why_map NoDisk NoDisk (EndsNear q p) (EndsReach q p) (λ x. x) (λ o text e. installed p (EndsNear q p) o text is e) f (subst (λ (x : Publication). WhyNot NoDisk (EndsNear q x) f) same h)

-- and so is the reason why a publication was not installed
pub why_before : (p : Publication) (q : NearQuery) (f : Fault) → WhyNot NoDisk (EndsInstalling p NoEnd) f → WhyNot NoDisk (EndsReach q p) f
why_before p q f h = why_map NoDisk NoDisk (EndsInstalling p NoEnd) (EndsReach q p) (λ x. x) (not_installed p (EndsNear q p)) f h
