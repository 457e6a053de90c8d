-- How `key` and `desk` end.
use Rattle.std.proofs.Common.{◌≡◌, inl, inr, ℕ, ◌-◌, List, [], sym, ap, ◌∙◌, subst, length, IfSome, IfErr, OnOk}
use Rattle.std.specs.declared.option.Option.{Option}
use Rattle.std.specs.declared.result.Result.{Result}
use Rattle.std.specs.declared.result.Result.TheVariants.{Ok, Err}
use Rattle.std.specs.Option.{ForSome}
use Rattle.road_io.specs.declared.disk.Disk.{Ghosts}
use Rattle.road_io.specs.Moments.{EachImage}
use Rattle.road_io.specs.Contents.{Folder}
use Rattle.lms_tree.specs.Signatures.{KeyOf, public_key}
use Rattle.desk_areas.specs.Blank.{IsBlank}
use Rattle.desk_areas.specs.Keys.{key_from}
use Rattle.desk_areas.specs.Layout.{slots_of, base_of, keys_left}
use Rattle.key_desk.specs.Desk.{IsSound}
use Rattle.key_desk.specs.declared.desk.Desk.{Desk}
use Rattle.road_line.specs.DeskLine.{desk_line}
use Rattle.command_files.specs.HexFiles.{secret_at}
use Rattle.command_files.specs.Endings.{NoEnd, Promises, PromisesWithoutFiles, TellsNone, WhyNot, Writes}
use Rattle.command_files.specs.declared.fault.Fault.{Fault}
use Rattle.command_files.specs.declared.ended.Conclusion.{Conclusion}
use Rattle.command_files.specs.declared.ended.Conclusion.TheVariants.{Done}
use Rattle.command_files.proofs.Written.{CallsFor, over, over_any, reads, refused, written_done, why_map}
use Rattle.desk_areas.specs.Faults.{IsUsable}
use Rattle.command_desks.specs.Opening.{EndsOpening, HasBlocks}
use Rattle.command_desks.proofs.Openings.{shut, key_on}
use Rattle.owner_commands.specs.OwnerKey.{EndsKey, MakesKey, ends_key}
use Rattle.owner_commands.specs.Names.{HasDistinctNames}
use Rattle.owner_commands.specs.OwnerDesk.{IsDeskLine, TellsDesk, EndsDesk}
use Rattle.owner_commands.specs.Signing.{StaysRefused}

module _ (files : Option Folder) (name secret : List ℕ) (content : Option (List ℕ)) (kind : ℕ) (DiskFailed : Type 0) (l l' k k' : ℕ) (read : IfSome files (λ folder. secret_at folder name ≡ Ok secret)) (old : Option (List ℕ)) where
  -- what the file of a secret requires
  calls : (o : Result Conclusion Fault) (text : List ℕ) → EndsKey content kind secret o text → CallsFor (ends_key content name kind) files o text
  calls o text h =
      over files (λ folder. secret_at folder name ≡ Ok secret) (λ folder. ends_key content name kind folder o text)
      (λ folder is. reads (secret_at folder name) secret (EndsKey content kind) o text is h) read

  -- a key that is not made
  pub key_refused : (f : Fault) → WhyNot DiskFailed (EndsKey content kind secret) f → Promises (ends_key content name kind) TellsNone DiskFailed files l l' old old k k' (Err f)
  key_refused f h = refused (ends_key content name kind) TellsNone DiskFailed files l l' k k' old (EndsKey content kind secret) calls f h

  -- the line of a key that was made
  pub key_told : (new : Option (List ℕ)) (o : Result Conclusion Fault) (text line : List ℕ) → text ≡ line → EndsKey content kind secret (Ok Done) line → Writes (Ok Done) text old new k k' o
      → Promises (ends_key content name kind) TellsNone DiskFailed files l l' old new k k' o
  key_told new o text line same is w = written_done (ends_key content name kind) TellsNone DiskFailed files l l' k k' old (EndsKey content kind secret) calls new Done o text line same is w

-- the key of the secret that was read is the key of the file's secret
pub makes_key : {D : Type 0} (g : Ghosts D) (disk : D) (files : Option Folder) (name : List ℕ) (kind : ℕ) (secret : List ℕ) → IfSome files (λ folder. secret_at folder name ≡ Ok secret)
    → EachImage g disk (IsBlank (key_from kind secret)) → EachImage g disk HasDistinctNames → MakesKey g disk files name kind
makes_key g disk files name kind secret read blank names = record { secret = secret; of_file = read; blank = blank; names = names }

-- a fact that holds whatever a call returns
pub on_any : {T E : Type 0} (r : Result T E) (P : Type 0) → P → OnOk r P
on_any (Ok x) P p = p
on_any (Err e) P p = tt

-- work that was done is not a refusal; nor is work whose text the sink did not take
pub written_stays : {D : Type 0} (g : Ghosts D) (before now : D) (text : List ℕ) (old new : Option (List ℕ)) (k k' : ℕ) (o : Result Conclusion Fault) → Writes (Ok Done) text old new k k' o → IfErr o (StaysRefused g before now)
written_stays g before now text old new k k' o w = elim w [
  | inl h ↦ subst (λ (r : Result Conclusion Fault). IfErr r (StaysRefused g before now)) (sym h.0) tt
  | inr h ↦ subst (λ (r : Result Conclusion Fault). IfErr r (StaysRefused g before now)) (sym h.0) tt
]

-- the line of an opened desk is that of the disk's contents
pub desk_told : (content : Option (List ℕ)) (desk : Desk) (left : ℕ) (text : List ℕ) → HasBlocks content desk → IsSound desk → ForSome content (λ c. left ≡ keys_left c desk.base)
    → text ≡ desk_line (public_key desk.key) left (slots_of desk.key.kind - 1) → ForSome content (λ c. IsDeskLine c text)
desk_told content desk left text blocks sound counted line c is =
    let areas = (blocks c is).1 in
    record {
      key = desk.key;
      on_disk = key_on desk c sound areas;
      line = line ∙ ap (λ (n : ℕ). desk_line (public_key desk.key) n (slots_of desk.key.kind - 1)) (counted c is ∙ ap (λ (b : ℕ). keys_left c b) (sym areas.based));
    }

module _ (content : Option (List ℕ)) (DiskFailed : Type 0) (k k' : ℕ) (old : Option (List ℕ)) where
  any : (files : Option Folder) (o : Result Conclusion Fault) (text : List ℕ) → EndsDesk content o text → CallsFor (λ folder. EndsDesk content) files o text
  any files o text h = over_any files (λ folder. EndsDesk content o text) (λ folder. h)

  -- a desk that does not open
  pub desk_refused : (f : Fault) → WhyNot DiskFailed (EndsOpening content NoEnd) f → PromisesWithoutFiles (EndsDesk content) DiskFailed old old k k' (Err f)
  desk_refused f h files faults =
      refused (λ folder. EndsDesk content) TellsNone DiskFailed files faults faults k k' old (EndsDesk content) (any files) f
      (why_map DiskFailed DiskFailed (EndsOpening content NoEnd) (EndsDesk content) (λ x. x) (shut content (TellsDesk content)) f h)

  -- the line of a desk
  pub desk_written : (new : Option (List ℕ)) (o : Result Conclusion Fault) (text line : List ℕ) → ForSome content IsUsable → ForSome content (λ c. IsDeskLine c line) → text ≡ line → Writes (Ok Done) text old new k k' o
      → PromisesWithoutFiles (EndsDesk content) DiskFailed old new k k' o
  desk_written new o text line usable is same w files faults =
      written_done (λ folder. EndsDesk content) TellsNone DiskFailed files faults faults k k' old (EndsDesk content) (any files) new Done o text line same (inr (inr (usable, is))) w
