-- The results of the steps of an audit and of its files, for any request.
use Rattle.std.proofs.Common.{◌≡◌, ◌⊎◌, inl, inr, ℕ, List, [], Some, length, sym, ap, subst, ◌∙◌, IfSome, IfOk, IfErr, arith}
use Rattle.std.specs.declared.option.Option.{Option}
use Rattle.std.specs.declared.option.Option.TheVariants.{None}
use Rattle.std.specs.declared.result.Result.{Result}
use Rattle.std.specs.declared.result.Result.TheVariants.{Ok, Err}
use Rattle.std.specs.Option.{ForSome}
use Rattle.road_io.specs.declared.disk.Disk.{Ghosts}
use Rattle.road_io.specs.Disk.{Narrows, Stays}
use Rattle.road_io.specs.Moments.{EachImage, AtEachMoment}
use Rattle.road_io.specs.Contents.{Folder}
use Rattle.lms_tree.specs.Signatures.{public_key}
use Rattle.lms_tree.specs.declared.links.Link.{Link}
use Rattle.desk_areas.specs.Layout.{base_of}
use Rattle.desk_areas.proofs.Areas.{open_down}
use Rattle.desk_areas.proofs.Growth.{open_upto}
use Rattle.key_desk.specs.Desk.{key_of, IsSound, HasAreas}
use Rattle.key_desk.proofs.ReadGood.{key_is}
use Rattle.desk_look.specs.Forgeries.{AreSigned, Forges, IsForgedLink, IsForgedHeader}
use Rattle.desk_look.specs.Looks.{IsKeyFrom, Look}
use Rattle.desk_look.specs.declared.forgery.Forgery.{Forgery}
use Rattle.key_desk.specs.declared.desk.Desk.{Desk}
use Rattle.proof_octets.specs.declared.publication.Publication.{Publication}
use Rattle.command_files.specs.Reading.{octets_at, publication_at, chain_at, IsOfFiles}
use Rattle.command_files.specs.HexFiles.{public_key_at}
use Rattle.command_files.proofs.Written.{moved}
use Rattle.std.specs.Io.KnownBytes.{Appends}
use Rattle.std.proofs.lemmas.List.{append-nil}
use Rattle.command_files.specs.Endings.{Writes, MayEnd, TellsNone}
use Rattle.command_files.specs.declared.fault.Fault.{Fault}
use Rattle.command_files.specs.declared.fault.Fault.TheVariants.{Sink, OtherPublication}
use Rattle.command_files.specs.declared.ended.Conclusion.{Conclusion}
use Rattle.command_desks.specs.Opening.{HasBlocks}
use Rattle.audit_commands.specs.Owners.{IsOwnersKey}
use Rattle.audit_commands.specs.Headline.{RestsOn, WritesFindings}

-- ---- the desk's keys

-- a desk's key is a key of each image that has its areas
pub own_in : (desk : Desk) (c : List ℕ) → IsSound desk → HasAreas desk c → (key : List ℕ) → IsKeyFrom desk 0 key → IsOwnersKey c key
own_in desk c sound areas key from = record {
  area = from.area;
  is_open = open_down c from.area (length desk.earlier) from.upto areas.current.is_open;
  is = from.is ∙ ap public_key (sym (key_is (key_of desk from.area) (base_of c from.area) c (areas.keys from.area from.upto) (sound.named from.area from.upto)));
}

-- and in the other direction
owned_by : (desk : Desk) (c : List ℕ) → IsSound desk → HasAreas desk c → (key : List ℕ) → IsOwnersKey c key → IsKeyFrom desk 0 key
owned_by desk c sound areas key h =
    let upto = open_upto c (length desk.earlier) h.area areas.current h.is_open in
    record { area = h.area; from = omega arith; upto = upto; is = h.is ∙ ap public_key (key_is (key_of desk h.area) (base_of c h.area) c (areas.keys h.area upto) (sound.named h.area upto)) }

module _ (content : Option (List ℕ)) (desk : Desk) (key : List ℕ) (blocks : HasBlocks content desk) (sound : IsSound desk) where
  pub own : IsKeyFrom desk 0 key → ForSome content (λ c. IsOwnersKey c key)
  own from c is = own_in desk c sound (blocks c is).1 key from

  pub not_own : ¬ IsKeyFrom desk 0 key → ForSome content (λ c. ¬ IsOwnersKey c key)
  not_own n c is h = n (owned_by desk c sound (blocks c is).1 key h)

-- ---- looks

-- the result of one look is also the result of another look that sees as much
module _ (look more : Look) (owns : (key : List ℕ) → look.Owns key → more.Owns key) (signs : (text : List ℕ) → look.Signed text → more.Signed text) (lacks : (text : List ℕ) → look.Unsigned text → more.Unsigned text) where
  pub signed_more : (links : List Link) (header : List ℕ) → AreSigned look links header → AreSigned more links header
  signed_more links header h = record { linked = λ n lt. signs _ (h.linked n lt); sealed = signs _ h.sealed }

  first_more : (key : List ℕ) (links : List Link) (header signature : List ℕ) (f : Forgery) → IsForgedLink look key links f ⊎ IsForgedHeader look key links header signature f
      → IsForgedLink more key links f ⊎ IsForgedHeader more key links header signature f
  first_more key links header signature f (inl h) = inl (record { number = h.number; known = h.known; before = λ n lt. signs _ (h.before n lt); unsigned = lacks _ h.unsigned; is = h.is })
  first_more key links header signature f (inr h) = inr (record { linked = λ n lt. signs _ (h.linked n lt); unsigned = lacks _ h.unsigned; reached = h.reached; upto = h.upto; is = h.is })

  pub forges_more : (key : List ℕ) (links : List Link) (header signature : List ℕ) (f : Forgery) → Forges look key links header signature f → Forges more key links header signature f
  forges_more key links header signature f h = record {
    first = first_more key links header signature f h.first;
    forgery = record { own = owns _ h.forgery.own; good = h.forgery.good; unsigned = lacks _ h.forgery.unsigned };
  }

-- a fact about each image holds about each image afterwards, since no image changes
pub later : {D : Type 0} (g : Ghosts D) (mid new : D) (P : List ℕ → Type 0) → AtEachMoment g mid new Stays → EachImage g mid P → EachImage g new P
later g mid new P m h i at = let w = m.each (g.clock new) i m.later (omega arith) at in subst P (sym w.2) (h w.0 w.1)

-- ---- the results of functions

-- a consequence of a value holds if the value exists
pub if_ok : {T E : Type 0} (r : Result T E) (P Q : T → Type 0) → ((x : T) → P x → Q x) → IfOk r P → IfOk r Q
if_ok (Ok x) P Q f h = f x h
if_ok (Err e) P Q f h = tt

pub if_err : {T E : Type 0} (r : Result T E) (P Q : E → Type 0) → ((x : E) → P x → Q x) → IfErr r P → IfErr r Q
if_err (Ok x) P Q f h = tt
if_err (Err e) P Q f h = f e h

-- ---- the files

-- the octets of a reply, as they are read back
pub reply_as : (before files : Option Folder) (name a b : List ℕ) → Narrows before files → a ≡ b → IfSome before (λ folder. octets_at folder name ≡ Ok b) → IfSome files (λ folder. octets_at folder name ≡ Ok a)
reply_as before files name a b narrows same h =
    subst (λ xs. IfSome files (λ folder. octets_at folder name ≡ Ok xs)) (sym same) (moved before files (λ folder. octets_at folder name ≡ Ok b) narrows h)

-- the links of a chain, as they are read back
pub chain_as : (files : Option Folder) (name : Option (List ℕ)) (a b : List Link) → a ≡ b → IfSome files (λ folder. chain_at folder name ≡ Ok b) → IfSome files (λ folder. chain_at folder name ≡ Ok a)
chain_as files name a b is h = subst (λ (xs : List Link). IfSome files (λ folder. chain_at folder name ≡ Ok xs)) (sym is) h

-- if nothing is appended, nothing is written
appends_none : (old : Option (List ℕ)) → Appends old old []
appends_none None = tt
appends_none (Some xs) = sym (append-nil xs)

-- the ends that need no support
abbrev pub RestsOnNone : Fault → Type 0
RestsOnNone OtherPublication = ⊥
RestsOnNone fault = Unit {0}

pub nothing_found : {D : Type 0} (g : Ghosts D) (disk : D) (Brings : List ℕ → List ℕ → List ℕ → Type 0) (Hashed : Publication → List ℕ → List ℕ → List ℕ → Type 0) (key_name publication_name reply_name : List ℕ) (chain_name : Option (List ℕ)) (files : Option Folder) (old new : Option (List ℕ)) (f : Fault)
    → RestsOnNone f → WritesFindings g disk Brings Hashed key_name publication_name reply_name chain_name files old new (Err f)
nothing_found g disk Brings Hashed key_name publication_name reply_name chain_name None old new f none = tt
nothing_found g disk Brings Hashed key_name publication_name reply_name chain_name (Some folder) old new OtherPublication none = absurd none
nothing_found g disk Brings Hashed key_name publication_name reply_name chain_name (Some folder) old new f none = tt

-- a fault of a file that was loaded is such an end
pub files_rest_on_none : (f : Fault) → IsOfFiles f → RestsOnNone f
files_rest_on_none OtherPublication h = absurd h
files_rest_on_none f h = tt

-- the support of the line
module _ (files : Option Folder) (key_name publication_name reply_name : List ℕ) (chain_name : Option (List ℕ)) (key octets : List ℕ) (links : List Link) (publication : Publication)
    (key_read : IfSome files (λ folder. public_key_at folder key_name ≡ Ok key)) (publication_read : IfSome files (λ folder. publication_at folder publication_name ≡ Ok publication)) (reply_read : IfSome files (λ folder. octets_at folder reply_name ≡ Ok octets)) (chain_read : IfSome files (λ folder. chain_at folder chain_name ≡ Ok links)) where
  pub found : {D : Type 0} (g : Ghosts D) (disk : D) (Brings : List ℕ → List ℕ → List ℕ → Type 0) (Hashed : Publication → List ℕ → List ℕ → List ℕ → Type 0) (old new : Option (List ℕ)) (k k' : ℕ) (end o : Result Conclusion Fault) (t : List ℕ) → RestsOn g disk (Brings octets) (Hashed publication octets) key links end t → MayEnd TellsNone end → Writes end t old new k k' o
      → WritesFindings g disk Brings Hashed key_name publication_name reply_name chain_name files old new o
  found g disk Brings Hashed old new k k' end o t rests may (inr w) = subst (λ (x : Result Conclusion Fault). WritesFindings g disk Brings Hashed key_name publication_name reply_name chain_name files old new x) (sym w.0) (nothing_found g disk Brings Hashed key_name publication_name reply_name chain_name files old new Sink tt)
  found g disk Brings Hashed old new k k' end o t rests may (inl w) = subst (λ (x : Result Conclusion Fault). WritesFindings g disk Brings Hashed key_name publication_name reply_name chain_name files old new x) (sym w.0) (by end may rests files key_read publication_read reply_read chain_read)
    where
      by : (end : Result Conclusion Fault) → MayEnd TellsNone end → RestsOn g disk (Brings octets) (Hashed publication octets) key links end t → (files : Option Folder) → IfSome files (λ folder. public_key_at folder key_name ≡ Ok key) → IfSome files (λ folder. publication_at folder publication_name ≡ Ok publication) → IfSome files (λ folder. octets_at folder reply_name ≡ Ok octets) → IfSome files (λ folder. chain_at folder chain_name ≡ Ok links)
          → WritesFindings g disk Brings Hashed key_name publication_name reply_name chain_name files old new end
      by end may rests None a b c d = tt
      by (Err OtherPublication) may rests (Some folder) a b c d = absurd may
      by (Err e) may rests (Some folder) a b c d = tt
      by (Ok v) may rests (Some folder) a b c d = record { key = key; publication = publication; octets = octets; links = links; text = t; key_read = a; publication_read = b; reply_read = c; chain_read = d; written = w.1; rests = rests }

  pub found_other : {D : Type 0} (g : Ghosts D) (disk : D) (Brings : List ℕ → List ℕ → List ℕ → Type 0) (Hashed : Publication → List ℕ → List ℕ → List ℕ → Type 0) (old : Option (List ℕ)) (f : Fault) → RestsOn g disk (Brings octets) (Hashed publication octets) key links (Err f) [] → WritesFindings g disk Brings Hashed key_name publication_name reply_name chain_name files old old (Err f)
  found_other g disk Brings Hashed old f rests = by f rests files key_read publication_read reply_read chain_read
    where
      by : (f : Fault) → RestsOn g disk (Brings octets) (Hashed publication octets) key links (Err f) [] → (files : Option Folder) → IfSome files (λ folder. public_key_at folder key_name ≡ Ok key) → IfSome files (λ folder. publication_at folder publication_name ≡ Ok publication) → IfSome files (λ folder. octets_at folder reply_name ≡ Ok octets) → IfSome files (λ folder. chain_at folder chain_name ≡ Ok links)
          → WritesFindings g disk Brings Hashed key_name publication_name reply_name chain_name files old old (Err f)
      by f rests None a b c d = tt
      by OtherPublication rests (Some folder) a b c d = record { key = key; publication = publication; octets = octets; links = links; text = []; key_read = a; publication_read = b; reply_read = c; chain_read = d; written = appends_none old; rests = rests }
      by f rests (Some folder) a b c d = tt
