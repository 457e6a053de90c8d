-- How `publish` ends.
use Rattle.std.proofs.Common.{◌≡◌, ◌≢◌, ◌⊎◌, inl, inr, ℕ, ◌+◌, ◌<◌, ◌≤◌, true, arith, List, [], Some, length, refl, sym, subst, ◌∙◌, IfSome, IfErr}
use Rattle.std.specs.declared.option.Option.{Option}
use Rattle.std.specs.declared.result.Result.{Result}
use Rattle.std.specs.declared.result.Result.TheVariants.{Ok, Err}
use Rattle.std.specs.Option.{ForSome}
use Rattle.std.specs.Io.KnownBytes.{Appends}
use Rattle.sha2.specs.Sha256.{sha256}
use Rattle.road_io.specs.declared.disk.Disk.{Ghosts}
use Rattle.road_io.specs.Disk.{Stays}
use Rattle.road_io.specs.Moments.{Image, AtEachMoment, still_told}
use Rattle.road_io.specs.Contents.{Folder, AppendsFront}
use Rattle.road_io.proofs.MomentLaws.{continued}
use Rattle.road_map.specs.declared.parts.Parts.{Parts}
use Rattle.book_model.specs.declared.settings.Settings.{Settings}
use Rattle.lms_tree.specs.Signatures.{KeyOf}
use Rattle.desk_areas.specs.Layout.{slots_of, gate_of, IsSigned}
use Rattle.desk_areas.specs.declared.area.Count.TheVariants as counts
use Rattle.key_desk.specs.Desk.{count_at, slot_here, Fits, IsUsedUp}
use Rattle.key_desk.proofs.Counts.{count_here, own_here, key_here}
use Rattle.key_desk.proofs.Successors.{slots_on}
use Rattle.key_desk.specs.Stands.{KeepsStanding, SameKeys}
use Rattle.key_desk.proofs.Standing.{standing, standing_same}
use Rattle.key_desk.specs.declared.desk.Desk.{Desk}
use Rattle.proof_octets.specs.declared.header.Header.{Header}
use Rattle.proof_octets.specs.Headers.{header_text}
use Rattle.proof_octets.specs.declared.publication.Publication.{Publication}
use Rattle.proof_octets.specs.Publications.{publication_text}
use Rattle.route_owner.specs.Published.{slot_of, IsPublication, IsSealed, SignsLowest, SignsLowestHeader}
use Rattle.route_server.specs.Headers.{HasHeader, Makes}
use Rattle.route_server.specs.declared.errors.BuildError.{BuildError}
use Rattle.command_files.specs.Reading.{IsOfFiles, parts_at}
use Rattle.command_files.specs.Endings.{Ending, EndsReading, NoEnd, Promises, WhyNot, Writes}
use Rattle.command_files.specs.declared.fault.Fault.{Fault}
use Rattle.command_files.specs.declared.fault.Fault.TheVariants.{Sink, Disk, KeysUsedUp, MirrorLost}
use Rattle.command_files.specs.declared.ended.Conclusion.{Conclusion}
use Rattle.command_files.specs.declared.ended.Conclusion.TheVariants.{Done}
use Rattle.command_files.proofs.Written.{CallsFor, over, reads, refused, written_done, lost, why_map}
use Rattle.desk_areas.specs.Faults.{IsUsable}
use Rattle.command_desks.specs.Opening.{EndsOpening, IsOpened}
use Rattle.command_desks.proofs.Openings.{shut, key_on}
use Rattle.command_books.specs.Installing.{EndsBuilding, fault_of_build}
use Rattle.command_books.proofs.Installings.{no_book}
use Rattle.owner_commands.proofs.NameLemmas.{held_after, names_after}
use Rattle.owner_commands.specs.Publishing.{IsSignedFrom, AllSpent, EndsSigning, EndsPublish, TellsLost, ends_publish}
use Rattle.owner_commands.specs.Losing.{LosesWhatFails}
use Rattle.owner_commands.specs.Signing.{IsSealedOnDisk, SignsAtMostHeader, SignsAtMostOne, StaysRefused, WroteSealed, SealsWhatItWrites}

module _ {D : Type 0} (g : Ghosts D) (old mid new : D) where
  -- a slot before the last that counts as spent on the desk is spent on the disk
  spent_here : (desk : Desk) → Fits g desk mid → desk.is_open ≡ true → (c : List ℕ) → Image g mid c → (number : ℕ) → number + 1 < slots_of desk.key.kind → count_at desk number ≡ counts.Spent
      → 0 < gate_of c (slot_here desk number)
  spent_here desk fits opened c image number early spent =
      let there = fits.spent opened c c image image (slot_here desk number) (own_here desk number (omega (arith, early))) (count_here desk (slot_here desk number) refl ∙ spent) in
      there.open_gate

  -- a slot is free or spent, so a slot that is not free is spent
  not_free : (desk : Desk) → ((s : ℕ) → (count_at desk s ≡ counts.Free) ⊎ (count_at desk s ≡ counts.Spent)) → (number : ℕ) → count_at desk number ≢ counts.Free → count_at desk number ≡ counts.Spent
  not_free desk either number taken = elim (either number) [ inl free ↦ absurd (taken free) | inr spent ↦ spent ]

  -- the publication over the opened desk is the one that was promised over the disk
  pub sealed_on_disk : (desk : Desk) (parts : Parts) (s : Settings) (p : Publication) → ((c : List ℕ) → g.content mid ≡ Some c → Image g mid c) → ((c : List ℕ) → still_told g old new ≡ Some c → g.content mid ≡ Some c)
      → IsOpened g old mid desk → ((number : ℕ) → number < slot_of p → count_at desk number ≢ counts.Free)
      → IsPublication sha256 desk.key parts s p → IsSealed g mid new (length desk.earlier) p → AtEachMoment g mid new SameKeys → IsSealedOnDisk g old new parts s p
  sealed_on_disk desk parts s p reads told o lowest is on_disk keys = record {
    header = p.header;
    of_book = is.has_header;
    usable = λ c at. o.usable c (told c at);
    is = record { of_parts = is.of_parts; of_settings = is.of_settings; of_header = refl; signed = signed; fits = is.fits };
    on_disk = record {
      area = length desk.earlier;
      key = desk.key;
      current = on_disk.current;
      held = λ i now. held_after g desk mid new o.fits keys on_disk.current i now (length desk.earlier) (omega arith) ∙ key_here desk (length desk.earlier) refl;
      names = names_after g desk mid new o.fits keys on_disk.current;
      exact = is.exact;
      early = on_disk.early;
      was_free = λ c at. on_disk.was_free c (reads c (told c at));
      stands = on_disk.stands;
    };
  }
    where
      signed : ForSome (still_told g old new) (λ c. IsSignedFrom c p.header p)
      signed c at = record {
        key = desk.key;
        on_disk = key_on desk c o.fits.sound (o.areas c (told c at)).1;
        good = is.signed.good;
        exact = is.exact;
        slot = is.slot;
        unused = on_disk.was_free c (reads c (told c at));
        lowest = λ number below. spent_here desk o.fits o.is_open c (reads c (told c at)) number (omega (arith, below, is.slot)) (not_free desk o.counts number (lowest number below));
      }

  -- if a desk has no free slot except the last, all others are spent on its disk
  pub all_spent : (desk : Desk) → Fits g desk mid → desk.is_open ≡ true → ((s : ℕ) → (count_at desk s ≡ counts.Free) ⊎ (count_at desk s ≡ counts.Spent)) → IsUsedUp desk
      → ((c : List ℕ) → g.content mid ≡ Some c → Image g mid c) → ((c : List ℕ) → still_told g old new ≡ Some c → g.content mid ≡ Some c) → ForSome (still_told g old new) AllSpent
  all_spent desk fits opened either none reads told c is =
      let image : Image g mid c = reads c (told c is) in
      let areas = fits.areas c image in
      record {
        area = length desk.earlier;
        current = areas.current;
        spent = λ number lt.
            let early : number + 1 < slots_of desk.key.kind = omega (arith, lt, slots_on desk c areas) in
            spent_here desk fits opened c image number early (not_free desk either number (none number early));
      }

  -- opening changes no image, and signing changes at most one slot
  pub signs_after : (parts : Parts) (s : Settings) → AtEachMoment g old mid Stays → SignsLowestHeader g mid new sha256 parts s → SignsAtMostHeader g old new parts s
  signs_after parts s opening signing = inr (record {
    slot = signing.slot;
    header = signing.header;
    of_book = signing.of_book;
    each = continued g old mid new Stays _ Step opening signing.each (λ d i at is. inl is) there;
  })
    where
      Step : List ℕ → List ℕ → Type 0
      Step d i = (i ≡ d) ⊎ SignsLowest signing.slot (header_text signing.header) d i

      there : (d e i : List ℕ) → Image g old d → Image g mid e → Stays d e → Step e i → Step d i
      there d e i at after is step = subst (λ x. Step x i) is step

  -- so signed pairs remain signed
  pub stands_after : (parts : Parts) (s : Settings) → SignsAtMostHeader g old new parts s → KeepsStanding g old new
  stands_after parts s (inl stays) = standing_same g old new stays
  stands_after parts s (inr signs) = standing g old new (λ d i. (i ≡ d) ⊎ SignsLowest signs.slot (header_text signs.header) d i) signs.each
      (λ d i h t text signed. elim h [ inl is ↦ subst (λ x. IsSigned x t text) (sym is) signed | inr one ↦ one.signs.keeps t text signed ])

-- ---- why nothing is published

-- a desk that does not open
pub not_opened : (DiskFailed : Type 0) (content : Option (List ℕ)) (s : Settings) (parts : Parts) (f : Fault) → WhyNot DiskFailed (EndsOpening content NoEnd) f → WhyNot DiskFailed (EndsPublish content s parts) f
not_opened DiskFailed content s parts =
    why_map DiskFailed DiskFailed (EndsOpening content NoEnd) (EndsPublish content s parts) (λ x. x) (shut content (EndsBuilding parts s (EndsSigning content parts s)))

-- parts and settings without a book, after a desk that opened
pub not_built : (DiskFailed : Type 0) (content : Option (List ℕ)) (s : Settings) (parts : Parts) (e : BuildError) → ForSome content IsUsable → Makes sha256 sha256 parts s (Err e)
    → WhyNot DiskFailed (EndsPublish content s parts) (fault_of_build e)
not_built DiskFailed content s parts e usable h =
    why_map DiskFailed DiskFailed (EndsBuilding parts s (EndsSigning content parts s)) (EndsPublish content s parts) (λ x. x) (λ o text is. inr (inr (usable, is)))
    (fault_of_build e) (no_book DiskFailed parts s (EndsSigning content parts s) e h)

-- a key without a remaining one-time key
pub used_up : (content : Option (List ℕ)) (s : Settings) (parts : Parts) (h : Header) → ForSome content IsUsable → ForSome content AllSpent → HasHeader sha256 sha256 parts s h → EndsPublish content s parts (Err KeysUsedUp) []
used_up content s parts h usable spent has = inr (inr (usable, record { made = Ok h; makes = has; follows = (spent, refl) }))

-- ---- the command

module _ (files : Option Folder) (name : List ℕ) (content : Option (List ℕ)) (s : Settings) (parts : Parts) (DiskFailed : Type 0) (l l' k k' : ℕ) (read : IfSome files (λ folder. parts_at folder name ≡ Ok parts)) (old : Option (List ℕ)) where
  -- what the road file requires
  calls : (o : Result Conclusion Fault) (text : List ℕ) → EndsPublish content s parts o text → CallsFor (ends_publish content name s) files o text
  calls o text h =
      over files (λ folder. parts_at folder name ≡ Ok parts) (λ folder. ends_publish content name s folder o text)
      (λ folder is. reads (parts_at folder name) parts (EndsPublish content s) o text is h) read

  -- a reason why no publication is made
  pub publish_refused : (f : Fault) → WhyNot DiskFailed (EndsPublish content s parts) f → Promises (ends_publish content name s) TellsLost DiskFailed files l l' old old k k' (Err f)
  publish_refused f h = refused (ends_publish content name s) TellsLost DiskFailed files l l' k k' old (EndsPublish content s parts) calls f h

  module _ {D : Type 0} (g : Ghosts D) (d e : D) (is_content : still_told g d e ≡ content) (p : Publication) (t : IsSealedOnDisk g d e parts s p) (new : Option (List ℕ)) where
    ended : (c : Option (List ℕ)) → still_told g d e ≡ c → EndsPublish c s parts (Ok Done) (publication_text p)
    ended c is = subst (λ c. EndsPublish c s parts (Ok Done) (publication_text p)) is (inr (inr (t.usable, record { made = Ok t.header; makes = t.of_book; follows = (p, t.is, refl) })))

    -- a publication that was written
    pub published : (o : Result Conclusion Fault) → Writes (Ok Done) (publication_text p) old new k k' o → Promises (ends_publish content name s) TellsLost DiskFailed files l l' old new k k' o
    published o w =
        written_done (ends_publish content name s) TellsLost DiskFailed files l l' k k' old (EndsPublish content s parts) calls new Done o (publication_text p) (publication_text p) refl (ended content is_content) w

    -- and one that was written although a mirror was lost
    pub published_lost : Appends old new (publication_text p) → Promises (ends_publish content name s) TellsLost DiskFailed files l l' old new k k' (Err MirrorLost)
    published_lost app = lost (ends_publish content name s) TellsLost DiskFailed files l l' k k' old (EndsPublish content s parts) calls new (publication_text p) (ended content is_content) tt app

-- if the signing failed, nothing was written
pub seals_none : {D : Type 0} (g : Ghosts D) (d e : D) (DiskFailed : Type 0) (E : Ending) (old new : Option (List ℕ)) (f : Fault) → WhyNot DiskFailed E f → SealsWhatItWrites g d e old new (Err f)
seals_none g d e DiskFailed E old new Sink h = absurd h
seals_none g d e DiskFailed E old new MirrorLost h = absurd h
seals_none g d e DiskFailed E old new f h = tt

-- if nothing was written, no mirror is gone
module _ {M : Type 0} (octets : M → Option (List ℕ)) (label handed puts room faults : M → ℕ) {D : Type 0} (g : Ghosts D) (d e : D) (old new : Option (List ℕ)) (mirrors kept gone : List M) where
  pub loses_none : (DiskFailed : Type 0) (E : Ending) (f : Fault) → WhyNot DiskFailed E f → LosesWhatFails octets label handed puts room faults g d e old new mirrors kept gone gone (Err f)
  loses_none DiskFailed E Sink h = absurd h
  loses_none DiskFailed E MirrorLost h = absurd h
  loses_none DiskFailed E f h = record { sealed = tt; still = refl }

  pub loses_none_unread : (f : Fault) → IsOfFiles f → LosesWhatFails octets label handed puts room faults g d e old new mirrors kept gone gone (Err f)
  loses_none_unread Sink h = absurd h
  loses_none_unread MirrorLost h = absurd h
  loses_none_unread f h = record { sealed = tt; still = refl }

-- one slot is signed by the header of the file's parts
pub signs_file : {D : Type 0} (g : Ghosts D) (old new : D) (files : Option Folder) (name : List ℕ) (s : Settings) (parts : Parts) → IfSome files (λ folder. parts_at folder name ≡ Ok parts)
    → SignsAtMostHeader g old new parts s → SignsAtMostOne g old new files name s
signs_file g old new files name s parts read (inl stays) = inl stays
signs_file g old new files name s parts read (inr signs) = inr (record { parts = parts; of_file = read; one = signs })

-- ---- what a refusal leaves unchanged

-- if no image changes, none does for any fault
pub stays_refused : {D : Type 0} (g : Ghosts D) (old new : D) (f : Fault) → AtEachMoment g old new Stays → StaysRefused g old new f
stays_refused g old new Sink m = tt
stays_refused g old new Disk m = tt
stays_refused g old new MirrorLost m = tt
stays_refused g old new f m = m

-- opening the desk changes no image, and then nothing was done
pub stays_opened : {D : Type 0} (g : Ghosts D) (old mid new : D) (f : Fault) → AtEachMoment g old mid Stays → new ≡ mid → StaysRefused g old new f
stays_opened {D = D} g old mid new f m same = stays_refused g old new f (subst (λ (d : D). AtEachMoment g old d Stays) (sym same) m)
