-- The definitions of the owner's guarantees, evaluated for some results. A weakened definition fails here.
use Rattle.std.proofs.Common.{◌≡◌, ◌≢◌, ◌⊎◌, inl, inr, ℕ, suc, ◌+◌, ◌-◌, ◌<◌, ◌≤◌, List, [], ◌∷◌, length, arith, refl, sym, ap, ◌∙◌, subst}
use Rattle.std.specs.declared.option.Option.{Option}
use Rattle.std.specs.declared.option.Option.TheVariants.{None, Some}
use Rattle.std.specs.declared.result.Result.{Result}
use Rattle.std.specs.declared.result.Result.TheVariants.{Ok, Err}
use Rattle.std.specs.Io.KnownBytes.{Appends, Keeps}
use Rattle.road_io.specs.declared.disk.Disk.{Ghosts}
use Rattle.road_io.specs.Disk.{Stays}
use Rattle.road_io.specs.Moments.{EachImage, AtEachMoment}
use Rattle.road_io.specs.Contents.{Folder, AppendsFront}
use Rattle.proof_octets.specs.Publications.{publication_text}
use Rattle.publication_out.specs.Sent.{pieces_in}
use Rattle.mirror_out.specs.Mirrors.{Mirrors}
use Rattle.road_map.specs.declared.error.MapError.{MapError}
use Rattle.road_reader.specs.declared.error.RoadError.{RoadError}
use Rattle.book_model.specs.declared.settings.PlanError.{PlanError}
use Rattle.command_files.specs.Endings.{IsSilent}
use Rattle.command_files.specs.declared.fault.Fault.{Fault}
use Rattle.command_files.specs.declared.fault.Fault.TheVariants.{Words, Missing, Road, Map, Plan, KeysUsedUp, Memory, NoKey, BadBlock, Disk, Sink, MirrorLost}
use Rattle.command_files.specs.declared.ended.Conclusion.{Conclusion}
use Rattle.command_files.specs.declared.ended.Conclusion.TheVariants.{Done}
use Rattle.desk_areas.specs.Blank.{IsBlank}
use Rattle.desk_areas.specs.Keys.{key_from}
use Rattle.desk_areas.specs.Layout.{slots_of, base_of, place_in, gate_of, IsOpen, IsAreaOpen, IsSigned}
use Rattle.lms_tree.specs.Signatures.{KeyOf, public_key, sealed}
use Rattle.lms_tree.specs.Links.{IsLink, link_text}
use Rattle.key_desk.specs.Stands.{key_in}
use Rattle.proof_octets.specs.declared.publication.Publication.{Publication}
use Rattle.proof_octets.specs.Headers.{header_text}
use Rattle.command_files.specs.HexFiles.{secret_at}
use Rattle.owner_commands.specs.Names.{HasDistinctNames}
use Rattle.owner_commands.specs.OwnerKey.{KeepsKey, MakesByFile}
use Rattle.owner_commands.specs.NextKey.{AddsKey, IsNextKey}
use Rattle.owner_commands.specs.Publishing.{TellsLost}
use Rattle.owner_commands.specs.Signing.{StaysRefused, Wrote, WroteSealed, SealsWhatItWrites, SealsWhatItMirrors, SpreadSealed}
use Rattle.owner_commands.specs.StandingKeys.{KeysStand, last_of, next_text, WroteChain, ChainsWhatItWrites}
use Rattle.owner_commands.specs.Releases.{Release, header_release, link_release, AreApart, AllApart, AllStand}
use Rattle.octet_text.specs.Want.{no_memory}

-- ---- a refused command changes no image

module _ {D : Type 0} (g : Ghosts D) (old new : D) where
  at_no_file : StaysRefused g old new Missing → AtEachMoment g old new Stays
  at_no_file h = h

  at_road_fault : (e : RoadError) → StaysRefused g old new (Road e) → AtEachMoment g old new Stays
  at_road_fault e h = h

  at_map_fault : (e : MapError) → StaysRefused g old new (Map e) → AtEachMoment g old new Stays
  at_map_fault e h = h

  at_no_book : (e : PlanError) → StaysRefused g old new (Plan e) → AtEachMoment g old new Stays
  at_no_book e h = h

  at_used_up : StaysRefused g old new KeysUsedUp → AtEachMoment g old new Stays
  at_used_up h = h

  at_short_memory : StaysRefused g old new (Memory no_memory) → AtEachMoment g old new Stays
  at_short_memory h = h

  at_no_key : StaysRefused g old new NoKey → AtEachMoment g old new Stays
  at_no_key h = h

  at_bad_block : StaysRefused g old new BadBlock → AtEachMoment g old new Stays
  at_bad_block h = h

  -- after a missing file, or if memory ran out, a key changes no image, and neither does a next key
  no_key_without_a_file : (files : Option Folder) (secret : List ℕ) (kind : ℕ) → KeepsKey g old new files secret kind (Err Missing) → AtEachMoment g old new Stays
  no_key_without_a_file files secret kind h = h.untouched

  no_key_without_memory : (files : Option Folder) (secret : List ℕ) (kind : ℕ) → KeepsKey g old new files secret kind (Err (Memory no_memory)) → AtEachMoment g old new Stays
  no_key_without_memory files secret kind h = h.untouched

  no_next_key_without_memory : (files : Option Folder) (name : List ℕ) (kind : ℕ) → AddsKey g old new files name kind (Err (Memory no_memory)) → AtEachMoment g old new Stays
  no_next_key_without_memory files name kind h = h.untouched

  -- if the disk failed, an image with an open gate is an old one, or has the key of the file's secret
  only_the_key_of_the_file : (folder : Folder) (name secret : List ℕ) (kind : ℕ) → secret_at folder name ≡ Ok secret → (m : MakesByFile g old new (Some folder) name kind) → (i : List ℕ) → g.clock old ≤ g.clock new → m.turns.turn ≤ g.clock new
      → g.image_at new (g.clock new) i → IsOpen i → IsBlank (key_from kind secret) i
  only_the_key_of_the_file folder name secret kind read m i later turned now opened =
      let same : m.secret ≡ secret = (let h : ◌≡◌ {A = Result (List ℕ) Fault} (Ok m.secret) (Ok secret) = sym m.of_file ∙ read in cc) in
      elim (m.turns.since (g.clock new) i turned (omega arith) now) [
        | inl shut ↦ absurd (shut opened)
        | inr blank ↦ subst (λ (s : List ℕ). IsBlank (key_from kind s) i) same blank
      ]

-- ---- the octets written

module _ {D : Type 0} (g : Ghosts D) (old new : D) (taken_before taken_now : Option (List ℕ)) where
  -- a whole publication is written, also if a mirror was lost; a prefix is written if the sink failed
  whole : (w : WroteSealed g old new taken_before taken_now (Ok Done)) → Appends taken_before taken_now (publication_text w.publication)
  whole w = w.written

  whole_but_for_mirrors : (w : WroteSealed g old new taken_before taken_now (Err MirrorLost)) → Appends taken_before taken_now (publication_text w.publication)
  whole_but_for_mirrors w = w.written

  front : (w : WroteSealed g old new taken_before taken_now (Err Sink)) → AppendsFront taken_before taken_now (publication_text w.publication)
  front w = w.written

  sealed_when_done : SealsWhatItWrites g old new taken_before taken_now (Ok Done) → WroteSealed g old new taken_before taken_now (Ok Done)
  sealed_when_done h = h

  sealed_when_cut : SealsWhatItWrites g old new taken_before taken_now (Err Sink) → WroteSealed g old new taken_before taken_now (Err Sink)
  sealed_when_cut h = h

  -- a whole chain is written, or a prefix if the sink failed
  whole_chain : (w : WroteChain g new taken_before taken_now (Ok Done)) → Appends taken_before taken_now w.text
  whole_chain w = w.written

  chain_when_cut : ChainsWhatItWrites g new taken_before taken_now (Err Sink) → WroteChain g new taken_before taken_now (Err Sink)
  chain_when_cut h = h

  -- nothing is written if the disk failed, memory ran out, or all keys have been used
  silent_at : (f : Fault) → f ≢ Sink → (TellsLost f → ⊥) → IsSilent TellsLost taken_before taken_now (Err f) → Keeps taken_before taken_now
  silent_at f other untold silent = silent f refl other untold

  silent_at_disk : IsSilent TellsLost taken_before taken_now (Err Disk) → Keeps taken_before taken_now
  silent_at_disk = silent_at Disk (λ is. cc) (λ told. told)

  silent_at_memory : IsSilent TellsLost taken_before taken_now (Err (Memory no_memory)) → Keeps taken_before taken_now
  silent_at_memory = silent_at (Memory no_memory) (λ is. cc) (λ told. told)

  silent_at_used_up : IsSilent TellsLost taken_before taken_now (Err KeysUsedUp) → Keeps taken_before taken_now
  silent_at_used_up = silent_at KeysUsedUp (λ is. cc) (λ told. told)

module _ {M : Type 0} (octets : M → Option (List ℕ)) (label handed puts room : M → ℕ) {D : Type 0} (g : Ghosts D) (old new : D) (taken_before taken_now : Option (List ℕ)) (before now : List M) where
  -- if the work was done, all mirrors took the text and remain; if one is reported as lost, fewer remain
  mirrors_whole : (w : SpreadSealed octets label handed puts room g old new taken_before taken_now before now (Ok Done))
      → Mirrors octets label handed puts room (pieces_in (publication_text w.publication)) (publication_text w.publication) before now × (length now ≡ length before)
  mirrors_whole w = w.mirrored

  mirrors_lost : (w : SpreadSealed octets label handed puts room g old new taken_before taken_now before now (Err MirrorLost))
      → Mirrors octets label handed puts room (pieces_in (publication_text w.publication)) (publication_text w.publication) before now × (length now < length before)
  mirrors_lost w = w.mirrored

  -- if nothing was written, the mirrors are unchanged
  mirrors_still : SealsWhatItMirrors octets label handed puts room g old new taken_before taken_now before now (Err Disk) → now ≡ before
  mirrors_still h = h.still

-- ---- released signatures

module _ (a b : Release) (key : a.key.i ≡ b.key.i) (number : a.slot.number ≡ b.slot.number) where
  -- two texts signed by one one-time key are not distinct releases, nor are two signatures by it
  two_texts_of_one_key : (a.text ≡ b.text → ⊥) → AreApart a b → ⊥
  two_texts_of_one_key other (inl keys) = keys key
  two_texts_of_one_key other (inr (inl numbers)) = numbers number
  two_texts_of_one_key other (inr (inr (equal, link))) = other (ap (λ (r : Release). r.text) equal)

  two_signatures_of_one_key : (a.octets ≡ b.octets → ⊥) → AreApart a b → ⊥
  two_signatures_of_one_key other (inl keys) = keys key
  two_signatures_of_one_key other (inr (inl numbers)) = numbers number
  two_signatures_of_one_key other (inr (inr (equal, link))) = other (ap (λ (r : Release). r.octets) equal)

  -- nor if the one-time key is in two areas
  one_key_in_two_areas : (a.slot.area ≡ b.slot.area → ⊥) → AreApart a b → ⊥
  one_key_in_two_areas other (inl keys) = keys key
  one_key_in_two_areas other (inr (inl numbers)) = numbers number
  one_key_in_two_areas other (inr (inr (equal, link))) = other (ap (λ (r : Release). r.slot.area) equal)

  -- and it signs no header twice
  a_header_twice : (IsLink a.text → ⊥) → AreApart a b → ⊥
  a_header_twice header (inl keys) = keys key
  a_header_twice header (inr (inl numbers)) = numbers number
  a_header_twice header (inr (inr (equal, link))) = header link

module _ (a b : Release) where
  each_pair_is_apart : AllApart (a ∷ b ∷ []) → AreApart a b
  each_pair_is_apart h = h.0 0 b (omega arith)

  each_stands : (i : List ℕ) → AllStand (a ∷ b ∷ []) i → IsSigned i b.slot b.text
  each_stands i h = let given = h 1 b (omega arith) in given.signed

  each_is_held : (i : List ℕ) → AllStand (a ∷ b ∷ []) i → key_in i b.slot.area ≡ b.key
  each_is_held i h = let given = h 1 b (omega arith) in given.held

  each_is_of_its_key : (i : List ℕ) → AllStand (a ∷ b ∷ []) i → b.octets ≡ sealed b.key b.slot.number b.text
  each_is_of_its_key i h = let given = h 1 b (omega arith) in given.sealed_by

-- two open areas with the same identifier are the same area
one_area : (i : List ℕ) → HasDistinctNames i → IsAreaOpen i 0 → IsAreaOpen i 1 → (key_in i 0).i ≡ (key_in i 1).i → ⊥
one_area i names first second same = omega (arith, names 0 1 first second same)

-- the key of a new area is that of some secret, even if no file is known
made_of_some_secret : {D : Type 0} (g : Ghosts D) (old new : D) (name : List ℕ) (kind : ℕ) → KeepsKey g old new None name kind (Ok Done) → (secret : List ℕ) × EachImage g new (IsBlank (key_from kind secret))
made_of_some_secret g old new name kind h = (h.made.secret, h.made.blank)

-- so is the next key, even if its line was cut, and no slot of it is spent
next_of_some_secret : {D : Type 0} (g : Ghosts D) (old new : D) (name : List ℕ) (kind : ℕ) → AddsKey g old new None name kind (Err Sink) → (secret : List ℕ) × EachImage g new (IsNextKey (key_from kind secret))
next_of_some_secret g old new name kind h = (h.made.secret, h.made.unspent)

no_slot_of_it_is_spent : (key : KeyOf) (i : List ℕ) (n : IsNextKey key i) (number : ℕ) → number < slots_of key.kind → gate_of i (record { area = n.on_disk.area; number = number }) ≡ 0
no_slot_of_it_is_spent key i n number lt = n.unspent.blank.zero (place_in (base_of i n.on_disk.area) number) (omega arith) (omega (arith, lt))

-- the last one-time key of an area's key signs the link to the next key
last_is : (keys : ℕ → KeyOf) (area : ℕ) → last_of keys area ≡ record { area = area; number = slots_of (keys area).kind - 1 }
last_is keys area = refl

next_is : (keys : ℕ → KeyOf) (area : ℕ) → next_text keys area ≡ link_text (public_key (keys (suc area)))
next_is keys area = refl

by_the_last : (keys : ℕ → KeyOf) (area : ℕ) → (link_release keys area).slot ≡ last_of keys area
by_the_last keys area = refl

on_the_next : (keys : ℕ → KeyOf) (area : ℕ) → (link_release keys area).text ≡ next_text keys area
on_the_next keys area = refl

on_its_header : (key : KeyOf) (area : ℕ) (p : Publication) → (header_release key area p).text ≡ header_text p.header
on_its_header key area p = refl

by_its_key : (keys : ℕ → KeyOf) (area : ℕ) → (link_release keys area).key ≡ keys area
by_its_key keys area = refl

-- the keys on the disk up to the last one, and each link before it
module _ {D : Type 0} (g : Ghosts D) (disk : D) (last : ℕ) (keys : ℕ → KeyOf) where
  last_key_stands : KeysStand g disk last keys → EachImage g disk (λ i. key_in i last ≡ keys last)
  last_key_stands h i now = h.held i now last (omega arith)

  first_link_stands : KeysStand g disk last keys → 0 < last → EachImage g disk (λ i. IsSigned i (last_of keys 0) (next_text keys 0))
  first_link_stands h more i now = h.linked i now 0 more
