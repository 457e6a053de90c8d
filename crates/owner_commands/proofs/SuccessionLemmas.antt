-- How `succeed` and `links` end.
use Rattle.std.proofs.Common.{◌≡◌, ◌≢◌, ◌⊎◌, inl, inr, ℕ, suc, ◌<◌, ◌≤◌, ◌+◌, List, [], ◌++◌, map, take, length, refl, sym, ap, ◌∙◌, subst, arith, IfSome, IfOk, OnOk}
use Rattle.std.specs.Prelude.{codes}
use Rattle.std.specs.List.{range_with_len}
use Rattle.hex.specs.Hex.{encode_lower}
use Rattle.std.proofs.lemmas.List.FromFn.{length-map-range_with_len, get_or-map-range_with_len, fill_by_all}
use Rattle.std.specs.declared.option.Option.{Option}
use Rattle.std.specs.declared.option.Option.TheVariants.{None, Some}
use Rattle.std.specs.declared.result.Result.{Result}
use Rattle.std.specs.declared.result.Result.TheVariants.{Ok, Err}
use Rattle.std.specs.Option.{ForSome, option_and}
use Rattle.road_io.specs.declared.disk.Disk.{Ghosts}
use Rattle.road_io.specs.Disk.{Narrows, Stays}
use Rattle.road_io.specs.Moments.{EachImage, AtEachMoment}
use Rattle.road_io.specs.Contents.{Folder}
use Rattle.road_io.proofs.StillTold.{still_so}
use Rattle.lms_tree.specs.Signatures.{KeyOf, public_key}
use Rattle.lms_tree.specs.Links.{link_text}
use Rattle.lms_tree.specs.ChainFiles.{chain_file}
use Rattle.lms_tree.specs.declared.links.Link.{Link}
use Rattle.desk_areas.specs.Faults.{IsUsable}
use Rattle.desk_areas.specs.Keys.{key_from, key_at}
use Rattle.desk_areas.specs.Layout.{base_of}
use Rattle.key_desk.specs.declared.desk.Desk.{Desk}
use Rattle.key_desk.specs.declared.succeed.SucceedError.{SucceedError}
use Rattle.key_desk.specs.declared.succeed.SucceedError.TheVariants as why
use Rattle.key_desk.specs.Desk.{key_of, HasAreas, IsSound, Fits}
use Rattle.key_desk.specs.Links.{link_of, link_from, links_of}
use Rattle.key_desk.specs.Succession.{IsUnspent, RaisesNext, SignsLink, Refuses, IsCalledFor}
use Rattle.key_desk.proofs.ReadGood.{key_is}
use Rattle.key_desk.proofs.Refusals.{one_reason}
use Rattle.command_desks.specs.Opening.{HasBlocks, EndsOpening}
use Rattle.command_desks.proofs.Openings.{key_on, shut, one_opening}
use Rattle.command_files.specs.HexFiles.{secret_at}
use Rattle.command_files.specs.Endings.{NoEnd, Promises, PromisesWithoutFiles, TellsNone, WhyNot, Writes}
use Rattle.command_files.specs.declared.fault.Fault.{Fault}
use Rattle.command_files.specs.declared.fault.Fault.TheVariants.{Memory}
use Rattle.command_files.specs.declared.ended.Conclusion.{Conclusion}
use Rattle.command_files.specs.declared.ended.Conclusion.TheVariants.{Done}
use Rattle.command_files.proofs.OneEnd.{HasOneEnd, one_reading}
use Rattle.command_files.proofs.Written.{CallsFor, over, over_any, reads, refused, written_done, why_map}
use Rattle.owner_commands.specs.NextKey.{fault_of, EndsSuccession, ends_succession, IsNextKey, LinksFile, AddsKey}
use Rattle.owner_commands.specs.Signing.{StaysRefused}
use Rattle.owner_commands.specs.ChainLine.{link_on, IsChainOn, TellsLinks, EndsLinks}
use Rattle.octet_text.specs.Want.{no_memory}

-- ---- a succession

-- why no key follows, by the content that the disk states after the call
pub not_followed : (DiskFailed : Type 0) (old new : Option (List ℕ)) (kind : ℕ) (secret : List ℕ) (e : SucceedError) → (e ≢ why.DiskFault → Narrows old new) → IsCalledFor new (take 16 secret) e → (e ≡ why.DiskFault → DiskFailed)
    → WhyNot DiskFailed (EndsSuccession (option_and new old) kind secret) (fault_of e)
not_followed DiskFailed old new kind secret why.NoKey narrows called failed = inr (why.NoKey, refl, still_so old new (λ c. Refuses c (take 16 secret) why.NoKey) (narrows (λ is. cc)) called, refl)
not_followed DiskFailed old new kind secret why.BadBlock narrows called failed = inr (why.BadBlock, refl, still_so old new (λ c. Refuses c (take 16 secret) why.BadBlock) (narrows (λ is. cc)) called, refl)
not_followed DiskFailed old new kind secret why.TooManyKeys narrows called failed = inr (why.TooManyKeys, refl, still_so old new (λ c. Refuses c (take 16 secret) why.TooManyKeys) (narrows (λ is. cc)) called, refl)
not_followed DiskFailed old new kind secret why.NoSuccession narrows called failed = inr (why.NoSuccession, refl, still_so old new (λ c. Refuses c (take 16 secret) why.NoSuccession) (narrows (λ is. cc)) called, refl)
not_followed DiskFailed old new kind secret why.SameSecret narrows called failed = inr (why.SameSecret, refl, still_so old new (λ c. Refuses c (take 16 secret) why.SameSecret) (narrows (λ is. cc)) called, refl)
not_followed DiskFailed old new kind secret why.DiskFault narrows called failed = failed refl
not_followed DiskFailed old new kind secret (why.Memory _) narrows called failed = tt

-- a result that was returned
abbrev pub given : {X : Type 0} → X → Result X SucceedError
given x = Ok x

-- a success means that there was no reason to refuse
pub unrefused : {X : Type 0} (content : Option (List ℕ)) (secret : List ℕ) (desk : X)
    → ForSome content (λ c. (e : SucceedError) → Refuses c (take 16 secret) e → (given desk ≡ Err e) ⊎ ((given desk ≡ Err why.DiskFault) ⊎ (given desk ≡ Err (why.Memory no_memory))))
    → ForSome content (λ c. (e : SucceedError) → Refuses c (take 16 secret) e → ⊥)
unrefused content secret desk else_so c is e h = elim (else_so c is e h) [ inl x ↦ cc | inr other ↦ elim other [ inl x ↦ cc | inr x ↦ cc ] ]

-- the line of the next key, if there was no refusal
pub next_line : {X : Type 0} (content : Option (List ℕ)) (kind number : ℕ) (secret line public : List ℕ) (desk : X) (key : KeyOf) → number ≡ kind → key ≡ key_from number secret → public ≡ public_key key
    → line ≡ encode_lower public ++ codes "\n"
    → ForSome content (λ c. (e : SucceedError) → Refuses c (take 16 secret) e → (given desk ≡ Err e) ⊎ ((given desk ≡ Err why.DiskFault) ⊎ (given desk ≡ Err (why.Memory no_memory))))
    → EndsSuccession content kind secret (Ok Done) line
next_line content kind number secret line public desk key is made of_key spelled else_so =
    let of_kind : key ≡ key_from kind secret = made ∙ ap (λ (n : ℕ). key_from n secret) is in
    inl (refl, unrefused content secret desk else_so, spelled ∙ ap (λ (p : List ℕ). encode_lower p ++ codes "\n") (of_key ∙ ap public_key of_kind))

-- at each moment, of the key of a kind
pub raises_kind : {D : Type 0} (g : Ghosts D) (d e : D) (kind number : ℕ) (secret : List ℕ) → number ≡ kind → AtEachMoment g d e (λ x i. (i ≡ x) ⊎ RaisesNext (key_from number secret) x i) → AtEachMoment g d e (λ x i. (i ≡ x) ⊎ RaisesNext (key_from kind secret) x i)
raises_kind g d e kind number secret is each = subst (λ (n : ℕ). AtEachMoment g d e (λ x i. (i ≡ x) ⊎ RaisesNext (key_from n secret) x i)) is each

pub links_kind : {D : Type 0} (g : Ghosts D) (d e : D) (kind number : ℕ) (secret : List ℕ) → number ≡ kind → AtEachMoment g d e (λ x i. (i ≡ x) ⊎ SignsLink (link_text (public_key (key_from number secret))) x i)
    → AtEachMoment g d e (λ x i. (i ≡ x) ⊎ SignsLink (link_text (public_key (key_from kind secret))) x i)
links_kind g d e kind number secret is each = subst (λ (n : ℕ). AtEachMoment g d e (λ x i. (i ≡ x) ⊎ SignsLink (link_text (public_key (key_from n secret))) x i)) is each

-- the key of a desk that fits is in the last open area of each image, and no slot of that area is spent
pub next_on : {D : Type 0} (g : Ghosts D) (disk : D) (desk : Desk) (key : KeyOf) → Fits g desk disk → EachImage g disk (IsUnspent desk.key desk.base) → desk.key ≡ key → EachImage g disk (IsNextKey key)
next_on g disk desk key fits unspent is i now =
    let areas = fits.areas i now in
    subst (λ (k : KeyOf). IsNextKey k i) is
    (record { on_disk = key_on desk i fits.sound areas; unspent = subst (λ (b : ℕ). IsUnspent desk.key b i) (sym areas.based) (unspent i now) })

-- over the contents of a disk, a succession has one end
one_succession : (content : List ℕ) (kind : ℕ) (secret : List ℕ) (o p : Result Conclusion Fault) (s t : List ℕ) → EndsSuccession (Some content) kind secret o s → EndsSuccession (Some content) kind secret p t → o ≡ p
one_succession content kind secret o p s t (inl h) (inl k) = h.0 ∙ sym k.0
one_succession content kind secret o p s t (inl h) (inr k) = absurd (h.1 content refl k.0 (k.2 content refl))
one_succession content kind secret o p s t (inr h) (inl k) = absurd (k.1 content refl h.0 (h.2 content refl))
one_succession content kind secret o p s t (inr h) (inr k) =
    h.1 ∙ ap (λ (e : SucceedError). Err (fault_of e)) (one_reason content (take 16 secret) h.0 k.0 (h.2 content refl) (k.2 content refl)) ∙ sym k.1

pub only_succession : (content secret : List ℕ) (kind : ℕ) (folder : Folder) → HasOneEnd (ends_succession (Some content) secret kind folder)
only_succession content secret kind folder = one_reading (secret_at folder secret) (EndsSuccession (Some content) kind) (λ s. one_succession content kind s)

module _ (files : Option Folder) (name secret : List ℕ) (content : Option (List ℕ)) (kind : ℕ) (DiskFailed : Type 0) (l l' k k' : ℕ) (read : IfSome files (λ folder. secret_at folder name ≡ Ok secret)) (old : Option (List ℕ)) where
  calls : (o : Result Conclusion Fault) (text : List ℕ) → EndsSuccession content kind secret o text → CallsFor (ends_succession content name kind) files o text
  calls o text h =
      over files (λ folder. secret_at folder name ≡ Ok secret) (λ folder. ends_succession content name kind folder o text)
      (λ folder is. reads (secret_at folder name) secret (EndsSuccession content kind) o text is h) read

  -- a succession that was refused
  pub next_refused : (f : Fault) → WhyNot DiskFailed (EndsSuccession content kind secret) f → Promises (ends_succession content name kind) TellsNone DiskFailed files l l' old old k k' (Err f)
  next_refused f h = refused (ends_succession content name kind) TellsNone DiskFailed files l l' k k' old (EndsSuccession content kind secret) calls f h

  -- the line of the next key
  pub next_told : (new : Option (List ℕ)) (o : Result Conclusion Fault) (text line : List ℕ) → text ≡ line → EndsSuccession content kind secret (Ok Done) line → Writes (Ok Done) text old new k k' o
      → Promises (ends_succession content name kind) TellsNone DiskFailed files l l' old new k k' o
  next_told new o text line same is w = written_done (ends_succession content name kind) TellsNone DiskFailed files l l' k k' old (EndsSuccession content kind secret) calls new Done o text line same is w

  -- the link that was signed leads to the key of the file
  pub links_file : {D : Type 0} (g : Ghosts D) (d e : D) → AtEachMoment g d e (λ x i. (i ≡ x) ⊎ SignsLink (link_text (public_key (key_from kind secret))) x i) → AtEachMoment g d e (λ x i. (i ≡ x) ⊎ RaisesNext (key_from kind secret) x i) → LinksFile g d e files name kind
  links_file g d e each raises = record { secret = secret; of_file = read; each = each; raises = raises }

-- a refused succession leaves each image unchanged
pub stays_followed : {D : Type 0} (g : Ghosts D) (old new : D) (e : SucceedError) → (e ≢ why.DiskFault → AtEachMoment g old new Stays) → StaysRefused g old new (fault_of e)
stays_followed g old new why.NoKey m = m (λ is. cc)
stays_followed g old new why.BadBlock m = m (λ is. cc)
stays_followed g old new why.TooManyKeys m = m (λ is. cc)
stays_followed g old new why.NoSuccession m = m (λ is. cc)
stays_followed g old new why.SameSecret m = m (λ is. cc)
stays_followed g old new why.DiskFault m = tt
stays_followed g old new (why.Memory _) m = m (λ is. cc)

-- ---- a chain

-- the links of a desk are those of the disk that has its areas
pub links_there : (desk : Desk) (c : List ℕ) → IsSound desk → HasAreas desk c → links_of desk ≡ map (link_on c) (range_with_len 0 (length desk.earlier))
links_there desk c sound areas =
    fill_by_all (link_on c) (links_of desk) (length desk.earlier) (link_on c 0) (length-map-range_with_len (link_from desk) 0 (length desk.earlier))
    (λ a lt. get_or-map-range_with_len (link_from desk) 0 (length desk.earlier) a a (link_on c 0) lt (omega arith) ∙ there a lt)
  where
    key_there : (a : ℕ) → a ≤ length desk.earlier → key_of desk a ≡ key_at c (base_of c a)
    key_there a le = sym (key_is (key_of desk a) (base_of c a) c (areas.keys a le) (sound.named a le))

    there : (a : ℕ) → a < length desk.earlier → link_from desk a ≡ link_on c a
    there a lt =
        ap (λ (k : KeyOf). link_of k (public_key (key_of desk (suc a)))) (key_there a (omega (arith, lt)))
        ∙ ap (λ (k : KeyOf). link_of (key_at c (base_of c a)) (public_key k)) (key_there (suc a) (omega (arith, lt)))

-- the chain of an opened desk is that of the disk's contents
pub chain_told : (content : Option (List ℕ)) (desk : Desk) (text : List ℕ) (links : List Link) → HasBlocks content desk → IsSound desk → links ≡ links_of desk → text ≡ chain_file.spell links → ForSome content (λ c. IsChainOn c text)
chain_told content desk text links blocks sound are spelled c is =
    let areas = (blocks c is).1 in
    record {
      area = length desk.earlier;
      current = areas.current;
      spelled = spelled ∙ ap (λ (l : List Link). chain_file.spell l) (are ∙ links_there desk c sound areas);
    }

one_chain : (content : List ℕ) (o e : Result Conclusion Fault) (s t : List ℕ) → TellsLinks (Some content) o s → TellsLinks (Some content) e t → o ≡ e
one_chain content (Ok Done) (Ok Done) s t a b = refl
one_chain content (Ok Done) e s t a b = absurd b
one_chain content o e s t a b = absurd a

pub only_links : (content : List ℕ) → HasOneEnd (EndsLinks (Some content))
only_links content o e s t = one_opening content (TellsLinks (Some content)) o e s t (one_chain content o e s t)

module _ (content : Option (List ℕ)) (DiskFailed : Type 0) (k k' : ℕ) (old : Option (List ℕ)) where
  any : (files : Option Folder) (o : Result Conclusion Fault) (text : List ℕ) → EndsLinks content o text → CallsFor (λ folder. EndsLinks content) files o text
  any files o text h = over_any files (λ folder. EndsLinks content o text) (λ folder. h)

  -- a desk that does not open
  pub links_refused : (f : Fault) → WhyNot DiskFailed (EndsOpening content NoEnd) f → PromisesWithoutFiles (EndsLinks content) DiskFailed old old k k' (Err f)
  links_refused f h files faults =
      refused (λ folder. EndsLinks content) TellsNone DiskFailed files faults faults k k' old (EndsLinks content) (any files) f
      (why_map DiskFailed DiskFailed (EndsOpening content NoEnd) (EndsLinks content) (λ x. x) (shut content (TellsLinks content)) f h)

  -- the chain of a desk
  pub links_written : (new : Option (List ℕ)) (o : Result Conclusion Fault) (text chain : List ℕ) → ForSome content IsUsable → ForSome content (λ c. IsChainOn c chain) → text ≡ chain → Writes (Ok Done) text old new k k' o
      → PromisesWithoutFiles (EndsLinks content) DiskFailed old new k k' o
  links_written new o text chain usable is same w files faults =
      written_done (λ folder. EndsLinks content) TellsNone DiskFailed files faults faults k k' old (EndsLinks content) (any files) new Done o text chain same (inr (inr (usable, is))) w
