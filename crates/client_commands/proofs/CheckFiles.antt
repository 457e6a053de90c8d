-- What the files of a check require, for every kind of replies.
use Rattle.std.proofs.Common.{◌≡◌, List, ℕ, subst, refl, IfSome}
use Rattle.std.specs.declared.option.Option.{Option}
use Rattle.std.specs.declared.result.Result.{Result}
use Rattle.std.specs.declared.result.Result.TheVariants.{Ok, Err}
use Rattle.road_io.specs.Contents.{Folder}
use Rattle.road_io.specs.Disk.{Narrows}
use Rattle.lms_tree.specs.declared.links.Link.{Link}
use Rattle.command_files.specs.Reading.{octets_at, chain_at}
use Rattle.command_files.specs.HexFiles.{public_key_at}
use Rattle.command_files.specs.Endings.{Ending, EndsReading, Promises, TellsNone, NoDisk, MayEnd, Writes}
use Rattle.command_files.specs.declared.fault.Fault.{Fault}
use Rattle.command_files.specs.declared.ended.Conclusion.{Conclusion}
use Rattle.command_files.specs.declared.ended.Conclusion.TheVariants.{Done, Refused}
use Rattle.command_files.proofs.OneEnd.{HasOneEnd, one_reading}
use Rattle.command_files.proofs.Written.{CallsFor, over_both, reads, read_as, moved, narrows_on, written}
use Rattle.client_commands.specs.CheckFiles.{EndsVerdict, over_files}

-- ---- the verdict

module _ {A E : Type 0} (IsVerdict : Result A E → Type 0) (short : E) (accepted : A → List ℕ) (refused : E → List ℕ) where
  -- octets have at most one verdict
  abbrev pub OneVerdict : Type 0
  OneVerdict = (v w : Result A E) → IsVerdict v → IsVerdict w → v ≡ w

  differ : (x : A) (e : E) → Ok x ≡ Err e → ⊥
  differ x e is = cc

  -- so a check has one end
  pub one_end : OneVerdict → HasOneEnd (EndsVerdict IsVerdict short accepted refused)
  one_end one (Ok Done) (Ok Done) s t h k = refl
  one_end one (Ok Done) (Ok Refused) s t h k = absurd (differ h.0 k.0 (one (Ok h.0) (Err k.0) h.1 k.2))
  one_end one (Ok Done) e s t h k = absurd k
  one_end one (Ok Refused) (Ok Done) s t h k = absurd (differ k.0 h.0 (one (Ok k.0) (Err h.0) k.1 h.2))
  one_end one (Ok Refused) (Ok Refused) s t h k = refl
  one_end one (Ok Refused) e s t h k = absurd k
  one_end one o e s t h k = absurd h

-- ---- the files

-- Ends gives how the check ends over a public key, a chain from it and the octets of a reply
module _ (Ends : List ℕ → List Link → List ℕ → Ending) where
  -- with a reply's octets that were read
  abbrev behind_reply : Option (List ℕ) → Folder → List ℕ → List ℕ → Ending
  behind_reply chain folder key octets = EndsReading (chain_at folder chain) (λ links. Ends key links octets)

  -- with a public key that was read
  abbrev behind_key : List ℕ → Option (List ℕ) → Folder → List ℕ → Ending
  behind_key reply chain folder key = EndsReading (octets_at folder reply) (behind_reply chain folder key)

  -- if there is one end over the contents, there is one over the files
  pub one_over_files : ((key : List ℕ) (links : List Link) (octets : List ℕ) → HasOneEnd (Ends key links octets)) → (key reply : List ℕ) (chain : Option (List ℕ)) (folder : Folder)
      → HasOneEnd (over_files Ends key reply chain folder)
  one_over_files one key reply chain folder =
      one_reading (public_key_at folder key) (behind_key reply chain folder)
      (λ k. one_reading (octets_at folder reply) (behind_reply chain folder k) (λ octets. one_reading (chain_at folder chain) (λ links. Ends k links octets) (λ links. one k links octets)))

  module _ (files : Option Folder) (key_name reply_name : List ℕ) (chain_name : Option (List ℕ)) (key : List ℕ) (links : List Link) (octets : List ℕ) where
    abbrev HasKey : Folder → Type 0
    HasKey folder = public_key_at folder key_name ≡ Ok key

    abbrev HasReply : Folder → Type 0
    HasReply folder = octets_at folder reply_name ≡ Ok octets

    abbrev HasChain : Folder → Type 0
    HasChain folder = chain_at folder chain_name ≡ Ok links

    -- what the files of a key, a reply and a chain require
    calls : IfSome files HasKey → IfSome files HasReply → IfSome files HasChain → (o : Result Conclusion Fault) (text : List ℕ) → Ends key links octets o text
        → CallsFor (over_files Ends key_name reply_name chain_name) files o text
    calls key_read reply_read chain_read o text h =
        over_both files HasKey (λ folder. HasReply folder × HasChain folder) (λ folder. over_files Ends key_name reply_name chain_name folder o text)
        (λ folder is_key both.
        reads (public_key_at folder key_name) key (behind_key reply_name chain_name folder) o text is_key
        (reads (octets_at folder reply_name) octets (behind_reply chain_name folder key) o text both.0
        (reads (chain_at folder chain_name) links (λ ls. Ends key ls octets) o text both.1 h)))
        key_read (over_both files HasReply HasChain (λ folder. HasReply folder × HasChain folder) (λ folder is_reply is_chain. (is_reply, is_chain)) reply_read chain_read)

    -- an end that was returned and is not a fault
    pub told_over_files : (first second : Option Folder) (read_octets : List ℕ) (read_links : List Link) (l l' k k' : ℕ) (old new : Option (List ℕ)) (end o : Result Conclusion Fault) (text : List ℕ)
        → MayEnd TellsNone end → Narrows first second → Narrows second files → IfSome first HasKey → IfSome second HasReply → IfSome files HasChain
        → read_octets ≡ octets → read_links ≡ links → Ends key read_links read_octets end text → Writes end text old new k k' o
        → Promises (over_files Ends key_name reply_name chain_name) TellsNone NoDisk files l l' old new k k' o
    told_over_files first second read_octets read_links l l' k k' old new end o text no_fault narrows more key_read reply_read chain_read same same_links h w =
        written (over_files Ends key_name reply_name chain_name) TellsNone NoDisk files l l' k k' old (Ends key links octets)
        (calls (moved first files HasKey (narrows_on first second files narrows more) key_read) (moved second files HasReply more reply_read) chain_read) new end o text no_fault
        (subst (λ xs. Ends key links xs end text) same (subst (λ ls. Ends key ls read_octets end text) same_links h)) w

  -- if the files have these contents, the files require what the contents require
  pub of_files : (folder : Folder) (key_name reply_name : List ℕ) (chain_name : Option (List ℕ)) (key : List ℕ) (links : List Link) (octets : List ℕ)
      → public_key_at folder key_name ≡ Ok key → octets_at folder reply_name ≡ Ok octets → chain_at folder chain_name ≡ Ok links
      → (o : Result Conclusion Fault) (text : List ℕ) → over_files Ends key_name reply_name chain_name folder o text → Ends key links octets o text
  of_files folder key_name reply_name chain_name key links octets key_read reply_read chain_read o text h =
      let by_key = read_as (public_key_at folder key_name) key (behind_key reply_name chain_name folder) o text key_read h in
      let by_reply = read_as (octets_at folder reply_name) octets (behind_reply chain_name folder key) o text reply_read by_key in
      read_as (chain_at folder chain_name) links (λ ls. Ends key ls octets) o text chain_read by_reply
