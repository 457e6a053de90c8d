-- How `prove` ends.
use Rattle.std.proofs.Common.{◌≡◌, ◌≢◌, inl, inr, ℕ, List, Some, slice_get, refl, sym, ap, subst, ◌∙◌, IfSome}
use Rattle.std.specs.declared.option.Option.{Option}
use Rattle.std.specs.declared.result.Result.{Result}
use Rattle.std.specs.declared.result.Result.TheVariants.{Ok, Err}
use Rattle.sha2.specs.Sha256.{sha256}
use Rattle.road_io.specs.Contents.{Folder}
use Rattle.road_map.specs.Walks.{Knows}
use Rattle.road_map.specs.declared.parts.Parts.{Parts}
use Rattle.book_model.specs.declared.items.Query.{Query}
use Rattle.book_model.specs.Books.{Kind, Book}
use Rattle.proof_method.specs.Gathering.{IsFirstUnknown as IsFirst}
use Rattle.proof_octets.specs.declared.publication.Publication.{Publication}
use Rattle.proof_octets.specs.declared.reply.Reply.{Reply}
use Rattle.proof_octets.specs.declared.reply.Reply.TheVariants as replies
use Rattle.proof_octets.specs.Replies as formats
use Rattle.route_server.specs.Honesty.{IsHonest, Replies}
use Rattle.command_files.specs.Reading.{publication_at}
use Rattle.command_files.specs.TwoEnds.{IsFirstUnknown}
use Rattle.command_files.specs.Endings.{Promises, NoDisk, NoEnd, MayEnd, WhyNot, Writes}
use Rattle.command_files.specs.declared.fault.Fault.{Fault}
use Rattle.command_files.specs.declared.fault.Fault.TheVariants.{UnknownNode}
use Rattle.command_files.specs.declared.ended.Conclusion.{Conclusion}
use Rattle.command_files.specs.declared.ended.Conclusion.TheVariants.{Done}
use Rattle.command_files.proofs.Written.{CallsFor, over, reads, refused, written, why_map}
use Rattle.command_books.specs.Installing.{EndsInstalling, IsInstallable}
use Rattle.command_books.proofs.Installings.{installed, not_installed}
use Rattle.server_commands.specs.Proving.{EndsReply, EndsProve, TellsEnds, ends_prove}

-- the first octet of a reply
abbrev tag_of : Reply → ℕ
tag_of (replies.Answer a) = 0
tag_of replies.UnknownNode = 1
tag_of replies.NoRoute = 2
tag_of (replies.Apart a) = 3

first_octet : (r : Reply) → slice_get (formats.reply.spell r) 0 ≡ Some (tag_of r)
unfolding formats.reply
first_octet (replies.Answer a) = refl
first_octet replies.UnknownNode = refl
first_octet replies.NoRoute = refl
first_octet (replies.Apart a) = refl

same_number : (a b : ℕ) → Some a ≡ Some b → a ≡ b
same_number a b e = cc

-- the meaning of a reply whose first octet is known
module _ (hash : List ℕ → List ℕ) (kind : Kind) (order : List ℕ) (b : Book) (p : Publication) (q : Query) where
  of_answer : (r : Reply) → Replies hash kind order b p q r → tag_of r ≢ 1 → Knows b.parts q.from × Knows b.parts q.to
  of_answer (replies.Answer a) says one = says.1.gathered.shortest.known
  of_answer replies.UnknownNode says one = absurd (one refl)
  of_answer replies.NoRoute says one = absurd says
  of_answer (replies.Apart a) says one = (says.gathered.unjoined.0, says.gathered.unjoined.1)

  of_unknown : (r : Reply) → Replies hash kind order b p q r → tag_of r ≡ 1 → (id : ℕ) × IsFirst b.parts q id
  of_unknown (replies.Answer a) says is = absurd (cc)
  of_unknown replies.UnknownNode says is = says
  of_unknown replies.NoRoute says is = absurd says
  of_unknown (replies.Apart a) says is = absurd (cc)

-- the first of the two ends that is unknown
named : (parts : Parts) (q : Query) (id other : ℕ) → IsFirst parts q other → (Knows parts q.from → id ≡ q.to) → (¬ Knows parts q.from → id ≡ q.from) → IsFirstUnknown parts q.from q.to id
named parts q id other (inl is) known unknown =
    record { unknown = λ k. is.1 (subst (Knows parts) (unknown is.1) k); first = λ ne. absurd (ne (unknown is.1)) }
named parts q id other (inr is) known unknown =
    record { unknown = λ k. is.2 (subst (Knows parts) (known is.1) k); first = λ ne. (known is.1, is.1) }

module _ (p : Publication) (q : Query) (octets : List ℕ) (honest : IsHonest sha256 sha256 p q octets) where
  tag_is : (n : ℕ) → slice_get octets 0 ≡ Some n → tag_of honest.reply ≡ n
  tag_is n first = same_number _ _ (sym (ap (λ xs. slice_get xs 0) honest.spelled ∙ first_octet honest.reply) ∙ first)

  tag_is_not : (n : ℕ) → slice_get octets 0 ≢ Some n → tag_of honest.reply ≢ n
  tag_is_not n other is = other (ap (λ xs. slice_get xs 0) honest.spelled ∙ first_octet honest.reply ∙ ap (λ x. Some x) is)

  same_parts : honest.book.parts ≡ p.parts
  same_parts = honest.is_book.book.of_parts

  pub answer_ends : slice_get octets 0 ≢ Some 1 → EndsReply q p (Ok Done) octets
  answer_ends one =
      let known = of_answer _ _ _ _ p q honest.reply honest.says (tag_is_not 1 one) in
      (subst (λ (x : Parts). Knows x q.from) same_parts known.0, subst (λ (x : Parts). Knows x q.to) same_parts known.1, honest)

  pub unknown_ends : (id : ℕ) → slice_get octets 0 ≡ Some 1 → (Knows p.parts q.from → id ≡ q.to) → (¬ Knows p.parts q.from → id ≡ q.from) → EndsReply q p (Err (UnknownNode id)) octets
  unknown_ends id first known unknown =
      let a = of_unknown _ _ _ _ p q honest.reply honest.says (tag_is 1 first) in
      (named p.parts q id a.0 (subst (λ (x : Parts). IsFirst x q a.0) same_parts a.1) known unknown, honest)

-- ---- the command

-- a reply is written if the work was done, or if the client is informed by it
may_end : (q : Query) (p : Publication) (o : Result Conclusion Fault) (text : List ℕ) → EndsReply q p o text → MayEnd TellsEnds o
may_end q p (Ok Done) text h = tt
may_end q p (Err (UnknownNode id)) text h = tt
may_end q p o text h = absurd h

module _ (files : Option Folder) (name : List ℕ) (p : Publication) (q : Query) (l l' k k' : ℕ) (read : IfSome files (λ folder. publication_at folder name ≡ Ok p)) (old : Option (List ℕ)) where
  -- what the file of a publication requires
  calls : (o : Result Conclusion Fault) (text : List ℕ) → EndsProve q p o text → CallsFor (ends_prove name q) files o text
  calls o text h =
      over files (λ folder. publication_at folder name ≡ Ok p) (λ folder. ends_prove name q folder o text)
      (λ folder is. reads (publication_at folder name) p (EndsProve q) o text is h) read

  -- a reply that was returned
  pub reply_told : (new : Option (List ℕ)) (end o : Result Conclusion Fault) (text : List ℕ) → IsInstallable p → EndsReply q p end text → Writes end text old new k k' o
      → Promises (ends_prove name q) TellsEnds NoDisk files l l' old new k k' o
  reply_told new end o text is h w =
      written (ends_prove name q) TellsEnds NoDisk files l l' k k' old (EndsProve q p) calls new end o text (may_end q p end text h) (installed p (EndsReply q p) end text is h) w

  -- a publication that was not installed
  pub prove_refused : (f : Fault) → WhyNot NoDisk (EndsInstalling p NoEnd) f → Promises (ends_prove name q) TellsEnds NoDisk files l l' old old k k' (Err f)
  prove_refused f h =
      refused (ends_prove name q) TellsEnds NoDisk files l l' k k' old (EndsProve q p) calls f
      (why_map NoDisk NoDisk (EndsInstalling p NoEnd) (EndsProve q p) (λ x. x) (not_installed p (EndsReply q p)) f h)
