-- Texts with a signature under one of the owner's keys that the owner never signed. An accepted reply rests on the
-- links of its chain and on its header. Each of them is signed under a key of the chain, and should be in a slot.
use Rattle.std.specs.Prelude.{◌≡◌, ◌⊎◌, ℕ, zero, suc, ◌<◌, ◌≤◌, List, [], length, slice_index_or, Option, None, Some, Result, Ok, Err}
use Rattle.lms_tree.specs.Signatures.{verified}
use Rattle.lms_tree.specs.Links.{link_text}
use Rattle.lms_tree.specs.declared.links.Link.{Link}
use Rattle.desk_look.specs.Looks.{Look}
use Rattle.desk_look.specs.declared.errors.LookError.{LookError}
use Rattle.desk_look.specs.declared.errors.LookError.TheVariants.{Desk, Memory}
use Rattle.desk_look.specs.declared.forgery.Forgery.{Forgery}

-- ---- the keys and the texts of a chain

abbrev pub no_link : Link
no_link = record { key = []; signature = [] }

-- the link with a number
abbrev pub link_at : List Link → ℕ → Link
link_at links number = slice_index_or links number no_link

-- the key before the link with a number: the first key, or the key of the previous link
abbrev pub key_before : List ℕ → List Link → ℕ → List ℕ
key_before key links zero = key
key_before key links (suc number) = (link_at links number).key

-- the text of the link with a number
abbrev pub text_at : List Link → ℕ → List ℕ
text_at links number = link_text (link_at links number).key

-- ---- what is signed

-- the text of each link is signed
abbrev pub AreLinksSigned : Look → List Link → Type 0
AreLinksSigned look links = (number : ℕ) → number < length links →
    look.Signed (text_at links number)

-- the text of each link is signed, and so is the header
pub record AreSigned (look : Look) (links : List Link) (header : List ℕ) : Type 0 where
  pub linked : AreLinksSigned look links
  pub sealed : look.Signed header

-- ---- unsigned texts

-- a key of the owner, an unsigned text, and a signature of the text that verifies under the key
pub record IsForgery (look : Look) (f : Forgery) : Type 0 where
  pub own : look.Owns f.key
  pub good : verified f.key f.text f.signature ≡ Ok tt
  pub unsigned : look.Unsigned f.text

abbrev pub forgery : List ℕ → List ℕ → List ℕ → Forgery
forgery key text signature = record { key = key; text = text; signature = signature }

-- the key before a link, with the link's text and signature
abbrev pub forgery_of : List ℕ → List Link → ℕ → Forgery
forgery_of key links number =
    forgery (key_before key links number) (text_at links number) (link_at links number).signature

-- the first link whose text is not signed
pub record IsForgedLink (look : Look) (key : List ℕ) (links : List Link) (f : Forgery) : Type 0 where
  pub number : ℕ
  pub known : number < length links
  pub before : (n : ℕ) → n < number → look.Signed (text_at links n)
  pub unsigned : look.Unsigned (text_at links number)
  pub is : f ≡ forgery_of key links number

-- the header and the signature in the reply, if the text of each link is signed but the header is not; its key is
-- one along the chain
pub record IsForgedHeader (look : Look) (key : List ℕ) (links : List Link)
    (header signature : List ℕ) (f : Forgery) : Type 0 where
  pub linked : AreLinksSigned look links
  pub unsigned : look.Unsigned header
  pub reached : ℕ
  pub upto : reached ≤ length links
  pub is : f ≡ forgery (key_before key links reached) header signature

-- the first of these texts that is not signed; it is evidence against whoever made its signature
pub record Forges (look : Look) (key : List ℕ) (links : List Link) (header signature : List ℕ)
    (f : Forgery) : Type 0 where
  pub first : IsForgedLink look key links f ⊎ IsForgedHeader look key links header signature f
  pub forgery : IsForgery look f

-- the result for a chain and a header: all texts are signed, or the first unsigned text, or the reason why this is
-- unknown
abbrev pub Looked : Look → List ℕ → List Link → List ℕ → List ℕ →
    Result (Option Forgery) LookError → Type 0
Looked look key links header signature (Ok None) = AreSigned look links header
Looked look key links header signature (Ok (Some f)) = Forges look key links header signature f
Looked look key links header signature (Err (Desk e)) = look.Fails e
Looked look key links header signature (Err (Memory _)) = Unit {0}
