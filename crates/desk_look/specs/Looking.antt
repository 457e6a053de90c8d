-- What a desk's keys imply about a chain: a link text is signed exactly if it names a later key of the desk.
use Rattle.std.specs.Prelude.{◌≡◌, ◌⊎◌, ℕ, ◌<◌, ◌≤◌, Bool, true, false, List, length, Option, None, Some, Ok}
use Rattle.lms_tree.specs.Signatures.{verified}
use Rattle.lms_tree.specs.declared.links.Link.{Link}
use Rattle.key_desk.specs.declared.desk.Desk.{Desk}
use Rattle.desk_look.specs.Looks.{IsKeyFrom}
use Rattle.desk_look.specs.Forgeries.{link_at, key_before, forgery_of}
use Rattle.desk_look.specs.declared.forgery.Forgery.{Forgery}

-- each link leads to a later key of the desk
abbrev pub LeadsOn : Desk → List Link → Type 0
LeadsOn desk links = (number : ℕ) → number < length links →
    IsKeyFrom desk 1 (link_at links number).key

-- the first link that does not lead to a later key
pub record IsFirstStray (desk : Desk) (links : List Link) (number : ℕ) : Type 0 where
  pub known : number < length links
  pub before : (n : ℕ) → n < number → IsKeyFrom desk 1 (link_at links n).key
  pub stray : ¬ IsKeyFrom desk 1 (link_at links number).key
  pub long : length (link_at links number).key ≡ 56

-- a key along a chain under which the signature of a text verifies
pub record IsSealingKey (key : List ℕ) (links : List Link)
    (text signature found : List ℕ) : Type 0 where
  pub reached : ℕ
  pub upto : reached ≤ length links
  pub is : found ≡ key_before key links reached
  pub good : verified found text signature ≡ Ok tt

-- the first link that does not lead to a later key; or the header, if there is no such link and the header is not
-- signed
abbrev pub FindsForgery : Desk → List ℕ → List Link → List ℕ → List ℕ → Bool → Option Forgery →
    Type 0
FindsForgery desk key links header signature is_signed None = LeadsOn desk links ×
    (is_signed ≡ true)
FindsForgery desk key links header signature is_signed (Some f) =
    ((number : ℕ) × IsFirstStray desk links number × (f ≡ forgery_of key links number))
    ⊎ (LeadsOn desk links × (is_signed ≡ false) ×
    IsSealingKey key links header signature f.key × (f.text ≡ header) × (f.signature ≡ signature))
