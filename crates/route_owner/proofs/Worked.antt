-- The definitions of publishing, evaluated for some results. A changed definition fails here.
use Rattle.std.proofs.Common.{◌≡◌, ◌⊎◌, ℕ, ◌+◌, List, Ok, Err, true, false, arith}
use Rattle.std.specs.declared.result.Result.{Result}
use Rattle.road_map.specs.declared.parts.Parts.{Parts}
use Rattle.road_io.specs.declared.disk.Disk.{Ghosts}
use Rattle.road_io.specs.Moments.{EachImage, AtEachMoment}
use Rattle.book_model.specs.declared.settings.Settings.{Settings}
use Rattle.lms_tree.specs.Signatures.{KeyOf, number_at}
use Rattle.desk_areas.specs.Layout.{slots_of, slots_at, base_of, gate_of, IsSigned, PutsText}
use Rattle.key_desk.specs.Desk.{IsSignature}
use Rattle.key_desk.specs.declared.desk.Desk.{Desk as View}
use Rattle.key_desk.specs.declared.desk.DeskError.TheVariants as desk_errors
use Rattle.proof_octets.specs.declared.publication.Publication.{Publication}
use Rattle.proof_octets.specs.Headers.{header_text}
use Rattle.route_server.specs.declared.errors.BuildError.{BuildError}
use Rattle.route_owner.specs.declared.errors.PublishError.{PublishError}
use Rattle.route_owner.specs.declared.errors.PublishError.TheVariants.{Build, Desk, Memory}
use Rattle.route_owner.specs.Published.{slot_of, IsPublication, IsSealed, OnSigning, OnNoSigning, SignsInSlot, SignsHeader, IsUsedUp, IsClosed, Refuses, AnswersRefusal, CanPublish}
use Rattle.octet_text.specs.Want.{no_memory}

-- ---- results that come after a signing

module _ (P : Type 0) where
  at_success : (p : Publication) → OnSigning (Ok p) P → P
  at_success p h = h

  at_fault : OnSigning {X = Publication} (Err (Desk desk_errors.DiskFault)) P → P
  at_fault h = h

  without_a_book : (e : BuildError) → OnNoSigning {X = Publication} (Err (Build e)) P → P
  without_a_book e h = h

  at_short_memory : OnNoSigning {X = Publication} (Err (Memory no_memory)) P → P
  at_short_memory h = h

-- ---- the published octets

module _ (hash : List ℕ → List ℕ) (key : KeyOf) (parts : Parts) (s : Settings) (p : Publication) where
  -- the last slot of a key signs no header
  not_by_the_last : IsPublication hash key parts s p → slot_of p + 1 ≡ slots_of key.kind → ⊥
  not_by_the_last h is = omega (arith, h.slot, is)

  of_these_parts : IsPublication hash key parts s p → p.parts ≡ parts
  of_these_parts h = h.of_parts

  of_these_settings : IsPublication hash key parts s p → p.settings ≡ s
  of_these_settings h = h.of_settings

  well_signed : IsPublication hash key parts s p → IsSignature key (number_at p.signature 0) (header_text p.header) p.signature
  well_signed h = h.signed

module _ {D : Type 0} (g : Ghosts D) (old new : D) (area : ℕ) (p : Publication) where
  stands_in_its_slot : IsSealed g old new area p → EachImage g new (λ i. IsSigned i (record { area = area; number = number_at p.signature 0 }) (header_text p.header))
  stands_in_its_slot h = h.stands

  was_unsigned : IsSealed g old new area p → EachImage g old (λ i. gate_of i (record { area = area; number = number_at p.signature 0 }) ≡ 0)
  was_unsigned h = h.was_free

  not_in_the_last : IsSealed g old new area p → EachImage g new (λ i. slot_of p + 1 ≡ slots_at i (base_of i area) → ⊥)
  not_in_the_last h i now is = omega (arith, h.early i now, is)

-- a signing is not in a last slot, and changes nothing else
not_the_last : (area number : ℕ) (text d i : List ℕ) → SignsInSlot (record { area = area; number = number }) text d i → number + 1 ≡ slots_at d (base_of d area) → ⊥
not_the_last area number text d i h is = omega (arith, h.early, is)

nothing_else : (area number : ℕ) (text d i : List ℕ) → SignsInSlot (record { area = area; number = number }) text d i → PutsText (record { area = area; number = number }) text d i
nothing_else area number text d i h = h.alone

-- the text that is signed is the header of the parts and the settings
one_header : {D : Type 0} (g : Ghosts D) (old new : D) (hash : List ℕ → List ℕ) (parts : Parts) (s : Settings) → (h : SignsHeader g old new hash parts s)
    → AtEachMoment g old new (λ d i. (i ≡ d) ⊎ SignsInSlot h.slot (header_text h.header) d i)
one_header g old new hash parts s h = h.each

-- ---- why nothing is published

module _ (hash : List ℕ → List ℕ) (parts : Parts) (s : Settings) (desk : View) where
  used_up_is_answered : (answer : Result Publication PublishError) → AnswersRefusal hash parts s desk answer → IsUsedUp hash parts s desk
      → (answer ≡ Err (Desk desk_errors.KeysUsedUp)) ⊎ (answer ≡ Err (Memory no_memory))
  used_up_is_answered answer h is = h (Desk desk_errors.KeysUsedUp) is

  closed_is_answered : (answer : Result Publication PublishError) → AnswersRefusal hash parts s desk answer → IsClosed hash parts s desk
      → (answer ≡ Err (Desk desk_errors.Closed)) ⊎ (answer ≡ Err (Memory no_memory))
  closed_is_answered answer h is = h (Desk desk_errors.Closed) is

  fault_refuses_nothing : Refuses hash parts s desk (Desk desk_errors.DiskFault) → ⊥
  fault_refuses_nothing h = h

  used_up_desk_is_open : IsUsedUp hash parts s desk → desk.is_open ≡ true
  used_up_desk_is_open h = h.opened

  closed_desk_is_closed : IsClosed hash parts s desk → desk.is_open ≡ false
  closed_desk_is_closed h = h.closed

  -- a free last slot does not allow a publication
  last_is_kept : (c : CanPublish hash parts s desk) → c.number + 1 ≡ slots_of desk.key.kind → ⊥
  last_is_kept c is = omega (arith, c.early, is)
