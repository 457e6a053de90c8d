-- The definitions of a look, evaluated for some chains and results. A changed definition fails here.
use Rattle.std.proofs.Common.{◌≡◌, ℕ, ◌≤◌, List, [], ◌∷◌, length, Some, None, Ok, Err, true, false, arith, refl, ap, ◌∙◌}
use Rattle.road_io.specs.declared.disk.Disk.{Ghosts}
use Rattle.road_io.specs.Causes.{Rose}
use Rattle.road_io.specs.Disk.{Stays}
use Rattle.road_io.specs.Moments.{EachImage, AtEachMoment}
use Rattle.lms_tree.specs.Links.{link_text}
use Rattle.lms_tree.specs.Signatures.{public_key, verified}
use Rattle.lms_tree.specs.declared.links.Link.{Link}
use Rattle.desk_areas.specs.Layout.{SlotId, IsSigned}
use Rattle.key_desk.specs.declared.desk.Desk.{Desk}
use Rattle.key_desk.specs.declared.desk.DeskError.TheVariants.{KeysUsedUp, DiskFault, Closed}
use Rattle.key_desk.specs.Desk.{key_of}
use Rattle.desk_look.specs.declared.errors.LookError.TheVariants as look_errors
use Rattle.desk_look.specs.declared.forgery.Forgery.{Forgery}
use Rattle.desk_look.specs.Forgeries.{IsForgedLink, IsForgedHeader, Looked, forgery, forgery_of, key_before}
use Rattle.desk_look.specs.Left.{IsLeft}
use Rattle.desk_look.specs.Looks.{Look, IsKeyFrom, look_at}

-- ---- a chain of two links

module _ (key header signature : List ℕ) (one two : Link) where
  abbrev chain : List Link
  chain = one ∷ two ∷ []

  before_the_first : key_before key chain 0 ≡ key
  before_the_first = refl

  before_the_second : key_before key chain 1 ≡ one.key
  before_the_second = refl

  behind_the_last : key_before key chain 2 ≡ two.key
  behind_the_last = refl

  of_the_second : forgery_of key chain 1 ≡ forgery one.key (link_text two.key) two.signature
  of_the_second = refl

  module _ (look : Look) where
    -- if all texts are reported as signed, each link text is signed, and so is the header
    first_is_signed : Looked look key chain header signature (Ok None) → look.Signed (link_text one.key)
    first_is_signed h = h.linked 0 (omega arith)

    second_is_signed : Looked look key chain header signature (Ok None) → look.Signed (link_text two.key)
    second_is_signed h = h.linked 1 (omega arith)

    header_is_signed : Looked look key chain header signature (Ok None) → look.Signed header
    header_is_signed h = h.sealed

    -- a text reported as forged is not signed, and its signature is valid under a key of the owner
    found_is_unsigned : (f : Forgery) → Looked look key chain header signature (Ok (Some f)) → look.Unsigned f.text
    found_is_unsigned f h = h.forgery.unsigned

    found_is_verified : (f : Forgery) → Looked look key chain header signature (Ok (Some f)) → verified f.key f.text f.signature ≡ Ok tt
    found_is_verified f h = h.forgery.good

    found_is_owned : (f : Forgery) → Looked look key chain header signature (Ok (Some f)) → look.Owns f.key
    found_is_owned f h = h.forgery.own

    -- a header is reported only if each link text is signed
    links_come_first : (f : Forgery) → IsForgedHeader look key chain header signature f → look.Signed (link_text one.key) × look.Signed (link_text two.key)
    links_come_first f h = (h.linked 0 (omega arith), h.linked 1 (omega arith))

    -- the second link is reported only if the text of the first link is signed
    first_comes_first : (f : Forgery) → (h : IsForgedLink look key chain f) → h.number ≡ 1 → look.Signed (link_text one.key)
    first_comes_first f h is = h.before 0 (omega (arith, is))

    -- no link after the last one is reported
    none_behind : (f : Forgery) → (h : IsForgedLink look key chain f) → h.number ≤ 1
    none_behind f h = omega (arith, h.known)

    at_short_memory : Looked look key chain header signature (Err (look_errors.Desk KeysUsedUp)) → look.Fails KeysUsedUp
    at_short_memory h = h

-- without links the key of a forged header is the first key
without_links : (look : Look) (key header signature : List ℕ) (f : Forgery) → IsForgedHeader look key [] header signature f → f ≡ forgery key header signature
without_links look key header signature f h =
    let none : h.reached ≡ 0 = omega (arith, h.upto) in
    h.is ∙ ap (λ n. forgery (key_before key [] n) header signature) none

-- ---- a desk and its disk

module _ {D : Type 0} (g : Ghosts D) (desk : Desk) (old new : D) where
  -- a desk with one area has no later key
  no_later_key : (key : List ℕ) → length desk.earlier ≡ 0 → IsKeyFrom desk 1 key → ⊥
  no_later_key key one h = omega (arith, one, h.from, h.upto)

  last_key : (key : List ℕ) → key ≡ public_key (key_of desk (length desk.earlier)) → IsKeyFrom desk 0 key
  last_key key is = record { area = length desk.earlier; from = omega arith; upto = omega arith; is = is }

  -- why a look fails
  never_used_up : (look_at g desk old new).Fails KeysUsedUp → ⊥
  never_used_up h = h

  closed_is_closed : (look_at g desk old new).Fails Closed → desk.is_open ≡ false
  closed_is_closed h = h

  fault_is_counted : (look_at g desk old new).Fails DiskFault → Rose (g.faults old) (g.faults new)
  fault_is_counted h = h.1

  fault_of_an_open_desk : (look_at g desk old new).Fails DiskFault → desk.is_open ≡ true
  fault_of_an_open_desk h = h.0

  -- a signed text is in one slot of every image; an unsigned text is in no slot
  in_one_slot : (text : List ℕ) → (look_at g desk old new).Signed text → (slot : SlotId) × EachImage g new (λ i. IsSigned i slot text)
  in_one_slot text h = h.1

  in_no_slot : (text : List ℕ) → (look_at g desk old new).Unsigned text → EachImage g new (λ i. (slot : SlotId) → ¬ IsSigned i slot text)
  in_no_slot text h = h.1

  -- ---- what a look leaves unchanged

  images_stay : (later : Desk) → IsLeft g desk old later new → AtEachMoment g old new Stays
  images_stay later h = h.moments

  open_unless_it_failed : (later : Desk) → IsLeft g desk old later new → desk.is_open ≡ true → (Rose (g.faults old) (g.faults new) → ⊥) → later.is_open ≡ true
  open_unless_it_failed later h = h.stays_open

  counts_stay : (later : Desk) → IsLeft g desk old later new → later.counts ≡ desk.counts
  counts_stay later h = h.counts

  key_stays : (later : Desk) → IsLeft g desk old later new → later.key ≡ desk.key
  key_stays later h = h.areas.key

  faults_stay_or_rise : (later : Desk) → IsLeft g desk old later new → g.faults old ≤ g.faults new
  faults_stay_or_rise later h = h.faults
