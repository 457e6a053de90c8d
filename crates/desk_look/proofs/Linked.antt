-- A link text is signed exactly if it names a later key of the desk.
use Rattle.std.proofs.Common.{◌≡◌, ◌≢◌, ◌⊎◌, ◌<◌, ◌≤◌, ◌-◌, ◌+◌, inl, inr, ℕ, zero, suc, Bool, true, false, List, [], ◌∷◌, length, take, drop, Result, Option, None, Some, Ok, Err, refl, sym, ap, subst, ◌∙◌, arith}
use Rattle.road_io.specs.declared.disk.Disk.{Ghosts}
use Rattle.road_io.specs.Moments.{EachImage}
use Rattle.lms_tree.specs.Signatures.{public_key, verified}
use Rattle.lms_tree.specs.Links.{IsLink, link_mark, link_text}
use Rattle.lms_tree.specs.Chains.{after_link, chained, chained_from}
use Rattle.lms_tree.specs.declared.links.Link.{Link}
use Rattle.lms_tree.specs.declared.seals.SealError.{SealError}
use Rattle.desk_areas.specs.Layout.{SlotId, slots_of, slots_at, base_of, kind_at, last_slot, text_of, IsSigned, HasLink}
use Rattle.desk_areas.proofs.Areas.{open_before, open_down, open_link}
use Rattle.key_desk.specs.declared.desk.Desk.{Desk}
use Rattle.key_desk.specs.Desk.{key_of, Fits}
use Rattle.key_desk.proofs.Finding.{own_signed}
use Rattle.desk_look.specs.Forgeries.{link_at, key_before, text_at, forgery, forgery_of, AreLinksSigned, Forges, Looked}
use Rattle.desk_look.specs.Looking.{FindsForgery, LeadsOn, IsFirstStray, IsSealingKey}
use Rattle.desk_look.specs.Looks.{IsKeyFrom, Look, Says, look_at}
use Rattle.desk_look.specs.declared.forgery.Forgery.{Forgery}

-- ---- the slots of link texts

is_link : (key : List ℕ) → length key ≡ 56 → IsLink (link_text key)
is_link key long = record { size = omega (arith, long); mark = refl }

named_is : (key other : List ℕ) → link_text key ≡ link_text other → key ≡ other
named_is key other same = ap (drop 4) same

-- an area comes before that of a later key
before_of : (area : ℕ) → 1 ≤ area → (a : ℕ) × (area ≡ suc a)
before_of zero le = absurd (omega (arith, le))
before_of (suc a) le = (a, refl)

abbrev slot_in : ℕ → ℕ → SlotId
slot_in area number = record { area = area; number = number - 1 }

module _ {D : Type 0} (g : Ghosts D) (desk : Desk) (disk : D) (fits : Fits g desk disk) where
  -- the last slot of an area signs the link text of the next area
  in_last : (a : ℕ) → a < length desk.earlier → EachImage g disk (λ i. IsSigned i (record { area = a; number = slots_of (key_of desk a).kind - 1 }) (link_text (public_key (key_of desk (suc a)))))
  in_last a lt i now =
      let areas = fits.areas i now in
      let opened = open_down i (suc a) (length desk.earlier) (omega (arith, lt)) areas.current.is_open in
      let link : HasLink i a = open_link i a opened in
      let kind : slots_at i (base_of i a) ≡ slots_of (key_of desk a).kind = ap (λ (k : ℕ). slots_of k) (areas.keys a (omega (arith, lt))).kind in
      let slot : last_slot i a ≡ record { area = a; number = slots_of (key_of desk a).kind - 1 } = ap (λ (n : ℕ). slot_in a n) kind in
      subst (λ (s : SlotId). IsSigned i s (link_text (public_key (key_of desk (suc a))))) slot
      (record { area = open_before i a opened; place = link.place; spent = record { gate = link.gate; text_is = areas.linked a lt } })

  pub named : (key : List ℕ) → IsKeyFrom desk 1 key → (slot : SlotId) × EachImage g disk (λ i. IsSigned i slot (link_text key))
  named key from =
      let b = before_of from.area from.from in
      let is : key ≡ public_key (key_of desk (suc b.0)) = subst (λ (n : ℕ). key ≡ public_key (key_of desk n)) b.1 from.is in (
        record { area = b.0; number = slots_of (key_of desk b.0).kind - 1 },
        subst (λ (k : List ℕ). EachImage g disk (λ i. IsSigned i (record { area = b.0; number = slots_of (key_of desk b.0).kind - 1 }) (link_text k))) (sym is) (in_last b.0 (omega (arith, b.1, from.upto))),
      )

  pub unnamed : (key : List ℕ) → length key ≡ 56 → ¬ IsKeyFrom desk 1 key → EachImage g disk (λ i. (slot : SlotId) → ¬ IsSigned i slot (link_text key))
  unnamed key long other i now slot signed =
      let areas = fits.areas i now in
      let own = own_signed desk i slot (link_text key) areas signed in
      let link : IsLink (text_of i slot) = subst IsLink (sym signed.spent.text_is) (is_link key long) in
      let last = areas.plain slot own signed.spent.gate link in
      let same : link_text (public_key (key_of desk (suc slot.area))) ≡ link_text key =
      sym (areas.linked slot.area last.1) ∙ ap (text_of i) (sym last.0) ∙ signed.spent.text_is in
      other (record { area = suc slot.area; from = omega arith; upto = omega (arith, last.1); is = sym (named_is (public_key (key_of desk (suc slot.area))) key same) })

-- ---- the keys that sign a chain's links

both : (n : ℕ) (v : Result (Unit {0}) SealError) (r : Result (Unit {0}) (ℕ × SealError)) → after_link n v r ≡ Ok tt → (v ≡ Ok tt) × (r ≡ Ok tt)
both n (Ok _) r so = (refl, so)
both n (Err why) r so = absurd cc

-- the key before a link, after the first link
before_next : (key : List ℕ) (first : Link) (links : List Link) (n : ℕ) → key_before key (first ∷ links) (suc n) ≡ key_before first.key links n
before_next key first links zero = refl
before_next key first links (suc n) = refl

-- each link of a chain that is followed is signed under the key before it
chained_at : (m : ℕ) (key : List ℕ) (links : List Link) (n : ℕ) → chained_from m key links ≡ Ok tt → n < length links → verified (key_before key links n) (text_at links n) (link_at links n).signature ≡ Ok tt
chained_at m key [] n so lt = absurd (omega (arith, lt))
chained_at m key (first ∷ links) zero so lt = (both m (verified key (link_text first.key) first.signature) (chained_from (m + 1) first.key links) so).0
chained_at m key (first ∷ links) (suc n) so lt =
    let rest = (both m (verified key (link_text first.key) first.signature) (chained_from (m + 1) first.key links) so).1 in
    subst (λ (k : List ℕ). verified k (text_at links n) (link_at links n).signature ≡ Ok tt) (sym (before_next key first links n)) (chained_at (m + 1) first.key links n rest (omega (arith, lt)))

-- ---- the result for a chain and a header

module _ {D : Type 0} (g : Ghosts D) (desk : Desk) (disk new : D) (fits : Fits g desk new) (key : List ℕ) (links : List Link) (header signature : List ℕ)
    (own : IsKeyFrom desk 0 key) (chain : chained key links ≡ Ok tt) where
  -- a key to which links lead belongs to the desk
  owned : (n : ℕ) → ((m : ℕ) → m < n → IsKeyFrom desk 1 (link_at links m).key) → IsKeyFrom desk 0 (key_before key links n)
  owned zero led = own
  owned (suc n) led = let from = led n (omega arith) in record { area = from.area; from = omega arith; upto = from.upto; is = from.is }

  linked : desk.is_open ≡ true → (n : ℕ) → IsKeyFrom desk 1 (link_at links n).key → (look_at g desk disk new).Signed (text_at links n)
  linked opened n from = (opened, named g desk new fits (link_at links n).key from)

  found_link : desk.is_open ≡ true → (n : ℕ) → IsFirstStray desk links n → (f : Forgery) → f ≡ forgery_of key links n → Forges (look_at g desk disk new) key links header signature f
  found_link opened n stray f is =
      let unsigned : (look_at g desk disk new).Unsigned (text_at links n) = (opened, unnamed g desk new fits (link_at links n).key stray.long stray.stray) in
      record {
        first = inl (record { number = n; known = stray.known; before = λ m lt. linked opened m (stray.before m lt); unsigned = unsigned; is = is });
        forgery = rw is (record { own = owned n stray.before; good = chained_at 0 key links n chain stray.known; unsigned = unsigned });
      }

  found_header : desk.is_open ≡ true → LeadsOn desk links → (look_at g desk disk new).Unsigned header → (f : Forgery) → IsSealingKey key links header signature f.key → f.text ≡ header → f.signature ≡ signature
      → Forges (look_at g desk disk new) key links header signature f
  found_header opened led unsigned f sealing text_is signature_is =
      let last = key_before key links sealing.reached in
      let is : f ≡ forgery last header signature =
      ap (λ (k : List ℕ). forgery k f.text f.signature) sealing.is ∙ ap (λ (t : List ℕ). forgery last t f.signature) text_is ∙ ap (λ (s : List ℕ). forgery last header s) signature_is in
      record {
        first = inr (record { linked = λ n lt. linked opened n (led n lt); unsigned = unsigned; reached = sealing.reached; upto = sealing.upto; is = is });
        forgery = record {
          own = subst (IsKeyFrom desk 0) (sym sealing.is) (owned sealing.reached (λ m lt. led m (omega (arith, lt, sealing.upto))));
          good = rw (text_is, signature_is) sealing.good;
          unsigned = subst (look_at g desk disk new).Unsigned (sym text_is) unsigned;
        };
      }

  -- from the result for the header, and from what the keys imply about the links
  pub looked : (is_signed : Bool) (found : Option Forgery) → Says (look_at g desk disk new) header (Ok is_signed) → FindsForgery desk key links header signature is_signed found → Looked (look_at g desk disk new) key links header signature (Ok found)
  looked true None says finds = record { linked = λ n lt. linked says.0 n (finds.0 n lt); sealed = says }
  looked false None says finds = absurd cc
  looked true (Some f) says (inl h) = found_link says.0 h.0 h.1 f h.2
  looked false (Some f) says (inl h) = found_link says.0 h.0 h.1 f h.2
  looked true (Some f) says (inr h) = absurd cc
  looked false (Some f) says (inr h) = found_header says.0 h.0 says f h.2 h.3 h.4
