-- The gate over the link text in a free last slot is opened.
use Rattle.std.proofs.Common.{◌≡◌, ◌≢◌, ◌⊎◌, ℕ, suc, ◌+◌, ◌-◌, ◌<◌, ◌≤◌, List, length, arith, inl, inr, refl, sym, ◌∙◌, ap, subst, Some, Option}
use Rattle.std.specs.Option.{ForSome}
use Rattle.road_io.specs.declared.disk.Disk.{Ghosts}
use Rattle.road_io.specs.Disk.{Stays}
use Rattle.road_io.specs.Moments.{Image, EachImage, AtEachMoment}
use Rattle.road_io.proofs.MomentLaws.{weaker, continued}
use Rattle.desk_areas.specs.Layout.{SlotId, slots_at, place_in, base_of, place_of, gate_of, text_of, last_slot, IsSigned, AgreesOutside, OutsideSlot}
use Rattle.desk_areas.proofs.Areas.{base_next, signed_kept, closed_no_link}
use Rattle.desk_areas.proofs.Pairs.{gate_outside}
use Rattle.key_desk.specs.Stands.{KeepsStanding, SameKeys}
use Rattle.key_desk.proofs.KeptKeys.{stays_keys, slot_keys}
use Rattle.key_desk.proofs.Standing.{standing}
use Rattle.desk_sight.specs.Looks.{HasClosedLink, OpensLink, SpendsLink}

module _ (d i : List ℕ) (end : ℕ) (closed : HasClosedLink end d) where
  abbrev slot : SlotId
  slot = last_slot d closed.area

  -- the slot begins 128 octets before the area's end
  pub place_is : place_of d (last_slot d closed.area) ≡ end - 128
  place_is = let ends = closed.ends in let next = base_next d closed.area in let known = closed.known in omega (arith, ends, next, known)

  pub room : end - 128 + 128 ≤ length d
  room = let ends = closed.ends in let next = base_next d closed.area in let known = closed.known in let within = closed.within in omega (arith, ends, next, known, within)

  known_last : (last_slot d closed.area).number < slots_at d (base_of d closed.area)
  known_last = let known = closed.known in omega (arith, known)

  module _ (alone : AgreesOutside (end - 128) (end - 128 + 1) d i) where
    there : AgreesOutside (place_of d (last_slot d closed.area)) (place_of d (last_slot d closed.area) + 1) d i
    there = subst (λ (p : ℕ). AgreesOutside p (p + 1) d i) (sym place_is) alone

    outside : OutsideSlot (last_slot d closed.area) d i
    outside = gate_outside (last_slot d closed.area) (text_of d (last_slot d closed.area)) d i known_last closed.shut refl there

    other : (s : SlotId) → 0 < gate_of d s → s ≢ last_slot d closed.area
    other s gate is = let here : 0 < gate_of d (last_slot d closed.area) = subst (λ (x : SlotId). 0 < gate_of d x) is gate in let shut = closed.shut in omega (arith, here, shut)

    pub opened_keeps : (s : SlotId) (t : List ℕ) → IsSigned d s t → IsSigned i s t
    opened_keeps s t signed = signed_kept (last_slot d closed.area) d i outside known_last s t (λ a lt. closed_no_link (last_slot d closed.area) d closed.shut a) (other s signed.spent.gate) signed

    pub opened_keys : SameKeys d i
    opened_keys = slot_keys (last_slot d closed.area) d i outside known_last

abbrev pub MayOpen : List ℕ → List ℕ → Type 0
MayOpen d i = (i ≡ d) ⊎ OpensLink d i

pub spends_by : {D : Type 0} (g : Ghosts D) (old new : D) → AtEachMoment g old new (λ d i. (i ≡ d) ⊎ OpensLink d i) → SpendsLink g old new
spends_by g old new moments = record {
  moments = moments;
  stands = standing g old new (λ d i. (i ≡ d) ⊎ OpensLink d i) moments
      (λ d i h s t signed. elim h [
        | inl is ↦ subst (λ (x : List ℕ). IsSigned x s t) (sym is) signed
        | inr opens ↦ opened_keeps d i opens.end opens.closed opens.alone s t signed
      ]);
  keys = weaker g old new (λ d i. (i ≡ d) ⊎ OpensLink d i) SameKeys moments (λ d i now h. elim h [
    | inl is ↦ stays_keys d i is
    | inr opens ↦ opened_keys d i opens.end opens.closed opens.alone
  ]);
}

pub spends_nothing : {D : Type 0} (g : Ghosts D) (old new : D) → AtEachMoment g old new Stays → SpendsLink g old new
spends_nothing g old new stays = spends_by g old new (weaker g old new Stays (λ d i. (i ≡ d) ⊎ OpensLink d i) stays (λ d i now is. inl is))

pub spends_after : {D : Type 0} (g : Ghosts D) (old mid new : D) (end : ℕ) → AtEachMoment g old mid Stays → EachImage g mid (HasClosedLink end)
    → AtEachMoment g mid new (AgreesOutside (end - 128) (end - 128 + 1)) → SpendsLink g old new
spends_after g old mid new end stays closed opens = spends_by g old new (continued g old mid new Stays (AgreesOutside (end - 128) (end - 128 + 1)) (λ d i. (i ≡ d) ⊎ OpensLink d i) stays opens
    (λ d i now is. inl is)
    (λ d e i now_d now_e is h. inr (subst (λ (x : List ℕ). OpensLink x i) is (record { end = end; closed = closed e now_e; alone = h }))))

-- after a sync the stated content is the only image
pub closed_everywhere : {D : Type 0} (g : Ghosts D) (old mid : D) (end : ℕ) → ForSome (g.content old) (HasClosedLink end) → g.content mid ≡ g.content old → ((i : List ℕ) → Image g mid i → g.content mid ≡ Some i) → EachImage g mid (HasClosedLink end)
closed_everywhere g old mid end closed same one i now = closed i (sym same ∙ one i now)
