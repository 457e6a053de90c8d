-- Reducing a list of pairs to one slot and one text.
use Rattle.std.proofs.Common.{◌≡◌, ℕ, ◌<◌, ◌≤◌, List, [], ◌∷◌, ◌++◌, ◌≢◌, arith, subst, sym, Some}
use Rattle.std.specs.Option.{ForSome}
use Rattle.std.specs.List.{All}
use Rattle.std.proofs.lemmas.List.Elements.{All-weaker, All-nil, All-head, All-push}
use Rattle.road_io.specs.declared.disk.Disk.{Ghosts}
use Rattle.road_io.specs.Disk.{Stays}
use Rattle.road_io.specs.Moments.{Image, EachImage, AtEachMoment}
use Rattle.road_io.proofs.MomentLaws.{continued}
use Rattle.desk_areas.specs.Layout.{SlotId, gate_of, IsSigned, SameSigned, SignsAtMost, OutsideSlot, IsOpen}
use Rattle.desk_areas.proofs.Areas.{open_first, open_down}
use Rattle.key_desk.specs.Stands.{AllSigned, Stands, KeepsStanding}

module _ {D : Type 0} (g : Ghosts D) (old new : D) where
  -- it suffices that a step keeps each pair
  pub standing : (Step : List ℕ → List ℕ → Type 0) → AtEachMoment g old new Step → ((d i : List ℕ) → Step d i → (s : SlotId) (t : List ℕ) → IsSigned d s t → IsSigned i s t) → KeepsStanding g old new
  standing Step moments keeps = record {
    later = moments.later;
    each = λ pairs stands k i from to h.
        let e = moments.each k i from to h in
        All-weaker (λ pair. IsSigned e.0 pair.0 pair.1) (λ pair. IsSigned i pair.0 pair.1) (λ pair. keeps e.0 i e.2 pair.0 pair.1) pairs (stands e.0 e.1);
  }

  pub standing_same : AtEachMoment g old new Stays → KeepsStanding g old new
  standing_same moments = standing Stays moments (λ d i is s t signed. subst (λ (x : List ℕ). IsSigned x s t) (sym is) signed)

  pub standing_write : (q : SlotId) → AtEachMoment g old new (λ d i. OutsideSlot q d i × SameSigned d i) → KeepsStanding g old new
  standing_write q moments = standing (λ d i. OutsideSlot q d i × SameSigned d i) moments (λ d i h. h.1.keeps)

  pub standing_spend : (q : SlotId) (text : List ℕ) → AtEachMoment g old new (λ d i. OutsideSlot q d i × SignsAtMost q text d i) → KeepsStanding g old new
  standing_spend q text moments = standing (λ d i. OutsideSlot q d i × SignsAtMost q text d i) moments (λ d i h. h.1.keeps)

  -- if any pair is signed, the key's gate is open in the content read
  pub standing_create : g.clock old ≤ g.clock new → ((c : List ℕ) → g.content old ≡ Some c → Image g old c) → (ForSome (g.content old) IsOpen → AtEachMoment g old new Stays) → KeepsStanding g old new
  standing_create later reads stays = record { later = later; each = by_list }
    where
      open_of : (pair : SlotId × List ℕ) (pairs : List (SlotId × List ℕ)) (c : List ℕ) → AllSigned (pair ∷ pairs) c → IsOpen c
      open_of pair pairs c all =
          let signed = All-head (λ p. IsSigned c p.0 p.1) pair pairs all in
          record { long = omega (arith, signed.place.whole); gate = open_first c (open_down c 0 pair.0.area (omega arith) signed.area) }

      by_list : (pairs : List (SlotId × List ℕ)) → Stands g old pairs → (k : ℕ) (i : List ℕ) → g.clock old ≤ k → k ≤ g.clock new → g.image_at new k i → AllSigned pairs i
      by_list [] stands k i from to h = All-nil (λ pair. IsSigned i pair.0 pair.1)
      by_list (pair ∷ pairs) stands k i from to h =
          (standing_same (stays (λ c is. open_of pair pairs c (stands c (reads c is))))).each (pair ∷ pairs) stands k i from to h

  -- the pair signed now is added to the pairs signed before
  pub stands_more : (pairs : List (SlotId × List ℕ)) (slot : SlotId) (text : List ℕ) → KeepsStanding g old new → Stands g old pairs → EachImage g new (λ i. IsSigned i slot text) → Stands g new (pairs ++ (slot, text) ∷ [])
  stands_more pairs slot text keeps stands signed i now =
      All-push (λ pair. IsSigned i pair.0 pair.1) pairs (slot, text) (keeps.each pairs stands (g.clock new) i keeps.later (omega arith) now) (signed i now)

pub not_closed : (pairs : List (SlotId × List ℕ)) (slot : SlotId) (i : List ℕ) → gate_of i slot ≡ 0 → AllSigned pairs i → All (λ pair. pair.0 ≢ slot) pairs
not_closed pairs slot i shut all = All-weaker (λ pair. IsSigned i pair.0 pair.1) (λ pair. pair.0 ≢ slot)
    (λ pair signed is. let open_gate : 0 < gate_of i slot = subst (λ (x : SlotId). 0 < gate_of i x) is signed.spent.gate in omega (arith, open_gate, shut)) pairs all

-- a call that first looks, and writes only if the key gate was closed, keeps the signed pairs
pub stands_shut : {D : Type 0} (g : Ghosts D) (old mid new : D) (Step : List ℕ → List ℕ → Type 0) → ((c : List ℕ) → g.content old ≡ Some c → Image g old c) → AtEachMoment g old mid Stays → AtEachMoment g mid new Step
    → (ForSome (g.content old) IsOpen → (i : List ℕ) → Image g mid i → ⊥) → KeepsStanding g old new
stands_shut g old mid new Step reads look rest shut =
    standing_create g old new (omega (arith, look.later, rest.later)) reads (λ is_open. continued g old mid new Stays Step Stays look rest (λ d i now h. h) (λ d e i now_d now_e h k. absurd (shut is_open e now_e)))

-- a call that changes no octet of the prefix, or signs one more pair, keeps the signed pairs
pub standing_by : {D : Type 0} (g : Ghosts D) (old new : D) (slot : SlotId) (text : List ℕ) → AtEachMoment g old new (SignsAtMost slot text) → KeepsStanding g old new
standing_by g old new slot text moments = standing g old new (SignsAtMost slot text) moments (λ d i h. h.keeps)
