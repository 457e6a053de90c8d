-- What no longer waits after a look, and where a header can wait.
use Rattle.std.proofs.Common.{◌≡◌, ◌≢◌, ℕ, suc, ◌+◌, ◌-◌, ◌<◌, ◌≤◌, List, Option, Some, None, MatchOption, IfSome, Bool, true, false, get_or, arith, inl, inr, refl, sym, ◌∙◌, ap, subst}
use Rattle.std.proofs.lemmas.Bool.{cases_lt}
use Rattle.desk_areas.specs.Layout.{SlotId, slots_at, place_in, base_of, place_of, gate_at, gate_of, IsCurrent}
use Rattle.desk_areas.proofs.Growth.{one_current}
use Rattle.key_desk.specs.Spending.{IsLowestFree}
use Rattle.desk_sight.specs.Texts.{HasHeader}
use Rattle.desk_sight.specs.Slots.{IsOrderly, IsWaitingIn}
use Rattle.desk_sight.specs.Areas.{early_at, IsWhole, IsPlain, IsWaitingLink, IsFollowed}
use Rattle.desk_sight.specs.Sights.{IsSight, IsSightOf}
use Rattle.desk_sight.specs.Looks.{IsFitFor, IsMade}
use Rattle.desk_sight.specs.Tidy.{IsTidy}
use Rattle.desk_sight.specs.declared.slots.Signed.{Signed}
use Rattle.desk_sight.specs.declared.sight.Sight.{Sight}
use Rattle.desk_sight.specs.declared.looking.Use.TheVariants.{Publish, Succeed}
use Rattle.desk_sight.proofs.Unlinked.{one_link}

-- the lowest free slot of an orderly area is the one after the spent slots
lowest_is : (image : List ℕ) (slot : SlotId) (spent : ℕ) → IsLowestFree image slot → IsOrderly image (base_of image slot.area) spent (early_at image slot.area) → spent ≡ slot.number
lowest_is image slot spent free so = elim (cases_lt spent slot.number) [
  | inl less ↦
      let gate = free.lowest spent less in
      let early = free.early in
      let shut = so.shut spent (omega arith) (omega (arith, less, early)) in
      absurd (omega (arith, gate, shut))
  | inr ge ↦ elim (cases_lt slot.number spent) [
    | inl more ↦ let gate = so.used slot.number more in let shut = free.shut in absurd (omega (arith, gate, shut))
    | inr le ↦ omega (arith, ge, le)
  ]
]

pub no_header : (public : Option (List ℕ)) (image : List ℕ) (sight : Sight) → IsFitFor Publish public image sight → (slot : SlotId) → IsLowestFree image slot → (signed : Signed) → HasHeader image (place_of image slot) signed → ⊥
no_header public image sight fit slot free signed has = waits fit.spent
  where
    here : IsSightOf image slot.area sight
    here = subst (λ (a : ℕ). IsSightOf image a sight) (one_current image fit.found.area slot.area fit.found.current free.current) fit.found.here

    spent_is : sight.spent ≡ slot.number
    spent_is = lowest_is image slot sight.spent free here.slots

    waiting : IsWaitingIn image (base_of image slot.area) sight.spent (early_at image slot.area) signed
    waiting = record {
      free = let early = free.early in omega (arith, early, spent_is);
      header = subst (λ (n : ℕ). HasHeader image (place_in (base_of image slot.area) n) signed) (sym spent_is) has;
    }

    waits : sight.waiting ≡ None → ⊥
    waits none =
        let not : (it : Signed) → IsWaitingIn image (base_of image slot.area) sight.spent (early_at image slot.area) it → ⊥ =
        subst (λ (w : Option Signed). MatchOption w ((it : Signed) → IsWaitingIn image (base_of image slot.area) sight.spent (early_at image slot.area) it → ⊥) (IsWaitingIn image (base_of image slot.area) sight.spent (early_at image slot.area))) none here.waiting in
        not signed waiting

pub no_link : (public : Option (List ℕ)) (image : List ℕ) (sight : Sight) → IsFitFor Succeed public image sight → (area : ℕ) → IsCurrent image area → (key : List ℕ) → IsWaitingLink image area key → (IsMade image (suc area) key → ⊥) × (IsFollowed image area → ⊥)
no_link public image sight fit area current key waits = go sight.link here.link fit.spent
  where
    here : IsSightOf image area sight
    here = subst (λ (a : ℕ). IsSightOf image a sight) (one_current image fit.found.area area fit.found.current current) fit.found.here

    go : (link : Option (List ℕ)) → MatchOption link ((k : List ℕ) → IsWaitingLink image area k → ⊥) (IsWaitingLink image area) → IfSome link (λ l. (IsMade image sight.key l → ⊥) × (sight.is_followed ≡ false)) → (IsMade image (suc area) key → ⊥) × (IsFollowed image area → ⊥)
    go None told nothing = absurd (told key waits)
    go (Some link) told nothing =
        let same : key ≡ link = one_link key link (sym waits.names.is ∙ told.names.is) in (
          λ made. nothing.0 (subst (λ (l : List ℕ). IsMade image sight.key l) same (subst (λ (n : ℕ). IsMade image n key) (sym here.key) made)),
          λ followed. let is : sight.is_followed ≡ true = here.followed.1 followed in let not = nothing.1 in cc,
        )

pub free_header : (image : List ℕ) (slot : SlotId) (signed : Signed) → IsTidy image → IsCurrent image slot.area → IsWhole image slot.area → slot.number < early_at image slot.area → gate_of image slot ≡ 0 → HasHeader image (place_of image slot) signed → IsLowestFree image slot
free_header image slot signed tidy current whole early shut has = record {
  current = current;
  early = omega (arith, early);
  shut = shut;
  lowest = λ number less. plain.slots.used number (let le = spent_le in omega (arith, less, le));
}
  where
    plain : IsPlain image slot.area
    plain = tidy slot.area current.is_open whole

    spent_le : slot.number ≤ plain.spent
    spent_le = elim (cases_lt plain.spent slot.number) [
      | inl behind ↦
          let none = plain.slots.empty slot.number behind early (place_of image slot + 1) (omega arith) (omega arith) in
          let long = has.long in
          absurd (omega (arith, none, long))
      | inr ge ↦ omega (arith, ge)
    ]
