-- The two ends of a query.
use Rattle.std.proofs.Common.{◌≡◌, ℕ, List, [], ◌∷◌, inl, inr, sym, subst, Result, Ok, Err}
use Rattle.std.specs.List.{Contains}
use Rattle.road_map.proofs.Among.{Contains-none, Contains-here, Contains-there, Contains-cases}
use Rattle.road_map.specs.declared.parts.Parts.{Parts}
use Rattle.road_map.specs.Walks.{Knows}
use Rattle.book_model.specs.declared.items.Query.{Query}
use Rattle.proof_method.specs.declared.found.GatherError.{GatherError}
use Rattle.proof_method.specs.declared.found.GatherError.TheVariants.{UnknownNode}
use Rattle.proof_method.specs.Apart.{IsEnd}
use Rattle.proof_method.specs.Gathering.{IsFirstUnknown, Lists}

-- the two ends, in any order
pub ends_are : (q : Query) (ids : List ℕ) → Lists (Contains (q.from ∷ q.to ∷ [])) ids → Lists (IsEnd q) ids
ends_are q ids h = record { rising = h.rising; same = λ id. (λ c. to id ((h.same id).0 c), λ e. (h.same id).1 (from id e)) }
  where
    to : (id : ℕ) → Contains (q.from ∷ q.to ∷ []) id → IsEnd q id
    to id c = elim (Contains-cases q.from id (q.to ∷ []) c) [
      | inl e ↦ inl (sym e)
      | inr d ↦ elim (Contains-cases q.to id [] d) [ inl e ↦ inr (sym e) | inr none ↦ absurd (Contains-none id none) ]
    ]

    from : (id : ℕ) → IsEnd q id → Contains (q.from ∷ q.to ∷ []) id
    from id (inl e) = subst (Contains (q.from ∷ q.to ∷ [])) (sym e) (Contains-here q.from (q.to ∷ []))
    from id (inr e) = subst (Contains (q.from ∷ q.to ∷ [])) (sym e) (Contains-there q.from q.to (q.to ∷ []) (Contains-here q.to []))

-- if both ends are known, no end is unknown
pub none_unknown : (parts : Parts) (q : Query) (id : ℕ) (X : Type 0) → Knows parts q.from → Knows parts q.to → IsFirstUnknown parts q id → X
none_unknown parts q id X from to (inl h) = absurd (h.1 from)
none_unknown parts q id X from to (inr h) = absurd (h.2 to)

-- if a route was found, no end is unknown
pub none_first : {A B : Type 0} (parts : Parts) (q : Query) (x : A) (r : Result B GatherError) → ((id : ℕ) → IsFirstUnknown parts q id → ◌≡◌ {A = Result A GatherError} (Ok x) (Err (UnknownNode id)))
    → (id : ℕ) → IsFirstUnknown parts q id → r ≡ Err (UnknownNode id)
none_first parts q x r known id first = let e = known id first in absurd cc
