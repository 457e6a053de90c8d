-- Indices of items in ascending order of id.
use Rattle.std.proofs.Common.{set, ◌≡◌, ℕ, zero, suc, ◌+◌, ◌==◌, true, false, Option, None, Some, List, [], ◌∷◌, ◌⊎◌, inl, inr, refl, arith, ap, sym, ◌∙◌, cond, count_by, length, slice_get, get_or, ◌<◌, ◌≤◌, map}
use Rattle.std.specs.List.Sorted.{IsNonDecreasing, IsPermutation}
use Rattle.std.proofs.lemmas.List.Sorted.{sum_by-IsPermutation}
use Rattle.std.proofs.lemmas.Option.{slice_get_within, get_or_from_slice_get}
use Rattle.road_map.specs.Least.{IsLeast}
use Rattle.road_map.specs.Places.{StandsAt, AreRising, place_in}
use Rattle.road_map.proofs.LeastLaws.{IsLeast-same}
use Rattle.road_map.proofs.Among.{slice_get-set}
use Rattle.road_map.proofs.RisingLaws.{stands, found, one_id}
use Rattle.road_leaf.specs.declared.leaf.NodeLeaf.{NodeLeaf}
use Rattle.proof_judge.specs.ItemWalks.{item_at, StandsTwice}
use Rattle.proof_judge.specs.ById.{AsMany, IsTaken, IsIndexOf, AreNoted, AreListed}
use Rattle.proof_judge.proofs.Keys.{count-cons}
use Rattle.proof_judge.proofs.KeyPlaces.{Once, once_from_count, one_counts, two_count, keys_rise, found_at, found_none}

abbrev node_id : NodeLeaf → ℕ
node_id n = n.id

abbrev itself : ℕ → ℕ
itself id = id

-- there are as many ids as items
pub as_many_mapped : (nodes : List NodeLeaf) → AsMany nodes (map (λ (n : NodeLeaf). n.id) nodes)
as_many_mapped [] id = refl
as_many_mapped (n ∷ ns) id =
    count-cons itself id n.id (map (λ (m : NodeLeaf). m.id) ns) ∙ (ap (λ k. cond (n.id == id) 1 0 + k) (as_many_mapped ns id) ∙ sym (count-cons node_id id n ns))

-- the order of the list does not matter
pub as_many_sorted : (nodes : List NodeLeaf) (is js : List ℕ) → IsPermutation is js → AsMany nodes is → AsMany nodes js
as_many_sorted nodes is js same h id = sum_by-IsPermutation (λ (i : ℕ). cond (i == id) 1 0) is js same ∙ h id

-- an id is repeated if two items have it
pub taken_twice : (nodes : List NodeLeaf) (ids : List ℕ) (o : Option ℕ) → AsMany nodes ids → IsLeast (IsTaken ids) o → IsLeast (StandsTwice nodes) o
taken_twice nodes ids o same h = IsLeast-same (IsTaken ids) (StandsTwice nodes) o (λ id two. rw (sym (same id)) two) (λ id two. rw (same id) two) h

pub rising : (ids : List ℕ) → IsNonDecreasing ids → IsLeast (IsTaken ids) None → AreRising ids
rising ids sorted none = keys_rise itself ids sorted (λ id two. none id two)

-- each item's id has a position
pub has_place : (nodes : List NodeLeaf) (ids : List ℕ) → AreRising ids → AsMany nodes ids → (index : ℕ) (n : NodeLeaf) → slice_get nodes index ≡ Some n → (k : ℕ) × (place_in ids n.id ≡ Some k)
has_place nodes ids rise same index n at =
    let among : 1 ≤ count_by (λ (m : NodeLeaf). m.id == n.id) nodes = one_counts node_id n.id nodes index n at refl in
    let some : 1 ≤ count_by (λ i. i == n.id) ids = omega (arith, among, same n.id) in
    let o : Once itself n.id ids = once_from_count itself n.id ids some in
    (o.i, found ids n.id o.i rise (o.m, o.at, o.same))

order : (i j : ℕ) → i < j + 1 → (i ≡ j) ⊎ (i < j)
order i j lt = grind (arith, lt)

equal_test : (a b : ℕ) → a ≡ b → (a == b) ≡ true
equal_test a b e = grind (arith, e)

other_test : (a b : ℕ) → (a ≡ b → ⊥) → (a == b) ≡ false
other_test a b e = grind (arith, e)

-- one more index
pub noted_turn : (nodes : List NodeLeaf) (ids indices after : List ℕ) (end place : ℕ) (n : NodeLeaf) → IsLeast (StandsTwice nodes) None → slice_get nodes end ≡ Some n → place_in ids n.id ≡ Some place → place < length indices → after ≡ set indices place end → AreNoted nodes ids indices end → AreNoted nodes ids after (end + 1)
noted_turn nodes ids indices after end place n distinct at placed within turned h index m lt there = elim (order index end lt) [
  | inl e ↦
      let same : m ≡ n = let x : Some m ≡ Some n = sym there ∙ (ap (slice_get nodes) e ∙ at) in cc in (
        place,
        ap (λ (q : NodeLeaf). place_in ids q.id) same ∙ placed,
        ap (λ xs. slice_get xs place) turned ∙ (slice_get-set indices place end place within ∙ (ap (λ b. cond b (Some end) (slice_get indices place)) (equal_test place place refl) ∙ ap Some (sym e))),
      )
  | inr less ↦
      let old : IsIndexOf ids indices m.id index = h index m less there in
      let apart : place ≡ old.0 → ⊥ = λ e. distinct n.id (two_count node_id n.id nodes index end m n less there at (one_id ids m.id n.id place (old.1 ∙ ap Some (sym e)) placed) refl) in (
        old.0,
        old.1,
        ap (λ xs. slice_get xs old.0) turned ∙ (slice_get-set indices place end old.0 within ∙ (ap (λ b. cond b (Some end) (slice_get indices old.0)) (other_test place old.0 apart) ∙ old.2)),
      )
]

-- ---- the item found

-- the item that an id's position leads to
record Led (nodes : List NodeLeaf) (indices : List ℕ) (id k : ℕ) : Type 0 where
  index : ℕ
  item : NodeLeaf
  at : slice_get nodes index ≡ Some item
  same : item.id ≡ id
  noted : slice_get indices k ≡ Some index

led : (nodes : List NodeLeaf) (indices ids : List ℕ) (id k : ℕ) → AreListed nodes indices ids → Some k ≡ place_in ids id → Led nodes indices id k
led nodes indices ids id k h at =
    let there : StandsAt (λ i. i) ids id k = stands ids id k (sym at) in
    let some : 1 ≤ count_by (λ i. i == id) ids = one_counts itself id ids k there.0 there.1 there.2 in
    let among : 1 ≤ count_by (λ (m : NodeLeaf). m.id == id) nodes = omega (arith, some, h.as_many id) in
    let o : Once node_id id nodes = once_from_count node_id id nodes among in
    let noted : IsIndexOf ids indices o.m.id o.i = h.indices_of o.i o.m (slice_get_within nodes o.i o.m o.at) o.at in
    let here : noted.0 ≡ k = let x : Some noted.0 ≡ Some k = sym noted.1 ∙ (ap (place_in ids) o.same ∙ sym at) in cc in
    record { index = o.i; item = o.m; at = o.at; same = o.same; noted = ap (slice_get indices) (sym here) ∙ noted.2 }

pub within_listed : (nodes : List NodeLeaf) (indices ids : List ℕ) (id k : ℕ) → AreListed nodes indices ids → Some k ≡ place_in ids id → k < length indices
within_listed nodes indices ids id k h at = let l : Led nodes indices id k = led nodes indices ids id k h at in slice_get_within indices k l.index l.noted

pub found_listed : (nodes : List NodeLeaf) (indices ids : List ℕ) (id k index : ℕ) → AreListed nodes indices ids → Some k ≡ place_in ids id → index ≡ get_or indices k index → slice_get nodes index ≡ item_at nodes id
found_listed nodes indices ids id k index h at read =
    let l : Led nodes indices id k = led nodes indices ids id k h at in
    let here : get_or indices k index ≡ l.index = get_or_from_slice_get indices k l.index index l.noted in
    ap (slice_get nodes) (read ∙ here) ∙ (l.at ∙ sym (found_at node_id id nodes l.index l.item (λ two. h.distinct id two) l.at l.same))

pub missing_listed : (nodes : List NodeLeaf) (indices ids : List ℕ) (id : ℕ) → AreListed nodes indices ids → None ≡ place_in ids id → None ≡ item_at nodes id
missing_listed nodes indices ids id h at = sym (found_none node_id id nodes (by_count (count_by (λ (n : NodeLeaf). n.id == id) nodes) refl))
  where
    by_count : (k : ℕ) → count_by (λ (n : NodeLeaf). n.id == id) nodes ≡ k → count_by (λ (n : NodeLeaf). n.id == id) nodes ≡ 0
    by_count zero e = e
    by_count (suc k) e = absurd (
        let o : Once node_id id nodes = once_from_count node_id id nodes (omega (arith, e)) in
        let p = has_place nodes ids h.rise h.as_many o.i o.m o.at in
        let bad : None ≡ Some p.0 = at ∙ (ap (place_in ids) (sym o.same) ∙ p.1) in
        cc)
