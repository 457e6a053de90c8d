-- The contents of leaves about codes, by id.
use Rattle.std.proofs.Common.{◌≡◌, ℕ, suc, ◌+◌, ◌-◌, ◌<◌, ◌≤◌, nat_eq, Bool, true, false, cond, ◌||◌, Option, None, Some, is_some, List, [], ◌∷◌, ◌++◌, inl, inr, refl, arith, ap, sym, ◌∙◌, subst, map, length, drop, get_or, slice_get, drop-cons}
use Rattle.std.specs.Cmp.{nat_eq_equiv}
use Rattle.std.specs.List.{Contains, IsDistinct, list_any}
use Rattle.std.specs.List.Sorted.{IsNonDecreasingBy, IsPermutation}
use Rattle.std.specs.Map.{lookup, keys_of}
use Rattle.std.specs.Option.{unwrap_or, option_map}
use Rattle.std.proofs.lemmas.Bool.{cases_eq}
use Rattle.std.proofs.lemmas.List.{get_or-drop, length-drop, length-append, append_assoc, append-nil, drop_all, get_or_default, map-append}
use Rattle.std.proofs.lemmas.List.Sorted.{Contains-permutation, IsPermutation-sym, IsPermutation-map}
use Rattle.std.proofs.lemmas.Map.Entries.{lookup_from_place}
use Rattle.std.proofs.lemmas.Map.Keys.{apart_from_distinct, IsDistinct-push, IsDistinct-IsPermutation}
use Rattle.std.proofs.lemmas.Map.Views.{Contains-from_any, IsSome-lookup_from_Contains, lookup-from_Contains}
use Rattle.std.proofs.lemmas.Option.{get_or_from_slice_get, slice_get_within}
use Rattle.road_map.proofs.Among.{Contains-here, Contains-there, Contains-map, map_place, place_at}
use Rattle.road_leaf.specs.declared.leaf.Extra.{Extra}
use Rattle.road_leaf.specs.declared.leaf.Extra.TheVariants.{Plain}
use Rattle.road_map.specs.Places.{AreRising, place_in}
use Rattle.road_map.proofs.RisingLaws.{stands, found, rise_apart}
use Rattle.method_books.specs.LdmBooks.{extra_in}

-- one more entry, whose id differs from those before
pub record Adds (es fs : List (ℕ × Extra)) (id : ℕ) (extra : Extra) : Type 0 where
  pub here : lookup (nat_eq id) fs ≡ Some extra
  pub others : (q : ℕ) → nat_eq id q ≡ false → lookup (nat_eq q) fs ≡ lookup (nat_eq q) es

same_id : (x y : ℕ) → nat_eq x y ≡ true → x ≡ y
same_id x y h = grind (arith, h)

itself : (id : ℕ) → nat_eq id id ≡ true
itself id = grind arith

flipped : (a b : ℕ) → nat_eq a b ≡ false → nat_eq b a ≡ false
flipped a b h = grind (arith, h)

last_found : (id : ℕ) (extra : Extra) (es : List (ℕ × Extra)) → lookup (nat_eq id) es ≡ None → lookup (nat_eq id) (es ++ (id, extra) ∷ []) ≡ Some extra
last_found id extra [] none = ap (λ b. cond b (Some extra) None) (itself id)
last_found id extra (e ∷ es) none = by_test (nat_eq id e.0) none (last_found id extra es)
  where
    by_test : (b : Bool) → cond b (Some e.1) (lookup (nat_eq id) es) ≡ None → (lookup (nat_eq id) es ≡ None → lookup (nat_eq id) (es ++ (id, extra) ∷ []) ≡ Some extra) → cond b (Some e.1) (lookup (nat_eq id) (es ++ (id, extra) ∷ [])) ≡ Some extra
    by_test true n deeper = cc
    by_test false n deeper = deeper n

others_kept : (id q : ℕ) (extra : Extra) (es : List (ℕ × Extra)) → nat_eq q id ≡ false → lookup (nat_eq q) (es ++ (id, extra) ∷ []) ≡ lookup (nat_eq q) es
others_kept id q extra [] ne = ap (λ b. cond b (Some extra) None) ne
others_kept id q extra (e ∷ es) ne = ap (λ o. cond (nat_eq q e.0) (Some e.1) o) (others_kept id q extra es ne)

pub adds_one : (es fs : List (ℕ × Extra)) (id : ℕ) (extra : Extra) → fs ≡ es ++ (id, extra) ∷ [] → lookup (nat_eq id) es ≡ None → Adds es fs id extra
adds_one es fs id extra is none = record {
  here = ap (lookup (nat_eq id)) is ∙ last_found id extra es none;
  others = λ q ne. ap (lookup (nat_eq q)) is ∙ others_kept id q extra es (flipped id q ne);
}

pub map_same_on : {X Y : Type 0} (f g : X → Y) (xs : List X) → ((x : X) → Contains xs x → f x ≡ g x) → map f xs ≡ map g xs
map_same_on f g [] same = refl
map_same_on f g (x ∷ xs) same = ap (λ y. y ∷ map f xs) (same x (Contains-here x xs)) ∙ ap (λ ys. g x ∷ ys) (map_same_on f g xs (λ z h. same z (Contains-there x z xs h)))

-- the first of distinct ids is not among the rest
fresh : (order : List ℕ) (n x : ℕ) → IsDistinct nat_eq order → Contains (drop (n + 1) order) x → nat_eq (get_or order n 0) x ≡ false
fresh order n x distinct h =
    let within : n + 1 + h.0 < length order = (let l : length (drop (n + 1) order) ≡ length order - (n + 1) = length-drop (n + 1) order in let lt : h.0 < length (drop (n + 1) order) = h.1 in omega (arith, l, lt)) in
    let at : get_or order (n + 1 + h.0) x ≡ x = sym (get_or-drop (n + 1) order h.0 x) ∙ h.2 in
    let same : get_or order n x ≡ get_or order n 0 = same_default order n x 0 (omega (arith, within)) in
    let apart : nat_eq (get_or order n x) (get_or order (n + 1 + h.0) x) ≡ false = apart_from_distinct nat_eq order n (n + 1 + h.0) x distinct (omega arith) within in
    subst (λ y. nat_eq y x ≡ false) same (subst (λ y. nat_eq (get_or order n x) y ≡ false) at apart)
  where
    same_default : (xs : List ℕ) (i d e : ℕ) → i < length xs → get_or xs i d ≡ get_or xs i e
    same_default xs i d e lt = get_or_default xs i d e lt

cut : (order : List ℕ) (n : ℕ) → n < length order → drop n order ≡ get_or order n 0 ∷ drop (n + 1) order
cut order n lt = let k : suc n ≡ n + 1 = omega arith in subst (λ j. drop n order ≡ get_or order n 0 ∷ drop j order) k (drop-cons order n 0 lt)

-- before the first entry no leaf is left out
pub adds_none : (order : List ℕ) (all : List Extra) (es : List (ℕ × Extra)) → length all ≡ length order → all ≡ all ++ map (extra_in es) (drop (length all) order)
adds_none order all es long =
    sym (ap (λ (ids : List ℕ). all ++ map (extra_in es) ids) (drop_all (length all) order (omega (arith, long))) ∙ append-nil all)

pub covers_none : (order : List ℕ) (all : List Extra) (es : List (ℕ × Extra)) → es ≡ [] → length all ≡ length order → (id : ℕ) → is_some (lookup (nat_eq id) es) ≡ list_any (nat_eq id) (drop (length all) order)
covers_none order all es none long id =
    ap (λ (fs : List (ℕ × Extra)). is_some (lookup (nat_eq id) fs)) none ∙ sym (ap (list_any (nat_eq id)) (drop_all (length all) order (omega (arith, long))))

pub adds_more : (order : List ℕ) (all before after : List Extra) (extra : Extra) (es fs : List (ℕ × Extra)) (n : ℕ) → IsDistinct nat_eq order → before ≡ after ++ extra ∷ [] → length before ≤ length order → n ≡ length after → Adds es fs (get_or order n 0) extra → all ≡ before ++ map (extra_in es) (drop (length before) order) → all ≡ after ++ map (extra_in fs) (drop (length after) order)
adds_more order all before after extra es fs n distinct popped few at adds is =
    let long : length before ≡ n + 1 = (let l : length before ≡ length after + 1 = ap length popped ∙ length-append after (extra ∷ []) in omega (arith, l, at)) in
    let rest : List ℕ = drop (n + 1) order in
    let first : extra_in fs (get_or order n 0) ≡ extra = ap (λ o. unwrap_or o Plain) adds.here in
    let others : map (extra_in fs) rest ≡ map (extra_in es) rest = map_same_on (extra_in fs) (extra_in es) rest (λ x h. ap (λ o. unwrap_or o Plain) (adds.others x (fresh order n x distinct h))) in
    let one : map (extra_in fs) (drop n order) ≡ extra ∷ map (extra_in es) rest =
    ap (map (extra_in fs)) (cut order n (omega (arith, long, few))) ∙ (ap (λ e. e ∷ map (extra_in fs) rest) first ∙ ap (λ (xs : List Extra). extra ∷ xs) others) in
    let there : map (extra_in es) (drop (length before) order) ≡ map (extra_in es) rest = ap (λ k. map (extra_in es) (drop k order)) long in
    is ∙ (ap (λ (xs : List Extra). before ++ xs) there ∙ (ap (λ (xs : List Extra). xs ++ map (extra_in es) rest) popped ∙ (append_assoc after (extra ∷ []) (map (extra_in es) rest) ∙ (ap (λ (xs : List Extra). after ++ xs) (sym one) ∙ ap (λ k. after ++ map (extra_in fs) (drop k order)) at))))

apart_key : (u v : ℕ) → (v ≡ u → ⊥) → nat_eq u v ≡ false
apart_key u v ne = grind arith

pub covers_more : (order : List ℕ) (before after : List Extra) (extra : Extra) (es fs : List (ℕ × Extra)) (n : ℕ) → before ≡ after ++ extra ∷ [] → length before ≤ length order → n ≡ length after → Adds es fs (get_or order n 0) extra → ((id : ℕ) → is_some (lookup (nat_eq id) es) ≡ list_any (nat_eq id) (drop (length before) order)) → (id : ℕ) → is_some (lookup (nat_eq id) fs) ≡ list_any (nat_eq id) (drop (length after) order)
covers_more order before after extra es fs n popped few at adds covers id =
    let u : ℕ = get_or order n 0 in
    let long : length before ≡ n + 1 = (let l : length before ≡ length after + 1 = ap length popped ∙ length-append after (extra ∷ []) in omega (arith, l, at)) in
    let rest : List ℕ = drop (n + 1) order in
    let old : is_some (lookup (nat_eq id) es) ≡ list_any (nat_eq id) rest = covers id ∙ ap (λ k. list_any (nat_eq id) (drop k order)) long in
    let whole : list_any (nat_eq id) (drop (length after) order) ≡ (nat_eq id u || list_any (nat_eq id) rest) = ap (λ k. list_any (nat_eq id) (drop k order)) (sym at) ∙ ap (list_any (nat_eq id)) (cut order n (omega (arith, long, few))) in
    elim (cases_eq id u) [
      | inl e ↦ (
          let hit : nat_eq id u ≡ true = subst (λ x. nat_eq x u ≡ true) (sym e) (grind arith) in
          let now : lookup (nat_eq id) fs ≡ Some extra = ap (λ i. lookup (nat_eq i) fs) e ∙ adds.here in
          ap is_some now ∙ sym (whole ∙ ap (λ b. b || list_any (nat_eq id) rest) hit))
      | inr ne ↦ (
          let miss : nat_eq id u ≡ false = apart_key id u (λ e. ne (sym e)) in
          ap is_some (adds.others id (apart_key u id ne)) ∙ (old ∙ sym (whole ∙ ap (λ b. b || list_any (nat_eq id) rest) miss)))
    ]

pub few_more : (before after : List Extra) (extra : Extra) (most : ℕ) → before ≡ after ++ extra ∷ [] → length before ≤ most → length after ≤ most
few_more before after extra most popped few = let l : length before ≡ length after + 1 = ap length popped ∙ length-append after (extra ∷ []) in omega (arith, l, few)

-- the id of the next leaf has no entry yet
pub not_yet : (order : List ℕ) (before after : List Extra) (extra : Extra) (es : List (ℕ × Extra)) (n : ℕ) → IsDistinct nat_eq order → before ≡ after ++ extra ∷ [] → n ≡ length after → ((id : ℕ) → is_some (lookup (nat_eq id) es) ≡ list_any (nat_eq id) (drop (length before) order)) → lookup (nat_eq (get_or order n 0)) es ≡ None
not_yet order before after extra es n distinct popped at covers = by_found (lookup (nat_eq u) es) refl
  where
    u : ℕ
    u = get_or order n 0

    long : length before ≡ n + 1
    long = let l : length before ≡ length after + 1 = ap length popped ∙ length-append after (extra ∷ []) in omega (arith, l, at)

    by_found : (o : Option Extra) → lookup (nat_eq u) es ≡ o → o ≡ None
    by_found None e = refl
    by_found (Some x) e =
        let among : list_any (nat_eq u) (drop (n + 1) order) ≡ true = ap (λ k. list_any (nat_eq u) (drop k order)) (sym long) ∙ (sym (covers u) ∙ ap is_some e) in
        let apart : nat_eq u u ≡ false = fresh order n u distinct (Contains-from_any same_id u (drop (n + 1) order) among) in
        let bad : true ≡ false = sym (itself u) ∙ apart in
        cc

pub keys_more : (es fs : List (ℕ × Extra)) (id : ℕ) (extra : Extra) → fs ≡ es ++ (id, extra) ∷ [] → lookup (nat_eq id) es ≡ None → IsDistinct nat_eq (keys_of es) → IsDistinct nat_eq (keys_of fs)
keys_more es fs id extra is none distinct =
    subst (IsDistinct nat_eq) (sym (ap keys_of is ∙ map-append (λ (e : ℕ × Extra). e.0) es ((id, extra) ∷ [])))
    (IsDistinct-push nat_eq_equiv (keys_of es) id distinct (by_any (list_any (nat_eq id) (keys_of es)) refl))
  where
    by_any : (b : Bool) → list_any (nat_eq id) (keys_of es) ≡ b → b ≡ false
    by_any false e = refl
    by_any true e =
        let there : is_some (lookup (nat_eq id) es) ≡ true = IsSome-lookup_from_Contains nat_eq_equiv id es (Contains-from_any same_id id (keys_of es) e) in
        let bad : false ≡ true = sym (ap is_some none) ∙ there in
        cc

-- ---- entries in another order

pair_same : (a b : ℕ) (x y : Extra) → a ≡ b → x ≡ y → ◌≡◌ {A = ℕ × Extra} (a, x) (b, y)
pair_same a b x y p q = ap (λ (i : ℕ). (i, x)) p ∙ ap (λ (z : Extra). (b, z)) q

has_entry : (es : List (ℕ × Extra)) (id : ℕ) (x : Extra) → lookup (nat_eq id) es ≡ Some x → Contains es (id, x)
has_entry [] id x h = cc
has_entry (e ∷ es) id x h = by_test (nat_eq id e.0) refl h (has_entry es id x)
  where
    by_test : (b : Bool) → nat_eq id e.0 ≡ b → cond b (Some e.1) (lookup (nat_eq id) es) ≡ Some x → (lookup (nat_eq id) es ≡ Some x → Contains es (id, x)) → Contains (e ∷ es) (id, x)
    by_test true t g deeper =
        let value : e.1 ≡ x = cc in
        let entry : e ≡ (id, x) = pair_same e.0 id e.1 x (sym (same_id id e.0 t)) value in
        subst (Contains (e ∷ es)) entry (Contains-here e es)
    by_test false t g deeper = Contains-there e (id, x) es (deeper g)

flips : (x y : ℕ) → nat_eq x y ≡ nat_eq y x
flips x y = grind arith

pub keys_moved : (es fs : List (ℕ × Extra)) → IsPermutation es fs → IsDistinct nat_eq (keys_of es) → IsDistinct nat_eq (keys_of fs)
keys_moved es fs moved distinct = IsDistinct-IsPermutation nat_eq flips (keys_of es) (keys_of fs) (IsPermutation-map (λ (e : ℕ × Extra). e.0) es fs moved) distinct

pub found_moved : (es fs : List (ℕ × Extra)) → IsPermutation es fs → IsDistinct nat_eq (keys_of es) → (id : ℕ) → lookup (nat_eq id) fs ≡ lookup (nat_eq id) es
found_moved es fs moved distinct id = by_found (lookup (nat_eq id) es) (lookup (nat_eq id) fs) refl refl
  where
    by_found : (o p : Option Extra) → lookup (nat_eq id) es ≡ o → lookup (nat_eq id) fs ≡ p → p ≡ o
    by_found (Some x) p e f = sym f ∙ lookup-from_Contains nat_eq_equiv id x fs (keys_moved es fs moved distinct) (Contains-permutation es fs (id, x) moved (has_entry es id x e))
    by_found None None e f = refl
    by_found None (Some x) e f =
        let there : lookup (nat_eq id) es ≡ Some x = lookup-from_Contains nat_eq_equiv id x es distinct (Contains-permutation fs es (id, x) (IsPermutation-sym es fs moved) (has_entry fs id x f)) in
        sym there ∙ e

pub adds_moved : (order : List ℕ) (es fs : List (ℕ × Extra)) (all : List Extra) → IsPermutation es fs → IsDistinct nat_eq (keys_of es) → map (extra_in es) order ≡ all → map (extra_in fs) order ≡ all
adds_moved order es fs all moved distinct is = map_same_on (extra_in fs) (extra_in es) order (λ id h. ap (λ o. unwrap_or o Plain) (found_moved es fs moved distinct id)) ∙ is

-- sorted entries with distinct ids ascend
pub keys_rise : (es : List (ℕ × Extra)) → IsNonDecreasingBy (λ e. e.0) es → IsDistinct nat_eq (keys_of es) → AreRising (keys_of es)
keys_rise es sorted distinct i j x y lt a b =
    let p = map_place (λ (e : ℕ × Extra). e.0) es i x a in
    let q = map_place (λ (e : ℕ × Extra). e.0) es j y b in
    let s : get_or es i p.0 ≡ p.0 = get_or_from_slice_get es i p.0 p.0 p.1 in
    let t : get_or es j p.0 ≡ q.0 = get_or_from_slice_get es j q.0 p.0 q.1 in
    let le : (get_or es i p.0).0 ≤ (get_or es j p.0).0 = sorted i j p.0 (omega (arith, lt)) (slice_get_within es j q.0 q.1) in
    let first : (get_or es i p.0).0 ≡ x = ap (λ (e : ℕ × Extra). e.0) s ∙ p.2 in
    let second : (get_or es j p.0).0 ≡ y = ap (λ (e : ℕ × Extra). e.0) t ∙ q.2 in
    let apart : nat_eq (get_or (keys_of es) i 0) (get_or (keys_of es) j 0) ≡ false = apart_from_distinct nat_eq (keys_of es) i j 0 distinct lt (slice_get_within (keys_of es) j y b) in
    let differ : nat_eq x y ≡ false = subst (λ k. nat_eq x k ≡ false) (get_or_from_slice_get (keys_of es) j y 0 b) (subst (λ k. nat_eq k (get_or (keys_of es) j 0) ≡ false) (get_or_from_slice_get (keys_of es) i x 0 a) apart) in
    less x y (omega (arith, le, first, second)) differ
  where
    less : (x y : ℕ) → x ≤ y → nat_eq x y ≡ false → x < y
    less x y le ne = grind (arith, le, ne)

-- the entry at the position of an id
pub entry_at : (es : List (ℕ × Extra)) (id k : ℕ) → AreRising (keys_of es) → place_in (keys_of es) id ≡ Some k → option_map (λ (e : ℕ × Extra). e.1) (slice_get es k) ≡ lookup (nat_eq id) es
entry_at es id k rise is =
    let at = stands (keys_of es) id k is in
    let e = map_place (λ (e : ℕ × Extra). e.0) es k at.0 at.1 in
    let key : e.0.0 ≡ id = e.2 ∙ at.2 in
    let here : slice_get es k ≡ Some (id, e.0.1) = e.1 ∙ ap Some (pair_same e.0.0 id e.0.1 e.0.1 key refl) in
    ap (option_map (λ (x : ℕ × Extra). x.1)) here ∙ sym (lookup_from_place nat_eq_equiv es k id e.0.1 (rise_apart (keys_of es) rise) here)

pub no_entry : (es : List (ℕ × Extra)) (id : ℕ) → AreRising (keys_of es) → place_in (keys_of es) id ≡ None → None ≡ lookup (nat_eq id) es
no_entry es id rise is = by_found (lookup (nat_eq id) es) refl
  where
    by_found : (o : Option Extra) → lookup (nat_eq id) es ≡ o → None ≡ o
    by_found None e = refl
    by_found (Some x) e =
        let c : Contains (keys_of es) id = Contains-map (λ (e : ℕ × Extra). e.0) es (id, x) (has_entry es id x e) in
        let p = place_at (keys_of es) id c in
        let there : place_in (keys_of es) id ≡ Some p.0 = found (keys_of es) id p.0 rise (id, p.1, refl) in
        let bad : Some p.0 ≡ None = sym there ∙ is in
        cc
