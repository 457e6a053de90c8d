-- The book that a plan makes.
use Rattle.std.proofs.Common.{◌≡◌, ℕ, ◌↔◌, nat_eq, Bool, true, false, cond, Option, None, Some, is_some, List, [], ◌∷◌, inl, inr, refl, arith, ap, sym, ◌∙◌, subst, map, length, take, find, suc}
use Rattle.std.specs.List.{Contains, list_any}
use Rattle.std.specs.Cmp.{nat_eq_equiv}
use Rattle.std.specs.Map.{lookup}
use Rattle.std.specs.Option.{unwrap_or}
use Rattle.std.proofs.lemmas.Map.Views.{list_any-from_Contains, Contains-from_any}
use Rattle.road_map.specs.declared.parts.Parts.{Parts}
use Rattle.road_map.specs.Walks.{ids, Knows, distance}
use Rattle.road_map.proofs.Among.{Contains-here, Contains-there, Contains-cases, Contains-none}
use Rattle.road_leaf.specs.declared.leaf.Extra.{Extra}
use Rattle.road_leaf.specs.declared.leaf.Extra.TheVariants.{Plain, Own, Near, Cell}
use Rattle.book_model.specs.declared.settings.Settings.{Settings}
use Rattle.book_model.specs.Orders.{by_id}
use Rattle.book_model.specs.Landmarks.{gap_of, is_within, codes_of, extra_of, kept_after, extras_of}
use Rattle.book_model.specs.Books.{Ldm, IsBookOf, landmarks}
use Rattle.book_model.proofs.ById.{sorted_kept}
use Rattle.landmarks.specs.Tables.{Coded, codes_in, IsTable}
use Rattle.proof_method.specs.Gathering.{IsOrderOf}
use Rattle.proof_method.proofs.Picks.{taken_from}
use Rattle.proof_judge.proofs.ItemLaws.{find_some}
use Rattle.method_books.specs.LdmBooks.{extra_in, ldm_book}

-- ---- there are as many extra contents as ids

pub extras_long : (codes : ℕ → List ℕ) (threshold : ℕ) (kept order : List ℕ) → length (extras_of codes threshold kept order) ≡ length order
unfolding extras_of
extras_long codes threshold kept [] = refl
extras_long codes threshold kept (v ∷ vs) = ap suc (extras_long codes threshold (kept_after (extra_of codes threshold kept v) v kept) vs)

-- ---- codes that agree at all ids give the same extra contents

find_same : (p q : ℕ → Bool) (xs : List ℕ) → ((x : ℕ) → Contains xs x → p x ≡ q x) → find p xs ≡ find q xs
find_same p q [] same = refl
find_same p q (x ∷ xs) same = ap (λ b. cond b (Some x) (find p xs)) (same x (Contains-here x xs)) ∙ ap (cond (q x) (Some x)) (find_same p q xs (λ y h. same y (Contains-there x y xs h)))

abbrev AreSame : (ℕ → List ℕ) → (ℕ → List ℕ) → List ℕ → Type 0
AreSame f g xs = (x : ℕ) → Contains xs x → f x ≡ g x

extra_same : (f g : ℕ → List ℕ) (threshold : ℕ) (kept : List ℕ) (v : ℕ) → f v ≡ g v → AreSame f g kept → extra_of f threshold kept v ≡ extra_of g threshold kept v
extra_same f g threshold kept v own same =
    let found : find (λ c. is_within threshold (gap_of (f v) (f c))) (take 64 kept) ≡ find (λ c. is_within threshold (gap_of (g v) (g c))) (take 64 kept) =
    find_same (λ c. is_within threshold (gap_of (f v) (f c))) (λ c. is_within threshold (gap_of (g v) (g c))) (take 64 kept)
    (λ c h. ap (λ (l : List ℕ). is_within threshold (gap_of l (f c))) own ∙ ap (λ (l : List ℕ). is_within threshold (gap_of (g v) l)) (same c (taken_from 64 kept c h))) in
    by_find (find (λ c. is_within threshold (gap_of (f v) (f c))) (take 64 kept)) (find (λ c. is_within threshold (gap_of (g v) (g c))) (take 64 kept)) refl found
  where
    by_find : (o p : Option ℕ) → find (λ c. is_within threshold (gap_of (f v) (f c))) (take 64 kept) ≡ o → o ≡ p →
        ◌≡◌ {A = Extra} (elim o [ None ↦ Own (f v) | Some c ↦ Near c (unwrap_or (gap_of (f v) (f c)) 0) ]) (elim p [ None ↦ Own (g v) | Some c ↦ Near c (unwrap_or (gap_of (g v) (g c)) 0) ])
    by_find None None is e = ap Own own
    by_find None (Some c) is e = cc
    by_find (Some c) None is e = cc
    by_find (Some c) (Some d) is e =
        let at : c ≡ d = cc in
        let among : Contains kept c = taken_from 64 kept c (find_some (λ c. is_within threshold (gap_of (f v) (f c))) (take 64 kept) c is).0 in
        let gaps : gap_of (f v) (f c) ≡ gap_of (g v) (g d) = ap (λ (l : List ℕ). gap_of l (f c)) own ∙ (ap (gap_of (g v)) (same c among) ∙ ap (λ x. gap_of (g v) (g x)) at) in
        ap (λ x. Near x (unwrap_or (gap_of (f v) (f c)) 0)) at ∙ ap (λ o. Near d (unwrap_or o 0)) gaps

kept_same : (f g : ℕ → List ℕ) (extra : Extra) (v : ℕ) (kept : List ℕ) → f v ≡ g v → AreSame f g kept → AreSame f g (kept_after extra v kept)
kept_same f g (Own codes) v kept own same = λ x h. elim (Contains-cases v x kept h) [ inl e ↦ subst (λ y. f y ≡ g y) e own | inr d ↦ same x d ]
kept_same f g Plain v kept own same = same
kept_same f g (Near r e) v kept own same = same
kept_same f g (Cell x y) v kept own same = same

extras_same : (f g : ℕ → List ℕ) (threshold : ℕ) (kept order : List ℕ) → AreSame f g kept → AreSame f g order → extras_of f threshold kept order ≡ extras_of g threshold kept order
unfolding extras_of
extras_same f g threshold kept [] behind same = refl
extras_same f g threshold kept (v ∷ vs) behind same =
    let own : f v ≡ g v = same v (Contains-here v vs) in
    let head : extra_of f threshold kept v ≡ extra_of g threshold kept v = extra_same f g threshold kept v own behind in
    let rest : extras_of f threshold (kept_after (extra_of f threshold kept v) v kept) vs ≡ extras_of g threshold (kept_after (extra_of f threshold kept v) v kept) vs = extras_same f g threshold (kept_after (extra_of f threshold kept v) v kept) vs (kept_same f g (extra_of f threshold kept v) v kept own behind) (λ x h. same x (Contains-there v x vs h)) in
    ap (λ e. e ∷ extras_of f threshold (kept_after (extra_of f threshold kept v) v kept) vs) head ∙ (ap (λ es. extra_of g threshold kept v ∷ es) rest ∙ ap (λ e. extra_of g threshold kept v ∷ extras_of g threshold (kept_after e v kept) vs) head)

-- ---- the codes of a table

table_codes : (parts : Parts) (chosen : List ℕ) (bits : ℕ) (table : Coded) → IsTable parts chosen bits table → (v : ℕ) → Knows parts v → codes_in table v ≡ codes_of (distance parts) table.step chosen v
table_codes parts chosen bits table is v known =
    let among : list_any (nat_eq v) (by_id parts.nodes) ≡ true = list_any-from_Contains nat_eq_equiv v (by_id parts.nodes) (sorted_kept (ids parts.nodes) v known) in
    let at : lookup (nat_eq v) table.entries ≡ Some (codes_of (distance parts) table.step chosen v) = is.codes v ∙ ap (λ b. cond b (Some (codes_of (distance parts) table.step chosen v)) None) among in
    ap (λ o. unwrap_or o []) at

-- ---- ids in two orders

same_number : (x y : ℕ) → nat_eq x y ≡ true → x ≡ y
same_number x y h = grind (arith, h)

any_same : (xs ys : List ℕ) (id : ℕ) → (Contains xs id ↔ Contains ys id) → list_any (nat_eq id) xs ≡ list_any (nat_eq id) ys
any_same xs ys id same = by_tests (list_any (nat_eq id) xs) (list_any (nat_eq id) ys) refl refl
  where
    by_tests : (b c : Bool) → list_any (nat_eq id) xs ≡ b → list_any (nat_eq id) ys ≡ c → b ≡ c
    by_tests true true p q = refl
    by_tests false false p q = refl
    by_tests true false p q = let is : list_any (nat_eq id) ys ≡ true = list_any-from_Contains nat_eq_equiv id ys (same.0 (Contains-from_any same_number id xs p)) in sym is ∙ q
    by_tests false true p q = let is : list_any (nat_eq id) xs ≡ true = list_any-from_Contains nat_eq_equiv id xs (same.1 (Contains-from_any same_number id ys q)) in sym p ∙ is

pub covers_all : (parts : Parts) (order : List ℕ) (entries : List (ℕ × Extra)) → IsOrderOf parts order → ((id : ℕ) → is_some (lookup (nat_eq id) entries) ≡ list_any (nat_eq id) order) → (id : ℕ) → is_some (lookup (nat_eq id) entries) ≡ list_any (nat_eq id) (ids parts.nodes)
covers_all parts order entries is covers id = covers id ∙ any_same order (ids parts.nodes) id (is.same id)

-- ---- the book

pub planned : (parts : Parts) (s : Settings) (order : List ℕ) (table : Coded) (extras : List Extra) (entries : List (ℕ × Extra)) (step' : ℕ) → IsOrderOf parts order → IsTable parts (landmarks parts s.p1) s.p2 table → extras ≡ extras_of (codes_in table) s.p3 [] order → map (extra_in entries) order ≡ extras → step' ≡ table.step → IsBookOf Ldm parts s order (ldm_book parts entries (record { first = step'; second = s.p1 }))
planned parts s order table extras entries step' is coded compressed adds stepped =
    let codes : List Extra = extras_of (codes_of (distance parts) table.step (landmarks parts s.p1)) s.p3 [] order in
    let same : extras_of (codes_in table) s.p3 [] order ≡ extras_of (codes_of (distance parts) table.step (landmarks parts s.p1)) s.p3 [] order =
    extras_same (codes_in table) (codes_of (distance parts) table.step (landmarks parts s.p1)) s.p3 [] order (λ x h. absurd (Contains-none x h)) (λ x h. table_codes parts (landmarks parts s.p1) s.p2 table coded x ((is.same x).0 h)) in
    record {
      of_parts = refl;
      adds = adds ∙ (compressed ∙ (same ∙ ap (λ k. extras_of (codes_of (distance parts) k (landmarks parts s.p1)) s.p3 [] order) coded.step));
      has_pairs = refl;
      first = stepped ∙ coded.step;
      second = refl;
    }
