-- Books of LDM fit the formats.
use Rattle.std.proofs.Common.{◌≡◌, ℕ, ◌^◌, ◌<◌, ◌≤◌, nat_le, Bool, true, false, ◌&&◌, Option, None, Some, List, [], ◌∷◌, inl, inr, refl, arith, ap, sym, ◌∙◌, subst, map, length, take, find}
use Rattle.std.specs.Prelude.{All}
use Rattle.std.specs.List.{Contains, AllByRecursion}
use Rattle.std.specs.Option.{unwrap_or}
use Rattle.std.proofs.lemmas.List.{length-map}
use Rattle.std.proofs.lemmas.List.Elements.{All-from_recursion, recursion_from_All}
use Rattle.octet_text.specs.Format.{RowsFit, u16, any}
use Rattle.road_map.specs.declared.parts.Parts.{Parts}
use Rattle.road_map.specs.Walks.{distance}
use Rattle.road_map.proofs.Among.{Contains-none, Contains-cases}
use Rattle.road_leaf.specs.declared.leaf.Extra.{Extra}
use Rattle.road_leaf.specs.declared.leaf.Extra.TheVariants.{Plain, Own, Near, Cell}
use Rattle.road_leaf.specs.declared.pair.PairLeaf.{PairLeaf}
use Rattle.road_leaf.specs.declared.leaf.LeafKind.TheVariants.{Vector}
use Rattle.road_leaf.specs.Leaves.{extra}
use Rattle.book_model.specs.declared.settings.Settings.{Settings}
use Rattle.book_model.specs.Landmarks.{gap_of, is_within, codes_of, extra_of, kept_after, extras_of}
use Rattle.book_model.specs.Books.{Ldm, landmarks, step, first_failed, is_from_to, settings_fault, method_fault}
use Rattle.landmarks.proofs.CountLaws.{landmarks_long}
use Rattle.landmarks.proofs.CodeLaws.{step_most}
use Rattle.proof_method.proofs.BookLaws.{leaf_extra}
use Rattle.route_server.specs.Fitting.{ExtraHasWidths}
use Rattle.route_server.proofs.MethodFits.{BooksFit}

-- own codes for this many landmarks, or a reference
abbrev IsLong : ℕ → Extra → Type 0
IsLong n (Own codes) = length codes ≡ n
IsLong n (Near reference error) = Unit {0}
IsLong n _ = ⊥

extra_long : (codes : ℕ → List ℕ) (n threshold : ℕ) (kept : List ℕ) (v : ℕ) → length (codes v) ≡ n → IsLong n (extra_of codes threshold kept v)
extra_long codes n threshold kept v long = by_find (find (λ c. is_within threshold (gap_of (codes v) (codes c))) (take 64 kept))
  where
    by_find : (o : Option ℕ) → IsLong n (elim o [ None ↦ Own (codes v) | Some c ↦ Near c (unwrap_or (gap_of (codes v) (codes c)) 0) ])
    by_find None = long
    by_find (Some c) = tt

all_long : (codes : ℕ → List ℕ) (n threshold : ℕ) (adds : ℕ → Extra) → ((v : ℕ) → length (codes v) ≡ n) → (kept vs : List ℕ) → map adds vs ≡ extras_of codes threshold kept vs → (u : ℕ) → Contains vs u → IsLong n (adds u)
unfolding extras_of
all_long codes n threshold adds long kept [] same u h = absurd (Contains-none u h)
all_long codes n threshold adds long kept (v ∷ vs) same u h =
    let head : adds v ≡ extra_of codes threshold kept v = cc in
    let tail : map adds vs ≡ extras_of codes threshold (kept_after (extra_of codes threshold kept v) v kept) vs = cc in
    elim (Contains-cases v u vs h) [
      | inl e ↦ subst (λ x. IsLong n (adds x)) e (subst (IsLong n) (sym head) (extra_long codes n threshold kept v (long v)))
      | inr d ↦ all_long codes n threshold adds long (kept_after (extra_of codes threshold kept v) v kept) vs tail u d
    ]

codes_fit : (codes : List ℕ) → AllByRecursion (λ code. code < 2 ^ 16) codes → RowsFit (λ _. u16 any) (λ _. 0) 0 codes
codes_fit [] wide = tt
codes_fit (c ∷ cs) wide = ((wide.0, refl), codes_fit cs wide.1)

long_fits : (n : ℕ) (x : Extra) → IsLong n x → ExtraHasWidths x → (extra (Vector n)).Fits x
long_fits n (Own codes) long wide = (omega arith, refl, (long, codes_fit codes (recursion_from_All (λ (code : ℕ). code < 2 ^ 16) codes wide)))
long_fits n (Near reference error) long wide = (omega arith, refl, ((wide.0, refl), (wide.1, refl)))
long_fits n Plain long wide = absurd long
long_fits n (Cell cell border) long wide = absurd long

-- the ranges of the count of landmarks and of bits
record IsAllowed (parts : Parts) (s : Settings) : Type 0 where
  low : 1 ≤ s.p1
  high : s.p1 ≤ 64
  few : s.p1 ≤ length parts.nodes

allowed_count : (parts : Parts) (s : Settings) → method_fault Ldm parts s ≡ None → IsAllowed parts s
allowed_count parts s h = by_tests (nat_le 1 s.p1) (nat_le s.p1 64) (nat_le s.p1 (length parts.nodes)) refl refl refl h
  where
    by_tests : (a b c : Bool) → nat_le 1 s.p1 ≡ a → nat_le s.p1 64 ≡ b → nat_le s.p1 (length parts.nodes) ≡ c → settings_fault (first_failed 3 (((a && b) && c) ∷ is_from_to 1 16 s.p2 ∷ nat_le s.p3 65534 ∷ [])) None ≡ None → IsAllowed parts s
    by_tests true true true p q r h = record { low = grind (arith, p); high = grind (arith, q); few = grind (arith, r) }
    by_tests true true false p q r h = cc
    by_tests true false c p q r h = cc
    by_tests false b c p q r h = cc

pub ldm_fits : BooksFit Ldm
ldm_fits parts s order b is_map lists allowed is =
    let ok : IsAllowed parts s = allowed_count parts s allowed in
    let long : length (landmarks parts s.p1) ≡ s.p1 = landmarks_long parts s.p1 is_map ok.few in
    record {
      extras = λ id l e wide.
          let own = leaf_extra parts order b lists is.of_parts id l e in
          let at : IsLong s.p1 (b.extra_of id) = all_long (codes_of (distance parts) (step parts s.p1 s.p2) (landmarks parts s.p1)) s.p1 s.p3 b.extra_of (λ v. length-map (landmarks parts s.p1) _ ∙ long) [] order is.adds id own.1 in
          long_fits b.numbers.second l.extra (subst (λ n. IsLong n l.extra) (sym is.second) (subst (IsLong s.p1) (sym own.0) at)) wide;
      pairs_rise = subst (λ (ps : List PairLeaf). All (λ p. p.a < p.b) ps) (sym is.has_pairs) (All-from_recursion (λ (p : PairLeaf). p.a < p.b) [] tt);
      pairs_few = omega (arith, ap (λ (ps : List PairLeaf). length ps) is.has_pairs);
      first_least = omega (arith, is.first);
      first_most = (let most : step parts s.p1 s.p2 ≤ 2 ^ 48 = step_most parts is_map (landmarks parts s.p1) s.p2 in omega (arith, is.first, most));
      second_least = omega (arith, is.second, ok.low);
      second_most = omega (arith, is.second, ok.high);
    }
