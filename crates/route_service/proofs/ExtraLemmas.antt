-- A book adds to the leaf of each id the extra contents at the id's index. This holds for the book of parts and
-- settings under any method.
use Rattle.std.proofs.Common.{◌≡◌, ℕ, nat_eq, Bool, true, false, cond, if◌then◌else◌, List, [], ◌∷◌, length, map, refl, arith, ap, ◌∙◌}
use Rattle.std.specs.List.{IsDistinct, AllByRecursion}
use Rattle.std.proofs.lemmas.Bool.Decides.{nat_tests}
use Rattle.std.proofs.lemmas.List.{length-map}
use Rattle.std.proofs.lemmas.Map.Keys.{IsDistinct-head, IsDistinct-tail}
use Rattle.road_map.specs.declared.parts.Parts.{Parts}
use Rattle.road_map.specs.Maps.{IsMap}
use Rattle.road_map.specs.Walks.{distance}
use Rattle.road_leaf.specs.declared.leaf.Extra.{Extra}
use Rattle.road_leaf.specs.declared.leaf.Extra.TheVariants.{Plain}
use Rattle.book_model.specs.Landmarks.{extra_of, kept_after, extras_of}
use Rattle.book_model.specs.Pairs.{pairs_of}
use Rattle.book_model.specs.declared.settings.Settings.{Settings}
use Rattle.book_model.specs.Books.{Kind, Dij, Full, Ldm, Hyp, Book, leaf_order, extras, paired, seed_text, IsBookOf}
use Rattle.proof_method.specs.Gathering.{IsOrderOf}
use Rattle.road_order.proofs.ListingLaws.{lists}
use Rattle.route_server.proofs.Ordered.{order_from_moves}
use Rattle.route_service.specs.Refusals.{numbers_of}

-- the value at the index of an id
abbrev extra_at : List ℕ → List Extra → ℕ → Extra
extra_at [] extras id = Plain
extra_at (v ∷ order) [] id = Plain
extra_at (v ∷ order) (x ∷ extras) id = if nat_eq v id then x else extra_at order extras id

itself : (v : ℕ) → nat_eq v v ≡ true
itself v = grind (arith, nat_tests)

-- an id that is not the first one is searched after it
behind : (v : ℕ) (x : Extra) (order : List ℕ) (extras : List Extra) (ids : List ℕ) → AllByRecursion (λ y. nat_eq v y ≡ false) ids →
    map (extra_at (v ∷ order) (x ∷ extras)) ids ≡ map (extra_at order extras) ids
behind v x order extras [] apart = refl
behind v x order extras (u ∷ ids) apart =
    ap (λ (b : Bool). cond b x (extra_at order extras u) ∷ map (extra_at (v ∷ order) (x ∷ extras)) ids) apart.0
    ∙ ap (λ (es : List Extra). extra_at order extras u ∷ es) (behind v x order extras ids apart.1)

each_at : (order : List ℕ) (extras : List Extra) → IsDistinct nat_eq order → length extras ≡ length order → map (extra_at order extras) order ≡ extras
each_at [] [] distinct same = refl
each_at [] (x ∷ extras) distinct same = absurd (omega (arith, same))
each_at (v ∷ order) [] distinct same = absurd (omega (arith, same))
each_at (v ∷ order) (x ∷ extras) distinct same =
    ap (λ (b : Bool). cond b x (extra_at order extras v) ∷ map (extra_at (v ∷ order) (x ∷ extras)) order) (itself v)
    ∙ ap (λ (es : List Extra). x ∷ es)
    (behind v x order extras order (IsDistinct-head nat_eq v order distinct) ∙ each_at order extras (IsDistinct-tail nat_eq v order distinct) (omega (arith, same)))

length_extras_of : (codes : ℕ → List ℕ) (threshold : ℕ) (kept order : List ℕ) → length (extras_of codes threshold kept order) ≡ length order
unfolding extras_of
length_extras_of codes threshold kept [] = refl
length_extras_of codes threshold kept (v ∷ order) =
    let rest = length_extras_of codes threshold (kept_after (extra_of codes threshold kept v) v kept) order in
    omega (arith, rest)

-- a method adds contents to each leaf
length_extras : (kind : Kind) (parts : Parts) (s : Settings) (order : List ℕ) → length (extras kind parts s order) ≡ length order
length_extras Dij parts s order = length-map order _
length_extras Full parts s order = length-map order _
length_extras Ldm parts s order = length_extras_of _ s.p3 [] order
length_extras Hyp parts s order = length-map order _

pub order_lists : (sha : List ℕ → List ℕ) (parts : Parts) (s : Settings) → IsMap parts → IsOrderOf parts (leaf_order sha parts s)
order_lists sha parts s is_map = order_from_moves parts (leaf_order sha parts s) is_map (lists (λ u. sha (seed_text s.seed u)) parts s.order is_map)

-- the book of parts and settings whose leaves are in this order
abbrev pub book_in : Kind → Parts → Settings → List ℕ → Book
book_in kind parts s order = record {
  parts = parts;
  extra_of = extra_at order (extras kind parts s order);
  pairs = pairs_of (distance parts) (paired kind parts s);
  numbers = numbers_of kind parts s;
}

pub is_book_in : (kind : Kind) (parts : Parts) (s : Settings) (order : List ℕ) → IsOrderOf parts order → IsBookOf kind parts s order (book_in kind parts s order)
is_book_in kind parts s order listed = record {
  of_parts = refl;
  adds = each_at order (extras kind parts s order) listed.distinct (length_extras kind parts s order);
  has_pairs = refl;
  first = refl;
  second = refl;
}
