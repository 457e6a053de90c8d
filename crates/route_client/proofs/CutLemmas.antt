-- The positions of an answer's leaf texts in the octets that encode it.
use Rattle.std.proofs.Common.{◌≡◌, ℕ, suc, ◌+◌, ◌-◌, ◌*◌, ◌^◌, ◌<◌, ◌≤◌, List, [], ◌∷◌, ◌++◌, length, map, take, drop, get_or, refl, sym, ap, subst, ◌∙◌, arith}
use Rattle.std.specs.List.{AllByRecursion, flat_map}
use Rattle.std.specs.Int.{w8, w16, w32, to_be_bytes}
use Rattle.std.proofs.Math.Seq.{drop-append_seam, drop-append-add, take-append_seam, drop-cons}
use Rattle.std.proofs.lemmas.List.{length-append, length-drop, length-map, drop-drop, drop_all, append-nil, append_assoc}
use Rattle.std.proofs.lemmas.List.Concat.{flat_map-cons}
use Rattle.std.proofs.lemmas.List.Elements.{All-from_recursion}
use Rattle.road_leaf.specs.declared.leaf.NodeLeaf.{NodeLeaf}
use Rattle.road_leaf.specs.declared.pair.PairLeaf.{PairLeaf}
use Rattle.road_leaf.specs.Leaves.{node_leaf_text, pair_leaf}
use Rattle.merkle_cover.specs.declared.cuts.Cut.{Cut}
use Rattle.merkle_cover.specs.Cuts.{cut_from, IsIn, AreIn}
use Rattle.proof_octets.proofs.TextRoom.{all_short}
use Rattle.proof_octets.specs.declared.items.NodeItem.{NodeItem}
use Rattle.proof_octets.specs.declared.items.PairItem.{PairItem}
use Rattle.proof_octets.specs.declared.reply.Answer as answers
use Rattle.proof_octets.specs.Good.{IsGood}
use Rattle.proof_octets.specs.Headers.{header}
use Rattle.proof_octets.specs.Replies.{signature, digests, joined, joined_pairs, pair_item, pair_items, tag_of, reply_with, reply_of, reply_text}
use Rattle.proof_octets.specs.Writing.{item_text, way_text, answer_text, written}
use Rattle.proof_octets.proofs.Good.{reply_is}
use Rattle.proof_octets.proofs.GoodHeader.{length-header}
use Rattle.proof_octets.proofs.Writable.{written_same}
use Rattle.route_client.specs.Cutting.{cuts_at, end_at, route_octets, nodes_at}

-- ---- one text

-- a text at an offset after a prefix of n octets
record Stands (octets : List ℕ) (at n : ℕ) (text tail : List ℕ) : Type 0 where
  pub is : take (at + n + length text - (at + n)) (drop (at + n) octets) ≡ text
  pub rest : drop (at + n + length text) octets ≡ tail
  pub within : at + n + length text ≤ length octets

stands : (octets : List ℕ) (at n : ℕ) (front text tail : List ℕ) → length front ≡ n → 0 < n → drop at octets ≡ front ++ (text ++ tail) → Stands octets at n text tail
stands octets at n front text tail size some is =
    let behind : drop (at + n) octets ≡ text ++ tail =
    sym (drop-drop n at octets) ∙ ap (drop n) is ∙ ap (λ (k : ℕ). drop k (front ++ (text ++ tail))) (sym size) ∙ drop-append_seam front (text ++ tail) in
    let long : length octets - at ≡ n + (length text + length tail) =
    sym (length-drop at octets) ∙ ap (λ (l : List ℕ). length l) is ∙ omega (arith, length-append front (text ++ tail), length-append text tail, size) in
    let width : at + n + length text - (at + n) ≡ length text = omega arith in
    record {
      is = ap (λ (k : ℕ). take k (drop (at + n) octets)) width ∙ ap (take (length text)) behind ∙ take-append_seam text tail;
      rest = sym (drop-drop (length text) (at + n) octets) ∙ ap (drop (length text)) behind ∙ drop-append_seam text tail;
      within = omega (arith, long, some);
    }

-- ---- texts one after the other

pub end_least : (n at : ℕ) (texts : List (List ℕ)) → at ≤ end_at n at texts
end_least n at [] = omega arith
end_least n at (text ∷ texts) = omega (arith, end_least n (at + n + length text) texts)

-- the cuts of texts at these positions; after them the octets end or continue with the rest
pub record AreCut (octets : List ℕ) (n at : ℕ) (texts : List (List ℕ)) (rest : List ℕ) : Type 0 where
  pub stand : map (cut_from octets) (cuts_at n at texts) ≡ texts
  pub within : AllByRecursion (IsIn octets) (cuts_at n at texts)
  pub behind : drop (end_at n at texts) octets ≡ rest
  pub last : end_at n at texts ≤ length octets

one_more : (octets : List ℕ) (n at : ℕ) (text tail : List ℕ) (texts : List (List ℕ)) (rest : List ℕ) → Stands octets at n text tail → AreCut octets n (at + n + length text) texts rest → AreCut octets n at (text ∷ texts) rest
one_more octets n at text tail texts rest one more = record {
  stand = ap (λ (t : List ℕ). t ∷ map (cut_from octets) (cuts_at n (at + n + length text) texts)) one.is ∙ ap (λ (ts : List (List ℕ)). text ∷ ts) more.stand;
  within = (record { order = omega arith; within = one.within }, more.within);
  behind = more.behind;
  last = more.last;
}

pub nodes_cut : (octets : List ℕ) (at : ℕ) (ps : List ℕ) (ls : List NodeLeaf) (rest : List ℕ) → length ls ≡ length ps → at ≤ length octets → drop at octets ≡ flat_map item_text (joined ps ls) ++ rest
    → AreCut octets 6 at (map node_leaf_text ls) rest
nodes_cut octets at [] [] rest e le is = record { stand = refl; within = tt; behind = is; last = le }
nodes_cut octets at [] (l ∷ ls) rest e le is = absurd (omega (arith, e))
nodes_cut octets at (p ∷ ps) [] rest e le is = absurd (omega (arith, e))
nodes_cut octets at (p ∷ ps) (l ∷ ls) rest e le is =
    let text = node_leaf_text l in
    let item : NodeItem = record { place = p; leaf = l } in
    let front : List ℕ = to_be_bytes w32 p ++ to_be_bytes w16 (length text) in
    let more : List ℕ = flat_map item_text (joined ps ls) in
    let split : drop at octets ≡ front ++ (text ++ (more ++ rest)) =
    is ∙ ap (λ (t : List ℕ). t ++ rest) (flat_map-cons item_text item (joined ps ls)) ∙ append_assoc (item_text item) more rest
    ∙ ap (λ (t : List ℕ). t ++ (more ++ rest)) (sym (append_assoc (to_be_bytes w32 p) (to_be_bytes w16 (length text)) text)) ∙ append_assoc front text (more ++ rest) in
    let one = stands octets at 6 front text (more ++ rest) (omega arith) (omega arith) split in
    one_more octets 6 at text (more ++ rest) (map node_leaf_text ls) rest one (nodes_cut octets (at + 6 + length text) ps ls rest (omega (arith, e)) one.within one.rest)

pub pairs_cut : (octets : List ℕ) (at : ℕ) (ps : List ℕ) (ls : List PairLeaf) (rest : List ℕ) → length ls ≡ length ps → at ≤ length octets → drop at octets ≡ flat_map (pair_item 0).spell (joined_pairs ps ls) ++ rest
    → AreCut octets 4 at (map pair_leaf.spell ls) rest
pairs_cut octets at [] [] rest e le is = record { stand = refl; within = tt; behind = is; last = le }
pairs_cut octets at [] (l ∷ ls) rest e le is = absurd (omega (arith, e))
pairs_cut octets at (p ∷ ps) [] rest e le is = absurd (omega (arith, e))
pairs_cut octets at (p ∷ ps) (l ∷ ls) rest e le is =
    let text : List ℕ = pair_leaf.spell l in
    let item : PairItem = record { place = p; leaf = l } in
    let spell : PairItem → List ℕ = (pair_item 0).spell in
    let front : List ℕ = to_be_bytes w32 p in
    let more : List ℕ = flat_map spell (joined_pairs ps ls) in
    let split : drop at octets ≡ front ++ (text ++ (more ++ rest)) =
    is ∙ ap (λ (t : List ℕ). t ++ rest) (flat_map-cons spell item (joined_pairs ps ls)) ∙ append_assoc (front ++ text) more rest ∙ append_assoc front text (more ++ rest) in
    let one = stands octets at 4 front text (more ++ rest) (omega arith) (omega arith) split in
    one_more octets 4 at text (more ++ rest) (map pair_leaf.spell ls) rest one (pairs_cut octets (at + 4 + length text) ps ls rest (omega (arith, e)) one.within one.rest)

-- ---- cuts that are added one at a time

pub record Cutting {X : Type 0} (text : X → List ℕ) (n : ℕ) (whole : List Cut) (last : ℕ) (cuts : List Cut) (at : ℕ) (xs : List X) : Type 0 where
  pub all : cuts ++ cuts_at n at (map text xs) ≡ whole
  pub ends : end_at n at (map text xs) ≡ last

next_split : {X : Type 0} (i : ℕ) (xs : List X) (x d : X) → i < length xs → x ≡ get_or xs i d → drop i xs ≡ x ∷ drop (i + 1) xs
next_split i xs x d lt same =
    let step : suc i ≡ i + 1 = omega arith in
    drop-cons xs i d lt ∙ ap (λ y. y ∷ drop (suc i) xs) (sym same) ∙ ap (λ (k : ℕ). x ∷ drop k xs) step

-- the next cut ends no later than the last one
pub next_within : {X : Type 0} (text : X → List ℕ) (n : ℕ) (whole : List Cut) (last : ℕ) (cuts : List Cut) (at i : ℕ) (xs : List X) (x d : X) → i < length xs → x ≡ get_or xs i d
    → Cutting text n whole last cuts at (drop i xs) → at + n + length (text x) ≤ last
next_within text n whole last cuts at i xs x d lt same c =
    let split = next_split i xs x d lt same in
    omega (arith, end_least n (at + n + length (text x)) (map text (drop (i + 1) xs)), ap (λ ys. end_at n at (map text ys)) split, c.ends)

one_cut : {X : Type 0} (text : X → List ℕ) (n : ℕ) (whole : List Cut) (last : ℕ) (cuts new : List Cut) (at i : ℕ) (xs : List X) (x : X) → drop i xs ≡ x ∷ drop (i + 1) xs
    → new ≡ cuts ++ record { start = at + n; end = at + n + length (text x) } ∷ [] → Cutting text n whole last cuts at (drop i xs) → Cutting text n whole last new (at + n + length (text x)) (drop (i + 1) xs)
one_cut text n whole last cuts new at i xs x split pushed c =
    let end = at + n + length (text x) in
    let cut : Cut = record { start = at + n; end = end } in
    record {
      all =
          ap (λ (l : List Cut). l ++ cuts_at n end (map text (drop (i + 1) xs))) pushed
          ∙ append_assoc cuts (cut ∷ []) (cuts_at n end (map text (drop (i + 1) xs)))
          ∙ ap (λ ys. cuts ++ cuts_at n at (map text ys)) (sym split) ∙ c.all;
      ends = ap (λ ys. end_at n at (map text ys)) (sym split) ∙ c.ends;
    }

-- the next cut has a text of k octets, up to the end
pub next_cut : {X : Type 0} (text : X → List ℕ) (n : ℕ) (whole : List Cut) (last : ℕ) (cuts new : List Cut) (at i : ℕ) (xs : List X) (x d : X) (k end : ℕ) → i < length xs → x ≡ get_or xs i d → k ≡ length (text x)
    → end ≡ at + n + k → new ≡ cuts ++ record { start = at + n; end = at + n + k } ∷ [] → Cutting text n whole last cuts at (drop i xs) → Cutting text n whole last new end (drop (i + 1) xs)
next_cut text n whole last cuts new at i xs x d k end lt same size here pushed c =
    let wide : at + n + k ≡ at + n + length (text x) = omega (arith, size) in
    subst (λ (e : ℕ). Cutting text n whole last new e (drop (i + 1) xs)) (sym (here ∙ wide))
    (one_cut text n whole last cuts new at i xs x (next_split i xs x d lt same) (pushed ∙ ap (λ (e : ℕ). cuts ++ record { start = at + n; end = e } ∷ []) wide) c)

-- all cuts are added
pub record AllCut (whole : List Cut) (last : ℕ) (cuts : List Cut) (at : ℕ) : Type 0 where
  pub all : cuts ≡ whole
  pub ends : at ≡ last

pub all_cut : {X : Type 0} (text : X → List ℕ) (n : ℕ) (whole : List Cut) (last : ℕ) (cuts : List Cut) (at i : ℕ) (xs : List X) → length xs ≤ i → Cutting text n whole last cuts at (drop i xs) → AllCut whole last cuts at
all_cut text n whole last cuts at i xs past c =
    let none : drop i xs ≡ [] = drop_all i xs past in
    record {
      all = sym (append-nil cuts) ∙ ap (λ ys. cuts ++ cuts_at n at (map text ys)) (sym none) ∙ c.all;
      ends = ap (λ ys. end_at n at (map text ys)) (sym none) ∙ c.ends;
    }

-- ---- the position of the first cut

behind_five : (k h g r c y z : List ℕ) → drop (length k + (length h + (length g + (length r + length c)))) (k ++ (h ++ (g ++ (r ++ ((c ++ y) ++ z))))) ≡ y ++ z
behind_five k h g r c y z =
    drop-append-add k (h ++ (g ++ (r ++ ((c ++ y) ++ z)))) (length h + (length g + (length r + length c)))
    ∙ drop-append-add h (g ++ (r ++ ((c ++ y) ++ z))) (length g + (length r + length c))
    ∙ drop-append-add g (r ++ ((c ++ y) ++ z)) (length r + length c)
    ∙ drop-append-add r ((c ++ y) ++ z) (length c)
    ∙ ap (drop (length c)) (append_assoc c y z) ∙ drop-append_seam c (y ++ z)

abbrev behind_nodes : answers.Answer → List ℕ
behind_nodes a = pair_items.spell (a.pair_places, a.items.pairs) ++ (digests.spell a.node_cover ++ digests.spell a.pair_cover)

route_long : (ids : List ℕ) → length (flat_map (to_be_bytes w32) ids) ≡ 4 * length ids
route_long ids = all_short (to_be_bytes w32) 4 (λ n. omega arith) ids

way_long : (ids : List ℕ) → length (way_text ids) ≡ route_octets ids
way_long [] = refl
way_long (id ∷ ids) = omega (arith, route_long (id ∷ ids))

behind_long : (k h g r c y z : List ℕ) → length k + (length h + (length g + (length r + length c))) ≤ length (k ++ (h ++ (g ++ (r ++ ((c ++ y) ++ z)))))
behind_long k h g r c y z =
    omega (
      arith,
      length-append k (h ++ (g ++ (r ++ ((c ++ y) ++ z)))),
      length-append h (g ++ (r ++ ((c ++ y) ++ z))),
      length-append g (r ++ ((c ++ y) ++ z)),
      length-append r ((c ++ y) ++ z),
      length-append (c ++ y) z,
      length-append c y,
    )

-- octets from an offset that lies within them
pub record From (octets : List ℕ) (at : ℕ) (rest : List ℕ) : Type 0 where
  pub is : drop at octets ≡ rest
  pub within : at ≤ length octets

-- the octets after five pieces, the last of which gives the number of items
pub items_stand : (octets k h g r c y z : List ℕ) (at : ℕ) → octets ≡ k ++ (h ++ (g ++ (r ++ ((c ++ y) ++ z)))) → at ≡ length k + (length h + (length g + (length r + length c))) → From octets at (y ++ z)
items_stand octets k h g r c y z at same first = record {
  is = ap (drop at) same ∙ ap (λ (n : ℕ). drop n (k ++ (h ++ (g ++ (r ++ ((c ++ y) ++ z)))))) first ∙ behind_five k h g r c y z;
  within = omega (arith, first, behind_long k h g r c y z, ap (λ (l : List ℕ). length l) same);
}

-- a reply with an answer consists of its kind and the answer's text
written_with : (ids : List ℕ) (a : answers.Answer) → written (reply_with ids a) ≡ to_be_bytes w8 (tag_of (reply_with ids a)) ++ answer_text a
written_with [] a = refl
written_with (id ∷ ids) a = refl

nodes_stand : (a : answers.Answer) (octets : List ℕ) → IsGood a → octets ≡ reply_text (reply_of a)
    → From octets (nodes_at a) (flat_map item_text (joined a.node_places a.items.nodes) ++ behind_nodes a)
unfolding answer_text
nodes_stand a octets good is =
    let h = header.spell a.header in
    let g = signature.spell a.signature in
    let r = way_text a.items.route in
    let c = to_be_bytes w32 (length (joined a.node_places a.items.nodes)) in
    let y = flat_map item_text (joined a.node_places a.items.nodes) in
    let k = to_be_bytes w8 (tag_of (reply_of a)) in
    let same : octets ≡ k ++ answer_text a = is ∙ sym (written_same (reply_of a) ((reply_is a).1 good)) ∙ written_with a.items.route a in
    let first : nodes_at a ≡ length k + (length h + (length g + (length r + length c))) =
    omega (arith, length-header a.header good.header, way_long a.items.route) in
    items_stand octets k h g r c y (behind_nodes a) (nodes_at a) same first

abbrev covers_text : answers.Answer → List ℕ
covers_text a = digests.spell a.node_cover ++ digests.spell a.pair_cover

pairs_stand : (a : answers.Answer) (octets : List ℕ) (end : ℕ) → end ≤ length octets → drop end octets ≡ behind_nodes a
    → From octets (end + 4) (flat_map (pair_item 0).spell (joined_pairs a.pair_places a.items.pairs) ++ covers_text a)
unfolding pair_items
pairs_stand a octets end le is =
    let c = to_be_bytes w32 (length (joined_pairs a.pair_places a.items.pairs)) in
    let y = flat_map (pair_item 0).spell (joined_pairs a.pair_places a.items.pairs) in
    let size : length c ≡ 4 = omega arith in
    record {
      is =
          sym (drop-drop 4 end octets) ∙ ap (drop 4) is ∙ ap (λ (n : ℕ). drop n ((c ++ y) ++ covers_text a)) (sym size)
          ∙ ap (drop (length c)) (append_assoc c y (covers_text a)) ∙ drop-append_seam c (y ++ covers_text a);
      within = omega (arith, le, length-drop end octets, ap (λ (l : List ℕ). length l) is, length-append (c ++ y) (covers_text a), length-append c y, size);
    }

-- ---- all cuts

abbrev pub pairs_at : answers.Answer → ℕ
pairs_at a = end_at 6 (nodes_at a) (map node_leaf_text a.items.nodes) + 4

record LeavesCut (a : answers.Answer) (octets : List ℕ) : Type 0 where
  pub nodes : AreCut octets 6 (nodes_at a) (map node_leaf_text a.items.nodes) (behind_nodes a)
  pub pairs : AreCut octets 4 (pairs_at a) (map pair_leaf.spell a.items.pairs) (covers_text a)

leaves_cut : (a : answers.Answer) (octets : List ℕ) → IsGood a → octets ≡ reply_text (reply_of a) → LeavesCut a octets
leaves_cut a octets good is =
    let first = nodes_stand a octets good is in
    let nodes = nodes_cut octets (nodes_at a) a.node_places a.items.nodes (behind_nodes a) good.nodes.one_each first.within first.is in
    let second = pairs_stand a octets (end_at 6 (nodes_at a) (map node_leaf_text a.items.nodes)) nodes.last nodes.behind in
    record {
      nodes = nodes;
      pairs = pairs_cut octets (pairs_at a) a.pair_places a.items.pairs (covers_text a) good.pairs.one_each second.within second.is;
    }

length-cuts_at : (n at : ℕ) (texts : List (List ℕ)) → length (cuts_at n at texts) ≡ length texts
length-cuts_at n at [] = refl
length-cuts_at n at (text ∷ texts) = omega (arith, length-cuts_at n (at + n + length text) texts)

-- cuts give the texts at their positions
pub record Shown (octets : List ℕ) (cuts : List Cut) (texts : List (List ℕ)) : Type 0 where
  pub inside : AreIn octets cuts
  pub stand : map (cut_from octets) cuts ≡ texts

pub shown : (octets : List ℕ) (n at : ℕ) (texts : List (List ℕ)) (rest : List ℕ) (cuts : List Cut) → length texts < 2 ^ 32 → AreCut octets n at texts rest → cuts ≡ cuts_at n at texts → Shown octets cuts texts
shown octets n at texts rest cuts few cut is =
    let all : AreIn octets (cuts_at n at texts) = record {
      count = omega (arith, length-cuts_at n at texts, few);
      each = All-from_recursion (IsIn octets) (cuts_at n at texts) cut.within;
    } in
    record { inside = subst (AreIn octets) (sym is) all; stand = ap (map (cut_from octets)) is ∙ cut.stand }

pub nodes_shown : (a : answers.Answer) (octets : List ℕ) (cuts : List Cut) → IsGood a → octets ≡ reply_text (reply_of a) → cuts ≡ cuts_at 6 (nodes_at a) (map node_leaf_text a.items.nodes) → Shown octets cuts (map node_leaf_text a.items.nodes)
nodes_shown a octets cuts good spelled is =
    shown octets 6 (nodes_at a) (map node_leaf_text a.items.nodes) (behind_nodes a) cuts (omega (arith, length-map a.items.nodes node_leaf_text, good.nodes.one_each, good.nodes.few)) (leaves_cut a octets good spelled).nodes is

pub pairs_shown : (a : answers.Answer) (octets : List ℕ) (cuts : List Cut) → IsGood a → octets ≡ reply_text (reply_of a) → cuts ≡ cuts_at 4 (pairs_at a) (map pair_leaf.spell a.items.pairs) → Shown octets cuts (map pair_leaf.spell a.items.pairs)
pairs_shown a octets cuts good spelled is =
    shown octets 4 (pairs_at a) (map pair_leaf.spell a.items.pairs) (covers_text a) cuts (omega (arith, length-map a.items.pairs pair_leaf.spell, good.pairs.one_each, good.pairs.few)) (leaves_cut a octets good spelled).pairs is

-- the offset at which the items end and the octets continue
pub record ItemsEnd (a : answers.Answer) (octets : List ℕ) : Type 0 where
  pub nodes : end_at 6 (nodes_at a) (map node_leaf_text a.items.nodes) ≤ length octets
  pub between : pairs_at a ≤ length octets
  pub pairs : end_at 4 (pairs_at a) (map pair_leaf.spell a.items.pairs) ≤ length octets

pub items_end : (a : answers.Answer) (octets : List ℕ) → IsGood a → octets ≡ reply_text (reply_of a) → ItemsEnd a octets
items_end a octets good spelled =
    let cut = leaves_cut a octets good spelled in
    record { nodes = cut.nodes.last; between = omega (arith, end_least 4 (pairs_at a) (map pair_leaf.spell a.items.pairs), cut.pairs.last); pairs = cut.pairs.last }

-- a pair's leaf has 17 octets
pub pair_long : (l : PairLeaf) → length (pair_leaf.spell l) ≡ 17
unfolding pair_leaf
pair_long l = omega arith
