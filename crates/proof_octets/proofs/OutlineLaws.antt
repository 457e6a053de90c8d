-- An outline belongs to the reply, and the number of skimmed values is the number of kept ones.
use Rattle.std.proofs.Common.{◌≡◌, ℕ, zero, suc, Bool, true, false, cond, List, [], ◌∷◌, ◌++◌, length, map, Option, None, Some, Result, Ok, Err, refl, sym, ap, ◌∙◌, subst, nat_eq}
use Rattle.std.proofs.lemmas.List.{length-map}
use Rattle.std.specs.Prelude.{IfSome, IfOk}
use Rattle.std.specs.Int.{w8, w32}
use Rattle.octet_text.specs.Left.{Left}
use Rattle.octet_text.specs.Exact.{IsBytes}
use Rattle.octet_text.specs.Format.{◌>>=◌, Format, Fails, octets, any_octets, between, any, seq, rows_at, seen_as, number_at, ended, whole, Reads}
use Rattle.octet_text.specs.declared.errors.ReadError.{ReadError}
use Rattle.octet_text.specs.declared.errors.ReadError.TheVariants as errors
use Rattle.octet_text.proofs.Fields.{whole_found}
use Rattle.octet_text.proofs.Loop.{Begun}
use Rattle.road_leaf.specs.declared.leaf.LeafKind.{LeafKind}
use Rattle.road_leaf.specs.declared.leaf.NodeLeaf.{NodeLeaf}
use Rattle.road_leaf.specs.declared.pair.PairLeaf.{PairLeaf}
use Rattle.proof_octets.specs.declared.items.NodeItem.{NodeItem}
use Rattle.proof_octets.specs.declared.items.PairItem.{PairItem}
use Rattle.proof_octets.specs.declared.outline.Outline.{Outline}
use Rattle.proof_octets.specs.declared.reply.Answer as answers
use Rattle.proof_octets.specs.declared.reply.Reply.{Reply}
use Rattle.proof_octets.specs.declared.reply.Reply.TheVariants as replies
use Rattle.proof_octets.specs.Good.{IsGood, IsGoodHeader}
use Rattle.proof_octets.specs.Headers.{header, leaf_kind}
use Rattle.proof_octets.specs.Replies.{signature, way_of, none_after, node_item, after_node, pair_item, after_pair, parted, node_items, pair_items, parted_pairs, digests, AnswerParts, answer_of, answer, reply_kind, reply}
use Rattle.proof_octets.specs.Outlines.{many, OutlineParts, outline_made, outline_of, outline_in, outlined, outline, outline_kind, outlines}
use Rattle.proof_octets.proofs.FormatLaws.{reply_exact}
use Rattle.proof_octets.proofs.Good.{reply_is, is_routed, is_apart}

-- ---- values that are not kept

-- a failure of the first step is a failure of the whole
pub fails_then : {A B : Type 0} (e : ReadError) (r : Result A ℕ) (k : A → Result B ℕ) → Fails e r → Fails e (r >>= k)
fails_then (errors.Memory _) r k h = tt
fails_then {A} (errors.Malformed m) r k h = ap (λ (q : Result A ℕ). q >>= k) h

-- the value that was read first
abbrev front_of : {A : Type 0} → Result (List A × Left) ℕ → List A
front_of (Ok x) = x.0
front_of (Err e) = []

-- rows that are read, completed by the rows still to be read, are the rows that all steps give
abbrev pub SomeBegun : {A : Type 0} → (ℕ → Format A) → (A → ℕ) → ℕ → ℕ → Left → Result (List A × Left) ℕ → Type 0
SomeBegun {A} row next n s left total = (front : List A) × Begun row next front n s left total

-- the number of rows read is the requested number
long_more : {A : Type 0} (x : A) (n : ℕ) (xs : List A) (rest : Left) (r : Result (List A × Left) ℕ) → ((ys : List A) (end : Left) → r ≡ Ok (ys, end) → length ys ≡ n) → ◌≡◌ {A = Result (List A × Left) ℕ} (r >>= λ ys. Ok (x ∷ ys.0, ys.1)) (Ok (xs, rest)) → length xs ≡ suc n
long_more x n xs rest (Ok ys) long h = ap length (sym (ap front_of h)) ∙ ap suc (long ys.0 ys.1 refl)
long_more x n xs rest (Err f) long h = absurd cc

long_first : {A : Type 0} (row : ℕ → Format A) (next : A → ℕ) (n : ℕ) (xs : List A) (rest : Left) (r : Result (A × Left) ℕ) → ((x : A) (mid : Left) (ys : List A) (end : Left) → rows_at row next n (next x) mid ≡ Ok (ys, end) → length ys ≡ n) → ◌≡◌ {A = Result (List A × Left) ℕ} (r >>= λ x. rows_at row next n (next x.0) x.1 >>= λ ys. Ok (x.0 ∷ ys.0, ys.1)) (Ok (xs, rest)) → length xs ≡ suc n
long_first row next n xs rest (Ok x) long h = long_more x.0 n xs rest (rows_at row next n (next x.0) x.1) (long x.0 x.1) h
long_first row next n xs rest (Err f) long h = absurd cc

rows_long : {A : Type 0} (row : ℕ → Format A) (next : A → ℕ) (n s : ℕ) (left : Left) (xs : List A) (rest : Left) → rows_at row next n s left ≡ Ok (xs, rest) → length xs ≡ n
rows_long row next zero s left xs rest e = ap length (sym (ap front_of e))
rows_long row next (suc n) s left xs rest e = long_first row next n xs rest ((row s).read left) (λ x mid ys end is. rows_long row next n (next x) mid ys end is) e

pub rows_many : {A : Type 0} (row : ℕ → Format A) (next : A → ℕ) (xs : List A) (n s : ℕ) (left rest : Left) → rows_at row next n s left ≡ Ok (xs, rest) → (rows_at row next n s left >>= seen_as length) ≡ Ok (n, rest)
rows_many {A} row next xs n s left rest e = ap (λ (q : Result (List A × Left) ℕ). q >>= seen_as length) e ∙ ap (λ (k : ℕ). Ok (k, rest)) (rows_long row next n s left xs rest e)

-- the number of items is the number of indices
nodes_parted : (r : Result (List NodeItem × Left) ℕ) (count : ℕ) → ((((r >>= λ y. Ok ((count, y.0), y.1)) >>= seen_as (λ (p : ℕ × List NodeItem). p.1)) >>= seen_as parted) >>= seen_as (λ (p : List ℕ × List NodeLeaf). length p.0)) ≡ (r >>= seen_as length)
nodes_parted (Ok y) count = ap (λ (k : ℕ). Ok (k, y.1)) (length-map y.0 (λ (i : NodeItem). i.place))
nodes_parted (Err f) count = refl

pub nodes_many : (kind : LeafKind) (left mid : Left) (count : ℕ) → number_at w32 any left ≡ Ok (count, mid) → (many (λ p. length p.0) (node_items kind)).read left ≡ (rows_at (node_item kind) after_node count 0 mid >>= seen_as length)
unfolding node_items
nodes_many kind left mid count e =
    ap (λ (q : Result (ℕ × Left) ℕ). (((q >>= λ x. rows_at (node_item kind) after_node x.0 0 x.1 >>= λ y. Ok ((x.0, y.0), y.1)) >>= seen_as (λ (p : ℕ × List NodeItem). p.1)) >>= seen_as parted) >>= seen_as (λ (p : List ℕ × List NodeLeaf). length p.0)) e
    ∙ nodes_parted (rows_at (node_item kind) after_node count 0 mid) count

pairs_parted : (r : Result (List PairItem × Left) ℕ) (count : ℕ) → ((((r >>= λ y. Ok ((count, y.0), y.1)) >>= seen_as (λ (p : ℕ × List PairItem). p.1)) >>= seen_as parted_pairs) >>= seen_as (λ (p : List ℕ × List PairLeaf). length p.0)) ≡ (r >>= seen_as length)
pairs_parted (Ok y) count = ap (λ (k : ℕ). Ok (k, y.1)) (length-map y.0 (λ (i : PairItem). i.place))
pairs_parted (Err f) count = refl

pub pairs_many : (left mid : Left) (count : ℕ) → number_at w32 any left ≡ Ok (count, mid) → (many (λ p. length p.0) pair_items).read left ≡ (rows_at pair_item after_pair count 0 mid >>= seen_as length)
unfolding pair_items
pairs_many left mid count e =
    ap (λ (q : Result (ℕ × Left) ℕ). (((q >>= λ x. rows_at pair_item after_pair x.0 0 x.1 >>= λ y. Ok ((x.0, y.0), y.1)) >>= seen_as (λ (p : ℕ × List PairItem). p.1)) >>= seen_as parted_pairs) >>= seen_as (λ (p : List ℕ × List PairLeaf). length p.0)) e
    ∙ pairs_parted (rows_at pair_item after_pair count 0 mid) count

digests_listed : (r : Result (List (List ℕ) × Left) ℕ) (count : ℕ) → (((r >>= λ y. Ok ((count, y.0), y.1)) >>= seen_as (λ (p : ℕ × List (List ℕ)). p.1)) >>= seen_as length) ≡ (r >>= seen_as length)
digests_listed (Ok y) count = refl
digests_listed (Err f) count = refl

pub digests_many : (left mid : Left) (count : ℕ) → number_at w32 any left ≡ Ok (count, mid) → (many length digests).read left ≡ (rows_at (λ _. octets 32 any_octets) none_after count 0 mid >>= seen_as length)
digests_many left mid count e =
    ap (λ (q : Result (ℕ × Left) ℕ). ((q >>= λ x. rows_at (λ _. octets 32 any_octets) none_after x.0 0 x.1 >>= λ y. Ok ((x.0, y.0), y.1)) >>= seen_as (λ (p : ℕ × List (List ℕ)). p.1)) >>= seen_as length) e
    ∙ digests_listed (rows_at (λ _. octets 32 any_octets) none_after count 0 mid) count

-- ---- items that are split as they are read

pub map_push : {A B : Type 0} (f : A → B) (xs : List A) (x : A) (ys : List B) → ys ≡ map f xs → ys ++ f x ∷ [] ≡ map f (xs ++ x ∷ [])
map_push {A} f xs x ys are = ap (λ zs. zs ++ f x ∷ []) are ∙ behind xs
  where
    behind : (ws : List A) → map f ws ++ f x ∷ [] ≡ map f (ws ++ x ∷ [])
    behind [] = refl
    behind (w ∷ ws) = ap (λ zs. f w ∷ zs) (behind ws)

-- items as two lists, one for each part of an item
abbrev parts_of : {A L : Type 0} → (A → ℕ) → (A → L) → List A → List ℕ × List L
parts_of place leaf items = (map place items, map leaf items)

pub parted_done : {A L : Type 0} (place : A → ℕ) (leaf : A → L) (front : List A) (total : Result (List A × Left) ℕ) (left : Left) (places : List ℕ) (leaves : List L) → total ≡ Ok (front, left) → places ≡ map place front → leaves ≡ map leaf front → (total >>= seen_as (parts_of place leaf)) ≡ Ok ((places, leaves), left)
parted_done {A} {L} place leaf front total left places leaves e first second =
    ap (λ (q : Result (List A × Left) ℕ). q >>= seen_as (parts_of place leaf)) e
    ∙ (ap (λ (ps : List ℕ). Ok ((ps, map leaf front), left)) (sym first) ∙ ap (λ (ls : List L). Ok ((places, ls), left)) (sym second))

-- a known number of items, split into parts
counted_off : {A B : Type 0} (count : ℕ) (part : List A → B) (r : Result (List A × Left) ℕ) → (((r >>= λ y. Ok ((count, y.0), y.1)) >>= seen_as (λ (p : ℕ × List A). p.1)) >>= seen_as part) ≡ (r >>= seen_as part)
counted_off count part (Ok y) = refl
counted_off count part (Err f) = refl

pub nodes_read : (kind : LeafKind) (left mid : Left) (count : ℕ) → number_at w32 any left ≡ Ok (count, mid) → (node_items kind).read left ≡ (rows_at (node_item kind) after_node count 0 mid >>= seen_as parted)
unfolding node_items
nodes_read kind left mid count e =
    ap (λ (q : Result (ℕ × Left) ℕ). ((q >>= λ x. rows_at (node_item kind) after_node x.0 0 x.1 >>= λ y. Ok ((x.0, y.0), y.1)) >>= seen_as (λ (p : ℕ × List NodeItem). p.1)) >>= seen_as parted) e
    ∙ counted_off count parted (rows_at (node_item kind) after_node count 0 mid)

pub pairs_read : (left mid : Left) (count : ℕ) → number_at w32 any left ≡ Ok (count, mid) → pair_items.read left ≡ (rows_at pair_item after_pair count 0 mid >>= seen_as parted_pairs)
unfolding pair_items
pairs_read left mid count e =
    ap (λ (q : Result (ℕ × Left) ℕ). ((q >>= λ x. rows_at pair_item after_pair x.0 0 x.1 >>= λ y. Ok ((x.0, y.0), y.1)) >>= seen_as (λ (p : ℕ × List PairItem). p.1)) >>= seen_as parted_pairs) e
    ∙ counted_off count parted_pairs (rows_at pair_item after_pair count 0 mid)

-- ---- formats that read in the same way

-- a pair whose second value is read after the first
abbrev pair_with : {A B : Type 0} → A → B × Left → Result ((A × B) × Left) ℕ
pair_with a y = Ok ((a, y.0), y.1)

abbrev second_as : {A B C : Type 0} → (B → C) → A × B → A × C
second_as to p = (p.0, to p.1)

abbrev both_as : {A B C D : Type 0} → (A → B) → (C → D) → A × C → B × D
both_as one two p = (one p.0, two p.1)

-- a second value after a first: two such formats read alike if the formats of the second value do
seq_alike : {A B C : Type 0} (f : Format A) (g : A → Format B) (h : A → Format C) (to : B → C) → ((a : A) (left : Left) → (h a).read left ≡ ((g a).read left >>= seen_as to)) → (left : Left) → (seq f h).read left ≡ ((seq f g).read left >>= seen_as (second_as to))
seq_alike {A} {B} {C} f g h to same left = first (f.read left)
  where
    second : (a : A) (r : Result (B × Left) ℕ) → ((r >>= seen_as to) >>= pair_with a) ≡ ((r >>= pair_with a) >>= seen_as (second_as to))
    second a (Ok y) = refl
    second a (Err e) = refl

    first : (r : Result (A × Left) ℕ) → (r >>= λ x. (h x.0).read x.1 >>= pair_with x.0) ≡ ((r >>= λ x. (g x.0).read x.1 >>= pair_with x.0) >>= seen_as (second_as to))
    first (Ok x) = ap (λ (q : Result (C × Left) ℕ). q >>= pair_with x.0) (same x.0 x.1) ∙ second x.0 ((g x.0).read x.1)
    first (Err e) = refl

-- the same if the first value is only counted
many_alike : {A B C : Type 0} (count : A → ℕ) (f : Format A) (g : Format B) (h : Format C) (to : B → C) → ((left : Left) → h.read left ≡ (g.read left >>= seen_as to)) → (left : Left) → (seq (many count f) (λ _. h)).read left ≡ ((seq f (λ _. g)).read left >>= seen_as (both_as count to))
many_alike {A} {B} {C} count f g h to same left = first (f.read left)
  where
    second : (a : A) (r : Result (B × Left) ℕ) → ((r >>= seen_as to) >>= pair_with (count a)) ≡ ((r >>= pair_with a) >>= seen_as (both_as count to))
    second a (Ok y) = refl
    second a (Err e) = refl

    first : (r : Result (A × Left) ℕ) → ((r >>= seen_as count) >>= λ x. h.read x.1 >>= pair_with x.0) ≡ ((r >>= λ x. g.read x.1 >>= pair_with x.0) >>= seen_as (both_as count to))
    first (Ok x) = ap (λ (q : Result (C × Left) ℕ). q >>= pair_with (count x.0)) (same x.1) ∙ second x.0 (g.read x.1)
    first (Err e) = refl

-- the parts of an answer, from the last to the first
abbrev covers_kept : Format (List (List ℕ) × List (List ℕ))
covers_kept = seq digests (λ _. digests)

abbrev covers_skimmed : Format (ℕ × ℕ)
covers_skimmed = seq (many length digests) (λ _. many length digests)

abbrev count_covers : List (List ℕ) × List (List ℕ) → ℕ × ℕ
count_covers p = (length p.0, length p.1)

covers_alike : (left : Left) → covers_skimmed.read left ≡ (covers_kept.read left >>= seen_as count_covers)
covers_alike left = many_alike length digests digests (many length digests) length (λ l. refl) left

abbrev pairs_kept : Format ((List ℕ × List PairLeaf) × (List (List ℕ) × List (List ℕ)))
pairs_kept = seq pair_items (λ _. covers_kept)

abbrev pairs_skimmed : Format (ℕ × (ℕ × ℕ))
pairs_skimmed = seq (many (λ p. length p.0) pair_items) (λ _. covers_skimmed)

abbrev count_pairs : (List ℕ × List PairLeaf) × (List (List ℕ) × List (List ℕ)) → ℕ × (ℕ × ℕ)
count_pairs p = (length p.0.0, count_covers p.1)

pairs_alike : (left : Left) → pairs_skimmed.read left ≡ (pairs_kept.read left >>= seen_as count_pairs)
pairs_alike left = many_alike (λ p. length p.0) pair_items covers_kept covers_skimmed count_covers covers_alike left

abbrev nodes_kept : LeafKind → Format ((List ℕ × List NodeLeaf) × ((List ℕ × List PairLeaf) × (List (List ℕ) × List (List ℕ))))
nodes_kept kind = seq (node_items kind) (λ _. pairs_kept)

abbrev nodes_skimmed : LeafKind → Format (ℕ × (ℕ × (ℕ × ℕ)))
nodes_skimmed kind = seq (many (λ p. length p.0) (node_items kind)) (λ _. pairs_skimmed)

abbrev counts : (List ℕ × List NodeLeaf) × ((List ℕ × List PairLeaf) × (List (List ℕ) × List (List ℕ))) → ℕ × (ℕ × (ℕ × ℕ))
counts p = (length p.0.0, count_pairs p.1)

nodes_alike : (kind : LeafKind) (left : Left) → (nodes_skimmed kind).read left ≡ ((nodes_kept kind).read left >>= seen_as counts)
nodes_alike kind left = many_alike (λ p. length p.0) (node_items kind) pairs_kept pairs_skimmed count_pairs pairs_alike left

way_alike : (way : Format (List ℕ)) (kind : LeafKind) (left : Left) → (seq way (λ _. nodes_skimmed kind)).read left ≡ ((seq way (λ _. nodes_kept kind)).read left >>= seen_as (second_as counts))
way_alike way kind left = seq_alike way (λ _. nodes_kept kind) (λ _. nodes_skimmed kind) counts (λ _ l. nodes_alike kind l) left

signed_alike : (way : Format (List ℕ)) (kind : LeafKind) (left : Left) → (seq signature (λ _. seq way (λ _. nodes_skimmed kind))).read left ≡ ((seq signature (λ _. seq way (λ _. nodes_kept kind))).read left >>= seen_as (second_as (second_as counts)))
signed_alike way kind left = seq_alike signature (λ _. seq way (λ _. nodes_kept kind)) (λ _. seq way (λ _. nodes_skimmed kind)) (second_as counts) (λ _ l. way_alike way kind l) left

abbrev outline_parts : AnswerParts → OutlineParts
outline_parts p = (p.0, (p.1.0, (p.1.1.0, counts p.1.1.1)))

parts_alike : (way : Format (List ℕ)) (left : Left) → (seq header (λ h. seq signature (λ _. seq way (λ _. nodes_skimmed (leaf_kind h))))).read left ≡ ((seq header (λ h. seq signature (λ _. seq way (λ _. nodes_kept (leaf_kind h))))).read left >>= seen_as outline_parts)
parts_alike way left = seq_alike header (λ h. seq signature (λ _. seq way (λ _. nodes_kept (leaf_kind h)))) (λ h. seq signature (λ _. seq way (λ _. nodes_skimmed (leaf_kind h)))) (second_as (second_as counts)) (λ h l. signed_alike way (leaf_kind h) l) left

made_alike : (r : Result (AnswerParts × Left) ℕ) → ((r >>= seen_as outline_parts) >>= seen_as outline_made) ≡ ((r >>= seen_as answer_of) >>= seen_as outline_of)
made_alike (Ok x) = refl
made_alike (Err e) = refl

outline_alike : (way : Format (List ℕ)) (left : Left) → (outline way).read left ≡ ((answer way).read left >>= seen_as outline_of)
unfolding outline answer
outline_alike way left =
    ap (λ (q : Result (OutlineParts × Left) ℕ). q >>= seen_as outline_made) (parts_alike way left)
    ∙ made_alike ((seq header (λ h. seq signature (λ _. seq way (λ _. nodes_kept (leaf_kind h))))).read left)

-- ---- replies

routed_alike : (r : Result (answers.Answer × Left) ℕ) → ((r >>= seen_as outline_of) >>= seen_as (λ o. Some o)) ≡ ((r >>= seen_as replies.Answer) >>= seen_as outline_in)
routed_alike (Ok x) = refl
routed_alike (Err e) = refl

apart_alike : (r : Result (answers.Answer × Left) ℕ) → ((r >>= seen_as outline_of) >>= seen_as (λ o. Some o)) ≡ ((r >>= seen_as replies.Apart) >>= seen_as outline_in)
apart_alike (Ok x) = refl
apart_alike (Err e) = refl

kind_alike : (k : ℕ) (left : Left) → (outline_kind k).read left ≡ ((reply_kind k).read left >>= seen_as outline_in)
kind_alike zero left = ap (λ (q : Result (Outline × Left) ℕ). q >>= seen_as (λ o. Some o)) (outline_alike (way_of true) left) ∙ routed_alike ((answer (way_of true)).read left)
kind_alike (suc zero) left = refl
kind_alike (suc (suc zero)) left = refl
kind_alike (suc (suc (suc zero))) left = ap (λ (q : Result (Outline × Left) ℕ). q >>= seen_as (λ o. Some o)) (outline_alike (way_of false) left) ∙ apart_alike ((answer (way_of false)).read left)
kind_alike (suc (suc (suc (suc k)))) left = refl

tag_alike : (r : Result (ℕ × Left) ℕ) → (r >>= λ k. (outline_kind k.0).read k.1) ≡ ((r >>= λ k. (reply_kind k.0).read k.1) >>= seen_as outline_in)
tag_alike (Ok k) = kind_alike k.0 k.1
tag_alike (Err e) = refl

outlines_alike : (left : Left) → outlines.read left ≡ (reply.read left >>= seen_as outline_in)
unfolding outlines reply
outlines_alike left = tag_alike (number_at w8 (between 0 3) left)

if_ended : (b : Bool) (r : Reply) (at : ℕ) → ◌≡◌ {A = Result (Option Outline) ℕ} (cond b (Ok (outline_in r)) (Err at)) (outlined (cond b (Ok r) (Err at)))
if_ended true r at = refl
if_ended false r at = refl

ended_alike : (r : Result (Reply × Left) ℕ) → ((r >>= seen_as outline_in) >>= ended) ≡ outlined (r >>= ended)
ended_alike (Ok x) = if_ended (nat_eq (length x.1.text) 0) x.0 x.1.at
ended_alike (Err e) = refl

pub outlined_is : (octets : List ℕ) → whole outlines octets ≡ outlined (whole reply octets)
outlined_is octets =
    let start : Left = record { at = 0; text = octets } in
    ap (λ (q : Result (Option Outline × Left) ℕ). q >>= ended) (outlines_alike start) ∙ ended_alike (reply.read start)

-- ---- the header of an outline

brought : (octets : List ℕ) (o : Outline) (r : Reply) → reply.Fits r → outline_in r ≡ Some o → IsGoodHeader o.header
brought octets o (replies.Answer a) fits is =
    let same : outline_of a ≡ o = cc in
    let good : IsGood a = (reply_is a).0 (subst (λ r. reply.Fits r) (sym (is_routed a fits)) fits) in
    subst (λ (x : Outline). IsGoodHeader x.header) same good.header
brought octets o replies.UnknownNode fits is = absurd cc
brought octets o replies.NoRoute fits is = absurd cc
brought octets o (replies.Apart a) fits is =
    let same : outline_of a ≡ o = cc in
    let good : IsGood a = (reply_is a).0 (subst (λ r. reply.Fits r) (sym (is_apart a fits)) fits) in
    subst (λ (x : Outline). IsGoodHeader x.header) same good.header

spelled : (octets : List ℕ) (o : Outline) → IsBytes octets → (w : Result Reply ℕ) → whole reply octets ≡ w → outlined w ≡ Ok (Some o) → IsGoodHeader o.header
spelled octets o bytes (Ok r) e is =
    let told : outline_in r ≡ Some o = cc in
    brought octets o r (whole_found reply reply_exact octets r bytes e).0 told
spelled octets o bytes (Err at) e is = absurd cc

pub outline_good : (octets : List ℕ) (r : Result (Option Outline) ReadError) → IsBytes octets → Reads (λ o. o) r (outlined (whole reply octets)) → IfOk r (λ read. IfSome read (λ o. IsGoodHeader o.header))
outline_good octets (Ok (Some o)) bytes reads = spelled octets o bytes (whole reply octets) refl reads
outline_good octets (Ok None) bytes reads = tt
outline_good octets (Err e) bytes reads = tt
