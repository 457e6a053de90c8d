-- The meaning of notes, with their codes in one list.
use Rattle.std.proofs.Common.{◌≡◌, ℕ, ◌<◌, ◌≤◌, Some, List, [], ◌∷◌, ◌++◌, length, slice_get, map, take, refl, arith, ap, sym, ◌∙◌}
use Rattle.std.specs.List.{All}
use Rattle.std.specs.Option.{option_map}
use Rattle.std.proofs.lemmas.List.{length-append, map-append, length-map, take-map}
use Rattle.std.proofs.lemmas.List.Elements.{All-head, All-tail, All-weaker, All-take, All-same}
use Rattle.std.proofs.lemmas.Option.{slice_get-map}
use Rattle.octet_text.specs.Puts.{Begins}
use Rattle.road_leaf.specs.declared.leaf.Extra.TheVariants.{Plain, Own}
use Rattle.road_leaf.specs.declared.node_leaves.Note.{Note}
use Rattle.road_leaf.specs.declared.node_leaves.Note.TheVariants as notes
use Rattle.road_leaf.specs.Held.{extra_at, said, IsWithin}
use Rattle.road_leaf.proofs.HeldLaws.{plain_behind, cut_at, none_behind, before_last, at_last, there_at, run_more}

-- ---- one more note

pub plain_noted : (codes : List ℕ) (ns : List Note) (i : ℕ) → extra_at (map (said codes) (ns ++ notes.Plain ∷ [])) i ≡ extra_at (map (said codes) ns) i
plain_noted codes ns i = ap (λ es. extra_at es i) (map-append (said codes) ns (notes.Plain ∷ [])) ∙ plain_behind (map (said codes) ns) i

pub cut_noted : (codes : List ℕ) (ns : List Note) (n i : ℕ) → i < n → extra_at (map (said codes) (take n ns)) i ≡ extra_at (map (said codes) ns) i
cut_noted codes ns n i lt = ap (λ es. extra_at es i) (sym (take-map (said codes) n ns)) ∙ cut_at (map (said codes) ns) n i lt

pub none_noted : (codes : List ℕ) (ns : List Note) (i : ℕ) → length ns ≤ i → extra_at (map (said codes) ns) i ≡ Plain
none_noted codes ns i le = none_behind (map (said codes) ns) i (omega (arith, le, length-map ns (said codes)))

pub there_noted : (codes : List ℕ) (ns : List Note) (n : Note) (i : ℕ) → slice_get ns i ≡ Some n → extra_at (map (said codes) ns) i ≡ said codes n
there_noted codes ns n i at = there_at (map (said codes) ns) (said codes n) i (slice_get-map (said codes) ns i ∙ ap (option_map (said codes)) at)

pub before_noted : (codes : List ℕ) (ns : List Note) (n : Note) (i : ℕ) → i < length ns → extra_at (map (said codes) (ns ++ n ∷ [])) i ≡ extra_at (map (said codes) ns) i
before_noted codes ns n i lt =
    ap (λ es. extra_at es i) (map-append (said codes) ns (n ∷ []))
    ∙ before_last (map (said codes) ns) (said codes n) i (omega (arith, lt, length-map ns (said codes)))

pub last_noted : (codes : List ℕ) (ns : List Note) (n : Note) (i : ℕ) → i ≡ length ns → extra_at (map (said codes) (ns ++ n ∷ [])) i ≡ said codes n
last_noted codes ns n i is =
    ap (λ es. extra_at es i) (map-append (said codes) ns (n ∷ []))
    ∙ at_last (map (said codes) ns) (said codes n) i (omega (arith, is, length-map ns (said codes)))

-- ---- more codes

said_more : (codes more : List ℕ) (n : Note) → IsWithin (length codes) n → said (codes ++ more) n ≡ said codes n
said_more codes more notes.Plain w = refl
said_more codes more (notes.Own count start) w = ap Own (run_more codes more count start w)
said_more codes more (notes.Near error reference) w = refl
said_more codes more (notes.Cell border cell) w = refl

noted_more : (codes more : List ℕ) (ns : List Note) → All (IsWithin (length codes)) ns → map (said (codes ++ more)) ns ≡ map (said codes) ns
noted_more codes more [] w = refl
noted_more codes more (n ∷ ns) w =
    let head : said (codes ++ more) n ≡ said codes n = said_more codes more n (All-head (IsWithin (length codes)) n ns w) in
    let tail : map (said (codes ++ more)) ns ≡ map (said codes) ns = noted_more codes more ns (All-tail (IsWithin (length codes)) n ns w) in
    rw (head, tail) refl

-- the meaning of notes does not change when codes are appended to those that they refer to
pub same_noted : (codes new : List ℕ) (ns : List Note) → Begins codes new → All (IsWithin (length codes)) ns → map (said new) ns ≡ map (said codes) ns
same_noted codes new ns b w = ap (λ list. map (said list) ns) b.is ∙ noted_more codes b.rest ns w

within_more : (short long : ℕ) → short ≤ long → (n : Note) → IsWithin short n → IsWithin long n
within_more short long le notes.Plain w = tt
within_more short long le (notes.Own count start) w = omega (arith, le, w)
within_more short long le (notes.Near error reference) w = tt
within_more short long le (notes.Cell border cell) w = tt

-- notes stay valid when codes are appended
pub all_within : (codes new : List ℕ) (ns : List Note) → Begins codes new → All (IsWithin (length codes)) ns → All (IsWithin (length new)) ns
all_within codes new ns b w =
    let le : length codes ≤ length new = omega (arith, ap length b.is, length-append codes b.rest) in
    All-weaker (IsWithin (length codes)) (IsWithin (length new)) (within_more (length codes) (length new) le) ns w

-- ---- notes cut at an index, and padded up to it

pub padded_within : (long n : ℕ) (old cut padded : List Note) → cut ≡ take n old → (All (IsWithin long) cut → All (IsWithin long) padded)
    → All (IsWithin long) old → All (IsWithin long) padded
padded_within long n old cut padded is more w = more (All-same (IsWithin long) cut (take n old) is (All-take (IsWithin long) n old w))

pub padded_before : (codes : List ℕ) (n i : ℕ) (old cut padded : List Note) → cut ≡ take n old
    → extra_at (map (said codes) padded) i ≡ extra_at (map (said codes) cut) i → i < n
    → extra_at (map (said codes) padded) i ≡ extra_at (map (said codes) old) i
padded_before codes n i old cut padded is same lt = same ∙ (ap (λ ns. extra_at (map (said codes) ns) i) is ∙ cut_noted codes old n i lt)
