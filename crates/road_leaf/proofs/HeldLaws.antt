-- Leaves whose arcs follow one another in one list.
use Rattle.std.proofs.Common.{◌≡◌, ℕ, zero, suc, ◌+◌, ◌-◌, ◌<◌, ◌≤◌, None, Some, Result, Ok, Err, List, [], ◌∷◌, ◌++◌, length, slice_get, take, drop, refl, arith, ap, sym, ◌∙◌, if◌then◌else◌, length-drop}
use Rattle.std.specs.Result.{OnOk, OnErr, is_ok}
use Rattle.std.proofs.lemmas.List.{take-append-le, drop-append-le, append-nil, append_assoc}
use Rattle.std.proofs.Math.Seq.{drop-append_seam, take-length}
use Rattle.road_map.specs.declared.arc.Arc.{Arc}
use Rattle.road_leaf.specs.declared.leaf.Extra.{Extra}
use Rattle.road_leaf.specs.declared.leaf.Extra.TheVariants.{Plain}
use Rattle.road_leaf.specs.declared.leaf.NodeLeaf.{NodeLeaf}
use Rattle.road_leaf.specs.declared.node_leaves.Head.{Head}
use Rattle.road_leaf.specs.Held.{extra_at, later, leaf_of, leaves_from, start_before, EndAt}

-- ---- the extra contents of leaves

pub later_at : (es : List Extra) (i : ℕ) → extra_at (later es) i ≡ extra_at es (suc i)
later_at [] i = refl
later_at (e ∷ es) i = refl

-- adding a note without contents changes nothing
pub plain_behind : (es : List Extra) (i : ℕ) → extra_at (es ++ Plain ∷ []) i ≡ extra_at es i
plain_behind [] zero = refl
plain_behind [] (suc i) = refl
plain_behind (e ∷ es) zero = refl
plain_behind (e ∷ es) (suc i) = plain_behind es i

pub cut_at : (es : List Extra) (n i : ℕ) → i < n → extra_at (take n es) i ≡ extra_at es i
cut_at es zero i lt = absurd (omega (arith, lt))
cut_at [] (suc n) i lt = refl
cut_at (e ∷ es) (suc n) zero lt = refl
cut_at (e ∷ es) (suc n) (suc i) lt = cut_at es n i (omega (arith, lt))

pub none_behind : (es : List Extra) (i : ℕ) → length es ≤ i → extra_at es i ≡ Plain
none_behind [] i h = refl
none_behind (e ∷ es) zero h = absurd (omega (arith, h))
none_behind (e ∷ es) (suc i) h = none_behind es i (omega (arith, h))

pub before_last : (es : List Extra) (e : Extra) (i : ℕ) → i < length es → extra_at (es ++ e ∷ []) i ≡ extra_at es i
before_last [] e i lt = absurd (omega (arith, lt))
before_last (x ∷ es) e zero lt = refl
before_last (x ∷ es) e (suc i) lt = before_last es e i (omega (arith, lt))

pub at_last : (es : List Extra) (e : Extra) (i : ℕ) → i ≡ length es → extra_at (es ++ e ∷ []) i ≡ e
at_last [] e zero is = refl
at_last [] e (suc i) is = absurd (omega (arith, is))
at_last (x ∷ es) e zero is = absurd (omega (arith, is))
at_last (x ∷ es) e (suc i) is = at_last es e i (omega (arith, is))

pub there_at : (es : List Extra) (e : Extra) (i : ℕ) → slice_get es i ≡ Some e → extra_at es i ≡ e
there_at [] e i at = cc
there_at (x ∷ es) e zero at = let s : Some x ≡ Some e = at in cc
there_at (x ∷ es) e (suc i) at = there_at es e i at

-- ---- leaves at indices

pub held_length : (start : ℕ) (hs : List Head) (arcs : List Arc) (es : List Extra) → length (leaves_from start hs arcs es) ≡ length hs
held_length start [] arcs es = refl
held_length start (h ∷ hs) arcs es = ap suc (held_length h.end hs arcs (later es))

pub start_within : (start : ℕ) (hs : List Head) (long : ℕ) → EndAt start hs long → start ≤ long
start_within start [] long h = omega (arith, h)
start_within start (g ∷ hs) long h = let more : g.end ≤ long = start_within g.end hs long h.1 in omega (arith, h.0, more)

-- a part ends at or after its start, and within the list
pub head_within : (start : ℕ) (hs : List Head) (long index : ℕ) (h : Head) → EndAt start hs long → slice_get hs index ≡ Some h → (start_before start hs index ≤ h.end) × (h.end ≤ long)
head_within start [] long index h ends at = cc
head_within start (g ∷ hs) long zero h ends at =
    let same : g ≡ h = (let s : Some g ≡ Some h = at in cc) in
    let e : g.end ≡ h.end = ap (λ (x : Head). x.end) same in
    let more : g.end ≤ long = start_within g.end hs long ends.1 in
    (omega (arith, e, ends.0), omega (arith, e, more))
head_within start (g ∷ hs) long (suc i) h ends at = head_within g.end hs long i h ends.1 at

pub held_at : (start : ℕ) (hs : List Head) (arcs : List Arc) (es : List Extra) (i : ℕ) (h : Head) → slice_get hs i ≡ Some h
    → slice_get (leaves_from start hs arcs es) i ≡ Some (leaf_of h (take (h.end - start_before start hs i) (drop (start_before start hs i) arcs)) (extra_at es i))
held_at start [] arcs es i h at = cc
held_at start (g ∷ hs) arcs es zero h at =
    let same : g ≡ h = (let s : Some g ≡ Some h = at in cc) in
    ap (λ (k : Head). Some (leaf_of k (take (k.end - start) (drop start arcs)) (extra_at es 0))) same
held_at start (g ∷ hs) arcs es (suc i) h at =
    held_at g.end hs arcs (later es) i h at
    ∙ ap (λ (x : Extra). Some (leaf_of h (take (h.end - start_before g.end hs i) (drop (start_before g.end hs i) arcs)) x)) (later_at es i)

pub held_none : (start : ℕ) (hs : List Head) (arcs : List Arc) (es : List Extra) (i : ℕ) → length hs ≤ i → slice_get (leaves_from start hs arcs es) i ≡ None
held_none start [] arcs es i h = refl
held_none start (g ∷ hs) arcs es zero h = absurd (omega (arith, h))
held_none start (g ∷ hs) arcs es (suc i) h = held_none g.end hs arcs (later es) i (omega (arith, h))

-- ---- parts of lists

-- a list of n items from an index on stays there when more items follow
pub run_more : {A : Type 0} (xs ys : List A) (count start : ℕ) → start + count ≤ length xs → take count (drop start (xs ++ ys)) ≡ take count (drop start xs)
run_more xs ys count start within =
    let long : length (drop start xs) ≡ length xs - start = length-drop start xs in
    ap (take count) (drop-append-le start xs ys (omega (arith, within))) ∙ take-append-le count (drop start xs) ys (omega (arith, long, within))

-- items within a list stay there when more items follow
pub part_more : {A : Type 0} (xs ys : List A) (start end : ℕ) → start ≤ end → end ≤ length xs → take (end - start) (drop start (xs ++ ys)) ≡ take (end - start) (drop start xs)
part_more xs ys start end order within = run_more xs ys (end - start) start (omega (arith, order, within))

-- items appended to others are found from the end of these on
pub part_behind : {A : Type 0} (xs ys : List A) (start end : ℕ) → start ≡ length xs → end ≡ length xs + length ys → take (end - start) (drop start (xs ++ ys)) ≡ ys
part_behind xs ys start end is all =
    let rest : drop start (xs ++ ys) ≡ ys = ap (λ k. drop k (xs ++ ys)) is ∙ drop-append_seam xs ys in
    let long : end - start ≡ length ys = omega (arith, is, all) in
    ap (take (end - start)) rest ∙ (ap (λ k. take k ys) long ∙ take-length ys)

-- ---- one more leaf

-- a leaf without notes uses no codes
pub same_words : (start : ℕ) (hs : List Head) (arcs : List Arc) (es fs : List Extra) → ((i : ℕ) → i < length hs → extra_at es i ≡ extra_at fs i) → leaves_from start hs arcs es ≡ leaves_from start hs arcs fs
same_words start [] arcs es fs h = refl
same_words start (g ∷ hs) arcs es fs h =
    let more : leaves_from g.end hs arcs (later es) ≡ leaves_from g.end hs arcs (later fs)
    = same_words g.end hs arcs (later es) (later fs) (λ i lt. later_at es i ∙ (h (suc i) (omega (arith, lt)) ∙ sym (later_at fs i))) in
    rw (h 0 (omega arith), more) refl

pub ends_more : (start : ℕ) (hs : List Head) (long : ℕ) (g : Head) → EndAt start hs long → long ≤ g.end → EndAt start (hs ++ g ∷ []) g.end
ends_more start [] long g h le = (omega (arith, h, le), refl)
ends_more start (k ∷ hs) long g h le = (h.0, ends_more k.end hs long g h.1 le)

pub held_more : (start : ℕ) (hs : List Head) (arcs more : List Arc) (es : List Extra) (g : Head) → EndAt start hs (length arcs) → g.end ≡ length arcs + length more
    → leaves_from start (hs ++ g ∷ []) (arcs ++ more) es ≡ leaves_from start hs arcs es ++ leaf_of g more (extra_at es (length hs)) ∷ []
held_more start [] arcs more es g ends is =
    ap (λ part. leaf_of g part (extra_at es 0) ∷ []) (part_behind arcs more start g.end ends is)
held_more start (h ∷ hs) arcs more es g ends is =
    let within : h.end ≤ length arcs = start_within h.end hs (length arcs) ends.1 in
    let here : take (h.end - start) (drop start (arcs ++ more)) ≡ take (h.end - start) (drop start arcs) = part_more arcs more start h.end ends.0 within in
    rw (here, held_more h.end hs arcs more (later es) g ends.1 is, later_at es (length hs)) refl

-- ---- leaves in the remaining list

pub front_at : (xs ys : List NodeLeaf) (i : ℕ) → i < length xs → slice_get (xs ++ ys) i ≡ slice_get xs i
front_at [] ys i lt = absurd (omega (arith, lt))
front_at (x ∷ xs) ys zero lt = refl
front_at (x ∷ xs) ys (suc i) lt = front_at xs ys i (omega (arith, lt))

pub behind_at : (xs ys : List NodeLeaf) (i k : ℕ) → k ≡ length xs + i → slice_get (xs ++ ys) k ≡ slice_get ys i
behind_at [] ys i k is = ap (slice_get ys) (omega (arith, is))
behind_at (x ∷ xs) ys i zero is = absurd (omega (arith, is))
behind_at (x ∷ xs) ys i (suc k) is = behind_at xs ys i k (omega (arith, is))

-- one more leaf while no leaf is in the remaining list
pub front_ok : {T E : Type 0} (r : Result T E) (old new behind all : List NodeLeaf) (x : NodeLeaf) → behind ≡ [] → old ++ behind ≡ all → OnOk r (new ≡ old ++ x ∷ []) → OnOk r (new ++ behind ≡ all ++ x ∷ [])
front_ok (Ok t) old new behind all x none is more =
    let whole : old ≡ all = (sym (append-nil old) ∙ ap (λ k. old ++ k) (sym none)) ∙ is in
    (ap (λ k. new ++ k) none ∙ append-nil new) ∙ (more ∙ ap (λ l. l ++ x ∷ []) whole)
front_ok (Err e) old new behind all x none is more = tt

pub front_err : {T E : Type 0} (r : Result T E) (old new behind all : List NodeLeaf) → old ++ behind ≡ all → OnErr r (new ≡ old) → OnErr r (new ++ behind ≡ all)
front_err (Ok t) old new behind all is same = tt
front_err (Err e) old new behind all is same = ap (λ l. l ++ behind) same ∙ is

-- one more leaf in the remaining list
pub behind_ok : {T E : Type 0} (r : Result T E) (front old new all : List NodeLeaf) (x : NodeLeaf) → front ++ old ≡ all → new ≡ (if is_ok r then old ++ x ∷ [] else old) → OnOk r (front ++ new ≡ all ++ x ∷ [])
behind_ok (Ok t) front old new all x is more = ap (λ k. front ++ k) more ∙ (sym (append_assoc front old (x ∷ [])) ∙ ap (λ l. l ++ x ∷ []) is)
behind_ok (Err e) front old new all x is more = tt

pub behind_err : {T E : Type 0} (r : Result T E) (front old new all : List NodeLeaf) (x : NodeLeaf) → front ++ old ≡ all → new ≡ (if is_ok r then old ++ x ∷ [] else old) → OnErr r (front ++ new ≡ all)
behind_err (Ok t) front old new all x is more = tt
behind_err (Err e) front old new all x is more = ap (λ k. front ++ k) more ∙ is
