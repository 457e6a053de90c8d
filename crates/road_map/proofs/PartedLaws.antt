-- Lists that follow one another in one list.
use Rattle.std.proofs.Common.{◌≡◌, ℕ, zero, suc, ◌+◌, ◌-◌, ◌≤◌, None, Some, List, [], ◌∷◌, ◌++◌, length, map, slice_get, take, drop, refl, arith, ap, ◌∙◌, length-drop}
use Rattle.std.proofs.lemmas.List.{take-append-le, drop-append-le}
use Rattle.std.proofs.Math.Seq.{drop-append_seam, take-length}
use Rattle.road_map.specs.Parted.{parted, AreEnds, start_at}

pub start_within : (start : ℕ) (ends : List ℕ) (long : ℕ) → AreEnds start ends long → start ≤ long
start_within start [] long h = omega (arith, h)
start_within start (e ∷ es) long h = let more : e ≤ long = start_within e es long h.1 in omega (arith, h.0, more)

-- a part ends at or after its start, and within the list
pub end_within : (start : ℕ) (ends : List ℕ) (long index end : ℕ) → AreEnds start ends long → slice_get ends index ≡ Some end → (start_at start ends index ≤ end) × (end ≤ long)
end_within start [] long index end h at = cc
end_within start (e ∷ es) long zero end h at =
    let same : e ≡ end = (let s : Some e ≡ Some end = at in cc) in
    let more : e ≤ long = start_within e es long h.1 in
    (omega (arith, same, h.0), omega (arith, same, more))
end_within start (e ∷ es) long (suc i) end h at = end_within e es long i end h.1 at

-- the part at an index
pub parted_at : {X : Type 0} (start : ℕ) (ends : List ℕ) (xs : List X) (index end : ℕ) → slice_get ends index ≡ Some end → slice_get (parted start ends xs) index ≡ Some (take (end - start_at start ends index) (drop (start_at start ends index) xs))
parted_at start [] xs index end at = cc
parted_at start (e ∷ es) xs zero end at =
    let same : e ≡ end = (let s : Some e ≡ Some end = at in cc) in
    ap (λ k. Some (take (k - start) (drop start xs))) same
parted_at start (e ∷ es) xs (suc i) end at = parted_at e es xs i end at

pub parted_none : {X : Type 0} (start : ℕ) (ends : List ℕ) (xs : List X) (index : ℕ) → length ends ≤ index → slice_get (parted start ends xs) index ≡ None
parted_none start [] xs index h = refl
parted_none start (e ∷ es) xs zero h = absurd (omega (arith, h))
parted_none start (e ∷ es) xs (suc i) h = parted_none e es xs i (omega (arith, h))

-- the parts with one more
pub ends_more : (start : ℕ) (ends : List ℕ) (long end : ℕ) → AreEnds start ends long → long ≤ end → AreEnds start (ends ++ end ∷ []) end
ends_more start [] long end h le = (omega (arith, h, le), refl)
ends_more start (e ∷ es) long end h le = (h.0, ends_more e es long end h.1 le)

pub parted_more : {X : Type 0} (start : ℕ) (ends : List ℕ) (xs ys : List X) (end : ℕ) → AreEnds start ends (length xs) → end ≡ length xs + length ys → parted start (ends ++ end ∷ []) (xs ++ ys) ≡ parted start ends xs ++ ys ∷ []
parted_more start [] xs ys end h is =
    let rest : drop start (xs ++ ys) ≡ ys = ap (λ k. drop k (xs ++ ys)) h ∙ drop-append_seam xs ys in
    let long : end - start ≡ length ys = omega (arith, h, is) in
    ap (λ part. part ∷ []) (ap (take (end - start)) rest ∙ (ap (λ k. take k ys) long ∙ take-length ys))
parted_more start (e ∷ es) xs ys end h is =
    let within : e ≤ length xs = start_within e es (length xs) h.1 in
    let rest : drop start (xs ++ ys) ≡ drop start xs ++ ys = drop-append-le start xs ys (omega (arith, h.0, within)) in
    let long : length (drop start xs) ≡ length xs - start = length-drop start xs in
    let here : take (e - start) (drop start (xs ++ ys)) ≡ take (e - start) (drop start xs) = ap (take (e - start)) rest ∙ take-append-le (e - start) (drop start xs) ys (omega (arith, long, h.0, within)) in
    rw (here, parted_more e es xs ys end h.1 is) refl

-- the parts of a list with each item changed
pub parted-map : {X Y : Type 0} (f : X → Y) (start : ℕ) (ends : List ℕ) (xs : List X) → parted start ends (map f xs) ≡ map (map f) (parted start ends xs)
parted-map f start [] xs = refl
parted-map f start (e ∷ es) xs =
    let here : take (e - start) (drop start (map f xs)) ≡ map f (take (e - start) (drop start xs)) = ap (take (e - start)) (drop-map f start xs) ∙ take-map f (e - start) (drop start xs) in
    rw (here, parted-map f e es xs) refl
  where
    drop-map : {X Y : Type 0} (f : X → Y) (n : ℕ) (xs : List X) → drop n (map f xs) ≡ map f (drop n xs)
    drop-map f zero xs = refl
    drop-map f (suc n) [] = refl
    drop-map f (suc n) (x ∷ xs) = drop-map f n xs

    take-map : {X Y : Type 0} (f : X → Y) (n : ℕ) (xs : List X) → take n (map f xs) ≡ map f (take n xs)
    take-map f zero xs = refl
    take-map f (suc n) [] = refl
    take-map f (suc n) (x ∷ xs) = ap (λ t. f x ∷ t) (take-map f n xs)

pub parted-length : {X : Type 0} (start : ℕ) (ends : List ℕ) (xs : List X) → length (parted start ends xs) ≡ length ends
parted-length start [] xs = refl
parted-length start (e ∷ es) xs = ap suc (parted-length e es xs)
