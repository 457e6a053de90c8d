-- The accepted part of octets, after a part or the whole of a piece.
use Rattle.std.proofs.Common.{◌≡◌, true, ℕ, ◌+◌, ◌≤◌, List, ◌++◌, length, take, drop, Option, Some, None, sym, ◌∙◌, ap, arith, append_assoc, length-append}
use Rattle.std.specs.Io.KnownBytes.{Appends, Keeps}
use Rattle.std.proofs.lemmas.List.{length-take-le, take-append-drop, take_all, take-take, take_at, take-append-le}
use Rattle.std.specs.Prelude.{◌==◌}
use Rattle.std.proofs.lemmas.Bool.Decides.{nat_tests}

pub same_number : (m n : ℕ) → (m == n) ≡ true → m ≡ n
same_number m n h = grind (arith, nat_tests)

length_of : (front piece : List ℕ) (t n : ℕ) → t ≤ length front → n ≤ length piece → length (take t front ++ take n piece) ≡ t + n
length_of front piece t n tle nle = omega (arith, length-append (take t front) (take n piece), length-take-le t front tle, length-take-le n piece nle)

pub part_after : (front piece new : List ℕ) (t n : ℕ) → t ≤ length front → n ≤ length piece → take (t + length piece) new ≡ take t front ++ piece → take t front ++ take n piece ≡ take (t + n) new
part_after front piece new t n tle nle is =
    let whole : (take t front ++ take n piece) ++ drop n piece ≡ take t front ++ piece = append_assoc (take t front) (take n piece) (drop n piece) ∙ ap (λ (x : List ℕ). take t front ++ x) (take-append-drop n piece) in
    sym (take_at (take t front ++ take n piece) (drop n piece) (t + n) (length_of front piece t n tle nle)) ∙ ap (λ (x : List ℕ). take (t + n) x) (whole ∙ sym is)
    ∙ take-take (t + n) (t + length piece) new (omega arith)

pub whole_after : (front piece new : List ℕ) (t n s : ℕ) → t ≤ length front → n ≤ length piece → take (t + length piece) new ≡ take t front ++ piece → t + n ≡ s → take s (take t front ++ take n piece) ≡ take s new
whole_after front piece new t n s tle nle is same =
    take_all s (take t front ++ take n piece) (omega (arith, length_of front piece t n tle nle)) ∙ part_after front piece new t n tle nle is ∙ ap (λ (k : ℕ). take k new) same

pub long_after : (front piece : List ℕ) (t n s : ℕ) → t ≤ length front → n ≤ length piece → t + n ≡ s → s ≤ length (take t front ++ take n piece)
long_after front piece t n s tle nle same = omega (arith, length_of front piece t n tle nle)

pub more_after : (taken front more : List ℕ) (s : ℕ) → s ≤ length taken → take s taken ≡ take s front → take s (taken ++ more) ≡ take s front
more_after taken front more s le is = take-append-le s taken more le ∙ is

pub longer_after : (taken more : List ℕ) (s : ℕ) → s ≤ length taken → s ≤ length (taken ++ more)
longer_after taken more s le = omega (arith, length-append taken more)

-- a sink that states what it took states this after a write too
pub appended : (old new : Option (List ℕ)) (xs bs : List ℕ) → old ≡ Some xs → Appends old new bs → new ≡ Some (xs ++ bs)
appended None new xs bs is grows = absurd cc
appended (Some ys) None xs bs is grows = absurd grows
appended (Some ys) (Some zs) xs bs is grows =
    let same : ys ≡ xs = cc in
    ap Some (grows ∙ ap (λ (l : List ℕ). l ++ bs) same)

pub kept_taken : (old new : Option (List ℕ)) (xs : List ℕ) → old ≡ Some xs → Keeps old new → new ≡ Some xs
kept_taken None new xs is keeps = absurd cc
kept_taken (Some ys) None xs is keeps = absurd keeps
kept_taken (Some ys) (Some zs) xs is keeps = ap Some keeps ∙ is
