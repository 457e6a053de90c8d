-- What answers that agree with a world show of the file that was opened last.
use Rattle.std.proofs.Common.{◌≡◌, ◌<◌, ◌+◌, ℕ, Bool, true, false, List, [], ◌∷◌, ◌++◌, length, take, Option, Some, None, arith, refl, sym, ap, subst, ◌∙◌}
use Rattle.std.specs.Prelude.{◌&&◌, IsSomeAnd}
use Rattle.std.proofs.lemmas.Slice.Eq.{bytes_eq-Decides}
use Rattle.std.proofs.lemmas.List.{append-nil, length-take, length-append}
use Rattle.road_io.specs.Contents.{Folder}
use Rattle.road_io.specs.Shelves.{Note, opened, read_of, begins, has, agrees}

first_holds : (a b : Bool) → (a && b) ≡ true → a ≡ true
first_holds true b h = refl
first_holds false b h = h

has_all : (file : Option (List ℕ)) (octets : List ℕ) → has file octets ≡ true → file ≡ Some octets
has_all None octets h = cc
has_all (Some file) octets h = ap Some ((bytes_eq-Decides file octets).0 h)

-- the file has ended behind these octets
pub ended_file : (files : Folder) (name octets : List ℕ) (before now : List Note) → now ≡ (3 ∷ [], []) ∷ before
    → opened before ≡ name → read_of before ≡ octets → agrees files now ≡ true → files name ≡ Some octets
ended_file files name octets before now is was read agree =
    let both : (has (files (opened before)) (read_of before ++ []) && agrees files before) ≡ true =
    subst (λ (h : List Note). agrees files h ≡ true) is agree in
    let all : files (opened before) ≡ Some (read_of before ++ []) =
    has_all (files (opened before)) (read_of before ++ []) (first_holds _ (agrees files before) both) in
    ap files (sym was) ∙ all ∙ ap Some (append-nil (read_of before) ∙ read)

has_more : (file : Option (List ℕ)) (octets : List ℕ) (most : ℕ) → begins file octets ≡ true → most < length octets
    → IsSomeAnd file (λ file. most < length file)
has_more None octets most h more = cc
has_more (Some file) octets most h more =
    let front : take (length octets) file ≡ octets = (bytes_eq-Decides (take (length octets) file) octets).0 h in
    grind (arith, length-take (length octets) file, ap length front, more)

-- more octets were read than there may be
pub longer_file : (files : Folder) (name octets piece : List ℕ) (before now : List Note) (most : ℕ) → now ≡ (2 ∷ [], piece) ∷ before
    → opened before ≡ name → read_of before ≡ octets → most < length octets + length piece → agrees files now ≡ true
    → IsSomeAnd (files name) (λ file. most < length file)
longer_file files name octets piece before now most is was read more agree =
    let both : (begins (files (opened before)) (read_of before ++ piece) && agrees files before) ≡ true =
    subst (λ (h : List Note). agrees files h ≡ true) is agree in
    let front : begins (files (opened before)) (read_of before ++ piece) ≡ true =
    first_holds _ (agrees files before) both in
    let named : begins (files name) (octets ++ piece) ≡ true =
    subst (λ (n : List ℕ). begins (files n) (octets ++ piece) ≡ true) was
    (subst (λ (o : List ℕ). begins (files (opened before)) (o ++ piece) ≡ true) read front) in
    has_more (files name) (octets ++ piece) most named (subst (λ (k : ℕ). most < k) (sym (length-append octets piece)) more)
