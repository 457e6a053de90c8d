-- The values of lines, one after another.
use Rattle.std.proofs.Common.{◌≡◌, ℕ, List, [], ◌∷◌, ◌++◌, Result, Ok, Err, refl, sym, ◌∙◌, ap, append_assoc, append-nil}
use Rattle.dimacs_reader.specs.declared.error.DimacsError.{DimacsError}
use Rattle.dimacs_reader.specs.Dimacs.{◌>>=◌, each_of}

-- the contents so far, with those of the later lines
abbrev pub onto : {A : Type 0} → List A → Result (List A) DimacsError → Result (List A) DimacsError
onto xs (Ok ys) = Ok (xs ++ ys)
onto xs (Err fault) = Err fault

pub onto_none : {A : Type 0} (said : Result (List A) DimacsError) → onto [] said ≡ said
onto_none (Ok ys) = refl
onto_none (Err fault) = refl

onto_next : {A : Type 0} (xs : List A) (x : A) (said : Result (List A) DimacsError) → onto xs (said >>= (λ rest. Ok (x ∷ rest))) ≡ onto (xs ++ x ∷ []) said
onto_next xs x (Ok ys) = ap Ok (sym (append_assoc xs (x ∷ []) ys))
onto_next xs x (Err fault) = refl

-- the first of some lines has this value
pub record Begins {A : Type 0} (says : ℕ → List (List ℕ) → Result A DimacsError) (lines : List (ℕ × List (List ℕ))) (said : Result A DimacsError) (rest : List (ℕ × List (List ℕ))) : Type 0 where
  pub number : ℕ
  pub words : List (List ℕ)
  pub first : lines ≡ (number, words) ∷ rest
  pub is : said ≡ says number words

pub each_faulty : {A : Type 0} (says : ℕ → List (List ℕ) → Result A DimacsError) (xs : List A) (lines : List (ℕ × List (List ℕ))) (fault : DimacsError) (rest : List (ℕ × List (List ℕ))) → Begins says lines (Err fault) rest → onto xs (each_of says lines) ≡ Err fault
each_faulty {A} says xs lines fault rest begins =
    ap (λ lines. onto xs (each_of says lines)) begins.first
    ∙ ap (λ (said : Result A DimacsError). onto xs (said >>= (λ first. each_of says rest >>= (λ rest. Ok (first ∷ rest))))) (sym begins.is)

pub each_more : {A : Type 0} (says : ℕ → List (List ℕ) → Result A DimacsError) (xs : List A) (lines : List (ℕ × List (List ℕ))) (x : A) (rest : List (ℕ × List (List ℕ))) → Begins says lines (Ok x) rest → onto xs (each_of says lines) ≡ onto (xs ++ x ∷ []) (each_of says rest)
each_more {A} says xs lines x rest begins =
    ap (λ lines. onto xs (each_of says lines)) begins.first
    ∙ (ap (λ (said : Result A DimacsError). onto xs (said >>= (λ first. each_of says rest >>= (λ rest. Ok (first ∷ rest))))) (sym begins.is)
    ∙ onto_next xs x (each_of says rest))

pub each_end : {A : Type 0} (says : ℕ → List (List ℕ) → Result A DimacsError) (xs : List A) (lines : List (ℕ × List (List ℕ))) → lines ≡ [] → onto xs (each_of says lines) ≡ Ok xs
each_end says xs lines none = ap (λ lines. onto xs (each_of says lines)) none ∙ ap Ok (append-nil xs)
