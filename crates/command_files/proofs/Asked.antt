-- Loading one name after another.
use Rattle.std.proofs.Common.{◌≡◌, ℕ, ◌≤◌, List, [], ◌∷◌, ◌++◌, length, take, ap, sym, ◌∙◌, append_assoc, arith, refl}
use Rattle.std.proofs.lemmas.List.{take_at, take_all, length-append}
use Rattle.command_files.specs.Asking.{AsksFront}

-- one name and then others
pub then_asked : (old mid new : List (List ℕ)) (name : List ℕ) (names : List (List ℕ)) → mid ≡ old ++ name ∷ [] → new ≡ mid ++ names → new ≡ old ++ name ∷ names
then_asked old mid new name names first second = second ∙ ap (λ x. x ++ names) first ∙ append_assoc old (name ∷ []) names

-- only these names of a longer list
pub asks_front : (names rest old new : List (List ℕ)) → new ≡ old ++ names → AsksFront (names ++ rest) old new
asks_front names rest old new is = record {
  n = length names;
  within = omega (arith, length-append names rest);
  asked = is ∙ ap (λ x. old ++ x) (sym (take_at names rest (length names) refl));
}

-- all of these names
pub asks_all : (names old new : List (List ℕ)) → new ≡ old ++ names → AsksFront names old new
asks_all names old new is = record {
  n = length names;
  within = omega arith;
  asked = is ∙ ap (λ x. old ++ x) (sym (take_all (length names) names (omega arith)));
}
