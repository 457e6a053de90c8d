-- The first line of a text, and the rest.
use Rattle.std.proofs.Common.{◌≡◌, ℕ, ◌+◌, ◌<◌, true, false, not, cond, eqb, List, [], ◌∷◌, length, filter, get_or, refl, ◌∙◌, ap, arith}
use Rattle.std.specs.List.{enumerate_from}
use Rattle.std.proofs.Common.{map}
use Rattle.std.specs.List.{position_or_len}
use Rattle.std.proofs.lemmas.List.{get_or-take}
use Rattle.road_reader.specs.Lines.{lines_of, words_of, is_blank}
use Rattle.road_reader.proofs.WordLaws.{words_of_first, first_word_some}
use Rattle.dimacs_reader.specs.Told.{is_comment, told_lines}

-- a line's first octet tells whether it is skipped
pub is_comment_first : (line : List ℕ) → 0 < length line → is_blank (get_or line 0 0) ≡ false → is_comment (words_of line) ≡ eqb (get_or line 0 0) 99
is_comment_first line some e =
    let word : 0 < position_or_len is_blank line = first_word_some line some e in
    ap is_comment (words_of_first line word) ∙ ap (λ octet. eqb octet 99) (get_or-take (position_or_len is_blank line) line 0 0 word)

-- a line is taken from the text; it is skipped, or it is the first line
told_lines_first : (passed : ℕ) (text line rest : List ℕ) → lines_of text ≡ line ∷ lines_of rest →
    told_lines passed text ≡ cond (not (is_comment (words_of line))) ((passed + 1, words_of line) ∷ told_lines (passed + 1) rest) (told_lines (passed + 1) rest)
unfolding told_lines
told_lines_first passed text line rest h =
    ap (λ lines. filter (λ (line : ℕ × List (List ℕ)). not (is_comment line.1)) (enumerate_from (passed + 1) (map words_of lines))) h

pub told_lines_kept : (passed : ℕ) (text line rest : List ℕ) → lines_of text ≡ line ∷ lines_of rest → is_comment (words_of line) ≡ false →
    told_lines passed text ≡ (passed + 1, words_of line) ∷ told_lines (passed + 1) rest
told_lines_kept passed text line rest h kept =
    told_lines_first passed text line rest h
    ∙ ap (λ b. cond (not b) ((passed + 1, words_of line) ∷ told_lines (passed + 1) rest) (told_lines (passed + 1) rest)) kept

pub told_lines_skipped : (passed : ℕ) (text line rest : List ℕ) → lines_of text ≡ line ∷ lines_of rest → is_comment (words_of line) ≡ true →
    told_lines passed text ≡ told_lines (passed + 1) rest
told_lines_skipped passed text line rest h skipped =
    told_lines_first passed text line rest h
    ∙ ap (λ b. cond (not b) ((passed + 1, words_of line) ∷ told_lines (passed + 1) rest) (told_lines (passed + 1) rest)) skipped

pub told_lines_none : (passed : ℕ) (text : List ℕ) → length text ≡ 0 → told_lines passed text ≡ []
unfolding told_lines lines_of
told_lines_none passed [] h = refl
told_lines_none passed (x ∷ text) h = absurd (omega arith)
