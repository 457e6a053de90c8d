-- The lines of a file of the challenge that are not comments. Source: file formats of the 9th DIMACS
-- Implementation Challenge, Shortest Paths, 2006.
use Rattle.std.specs.Prelude.{ℕ, ◌+◌, ◌==◌, Bool, true, not, List, [], ◌∷◌, map, filter, slice_index}
use Rattle.std.specs.List.{enumerate_from}
use Rattle.road_reader.specs.Lines.{lines_of, words_of}

-- a line without words, or whose first word begins with 'c'
abbrev pub is_comment : List (List ℕ) → Bool
is_comment [] = true
is_comment (word ∷ words) = slice_index word 0 == 99

-- the lines that are not comments, each with its number and its words; this many lines come before the text
unfoldable pub told_lines : ℕ → List ℕ → List (ℕ × List (List ℕ))
told_lines passed text =
    filter (λ line. not (is_comment line.1))
    (enumerate_from (passed + 1) (map words_of (lines_of text)))
