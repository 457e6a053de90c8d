-- What a list of mirrors takes. M is a mirror; octets, label, handed, puts and room give its contents, its
-- label, the number of pieces it was handed, and the puts and octets that it promises.
use Rattle.std.specs.Prelude.{◌≡◌, ◌⊎◌, ℕ, ◌+◌, ◌<◌, ◌≤◌, List, [], ◌∷◌, length}
use Rattle.std.specs.declared.option.Option.{Option}
use Rattle.std.specs.Io.KnownBytes.{Appends}

-- fewer puts than these were promised, or fewer octets than the text has
abbrev pub PromisedLess : ℕ → List ℕ → ℕ → ℕ → Type 0
PromisedLess count text puts room = (puts < count) ⊎ (room < length text)

module _ {M : Type 0} (octets : M → Option (List ℕ)) (label handed puts room : M → ℕ) where
  -- the mirror took the text in this many puts, and keeps its label
  pub record Took (count : ℕ) (text : List ℕ) (old new : M) : Type 0 where
    pub holds : Appends (octets old) (octets new) text
    pub same : label new ≡ label old
    pub called : handed new ≡ handed old + count
    pub puts_left : puts old ≤ puts new + count
    pub room_left : room old ≤ room new + length text

  -- From left to right, each mirror took the text and stays, or is gone, and its label is the next of
  -- these.
  abbrev pub Spreads : ℕ → List ℕ → List M → List M → List ℕ → Type 0
  Spreads count text [] kept gone = (kept ≡ []) × (gone ≡ [])
  Spreads count text (m ∷ old) kept gone =
      ((n : M) × (rest : List M) × (kept ≡ n ∷ rest) × Took count text m n ×
      Spreads count text old rest gone)
      ⊎ ((rest : List ℕ) × (gone ≡ label m ∷ rest) × PromisedLess count text (puts m) (room m) ×
      Spreads count text old kept rest)

  -- The same over several puts, without the labels: the mirrors that stay took the text, and each of the
  -- others had promised less.
  abbrev pub Mirrors : ℕ → List ℕ → List M → List M → Type 0
  Mirrors count text [] kept = kept ≡ []
  Mirrors count text (m ∷ old) kept =
      ((n : M) × (rest : List M) × (kept ≡ n ∷ rest) × Took count text m n ×
      Mirrors count text old rest)
      ⊎ (PromisedLess count text (puts m) (room m) × Mirrors count text old kept)
