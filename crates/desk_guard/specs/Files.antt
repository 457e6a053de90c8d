-- Whose a file is, and which, by looks at it.
use Rattle.std.specs.Prelude.{◌≡◌, ℕ, List, [], ◌∷◌, ◌==◌, ◌&&◌, ◌||◌, Bool, true}
use Rattle.std.specs.declared.option.Option.{Option}
use Rattle.std.specs.declared.option.Option.TheVariants.{None, Some}
use Rattle.outside.specs.declared.look.Look.{Look}
use Rattle.outside.specs.Looks.{seen_as}

-- it belongs to this user, if the user is known
abbrev pub is_own : Option ℕ → Look → Bool
is_own None file = true
is_own (Some user) file = file.owner == user

-- the two looks show the same file
abbrev pub is_same_file : Look → Look → Bool
is_same_file one other = one.device == other.device && one.inode == other.inode

-- it is a regular file or a block device, by the highest bits of C's `st_mode`
abbrev pub holds_octets : Look → Bool
holds_octets file = file.kind == 0o10 || file.kind == 0o6

-- the answers are a look at the file to which one name leads, and then one at that of another
abbrev pub AreLookedAt : List ℕ → Look → List ℕ → Look → List (List ℕ × List ℕ) → Type 0
AreLookedAt first one second other answers =
    answers ≡ (seen_as 4 other, second) ∷ (seen_as 4 one, first) ∷ []
