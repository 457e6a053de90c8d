-- How requests use the desk, and what the file `owner.key` holds, in small cases.
use Rattle.std.proofs.Common.{◌≡◌, ℕ, true, false, List, [], ◌∷◌, ◌++◌, replicate, refl, sym, ap, ◌∙◌, arith}
use Rattle.std.specs.declared.option.Option.{Option}
use Rattle.std.specs.declared.option.Option.TheVariants.{None, Some}
use Rattle.book_model.specs.declared.items.Query.{Query}
use Rattle.book_model.specs.declared.settings.Settings.{Settings}
use Rattle.hex.specs.Hex.{decode_pairs}
use Rattle.outside.specs.Looks.{seen_as}
use Rattle.outside.specs.declared.look.Look.{Look}
use Rattle.road_io.specs.declared.library.LoadError.TheVariants.{Missing, TooLong, Failed}
use Rattle.desk_sight.specs.declared.looking.Use.TheVariants as keys
use Rattle.road_command.specs.Requests as requests
use Rattle.guarded_run.specs.OwnerKey.{key_in, IsKnown, ShowsSpecial, TellsSpecial, is_broken, key_known}
use Rattle.guarded_run.specs.Uses.{keys_used, writes_desk, uses_desk, does_sign}
use Rattle.guarded_run.specs.declared.owner_key.KeyFile.TheVariants.{Unused, Absent, Special, Unread, NoKey, Key}

-- ---- requests

module _ (a : List ℕ) (n : ℕ) (q : Query) (s : Settings) (chain : Option (List ℕ)) where
  key_uses : keys_used (Some (requests.Key a n)) ≡ Some keys.Key
  key_uses = refl

  publish_uses : keys_used (Some (requests.Publish a s)) ≡ Some keys.Publish
  publish_uses = refl

  succeed_uses : keys_used (Some (requests.Succeed a n)) ≡ Some keys.Succeed
  succeed_uses = refl

  links_use : keys_used (Some requests.Links) ≡ Some keys.Links
  links_use = refl

  -- a command that shows the current key, or audits, uses no key; nor do arguments that fit no command
  desk_uses_none : keys_used (Some requests.Desk) ≡ None
  desk_uses_none = refl

  audit_uses_none : keys_used (Some (requests.Audit a a a q chain)) ≡ None
  audit_uses_none = refl

  words_use_none : keys_used None ≡ None
  words_use_none = refl

  -- `links` only reads the desk, and `publish` writes it
  publish_writes : writes_desk (Some (requests.Publish a s)) ≡ true
  publish_writes = refl

  key_writes : writes_desk (Some (requests.Key a n)) ≡ true
  key_writes = refl

  succeed_writes : writes_desk (Some (requests.Succeed a n)) ≡ true
  succeed_writes = refl

  links_read : writes_desk (Some requests.Links) ≡ false
  links_read = refl

  desk_reads : (writes_desk (Some requests.Desk) ≡ false) × (uses_desk (Some requests.Desk) ≡ true)
  desk_reads = (refl, refl)

  -- audits and `reduce` use the desk; `check` and `route` do not
  audit_uses_desk : uses_desk (Some (requests.Audit a a a q chain)) ≡ true
  audit_uses_desk = refl

  reduce_uses_desk : uses_desk (Some (requests.Reduce a a a)) ≡ true
  reduce_uses_desk = refl

  links_use_desk : uses_desk (Some requests.Links) ≡ true
  links_use_desk = refl

  check_uses_no_desk : uses_desk (Some (requests.Check a a q n chain)) ≡ false
  check_uses_no_desk = refl

  route_uses_no_desk : uses_desk (Some (requests.Route a n n)) ≡ false
  route_uses_no_desk = refl

-- `links` writes signatures again, and counts as signing; `key` makes a key without a signature
all_sign : (does_sign (Some keys.Publish) ≡ true) × (does_sign (Some keys.Succeed) ≡ true) × (does_sign (Some keys.Links) ≡ true)
all_sign = (refl, refl, refl)

key_does_not_sign : does_sign (Some keys.Key) ≡ false
key_does_not_sign = refl

none_does_not_sign : does_sign None ≡ false
none_does_not_sign = refl

-- ---- the file `owner.key`

-- the digits "00" and "ff", 56 times; what follows them is not read
zeros : key_in (replicate 112 48) ≡ Some (replicate 56 0)
unfolding decode_pairs
zeros = refl

zeros_and_a_line_end : key_in (replicate 112 48 ++ 10 ∷ []) ≡ Some (replicate 56 0)
unfolding decode_pairs
zeros_and_a_line_end = refl

all_ones : key_in (replicate 112 102) ≡ Some (replicate 56 255)
unfolding decode_pairs
all_ones = refl

-- too few digits are no key, nor is another letter
too_few_digits : key_in (replicate 110 48) ≡ None
too_few_digits = refl

no_digits : key_in [] ≡ None
no_digits = refl

no_hex_digit : key_in (103 ∷ replicate 111 48) ≡ None
unfolding decode_pairs
no_hex_digit = refl

-- each state of a file that exists, and of one that does not
absent : IsKnown None Absent
absent = refl

present_is_not_absent : (text : List ℕ) → IsKnown (Some text) Absent → ⊥
present_is_not_absent text e = cc

holds_a_key : IsKnown (Some (replicate 112 48)) (Key (replicate 56 0))
holds_a_key = zeros

holds_another_key : IsKnown (Some (replicate 112 48)) (Key (replicate 56 255)) → ⊥
holds_another_key e = omega (arith, ap first (sym zeros ∙ e))
  where
    first : Option (List ℕ) → ℕ
    first (Some (x ∷ xs)) = x
    first key = 7

absent_has_no_key : (key : List ℕ) → IsKnown None (Key key) → ⊥
absent_has_no_key key h = h

holds_none : IsKnown (Some []) NoKey
holds_none = refl

some_is_not_none : (key : List ℕ) → Some key ≡ None → ⊥
some_is_not_none key e = cc

key_is_none : IsKnown (Some (replicate 112 48)) NoKey → ⊥
key_is_none e = some_is_not_none (replicate 56 0) (sym zeros ∙ e)

absent_is_not_broken : IsKnown None NoKey → ⊥
absent_is_not_broken h = h

too_long : IsKnown (Some (replicate 4097 48)) (Unread TooLong)
too_long = omega arith

just_fits : IsKnown (Some (replicate 4096 48)) (Unread TooLong) → ⊥
just_fits h = omega (arith, h)

failed : (file : Option (List ℕ)) → IsKnown file (Unread Failed)
failed file = tt

missing_exists_not : (text : List ℕ) → IsKnown (Some text) (Unread Missing) → ⊥
missing_exists_not text e = cc

never_unused : (file : Option (List ℕ)) → IsKnown file Unused → ⊥
never_unused file h = h

special_tells_nothing : (file : Option (List ℕ)) → IsKnown file Special
special_tells_nothing file = tt

-- ---- a file that is not regular

-- a look at a file of this kind: 4 is a folder's, and 8 a regular file's
abbrev of_kind : ℕ → Look
of_kind kind = record { kind = kind; owner = 0; names = 1; mode = 0; device = 0; inode = 0 }

abbrev name : List ℕ
name = 111 ∷ []

folder_is_special : ShowsSpecial name ((seen_as 4 (of_kind 4), name) ∷ [])
folder_is_special = (of_kind 4, refl, λ e. omega (arith, e))

regular_is_not : ShowsSpecial name ((seen_as 4 (of_kind 8), name) ∷ []) → ⊥
regular_is_not (file, is, other) = other (kind_of file is)
  where
    second : List (List ℕ × List ℕ) → ℕ
    second ((code ∷ kind ∷ rest, seen) ∷ more) = kind
    second answers = 0

    kind_of : (file : Look) → ◌≡◌ {A = List (List ℕ × List ℕ)} ((seen_as 4 (of_kind 8), name) ∷ []) ((seen_as 4 file, name) ∷ []) → file.kind ≡ 8
    kind_of file is = sym (ap second is)

-- no answer, an answer for another name, or a second one, shows none
none_shows_nothing : ShowsSpecial name [] → ⊥
none_shows_nothing (file, is, other) = cc

other_name_shows_nothing : ShowsSpecial name ((seen_as 4 (of_kind 4), []) ∷ []) → ⊥
other_name_shows_nothing (file, is, other) = at (ap (λ (answers : List (List ℕ × List ℕ)). names_of answers) is)
  where
    names_of : List (List ℕ × List ℕ) → List ℕ
    names_of [] = []
    names_of (answer ∷ answers) = answer.1

    at : [] ≡ name → ⊥
    at e = cc

two_show_nothing : ShowsSpecial name ((seen_as 4 (of_kind 4), name) ∷ (seen_as 4 (of_kind 4), name) ∷ []) → ⊥
two_show_nothing (file, is, other) = cc

-- the state is told as special exactly where the system shows it
special_is_told : TellsSpecial name ((seen_as 4 (of_kind 4), name) ∷ []) Special
special_is_told = (λ e. folder_is_special, λ shown. refl)

regular_is_told : TellsSpecial name ((seen_as 4 (of_kind 8), name) ∷ []) Absent
regular_is_told = (λ e. absurd (cc), λ shown. absurd (regular_is_not shown))

special_is_untold : TellsSpecial name ((seen_as 4 (of_kind 4), name) ∷ []) Absent → ⊥
special_is_untold told = let e = told.1 folder_is_special in cc

regular_is_mistold : TellsSpecial name ((seen_as 4 (of_kind 8), name) ∷ []) Special → ⊥
regular_is_mistold told = regular_is_not (told.0 refl)

-- ---- what follows from the state

broken : (is_broken Special ≡ true) × (is_broken (Unread Failed) ≡ true) × (is_broken NoKey ≡ true)
broken = (refl, refl, refl)

whole : (key : List ℕ) → (is_broken Unused ≡ false) × (is_broken Absent ≡ false) × (is_broken (Key key) ≡ false)
whole key = (refl, refl, refl)

known_key : (key : List ℕ) → key_known (Key key) ≡ Some key
known_key key = refl

unknown_key : (key_known NoKey ≡ None) × (key_known Special ≡ None) × (key_known Absent ≡ None)
unknown_key = (refl, refl, refl)
