-- What answers that show a handle to be safe imply for every file system that gave them.
use Rattle.std.proofs.Common.{◌≡◌, ℕ, suc, List, [], ◌∷◌, ◌==◌, ◌&&◌, Bool, true, false, length, slice_index, bit_and, refl, sym, ◌∙◌, ap, subst, arith, Option, None, Some}
use Rattle.std.specs.Str.{bytes_eq}
use Rattle.std.proofs.lemmas.Bool.Decides.{nat_tests}
use Rattle.std.proofs.lemmas.Slice.Eq.{bytes_eq-Decides}
use Rattle.outside.specs.declared.look.Look.{Look}
use Rattle.outside.specs.Looks.{seen_as}
use Rattle.road_io.specs.Shelves.{Note}
use Rattle.desk_disk.specs.Looks.{part, shown, is_own, is_closed, is_under, are_looks, is_seen_own, is_seen}
use Rattle.desk_disk.specs.Systems.{System, Moment, Inode, IsShown, AnswersAt, IsOwnAt, WasOwn, WasSafe}

left : (a b : Bool) → (a && b) ≡ true → a ≡ true
left true b h = refl
left false b h = h

right : (a b : Bool) → (a && b) ≡ true → b ≡ true
right true b h = h
right false b h = absurd cc

same : (m n : ℕ) → (m == n) ≡ true → m ≡ n
same m n h = grind (arith, nat_tests)

abbrev or_else : Inode → Option Inode → Inode
or_else other None = other
or_else other (Some file) = file

some_one : (a b : Inode) → Some a ≡ Some b → a ≡ b
some_one a b is = ap (or_else a) is

same_bytes : (xs ys : List ℕ) → bytes_eq xs ys ≡ true → xs ≡ ys
same_bytes xs ys e = grind (arith, bytes_eq-Decides, e)

answers_named : (moment : Moment) (answer : Note) → part 0 answer ≡ 1 → AnswersAt moment (slice_index answer.0 0) answer → IsShown (moment.named answer.1) 1 answer.0
answers_named moment answer is h = subst (λ (k : ℕ). AnswersAt moment k answer) is h

answers_held : (moment : Moment) (answer : Note) → part 0 answer ≡ 2 → AnswersAt moment (slice_index answer.0 0) answer → IsShown moment.held 2 answer.0
answers_held moment answer is h = subst (λ (k : ℕ). AnswersAt moment k answer) is h

answers_user : (moment : Moment) (answer : Note) → part 0 answer ≡ 0 → AnswersAt moment (slice_index answer.0 0) answer → part 1 answer ≡ moment.user
answers_user moment answer is h = subst (λ (k : ℕ). AnswersAt moment k answer) is h

at : (k code : ℕ) (answer : Note) (look : Look) → answer.0 ≡ seen_as code look → part k answer ≡ slice_index (seen_as code look) k
at k code answer look is = ap (λ (xs : List ℕ). slice_index xs k) is

module _ (system : System) (name : List ℕ) (held named user : Note) (told looked seen : ℕ) where
  pub own_at : (are_looks name user named held && is_under (shown named) (shown held) && is_own (part 1 user) (shown held)) ≡ true
      → AnswersAt (system told) (slice_index user.0 0) user → AnswersAt (system looked) (slice_index named.0 0) named → AnswersAt (system seen) (slice_index held.0 0) held
      → IsOwnAt system name told looked seen
  own_at abc of_user of_named of_held =
      let a = are_looks name user named held in
      let b = is_under (shown named) (shown held) in
      let c = is_own (part 1 user) (shown held) in
      let ab : (a && b) ≡ true = left (a && b) c abc in
      let is_c : c ≡ true = right (a && b) c abc in
      let is_a : a ≡ true = left a b ab in
      let is_b : b ≡ true = right a b ab in
      let a0 = part 0 user == 0 in
      let a1 = part 0 named == 1 in
      let a2 = part 0 held == 2 in
      let a012 : (a0 && a1 && a2) ≡ true = left (a0 && a1 && a2) (bytes_eq named.1 name) is_a in
      let is_name : named.1 ≡ name = same_bytes named.1 name (right (a0 && a1 && a2) (bytes_eq named.1 name) is_a) in
      let a01 : (a0 && a1) ≡ true = left (a0 && a1) a2 a012 in
      let u : part 1 user ≡ (system told).user = answers_user (system told) user (same (part 0 user) 0 (left a0 a1 a01)) of_user in
      let n : IsShown ((system looked).named named.1) 1 named.0 = answers_named (system looked) named (same (part 0 named) 1 (right a0 a1 a01)) of_named in
      let h : IsShown (system seen).held 2 held.0 = answers_held (system seen) held (same (part 0 held) 2 (right (a0 && a1) a2 a012)) of_held in
      let b0 = part 1 named == 0o10 in
      let b1 = part 5 named == part 5 held in
      let b2 = part 6 named == part 6 held in
      let b01 : (b0 && b1) ≡ true = left (b0 && b1) b2 is_b in
      let c0 = part 1 held == 0o10 in
      let c1 = part 2 held == part 1 user in
      let c2 = part 3 held == 1 in
      let c01 : (c0 && c1) ≡ true = left (c0 && c1) c2 is_c in
      let device : n.file.shown.device ≡ h.file.shown.device = sym (at 5 1 named n.file.shown n.shows) ∙ same (part 5 named) (part 5 held) (right b0 b1 b01) ∙ at 5 2 held h.file.shown h.shows in
      let inode : n.file.shown.inode ≡ h.file.shown.inode = sym (at 6 1 named n.file.shown n.shows) ∙ same (part 6 named) (part 6 held) (right (b0 && b1) b2 is_b) ∙ at 6 2 held h.file.shown h.shows in
      let stood : (system looked).named name ≡ Some n.file = subst (λ (x : List ℕ). (system looked).named x ≡ Some n.file) is_name n.is in
      record {
        under = n.file;
        held = h.file;
        stood = stood;
        opened = h.is;
        no_link = sym (at 1 1 named n.file.shown n.shows) ∙ same (part 1 named) 0o10 (left b0 b1 b01);
        one = λ apart. apart looked seen name n.file h.file stood h.is device inode;
        regular = sym (at 1 2 held h.file.shown h.shows) ∙ same (part 1 held) 0o10 (left c0 c1 c01);
        own = sym (at 2 2 held h.file.shown h.shows) ∙ same (part 2 held) (part 1 user) (right c0 c1 c01) ∙ u;
        one_name = sym (at 3 2 held h.file.shown h.shows) ∙ same (part 3 held) 1 (right (c0 && c1) c2 is_c);
      }

  -- the mode of a handle's file, by the answer that shows it
  pub closed_at : is_closed (shown held) ≡ true → part 0 held ≡ 2 → AnswersAt (system seen) (slice_index held.0 0) held
      → (file : Inode) → (system seen).held ≡ Some file → bit_and file.shown.mode 0x3f ≡ 0
  closed_at closed is of_held file there =
      let h : IsShown (system seen).held 2 held.0 = answers_held (system seen) held is of_held in
      let one : h.file ≡ file = some_one h.file file (sym h.is ∙ there) in
      ap (λ (f : Inode). bit_and f.shown.mode 0x3f) (sym one) ∙ ap (λ (mode : ℕ). bit_and mode 0x3f) (sym (at 4 2 held h.file.shown h.shows)) ∙ same (bit_and (part 4 held) 0x3f) 0 closed

  pub is_handle : (are_looks name user named held && is_under (shown named) (shown held) && is_own (part 1 user) (shown held)) ≡ true → part 0 held ≡ 2
  is_handle abc =
      let a0 = part 0 user == 0 in
      let a1 = part 0 named == 1 in
      let a2 = part 0 held == 2 in
      let is_a : (a0 && a1 && a2 && bytes_eq named.1 name) ≡ true = left (are_looks name user named held) (is_under (shown named) (shown held)) (left (are_looks name user named held && is_under (shown named) (shown held)) (is_own (part 1 user) (shown held)) abc) in
      same (part 0 held) 2 (right (a0 && a1) a2 (left (a0 && a1 && a2) (bytes_eq named.1 name) is_a))

pub was_own : (name : List ℕ) (answers : List Note) → is_seen_own name answers ≡ true → WasOwn name answers
was_own name [] h = absurd cc
was_own name (held ∷ []) h = absurd cc
was_own name (held ∷ named ∷ []) h = absurd cc
was_own name (held ∷ named ∷ user ∷ before) h = λ system told. (length before, own_at system name held named user (length before) (suc (length before)) (suc (suc (length before))) h told.1.1.0 told.1.0 told.0)

was_safe_by : (name : List ℕ) (held named user : Note) (before : List Note) → (is_seen_own name (held ∷ named ∷ user ∷ before) && is_closed (shown held)) ≡ true → WasSafe name (held ∷ named ∷ user ∷ before)
was_safe_by name held named user before h =
    let own : is_seen_own name (held ∷ named ∷ user ∷ before) ≡ true = left (is_seen_own name (held ∷ named ∷ user ∷ before)) (is_closed (shown held)) h in
    let closed : is_closed (shown held) ≡ true = right (is_seen_own name (held ∷ named ∷ user ∷ before)) (is_closed (shown held)) h in
    λ system told.
    let k = length before in
    let found : IsOwnAt system name k (suc k) (suc (suc k)) = own_at system name held named user k (suc k) (suc (suc k)) own told.1.1.0 told.1.0 told.0 in (
      k,
      record {
        file = found;
        closed = closed_at system name held named user k (suc k) (suc (suc k)) closed (is_handle system name held named user k (suc k) (suc (suc k)) own) told.0 found.held found.opened;
      },
    )

pub was_safe : (name : List ℕ) (answers : List Note) → is_seen name answers ≡ true → WasSafe name answers
was_safe name [] h = absurd cc
was_safe name (held ∷ []) h = absurd cc
was_safe name (held ∷ named ∷ []) h = absurd cc
was_safe name (held ∷ named ∷ user ∷ before) h = was_safe_by name held named user before h
