-- The conditions for a valid signature: its length, its slot, and that it leads to the key's root.
use Rattle.std.proofs.Common.{◌≡◌, ℕ, ◌^◌, ◌<◌, Bool, true, false, not, ◌&&◌, ◌==◌, nat_lt, if◌then◌else◌, List, length, take, drop, Result, Ok, Err, refl, sym, ap, ◌∙◌}
use Rattle.std.specs.Str.{bytes_eq}
use Rattle.std.proofs.lemmas.Bool.{eqb-true, ltb-true}
use Rattle.std.proofs.lemmas.Slice.Eq.{bytes_eq-Decides}
use Rattle.lms_tree.specs.Signatures.{KeyOf, is_kind, height_of, node_of, public_key, seal_len, number_at, shown_root, is_key, is_form, is_match, verified}
use Rattle.lms_tree.specs.declared.seals.SealError.{SealError}
use Rattle.lms_tree.specs.declared.seals.SealError.TheVariants.{BadKey, BadForm, NoMatch}
use Rattle.lms_tree.proofs.SealLemmas.{public_key-kind, public_key-name, public_key-root}

pub record IsGood (key : KeyOf) (text sig : List ℕ) : Type 0 where
  pub size : length sig ≡ seal_len (height_of key.kind)
  pub slot : number_at sig 0 < 2 ^ height_of key.kind
  pub root : shown_root (height_of key.kind) key.i text sig ≡ node_of key.i key.seed (height_of key.kind) (height_of key.kind) 1

-- the verdict, from three tests
abbrev verdict : Bool → Bool → Bool → Result (Unit {0}) SealError
verdict k f m = if not k then Err BadKey else (if not f then Err BadForm else (if m then Ok tt else Err NoMatch))

verdict-form : (k f m : Bool) → verdict k f m ≡ Ok tt → f ≡ true
verdict-form true true m e = refl
verdict-form true false m e = cc
verdict-form false f m e = cc

verdict-match : (k f m : Bool) → verdict k f m ≡ Ok tt → m ≡ true
verdict-match true true true e = refl
verdict-match true true false e = cc
verdict-match true false m e = cc
verdict-match false f m e = cc

both : (a b : Bool) → (a && b) ≡ true → (a ≡ true) × (b ≡ true)
both true b e = (refl, e)
both false b e = cc

-- a valid signature has the right form, whatever the key
form-size : (kind : ℕ) (sig : List ℕ) → is_form kind sig ≡ true → (length sig ≡ seal_len (height_of kind)) × (number_at sig 0 < 2 ^ height_of kind)
form-size kind sig e =
    let size = length sig == seal_len (height_of kind) in
    let ots = number_at sig 4 == 4 in
    let kinds = number_at sig 1128 == kind in
    let slot = nat_lt (number_at sig 0) (2 ^ height_of kind) in
    let all = both (size && ots && kinds) slot e in
    let front = both size ots (both (size && ots) kinds all.0).0 in
    (eqb-true (length sig) (seal_len (height_of kind)) front.0, ltb-true (number_at sig 0) (2 ^ height_of kind) all.1)

pub good-length : (public text sig : List ℕ) → verified public text sig ≡ Ok tt → length sig ≡ seal_len (height_of (number_at public 0))
good-length public text sig e =
    (form-size (number_at public 0) sig (verdict-form (is_key public) (is_form (number_at public 0) sig) (is_match public text sig) e)).0

pub IsGood-verified : (key : KeyOf) (text sig : List ℕ) → is_kind key.kind ≡ true → length key.i ≡ 16 → verified (public_key key) text sig ≡ Ok tt → IsGood key text sig
IsGood-verified key text sig t l e =
    let p = public_key key in
    let h = height_of key.kind in
    let root = node_of key.i key.seed h h 1 in
    let kind = public_key-kind key t in
    let form = form-size key.kind sig (ap (λ k. is_form k sig) (sym kind) ∙ verdict-form (is_key p) (is_form (number_at p 0) sig) (is_match p text sig) e) in
    let meets : bytes_eq (shown_root (height_of (number_at p 0)) (take 16 (drop 8 p)) text sig) (take 32 (drop 24 p)) ≡ true = verdict-match (is_key p) (is_form (number_at p 0) sig) (is_match p text sig) e in
    let same : shown_root (height_of (number_at p 0)) (take 16 (drop 8 p)) text sig ≡ take 32 (drop 24 p) = (bytes_eq-Decides (shown_root (height_of (number_at p 0)) (take 16 (drop 8 p)) text sig) (take 32 (drop 24 p))).0 meets in
    record {
      size = form.0;
      slot = form.1;
      root = ap (λ (i : List ℕ). shown_root h i text sig) (sym (public_key-name key l))
          ∙ ap (λ k. shown_root (height_of k) (take 16 (drop 8 p)) text sig) (sym kind) ∙ same ∙ public_key-root key l;
    }
