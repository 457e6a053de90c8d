-- What was found of a file that a command has opened.
use Rattle.std.proofs.Common.{◌≡◌, ◌&&◌, ℕ, List, [], ◌∷◌, Bool, true, false, Option, None, Some, Result, Ok, Err, IfOk, refl, sym, ap, subst}
use Rattle.road_io.specs.Shelves.{Note}
use Rattle.desk_disk.specs.Looks.{is_closed, is_of_mode, is_seen, is_seen_own, shown}
use Rattle.desk_disk.specs.States.{is_found, WasFound}
use Rattle.desk_disk.specs.declared.unsafe_desk.Unsafe.{Unsafe}
use Rattle.desk_disk.specs.declared.handle.TheConstants.{DESK}
use Rattle.desk_disk.specs.declared.state.State.{State}
use Rattle.desk_disk.specs.declared.state.State.TheVariants.{Unseen, Absent, Own, Seen}
use Rattle.desk_disk.proofs.SystemLaws.{was_own, was_safe}

both : (a b : Bool) → (a && b) ≡ true → a ≡ true
both true b is = refl
both false b is = is

own_of : (name : List ℕ) (answers : List Note) → is_seen name answers ≡ true → is_seen_own name answers ≡ true
own_of name [] is = absurd cc
own_of name (held ∷ before) is = both (is_seen_own name (held ∷ before)) (is_closed (shown held)) is

-- what looks show of a file with which at most the mode is at fault
pub found_own : {E : Type 0} (result : Result (Option Unsafe) E) (fault : Option Unsafe) (answers : List Note) → result ≡ Ok fault → (result ≡ Ok None → is_seen DESK.now answers ≡ true) → IfOk result (λ told. is_of_mode told ≡ true → is_seen_own DESK.now answers ≡ true) → is_of_mode fault ≡ true → is_found (Own fault) answers ≡ true
found_own result None answers is closed own mode = closed is
found_own {E = E} (Ok told) (Some why) answers is closed own mode = own (subst (λ (r : Result (Option Unsafe) E). IfOk r (λ it. is_of_mode it ≡ true)) (sym is) mode)
found_own (Err e) (Some why) answers is closed own mode = absurd cc

pub found : (state : State) (answers : List Note) → is_found state answers ≡ true → WasFound state answers
found Unseen answers is = tt
found Absent answers is = tt
found (Own None) answers is = was_own DESK.now answers (own_of DESK.now answers is)
found (Own (Some fault)) answers is = was_own DESK.now answers is
found (Seen was_readable) answers is = was_safe DESK.now answers is
