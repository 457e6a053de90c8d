-- Why a call of the disk failed, from the calls of the system that it made.
use Rattle.std.proofs.Common.{◌≡◌, ◌≤◌, ℕ, List, [], ◌∷◌, Bool, true, false, length, Option, Some, None, refl, sym, ◌∙◌, ap, arith, Result, Ok, Err, OnErr}
use Rattle.outside.specs.Called.{Note, Refuses, EndsRefused}
use Rattle.desk_disk.specs.Opening.{EndsIn, FailsFor, FailsToWrite, IsKeptFor, IsNotOpenedFor}
use Rattle.desk_disk.specs.States.{is_absent, is_read_only, is_unseen, is_writable}
use Rattle.desk_disk.specs.declared.state.NotOpened.{NotOpened}
use Rattle.desk_disk.specs.declared.state.NotOpened.TheVariants.{Failed, Unsafe}
use Rattle.desk_disk.specs.declared.state.State.{State}
use Rattle.desk_disk.specs.declared.state.State.TheVariants.{Unseen, Absent, Own, Seen}
use Rattle.desk_disk.specs.declared.unsafe_desk.Unsafe as reasons

ends_in : (why : Option reasons.Unsafe) (now : List Note) → EndsRefused now → EndsIn why now
ends_in why [] refused = refused
ends_in why (call ∷ before) refused = λ done. absurd (refused done)

-- a refused call, behind others
pub refused_fails : (why : Option reasons.Unsafe) (before mid now : List Note) → length before ≤ length mid → Refuses mid now → FailsFor why before now
refused_fails why before mid now more r = record { made = omega (arith, more, r.made); ends = ends_in why now r.ends }

kept_some : (kept : Option reasons.Unsafe) (why : reasons.Unsafe) → kept ≡ Some why → Rattle.std.specs.Prelude.IsSome kept
kept_some (Some w) why is = refl
kept_some None why is = absurd cc

looked_ends : (kept : Option reasons.Unsafe) (why : reasons.Unsafe) (now : List Note) → kept ≡ Some why → Rattle.desk_disk.specs.Opening.ends_in_look now ≡ true → EndsIn kept now
looked_ends kept why [] is look = absurd cc
looked_ends kept why (call ∷ before) is look = λ done. (look, kept_some kept why is)

-- a file that was not opened, behind other calls
pub unopened_later : (why : NotOpened) (kept : Option reasons.Unsafe) (before mid now : List Note) → length before ≤ length mid → IsNotOpenedFor why mid now → IsKeptFor why kept → FailsFor kept before now
unopened_later (Failed e) kept before mid now more refused keeps = refused_fails kept before mid now more refused
unopened_later (Unsafe why) kept before mid now more looked keeps = record { made = omega (arith, more, looked.made); ends = looked_ends kept why now keeps looked.look }

pub unopened_fails : (why : NotOpened) (kept : Option reasons.Unsafe) (before now : List Note) → IsNotOpenedFor why before now → IsKeptFor why kept → FailsFor kept before now
unopened_fails (Failed e) kept before now refused keeps = record { made = refused.made; ends = ends_in kept now refused.ends }
unopened_fails (Unsafe why) kept before now looked keeps = record { made = looked.made; ends = looked_ends kept why now keeps looked.look }

-- a file that was opened by a command that writes can be written
pub is_writable_then : (state : State) → is_unseen state ≡ false → is_absent state ≡ false → is_read_only state ≡ false → is_writable state ≡ true
is_writable_then Unseen u a r = absurd cc
is_writable_then Absent u a r = absurd cc
is_writable_then (Own fault) u a r = absurd cc
is_writable_then (Seen was_readable) u a r = refl

-- a write that the system refused, of a file that was found to be safe
pub unwritten : {T E : Type 0} (result : Result T E) (state found : State) (why : Option reasons.Unsafe) (before mid now : List Note) → length before ≤ length mid → found ≡ state → is_writable state ≡ true → (is_writable state ≡ true → OnErr result (Refuses mid now)) → OnErr result (FailsToWrite found why before now)
unwritten (Ok done) state found why before mid now more same is refused = tt
unwritten (Err e) state found why before mid now more same is refused = λ may. refused_fails why before mid now more (refused is)

-- a write to a file that a command has opened or that it does not find
pub unwritten_then : {T E : Type 0} (result : Result T E) (state found : State) (why : Option reasons.Unsafe) (before mid now : List Note) → length before ≤ length mid → found ≡ state → is_unseen state ≡ false → is_absent state ≡ false → (is_writable state ≡ true → OnErr result (Refuses mid now)) → OnErr result (FailsToWrite found why before now)
unwritten_then (Ok done) state found why before mid now more same u a refused = tt
unwritten_then (Err e) state found why before mid now more same u a refused = λ may. refused_fails why before mid now more (refused (is_writable_then state u a (ap is_read_only (sym same) ∙ may)))
