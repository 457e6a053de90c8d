-- What a disk reads and what a crash may leave of it, if only a history of calls is known, in a world: the octets
-- with which it began, and what each failed call left. No clause says in which world a disk is. Once an answer
-- disagrees with the world, the disk states nothing.
use Rattle.std.specs.Prelude.{◌≡◌, ◌⊎◌, ℕ, zero, suc, ◌-◌, ◌==◌, List, [], ◌∷◌, length, get_or, take, drop, slice_index, if◌then◌else◌}
use Rattle.std.specs.Str.{bytes_eq}
use Rattle.std.specs.Option.{option_map}
use Rattle.std.specs.declared.option.Option.{Option}
use Rattle.std.specs.declared.option.Option.TheVariants.{None, Some}
use Rattle.std.proofs.Common.{inl, subst, sym}
use Rattle.std.proofs.Math.Nat.{sub_self}
use Rattle.road_io.specs.Disk.{written, Torn}

-- a call, as a code and an offset or a length, and its octets
abbrev pub Call : Type 0
Call = List ℕ × List ℕ

-- the content that a read gives; and, for a list, the image that is left after each write since the last sync took
-- part of its effect as the list says
pub record Holding : Type 0 where
  pub content : List ℕ
  pub nearest : List ℕ → List ℕ

-- the state after a call, if its answer agrees: a length, octets read, octets written, octets of which a prefix was
-- written, a sync, or a failed sync
abbrev pub after_call : ℕ → ℕ → List ℕ → List ℕ → Holding → Option Holding
after_call zero n octets left h = if length h.content == n then Some h else None
after_call (suc zero) at octets left h =
    if bytes_eq octets (take (length octets) (drop at h.content)) then Some h else None
after_call (suc (suc zero)) at octets left h = Some (record {
  content = written at octets h.content;
  nearest = λ l. written at (take (length octets) (drop at l)) (h.nearest l);
})
after_call (suc (suc (suc zero))) at octets left h = Some (record {
  content = written at (take (length octets) left) h.content;
  nearest = λ l. written at (take (length octets) (drop at l)) (h.nearest l);
})
after_call (suc (suc (suc (suc zero)))) at octets left h = Some (record {
  content = h.content;
  nearest = λ l. h.content;
})
after_call _ at octets left h = Some (record { content = h.nearest left; nearest = h.nearest })

abbrev pub after : Call → List ℕ → Option Holding → Option Holding
after call left None = None
after call left (Some h) = after_call (slice_index call.0 0) (slice_index call.0 1) call.1 left h

-- calls, the latest first
abbrev pub holding : List Call → List Call → Option Holding
holding world [] = Some (record {
  content = (get_or world 0 ([], [])).1;
  nearest = λ l. (get_or world 0 ([], [])).1;
})
holding world (call ∷ before) =
    after call (get_or world (suc (length before)) ([], [])).1 (holding world before)

-- the content that a read gives
abbrev pub reads : List Call → List Call → Option (List ℕ)
reads world history = option_map (λ h. h.content) (holding world history)

-- an image that a call makes from an earlier one, whatever a read gives
abbrev pub Comes : ℕ → ℕ → List ℕ → (List ℕ → Type 0) → List ℕ → Type 0
Comes (suc (suc zero)) at octets Before i = (d : List ℕ) × Before d × Torn at (length octets) d i
Comes (suc (suc (suc zero))) at octets Before i =
    (d : List ℕ) × Before d × Torn at (length octets) d i
Comes (suc (suc (suc (suc zero)))) at octets Before i = ⊥
Comes _ at octets Before i = Before i

-- what a crash just after these calls may leave
abbrev pub Leaves : List Call → List Call → List ℕ → Type 0
Leaves world [] i = reads world [] ≡ Some i
Leaves world (call ∷ before) i = (reads world (call ∷ before) ≡ Some i) ⊎
    Comes (slice_index call.0 0) (slice_index call.0 1) call.1 (Leaves world before) i

-- what a crash may leave at a moment, after this many of the calls, while all answers agree
pub record LeavesAt (world history : List Call) (moment : ℕ) (i : List ℕ) : Type 0 where
  pub now : List ℕ
  pub agrees : reads world history ≡ Some now
  pub leaves : Leaves world (drop (length history - moment) history) i

-- a crash may leave the content that a read gives
pub reads_left : (world history : List Call) (c : List ℕ) → reads world history ≡ Some c →
    Leaves world history c
reads_left world [] c is = is
reads_left world (call ∷ before) c is = inl is

pub reads_left_now : (world history : List Call) (c : List ℕ) → reads world history ≡ Some c →
    LeavesAt world history (length history) c
reads_left_now world history c is = record {
  now = c;
  agrees = is;
  leaves = subst (λ n. Leaves world (drop n history) c) (sym (sub_self (length history)))
      (reads_left world history c is);
}
