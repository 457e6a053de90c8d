-- What a disk reads and what a crash may leave of it, evaluated for given calls and a given world.
use Rattle.std.proofs.Common.{◌≡◌, ℕ, List, [], ◌∷◌, inl, inr, refl, sym, arith}
use Rattle.std.specs.declared.option.Option.{Option}
use Rattle.std.specs.declared.option.Option.TheVariants.{None, Some}
use Rattle.road_io.specs.Worlds.{Call, reads, Leaves}

-- the disk began with three octets; its first call left 7 8 where it failed, and the second call left 5
abbrev world : List Call
world = ([], 1 ∷ 2 ∷ 3 ∷ []) ∷ ([], 7 ∷ 8 ∷ []) ∷ ([], 5 ∷ []) ∷ []

abbrev counted : ℕ → Call
counted n = (0 ∷ n ∷ [], [])

abbrev read : ℕ → List ℕ → Call
read at octets = (1 ∷ at ∷ [], octets)

abbrev wrote : ℕ → List ℕ → Call
wrote at octets = (2 ∷ at ∷ [], octets)

abbrev tore : ℕ → List ℕ → Call
tore at octets = (3 ∷ at ∷ [], octets)

abbrev synced : Call
synced = (4 ∷ [], [])

abbrev dropped : Call
dropped = (5 ∷ [], [])

-- ---- the content that a read gives

at_first : reads world [] ≡ Some (1 ∷ 2 ∷ 3 ∷ [])
at_first = refl

written_over : reads world (wrote 1 (9 ∷ []) ∷ []) ≡ Some (1 ∷ 9 ∷ 3 ∷ [])
written_over = refl

written_behind : reads world (wrote 3 (9 ∷ 8 ∷ []) ∷ []) ≡ Some (1 ∷ 2 ∷ 3 ∷ 9 ∷ 8 ∷ [])
written_behind = refl

-- answers that agree leave the stated content as it is
right_length : reads world (counted 3 ∷ []) ≡ Some (1 ∷ 2 ∷ 3 ∷ [])
right_length = refl

right_octets : reads world (read 1 (2 ∷ 3 ∷ []) ∷ []) ≡ Some (1 ∷ 2 ∷ 3 ∷ [])
right_octets = refl

-- after an answer that disagrees, nothing is stated, whatever follows
wrong_length : reads world (counted 4 ∷ []) ≡ None
wrong_length = refl

wrong_octets : reads world (read 1 (2 ∷ 4 ∷ []) ∷ []) ≡ None
wrong_octets = refl

never_again : reads world (wrote 0 (1 ∷ []) ∷ counted 3 ∷ counted 4 ∷ []) ≡ None
never_again = refl

-- a write that failed has put a prefix of the octets that the world names, no longer than the write
torn_short : reads world (tore 0 (4 ∷ []) ∷ []) ≡ Some (7 ∷ 2 ∷ 3 ∷ [])
torn_short = refl

torn_long : reads world (tore 1 (4 ∷ 4 ∷ 4 ∷ []) ∷ []) ≡ Some (1 ∷ 7 ∷ 8 ∷ [])
torn_long = refl

-- a sync that failed may have dropped a write
write_dropped : reads world (dropped ∷ wrote 1 (9 ∷ []) ∷ []) ≡ Some (1 ∷ 2 ∷ 3 ∷ [])
write_dropped = refl

-- ---- what a crash may leave

may_be_done : Leaves world (wrote 1 (9 ∷ []) ∷ []) (1 ∷ 9 ∷ 3 ∷ [])
may_be_done = inl refl

may_be_undone : Leaves world (wrote 1 (9 ∷ []) ∷ []) (1 ∷ 2 ∷ 3 ∷ [])
may_be_undone = inr (1 ∷ 2 ∷ 3 ∷ [], refl, record { no_shorter = omega arith; no_longer = omega arith; outside = λ k lt out. refl })

-- after a sync the write is durable
is_done : (i : List ℕ) → Leaves world (synced ∷ wrote 1 (9 ∷ []) ∷ []) i → i ≡ 1 ∷ 9 ∷ 3 ∷ []
is_done i left = elim left [
  | inl e ↦ sym (same (1 ∷ 9 ∷ 3 ∷ []) i e)
  | inr e ↦ absurd e
]
  where
    same : (x y : List ℕ) → ◌≡◌ {A = Option (List ℕ)} (Some x) (Some y) → x ≡ y
    same x y is = cc

-- after a sync that failed the write may still be undone
still_undone : Leaves world (dropped ∷ wrote 1 (9 ∷ []) ∷ []) (1 ∷ 2 ∷ 3 ∷ [])
still_undone = inl refl
