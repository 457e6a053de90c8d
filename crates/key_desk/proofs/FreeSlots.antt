-- The remaining one-time keys, by the states of a desk and by the gates on its disk.
use Rattle.std.proofs.Common.{◌≡◌, ◌≢◌, ◌⊎◌, inl, inr, ℕ, zero, suc, ◌+◌, ◌-◌, ◌<◌, ◌≤◌, ◌==◌, true, false, Bool, List, [], ◌∷◌, length, take, get_or, arith, refl, sym, ap, ◌∙◌, subst, cond}
use Rattle.std.proofs.lemmas.Bool.{ne_eqb}
use Rattle.std.proofs.lemmas.List.{length-take-le, get_or-take}
use Rattle.std.proofs.lemmas.List.Sums.{sum_by-cons}
use Rattle.std.specs.List.{count_by, range_with_len}
use Rattle.road_io.specs.declared.disk.Disk.{Ghosts}
use Rattle.road_io.specs.Moments.{Image}
use Rattle.desk_areas.specs.declared.area.Count.{Count}
use Rattle.desk_areas.specs.declared.area.Count.TheVariants
use Rattle.desk_areas.specs.Layout.{gate_at, gate_of, place_in, base_of, slots_at, slots_of, keys_left}
use Rattle.key_desk.specs.declared.desk.Desk.{Desk}
use Rattle.key_desk.specs.Desk.{is_free, free_slots, count_at, slot_here, Fits}
use Rattle.key_desk.proofs.Counts.{count_here, own_here, sized_here, free_isnt_spent}
use Rattle.key_desk.proofs.Successors.{slots_on}

closed : (gate : ℕ) → gate ≡ 0 → (gate == 0) ≡ true
closed gate is = subst (λ g. (g == 0) ≡ true) (sym is) refl

opened : (gate : ℕ) → 0 < gate → (gate == 0) ≡ false
opened gate is = ne_eqb gate 0 (λ e. omega (arith, is, e))

-- a slot counts as free if its gate is closed
free_by_gate : (count : Count) (gate : ℕ) → (count ≡ TheVariants.Free → gate ≡ 0) → (count ≡ TheVariants.Spent → 0 < gate) → (count ≡ TheVariants.Free) ⊎ (count ≡ TheVariants.Spent) → is_free count ≡ (gate == 0)
free_by_gate TheVariants.Free gate free spent either = rw (closed gate (free refl)) refl
free_by_gate TheVariants.Spent gate free spent either = rw (opened gate (spent refl)) refl
free_by_gate TheVariants.Out gate free spent (inl e) = cc
free_by_gate TheVariants.Out gate free spent (inr e) = cc
free_by_gate TheVariants.Written gate free spent (inl e) = cc
free_by_gate TheVariants.Written gate free spent (inr e) = cc

-- two tests that agree count the same
same_counts : (counts : List Count) (a : ℕ) (p : ℕ → Bool) → ((s : ℕ) → s < length counts → is_free (get_or counts s TheVariants.Spent) ≡ p (a + s)) → count_by is_free counts ≡ count_by p (range_with_len a (length counts))
same_counts [] a p agree = refl
same_counts (count ∷ counts) a p agree =
    sum_by-cons (λ c. cond (is_free c) 1 0) count counts ∙ ap (λ b. cond b 1 0 + count_by is_free counts) at_front
    ∙ ap (λ m. cond (p a) 1 0 + m) (same_counts counts (a + 1) p (λ s lt. agree (suc s) (omega (arith, lt)) ∙ ap p (moved s))) ∙ sym (sum_by-cons (λ s. cond (p s) 1 0) a (range_with_len (a + 1) (length counts)))
  where
    at_front : is_free count ≡ p a
    at_front = agree 0 (omega arith) ∙ ap p (omega arith)

    moved : (s : ℕ) → a + suc s ≡ a + 1 + s
    moved s = omega arith

-- whether a gate is closed
abbrev closed_in : List ℕ → ℕ → ℕ → Bool
closed_in image base number = gate_at image (place_in base number) == 0

-- an open desk without a signing in progress counts the remaining keys on each of its images
pub free_are_left : {D : Type 0} (g : Ghosts D) (desk : Desk) (disk : D) (image : List ℕ) → Fits g desk disk → desk.is_open ≡ true → Image g disk image
    → ((s : ℕ) → (count_at desk s ≡ TheVariants.Free) ⊎ (count_at desk s ≡ TheVariants.Spent)) → free_slots desk ≡ keys_left image desk.base
free_are_left g desk disk image fits is_open now either =
    same_counts (take (length desk.counts - 1) desk.counts) 0 (closed_in image desk.base) (λ s lt. agree s (omega (arith, lt, long)) ∙ ap (closed_in image desk.base) (moved s))
    ∙ ap (λ (m : ℕ). count_by (closed_in image desk.base) (range_with_len 0 m)) (long ∙ ap (λ (n : ℕ). n - 1) sized)
  where
    moved : (s : ℕ) → s ≡ 0 + s
    moved s = omega arith

    long : length (take (length desk.counts - 1) desk.counts) ≡ length desk.counts - 1
    long = length-take-le (length desk.counts - 1) desk.counts (omega arith)

    sized : length desk.counts ≡ slots_at image desk.base
    sized = let areas = fits.areas image now in sized_here desk fits.sound ∙ sym (slots_on desk image areas) ∙ ap (λ (b : ℕ). slots_at image b) areas.based

    here : (s : ℕ) → gate_of image (slot_here desk s) ≡ gate_at image (place_in desk.base s)
    here s = let areas = fits.areas image now in ap (λ (b : ℕ). gate_at image (place_in b s)) areas.based

    agree : (s : ℕ) → s < length desk.counts - 1 → is_free (get_or (take (length desk.counts - 1) desk.counts) s TheVariants.Spent) ≡ closed_in image desk.base s
    agree s lt =
        let own = own_here desk s (omega (arith, lt, sized_here desk fits.sound)) in
        ap is_free (get_or-take (length desk.counts - 1) desk.counts s TheVariants.Spent lt)
        ∙ free_by_gate (count_at desk s) (gate_at image (place_in desk.base s))
        (λ free. sym (here s) ∙ fits.others is_open image now (slot_here desk s) own (λ spent. absurd (free_isnt_spent (sym free ∙ sym (count_here desk (slot_here desk s) refl) ∙ spent))))
        (λ spent. let same = fits.spent is_open image image now now (slot_here desk s) own (count_here desk (slot_here desk s) refl ∙ spent) in omega (arith, same.open_gate, here s))
        (either s)
