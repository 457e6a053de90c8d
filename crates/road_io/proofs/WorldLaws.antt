-- What one more call adds to a history: one moment. Earlier moments stay unchanged.
use Rattle.std.proofs.Common.{◌≡◌, ◌⊎◌, ℕ, zero, suc, ◌-◌, ◌≤◌, ◌==◌, List, [], ◌∷◌, Bool, true, false, length, get_or, take, drop, slice_index, if◌then◌else◌, arith, inl, inr, refl, sym, ◌∙◌, ap, subst}
use Rattle.std.proofs.lemmas.Bool.{cases_lt}
use Rattle.std.proofs.lemmas.List.{places}
use Rattle.std.specs.Str.{bytes_eq}
use Rattle.std.specs.Option.{ForSome, option_map, IsSomeAnd}
use Rattle.std.specs.declared.option.Option.{Option}
use Rattle.std.specs.declared.option.Option.TheVariants.{None, Some}
use Rattle.std.specs.Result.{OnErr, OnOk}
use Rattle.std.specs.declared.result.Result.{Result}
use Rattle.std.specs.declared.result.Result.TheVariants.{Ok, Err}
use Rattle.road_io.specs.Disk.{written, Torn, Stays}
use Rattle.outside.specs.Calls.{noted_write, noted_sync}
use Rattle.road_io.specs.Worlds.{Call, Holding, after_call, after, holding, reads, Comes, Leaves, LeavesAt, reads_left}

pub torn_part : (at n : ℕ) (octets content : List ℕ) → length octets ≤ n → Torn at n content (written at octets content)
torn_part at n octets content le = record {
  no_shorter = grind (arith, places);
  no_longer = grind (arith, places);
  outside = λ k lt out. grind (arith, places);
}

pub torn_same : (at n : ℕ) (d : List ℕ) → Torn at n d d
torn_same at n d = record { no_shorter = omega arith; no_longer = omega arith; outside = λ k lt out. refl }

some_same : {A : Type 0} (x y : A) → Some x ≡ Some y → x ≡ y
some_same x y is = cc

if_some : (b : Bool) (h h' : Holding) → (if b then Some h else None) ≡ Some h' → h ≡ h'
if_some true h h' is = cc
if_some false h h' is = absurd cc

-- the step by which a call changes an image
abbrev pub StepOf : ℕ → ℕ → List ℕ → List ℕ → List ℕ → Type 0
StepOf (suc (suc zero)) at octets d i = Torn at (length octets) d i
StepOf (suc (suc (suc zero))) at octets d i = Torn at (length octets) d i
StepOf _ at octets d i = Stays d i

short : (octets : List ℕ) (l : List ℕ) → length (take (length octets) l) ≤ length octets
short octets l = grind (arith, places)

module _ (Before : List ℕ → Type 0) (h : Holding) (near : (l : List ℕ) → Before (h.nearest l)) where
  -- the images by the last call are images
  near_step : (kind at : ℕ) (octets left : List ℕ) (h' : Holding) → after_call kind at octets left h ≡ Some h' → (l : List ℕ)
      → (Some h'.content ≡ Some (h'.nearest l)) ⊎ Comes kind at octets Before (h'.nearest l)
  near_step zero at octets left h' is l = inr (subst (λ (x : Holding). Before (x.nearest l)) (if_some (length h.content == at) h h' is) (near l))
  near_step (suc zero) at octets left h' is l = inr (subst (λ (x : Holding). Before (x.nearest l)) (if_some (bytes_eq octets (take (length octets) (drop at h.content))) h h' is) (near l))
  near_step (suc (suc zero)) at octets left h' is l =
      subst (λ (x : Holding). (Some x.content ≡ Some (x.nearest l)) ⊎ Comes 2 at octets Before (x.nearest l)) (some_same _ h' is)
      (inr (h.nearest l, near l, torn_part at (length octets) (take (length octets) (drop at l)) (h.nearest l) (short octets (drop at l))))
  near_step (suc (suc (suc zero))) at octets left h' is l =
      subst (λ (x : Holding). (Some x.content ≡ Some (x.nearest l)) ⊎ Comes 3 at octets Before (x.nearest l)) (some_same _ h' is)
      (inr (h.nearest l, near l, torn_part at (length octets) (take (length octets) (drop at l)) (h.nearest l) (short octets (drop at l))))
  near_step (suc (suc (suc (suc zero)))) at octets left h' is l =
      subst (λ (x : Holding). (Some x.content ≡ Some (x.nearest l)) ⊎ ⊥) (some_same _ h' is) (inl refl)
  near_step (suc (suc (suc (suc (suc n))))) at octets left h' is l =
      inr (subst (λ (x : Holding). Before (x.nearest l)) (some_same _ h' is) (near l))

  -- each image after a call comes by the call's step
  each_step : (kind at : ℕ) (octets left : List ℕ) (h' : Holding) → Before h.content → after_call kind at octets left h ≡ Some h' → (i : List ℕ)
      → (Some h'.content ≡ Some i) ⊎ Comes kind at octets Before i → (d : List ℕ) × Before d × StepOf kind at octets d i
  each_step zero at octets left h' now is i (inl here) =
      (h.content, now, sym (some_same _ i here) ∙ sym (ap (λ (x : Holding). x.content) (if_some (length h.content == at) h h' is)))
  each_step zero at octets left h' now is i (inr b) = (i, b, refl)
  each_step (suc zero) at octets left h' now is i (inl here) =
      (h.content, now, sym (some_same _ i here) ∙ sym (ap (λ (x : Holding). x.content) (if_some (bytes_eq octets (take (length octets) (drop at h.content))) h h' is)))
  each_step (suc zero) at octets left h' now is i (inr b) = (i, b, refl)
  each_step (suc (suc zero)) at octets left h' now is i (inl here) =
      let it : written at octets h.content ≡ i = ap (λ (x : Holding). x.content) (some_same _ h' is) ∙ some_same _ i here in
      (h.content, now, subst (λ (x : List ℕ). Torn at (length octets) h.content x) it (torn_part at (length octets) octets h.content (omega arith)))
  each_step (suc (suc zero)) at octets left h' now is i (inr t) = t
  each_step (suc (suc (suc zero))) at octets left h' now is i (inl here) =
      let it : written at (take (length octets) left) h.content ≡ i = ap (λ (x : Holding). x.content) (some_same _ h' is) ∙ some_same _ i here in
      (h.content, now, subst (λ (x : List ℕ). Torn at (length octets) h.content x) it (torn_part at (length octets) (take (length octets) left) h.content (short octets left)))
  each_step (suc (suc (suc zero))) at octets left h' now is i (inr t) = t
  each_step (suc (suc (suc (suc zero)))) at octets left h' now is i (inl here) =
      (h.content, now, sym (some_same _ i here) ∙ sym (ap (λ (x : Holding). x.content) (some_same _ h' is)))
  each_step (suc (suc (suc (suc zero)))) at octets left h' now is i (inr b) = absurd b
  each_step (suc (suc (suc (suc (suc n))))) at octets left h' now is i (inl here) =
      let it : h.nearest left ≡ i = ap (λ (x : Holding). x.content) (some_same _ h' is) ∙ some_same _ i here in
      (h.nearest left, near left, sym it)
  each_step (suc (suc (suc (suc (suc n))))) at octets left h' now is i (inr b) = (i, b, refl)

held_before : (call : Call) (left : List ℕ) (o : Option Holding) (h' : Holding) → after call left o ≡ Some h' → (h : Holding) × (o ≡ Some h) × (after_call (slice_index call.0 0) (slice_index call.0 1) call.1 left h ≡ Some h')
held_before call left None h' is = absurd cc
held_before call left (Some h) h' is = (h, refl, is)

read_of : (o : Option Holding) (c : List ℕ) → option_map (λ h. h.content) o ≡ Some c → (h : Holding) × (o ≡ Some h) × (h.content ≡ c)
read_of None c is = absurd cc
read_of (Some h) c is = (h, refl, some_same _ c is)

module _ (world : List Call) where
  pub near_left : (history : List Call) (h : Holding) → holding world history ≡ Some h → (l : List ℕ) → Leaves world history (h.nearest l)
  near_left [] h is l = subst (λ (x : Holding). reads world [] ≡ Some (x.nearest l)) (some_same _ h is) refl
  near_left (call ∷ before) h' is l =
      let left = (get_or world (suc (length before)) ([], [])).1 in
      let was = held_before call left (holding world before) h' is in
      let one = near_step (Leaves world before) was.0 (near_left before was.0 was.1) (slice_index call.0 0) (slice_index call.0 1) call.1 left h' was.2 l in
      let same : reads world (call ∷ before) ≡ Some h'.content = ap (λ (o : Option Holding). option_map (λ h. h.content) o) is in
      elim one [
        | inl e ↦ inl (same ∙ e)
        | inr e ↦ inr e
      ]

  held_left : (history : List Call) (h : Holding) → holding world history ≡ Some h → Leaves world history h.content
  held_left history h is = reads_left world history h.content (ap (λ (o : Option Holding). option_map (λ h. h.content) o) is)

  read_before : (call : Call) (before : List Call) (c : List ℕ) → reads world (call ∷ before) ≡ Some c → (b : List ℕ) × (reads world before ≡ Some b)
  read_before call before c is =
      let now = read_of (holding world (call ∷ before)) c is in
      let was = held_before call (get_or world (suc (length before)) ([], [])).1 (holding world before) now.0 now.1 in
      (was.0.content, ap (λ (o : Option Holding). option_map (λ h. h.content) o) was.1)

  past_of : (call : Call) (before : List Call) (k : ℕ) (i : List ℕ) → k ≤ length before → LeavesAt world (call ∷ before) k i → LeavesAt world before k i
  past_of call before k i le h =
      let b = read_before call before h.now h.agrees in
      let n : length (call ∷ before) - k ≡ suc (length before - k) = omega arith in
      record { now = b.0; agrees = b.1; leaves = subst (λ (m : ℕ). Leaves world (drop m (call ∷ before)) i) n h.leaves }

  here_of : (call : Call) (before : List Call) (i : List ℕ) → LeavesAt world (call ∷ before) (length (call ∷ before)) i
      → (d : List ℕ) × LeavesAt world before (length before) d × StepOf (slice_index call.0 0) (slice_index call.0 1) call.1 d i
  here_of call before i h =
      let left = (get_or world (suc (length before)) ([], [])).1 in
      let now = read_of (holding world (call ∷ before)) h.now h.agrees in
      let was = held_before call left (holding world before) now.0 now.1 in
      let same : reads world (call ∷ before) ≡ Some now.0.content = ap (λ (o : Option Holding). option_map (λ h. h.content) o) now.1 in
      let n : length (call ∷ before) - length (call ∷ before) ≡ 0 = omega arith in
      let leaves : Leaves world (call ∷ before) i = subst (λ (m : ℕ). Leaves world (drop m (call ∷ before)) i) n h.leaves in
      let which : (Some now.0.content ≡ Some i) ⊎ Comes (slice_index call.0 0) (slice_index call.0 1) call.1 (Leaves world before) i = elim leaves [
        | inl e ↦ inl (sym same ∙ e)
        | inr e ↦ inr e
      ] in
      let one = each_step (Leaves world before) was.0 (near_left before was.0 was.1) (slice_index call.0 0) (slice_index call.0 1) call.1 left now.0 (held_left before was.0 was.1) was.2 i which in
      let m : length before - length before ≡ 0 = omega arith in (
        one.0,
        record {
          now = was.0.content;
          agrees = ap (λ (o : Option Holding). option_map (λ h. h.content) o) was.1;
          leaves = subst (λ (m : ℕ). Leaves world (drop m before) one.0) (sym m) one.1;
        },
        one.2,
      )

-- a call that was recorded
module _ (world world' history history' : List Call) (call : Call) (same : world' ≡ world) (noted : history' ≡ call ∷ history) where
  plain : (k : ℕ) (i : List ℕ) → LeavesAt world' history' k i → LeavesAt world (call ∷ history) k i
  plain k i h = subst (λ (x : List Call). LeavesAt world x k i) noted (subst (λ (x : List Call). LeavesAt x history' k i) same h)

  pub later_noted : length history ≤ length history'
  later_noted = let n : length history' ≡ suc (length history) = ap length noted in omega (arith, n)

  pub past_noted : (k : ℕ) (i : List ℕ) → k ≤ length history → LeavesAt world' history' k i → LeavesAt world history k i
  past_noted k i le h = past_of world call history k i le (plain k i h)

  pub each_noted : (Step : List ℕ → List ℕ → Type 0) → ((d : List ℕ) → Step d d)
      → ((d i : List ℕ) → StepOf (slice_index call.0 0) (slice_index call.0 1) call.1 d i → Step d i)
      → (k : ℕ) (i : List ℕ) → length history ≤ k → k ≤ length history' → LeavesAt world' history' k i → (d : List ℕ) × LeavesAt world history (length history) d × Step d i
  each_noted Step stays is k i from to h =
      let n : length history' ≡ suc (length history) = ap length noted in
      elim (cases_lt (length history) k) [
        | inl later ↦
            let e : k ≡ length (call ∷ history) = omega (arith, n) in
            let one = here_of world call history i (subst (λ (x : ℕ). LeavesAt world (call ∷ history) x i) e (plain k i h)) in
            (one.0, one.1, is one.0 i one.2)
        | inr now ↦
            let e : k ≡ length history = omega arith in
            (i, subst (λ (x : ℕ). LeavesAt world history x i) e (past_noted k i (omega arith) h), stays i)
      ]

-- nothing was recorded
module _ (world world' history history' : List Call) (same : world' ≡ world) (kept : history' ≡ history) where
  pub later_kept : length history ≤ length history'
  later_kept = let n : length history' ≡ length history = ap length kept in omega (arith, n)

  pub past_kept : (k : ℕ) (i : List ℕ) → k ≤ length history → LeavesAt world' history' k i → LeavesAt world history k i
  past_kept k i le h = subst (λ (x : List Call). LeavesAt world x k i) kept (subst (λ (x : List Call). LeavesAt x history' k i) same h)

  pub each_kept : (Step : List ℕ → List ℕ → Type 0) → ((d : List ℕ) → Step d d)
      → (k : ℕ) (i : List ℕ) → length history ≤ k → k ≤ length history' → LeavesAt world' history' k i → (d : List ℕ) × LeavesAt world history (length history) d × Step d i
  each_kept Step stays k i from to h =
      let n : length history' ≡ length history = ap length kept in
      let e : k ≡ length history = omega (arith, n) in
      (i, subst (λ (x : ℕ). LeavesAt world history x i) e (past_kept k i (omega (arith, n)) h), stays i)

pub on_err : {T E P : Type 0} (r : Result T E) → P → OnErr r P
on_err (Ok x) p = tt
on_err (Err e) p = p

reflexive : (kind at : ℕ) (octets d : List ℕ) → StepOf kind at octets d d
reflexive zero at octets d = refl
reflexive (suc zero) at octets d = refl
reflexive (suc (suc zero)) at octets d = torn_same at (length octets) d
reflexive (suc (suc (suc zero))) at octets d = torn_same at (length octets) d
reflexive (suc (suc (suc (suc n)))) at octets d = refl

read_now : (world history : List Call) (c : List ℕ) → reads world history ≡ Some c → LeavesAt world history (length history) c
read_now world history c is =
    let m : length history - length history ≡ 0 = omega arith in
    record { now = c; agrees = is; leaves = subst (λ (m : ℕ). Leaves world (drop m history) c) (sym m) (reads_left world history c is) }

-- the content that a read gives came by the step from an image before
pub came : (world world' history history' : List Call) (call : Call) → world' ≡ world → history' ≡ call ∷ history → (c : List ℕ) → reads world' history' ≡ Some c
    → (d : List ℕ) × LeavesAt world history (length history) d × StepOf (slice_index call.0 0) (slice_index call.0 1) call.1 d c
came world world' history history' call same noted c is =
    each_noted world world' history history' call same noted (StepOf (slice_index call.0 0) (slice_index call.0 1) call.1) (reflexive (slice_index call.0 0) (slice_index call.0 1) call.1) (λ d i s. s) (length history') c (later_noted world world' history history' call same noted) (omega arith) (read_now world' history' c is)

-- nothing was recorded: the content that a read gives is an image
pub was_image : (world world' history history' : List Call) → world' ≡ world → history' ≡ history → (c : List ℕ) → reads world' history' ≡ Some c → LeavesAt world history (length history) c
was_image world world' history history' same kept c is =
    read_now world history c (subst (λ (x : List Call). reads world x ≡ Some c) kept (subst (λ (x : List Call). reads x history' ≡ Some c) same is))

-- after a write that failed
pub torn_failed : (world world' history history' : List Call) (at : ℕ) (octets : List ℕ) → world' ≡ world → history' ≡ (3 ∷ at ∷ [], octets) ∷ history → (c : List ℕ) → reads world' history' ≡ Some c
    → IsSomeAnd (reads world history) (λ b. Torn at (length octets) b c)
torn_failed world world' history history' at octets same noted c is =
    let call : Call = (3 ∷ at ∷ [], octets) in
    let left = (get_or world (suc (length history)) ([], [])).1 in
    let plain : reads world (call ∷ history) ≡ Some c = subst (λ (x : List Call). reads world x ≡ Some c) noted (subst (λ (x : List Call). reads x history' ≡ Some c) same is) in
    let now = read_of (holding world (call ∷ history)) c plain in
    let was = held_before call left (holding world history) now.0 now.1 in
    let it : written at (take (length octets) left) was.0.content ≡ c = ap (λ (x : Holding). x.content) (some_same _ now.0 was.2) ∙ now.2 in
    let read : reads world history ≡ Some was.0.content = ap (λ (o : Option Holding). option_map (λ h. h.content) o) was.1 in
    subst (λ (o : Option (List ℕ)). IsSomeAnd o (λ b. Torn at (length octets) b c)) (sym read)
    (subst (λ (x : List ℕ). Torn at (length octets) was.0.content x) it (torn_part at (length octets) (take (length octets) left) was.0.content (short octets left)))

-- ---- one answer

put_in : (at : ℕ) (octets left : List ℕ) (o : Option Holding) → option_map (λ h. h.content) (after (2 ∷ at ∷ [], octets) left o) ≡ option_map (written at octets) (option_map (λ h. h.content) o)
put_in at octets left None = refl
put_in at octets left (Some h) = refl

stays_put : (left : List ℕ) (o : Option Holding) → option_map (λ h. h.content) (after (4 ∷ [], []) left o) ≡ option_map (λ h. h.content) o
stays_put left None = refl
stays_put left (Some h) = refl

read_as : (world world' history history' : List Call) (call : Call) → world' ≡ world → history' ≡ call ∷ history → reads world' history' ≡ reads world (call ∷ history)
read_as world world' history history' call same noted = ap (λ (x : List Call). reads x history') same ∙ ap (λ (x : List Call). reads world x) noted

module _ {T E : Type 0} (world world' history history' : List Call) (same : world' ≡ world) where
  -- a write
  module _ (at : ℕ) (octets : List ℕ) where
    pub wrote : (r : Result T E) → history' ≡ noted_write r at octets ∷ history → OnOk r (reads world' history' ≡ option_map (written at octets) (reads world history))
    wrote (Ok done) noted = read_as world world' history history' (2 ∷ at ∷ [], octets) same noted ∙ put_in at octets (get_or world (suc (length history)) ([], [])).1 (holding world history)
    wrote (Err failed) noted = tt

    pub tore : (r : Result T E) → history' ≡ noted_write r at octets ∷ history → OnErr r (ForSome (reads world' history') (λ c. IsSomeAnd (reads world history) (λ b. Torn at (length octets) b c)))
    tore (Ok done) noted = tt
    tore (Err failed) noted = λ c is. torn_failed world world' history history' at octets same noted c is

    pub write_step : (r : Result T E) (d i : List ℕ) → StepOf (slice_index (noted_write r at octets).0 0) (slice_index (noted_write r at octets).0 1) (noted_write r at octets).1 d i → Torn at (length octets) d i
    write_step (Ok done) d i s = s
    write_step (Err failed) d i s = s

  -- a sync
  pub settled : (r : Result T E) → history' ≡ noted_sync r ∷ history → OnOk r (reads world' history' ≡ reads world history)
  settled (Ok done) noted = read_as world world' history history' (4 ∷ [], []) same noted ∙ stays_put (get_or world (suc (length history)) ([], [])).1 (holding world history)
  settled (Err failed) noted = tt

  pub one_left : (r : Result T E) → history' ≡ noted_sync r ∷ history → OnOk r ((i : List ℕ) → LeavesAt world' history' (length history') i → reads world' history' ≡ Some i)
  one_left (Ok done) noted = λ i h.
      let call : Call = (4 ∷ [], []) in
      let plain : LeavesAt world (call ∷ history) (length (call ∷ history)) i = subst (λ (x : List Call). LeavesAt world x (length x) i) noted (subst (λ (x : List Call). LeavesAt x history' (length history') i) same h) in
      let n : length (call ∷ history) - length (call ∷ history) ≡ 0 = omega arith in
      let leaves : Leaves world (call ∷ history) i = subst (λ (m : ℕ). Leaves world (drop m (call ∷ history)) i) n plain.leaves in
      elim leaves [
        | inl e ↦ read_as world world' history history' call same noted ∙ e
        | inr e ↦ absurd e
      ]
  one_left (Err failed) noted = tt

  pub left_dropped : (r : Result T E) → history' ≡ noted_sync r ∷ history → OnErr r (ForSome (reads world' history') (LeavesAt world history (length history)))
  left_dropped (Ok done) noted = tt
  left_dropped (Err failed) noted = λ c is.
      let e = came world world' history history' (5 ∷ [], []) same noted c is in
      subst (λ (x : List ℕ). LeavesAt world history (length history) x) (sym e.2) e.1

  pub sync_step : (r : Result T E) (d i : List ℕ) → StepOf (slice_index (noted_sync r).0 0) (slice_index (noted_sync r).0 1) (noted_sync r).1 d i → Stays d i
  sync_step (Ok done) d i s = s
  sync_step (Err failed) d i s = s
