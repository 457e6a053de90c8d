-- The octets that a crash leaves, offset by offset.
use Rattle.std.proofs.Common.{◌≡◌, ◌⊎◌, ℕ, zero, suc, ◌+◌, ◌<◌, ◌≤◌, List, length, get_or, take, drop, replicate, arith, inl, inr, refl, sym, ◌∙◌, subst}
use Rattle.std.proofs.lemmas.Bool.{cases_lt}
use Rattle.std.proofs.lemmas.List.{places, length-replicate}
use Rattle.mem_io.specs.declared.disk.Entry.{Entry}
use Rattle.mem_io.specs.declared.disk.Entry.TheVariants.{Sync, Write}
use Rattle.mem_io.specs.declared.disk.Piece.{Piece}
use Rattle.road_io.specs.Disk.{written}
use Rattle.mem_io.specs.Journal.{after, content_at, entry_end, entry_at, by_entry, last_sync, filled, filled_at, Covers, Covered}
use Rattle.mem_io.proofs.JournalSteps.{last_le, length-filled}

-- an octet that a write puts, and one that a write leaves
written_here : (at n fill : ℕ) (before : List ℕ) (x : ℕ) → at ≤ length before → at ≤ x → x < at + n → get_or (written at (replicate n fill) before) x 0 ≡ fill
written_here at n fill before x fits low high = grind (arith, places)

written_there : (at : ℕ) (octets before : List ℕ) (x : ℕ) → at ≤ length before → (x < at) ⊎ (at + length octets ≤ x) → get_or (written at octets before) x 0 ≡ get_or before x 0
written_there at octets before x fits (inl low) = grind (arith, places)
written_there at octets before x fits (inr high) = grind (arith, places)

-- an entry that covers an offset fills it
covered_here : (fill : ℕ) (e : Entry) (content before : List ℕ) (x : ℕ) → entry_at e ≤ length before → Covers e x → get_or (filled fill e content before) x 0 ≡ fill
covered_here fill Sync content before x fits here = absurd here
covered_here fill (Write p) content before x fits here = written_here p.at p.len fill before x fits here.0 here.1

-- a filled octet stays filled
covered_before : (fill : ℕ) (e : Entry) (content before : List ℕ) (k last j x : ℕ) → by_entry e (suc k) last ≤ j → j < k → entry_at e ≤ length before → get_or before x 0 ≡ fill → get_or (filled fill e content before) x 0 ≡ fill
covered_before fill Sync content before k last j x from lt fits is = absurd (omega arith)
covered_before fill (Write p) content before k last j x from lt fits is = elim (cases_lt x p.at) [
  | inl low ↦ written_there p.at (replicate p.len fill) before x fits (inl low) ∙ is
  | inr high ↦ elim (cases_lt x (p.at + p.len)) [
    | inl within ↦ written_here p.at p.len fill before x fits high within
    | inr past ↦ written_there p.at (replicate p.len fill) before x fits (inr (omega (arith, past, length-replicate p.len fill))) ∙ is
  ]
]

-- an offset that an entry doesn't cover keeps its octet
apart_here : (fill : ℕ) (e : Entry) (octets content before : List ℕ) (x : ℕ) → entry_at e ≤ length before → entry_end e ≤ length octets → length before ≡ length content
    → (Covers e x → ⊥) → ((p : Piece) → e ≡ Write p → get_or before x 0 ≡ get_or content x 0) → get_or (filled fill e (after e octets content) before) x 0 ≡ get_or (after e octets content) x 0
apart_here fill Sync octets content before x fits end same apart was = refl
apart_here fill (Write p) octets content before x fits end same apart was =
    let size : length (take p.len (drop p.from octets)) ≡ p.len = grind (arith, places) in
    let out : (x < p.at) ⊎ (p.at + p.len ≤ x) = elim (cases_lt x p.at) [
      | inl low ↦ inl low
      | inr high ↦ elim (cases_lt x (p.at + p.len)) [ inl within ↦ absurd (apart (high, within)) | inr past ↦ inr past ]
    ] in
    written_there p.at (replicate p.len fill) before x fits (subst (λ (n : ℕ). (x < p.at) ⊎ (p.at + n ≤ x)) (sym (length-replicate p.len fill)) out)
    ∙ was p refl
    ∙ sym (written_there p.at (take p.len (drop p.from octets)) content x (omega (arith, same, fits)) (subst (λ (n : ℕ). (x < p.at) ⊎ (p.at + n ≤ x)) (sym size) out))

-- if the last entry is a sync, it is the last sync
by_entry_earlier : (e : Entry) (k last j : ℕ) → by_entry e (suc k) last ≤ j → j < k → last ≤ j
by_entry_earlier Sync k last j from lt = absurd (omega arith)
by_entry_earlier (Write p) k last j from lt = from

-- an entry that covers an offset is not a sync
by_entry_covers : (e : Entry) (x k last : ℕ) → last ≤ k → Covers e x → by_entry e (suc k) last ≤ k
by_entry_covers Sync x k last le covers = absurd covers
by_entry_covers (Write p) x k last le covers = le

module _ (base : List ℕ) (entries : List Entry) (octets : List ℕ) (fill : ℕ)
    (kept : (k : ℕ) → k < length entries → entry_end (get_or entries k Sync) ≤ length octets)
    (placed : (k : ℕ) → k < length entries → entry_at (get_or entries k Sync) ≤ length (content_at base entries octets k)) where
  fits_at : (k : ℕ) → k < length entries → entry_at (get_or entries k Sync) ≤ length (filled_at fill base entries octets k)
  fits_at k lt = omega (arith, placed k lt, length-filled base entries octets fill kept placed k (omega arith))

  pub filled_covered : (k : ℕ) → k ≤ length entries → (x : ℕ) → Covered entries k x → get_or (filled_at fill base entries octets k) x 0 ≡ fill
  filled_covered zero le x h = absurd (omega (arith, h.before))
  filled_covered (suc k) le x h = elim (cases_lt h.entry k) [
    | inl older ↦
        covered_before fill (get_or entries k Sync) (content_at base entries octets (suc k)) (filled_at fill base entries octets k) k (last_sync entries k) h.entry x h.behind older (fits_at k (omega arith))
        (filled_covered k (omega arith) x (record { entry = h.entry; behind = by_entry_earlier (get_or entries k Sync) k (last_sync entries k) h.entry h.behind older; before = older; covers = h.covers }))
    | inr newest ↦
        let is : h.entry ≡ k = omega (arith, h.before) in
        covered_here fill (get_or entries k Sync) (content_at base entries octets (suc k)) (filled_at fill base entries octets k) x (fits_at k (omega arith))
        (subst (λ (j : ℕ). Covers (get_or entries j Sync) x) is h.covers)
  ]

  pub filled_apart : (k : ℕ) → k ≤ length entries → (x : ℕ) → (Covered entries k x → ⊥) → get_or (filled_at fill base entries octets k) x 0 ≡ get_or (content_at base entries octets k) x 0
  filled_apart zero le x apart = refl
  filled_apart (suc k) le x apart =
      apart_here fill (get_or entries k Sync) octets (content_at base entries octets k) (filled_at fill base entries octets k) x (fits_at k (omega arith)) (kept k (omega arith))
      (length-filled base entries octets fill kept placed k (omega arith))
      (λ here. apart (record { entry = k; behind = by_entry_covers (get_or entries k Sync) x k (last_sync entries k) (last_le entries k) here; before = omega arith; covers = here }))
      (λ p is. filled_apart k (omega arith) x (λ h. apart (record {
        entry = h.entry;
        behind = subst (λ (e : Entry). by_entry e (suc k) (last_sync entries k) ≤ h.entry) (sym is) h.behind;
        before = omega (arith, h.before);
        covers = h.covers;
      })))
