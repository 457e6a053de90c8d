-- What one more entry adds to a journal: one moment. The earlier moments stay unchanged.
use Rattle.std.proofs.Common.{◌≡◌, ℕ, zero, suc, ◌+◌, ◌<◌, ◌≤◌, List, [], ◌∷◌, ◌++◌, length, get_or, take, drop, arith, inl, inr, refl, sym, ◌∙◌, ap, subst, length-append, length-drop, replicate}
use Rattle.std.proofs.lemmas.Bool.{cases_lt}
use Rattle.std.proofs.lemmas.List.{places, get_or_append_left, get_or_push, take-append-le, drop-append-le, length_push, length-replicate}
use Rattle.mem_io.specs.declared.disk.Entry.{Entry}
use Rattle.mem_io.specs.declared.disk.Entry.TheVariants.{Sync, Write}
use Rattle.mem_io.specs.declared.disk.Piece.{Piece}
use Rattle.road_io.specs.Disk.{written, Torn, Stays}
use Rattle.mem_io.specs.Journal.{after, content_at, LeftAfter, LeftAt, entry_end, entry_at, by_entry, last_sync, filled, filled_at}
use Rattle.mem_io.specs.JournalLaws.{content_left}

pub torn_written : (at : ℕ) (octets content : List ℕ) → at ≤ length content → Torn at (length octets) content (written at octets content)
torn_written at octets content le = record {
  no_shorter = grind (arith, places);
  no_longer = grind (arith, places);
  outside = λ k lt out. grind (arith, places);
}

pub torn_same : (at n : ℕ) (d : List ℕ) → Torn at n d d
torn_same at n d = record { no_shorter = omega arith; no_longer = omega arith; outside = λ k lt out. refl }

left_after_map : (entry : Entry) (content : List ℕ) (B C : List ℕ → Type 0) (i : List ℕ) → ((d : List ℕ) → B d → C d) → LeftAfter entry content B i → LeftAfter entry content C i
left_after_map Sync content B C i sub h = h
left_after_map (Write p) content B C i sub (inl h) = inl h
left_after_map (Write p) content B C i sub (inr h) = inr (h.0, sub h.0 h.1, h.2)

module _ (base : List ℕ) (entries entries' : List Entry) (octets octets' more : List ℕ) (e : Entry)
    (pushed : entries' ≡ entries ++ e ∷ []) (longer : octets' ≡ octets ++ more)
    (kept : (k : ℕ) → k < length entries → entry_end (get_or entries k Sync) ≤ length octets) where
  entry_same : (k : ℕ) → k < length entries → get_or entries' k Sync ≡ get_or entries k Sync
  entry_same k lt = rw pushed (get_or_append_left entries (e ∷ []) Sync k lt)

  entry_new : get_or entries' (length entries) Sync ≡ e
  entry_new = rw pushed (get_or_push entries e Sync (length entries) refl)

  after_same : (entry : Entry) (content : List ℕ) → entry_end entry ≤ length octets → after entry octets' content ≡ after entry octets content
  after_same Sync content le = refl
  after_same (Write p) content le =
      let part : take p.len (drop p.from octets') ≡ take p.len (drop p.from octets) =
      ap (λ (l : List ℕ). take p.len (drop p.from l)) longer
      ∙ ap (λ (l : List ℕ). take p.len l) (drop-append-le p.from octets more (omega arith))
      ∙ take-append-le p.len (drop p.from octets) more (omega (arith, le, length-drop p.from octets)) in
      ap (λ (l : List ℕ). written p.at l content) part

  pub content_same : (k : ℕ) → k ≤ length entries → content_at base entries' octets' k ≡ content_at base entries octets k
  content_same zero le = refl
  content_same (suc k) le =
      ap (λ (x : Entry). after x octets' (content_at base entries' octets' k)) (entry_same k (omega arith))
      ∙ ap (λ (x : List ℕ). after (get_or entries k Sync) octets' x) (content_same k (omega arith))
      ∙ after_same (get_or entries k Sync) (content_at base entries octets k) (kept k (omega arith))

  pub content_new : content_at base entries' octets' (suc (length entries)) ≡ after e octets' (content_at base entries octets (length entries))
  content_new =
      ap (λ (x : Entry). after x octets' (content_at base entries' octets' (length entries))) entry_new
      ∙ ap (λ (x : List ℕ). after e octets' x) (content_same (length entries) (omega arith))

  pub left_same : (k : ℕ) (i : List ℕ) → k ≤ length entries → LeftAt base entries' octets' k i → LeftAt base entries octets k i
  left_same zero i le h = h
  left_same (suc k) i le h =
      left_after_map (get_or entries k Sync) _ (LeftAt base entries' octets' k) (LeftAt base entries octets k) i (λ d. left_same k d (omega arith))
      (subst (λ (x : List ℕ). LeftAfter (get_or entries k Sync) x (LeftAt base entries' octets' k) i) (content_same (suc k) le)
      (subst (λ (x : Entry). LeftAfter x (content_at base entries' octets' (suc k)) (LeftAt base entries' octets' k) i) (entry_same k (omega arith)) h))

  pub left_new : (i : List ℕ) → LeftAt base entries' octets' (suc (length entries)) i → LeftAfter e (after e octets' (content_at base entries octets (length entries))) (LeftAt base entries octets (length entries)) i
  left_new i h =
      left_after_map e _ (LeftAt base entries' octets' (length entries)) (LeftAt base entries octets (length entries)) i (λ d. left_same (length entries) d (omega arith))
      (subst (λ (x : List ℕ). LeftAfter e x (LeftAt base entries' octets' (length entries)) i) content_new
      (subst (λ (x : Entry). LeftAfter x (content_at base entries' octets' (suc (length entries))) (LeftAt base entries' octets' (length entries)) i) entry_new h))

  pub each_new : (Step : List ℕ → List ℕ → Type 0) → ((d : List ℕ) → Step d d)
      → ((i : List ℕ) → LeftAfter e (after e octets' (content_at base entries octets (length entries))) (LeftAt base entries octets (length entries)) i
      → (d : List ℕ) × LeftAt base entries octets (length entries) d × Step d i)
      → (k : ℕ) (i : List ℕ) → length entries ≤ k → k ≤ length entries' → LeftAt base entries' octets' k i → (d : List ℕ) × LeftAt base entries octets (length entries) d × Step d i
  each_new Step same step k i from to h = elim (cases_lt (length entries) k) [
    | inl later ↦
        let is : k ≡ suc (length entries) = omega (arith, ap length pushed, length_push entries e) in
        step i (left_new i (subst (λ (x : ℕ). LeftAt base entries' octets' x i) is h))
    | inr now ↦
        let is : k ≡ length entries = omega arith in
        (i, left_same (length entries) i (omega arith) (subst (λ (x : ℕ). LeftAt base entries' octets' x i) is h), same i)
  ]

  pub kept_new : entry_end e ≤ length octets' → (k : ℕ) → k < length entries' → entry_end (get_or entries' k Sync) ≤ length octets'
  kept_new le k lt = elim (cases_lt k (length entries)) [
    | inl below ↦ let was = kept k below in let same = ap entry_end (entry_same k below) in omega (arith, was, same, ap length longer, length-append octets more)
    | inr above ↦
        let is : k ≡ length entries = omega (arith, ap length pushed, length_push entries e) in
        let here : entry_end (get_or entries' k Sync) ≡ entry_end e = ap (λ (x : ℕ). entry_end (get_or entries' x Sync)) is ∙ ap entry_end entry_new in
        omega (arith, here, le)
  ]

  pub placed_new : ((k : ℕ) → k < length entries → entry_at (get_or entries k Sync) ≤ length (content_at base entries octets k))
      → entry_at e ≤ length (content_at base entries octets (length entries))
      → (k : ℕ) → k < length entries' → entry_at (get_or entries' k Sync) ≤ length (content_at base entries' octets' k)
  placed_new placed le k lt = elim (cases_lt k (length entries)) [
    | inl below ↦ let was = placed k below in let same = ap entry_at (entry_same k below) in omega (arith, was, same, ap length (content_same k (omega arith)))
    | inr above ↦
        let is : k ≡ length entries = omega (arith, ap length pushed, length_push entries e) in
        let here : entry_at (get_or entries' k Sync) ≡ entry_at e = ap (λ (x : ℕ). entry_at (get_or entries' x Sync)) is ∙ ap entry_at entry_new in
        let there : length (content_at base entries' octets' k) ≡ length (content_at base entries octets (length entries)) =
        ap (λ (x : ℕ). length (content_at base entries' octets' x)) is ∙ ap length (content_same (length entries) (omega arith)) in
        omega (arith, here, there, le)
  ]

  pub last_same : (k : ℕ) → k ≤ length entries → last_sync entries' k ≡ last_sync entries k
  last_same zero le = refl
  last_same (suc k) le =
      ap (λ (x : Entry). by_entry x (suc k) (last_sync entries' k)) (entry_same k (omega arith))
      ∙ ap (λ (x : ℕ). by_entry (get_or entries k Sync) (suc k) x) (last_same k (omega arith))

  pub last_new : last_sync entries' (suc (length entries)) ≡ by_entry e (suc (length entries)) (last_sync entries (length entries))
  last_new =
      ap (λ (x : Entry). by_entry x (suc (length entries)) (last_sync entries' (length entries))) entry_new
      ∙ ap (λ (x : ℕ). by_entry e (suc (length entries)) x) (last_same (length entries) (omega arith))

by_entry_le : (e : Entry) (k m : ℕ) → m ≤ k → by_entry e (suc k) m ≤ suc k
by_entry_le Sync k m le = omega arith
by_entry_le (Write p) k m le = omega arith

pub last_le : (entries : List Entry) (k : ℕ) → last_sync entries k ≤ k
last_le entries zero = omega arith
last_le entries (suc k) = by_entry_le (get_or entries k Sync) k (last_sync entries k) (last_le entries k)

-- after a sync there is one image
pub sync_left : (base : List ℕ) (entries : List Entry) (octets octets' : List ℕ) (i : List ℕ)
    → LeftAfter Sync (after Sync octets' (content_at base entries octets (length entries))) (LeftAt base entries octets (length entries)) i
    → (d : List ℕ) × LeftAt base entries octets (length entries) d × Stays d i
sync_left base entries octets octets' i h = (content_at base entries octets (length entries), content_left base entries octets (length entries), h)

-- a crash may cut a write short
pub write_left : (base : List ℕ) (entries : List Entry) (octets octets' bytes : List ℕ) (p : Piece) (i : List ℕ)
    → take p.len (drop p.from octets') ≡ bytes → p.len ≡ length bytes → p.at ≤ length (content_at base entries octets (length entries))
    → LeftAfter (Write p) (after (Write p) octets' (content_at base entries octets (length entries))) (LeftAt base entries octets (length entries)) i
    → (d : List ℕ) × LeftAt base entries octets (length entries) d × Torn p.at (length bytes) d i
write_left base entries octets octets' bytes p i part len le (inl is) =
    let content = content_at base entries octets (length entries) in (
      content,
      content_left base entries octets (length entries),
      subst (λ (x : List ℕ). Torn p.at (length bytes) content x) (sym (is ∙ ap (λ (l : List ℕ). written p.at l content) part)) (torn_written p.at bytes content le),
    )
write_left base entries octets octets' bytes p i part len le (inr h) = (h.0, h.1, subst (λ (n : ℕ). Torn p.at n h.0 i) len h.2)

-- without a new entry there is no new moment
pub stays_put : (base : List ℕ) (entries : List Entry) (octets : List ℕ) (Step : List ℕ → List ℕ → Type 0) → ((d : List ℕ) → Step d d)
    → (k : ℕ) (i : List ℕ) → length entries ≤ k → k ≤ length entries → LeftAt base entries octets k i → (d : List ℕ) × LeftAt base entries octets (length entries) d × Step d i
stays_put base entries octets Step same k i from to h =
    let is : k ≡ length entries = omega arith in
    (i, subst (λ (x : ℕ). LeftAt base entries octets x i) is h, same i)

length_after : (e : Entry) (octets content : List ℕ) → entry_at e ≤ length content → length content ≤ length (after e octets content)
length_after Sync octets content le = omega arith
length_after (Write p) octets content le = let t = torn_written p.at (take p.len (drop p.from octets)) content le in t.no_shorter

module _ (base : List ℕ) (entries : List Entry) (octets : List ℕ) where
  by_entry_left : (e : Entry) (k m : ℕ) → LeftAt base entries octets k (content_at base entries octets m)
      → LeftAfter e (content_at base entries octets (suc k)) (LeftAt base entries octets k) (content_at base entries octets (by_entry e (suc k) m))
  by_entry_left Sync k m h = refl
  by_entry_left (Write p) k m h = inr (content_at base entries octets m, h, torn_same p.at p.len (content_at base entries octets m))

  -- a crash may leave the content of the last sync
  pub synced_left : (k : ℕ) → LeftAt base entries octets k (content_at base entries octets (last_sync entries k))
  synced_left zero = refl
  synced_left (suc k) = by_entry_left (get_or entries k Sync) k (last_sync entries k) (synced_left k)

  filled_after : (fill : ℕ) (e : Entry) (content before : List ℕ) (Before : List ℕ → Type 0) → entry_at e ≤ length before → Before before → LeftAfter e content Before (filled fill e content before)
  filled_after fill Sync content before Before le h = refl
  filled_after fill (Write p) content before Before le h =
      inr (before, h, subst (λ (n : ℕ). Torn p.at n before (written p.at (replicate p.len fill) before)) (length-replicate p.len fill) (torn_written p.at (replicate p.len fill) before le))

  filled_long : (fill : ℕ) (e : Entry) (content before : List ℕ) → entry_end e ≤ length octets → length before ≡ length content → length (filled fill e (after e octets content) before) ≡ length (after e octets content)
  filled_long fill Sync content before le same = refl
  filled_long fill (Write p) content before le same = grind (arith, places)

  module _ (fill : ℕ) (kept : (k : ℕ) → k < length entries → entry_end (get_or entries k Sync) ≤ length octets)
      (placed : (k : ℕ) → k < length entries → entry_at (get_or entries k Sync) ≤ length (content_at base entries octets k)) where
    pub length-filled : (k : ℕ) → k ≤ length entries → length (filled_at fill base entries octets k) ≡ length (content_at base entries octets k)
    length-filled zero le = refl
    length-filled (suc k) le = filled_long fill (get_or entries k Sync) (content_at base entries octets k) (filled_at fill base entries octets k) (kept k (omega arith)) (length-filled k (omega arith))

    -- a crash may leave the filled content
    pub filled_left : (k : ℕ) → k ≤ length entries → LeftAt base entries octets k (filled_at fill base entries octets k)
    filled_left zero le = refl
    filled_left (suc k) le = filled_after fill (get_or entries k Sync) (content_at base entries octets (suc k)) (filled_at fill base entries octets k) (LeftAt base entries octets k)
        (omega (arith, placed k (omega arith), length-filled k (omega arith))) (filled_left k (omega arith))

    -- the content never gets shorter
    pub content_grows : (j k : ℕ) → j ≤ k → k ≤ length entries → length (content_at base entries octets j) ≤ length (content_at base entries octets k)
    content_grows j zero from le = let is : j ≡ 0 = omega arith in rw is (omega arith)
    content_grows j (suc k) from le = elim (cases_lt k j) [
      | inl here ↦ let is : j ≡ suc k = omega arith in rw is (omega arith)
      | inr below ↦ omega (arith, content_grows j k below (omega arith), length_after (get_or entries k Sync) octets (content_at base entries octets k) (placed k (omega arith)))
    ]

    -- just after a sync, nothing is filled
    synced_filled : (e : Entry) (k m : ℕ) → filled_at fill base entries octets m ≡ content_at base entries octets m → filled_at fill base entries octets (suc k) ≡ filled fill e (content_at base entries octets (suc k)) (filled_at fill base entries octets k)
        → filled_at fill base entries octets (by_entry e (suc k) m) ≡ content_at base entries octets (by_entry e (suc k) m)
    synced_filled Sync k m h is = is
    synced_filled (Write p) k m h is = h

    pub last_filled : (k : ℕ) → filled_at fill base entries octets (last_sync entries k) ≡ content_at base entries octets (last_sync entries k)
    last_filled zero = refl
    last_filled (suc k) = synced_filled (get_or entries k Sync) k (last_sync entries k) (last_filled k) refl

    is_write_after : (e : Entry) (k m : ℕ) → by_entry e (suc k) m ≤ k → e ≡ Sync → ⊥
    is_write_after Sync k m le is = omega arith
    is_write_after (Write p) k m le is = cc

    -- after the last sync there is no other sync
    pub no_sync : (n k : ℕ) → last_sync entries n ≤ k → k < n → get_or entries k Sync ≡ Sync → ⊥
    no_sync zero k from to is = omega arith
    no_sync (suc n) k from to is = elim (cases_lt k n) [
      | inl below ↦ no_sync n k (omega (arith, earlier (get_or entries n Sync) n (last_sync entries n) (omega arith))) below is
      | inr here ↦ let same : k ≡ n = omega arith in is_write_after (get_or entries n Sync) n (last_sync entries n) (omega (arith, from, same)) (subst (λ (x : ℕ). get_or entries x Sync ≡ Sync) same is)
    ]
      where
        earlier : (e : Entry) (j m : ℕ) → by_entry e (suc j) m ≤ j → m ≤ by_entry e (suc j) m
        earlier Sync j m le = omega arith
        earlier (Write p) j m le = omega arith

-- a write reaches as far as the content after it
pub end_within : (e : Entry) (p : Piece) (octets content : List ℕ) → e ≡ Write p → entry_at e ≤ length content → entry_end e ≤ length octets → p.at + p.len ≤ length (after e octets content)
end_within Sync p octets content is le end = absurd (cc (is))
end_within (Write r) p octets content is le end =
    let same : r ≡ p = cc in
    let here : r.at + r.len ≤ length (written r.at (take r.len (drop r.from octets)) content) = grind (arith, places) in
    subst (λ (x : Piece). x.at + x.len ≤ length (written r.at (take r.len (drop r.from octets)) content)) same here
