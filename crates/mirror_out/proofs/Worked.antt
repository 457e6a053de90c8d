-- The definitions of mirrors evaluated at one or two of them, so that a changed definition is noticed.
use Rattle.std.proofs.Common.{◌≡◌, ℕ, ◌+◌, ◌≤◌, List, [], ◌∷◌, length, arith, inl, inr, subst}
use Rattle.std.specs.declared.option.Option.{Option}
use Rattle.std.specs.Io.KnownBytes.{Appends}
use Rattle.mirror_out.specs.Mirrors.{PromisedLess, Took, Spreads, Mirrors}

-- as many puts and octets as are promised are enough
enough : (count : ℕ) (text : List ℕ) → PromisedLess count text count (length text) → ⊥
enough count text h = elim h [ inl few ↦ omega (arith, few) | inr short ↦ omega (arith, short) ]

one_put_short : (count : ℕ) (text : List ℕ) (room : ℕ) → PromisedLess (count + 1) text count room
one_put_short count text room = inl (omega arith)

module _ {M : Type 0} (octets : M → Option (List ℕ)) (label handed puts room : M → ℕ) (count : ℕ) (text : List ℕ) where
  -- a mirror that took the text has it after what it held, under its label, and promises that much less
  holds_it : (old new : M) → Took octets label handed puts room count text old new → Appends (octets old) (octets new) text
  holds_it old new h = h.holds

  same_label : (old new : M) → Took octets label handed puts room count text old new → label new ≡ label old
  same_label old new h = h.same

  handed_each_piece : (old new : M) → Took octets label handed puts room count text old new → handed new ≡ handed old + count
  handed_each_piece old new h = h.called

  puts_left : (old new : M) → Took octets label handed puts room count text old new → puts old ≤ puts new + count
  puts_left old new h = h.puts_left

  room_left : (old new : M) → Took octets label handed puts room count text old new → room old ≤ room new + length text
  room_left old new h = h.room_left

  -- no mirror comes from nowhere, and none goes without its label
  none_of_none : (kept : List M) (gone : List ℕ) → Spreads octets label handed puts room count text [] kept gone → kept ≡ []
  none_of_none kept gone h = h.0

  none_gone_of_none : (kept : List M) (gone : List ℕ) → Spreads octets label handed puts room count text [] kept gone → gone ≡ []
  none_gone_of_none kept gone h = h.1

  gone_by_its_label : (m : M) (gone : List ℕ) → Spreads octets label handed puts room count text (m ∷ []) [] gone → gone ≡ label m ∷ []
  gone_by_its_label m gone (inl (n, rest, kept, took, more)) = cc
  gone_by_its_label m gone (inr (rest, is, less, more)) = subst (λ (r : List ℕ). gone ≡ label m ∷ r) more.1 is

  -- a mirror that is gone had promised less
  gone_had_promised_less : (m : M) → Mirrors octets label handed puts room count text (m ∷ []) [] → PromisedLess count text (puts m) (room m)
  gone_had_promised_less m (inl (n, rest, kept, took, more)) = cc
  gone_had_promised_less m (inr (less, more)) = less

  -- and one that promised enough stays and took the text
  stays : (m : M) (kept : List M) → count ≤ puts m → length text ≤ room m → Mirrors octets label handed puts room count text (m ∷ []) kept → (n : M) × (kept ≡ n ∷ []) × Took octets label handed puts room count text m n
  stays m kept few short (inl (n, rest, is, took, more)) = (n, subst (λ (r : List M). kept ≡ n ∷ r) more is, took)
  stays m kept few short (inr (less, more)) = absurd (elim less [ inl l ↦ omega (arith, l, few) | inr l ↦ omega (arith, l, short) ])

  no_more_than_before : (kept : List M) → Mirrors octets label handed puts room count text [] kept → kept ≡ []
  no_more_than_before kept h = h
