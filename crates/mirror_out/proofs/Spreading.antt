-- A spread continues with one more mirror.
use Rattle.std.proofs.Common.{◌≡◌, ℕ, ◌+◌, ◌≤◌, ◌<◌, List, ◌++◌, [], ◌∷◌, length, take, drop, refl, sym, ap, subst, ◌∙◌, inl, inr, append_assoc, append-nil, arith, get_or, set, suc, add-one, Option, Some, None}
use Rattle.std.proofs.Math.Seq.{drop-cons}
use Rattle.std.proofs.Math.ListN.{drop_of_length-le}
use Rattle.std.proofs.lemmas.List.{take_more_set, drop-set-lt, take-set, length-take-le, take_at, drop_at, take_all, length-append}
use Rattle.std.specs.List.{remove}
use Rattle.std.specs.Io.KnownBytes.{Appends}
use Rattle.road_io.proofs.ToldLemmas.{Appends-++}
use Rattle.mirror_out.specs.Mirrors.{Spreads, Mirrors, Took, PromisedLess}

-- ---- what mirrors tell

pub Appends-none : (o : Option (List ℕ)) → Appends o o []
Appends-none None = tt
Appends-none (Some xs) = sym (append-nil xs)

module _ {M : Type 0} (octets : M → Option (List ℕ)) (label handed puts room : M → ℕ) where
  -- What is done, in a form that the rest completes: done mirrors are kept, gone labels are gone, and whatever the
  -- rest of the mirrors is spread to completes the whole.
  abbrev pub Begun : ℕ → List ℕ → List M → List M → List ℕ → List M → Type 0
  Begun count piece old done gone rest = (kept : List M) (more : List ℕ) → Spreads octets label handed puts room count piece rest kept more → Spreads octets label handed puts room count piece old (done ++ kept) (gone ++ more)

  pub Begun-kept : (count : ℕ) (piece : List ℕ) (old done : List M) (gone : List ℕ) (m n : M) (rest : List M) → Begun count piece old done gone (m ∷ rest) → Took octets label handed puts room count piece m n → Begun count piece old (done ++ n ∷ []) gone rest
  Begun-kept count piece old done gone m n rest h t kept more s =
      subst (λ k. Spreads octets label handed puts room count piece old k (gone ++ more)) (sym (append_assoc done (n ∷ []) kept)) (h (n ∷ kept) more (inl (n, kept, refl, t, s)))

  pub Begun-gone : (count : ℕ) (piece : List ℕ) (old done : List M) (gone : List ℕ) (m : M) (rest : List M) → Begun count piece old done gone (m ∷ rest) → PromisedLess count piece (puts m) (room m) → Begun count piece old done (gone ++ label m ∷ []) rest
  Begun-gone count piece old done gone m rest h p kept more s =
      subst (λ k. Spreads octets label handed puts room count piece old (done ++ kept) k) (sym (append_assoc gone (label m ∷ []) more)) (h kept (label m ∷ more) (inr (more, refl, p, s)))

  -- the mirror at an index took the piece
  pub Begun-kept_at : (count : ℕ) (piece : List ℕ) (old items : List M) (gone : List ℕ) (at : ℕ) (m n : M) → at < length items → m ≡ get_or items at m
      → Begun count piece old (take at items) gone (drop at items) → Took octets label handed puts room count piece m n
      → Begun count piece old (take (at + 1) (set items at n)) gone (drop (at + 1) (set items at n))
  Begun-kept_at count piece old items gone at m n within is h t =
      let rest_is : drop at items ≡ m ∷ drop (at + 1) items = rw add-one (drop-cons items at m within ∙ ap (λ x. x ∷ drop (suc at) items) (sym is)) in
      let begun : Begun count piece old (take at items) gone (m ∷ drop (at + 1) items) = subst (λ r. Begun count piece old (take at items) gone r) rest_is h in
      let below : at < at + 1 = omega arith in
      subst (λ d. Begun count piece old d gone (drop (at + 1) (set items at n))) (sym (take_more_set items at n within))
      (subst (λ r. Begun count piece old (take at items ++ n ∷ []) gone r) (sym (drop-set-lt (at + 1) items at n below))
      (Begun-kept count piece old (take at items) gone m n (drop (at + 1) items) begun t))

  -- the mirror at an index is gone
  pub Begun-gone_at : (count : ℕ) (piece : List ℕ) (old items : List M) (gone : List ℕ) (at : ℕ) (m n : M) (l : ℕ) (left : List M) → at < length items → m ≡ get_or items at m
      → left ≡ remove (set items at n) at → l ≡ label m
      → Begun count piece old (take at items) gone (drop at items) → PromisedLess count piece (puts m) (room m)
      → Begun count piece old (take at left) (gone ++ l ∷ []) (drop at left)
  Begun-gone_at count piece old items gone at m n l left within is left_is named h p =
      let rest_is : drop at items ≡ m ∷ drop (suc at) items = drop-cons items at m within ∙ ap (λ x. x ∷ drop (suc at) items) (sym is) in
      let begun : Begun count piece old (take at items) gone (m ∷ drop (suc at) items) = subst (λ r. Begun count piece old (take at items) gone r) rest_is h in
      let below : at < suc at = omega arith in
      let front : take at (set items at n) ≡ take at items = take-set items at n in
      let back : drop (suc at) (set items at n) ≡ drop (suc at) items = drop-set-lt (suc at) items at n below in
      let parts : left ≡ take at items ++ drop (suc at) items = left_is ∙ ap (λ f. f ++ drop (suc at) (set items at n)) front ∙ ap (λ b. take at items ++ b) back in
      let long : length (take at items) ≡ at = length-take-le at items (omega arith) in
      let done : take at left ≡ take at items = ap (take at) parts ∙ take_at (take at items) (drop (suc at) items) at long in
      let rest : drop at left ≡ drop (suc at) items = ap (drop at) parts ∙ drop_at (take at items) (drop (suc at) items) at long in
      subst (λ d. Begun count piece old d (gone ++ l ∷ []) (drop at left)) (sym done)
      (subst (λ r. Begun count piece old (take at items) (gone ++ l ∷ []) r) (sym rest)
      (subst (λ x. Begun count piece old (take at items) (gone ++ x ∷ []) (drop (suc at) items)) (sym named)
      (Begun-gone count piece old (take at items) gone m (drop (suc at) items) begun p)))

  -- nothing is left
  pub Spreads-all : (count : ℕ) (piece : List ℕ) (old items : List M) (gone : List ℕ) (at : ℕ) → length items ≤ at
      → Begun count piece old (take at items) gone (drop at items) → Spreads octets label handed puts room count piece old items gone
  Spreads-all count piece old items gone at past h =
      let none : drop at items ≡ [] = drop_of_length-le items past in
      let all : take at items ≡ items = take_all at items past in
      subst (λ k. Spreads octets label handed puts room count piece old k gone) (append-nil items)
      (subst (λ g. Spreads octets label handed puts room count piece old (items ++ []) g) (append-nil gone)
      (subst (λ d. Spreads octets label handed puts room count piece old (d ++ []) (gone ++ [])) all
      (h [] [] (subst (λ r. Spreads octets label handed puts room count piece r [] []) (sym none) (refl, refl)))))

  -- the mirrors and the labels are as many as the mirrors before
  pub Spreads-count : (count : ℕ) (piece : List ℕ) (old kept : List M) (gone : List ℕ) → Spreads octets label handed puts room count piece old kept gone → length gone + length kept ≡ length old
  Spreads-count count piece [] kept gone s = omega (arith, ap length s.0, ap length s.1)
  Spreads-count count piece (m ∷ old) kept gone s =
      elim s [
        | inl k ↦ omega (arith, ap length k.2, Spreads-count count piece old k.1 gone k.4)
        | inr g ↦ omega (arith, ap length g.1, Spreads-count count piece old kept g.0 g.3)
      ]

  -- without the labels
  pub Mirrors-spread : (count : ℕ) (piece : List ℕ) (old kept : List M) (gone : List ℕ) → Spreads octets label handed puts room count piece old kept gone → Mirrors octets label handed puts room count piece old kept
  Mirrors-spread count piece [] kept gone s = s.0
  Mirrors-spread count piece (m ∷ old) kept gone s =
      elim s [
        | inl k ↦ inl (k.0, k.1, k.2, k.3, Mirrors-spread count piece old k.1 gone k.4)
        | inr g ↦ inr (g.2, Mirrors-spread count piece old kept g.0 g.3)
      ]

  -- nothing, in no put
  pub Mirrors-none : (old : List M) → Mirrors octets label handed puts room 0 [] old old
  Mirrors-none [] = refl
  Mirrors-none (m ∷ old) = inl (m, old, refl, record { holds = Appends-none (octets m); same = refl; called = omega arith; puts_left = omega arith; room_left = omega arith }, Mirrors-none old)

  less-more : (i j : ℕ) (a b : List ℕ) (p r : ℕ) → i ≤ j → length a ≤ length b → PromisedLess i a p r → PromisedLess j b p r
  less-more i j a b p r l m less = elim less [ inl x ↦ inl (omega (arith, x, l)) | inr x ↦ inr (omega (arith, x, m)) ]

  -- a text and then another
  pub Mirrors-append : (i j : ℕ) (a b : List ℕ) (old mid kept : List M) → Mirrors octets label handed puts room i a old mid → Mirrors octets label handed puts room j b mid kept → Mirrors octets label handed puts room (i + j) (a ++ b) old kept
  Mirrors-append i j a b [] mid kept first second =
      subst (λ (x : List M). Mirrors octets label handed puts room j b x kept) first second
  Mirrors-append i j a b (m ∷ old) mid kept first second =
      let long : length (a ++ b) ≡ length a + length b = length-append a b in
      elim first [
        | inl k ↦
            let second' : Mirrors octets label handed puts room j b (k.0 ∷ k.1) kept = subst (λ (x : List M). Mirrors octets label handed puts room j b x kept) k.2 second in
            elim second' [
              | inl l ↦ inl (
                l.0,
                l.1,
                l.2,
                record {
                  holds = Appends-++ (octets m) (octets k.0) (octets l.0) a b k.3.holds l.3.holds;
                  same = l.3.same ∙ k.3.same;
                  called = omega (arith, k.3.called, l.3.called);
                  puts_left = omega (arith, k.3.puts_left, l.3.puts_left);
                  room_left = omega (arith, k.3.room_left, l.3.room_left, long);
                },
                Mirrors-append i j a b old k.1 l.1 k.4 l.4,
              )
              | inr g ↦ inr (
                elim g.0 [
                  | inl x ↦ inl (omega (arith, x, k.3.puts_left))
                  | inr x ↦ inr (omega (arith, x, k.3.room_left, long))
                ],
                Mirrors-append i j a b old k.1 kept k.4 g.1,
              )
            ]
        | inr g ↦ inr (less-more i (i + j) a (a ++ b) (puts m) (room m) (omega arith) (omega (arith, long)) g.0, Mirrors-append i j a b old mid kept g.1 second)
      ]
