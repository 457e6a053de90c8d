-- Each mirror stays, or is one of those that are gone.
use Rattle.std.proofs.Common.{◌≡◌, ℕ, ◌+◌, ◌*◌, ◌<◌, ◌≤◌, List, ◌++◌, [], ◌∷◌, length, take, drop, refl, sym, ap, subst, ◌∙◌, inl, inr, append_assoc, append-nil, arith, get_or, set, suc, add-one, Option}
use Rattle.std.proofs.Math.Seq.{drop-cons}
use Rattle.std.proofs.Math.ListN.{drop_of_length-le}
use Rattle.std.proofs.lemmas.List.{take_more_set, drop-set-lt, take-set, length-take-le, take_at, drop_at, take_all, get_or-set_same, length-append}
use Rattle.std.specs.List.{remove}
use Rattle.std.specs.Io.KnownBytes.{Appends}
use Rattle.road_io.specs.Causes.{Rose}
use Rattle.road_io.proofs.ToldLemmas.{Appends-++}
use Rattle.mirror_out.specs.Gone.{Parts, Holds, Falls}
use Rattle.mirror_out.specs.Mirrors.{Took}
use Rattle.mirror_out.proofs.Spreading.{Appends-none}

module _ {M : Type 0} (Stays Left : M → M → Type 0) where
  -- What is done, in a form that the rest completes.
  abbrev pub Going : List M → List M → List M → List M → Type 0
  Going old done gone rest = (kept more : List M) → Parts Stays Left rest kept more → Parts Stays Left old (done ++ kept) (gone ++ more)

  pub Going-kept : (old done gone : List M) (m n : M) (rest : List M) → Going old done gone (m ∷ rest) → Stays m n → Going old (done ++ n ∷ []) gone rest
  Going-kept old done gone m n rest h t kept more s =
      subst (λ k. Parts Stays Left old k (gone ++ more)) (sym (append_assoc done (n ∷ []) kept)) (h (n ∷ kept) more (inl (n, kept, refl, t, s)))

  pub Going-gone : (old done gone : List M) (m g : M) (rest : List M) → Going old done gone (m ∷ rest) → Left m g → Going old done (gone ++ g ∷ []) rest
  Going-gone old done gone m g rest h p kept more s =
      subst (λ k. Parts Stays Left old (done ++ kept) k) (sym (append_assoc gone (g ∷ []) more)) (h kept (g ∷ more) (inr (g, [], more, refl, p, s)))

  -- the mirror at an index stays
  pub Going-kept_at : (old items gone : List M) (at : ℕ) (m n : M) → at < length items → m ≡ get_or items at m
      → Going old (take at items) gone (drop at items) → Stays m n
      → Going old (take (at + 1) (set items at n)) gone (drop (at + 1) (set items at n))
  Going-kept_at old items gone at m n within is h t =
      let rest_is : drop at items ≡ m ∷ drop (at + 1) items = rw add-one (drop-cons items at m within ∙ ap (λ x. x ∷ drop (suc at) items) (sym is)) in
      let begun : Going old (take at items) gone (m ∷ drop (at + 1) items) = subst (λ r. Going old (take at items) gone r) rest_is h in
      let below : at < at + 1 = omega arith in
      subst (λ d. Going old d gone (drop (at + 1) (set items at n))) (sym (take_more_set items at n within))
      (subst (λ r. Going old (take at items ++ n ∷ []) gone r) (sym (drop-set-lt (at + 1) items at n below))
      (Going-kept old (take at items) gone m n (drop (at + 1) items) begun t))

  -- the mirror at an index is gone, and another list has it
  pub Going-gone_at : (old items gone : List M) (at : ℕ) (m n x : M) (left : List M) → at < length items → m ≡ get_or items at m
      → left ≡ remove (set items at n) at → x ≡ get_or (set items at n) at x
      → Going old (take at items) gone (drop at items) → Left m n
      → Going old (take at left) (gone ++ x ∷ []) (drop at left)
  Going-gone_at old items gone at m n x left within is left_is x_is h p =
      let same : x ≡ n = x_is ∙ get_or-set_same items at n x within in
      let rest_is : drop at items ≡ m ∷ drop (suc at) items = drop-cons items at m within ∙ ap (λ y. y ∷ drop (suc at) items) (sym is) in
      let begun : Going old (take at items) gone (m ∷ drop (suc at) items) = subst (λ r. Going old (take at items) gone r) rest_is h in
      let below : at < suc at = omega arith in
      let front : take at (set items at n) ≡ take at items = take-set items at n in
      let back : drop (suc at) (set items at n) ≡ drop (suc at) items = drop-set-lt (suc at) items at n below in
      let parts : left ≡ take at items ++ drop (suc at) items = left_is ∙ ap (λ f. f ++ drop (suc at) (set items at n)) front ∙ ap (λ b. take at items ++ b) back in
      let long : length (take at items) ≡ at = length-take-le at items (omega arith) in
      let done : take at left ≡ take at items = ap (take at) parts ∙ take_at (take at items) (drop (suc at) items) at long in
      let rest : drop at left ≡ drop (suc at) items = ap (drop at) parts ∙ drop_at (take at items) (drop (suc at) items) at long in
      subst (λ d. Going old d (gone ++ x ∷ []) (drop at left)) (sym done)
      (subst (λ r. Going old (take at items) (gone ++ x ∷ []) r) (sym rest)
      (subst (λ y. Going old (take at items) (gone ++ y ∷ []) (drop (suc at) items)) (sym same)
      (Going-gone old (take at items) gone m n (drop (suc at) items) begun p)))

  -- nothing is left
  pub Parts-all : (old items gone : List M) (at : ℕ) → length items ≤ at → Going old (take at items) gone (drop at items) → Parts Stays Left old items gone
  Parts-all old items gone at past h =
      let none : drop at items ≡ [] = drop_of_length-le items past in
      let all : take at items ≡ items = take_all at items past in
      subst (λ k. Parts Stays Left old k gone) (append-nil items)
      (subst (λ g. Parts Stays Left old (items ++ []) g) (append-nil gone)
      (subst (λ d. Parts Stays Left old (d ++ []) (gone ++ [])) all
      (h [] [] (subst (λ r. Parts Stays Left r [] []) (sym none) (refl, refl)))))

  -- every mirror stays
  pub Parts-still : ((m : M) → Stays m m) → (old : List M) → Parts Stays Left old old []
  Parts-still still [] = (refl, refl)
  Parts-still still (m ∷ old) = inl (m, old, refl, still m, Parts-still still old)

-- one part of the way and then another
module _ {M : Type 0} (Stays Left Stays' Left' Stays'' Left'' : M → M → Type 0) (both : (a b c : M) → Stays a b → Stays' b c → Stays'' a c) (late : (a b c : M) → Stays a b → Left' b c → Left'' a c) (early : (a b : M) → Left a b → Left'' a b) where
  pub Parts-append : (old mid kept gone more : List M) → Parts Stays Left old mid gone → Parts Stays' Left' mid kept more → Parts Stays'' Left'' old kept (gone ++ more)
  Parts-append [] mid kept gone more first second =
      let s : Parts Stays' Left' [] kept more = subst (λ (x : List M). Parts Stays' Left' x kept more) first.0 second in
      (s.0, ap (λ (g : List M). g ++ more) first.1 ∙ s.1)
  Parts-append (m ∷ old) mid kept gone more first second =
      elim first [
        | inl k ↦
            let second' : Parts Stays' Left' (k.0 ∷ k.1) kept more = subst (λ (x : List M). Parts Stays' Left' x kept more) k.2 second in
            elim second' [
              | inl l ↦ inl (l.0, l.1, l.2, both m k.0 l.0 k.3 l.3, Parts-append old k.1 l.1 gone more k.4 l.4)
              | inr f ↦ inr (
                f.0,
                gone ++ f.1,
                f.2,
                ap (λ (x : List M). gone ++ x) f.3 ∙ sym (append_assoc gone f.1 (f.0 ∷ f.2)),
                late m k.0 f.0 k.3 f.4,
                subst (λ (x : List M). Parts Stays'' Left'' old kept x) (sym (append_assoc gone f.1 f.2)) (Parts-append old k.1 kept gone (f.1 ++ f.2) k.4 f.5),
              )
            ]
        | inr f ↦ inr (
          f.0,
          f.1,
          f.2 ++ more,
          ap (λ (x : List M). x ++ more) f.3 ∙ append_assoc f.1 (f.0 ∷ f.2) more,
          early m f.0 f.4,
          subst (λ (x : List M). Parts Stays'' Left'' old kept x) (append_assoc f.1 f.2 more) (Parts-append old mid kept (f.1 ++ f.2) more f.5 second),
        )
      ]

module _ {M : Type 0} (octets : M → Option (List ℕ)) (label handed puts room faults : M → ℕ) where
  -- a mirror that failed at its first piece
  pub falls_now : (size : ℕ) (text : List ℕ) (m n : M) → octets n ≡ octets m → label n ≡ label m → handed n ≡ handed m + 1 → Rose (faults m) (faults n) → Falls octets label handed faults size text 1 m n
  falls_now size text m n left same called failed =
      let none : size * 0 ≡ 0 = omega arith in
      record {
        taken = 0;
        fewer = omega arith;
        holds = subst (λ (k : ℕ). Appends (octets m) (octets n) (take k text)) (sym none) (subst (λ (o : Option (List ℕ)). Appends (octets m) o []) (sym left) (Appends-none (octets m)));
        same = same;
        called = omega (arith, called);
        failed = failed;
      }

  -- a mirror that was handed nothing
  pub holds_none : (m : M) → Holds octets label handed puts room faults 0 [] m m
  holds_none m = record {
    took = record { holds = Appends-none (octets m); same = refl; called = omega arith; puts_left = omega arith; room_left = omega arith };
    faultless = refl;
  }

  -- a text and then another
  pub holds_more : (i j : ℕ) (a b : List ℕ) (m n o : M) → Holds octets label handed puts room faults i a m n → Holds octets label handed puts room faults j b n o → Holds octets label handed puts room faults (i + j) (a ++ b) m o
  holds_more i j a b m n o first second =
      let long : length (a ++ b) ≡ length a + length b = length-append a b in
      record {
        took = record {
          holds = Appends-++ (octets m) (octets n) (octets o) a b first.took.holds second.took.holds;
          same = second.took.same ∙ first.took.same;
          called = omega (arith, first.took.called, second.took.called);
          puts_left = omega (arith, first.took.puts_left, second.took.puts_left);
          room_left = omega (arith, first.took.room_left, second.took.room_left, long);
        };
        faultless = second.faultless ∙ first.faultless;
      }

  -- a mirror that took some pieces of a text, and failed at the next one
  pub falls_later : (size i : ℕ) (a text : List ℕ) (other : ℕ) (piece : List ℕ) (m n o : M) → a ≡ take (size * i) text → Holds octets label handed puts room faults i a m n → Falls octets label handed faults other piece 1 n o
      → Falls octets label handed faults size text (i + 1) m o
  falls_later size i a text other piece m n o a_is first second =
      let none : second.taken ≡ 0 = omega (arith, second.fewer) in
      let zero_octets : other * second.taken ≡ 0 = ap (λ (k : ℕ). other * k) none ∙ omega arith in
      let still : Appends (octets n) (octets o) [] = subst (λ (k : ℕ). Appends (octets n) (octets o) (take k piece)) zero_octets second.holds in
      record {
        taken = i;
        fewer = omega arith;
        holds = subst (λ (x : List ℕ). Appends (octets m) (octets o) x) (append-nil a ∙ a_is) (Appends-++ (octets m) (octets n) (octets o) a [] first.took.holds still);
        same = second.same ∙ first.took.same;
        called = omega (arith, second.called, first.took.called, none);
        failed = subst (λ (k : ℕ). Rose k (faults o)) first.faultless second.failed;
      }

  -- the same out of more pieces
  pub falls_before : (size i j : ℕ) (text : List ℕ) (m o : M) → i ≤ j → Falls octets label handed faults size text i m o → Falls octets label handed faults size text j m o
  falls_before size i j text m o few f = record { taken = f.taken; fewer = omega (arith, f.fewer, few); holds = f.holds; same = f.same; called = f.called; failed = f.failed }
