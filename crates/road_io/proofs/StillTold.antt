-- The content stated before a call, if the disk still states its content afterwards.
use Rattle.std.proofs.Common.{◌≡◌, List, ℕ, Some, None, Option, sym, ap, ◌∙◌, refl, subst}
use Rattle.std.specs.Option.{ForSome, option_and}
use Rattle.road_io.specs.declared.disk.Disk.{Ghosts}
use Rattle.road_io.specs.Disk.{Narrows, Stays}
use Rattle.road_io.specs.Moments.{Image, EachImage, AtEachMoment, still_told}
use Rattle.road_io.proofs.MomentLaws.{at_end}

-- the disk states its content after the call
pub tells_after : (old new : Option (List ℕ)) (x : List ℕ) → option_and new old ≡ Some x → (y : List ℕ) × (new ≡ Some y)
tells_after old None x is = absurd cc
tells_after old (Some y) x is = (y, refl)

-- and the disk stated this content before
pub was_told : (old new : Option (List ℕ)) (x : List ℕ) → option_and new old ≡ Some x → old ≡ Some x
was_told old None x is = absurd cc
was_told old (Some y) x is = is

-- both facts together give the content
pub both_told : (old new : Option (List ℕ)) (x y : List ℕ) → new ≡ Some y → old ≡ Some x → option_and new old ≡ Some x
both_told old None x y after before = absurd cc
both_told old (Some z) x y after before = before

-- if the stated content only stays or disappears, it is the content stated afterwards
pub narrowed : (old new : Option (List ℕ)) → Narrows old new → (x : List ℕ) → option_and new old ≡ Some x → new ≡ Some x
narrowed old None narrows x is = absurd cc
narrowed old (Some y) narrows x is = sym (narrows y refl) ∙ is

-- the same in the other direction
pub narrowed_back : (old new : Option (List ℕ)) → Narrows old new → (x : List ℕ) → new ≡ Some x → option_and new old ≡ Some x
narrowed_back old None narrows x is = is
narrowed_back old (Some y) narrows x is = narrows x is

-- what holds of the content stated afterwards holds of the content that is still stated
pub still_so : (old new : Option (List ℕ)) (P : List ℕ → Type 0) → Narrows old new → ForSome new P → ForSome (option_and new old) P
still_so old new P narrows each x is = each x (narrowed old new narrows x is)

same_some : (x y : List ℕ) → ◌≡◌ {A = Option (List ℕ)} (Some x) (Some y) → x ≡ y
same_some x y is = cc

module _ {D : Type 0} (g : Ghosts D) where
  -- a disk that states its content after a call stated it before
  pub told_before : (old new : D) (S : List ℕ → List ℕ → Type 0) → ((c : List ℕ) → g.content new ≡ Some c → Image g new c) → ((i : List ℕ) → Image g old i → (c : List ℕ) × (g.content old ≡ Some c))
      → AtEachMoment g old new S → (c : List ℕ) → g.content new ≡ Some c → (b : List ℕ) × (g.content old ≡ Some b)
  told_before old new S reads tells m c is = let e = at_end g old new S m c (reads c is) in tells e.0 e.1

  -- the content still stated after two calls is also stated between them, if the first call only read
  pub told_between : (old mid new : D) (S : List ℕ → List ℕ → Type 0) → ((c : List ℕ) → g.content new ≡ Some c → Image g new c) → ((i : List ℕ) → Image g mid i → (c : List ℕ) × (g.content mid ≡ Some c))
      → Narrows (g.content old) (g.content mid) → AtEachMoment g mid new S → (x : List ℕ) → still_told g old new ≡ Some x → g.content mid ≡ Some x
  told_between old mid new S reads tells narrows m x is =
      let y = tells_after (g.content old) (g.content new) x is in
      let b = told_before mid new S reads tells m y.0 y.1 in
      b.1 ∙ sym (narrows b.0 b.1) ∙ was_told (g.content old) (g.content new) x is

  -- the same holds if the second call left the disk unchanged
  pub told_same : (old mid new : D) → Narrows (g.content old) (g.content mid) → new ≡ mid → (x : List ℕ) → still_told g old new ≡ Some x → g.content mid ≡ Some x
  told_same old mid new narrows same x is =
      narrowed (g.content old) (g.content mid) narrows x (subst (λ (d : D). still_told g old d ≡ Some x) same is)

  -- the still stated content is an image after a call that changed no image, if it was an image before
  pub seen_still : (old mid new : D) → ((c : List ℕ) → g.content new ≡ Some c → Image g new c) → AtEachMoment g mid new Stays → EachImage g mid (λ i. g.content old ≡ Some i) → (x : List ℕ) → still_told g old new ≡ Some x → Image g new x
  seen_still old mid new reads stays one x is =
      let y = tells_after (g.content old) (g.content new) x is in
      let now = reads y.0 y.1 in
      let e = at_end g mid new Stays stays y.0 now in
      let was : g.content old ≡ Some y.0 = one e.0 e.1 ∙ ap (λ (c : List ℕ). Some c) (sym e.2) in
      subst (Image g new) (same_some y.0 x (sym was ∙ was_told (g.content old) (g.content new) x is)) now
