-- A look, and the octets read after it.
use Rattle.std.proofs.Common.{◌≡◌, ◌≢◌, ◌⊎◌, ℕ, suc, List, Option, Some, None, MatchOption, IfSome, IsSomeAnd, Bool, true, false, Result, Ok, Err, IfOk, OnOk, inl, inr, refl, sym, ◌∙◌, ap, subst}
use Rattle.road_io.specs.declared.disk.Disk.{Ghosts}
use Rattle.std.specs.Option.{ForSome}
use Rattle.road_io.specs.Disk.{Narrows, Stays}
use Rattle.road_io.specs.Moments.{AtEachMoment, EachImage, Image, still_told}
use Rattle.road_io.proofs.MomentLaws.{at_end, continued}
use Rattle.road_io.proofs.StillTold.{both_told, tells_after, was_told}
use Rattle.desk_sight.specs.Areas.{IsFollowed, IsWaitingLink}
use Rattle.desk_sight.specs.Sights.{IsSight}
use Rattle.desk_sight.proofs.RestedSteps.{no_link}
use Rattle.desk_sight.specs.Looks.{AnswersRefusal, IsFitFor, IsMade, IsOther, IsRefused, IsUntoldTo, MaySpend, NothingWaits, Spends}
use Rattle.desk_sight.specs.declared.looking.Use.{Use}
use Rattle.desk_sight.specs.declared.looking.Use.TheVariants.{Key, Publish, Succeed, Links}
use Rattle.desk_sight.specs.declared.sight.Sight.{Sight}
use Rattle.desk_sight.specs.declared.looking.Unfit.{Unfit}
use Rattle.desk_sight.specs.declared.looking.Unfit.TheVariants as unfit
use Rattle.desk_sight.specs.declared.looking.Seen.{Seen}
use Rattle.desk_sight.specs.declared.looking.Spending.{Spending}
use Rattle.desk_sight.specs.declared.looking.Spending.TheVariants.{Nothing, Header, Link}
use Rattle.desk_sight.specs.Images.{seen_of}
use Rattle.desk_sight.proofs.LookAnswers.{no_answer}
use Rattle.desk_sight.proofs.LookSteps.{spends_of}
use Rattle.desk_sight.specs.declared.strange.Strange.{Strange}
use Rattle.desk_fit.specs.Fits.{BeginsQuiet, BeginsStable, IsFit, IsFitForMap, IsSpentSo, IsStable, IsTold, IsUnrefused, IsWhy, LeavesAsItWas}

module _ {D : Type 0} (g : Ghosts D) where
  pub read_behind : (what : Use) (old mid new : D) → Spends g what old mid → AtEachMoment g mid new Stays → Spends g what old new
  read_behind what old mid new s stays = spends_of g what old new (continued g old mid new (MaySpend what) Stays (MaySpend what) s.moments stays
      (λ d i now it. it)
      (λ d e i now_d now_e it is. subst (λ (x : List ℕ). MaySpend what d x) (sym is) it))

  pub still_behind : (old mid new : D) → AtEachMoment g old mid Stays → AtEachMoment g mid new Stays → AtEachMoment g old new Stays
  still_behind old mid new before after = continued g old mid new Stays Stays Stays before after (λ d i now is. is) (λ d e i now_d now_e is it. it ∙ is)

  -- a fact about each image holds for each image after a reading
  images_behind : (mid new : D) (P : List ℕ → Type 0) → AtEachMoment g mid new Stays → EachImage g mid P → EachImage g new P
  images_behind mid new P stays each i now = let e = at_end g mid new Stays stays i now in subst P (sym e.2) (each e.0 e.1)

  pub spent_behind : (spending : Spending) (old mid new : D) → AtEachMoment g mid new Stays → IsSpentSo g spending old mid → IsSpentSo g spending old new
  spent_behind Nothing old mid new stays spent = tt
  spent_behind (Header slot version) old mid new stays spent = images_behind mid new _ stays spent
  spent_behind (Link key) old mid new stays spent = images_behind mid new _ stays spent

  pub told_behind : (mid new : D) (P : List ℕ → Type 0) → Narrows (g.content mid) (g.content new) → ForSome (g.content mid) P → ForSome (g.content new) P
  told_behind mid new P narrows each x told = each x (narrows x told)

  -- the content still stated after a reading was stated before it
  pub told_earlier : (old mid new : D) (P : List ℕ → Type 0) → Narrows (g.content mid) (g.content new) → ForSome (still_told g old mid) P → ForSome (still_told g old new) P
  told_earlier old mid new P narrows each x told =
      let y = tells_after (g.content old) (g.content new) x told in
      each x (both_told (g.content old) (g.content mid) x y.0 (narrows y.0 y.1) (was_told (g.content old) (g.content new) x told))

  -- if there is one image, which a read gives, this stays so while octets are only read
  pub stable_behind : (mid new : D) → ((i : List ℕ) → Image g new i → (c : List ℕ) × (g.content new ≡ Some c)) → IsStable g mid → AtEachMoment g mid new Stays → Narrows (g.content mid) (g.content new) → IsStable g new
  stable_behind mid new tells one stays narrows i now =
      let e = at_end g mid new Stays stays i now in
      let c = tells i now in
      let same : ◌≡◌ {A = Option (List ℕ)} (Some c.0) (Some i) = sym (narrows c.0 c.1) ∙ one e.0 e.1 ∙ ap Some (sym e.2) in
      c.1 ∙ same

-- ---- what a look answered

module _ {D : Type 0} (g : Ghosts D) (what : Use) (first : Option (List ℕ)) (old mid : D) (r : Result (Option Seen) Unfit) where
  pub spent_of : (seen : Option Seen) (spending : Spending) → r ≡ Ok seen → MatchOption seen (spending ≡ Nothing) (λ s. spending ≡ s.spending)
      → ((s : Seen) (key : ℕ) → r ≡ Ok (Some s) → s.spending ≡ Link key → IsSpentSo g (Link key) old mid)
      → ((s : Seen) (slot version : ℕ) → r ≡ Ok (Some s) → s.spending ≡ Header slot version → IsSpentSo g (Header slot version) old mid)
      → IsSpentSo g spending old mid
  spent_of None spending is it opened spent = subst (λ (p : Spending). IsSpentSo g p old mid) (sym it) tt
  spent_of (Some s) Nothing is it opened spent = tt
  spent_of (Some s) (Header slot version) is it opened spent = spent s slot version is (sym it)
  spent_of (Some s) (Link key) is it opened spent = opened s key is (sym it)

  pub quiet_of : (seen : Option Seen) (spending : Spending) → r ≡ Ok seen → MatchOption seen (spending ≡ Nothing) (λ s. spending ≡ s.spending)
      → (r ≡ Ok None → ForSome (g.content mid) (λ c. IsUntoldTo what first (seen_of c)))
      → ((s : Seen) → r ≡ Ok (Some s) → s.spending ≡ Nothing → ForSome (g.content mid) (λ c. IsFitFor what first (seen_of c) s.sight))
      → ForSome (g.content mid) (λ c. BeginsQuiet (Some what) first spending (seen_of c))
  quiet_of None spending is it untold unspent x told = subst (λ (p : Spending). BeginsQuiet (Some what) first p (seen_of x)) (sym it) (inl (untold is x told))
  quiet_of (Some s) Nothing is it untold unspent x told = inr (s.sight, unspent s is (sym it) x told)
  quiet_of (Some s) (Header slot version) is it untold unspent x told = tt
  quiet_of (Some s) (Link key) is it untold unspent x told = tt

  pub unrefused_of : (seen : Option Seen) → r ≡ Ok seen
      → ((e : Strange) → ForSome (still_told g old mid) (λ c. IsRefused what first (seen_of c) e → AnswersRefusal (unfit.Strange e) r))
      → (what ≢ Key → ForSome (still_told g old mid) (λ c. IsOther what first (seen_of c) → AnswersRefusal unfit.OtherKey r))
      → ForSome (still_told g old mid) (λ c. IsUnrefused what first (seen_of c))
  unrefused_of seen is strange other x told = record {
    plain = λ e it. no_answer (unfit.Strange e) seen (subst (λ (q : Result (Option Seen) Unfit). AnswersRefusal (unfit.Strange e) q) is (strange e x told it));
    own = λ key it. no_answer unfit.OtherKey seen (subst (λ (q : Result (Option Seen) Unfit). AnswersRefusal unfit.OtherKey q) is (other key x told it));
  }

pub if_ok : {T E : Type 0} (r : Result T E) (P : Type 0) → P → IfOk r (λ t. P)
if_ok (Ok t) P it = it
if_ok (Err e) P it = tt

pub left_by : (why : Unfit) (Stayed : Type 0) → (why ≢ unfit.Disk → Stayed) → LeavesAsItWas why Stayed
left_by unfit.Disk Stayed h = tt
left_by (unfit.Memory none) Stayed h = tt
left_by unfit.BadBlock Stayed h = tt
left_by (unfit.Strange strange) Stayed h = h (λ is. cc)
left_by unfit.OtherKey Stayed h = h (λ is. cc)

-- for a desk that is neither strange nor has another key, there is nothing left to report
pub left_else : (why : Unfit) (Stayed : Type 0) → ((s : _) → why ≢ unfit.Strange s) → why ≢ unfit.OtherKey → LeavesAsItWas why Stayed
left_else unfit.Disk Stayed s o = tt
left_else (unfit.Memory none) Stayed s o = tt
left_else unfit.BadBlock Stayed s o = tt
left_else (unfit.Strange strange) Stayed s o = absurd (s strange refl)
left_else unfit.OtherKey Stayed s o = absurd (o refl)

pub why_by : (what : Use) (first : Option (List ℕ)) (why : Unfit) (image : List ℕ) → ((e : Strange) → why ≡ unfit.Strange e → IsRefused what first image e) → (why ≡ unfit.OtherKey → IsOther what first image)
    → IsWhy (Some what) first why image
why_by what first unfit.Disk image strange other = tt
why_by what first (unfit.Memory none) image strange other = tt
why_by what first unfit.BadBlock image strange other = tt
why_by what first (unfit.Strange e) image strange other = strange e refl
why_by what first unfit.OtherKey image strange other = other refl

pub why_else : (what : Use) (first : Option (List ℕ)) (why : Unfit) (image : List ℕ) → ((e : Strange) → why ≢ unfit.Strange e) → why ≢ unfit.OtherKey → IsWhy (Some what) first why image
why_else what first why image strange other = why_by what first why image (λ e is. absurd (strange e is)) (λ is. absurd (other is))

-- the sight that the look found has nothing that waits, so no sight of the same image has
pub waits_over : (first : Option (List ℕ)) (image : List ℕ) (before now : Sight) → IsFitFor Succeed first image before → IsSight image now → NothingWaits Succeed image now
waits_over first image before now fit found = go now.link found.here.link
  where
    key_is : now.key ≡ suc found.area
    key_is = found.here.key

    not_followed : (is : Bool) → ((is ≡ true) → IsFollowed image found.area) → (IsFollowed image found.area → ⊥) → is ≡ false
    not_followed true told not = absurd (not (told refl))
    not_followed false told not = refl

    go : (link : Option (List ℕ)) → MatchOption link ((k : List ℕ) → IsWaitingLink image found.area k → ⊥) (IsWaitingLink image found.area) → IfSome link (λ l. (IsMade image now.key l → ⊥) × (now.is_followed ≡ false))
    go None told = tt
    go (Some link) told =
        let no = no_link first image before fit found.area found.current link told in (
          λ made. no.0 (subst (λ (n : ℕ). IsMade image n link) key_is made),
          not_followed now.is_followed found.here.followed.0 no.1,
        )

pub none_waits : (first : Option (List ℕ)) (image : List ℕ) (seen : Option Seen) (sight : Option Sight) → IfSome sight (λ s. (s.link ≡ None) ⊎ IsSomeAnd seen (λ it. it.spending ≡ Nothing))
    → ((it : Seen) → seen ≡ Some it → it.spending ≡ Nothing → IsFitFor Succeed first image it.sight) → IsTold image sight → IfSome sight (NothingWaits Succeed image)
none_waits first image seen None rested unspent told = tt
none_waits first image seen (Some s) (inl none) unspent told = subst (λ (l : Option (List ℕ)). IfSome l (λ k. (IsMade image s.key k → ⊥) × (s.is_followed ≡ false))) (sym none) tt
none_waits first image None (Some s) (inr spent) unspent told = absurd spent
none_waits first image (Some it) (Some s) (inr spent) unspent told = waits_over first image it.sight s (unspent it refl spent) told

pub fit_else : (what : Use) (first : Option (List ℕ)) (image : List ℕ) (sight : Option Sight) → what ≢ Key → what ≢ Publish → IsTold image sight → (what ≡ Succeed → IfSome sight (NothingWaits Succeed image)) → IsFit (Some what) first image sight None
fit_else Key first image sight key publish told next = absurd (key refl)
fit_else Publish first image sight key publish told next = absurd (publish refl)
fit_else Succeed first image sight key publish told next = record { told = told; unlinked = next refl; unsigned = refl }
fit_else Links first image sight key publish told next = (told, refl)

pub fit_map : (what : Use) (first : Option (List ℕ)) (image : List ℕ) (sight : Option Sight) (signer : Option (List ℕ)) → what ≡ Publish → IsFitForMap first image sight signer → IsFit (Some what) first image sight signer
fit_map what first image sight signer is fit = subst (λ (w : Use). IsFit (Some w) first image sight signer) (sym is) fit

pub fit_key : (what : Use) (first : Option (List ℕ)) (image : List ℕ) → what ≡ Key → IsFit (Some what) first image None None
fit_key what first image is = subst (λ (w : Use). IsFit (Some w) first image None None) (sym is) (refl, refl)

-- what is known of a value, where a fact comes with it
pub if_ok_by : {T E : Type 0} (r : Result T E) (N P : Type 0) → OnOk r N → (N → P) → IfOk r (λ t. P)
if_ok_by (Ok t) N P is it = it is
if_ok_by (Err e) N P is it = tt

pub begins_stable : {T E : Type 0} {D : Type 0} (g : Ghosts D) (r : Result T E) (what : Use) (new : D) → OnOk r (IsStable g new) → IfOk r (λ t. BeginsStable g (Some what) new)
begins_stable g (Ok t) Key new is = tt
begins_stable g (Ok t) Publish new is = is
begins_stable g (Ok t) Succeed new is = is
begins_stable g (Ok t) Links new is = is
begins_stable g (Err e) what new is = tt

pub key_stable : {D : Type 0} (g : Ghosts D) (what : Use) (new : D) → what ≡ Key → BeginsStable g (Some what) new
key_stable g what new is = subst (λ (w : Use). BeginsStable g (Some w) new) (sym is) tt
