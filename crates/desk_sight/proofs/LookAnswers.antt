-- What a look refuses, given the octets that were read.
use Rattle.std.proofs.Common.{◌≡◌, ◌≢◌, ◌⊎◌, Option, Some, None, Result, Ok, Err, IfOk, ℕ, List, inl, inr, refl, sym, ap, subst}
use Rattle.desk_sight.specs.Areas.{IsShut, IsStrange}
use Rattle.desk_sight.specs.Sights.{IsSight, IsUntold}
use Rattle.desk_sight.specs.Looks.{AnswersRefusal, IsOther, IsRefused, IsUnlinked, IsUntoldTo}
use Rattle.desk_sight.specs.declared.sight.Sight.{Sight}
use Rattle.desk_sight.specs.declared.looking.Seen.{Seen}
use Rattle.desk_sight.specs.declared.strange.Strange.{Strange}
use Rattle.desk_sight.specs.declared.strange.Strange.TheVariants.{Shut}
use Rattle.desk_sight.specs.declared.looking.Use.{Use}
use Rattle.desk_sight.specs.declared.looking.Use.TheVariants.{Key, Publish, Succeed, Links}
use Rattle.desk_sight.specs.declared.looking.Unfit.{Unfit}
use Rattle.desk_sight.specs.declared.looking.Unfit.TheVariants as unfit
use Rattle.desk_sight.proofs.Exclusive.{seen_right, untold_right}
use Rattle.desk_sight.proofs.Unlinked.{unlinked_right, unlinked_told}

module _ (public : Option (List ℕ)) (image : List ℕ) (e : Strange) where
  pub refused_key : (what : Use) → what ≡ Key → (e ≡ Shut) × IsShut image → IsRefused what public image e
  refused_key what key both = subst (λ (w : Use). IsRefused w public image e) (sym key) both

  pub refused_strange : (what : Use) → what ≢ Key → (IsOther what public image → ⊥) × IsStrange image e → IsRefused what public image e
  refused_strange Key ne both = absurd (ne refl)
  refused_strange Publish ne both = both
  refused_strange Succeed ne both = (both.0, inl both.1)
  refused_strange Links ne both = both

  pub refused_unlinked : (what : Use) → what ≡ Succeed → (IsOther what public image → ⊥) → IsUnlinked image e → IsRefused what public image e
  refused_unlinked Key is own it = cc
  refused_unlinked Publish is own it = cc
  refused_unlinked Succeed is own it = (own, inr it)
  refused_unlinked Links is own it = cc

  pub why_refused : (what : Use) → what ≢ Key → IsRefused what public image e → (IsOther what public image → ⊥) × (IsStrange image e ⊎ ((what ≡ Succeed) × IsUnlinked image e))
  why_refused Key ne it = absurd (ne refl)
  why_refused Publish ne it = (it.0, inl it.1)
  why_refused Succeed ne it = (it.0, elim it.1 [ inl strange ↦ inl strange | inr unlinked ↦ inr (refl, unlinked) ])
  why_refused Links ne it = (it.0, inl it.1)

  pub key_refused : (what : Use) → what ≡ Key → IsRefused what public image e → (e ≡ Shut) × IsShut image
  key_refused what key it = subst (λ (w : Use). IsRefused w public image e) key it

pub untold_key : (what : Use) (public : Option (List ℕ)) (image : List ℕ) → what ≡ Key → (IsShut image → ⊥) → IsUntoldTo what public image
untold_key what public image key not = subst (λ (w : Use). IsUntoldTo w public image) (sym key) not

pub untold_by : (what : Use) (public : Option (List ℕ)) (image : List ℕ) → what ≢ Key → (IsOther what public image → ⊥) → IsUntold image → IsUntoldTo what public image
untold_by Key public image ne own it = absurd (ne refl)
untold_by Publish public image ne own it = (own, it)
untold_by Succeed public image ne own it = (own, it)
untold_by Links public image ne own it = (own, it)

-- an image about which nothing is reported is not refused
pub untold_unrefused : (what : Use) (public : Option (List ℕ)) (image : List ℕ) (e : Strange) → what ≢ Key → IsUntold image → IsRefused what public image e → ⊥
untold_unrefused what public image e ne untold it = elim (why_refused public image e what ne it).1 [
  | inl strange ↦ untold_right image untold e strange
  | inr both ↦ unlinked_told image e both.1 untold
]

-- ---- answers

pub same_error : {X Y : Type 0} (u o : Unfit) → ◌≡◌ {A = Result X Unfit} (Err u) (Err o) → ◌≡◌ {A = Result Y Unfit} (Err u) (Err o)
same_error u o is = let same : u ≡ o = cc in ap (λ (x : Unfit). Err x) same

pub no_answer : {X : Type 0} (why : Unfit) (x : X) → AnswersRefusal {X = X} why (Ok x) → ⊥
no_answer why x (inl is) = cc
no_answer why x (inr (inl is)) = cc
no_answer why x (inr (inr is)) = cc

pub retyped : {X Y : Type 0} (why u : Unfit) → AnswersRefusal {X = X} why (Err u) → AnswersRefusal {X = Y} why (Err u)
retyped why u (inl is) = inl (cc)
retyped why u (inr (inl is)) = inr (inl (cc))
retyped why u (inr (inr is)) = inr (inr (cc))

module _ (what : Use) (public : Option (List ℕ)) (image : List ℕ) (e : Strange) where
  -- before `key`
  pub key_else : {X : Type 0} (r : Result X Unfit) → what ≡ Key → ((u : Unfit) → r ≡ Err u → (u ≡ unfit.Strange Shut) × IsShut image) → IfOk r (λ found. IsShut image → ⊥) → IsRefused what public image e → AnswersRefusal (unfit.Strange e) r
  key_else (Ok found) key shut none it = let both = key_refused public image e what key it in absurd (none both.1)
  key_else (Err u) key shut none it =
      let both = key_refused public image e what key it in
      let is : u ≡ unfit.Strange Shut = (shut u refl).0 in
      let same : e ≡ Shut = both.0 in
      inl (cc)

  -- if there is no sight
  pub sightless : (u : Unfit) → what ≢ Key → u ≢ unfit.BadBlock → u ≢ unfit.Disk → (u ≡ unfit.OtherKey → IsOther what public image) → ((o : Strange) → u ≡ unfit.Strange o → IsStrange image o)
      → ((IsOther what public image → ⊥) → IsStrange image e → AnswersRefusal {X = Option Sight} (unfit.Strange e) (Err u)) → IsRefused what public image e → AnswersRefusal {X = Option Seen} (unfit.Strange e) (Err u)
  sightless u ne no_block no_disk other strange answers it =
      let why = why_refused public image e what ne it in
      elim why.1 [
        | inl is ↦ retyped (unfit.Strange e) u (answers why.0 is)
        | inr both ↦ unlinked u no_block no_disk other strange why.0 both.1
      ]
    where
      unlinked : (u : Unfit) → u ≢ unfit.BadBlock → u ≢ unfit.Disk → (u ≡ unfit.OtherKey → IsOther what public image) → ((o : Strange) → u ≡ unfit.Strange o → IsStrange image o) → (IsOther what public image → ⊥) → IsUnlinked image e → AnswersRefusal {X = Option Seen} (unfit.Strange e) (Err u)
      unlinked unfit.Disk no_block no_disk other strange own it = absurd (no_disk refl)
      unlinked (unfit.Memory none) no_block no_disk other strange own it = inr (inr refl)
      unlinked unfit.BadBlock no_block no_disk other strange own it = absurd (no_block refl)
      unlinked (unfit.Strange o) no_block no_disk other strange own it = absurd (unlinked_right image e o it (strange o refl))
      unlinked unfit.OtherKey no_block no_disk other strange own it = absurd (own (other refl))

  -- if there is a sight
  pub sighted : {X : Type 0} (sight : Sight) (r : Result X Unfit) → what ≢ Key → IsSight image sight → (what ≡ Succeed → IsUnlinked image e → AnswersRefusal (unfit.Strange e) r) → IsRefused what public image e → AnswersRefusal (unfit.Strange e) r
  sighted sight r ne seen answers it = elim (why_refused public image e what ne it).1 [
    | inl strange ↦ absurd (seen_right image sight seen e strange)
    | inr both ↦ answers both.0 both.1
  ]
