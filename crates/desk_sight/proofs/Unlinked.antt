-- A link that waits in the last slot of the current area, and the next area.
use Rattle.std.proofs.Common.{◌≡◌, ℕ, suc, List, arith, drop, Option, Some, None, MatchOption, Bool, true, false, refl, sym, ◌∙◌, ap, subst}
use Rattle.lms_tree.specs.Links.{link_text}
use Rattle.desk_areas.proofs.Growth.{one_current}
use Rattle.desk_sight.specs.Areas.{IsStrange, IsWaitingLink, IsFollowed}
use Rattle.desk_sight.specs.Sights.{IsSight, IsUntold}
use Rattle.desk_sight.specs.Looks.{IsMade, IsUnlinked, IsUnlinkedFrom}
use Rattle.desk_sight.specs.declared.sight.Sight.{Sight}
use Rattle.desk_sight.specs.declared.strange.Strange.{Strange}
use Rattle.desk_sight.specs.declared.strange.Strange.TheVariants.{Gap, Text, Block, Tail, Link, Shut}
use Rattle.desk_sight.proofs.SightSteps.{sight_plain}
use Rattle.desk_sight.proofs.Exclusive.{plain_all, told_all}

pub one_link : (a b : List ℕ) → link_text a ≡ link_text b → a ≡ b
one_link a b is = ap (λ (t : List ℕ). drop 4 t) is

pub from_unlinked : (image : List ℕ) (e : Strange) → IsUnlinked image e → (areas : ℕ) × (e ≡ Link areas) × IsUnlinkedFrom image areas
from_unlinked image (Link areas) u = (areas, refl, u)
from_unlinked image (Gap key slot) u = absurd u
from_unlinked image (Text key slot) u = absurd u
from_unlinked image (Tail key slot) u = absurd u
from_unlinked image (Block key) u = absurd u
from_unlinked image Shut u = absurd u

-- such an image is not strange by itself
pub unlinked_right : (image : List ℕ) (e o : Strange) → IsUnlinked image e → IsStrange image o → ⊥
unlinked_right image e o unlinked = let u = from_unlinked image e unlinked in plain_all image u.2.area u.2.current u.2.reached u.2.plain o

pub unlinked_told : (image : List ℕ) (e : Strange) → IsUnlinked image e → IsUntold image → ⊥
unlinked_told image e unlinked = let u = from_unlinked image e unlinked in told_all image u.2.area u.2.current (λ has. let gate = has.gate in let shut = u.2.waits.free in omega (arith, gate, shut)) u.2.reached u.2.plain

module _ (image : List ℕ) (sight : Sight) (it : IsSight image sight) where
  module _ (e : Strange) (unlinked : IsUnlinked image e) where
    abbrev areas : ℕ
    areas = (from_unlinked image e unlinked).0

    abbrev u : IsUnlinkedFrom image areas
    u = (from_unlinked image e unlinked).2

    here : u.area ≡ it.area
    here = one_current image u.area it.area u.current it.current

    key_is : areas ≡ sight.key
    key_is = u.is ∙ ap (λ (a : ℕ). suc a) here ∙ sym it.here.key

    waits : IsWaitingLink image it.area u.link
    waits = subst (λ (a : ℕ). IsWaitingLink image a u.link) here u.waits

    -- the refusal names the current key
    pub unlinked_key : e ≡ Link sight.key
    unlinked_key = (from_unlinked image e unlinked).1 ∙ ap (λ (k : ℕ). Link k) key_is

    -- a link waits
    pub unlinked_some : sight.link ≡ None → ⊥
    unlinked_some none = go (subst (λ (o : Option (List ℕ)). MatchOption o ((key : List ℕ) → IsWaitingLink image it.area key → ⊥) (IsWaitingLink image it.area)) none it.here.link)
      where
        go : ((key : List ℕ) → IsWaitingLink image it.area key → ⊥) → ⊥
        go not = not u.link waits

    -- the waiting link does not lead to the next key
    pub unlinked_other : (link : List ℕ) → sight.link ≡ Some link → IsMade image sight.key link → ⊥
    unlinked_other link some made =
        let told : IsWaitingLink image it.area link = subst (λ (o : Option (List ℕ)). MatchOption o ((key : List ℕ) → IsWaitingLink image it.area key → ⊥) (IsWaitingLink image it.area)) some it.here.link in
        let same : link ≡ u.link = one_link link u.link (sym told.names.is ∙ waits.names.is) in
        u.other (subst (λ (l : List ℕ). IsMade image areas l) same (subst (λ (n : ℕ). IsMade image n link) (sym key_is) made))

    -- the next key has signed
    pub unlinked_followed : sight.is_followed ≡ false → ⊥
    unlinked_followed not = let is : sight.is_followed ≡ true = it.here.followed.1 (subst (λ (a : ℕ). IsFollowed image a) here u.followed) in cc

  -- a link waits that does not lead to the next key, although that key has signed
  pub unlinked_by : (link : List ℕ) → sight.link ≡ Some link → (IsMade image sight.key link → ⊥) → sight.is_followed ≡ true → IsUnlinked image (Link sight.key)
  unlinked_by link some other followed = record {
    area = it.area;
    is = it.here.key;
    current = it.current;
    reached = it.reached;
    plain = sight_plain image it.area sight it.here;
    link = link;
    waits = subst (λ (o : Option (List ℕ)). MatchOption o ((key : List ℕ) → IsWaitingLink image it.area key → ⊥) (IsWaitingLink image it.area)) some it.here.link;
    other = other;
    followed = it.here.followed.0 followed;
  }
