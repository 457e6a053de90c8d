-- The changes that a look makes, taken together.
use Rattle.std.proofs.Common.{◌≡◌, ◌⊎◌, ℕ, zero, suc, ◌+◌, ◌<◌, ◌≤◌, List, arith, inl, inr, refl, sym, subst}
use Rattle.road_io.specs.declared.disk.Disk.{Ghosts}
use Rattle.road_io.specs.Disk.{Stays}
use Rattle.road_io.specs.Moments.{AtEachMoment}
use Rattle.road_io.proofs.MomentLaws.{nothing, weaker, continued}
use Rattle.key_desk.specs.Spending.{SpendsTexted}
use Rattle.key_desk.proofs.Spending as texted
use Rattle.key_desk.proofs.Standing.{standing_same}
use Rattle.key_desk.proofs.KeptKeys.{stays_keys}
use Rattle.key_desk.specs.Stands.{SameKeys}
use Rattle.desk_sight.specs.Looks.{MaySpend, Spends, SpendsLink}
use Rattle.desk_sight.specs.declared.looking.Use.{Use}
use Rattle.desk_sight.specs.declared.looking.Use.TheVariants.{Key, Publish, Succeed, Links}
use Rattle.desk_sight.proofs.LinkSteps as linked

pub may_stay : (what : Use) (d i : List ℕ) → i ≡ d → MaySpend what d i
may_stay Key d i is = is
may_stay Publish d i is = inl is
may_stay Succeed d i is = inl is
may_stay Links d i is = is

module _ {D : Type 0} (g : Ghosts D) where
  stays_spend : (what : Use) (old new : D) → AtEachMoment g old new (MaySpend what) → AtEachMoment g old new Stays → Spends g what old new
  stays_spend what old new m stays = record {
    moments = m;
    stands = standing_same g old new stays;
    keys = weaker g old new Stays SameKeys stays (λ d i now is. stays_keys d i is);
  }

  pub spends_of : (what : Use) (old new : D) → AtEachMoment g old new (MaySpend what) → Spends g what old new
  spends_of Key old new m = stays_spend Key old new m m
  spends_of Links old new m = stays_spend Links old new m m
  spends_of Publish old new m = let s = texted.spends_by g old new m in record { moments = m; stands = s.stands; keys = s.keys }
  spends_of Succeed old new m = let s = linked.spends_by g old new m in record { moments = m; stands = s.stands; keys = s.keys }

  pub idle : (what : Use) (old : D) → Spends g what old old
  idle what old = spends_of what old old (nothing g old (MaySpend what) (λ d now. may_stay what d d refl))

  pub stayed : (what : Use) (old new : D) → AtEachMoment g old new Stays → Spends g what old new
  stayed what old new stays = spends_of what old new (weaker g old new Stays (MaySpend what) stays (λ d i now is. may_stay what d i is))

  pub publish_spends : (what : Use) (old new : D) → what ≡ Publish → SpendsTexted g old new → Spends g what old new
  publish_spends what old new is s = subst (λ (w : Use). Spends g w old new) (sym is) (spends_of Publish old new s.moments)

  pub succeed_spends : (what : Use) (old new : D) → what ≡ Succeed → SpendsLink g old new → Spends g what old new
  succeed_spends what old new is s = subst (λ (w : Use). Spends g w old new) (sym is) (spends_of Succeed old new s.moments)

  pub looked_first : (what : Use) (old mid new : D) → AtEachMoment g old mid Stays → Spends g what mid new → Spends g what old new
  looked_first what old mid new stays s = spends_of what old new (continued g old mid new Stays (MaySpend what) (MaySpend what) stays s.moments
      (λ d i now is. may_stay what d i is)
      (λ d e i now_d now_e is h. subst (λ (x : List ℕ). MaySpend what x i) is h))
