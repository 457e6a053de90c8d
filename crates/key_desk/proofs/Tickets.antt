-- The effect on a desk of taking a ticket or giving it back.
use Rattle.std.proofs.Common.{◌≡◌, ◌≢◌, ◌<◌, ℕ, List, set, sym, ◌∙◌, ap, subst, Result, Ok, IfOk}
use Rattle.road_io.specs.declared.disk.Disk.{Ghosts}
use Rattle.key_desk.specs.declared.desk.Desk.{Desk}
use Rattle.desk_areas.specs.declared.area.Count.TheVariants
use Rattle.desk_areas.specs.Layout.{SlotId}
use Rattle.key_desk.specs.Desk.{count_at, KnowsTexted, KnowsSpent}
use Rattle.key_desk.proofs.Counts.{changed, this_count, other_than, free_isnt_spent}

-- a ticket taken after another one has another slot
pub tickets_differ : (old mid : Desk) (first second : ℕ) → count_at old first ≡ TheVariants.Free → mid ≡ changed old (set old.counts first TheVariants.Out) old.is_open → count_at mid second ≡ TheVariants.Free → first ≢ second
tickets_differ old mid first second free out then_free is =
    let taken : count_at mid first ≡ TheVariants.Out = ap (λ (d : Desk). count_at d first) out ∙ this_count old.counts first TheVariants.Out (other_than (count_at old first) TheVariants.Free TheVariants.Spent free free_isnt_spent) in
    let here : count_at mid first ≡ TheVariants.Free = ap (λ (x : ℕ). count_at mid x) is ∙ then_free in
    absurd (cc (taken, here))

-- the known facts about a slot and a text hold under other names for them
pub texted_as : {D : Type 0} (g : Ghosts D) (desk : Desk) (disk : D) (s s' : SlotId) (t t' : List ℕ) → s' ≡ s → t' ≡ t → KnowsTexted g desk disk s t → KnowsTexted g desk disk s' t'
texted_as g desk disk s s' t t' slot text known =
    subst (λ (x : SlotId). KnowsTexted g desk disk x t') (sym slot) (subst (λ (x : List ℕ). KnowsTexted g desk disk s x) (sym text) known)

pub spent_as : {D : Type 0} (g : Ghosts D) (desk : Desk) (disk : D) (s s' : SlotId) (t t' : List ℕ) → s' ≡ s → t' ≡ t → KnowsSpent g desk disk s t → KnowsSpent g desk disk s' t'
spent_as g desk disk s s' t t' slot text known =
    subst (λ (x : SlotId). KnowsSpent g desk disk x t') (sym slot) (subst (λ (x : List ℕ). KnowsSpent g desk disk s x) (sym text) known)

-- the value of an `Ok`
pub at_ok : {T E : Type 0} (r : Result T E) (P : T → Type 0) (x : T) → r ≡ Ok x → IfOk r P → P x
at_ok {T} {E} r P x is h = subst (λ (v : Result T E). IfOk v P) is h
