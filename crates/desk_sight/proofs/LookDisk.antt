-- The content that was read from a disk, after a later call.
use Rattle.std.proofs.Common.{◌≡◌, ◌+◌, ◌-◌, Option, Some, ℕ, List, sym, subst, ap, ◌∙◌}
use Rattle.std.specs.Option.{ForSome}
use Rattle.road_io.specs.declared.disk.Disk.{Ghosts}
use Rattle.road_io.specs.Disk.{Narrows}
use Rattle.road_io.specs.Moments.{Image, EachImage}
use Rattle.road_io.proofs.MomentLaws.{at_end}
use Rattle.desk_areas.specs.Layout.{base_of, gate_at}
use Rattle.desk_sight.specs.Images.{seen_of}
use Rattle.desk_sight.specs.Looks.{HasOpened, MaySpend, Spends}
use Rattle.desk_sight.specs.declared.looking.Use.{Use}

module _ {D : Type 0} (g : Ghosts D) (old mid new : D) (image : List ℕ) (seen : ForSome (g.content mid) (λ c. image ≡ seen_of c)) where
  -- if the call left the disk unchanged
  pub on_told : (P : List ℕ → Type 0) → (new ≡ mid) × P image → ForSome (g.content new) (λ c. P (seen_of c))
  on_told P both c told = subst P (seen c (subst (λ (d : D). g.content d ≡ Some c) both.0 told)) both.1

  -- the gate that was opened
  pub opened_on : (what : Use) (key : ℕ) → Narrows (g.content old) (g.content mid) → ((i : List ℕ) → Image g mid i → (c : List ℕ) × (g.content mid ≡ Some c)) → Spends g what mid new
      → EachImage g new (λ i. gate_at i (base_of image key - 128) ≡ 1) → EachImage g new (λ i. (c : List ℕ) × (g.content old ≡ Some c) × HasOpened key c i)
  opened_on what key narrows tells spends gate i now =
      let d = at_end g mid new (MaySpend what) spends.moments i now in
      let c = tells d.0 d.1 in
      (c.0, narrows c.0 c.1, subst (λ (x : List ℕ). gate_at i (base_of x key - 128) ≡ 1) (seen c.0 c.1) (gate i now))
