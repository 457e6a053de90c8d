-- Examples of the definitions of lives in order, and of the signatures after a look, for some images.
use Rattle.std.proofs.Common.{◌≡◌, ℕ, ◌<◌, List, arith, refl}
use Rattle.std.specs.declared.option.Option.TheVariants.{None, Some}
use Rattle.std.specs.declared.result.Result.TheVariants.{Ok, Err}
use Rattle.book_model.specs.declared.settings.Settings.{Settings}
use Rattle.desk_areas.specs.Layout.{SlotId, place_of, gate_at}
use Rattle.desk_areas.proofs.Areas.{open_first, open_down}
use Rattle.desk_sight.specs.Areas.{early_at, IsFirstWrong}
use Rattle.desk_sight.specs.Areas.IsStrange.{Wrong}
use Rattle.desk_sight.specs.Looks.{IsUnlinked}
use Rattle.desk_sight.specs.Texts.{HasHeader}
use Rattle.desk_sight.specs.Tidy.{IsTidy, HasFreshLink}
use Rattle.desk_sight.specs.declared.slots.Signed.{Signed}
use Rattle.desk_sight.specs.declared.strange.Strange.TheVariants.{Gap, Text, Link}
use Rattle.road_command.specs.Requests.{Succeed, Publish}
use Rattle.road_command.specs.Requests as requests
use Rattle.command_files.specs.declared.fault.Fault.TheVariants.{Disk}
use Rattle.command_files.specs.declared.ended.Conclusion.TheVariants.{Done}
use Rattle.road_run.specs.LivesInOrder.{IsInOrder, IsLinkInOrder, OnTornLink, OnFaultyLink}
use Rattle.road_run.specs.BehindLooks.{use_of, IsUnwritten}

-- ---- in order

-- an image without a key is tidy, and in order
shut_is_tidy : (image : List ℕ) → gate_at image 0 ≡ 0 → IsTidy image
shut_is_tidy image shut area is_open whole = let gate = open_first image (open_down image 0 area (omega arith) is_open) in absurd (omega (arith, shut, gate))

shut_is_in_order : (image : List ℕ) → gate_at image 0 ≡ 0 → IsInOrder image
shut_is_in_order image shut gate strange is = omega (arith, shut, gate)

-- an image with a key is not in order if a free slot comes before a used one, or a text is behind the first free
-- slot
gap_is_out_of_order : (image : List ℕ) (key slot : ℕ) → 0 < gate_at image 0 → IsFirstWrong image (Gap key slot) → IsInOrder image → ⊥
gap_is_out_of_order image key slot gate wrong so = so gate (Gap key slot) (Wrong wrong)

text_is_out_of_order : (image : List ℕ) (key slot : ℕ) → 0 < gate_at image 0 → IsFirstWrong image (Text key slot) → IsInOrder image → ⊥
text_is_out_of_order image key slot gate wrong so = so gate (Text key slot) (Wrong wrong)

-- a disk without a key has no link that waits; a disk is not in order if its link does not lead to the next key,
-- which has signed
shut_is_fresh : (image : List ℕ) → gate_at image 0 ≡ 0 → HasFreshLink image
shut_is_fresh image shut area current whole free link = let gate = open_first image (open_down image 0 area (omega arith) current.is_open) in absurd (omega (arith, shut, gate))

link_is_out_of_order : (image : List ℕ) (key : ℕ) → IsUnlinked image (Link key) → IsLinkInOrder image → ⊥
link_is_out_of_order image key unlinked so = so (Link key) unlinked

-- the images that a crash leaves of `succeed` are restricted; those of other commands are not
succeed_is_asked : (P : Type 0) (secret : List ℕ) (kind : ℕ) → OnTornLink (Some (Succeed secret kind)) P → P
succeed_is_asked P secret kind p = p

publish_is_not : (P : Type 0) (roads : List ℕ) (s : Settings) → OnTornLink (Some (Publish roads s)) P
publish_is_not P roads s = tt

-- nor those of a `succeed` that ended or was refused
done_is_not : (P : Type 0) (secret : List ℕ) (kind : ℕ) → OnFaultyLink (Some (Succeed secret kind)) (Ok Done) P
done_is_not P secret kind = tt

fault_is_asked : (P : Type 0) (secret : List ℕ) (kind : ℕ) → OnFaultyLink (Some (Succeed secret kind)) (Err Disk) P → P
fault_is_asked P secret kind p = p

-- ---- after a look

-- a slot with a header is not unwritten
header_is_written : (image : List ℕ) (slot : SlotId) (signed : Signed) → slot.number < early_at image slot.area → HasHeader image (place_of image slot) signed → IsUnwritten image slot → ⊥
header_is_written image slot signed early has un = un.header early signed has

-- for a command that only reads the desk, the look has no use
desk_has_no_look : use_of (Some requests.Desk) ≡ None
desk_has_no_look = refl
