-- Why runs end, and what their owners are told, for some ends.
use Rattle.std.proofs.Common.{◌≡◌, ℕ, true, false, List, refl}
use Rattle.std.specs.declared.option.Option.TheVariants.{None, Some}
use Rattle.octet_text.specs.Want.{no_memory}
use Rattle.book_model.specs.declared.items.Query.{Query}
use Rattle.book_model.specs.declared.settings.Settings.{Settings}
use Rattle.command_files.specs.declared.ended.Ended.{Ended}
use Rattle.command_files.specs.declared.fault.Fault.TheVariants as faults
use Rattle.desk_disk.specs.declared.unsafe_desk.Unsafe.{Unsafe}
use Rattle.desk_sight.specs.declared.looking.Unfit.TheVariants as unfit
use Rattle.desk_sight.specs.declared.sight.Sight.{Sight}
use Rattle.desk_sight.specs.declared.strange.Strange.{Strange}
use Rattle.road_command.specs.Requests as requests
use Rattle.guarded_run.specs.Telling.{reason_of, is_disk, is_of_desk, map_news, signed_news, done_news, key_news, news_by, news_of}
use Rattle.guarded_run.specs.declared.guarding.End.TheVariants as ends
use Rattle.guarded_run.specs.declared.telling.Reason.TheVariants as reasons
use Rattle.guarded_run.specs.declared.telling.News.TheVariants.{Signed, Made, Stands, Shown, Answered, Nothing}

-- ---- reasons

module _ (why : Unsafe) (strange : Strange) (ended : Ended) where
  -- a desk that was not opened for a reason has that reason, and a desk that was opened has failed
  unsafe_is_refused : reason_of (ends.Refused unfit.Disk) (Some why) ≡ reasons.Unsafe why
  unsafe_is_refused = refl

  failed_is_refused : reason_of (ends.Refused unfit.Disk) None ≡ reasons.Failed faults.Disk
  failed_is_refused = refl

  unsafe_ended : reason_of (ends.Ran ended) (Some why) ≡ reasons.Unsafe why
  unsafe_ended = refl

  ran_ended : reason_of (ends.Ran ended) None ≡ reasons.Ended ended
  ran_ended = refl

  -- no other end has the reason of a desk that was not opened
  strange_is_refused : reason_of (ends.Refused (unfit.Strange strange)) (Some why) ≡ reasons.Strange strange
  strange_is_refused = refl

  other_key_is_refused : reason_of (ends.Refused unfit.OtherKey) (Some why) ≡ reasons.OtherKey
  other_key_is_refused = refl

  bad_block_is_refused : reason_of (ends.Refused unfit.BadBlock) None ≡ reasons.Failed faults.BadBlock
  bad_block_is_refused = refl

  no_memory_is_refused : reason_of (ends.Refused (unfit.Memory no_memory)) None ≡ reasons.Failed (faults.Memory no_memory)
  no_memory_is_refused = refl

  unsigned_is_unsigned : reason_of (ends.Unsigned ended) (Some why) ≡ reasons.Unsigned
  unsigned_is_unsigned = refl

  unsafe_is_not_ended : reason_of (ends.Ran ended) (Some why) ≡ reasons.Ended ended → ⊥
  unsafe_is_not_ended e = cc

  -- the desk is to blame for its own failure, and for no other
  disk_is_of_desk : (is_of_desk (reasons.Failed faults.Disk) ≡ true) × (is_of_desk (reasons.Ended (record { status = 7; fault = Some faults.Disk })) ≡ true)
  disk_is_of_desk = (refl, refl)

  sink_is_not : (is_of_desk (reasons.Failed faults.Sink) ≡ false) × (is_of_desk (reasons.Ended (record { status = 0; fault = None })) ≡ false)
  sink_is_not = (refl, refl)

  unsafe_is_not : (is_of_desk (reasons.Unsafe why) ≡ false) × (is_of_desk (reasons.Strange strange) ≡ false) × (is_of_desk reasons.OtherKey ≡ false) × (is_of_desk reasons.Unsigned ≡ false)
  unsafe_is_not = (refl, refl, refl, refl)

disk_fails : is_disk (Some faults.Disk) ≡ true
disk_fails = refl

sink_fails_no_disk : is_disk (Some faults.Sink) ≡ false
sink_fails_no_disk = refl

nothing_fails_no_disk : is_disk None ≡ false
nothing_fails_no_disk = refl

-- ---- news

module _ (a : List ℕ) (n : ℕ) (q : Query) (s : Settings) (sight : Sight) where
  -- a map was signed if it was written, or if the sink or a mirror failed at it
  map_was_signed : (map_news sight None ≡ Signed sight) × (map_news sight (Some faults.Sink) ≡ Signed sight) × (map_news sight (Some faults.MirrorLost) ≡ Signed sight)
  map_was_signed = (refl, refl, refl)

  map_was_not_signed : (map_news sight (Some faults.Missing) ≡ Nothing) × (map_news sight (Some faults.Disk) ≡ Nothing)
  map_was_not_signed = (refl, refl)

  untold_map : signed_news None None ≡ Nothing
  untold_map = refl

  told_map : signed_news (Some sight) (Some faults.Sink) ≡ Signed sight
  told_map = refl

  -- a key was made, or stands already
  key_was_made : key_news None ≡ Made
  key_was_made = refl

  key_stands : key_news (Some faults.Held) ≡ Stands
  key_stands = refl

  key_failed : key_news (Some faults.Sink) ≡ Nothing
  key_failed = refl

  done_is_news : (done_news Shown None ≡ Shown) × (done_news Shown (Some faults.Sink) ≡ Nothing)
  done_is_news = (refl, refl)

  -- by the command
  of_publish : news_by (Some (requests.Publish a s)) (Some sight) None ≡ Signed sight
  of_publish = refl

  of_key : news_by (Some (requests.Key a n)) None (Some faults.Held) ≡ Stands
  of_key = refl

  of_succeed : news_by (Some (requests.Succeed a n)) (Some sight) None ≡ Made
  of_succeed = refl

  of_desk : news_by (Some requests.Desk) None None ≡ Shown
  of_desk = refl

  of_prove : news_by (Some (requests.Prove a q)) None None ≡ Answered
  of_prove = refl

  of_links : news_by (Some requests.Links) (Some sight) None ≡ Nothing
  of_links = refl

  succeed_holds_no_key : news_by (Some (requests.Succeed a n)) (Some sight) (Some faults.Held) ≡ Nothing
  succeed_holds_no_key = refl

  -- a run that did not begin has no news, nor has one that wrote nothing since it was not signed
  ran_has_news : (status : ℕ) → news_of (Some (requests.Publish a s)) (Some sight) (ends.Ran (record { status = status; fault = None })) ≡ Signed sight
  ran_has_news status = refl

  refused_has_none : news_of (Some (requests.Publish a s)) (Some sight) (ends.Refused unfit.Disk) ≡ Nothing
  refused_has_none = refl

  unsigned_has_none : (status : ℕ) → news_of (Some (requests.Publish a s)) (Some sight) (ends.Unsigned (record { status = status; fault = None })) ≡ Nothing
  unsigned_has_none status = refl

  unsigned_is_not_signed : (status : ℕ) → news_of (Some (requests.Publish a s)) (Some sight) (ends.Unsigned (record { status = status; fault = None })) ≡ Signed sight → ⊥
  unsigned_is_not_signed status e = cc
