-- The definitions of ends and files, evaluated for some ends. A changed definition fails here.
use Rattle.std.proofs.Common.{◌≡◌, ◌≢◌, ℕ, ◌≤◌, List, [], length, nat_lt, cond, Bool, true, false, Option, Some, None, Ok, Err, arith, refl}
use Rattle.std.specs.declared.result.Result.{Result}
use Rattle.std.specs.Io.KnownBytes.{Appends, Keeps}
use Rattle.road_io.specs.Causes.{Rose}
use Rattle.road_io.specs.Contents.{Folder, AppendsFront}
use Rattle.command_files.specs.declared.fault.Fault.{Fault}
use Rattle.command_files.specs.declared.fault.Fault.TheVariants.{Words, Missing, TooLong, Malformed, HeaderWrong, BadHex, OtherKey, TruncatedFrame, Library, Source, Sink, Disk, KeysUsedUp, Memory, UnknownNode, NoRoute, Held, NoKey, BadBlock, SameSecret, TooManyFrames, OtherPublication, MirrorLost}
use Rattle.command_files.specs.declared.ended.Conclusion.{Conclusion}
use Rattle.command_files.specs.declared.ended.Conclusion.TheVariants.{Done, Refused, Evidence}
use Rattle.command_files.specs.Outcomes.{status_of, outcome_of}
use Rattle.command_files.specs.Endings.{Ending, Answered, IsSilent, TellsNone, EndsReading}
use Rattle.command_files.specs.Exact.{NoneFailed, IsExact}
use Rattle.command_files.specs.Spared.{BlamesLibrary, SparesBut, SparesLibrary}
use Rattle.command_files.specs.Reading.{octets_in, chain_at, as_spelled, Fails, Gives}
use Rattle.octet_text.specs.Want.{no_memory}

abbrev Outcome : Type 0
Outcome = Result Conclusion Fault

-- ---- statuses

of_done : status_of (Ok Done) ≡ 0
of_done = refl

of_refused : status_of (Ok Refused) ≡ 1
of_refused = refl

of_evidence : status_of (Ok Evidence) ≡ 10
of_evidence = refl

of_words : status_of (Err Words) ≡ 2
of_words = refl

of_missing : status_of (Err Missing) ≡ 3
of_missing = refl

of_bad_hex : status_of (Err BadHex) ≡ 3
of_bad_hex = refl

of_other_key : status_of (Err OtherKey) ≡ 3
of_other_key = refl

of_header_wrong : status_of (Err HeaderWrong) ≡ 3
of_header_wrong = refl

of_cut_frame : status_of (Err TruncatedFrame) ≡ 3
of_cut_frame = refl

of_library : status_of (Err Library) ≡ 4
of_library = refl

of_source : status_of (Err Source) ≡ 5
of_source = refl

of_sink : status_of (Err Sink) ≡ 6
of_sink = refl

of_disk : status_of (Err Disk) ≡ 7
of_disk = refl

of_used_up : status_of (Err KeysUsedUp) ≡ 8
of_used_up = refl

of_short_memory : status_of (Err (Memory no_memory)) ≡ 9
of_short_memory = refl

of_no_route : status_of (Err NoRoute) ≡ 11
of_no_route = refl

of_unknown_node : (id : ℕ) → status_of (Err (UnknownNode id)) ≡ 11
of_unknown_node id = refl

of_held : status_of (Err Held) ≡ 12
of_held = refl

of_no_key : status_of (Err NoKey) ≡ 12
of_no_key = refl

of_bad_block : status_of (Err BadBlock) ≡ 12
of_bad_block = refl

of_same_secret : status_of (Err SameSecret) ≡ 12
of_same_secret = refl

of_many_frames : status_of (Err TooManyFrames) ≡ 13
of_many_frames = refl

of_other_publication : status_of (Err OtherPublication) ≡ 14
of_other_publication = refl

of_lost_mirror : status_of (Err MirrorLost) ≡ 15
of_lost_mirror = refl

-- the status tells which end it is, if there is no fault
told_refused : outcome_of (record { status = 1; fault = None }) ≡ Ok Refused
told_refused = refl

told_evidence : outcome_of (record { status = 10; fault = None }) ≡ Ok Evidence
told_evidence = refl

told_fault : outcome_of (record { status = 0; fault = Some Disk }) ≡ Err Disk
told_fault = refl

-- ---- the written text

module _ (E : Ending) (old new : Option (List ℕ)) where
  -- work that was done writes its whole text, and so does evidence
  done_is_written : Answered E old new (Ok Done) → (text : List ℕ) × E (Ok Done) text × Appends old new text
  done_is_written h = h

  evidence_is_written : Answered E old new (Ok Evidence) → (text : List ℕ) × E (Ok Evidence) text × Appends old new text
  evidence_is_written h = h

  -- if the sink failed, a prefix of the text of some end is written
  front_is_written : Answered E old new (Err Sink) → (end : Outcome) × (text : List ℕ) × E end text × AppendsFront old new text
  front_is_written h = h

  -- a lost mirror counts as work that was done
  lost_is_done : Answered E old new (Err MirrorLost) → (text : List ℕ) × E (Ok Done) text × Appends old new text
  lost_is_done h = h

  -- a fault of the files is one that the files require
  other_key_is_called_for : Answered E old new (Err OtherKey) → E (Err OtherKey) []
  other_key_is_called_for h = h

  missing_is_called_for : Answered E old new (Err Missing) → E (Err Missing) []
  missing_is_called_for h = h

  used_up_is_called_for : Answered E old new (Err KeysUsedUp) → E (Err KeysUsedUp) []
  used_up_is_called_for h = h

  -- nothing is written if a file, the disk or memory fails
  silent_at_memory : IsSilent TellsNone old new (Err (Memory no_memory)) → Keeps old new
  silent_at_memory h = h (Memory no_memory) refl (λ is. cc) (λ told. told)

  silent_at_disk : IsSilent TellsNone old new (Err Disk) → Keeps old new
  silent_at_disk h = h Disk refl (λ is. cc) (λ told. told)

  silent_at_missing : IsSilent TellsNone old new (Err Missing) → Keeps old new
  silent_at_missing h = h Missing refl (λ is. cc) (λ told. told)

-- ---- exact ends

module _ (E : Ending) where
  done_is_exact : IsExact E (Ok Done) → (text : List ℕ) × E (Ok Done) text
  done_is_exact h = h.called_for (λ is. cc)

  missing_is_exact : IsExact E (Err Missing) → (text : List ℕ) × E (Err Missing) text
  missing_is_exact h = h.called_for (λ is. cc)

  -- an end that the files require occurs
  no_other : (text : List ℕ) → IsExact E (Ok Done) → E (Err OtherKey) text → ⊥
  no_other text h called = let same : ◌≡◌ {A = Outcome} (Ok Done) (Err OtherKey) = h.only_one (Err OtherKey) text (λ is. cc) called in cc

-- no outside object failed
library_did_not : (a b c d e f : ℕ) → NoneFailed a b c d e f → Rose a b → ⊥
library_did_not a b c d e f h = h.library_stays

sink_did_not : (a b c d e f : ℕ) → NoneFailed a b c d e f → Rose c d → ⊥
sink_did_not a b c d e f h = h.sink_stays

disk_did_not : (a b c d e f : ℕ) → NoneFailed a b c d e f → Rose e f → ⊥
disk_did_not a b c d e f h = h.disk_stays

-- ---- files

no_file : octets_in None ≡ Err Missing
no_file = refl

whole_file : (octets : List ℕ) → length octets ≤ 268435456 → octets_in (Some octets) ≡ Ok octets
whole_file octets le = by (nat_lt 268435456 (length octets)) refl
  where
    by : (b : Bool) → nat_lt 268435456 (length octets) ≡ b → cond b (Err TooLong) (Ok octets) ≡ Ok octets
    by true e = absurd (grind (arith, e, le))
    by false e = refl

long_file : (octets : List ℕ) → length octets ≡ 268435457 → octets_in (Some octets) ≡ Err TooLong
long_file octets is = by (nat_lt 268435456 (length octets)) refl
  where
    by : (b : Bool) → nat_lt 268435456 (length octets) ≡ b → cond b (Err TooLong) (Ok octets) ≡ Err TooLong
    by true e = refl
    by false e = absurd (grind (arith, e, is))

no_chain_named : (folder : Folder) → chain_at folder None ≡ Ok []
no_chain_named folder = refl

where_it_breaks : as_spelled {X = ℕ} (Err 3) ≡ Err (Malformed 3)
where_it_breaks = refl

-- the refusal is about the file
missing_fails : (read : Result ℕ Fault) → Fails Missing read → read ≡ Err Missing
missing_fails read h = h

given_is_read : (read : Result ℕ Fault) (n : ℕ) → Gives (λ x. x) (Ok n) read → read ≡ Ok n
given_is_read read n h = h

-- the first fault of a file ends the command, and nothing is written
first_fault_ends : (Next : ℕ → Ending) (outcome : Outcome) (text : List ℕ) → EndsReading (Err BadHex) Next outcome text → (outcome ≡ Err BadHex) × (text ≡ [])
first_fault_ends Next outcome text h = h

-- ---- out of memory

-- if out of memory is reported, no failure was counted
abbrev short : Outcome
short = Err (Memory no_memory)

memory_blames_none : ¬ BlamesLibrary short
memory_blames_none b = b

no_fault_is_hidden : SparesLibrary short 3 4 → ⊥
no_fault_is_hidden h = let same : 4 ≡ 3 = h memory_blames_none in omega (arith, same)

not_the_sink : short ≢ Err Sink
not_the_sink e = cc

none_of_the_sink : SparesBut Sink short 3 4 → ⊥
none_of_the_sink h = let same : 4 ≡ 3 = h not_the_sink in omega (arith, same)
