-- The definitions of commands, of complete runs and of sources, evaluated for some requests, each where it holds and
-- where it does not.
use Rattle.std.proofs.Common.{◌≡◌, ◌≢◌, inl, inr, ℕ, List, [], ◌∷◌, refl, arith}
use Rattle.std.specs.declared.option.Option.{Option}
use Rattle.std.specs.declared.option.Option.TheVariants.{None, Some}
use Rattle.std.specs.declared.result.Result.{Result}
use Rattle.std.specs.declared.result.Result.TheVariants.{Ok, Err}
use Rattle.std.specs.Io.KnownBytes.{Appends}
use Rattle.road_io.specs.declared.disk.Disk.{Ghosts}
use Rattle.road_io.specs.Contents.{Folder}
use Rattle.road_map.proofs.Among.{Contains-here}
use Rattle.book_model.specs.declared.items.Query.{Query}
use Rattle.book_model.specs.declared.settings.Settings.{Settings}
use Rattle.mirror_out.specs.Mirrors.{PromisedLess}
use Rattle.publication_out.specs.Sent.{pieces_in}
use Rattle.proof_octets.specs.declared.publication.Publication.{Publication}
use Rattle.proof_octets.specs.Publications.{publication_text}
use Rattle.near_proof.specs.Honest.{AreKnown}
use Rattle.route_service.specs.Inputs.{split}
use Rattle.road_command.specs.Requests.{Route, Links, Desk, Publish, Prove, Serve, ServeSigned, Check, Survey}
use Rattle.map_commands.specs.RouteLine.{ends_route}
use Rattle.command_books.specs.Installing.{IsInstallable}
use Rattle.command_files.specs.Endings.{NoEnd}
use Rattle.command_files.specs.Exact.{IsExact}
use Rattle.command_files.specs.Outcomes.{status_of}
use Rattle.command_files.specs.Reading.{publication_at}
use Rattle.command_files.specs.declared.fault.Fault.{Fault}
use Rattle.command_files.specs.declared.fault.Fault.TheVariants.{Missing, Library, Sink, Memory, MirrorLost}
use Rattle.command_files.specs.declared.ended.Conclusion.{Conclusion}
use Rattle.command_files.specs.declared.ended.Conclusion.TheVariants.{Done, Refused}
use Rattle.octet_text.specs.Want.{no_memory}
use Rattle.owner_commands.specs.Signing.{SpreadSealed, StandsOnDisk}
use Rattle.server_commands.specs.Guarding.{ServeFiles, guarded, unguarded}
use Rattle.server_commands.specs.Serving.{ends_serving, most_frames, most_octets}
use Rattle.road_run.specs.Commands.{Ends, no_files, files_for, TellsClient, OnMirrors, WritesBehindSync, but_for_mirrors}
use Rattle.road_run.specs.Complete.{CallsFor, AreTold, Hinders, IsUnhindered, Answers, NoneElseFailed, PromisedEnough, IsComplete, ProvesKnown}
use Rattle.road_run.specs.Gone.{OnGone}
use Rattle.road_run.specs.Names.{files_named}
use Rattle.road_run.specs.Sources.{IfServe, UnlessServe, RunGave, IsExactServing}

-- ---- the files of a command

no_file_has_a_name : (name : List ℕ) → no_files name ≡ None
no_file_has_a_name name = refl

-- a command that loads no file ends over every library as over one without files; another depends on the files
links_need_no_library : files_for Links None ≡ Some no_files
links_need_no_library = refl

survey_needs_no_library : (width seed method queries : ℕ) (folder : Folder) → files_for (Survey width seed method queries) (Some folder) ≡ Some no_files
survey_needs_no_library width seed method queries folder = refl

route_needs_its_library : (roads : List ℕ) (from to : ℕ) → files_for (Route roads from to) None ≡ None
route_needs_its_library roads from to = refl

route_reads_its_library : (roads : List ℕ) (from to : ℕ) (folder : Folder) → files_for (Route roads from to) (Some folder) ≡ Some folder
route_reads_its_library roads from to folder = refl

-- the names are in the order of the arguments, with the chain only if it is given
nothing_is_named : files_named None ≡ []
nothing_is_named = refl

desk_names_nothing : files_named (Some Desk) ≡ []
desk_names_nothing = refl

check_names_its_files : (key reply chain : List ℕ) (q : Query) (least : ℕ) → files_named (Some (Check key reply q least (Some chain))) ≡ key ∷ reply ∷ chain ∷ []
check_names_its_files key reply chain q least = refl

check_needs_no_chain : (key reply : List ℕ) (q : Query) (least : ℕ) → files_named (Some (Check key reply q least None)) ≡ key ∷ reply ∷ []
check_needs_no_chain key reply q least = refl

-- ---- ends

-- over no file, `route` ends because its file is missing, and in no other way, and writes nothing
missing_ends_route : (content : Option (List ℕ)) (roads : List ℕ) (from to : ℕ) → Ends content (Route roads from to) no_files (Err Missing) []
missing_ends_route content roads from to = (refl, refl)

nothing_else_ends_route : (content : Option (List ℕ)) (roads : List ℕ) (from to : ℕ) (o : Result Conclusion Fault) (text : List ℕ) → Ends content (Route roads from to) no_files o text → o ≡ Err Missing
nothing_else_ends_route content roads from to o text h = h.0

-- so an exact result is told as a missing file
missing_is_told : (content : Option (List ℕ)) (roads : List ℕ) (from to : ℕ) (o : Result Conclusion Fault) → o ≢ Err (Memory no_memory) → IsExact (Ends content (Route roads from to) no_files) o → o ≡ Err Missing
missing_is_told content roads from to o full exact = exact.only_one (Err Missing) [] full (refl, refl)

-- only `publish` reports a lost mirror
publish_tells_of_mirrors : (roads : List ℕ) (s : Settings) → TellsClient (Publish roads s) MirrorLost
publish_tells_of_mirrors roads s = tt

route_tells_of_none : (roads : List ℕ) (from to : ℕ) → TellsClient (Route roads from to) MirrorLost → ⊥
route_tells_of_none roads from to h = h

lost_is_done : but_for_mirrors (Err MirrorLost) ≡ Ok Done
lost_is_done = refl

sink_is_not_done : but_for_mirrors (Err Sink) ≡ Err Sink
sink_is_not_done = refl

-- ---- mirrors

module _ {M : Type 0} (octets : M → Option (List ℕ)) (label handed puts room faults : M → ℕ) {D : Type 0} (g : Ghosts D) (before now : D) (tb tn : Option (List ℕ)) where
  route_leaves_mirrors : (roads : List ℕ) (from to : ℕ) (old kept : List M) (o : Result Conclusion Fault) → OnMirrors octets label handed puts room g before now (Some (Route roads from to)) tb tn old kept o → kept ≡ old
  route_leaves_mirrors roads from to old kept o h = h

  route_drops_none : (roads : List ℕ) (from to : ℕ) (m : M) (o : Result Conclusion Fault) → OnMirrors octets label handed puts room g before now (Some (Route roads from to)) tb tn (m ∷ []) [] o → ⊥
  route_drops_none roads from to m o h = cc

  route_loses_none : (roads : List ℕ) (from to : ℕ) (old kept gone_before gone_now : List M) (o : Result Conclusion Fault) → OnGone octets label handed puts room faults g before now (Some (Route roads from to)) tb tn old kept gone_before gone_now o → gone_now ≡ gone_before
  route_loses_none roads from to old kept gone_before gone_now o h = h

  -- a `publish` that changes nothing need not have sealed anything; one that writes an octet has
  nothing_is_sealed : (roads : List ℕ) (s : Settings) (taken : List ℕ) (old : List M) (o : Result Conclusion Fault) → WritesBehindSync octets label handed puts room g before now (Some (Publish roads s)) (Some taken) (Some taken) old old o
  nothing_is_sealed roads s taken old o = inl (refl, refl)

  octets_are_sealed : (roads : List ℕ) (s : Settings) (octet : ℕ) (old kept : List M) (o : Result Conclusion Fault) → WritesBehindSync octets label handed puts room g before now (Some (Publish roads s)) (Some []) (Some (octet ∷ [])) old kept o
      → SpreadSealed octets label handed puts room g before now (Some []) (Some (octet ∷ [])) old kept o
  octets_are_sealed roads s octet old kept o (inl (same, more)) = absurd (cc)
  octets_are_sealed roads s octet old kept o (inr sealed) = sealed

  -- a mirror that promised less than the publication needs did not promise enough
  too_little_is_not_enough : (roads : List ℕ) (s : Settings) (m : M) (p : Publication) → StandsOnDisk g before now p → Appends tb tn (publication_text p) → PromisedLess (pieces_in (publication_text p)) (publication_text p) (puts m) (room m)
      → PromisedEnough puts room g before now (Publish roads s) tb tn (m ∷ []) → ⊥
  too_little_is_not_enough roads s m p on_disk written less enough = enough p on_disk written m (Contains-here m []) less

-- ---- complete runs

route_ends_by_its_files : (content left : Option (List ℕ)) (roads : List ℕ) (from to : ℕ) (folder : Folder) (o : Result Conclusion Fault) (text : List ℕ) → CallsFor content left (Route roads from to) folder o text → ends_route roads from to folder o text
route_ends_by_its_files content left roads from to folder o text h = h

serve_ends_by_its_source : (content : Option (List ℕ)) (input file : List ℕ) (folder : Folder) (o : Result Conclusion Fault) (text : List ℕ) → CallsFor content (Some input) (Serve file) folder o text → ends_serving (unguarded file) (split most_octets most_frames input) folder o text
serve_ends_by_its_source content input file folder o text h = h

untold_source_calls_for_nothing : (content : Option (List ℕ)) (file : List ℕ) (folder : Folder) (o : Result Conclusion Fault) (text : List ℕ) → CallsFor content None (Serve file) folder o text → ⊥
untold_source_calls_for_nothing content file folder o text h = h

serve_asks_for_the_source : (content : Option (List ℕ)) (file : List ℕ) → AreTold content None (Serve file) → ⊥
serve_asks_for_the_source content file told = told refl

serve_asks_for_no_disk : (input file : List ℕ) → AreTold None (Some input) (Serve file)
serve_asks_for_no_disk input file e = cc

links_ask_for_no_source : (content : List ℕ) → AreTold (Some content) None Links
links_ask_for_no_source content e = cc

links_ask_for_the_disk_too : (left : Option (List ℕ)) → AreTold None left Links → ⊥
links_ask_for_the_disk_too left told = told refl

-- a file, spent keys, a desk and frames prevent work; a failed library does not; work that was done, refused, or ended for
-- lack of memory was not
file_hinders : Hinders 3
file_hinders = inl refl

frames_hinder : Hinders 13
frames_hinder = inr (inr (inr refl))

used_keys_hinder : Hinders 8
used_keys_hinder = inr (inl refl)

desk_hinders : Hinders 12
desk_hinders = inr (inr (inl refl))

library_does_not_hinder : Hinders 4 → ⊥
library_does_not_hinder (inl e) = cc
library_does_not_hinder (inr (inl e)) = cc
library_does_not_hinder (inr (inr (inl e))) = cc
library_does_not_hinder (inr (inr (inr e))) = cc

done_was_not_hindered : Hinders 0 → ⊥
done_was_not_hindered (inl e) = cc
done_was_not_hindered (inr (inl e)) = cc
done_was_not_hindered (inr (inr (inl e))) = cc
done_was_not_hindered (inr (inr (inr e))) = cc

done_answers : Answers 0
done_answers = inl refl

memory_answers : Answers 9
memory_answers = inr (inr (inr (inr (inr refl))))

file_does_not_answer : Answers 3 → ⊥
file_does_not_answer (inl e) = cc
file_does_not_answer (inr (inl e)) = cc
file_does_not_answer (inr (inr (inl e))) = cc
file_does_not_answer (inr (inr (inr (inl e)))) = cc
file_does_not_answer (inr (inr (inr (inr (inl e))))) = cc
file_does_not_answer (inr (inr (inr (inr (inr e))))) = cc

nothing_hinders : IsUnhindered NoEnd
nothing_hinders o text e h = e

missing_hinders : IsUnhindered (λ o text. o ≡ Err Missing) → ⊥
missing_hinders free = free (Err Missing) [] refl (inl refl)

unhindered_work_is_done : (o : Result Conclusion Fault) → IsComplete NoEnd (Unit {0}) o → Answers (status_of o)
unhindered_work_is_done o h = h nothing_hinders tt

unhindered_work_is_not_missing : IsComplete NoEnd (Unit {0}) (Err Missing) → ⊥
unhindered_work_is_not_missing h = file_does_not_answer (h nothing_hinders tt)

hindered_work_may_end : IsComplete (λ o text. o ≡ Err Missing) (Unit {0}) (Err Missing)
hindered_work_may_end free enough = absurd (missing_hinders free)

-- a run that ends with the failure of its library is none of those in which nothing else failed; one that found a file
-- missing is, whatever its library counts
library_failed : (k k' d d' : ℕ) → NoneElseFailed (Err Library) k k' d d' → ⊥
library_failed k k' d d' n = n.library_gave refl

missing_is_no_failure : NoneElseFailed (Err Missing) 0 0 0 0
missing_is_no_failure = record { library_gave = λ e. cc; sink_stays = λ rose. omega (arith, rose); disk_stays = λ rose. omega (arith, rose) }

sink_failed : NoneElseFailed (Err Missing) 0 1 0 0 → ⊥
sink_failed n = n.sink_stays (omega arith)

disk_failed : NoneElseFailed (Err Missing) 0 0 0 1 → ⊥
disk_failed n = n.disk_stays (omega arith)

-- `prove` over a publication that can be installed is not refused
refusal_proves_nothing : (folder : Folder) (file : List ℕ) (q : Query) (old new : Option (List ℕ)) (p : Publication) → publication_at folder file ≡ Ok p → IsInstallable p → AreKnown p.parts q → ProvesKnown (Prove file q) (Some folder) old new (Ok Refused) → ⊥
refusal_proves_nothing folder file q old new p read has known h = h p read has known

unread_proves_anything : (file : List ℕ) (q : Query) (old new : Option (List ℕ)) → ProvesKnown (Prove file q) None old new (Ok Refused)
unread_proves_anything file q old new = tt

-- ---- the source

nothing_serves : (P : ServeFiles → Type 0) → IfServe None P
nothing_serves P = tt

route_does_not_serve : (roads : List ℕ) (from to : ℕ) (P : ServeFiles → Type 0) → IfServe (Some (Route roads from to)) P
route_does_not_serve roads from to P = tt

serve_serves : (file : List ℕ) (P : ServeFiles → Type 0) → IfServe (Some (Serve file)) P → P (unguarded file)
serve_serves file P h = h

serve_signed_serves : (file key : List ℕ) (chain : Option (List ℕ)) (P : ServeFiles → Type 0) → IfServe (Some (ServeSigned file key chain)) P → P (guarded file key chain)
serve_signed_serves file key chain P h = h

route_is_beside : (roads : List ℕ) (from to : ℕ) (P : Type 0) → UnlessServe (Some (Route roads from to)) P → P
route_is_beside roads from to P h = h

serve_is_not : (file : List ℕ) (P : Type 0) → UnlessServe (Some (Serve file)) P
serve_is_not file P = tt

-- the source of a command that does not serve gives nothing
nothing_was_given : (roads : List ℕ) (from to : ℕ) (files : Option Folder) (given given' : List ℕ) (Ended : Type 0) (s s' : ℕ) (tb tn : Option (List ℕ)) (o : Result Conclusion Fault) → RunGave (Some (Route roads from to)) files given given' Ended s s' tb tn o → given' ≡ given
nothing_was_given roads from to files given given' Ended s s' tb tn o h = h.nothing

-- serving is exact only where files and input are known
unknown_files_ask_for_nothing : (named : ServeFiles) (left : Option (List ℕ)) (o : Result Conclusion Fault) → IsExactServing named None left o
unknown_files_ask_for_nothing named left o = tt

known_input_is_exact : (named : ServeFiles) (folder : Folder) (input : List ℕ) (o : Result Conclusion Fault) → IsExactServing named (Some folder) (Some input) o → IsExact (ends_serving named (split most_octets most_frames input) folder) o
known_input_is_exact named folder input o h = h
