-- The arguments of a run's guarantees, in small cases.
use Rattle.std.proofs.Common.{◌≡◌, ℕ, Bool, true, false, List, [], ◌∷◌, ◌++◌, if◌then◌else◌, refl, sym, subst}
use Rattle.std.specs.declared.option.Option.{Option}
use Rattle.std.specs.declared.option.Option.TheVariants.{None, Some}
use Rattle.std.specs.declared.result.Result.{Result}
use Rattle.std.specs.declared.result.Result.TheVariants.{Ok, Err}
use Rattle.road_io.specs.declared.disk.Disk.{Ghosts}
use Rattle.road_io.specs.Disk.{Stays}
use Rattle.road_io.specs.Moments.{AtEachMoment, still_told}
use Rattle.road_io.specs.Causes.{Rose}
use Rattle.road_io.specs.Contents.{Folder}
use Rattle.std.specs.Io.KnownBytes.{Appends}
use Rattle.owner_commands.specs.ChainLine.{EndsLinks}
use Rattle.owner_commands.specs.OwnerDesk.{EndsDesk}
use Rattle.route_survey.specs.Surveying.{EndsSurvey}
use Rattle.book_model.specs.declared.items.Query.{Query}
use Rattle.proof_octets.specs.declared.query.NearQuery.{NearQuery}
use Rattle.proof_octets.specs.declared.publication.Publication.{Publication}
use Rattle.route_service.specs.Machine.{State, after, MayReply}
use Rattle.route_service.specs.Isolation.{is_form_of, form_in, is_kept, IsIsolated}
use Rattle.road_command.specs.Requests.{Route, Key, Links, Desk, Serve, Survey}
use Rattle.command_files.specs.declared.fault.Fault.{Fault}
use Rattle.command_files.specs.declared.fault.Fault.TheVariants.{Source, UnknownNode, TruncatedFrame, Sink}
use Rattle.command_files.specs.declared.ended.Conclusion.{Conclusion}
use Rattle.command_files.specs.declared.ended.Conclusion.TheVariants.{Done, Refused, Evidence}
use Rattle.road_run.specs.Accepting.{IsTaken, IsNoAnswer, IsNearTaken, WritesReply, WritesNearReply, WritesAccepted}
use Rattle.road_run.specs.Commands.{LeavesAll, LeavesUnused, IsTold, RunPromises}
use Rattle.road_run.specs.Complete.{PromisedEnough}
use Rattle.road_run.specs.Sources.{RunTakes, HasEnded}
use Rattle.server_commands.specs.Guarding.{ServeFiles, guarded, unguarded}

-- ---- arguments that fit no command

module _ {D : Type 0} (g : Ghosts D) (old new : D) where
  -- the sink takes nothing
  nothing_is_written : (before now : List ℕ) → LeavesAll g old new (Some before) (Some now) → now ≡ before
  nothing_is_written before now h = h.silent

  -- and no image changes
  no_image_changes : (before now : Option (List ℕ)) → LeavesAll g old new before now → AtEachMoment g old new Stays
  no_image_changes before now h = h.disk

-- ---- the source

module _ (files : Option Folder) (s s' : ℕ) (before now : Option (List ℕ)) where
  -- `route` takes nothing from the source
  nothing_is_taken : (roads : List ℕ) (from to : ℕ) (left rest : List ℕ) (o : Result Conclusion Fault) → RunTakes (Some (Route roads from to)) files (Some left) (Some rest) s s' before now o → Some rest ≡ Some left
  nothing_is_taken roads from to left rest o h = h.kept

  -- a source that is reported to have failed has failed
  blame_has_a_cause : (roads : List ℕ) (from to : ℕ) (left rest : Option (List ℕ)) → RunTakes (Some (Route roads from to)) files left rest s s' before now (Err Source) → Rose s s'
  blame_has_a_cause roads from to left rest h = h.source refl

-- ---- a reply

module _ (p : Publication) (q : Query) (octets : List ℕ) where
  -- the octets written with status 0 are those that clients accept
  reply_is_taken : WritesReply p q (Some []) (Some octets) (Ok Done) → IsTaken p q octets
  reply_is_taken h = subst (IsTaken p q) (sym h.2) h.1

  -- for an unknown node, they are the reply that states this
  unknown_is_told : (id : ℕ) → WritesReply p q (Some []) (Some octets) (Err (UnknownNode id)) → IsNoAnswer q octets
  unknown_is_told id h = subst (IsNoAnswer q) (sym h.2) h.1

-- ---- sessions

module _ (hash sha : List ℕ → List ℕ) (first : State) (i : ℕ) (mine told reply : List ℕ) (own : is_form_of i (form_in first mine) ≡ true) where
  -- the reply to a session's first body is one that the first state may give
  alone : IsIsolated hash sha first (mine ∷ []) (reply ∷ []) → MayReply hash sha first mine reply
  alone h = h i [] [] mine [] reply [] refl refl refl own

  -- also after a body of another session
  behind_another : (other : List ℕ) → is_kept hash sha i first other ≡ false → IsIsolated hash sha first (other ∷ mine ∷ []) (told ∷ reply ∷ []) → MayReply hash sha first mine reply
  behind_another other strange h =
      subst (λ (b : Bool). MayReply hash sha (after hash sha first (if b then other ∷ [] else [])) mine reply) strange (h i (other ∷ []) [] mine (told ∷ []) reply [] refl refl refl own)

-- ---- the objects that a command does not use

module _ (library source sink disk : Type 0) where
  nothing_leaves : LeavesUnused None library source sink disk → library × source × sink × disk
  nothing_leaves h = h

  route_leaves : (roads : List ℕ) (from to : ℕ) → LeavesUnused (Some (Route roads from to)) library source sink disk → source × disk
  route_leaves roads from to h = h

  serve_leaves : (publication : List ℕ) → LeavesUnused (Some (Serve publication)) library source sink disk → disk
  serve_leaves publication h = h

  links_leave : LeavesUnused (Some Links) library source sink disk → library × source
  links_leave h = h

  survey_leaves : (width seed method queries : ℕ) → LeavesUnused (Some (Survey width seed method queries)) library source sink disk → library × source × disk
  survey_leaves width seed method queries h = h

  key_leaves : (secret : List ℕ) (kind : ℕ) → LeavesUnused (Some (Key secret kind)) library source sink disk → source
  key_leaves secret kind h = h

-- ---- a command that loads no file

-- it ends as the disk allows, or as its arguments do, also over a library that states nothing
module _ {D : Type 0} (g : Ghosts D) (old new : D) (l l' k k' : ℕ) (before now : Option (List ℕ)) where
  links_without_a_library : RunPromises g old new (Some Links) None l l' before now k k' (Ok Done) → (text : List ℕ) × EndsLinks (still_told g old new) (Ok Done) text × Appends before now text
  links_without_a_library r = r.command.answered

  desk_without_a_library : RunPromises g old new (Some Desk) None l l' before now k k' (Ok Done) → (text : List ℕ) × EndsDesk (still_told g old new) (Ok Done) text × Appends before now text
  desk_without_a_library r = r.command.answered

  survey_without_a_library : (width seed method queries : ℕ) → RunPromises g old new (Some (Survey width seed method queries)) None l l' before now k k' (Ok Done) → (text : List ℕ) × EndsSurvey width seed method queries (Ok Done) text × Appends before now text
  survey_without_a_library width seed method queries r = r.command.answered

-- mirrors matter only under `publish`
nothing_is_promised_for_a_route : {D M : Type 0} (puts room : M → ℕ) (g : Ghosts D) (old new : D) (roads : List ℕ) (from to : ℕ) (before now : Option (List ℕ)) (mirrors : List M) → PromisedEnough puts room g old new (Route roads from to) before now mirrors
nothing_is_promised_for_a_route puts room g old new roads from to before now mirrors = tt

-- ---- what must be known about the disk

-- nothing, for a command without a disk
route_asks_for_nothing : (roads : List ℕ) (from to : ℕ) (content : Option (List ℕ)) → IsTold (Route roads from to) content
route_asks_for_nothing roads from to content = tt

links_ask_for_the_disk : IsTold Links None → ⊥
links_ask_for_the_disk told = told refl

key_asks_for_the_disk : (secret : List ℕ) (kind : ℕ) → IsTold (Key secret kind) None → ⊥
key_asks_for_the_disk secret kind told = told refl

-- ---- accepted replies

-- an honest reply with another end was not accepted, nor one that was refused
refused_is_not_accepted : (IsLine : List ℕ → Type 0) (old new : Option (List ℕ)) → WritesAccepted IsLine old new (Ok Refused) → ⊥
refused_is_not_accepted IsLine old new h = h

evidence_is_not_accepted : (IsLine : List ℕ → Type 0) (old new : Option (List ℕ)) → WritesAccepted IsLine old new (Ok Evidence) → ⊥
evidence_is_not_accepted IsLine old new h = h

unknown_is_not_accepted : (IsLine : List ℕ → Type 0) (old new : Option (List ℕ)) (id : ℕ) → WritesAccepted IsLine old new (Err (UnknownNode id)) → ⊥
unknown_is_not_accepted IsLine old new id h = h

-- the line follows the octets that were written before
line_is_written : (IsLine : List ℕ → Type 0) (before now : List ℕ) → WritesAccepted IsLine (Some before) (Some now) (Ok Done) → (text : List ℕ) × IsLine text × (now ≡ before ++ text)
line_is_written IsLine before now h = h

-- the octets of a reply to a range query, written with status 0, are those that clients accept
reach_is_taken : (p : Publication) (q : NearQuery) (octets : List ℕ) → WritesNearReply p q (Some []) (Some octets) (Ok Done) → IsNearTaken p q octets
reach_is_taken p q octets h = subst (IsNearTaken p q) (sym h.2) h.1

-- ---- the end of the source

-- `serve` with status 0 found the end of its source, guarded or not
done_at_the_end : (named : ServeFiles) (Ended : Type 0) → HasEnded named (Ok Done) Ended → Ended
done_at_the_end named Ended h = h

-- so did a run that found a frame cut short
cut_at_the_end : (named : ServeFiles) (Ended : Type 0) → HasEnded named (Err TruncatedFrame) Ended → Ended
cut_at_the_end named Ended h = h

-- a refusal of an unsigned publication needs no end of the source; without a guard there is no such refusal
refused_by_the_guard : (publication key : List ℕ) (Ended : Type 0) → HasEnded (guarded publication key None) (Ok Refused) Ended
refused_by_the_guard publication key Ended = tt

refused_without_a_guard : (publication : List ℕ) (Ended : Type 0) → HasEnded (unguarded publication) (Ok Refused) Ended → Ended
refused_without_a_guard publication Ended h = h

-- a run whose sink failed states nothing about the end of its source
sink_says_nothing : (named : ServeFiles) (Ended : Type 0) → HasEnded named (Err Sink) Ended
sink_says_nothing named Ended = tt
