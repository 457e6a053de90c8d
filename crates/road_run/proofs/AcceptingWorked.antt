-- The definitions of honest parties and of released signatures, evaluated where they hold and where they do not.
use Rattle.std.proofs.Common.{◌≡◌, ◌≢◌, inl, inr, ℕ, ◌<◌, ◌≤◌, List, [], ◌∷◌, refl, arith}
use Rattle.std.specs.declared.option.Option.{Option}
use Rattle.std.specs.declared.option.Option.TheVariants.{None, Some}
use Rattle.std.specs.declared.result.Result.{Result}
use Rattle.std.specs.declared.result.Result.TheVariants.{Ok, Err}
use Rattle.road_io.specs.declared.disk.Disk.{Ghosts}
use Rattle.road_io.specs.Contents.{Folder}
use Rattle.road_io.specs.Moments.{EachImage, Image}
use Rattle.road_map.specs.declared.parts.Parts.{Parts}
use Rattle.book_model.specs.declared.items.Query.{Query}
use Rattle.proof_octets.specs.declared.publication.Publication.{Publication}
use Rattle.proof_octets.specs.declared.query.NearQuery.{NearQuery}
use Rattle.lms_tree.specs.declared.links.Link.{Link}
use Rattle.key_desk.specs.Runs.{Crashed}
use Rattle.desk_areas.specs.Layout.{SlotId, gate_at, IsSigned}
use Rattle.desk_sight.specs.Areas.{IsStrange}
use Rattle.desk_sight.specs.declared.strange.Strange.{Strange}
use Rattle.road_command.specs.Requests.{Request, Route, Prove, Check, Audit, CheckReach, AuditReach}
use Rattle.road_line.specs.VerdictLine.{accepted_line}
use Rattle.command_files.specs.Reading.{publication_at}
use Rattle.command_files.specs.declared.fault.Fault.{Fault}
use Rattle.command_files.specs.declared.fault.Fault.TheVariants.{Sink, Disk, MirrorLost}
use Rattle.command_files.specs.declared.ended.Conclusion.{Conclusion}
use Rattle.command_files.specs.declared.ended.Conclusion.TheVariants.{Done, Refused}
use Rattle.owner_commands.specs.Releases.{Release, AllApart}
use Rattle.road_run.specs.Accepting.{IsAcceptedLine, IsWithinLine, IsHonestFile, IsHonestReach, AcceptsHonest, IsOwnersDesk, IsHonestAudit, IsHonestReachAudit, FindsHonest, WritesReply, WritesNearReply, RepliesAreTaken}
use Rattle.road_run.specs.BehindLooks.{SignsOverNone}
use Rattle.road_run.specs.Lives.{where_written, Step, Broke, IsLife, StandAlong, NoneSignsTwice, EachTells}
use Rattle.road_run.specs.LivesInOrder.{EachCounts, InOrderAlong, StaysInOrder}

-- ---- honest parties

-- a publication older than the one that a client asks for is no honest reply to it
old_is_not_honest : (folder : Folder) (key reply : List ℕ) (q : Query) (least : ℕ) (chain : Option (List ℕ)) (p : Publication) → p.header.version < least → IsHonestFile folder key reply q least chain p → ⊥
old_is_not_honest folder key reply q least chain p old h = omega (arith, old, h.fresh)

old_is_no_honest_reach : (folder : Folder) (key reply : List ℕ) (q : NearQuery) (least : ℕ) (chain : Option (List ℕ)) (p : Publication) → p.header.version < least → IsHonestReach folder key reply q least chain p → ⊥
old_is_no_honest_reach folder key reply q least chain p old h = omega (arith, old, h.fresh)

-- an honest reply is not refused; of files that are not known nothing is asked
honest_is_not_refused : (folder : Folder) (key reply : List ℕ) (q : Query) (least : ℕ) (chain : Option (List ℕ)) (p : Publication) (old new : Option (List ℕ)) → IsHonestFile folder key reply q least chain p → AcceptsHonest (Check key reply q least chain) (Some folder) old new (Ok Refused) → ⊥
honest_is_not_refused folder key reply q least chain p old new honest h = h p honest

honest_reach_is_not_refused : (folder : Folder) (key reply : List ℕ) (q : NearQuery) (least : ℕ) (chain : Option (List ℕ)) (p : Publication) (old new : Option (List ℕ)) → IsHonestReach folder key reply q least chain p → AcceptsHonest (CheckReach key reply q least chain) (Some folder) old new (Ok Refused) → ⊥
honest_reach_is_not_refused folder key reply q least chain p old new honest h = h p honest

unknown_may_be_refused : (key reply : List ℕ) (q : Query) (least : ℕ) (chain : Option (List ℕ)) (old new : Option (List ℕ)) → AcceptsHonest (Check key reply q least chain) None old new (Ok Refused)
unknown_may_be_refused key reply q least chain old new = tt

-- a desk that is not known is nobody's
unknown_desk_is_no_owners : (key : List ℕ) (links : List Link) (p : Publication) → IsOwnersDesk None key links p → ⊥
unknown_desk_is_no_owners key links p h = let told : None ≡ Some h.image = h.told in cc

honest_audit_is_not_refused : (folder : Folder) (content : Option (List ℕ)) (key publication reply : List ℕ) (q : Query) (chain : Option (List ℕ)) (p : Publication) (old new : Option (List ℕ)) → IsHonestAudit content folder key publication reply q chain p
    → FindsHonest (Audit key publication reply q chain) (Some folder) content old new (Ok Refused) → ⊥
honest_audit_is_not_refused folder content key publication reply q chain p old new honest h = h p honest

honest_reach_audit_is_not_refused : (folder : Folder) (content : Option (List ℕ)) (key publication reply : List ℕ) (q : NearQuery) (chain : Option (List ℕ)) (p : Publication) (old new : Option (List ℕ)) → IsHonestReachAudit content folder key publication reply q chain p
    → FindsHonest (AuditReach key publication reply q chain) (Some folder) content old new (Ok Refused) → ⊥
honest_reach_audit_is_not_refused folder content key publication reply q chain p old new honest h = h p honest

route_accuses_nobody : (roads : List ℕ) (from to : ℕ) (files : Option Folder) (content old new : Option (List ℕ)) (o : Result Conclusion Fault) → FindsHonest (Route roads from to) files content old new o
route_accuses_nobody roads from to files content old new o = tt

-- the line of an accepted route is the one of what was accepted, which holds in the map
line_is_of_the_accepted : (parts : Parts) (q : Query) (text : List ℕ) (h : IsAcceptedLine parts q text) → text ≡ accepted_line h.accepted
line_is_of_the_accepted parts q text h = h.line

-- what `prove` writes over a publication is what `WritesReply` says
proof_is_taken : (file : List ℕ) (q : Query) (folder : Folder) (p : Publication) (old new : Option (List ℕ)) (o : Result Conclusion Fault) → publication_at folder file ≡ Ok p → RepliesAreTaken (Prove file q) (Some folder) old new o → WritesReply p q old new o
proof_is_taken file q folder p old new o read h = h p read

route_replies_nothing : (roads : List ℕ) (from to : ℕ) (files : Option Folder) (old new : Option (List ℕ)) (o : Result Conclusion Fault) → RepliesAreTaken (Route roads from to) files old new o
route_replies_nothing roads from to files old new o = tt

-- ---- lives

-- signatures are released where something may have been written, and only there
written_are_given : (P : Type 0) (it : P) (given : P → List Release) → where_written P (Ok Done) it given ≡ given it
written_are_given P it given = refl

lost_are_given : (P : Type 0) (it : P) (given : P → List Release) → where_written P (Err MirrorLost) it given ≡ given it
lost_are_given P it given = refl

unwritten_are_not : (P : Type 0) (given : P → List Release) → where_written P (Err Disk) tt given ≡ []
unwritten_are_not P given = refl

module _ {M : Type 0} (octets : M → Option (List ℕ)) (label handed puts room : M → ℕ) {D : Type 0} (g : Ghosts D) (disk : D) where
  -- a crash between two runs makes a life of one step, and releases nothing
  crash_is_a_life : (crashed : D) (before : List Release) → Crashed g (g.clock disk) disk crashed → IsLife octets label handed puts room g disk before ((crashed, before) ∷ [])
  crash_is_a_life crashed before is = (Broke is refl, tt)

  -- no key signs twice where nothing happens; a life in which two releases clash is none of those
  nothing_signs_twice : (before : List Release) → NoneSignsTwice octets label handed puts room g disk before [] tt
  nothing_signs_twice before = tt

  clash_signs_twice : (new : D) (before after : List Release) (life : IsLife octets label handed puts room g disk before ((new, after) ∷ [])) → (AllApart after → ⊥) → NoneSignsTwice octets label handed puts room g disk before ((new, after) ∷ []) life → ⊥
  clash_signs_twice new before after life clash h = clash h.2

  -- nothing is out of order where nothing happens; a life with an image out of order is none of those
  nothing_counts : (before : List Release) → EachCounts octets label handed puts room g disk before [] tt
  nothing_counts before = tt

  nothing_is_out_of_order : (before : List Release) → StaysInOrder octets label handed puts room g disk before [] tt
  nothing_is_out_of_order before = tt

  strange_is_out_of_order : (new : D) (image : List ℕ) (strange : Strange) → g.clock disk ≤ g.clock new → g.image_at new (g.clock disk) image → 0 < gate_at image 0 → IsStrange image strange → InOrderAlong octets label handed puts room g disk new → ⊥
  strange_is_out_of_order new image strange later held gate is h = h (g.clock disk) image (omega arith) later held gate strange is

  -- a pair that an image has signed comes from an image at the entry
  signed_has_an_image : (new : D) (asked : Option Request) (public : Option (List ℕ)) (image : List ℕ) (slot : SlotId) (text : List ℕ) → g.clock disk ≤ g.clock new → g.image_at new (g.clock disk) image → IsSigned image slot text → ((d : List ℕ) → Image g disk d → ⊥) → SignsOverNone g disk new asked public → ⊥
  signed_has_an_image new asked public image slot text later held signed none h =
      let from = h (g.clock disk) image (omega arith) later held slot text signed in none from.0 from.1
