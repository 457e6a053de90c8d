-- Runs over honest files: a run that refuses them, or finds evidence in them, is none.
use Rattle.std.proofs.Common.{◌≡◌, ℕ, List, [], ◌∷◌, sym, subst}
use Rattle.std.specs.declared.option.Option.{Option}
use Rattle.std.specs.declared.option.Option.TheVariants.{Some}
use Rattle.std.specs.declared.result.Result.TheVariants.{Ok, Err}
use Rattle.road_io.specs.Contents.{Folder}
use Rattle.book_model.specs.declared.items.Query.{Query}
use Rattle.proof_octets.specs.declared.publication.Publication.{Publication}
use Rattle.proof_octets.specs.declared.query.NearQuery.{NearQuery}
use Rattle.near_proof.specs.Honest.{AreKnown}
use Rattle.road_command.specs.Requests.{Request, Prove, Check, Audit, CheckReach, AuditReach}
use Rattle.command_books.specs.Installing.{IsInstallable}
use Rattle.command_files.specs.Reading.{publication_at}
use Rattle.command_files.specs.declared.fault.Fault.TheVariants.{UnknownNode}
use Rattle.command_files.specs.declared.ended.Conclusion.TheVariants.{Done, Refused, Evidence}
use Rattle.road_run.specs.Accepting.{IsHonestFile, IsHonestReach, IsHonestAudit, IsHonestReachAudit, IsTaken}
use Rattle.road_run.proofs.WorkedObjects.{Shelf}
use Rattle.road_run.proofs.WorkedRuns.{Over, Outcome, input, disk}

-- over these files, with a sink that has taken this, and with this end
abbrev Ended : Request → Folder → Shelf → List ℕ → ℕ → Outcome → Type 0
Ended request folder l taken exit o = Over (Some request) folder l input (record { taken = taken; faults = 0 }) disk (4 ∷ []) exit o

module _ (folder : Folder) (l : Shelf) (files : l.files ≡ folder) (key publication reply : List ℕ) (chain : Option (List ℕ)) (p : Publication) (text : List ℕ) where
  -- the files after the run are those before
  held : (P : Folder → Type 0) → P folder → P l.files
  held P is = subst P (sym files) is

  -- `check` and `check-reach` refuse no honest reply
  honest_is_not_refused : (q : Query) (least : ℕ) → IsHonestFile folder key reply q least chain p → Ended (Check key reply q least chain) folder l text 1 (Ok Refused) → ⊥
  honest_is_not_refused q least honest h = h.honest p (held (λ (f : Folder). IsHonestFile f key reply q least chain p) honest)

  honest_reach_is_not_refused : (q : NearQuery) (least : ℕ) → IsHonestReach folder key reply q least chain p → Ended (CheckReach key reply q least chain) folder l text 1 (Ok Refused) → ⊥
  honest_reach_is_not_refused q least honest h = h.honest p (held (λ (f : Folder). IsHonestReach f key reply q least chain p) honest)

  -- `audit` and `audit-reach` find no evidence in one
  honest_is_no_evidence : (q : Query) → IsHonestAudit (Some []) folder key publication reply q chain p → Ended (Audit key publication reply q chain) folder l text 10 (Ok Evidence) → ⊥
  honest_is_no_evidence q honest h = h.right p (held (λ (f : Folder). IsHonestAudit (Some []) f key publication reply q chain p) honest)

  honest_reach_is_no_evidence : (q : NearQuery) → IsHonestReachAudit (Some []) folder key publication reply q chain p → Ended (AuditReach key publication reply q chain) folder l text 10 (Ok Evidence) → ⊥
  honest_reach_is_no_evidence q honest h = h.right p (held (λ (f : Folder). IsHonestReachAudit (Some []) f key publication reply q chain p) honest)

  -- what `prove` writes is taken, and over known ends it is no reply that an end is unknown
  untaken_is_not_written : (q : Query) → publication_at folder publication ≡ Ok p → (IsTaken p q text → ⊥) → Ended (Prove publication q) folder l text 0 (Ok Done) → ⊥
  untaken_is_not_written q read untaken h = let wrote = h.taken p (held (λ (f : Folder). publication_at f publication ≡ Ok p) read) in untaken (subst (IsTaken p q) (sym wrote.2) wrote.1)

  known_is_not_unknown : (q : Query) (id : ℕ) → publication_at folder publication ≡ Ok p → IsInstallable p → AreKnown p.parts q → Ended (Prove publication q) folder l text 11 (Err (UnknownNode id)) → ⊥
  known_is_not_unknown q id read installable known h = h.proves p (held (λ (f : Folder). publication_at f publication ≡ Ok p) read) installable known
