-- What a run requires of each command, and what each command does on the disk: where it holds, and where it does not.
use Rattle.std.proofs.Common.{◌≡◌, inl, inr, ℕ, ◌<◌, ◌≤◌, List, [], ◌∷◌, length, Contains, refl, sym, ap, subst, arith}
use Rattle.std.specs.declared.option.Option.{Option}
use Rattle.std.specs.declared.option.Option.TheVariants.{None, Some}
use Rattle.std.specs.declared.result.Result.{Result}
use Rattle.std.specs.declared.result.Result.TheVariants.{Ok, Err}
use Rattle.road_map.proofs.Among.{Contains-none, Contains-here, Contains-cases}
use Rattle.book_model.specs.declared.items.Query.{Query}
use Rattle.book_model.specs.declared.settings.Settings.{Settings}
use Rattle.mirror_out.specs.Mirrors.{PromisedLess}
use Rattle.publication_out.specs.Sent.{pieces_in}
use Rattle.proof_octets.specs.declared.publication.Publication.{Publication}
use Rattle.proof_octets.specs.declared.query.NearQuery.{NearQuery}
use Rattle.proof_octets.specs.Publications.{publication_text}
use Rattle.desk_areas.proofs.Areas.{open_first, open_down}
use Rattle.road_command.specs.Requests.{Request, Route, Root, Dimacs, Key, Succeed, Links, Desk, Publish, Prove, Serve, ServeSigned, Check, Audit, Survey, Reach, CheckReach, AuditReach, Reduce}
use Rattle.command_files.specs.declared.fault.Fault.{Fault}
use Rattle.command_files.specs.declared.fault.Fault.TheVariants.{Missing, TruncatedFrame, UnknownNode, Disk, MirrorLost}
use Rattle.command_files.specs.declared.ended.Conclusion.{Conclusion}
use Rattle.command_files.specs.declared.ended.Conclusion.TheVariants.{Done, Evidence}
use Rattle.owner_commands.specs.Signing.{StandsOnDisk}
use Rattle.server_commands.specs.Guarding.{guarded, unguarded}
use Rattle.road_run.specs.Forms.{Uses, ArgumentsAlone, FilesAlone, DiskAlone, FilesAndDisk, FilesAndSource, LeavesMirrors, HandsPublication, form_of}
use Rattle.road_run.specs.Commands.{OnDisk, OnMirrors, WritesBehindSync, LeavesUnused, LeavesAll, IsTold, no_files}
use Rattle.road_run.specs.Complete.{PromisedFor, CallsFor}
use Rattle.road_run.specs.Gone.{OnGone}
use Rattle.road_run.proofs.WorkedObjects.{Film, film, still, film_stays, octets_do_not_stay, empty_signs_nothing}

-- ---- the objects that each command uses

module _ (a b c : List ℕ) (n m : ℕ) (q : Query) (r : NearQuery) (s : Settings) (chain : Option (List ℕ)) where
  abbrev uses_of : Request → Uses
  uses_of request = (form_of request).uses

  -- of files alone
  files_alone : (uses_of (Route a n m) ≡ FilesAlone) × (uses_of (Root a n) ≡ FilesAlone) × (uses_of (Dimacs a b) ≡ FilesAlone) × (uses_of (Prove a q) ≡ FilesAlone) × (uses_of (Check a b q n chain) ≡ FilesAlone) × (uses_of (Reach a r) ≡ FilesAlone)
      × (uses_of (CheckReach a b r n chain) ≡ FilesAlone)
  files_alone = (refl, refl, refl, refl, refl, refl, refl)

  -- of files and the disk
  files_and_disk : (uses_of (Key a n) ≡ FilesAndDisk) × (uses_of (Succeed a n) ≡ FilesAndDisk) × (uses_of (Publish a s) ≡ FilesAndDisk) × (uses_of (Audit a b c q chain) ≡ FilesAndDisk) × (uses_of (AuditReach a b c r chain) ≡ FilesAndDisk)
      × (uses_of (Reduce a b c) ≡ FilesAndDisk)
  files_and_disk = (refl, refl, refl, refl, refl, refl)

  -- of the disk alone, of nothing, and of files and the source
  disk_alone : (uses_of Links ≡ DiskAlone) × (uses_of Desk ≡ DiskAlone)
  disk_alone = (refl, refl)

  survey_needs_nothing : uses_of (Survey n m n m) ≡ ArgumentsAlone
  survey_needs_nothing = refl

  services : (uses_of (Serve a) ≡ FilesAndSource (unguarded a)) × (uses_of (ServeSigned a b chain) ≡ FilesAndSource (guarded a b chain))
  services = (refl, refl)

  -- and no other objects
  route_uses_no_disk : uses_of (Route a n m) ≡ FilesAndDisk → ⊥
  route_uses_no_disk e = cc

  links_use_no_file : uses_of Links ≡ FilesAndDisk → ⊥
  links_use_no_file e = cc

  guarded_is_not_unguarded : uses_of (ServeSigned a b chain) ≡ FilesAndSource (unguarded a) → ⊥
  guarded_is_not_unguarded e = let names = ap (λ (uses : Uses). guard_of uses) e in cc
    where
      guard_of : Uses → Option (List ℕ × Option (List ℕ))
      guard_of (FilesAndSource named) = named.guard
      guard_of uses = None

  -- ---- the mirrors

  -- `publish` alone hands them anything
  publish_hands : (form_of (Publish a s)).to_mirrors ≡ HandsPublication
  publish_hands = refl

  route_hands_nothing : (form_of (Route a n m)).to_mirrors ≡ HandsPublication → ⊥
  route_hands_nothing e = cc

  succeed_hands_nothing : (form_of (Succeed a n)).to_mirrors ≡ HandsPublication → ⊥
  succeed_hands_nothing e = cc

  -- ---- names and reports

  audit_names : (form_of (Audit a b c q (Some a))).names ≡ a ∷ b ∷ c ∷ a ∷ []
  audit_names = refl

  serve_names : (form_of (ServeSigned a b None)).names ≡ a ∷ b ∷ []
  serve_names = refl

  reduce_names_in_order : (form_of (Reduce [] (1 ∷ []) [])).names ≡ (1 ∷ []) ∷ [] ∷ [] ∷ [] → ⊥
  reduce_names_in_order e = let first = ap (λ (names : List (List ℕ)). first_of names) e in cc
    where
      first_of : List (List ℕ) → List ℕ
      first_of [] = []
      first_of (name ∷ names) = name

  -- a service tells of a frame that was cut short, and `prove` of an unknown node and of no frame; `check` tells of no node
  serve_tells_of_frames : (form_of (Serve a)).tells TruncatedFrame
  serve_tells_of_frames = tt

  prove_tells_of_nodes : (form_of (Prove a q)).tells (UnknownNode n)
  prove_tells_of_nodes = tt

  prove_tells_of_no_frame : (form_of (Prove a q)).tells TruncatedFrame → ⊥
  prove_tells_of_no_frame told = told

  check_tells_of_no_node : (form_of (Check a b q n chain)).tells (UnknownNode n) → ⊥
  check_tells_of_no_node told = told

  -- ---- unused objects

  -- `route` may use its library and its sink, and no other object
  route_may_use : LeavesUnused (Some (Route a n m)) ⊥ (Unit {0}) ⊥ (Unit {0})
  route_may_use = (tt, tt)

  route_leaves_the_disk : LeavesUnused (Some (Route a n m)) (Unit {0}) (Unit {0}) (Unit {0}) ⊥ → ⊥
  route_leaves_the_disk left = left.1

  route_leaves_the_source : LeavesUnused (Some (Route a n m)) (Unit {0}) ⊥ (Unit {0}) (Unit {0}) → ⊥
  route_leaves_the_source left = left.0

  serve_may_use : LeavesUnused (Some (Serve a)) ⊥ ⊥ ⊥ (Unit {0})
  serve_may_use = tt

  links_leave_the_library : LeavesUnused (Some Links) ⊥ (Unit {0}) (Unit {0}) (Unit {0}) → ⊥
  links_leave_the_library left = left.0

  publish_leaves_the_source : LeavesUnused (Some (Publish a s)) ⊥ ⊥ ⊥ ⊥ → ⊥
  publish_leaves_the_source left = left

  words_leave_the_sink : LeavesUnused None (Unit {0}) (Unit {0}) ⊥ (Unit {0}) → ⊥
  words_leave_the_sink left = left.2

  -- ---- what must be known

  links_are_told : (content : List ℕ) → IsTold Links (Some content)
  links_are_told content e = cc

  survey_is_told : (content : Option (List ℕ)) → IsTold (Survey n m n m) content
  survey_is_told content = tt

  serve_is_never_told : (content : Option (List ℕ)) → IsTold (Serve a) content → ⊥
  serve_is_never_told content told = told

-- ---- arguments that fit no command

nothing_changes : (octets : List ℕ) → LeavesAll film (still octets) (still octets) (Some octets) (Some octets)
nothing_changes octets = record { silent = refl; disk = film_stays (still octets) }

an_octet_changes : LeavesAll film (still []) (still []) (Some []) (Some (7 ∷ [])) → ⊥
an_octet_changes left = let e : ◌≡◌ {A = List ℕ} (7 ∷ []) [] = left.silent in cc

an_image_changes : LeavesAll film (still []) (still (7 ∷ [])) (Some []) (Some []) → ⊥
an_image_changes left = octets_do_not_stay [] (7 ∷ []) (λ e. cc) left.disk

-- ---- the owner's disk

missing_is_no_value : {X : Type 0} (x : X) → ◌≡◌ {A = Result X Fault} (Err Missing) (Ok x) → ⊥
missing_is_no_value x e = cc

abbrev Before : Request → Film → Film → Result Conclusion Fault → Type 0
Before request old new outcome = OnDisk film old new request (Some no_files) (Some []) (Some []) outcome

-- a missing file changes no image, under each command
module _ (a b c : List ℕ) (n m : ℕ) (q : Query) (r : NearQuery) (s : Settings) (chain : Option (List ℕ)) (disk : Film) where
  route_keeps_the_disk : Before (Route a n m) disk disk (Err Missing)
  route_keeps_the_disk = film_stays disk

  key_keeps_the_disk : Before (Key a n) disk disk (Err Missing)
  key_keeps_the_disk = record {
    made = tt;
    held = λ is_open. film_stays disk;
    kept = λ content is is_open e. cc;
    moments = inl (film_stays disk);
    untouched = film_stays disk;
  }

  succeed_keeps_the_disk : Before (Succeed a n) disk disk (Err Missing)
  succeed_keeps_the_disk = record {
    made = tt;
    links = inl (film_stays disk);
    keys = record {
      later = omega arith;
      past = λ k i early is. is;
      each = λ k i from to is. (let e : k ≡ disk.clock = omega arith in (i, subst (λ (n : ℕ). i ≡ disk.image n) e is, λ area is_open. refl));
    };
    follows = tt;
    untouched = film_stays disk;
    few = omega arith;
  }

  desk_keeps_the_disk : (outcome : Result Conclusion Fault) → Before Desk disk disk outcome
  desk_keeps_the_disk outcome = film_stays disk

  links_keep_the_disk : Before Links disk disk (Err Disk)
  links_keep_the_disk = (film_stays disk, tt)

  publish_keeps_the_disk : Before (Publish a s) disk disk (Err Missing)
  publish_keeps_the_disk = (tt, inl (film_stays disk), film_stays disk, omega arith)

  reduce_keeps_the_disk : Before (Reduce a b c) disk disk (Err Missing)
  reduce_keeps_the_disk = (film_stays disk, tt)

  audit_keeps_the_disk : Before (Audit a b c q chain) disk disk (Err Missing)
  audit_keeps_the_disk = (film_stays disk, tt, λ k links p x file. absurd (missing_is_no_value k file.key_read))

  audit_reach_keeps_the_disk : Before (AuditReach a b c r chain) disk disk (Err Missing)
  audit_reach_keeps_the_disk = (film_stays disk, tt, λ k links p x file. absurd (missing_is_no_value k file.key_read))

-- none of them goes from octets to other ones
module _ (a b c : List ℕ) (n m : ℕ) (q : Query) (r : NearQuery) (s : Settings) (chain : Option (List ℕ)) where
  abbrev empty : Film
  empty = still []

  abbrev full : Film
  full = still (7 ∷ [])

  differ : ◌≡◌ {A = List ℕ} (7 ∷ []) [] → ⊥
  differ e = cc

  route_writes_no_image : Before (Route a n m) empty full (Err Missing) → ⊥
  route_writes_no_image h = octets_do_not_stay [] (7 ∷ []) differ h

  desk_writes_no_image : (outcome : Result Conclusion Fault) → Before Desk empty full outcome → ⊥
  desk_writes_no_image outcome h = octets_do_not_stay [] (7 ∷ []) differ h

  key_writes_no_image : Before (Key a n) empty full (Err Missing) → ⊥
  key_writes_no_image h = octets_do_not_stay [] (7 ∷ []) differ h.untouched

  succeed_writes_no_image : Before (Succeed a n) empty full (Err Missing) → ⊥
  succeed_writes_no_image h = octets_do_not_stay [] (7 ∷ []) differ h.untouched

  publish_writes_no_image : Before (Publish a s) empty full (Err Missing) → ⊥
  publish_writes_no_image h = octets_do_not_stay [] (7 ∷ []) differ h.2

  links_write_no_image : (outcome : Result Conclusion Fault) → Before Links empty full outcome → ⊥
  links_write_no_image outcome h = octets_do_not_stay [] (7 ∷ []) differ h.0

  reduce_writes_no_image : (outcome : Result Conclusion Fault) → Before (Reduce a b c) empty full outcome → ⊥
  reduce_writes_no_image outcome h = octets_do_not_stay [] (7 ∷ []) differ h.0

  audit_writes_no_image : (outcome : Result Conclusion Fault) → Before (Audit a b c q chain) empty full outcome → ⊥
  audit_writes_no_image outcome h = octets_do_not_stay [] (7 ∷ []) differ h.0

  audit_reach_writes_no_image : (outcome : Result Conclusion Fault) → Before (AuditReach a b c r chain) empty full outcome → ⊥
  audit_reach_writes_no_image outcome h = octets_do_not_stay [] (7 ∷ []) differ h.0

  -- without files, no line is evidence, and no accepted line has its support
  reduce_finds_nothing : Before (Reduce a b c) empty empty (Ok Evidence) → ⊥
  reduce_finds_nothing h = missing_is_no_value h.1.0 h.1.2.text_is

  audit_finds_nothing : Before (Audit a b c q chain) empty empty (Ok Done) → ⊥
  audit_finds_nothing h = missing_is_no_value h.1.key h.1.key_read

  -- on a disk without octets no map is signed, and no chain of keys stands
  publish_signs_nothing : Before (Publish a s) empty empty (Ok Done) → ⊥
  publish_signs_nothing h = empty_signs_nothing _ _ (h.0.on_disk.stands [] refl)

  links_chain_nothing : Before Links empty empty (Ok Done) → ⊥
  links_chain_nothing h =
      let current = h.1.chain.stand.current [] refl in
      let gate = open_first [] (open_down [] 0 h.1.chain.last (omega arith) current.is_open) in omega (arith, gate)

-- ---- what the mirrors promised

module _ {M : Type 0} (puts room : M → ℕ) (old new : Film) (text : List ℕ) where
  -- no mirror promised too little where there is none, or for a command that hands them nothing
  none_is_enough : PromisedFor puts room film old new HandsPublication (Some []) (Some text) []
  none_is_enough p stands written m among = absurd (Contains-none m among)

  unhanded_is_enough : (mirrors : List M) → PromisedFor puts room film old new LeavesMirrors (Some []) (Some text) mirrors
  unhanded_is_enough mirrors = tt

  -- one that promised as many puts and octets as the written text needs promised enough
  exact_is_enough : (m : M) → pieces_in text ≤ puts m → length text ≤ room m → PromisedFor puts room film old new HandsPublication (Some []) (Some text) (m ∷ [])
  exact_is_enough m few short p stands written other among = of other (elim (Contains-cases m other [] among) [ inl is ↦ is | inr none ↦ absurd (Contains-none other none) ])
    where
      same : text ≡ publication_text p
      same = written

      of : (other : M) → m ≡ other → PromisedLess (pieces_in (publication_text p)) (publication_text p) (puts other) (room other) → ⊥
      of other is less = at (subst (λ (t : List ℕ). PromisedLess (pieces_in t) t (puts other) (room other)) (sym same) less)
        where
          at : PromisedLess (pieces_in text) text (puts other) (room other) → ⊥
          at (inl less) = let e : puts m ≡ puts other = ap puts is in omega (arith, few, less, e)
          at (inr less) = let e : room m ≡ room other = ap room is in omega (arith, short, less, e)

  -- one that promised an octet less did not, if the text is that of a publication on the disk
  less_is_not_enough : (m : M) (p : Publication) → StandsOnDisk film old new p → publication_text p ≡ text → room m < length text → PromisedFor puts room film old new HandsPublication (Some []) (Some text) (m ∷ []) → ⊥
  less_is_not_enough m p stands is short enough = enough p stands (sym is) m (Contains-here m []) (inr (subst (λ (t : List ℕ). room m < length t) (sym is) short))

-- ---- mirrors, and those that are gone

module _ (a : List ℕ) (s : Settings) {M : Type 0} (octets : M → Option (List ℕ)) (label handed puts room faults : M → ℕ) (m : M) where
  -- a `publish` whose file is missing keeps its mirrors, and none is gone
  missing_keeps_mirrors : OnMirrors octets label handed puts room film (still []) (still []) (Some (Publish a s)) (Some []) (Some []) (m ∷ []) (m ∷ []) (Err Missing)
  missing_keeps_mirrors = record { sealed = tt; still = refl }

  missing_loses_none : OnGone octets label handed puts room faults film (still []) (still []) (Some (Publish a s)) (Some []) (Some []) (m ∷ []) (m ∷ []) [] [] (Err Missing)
  missing_loses_none = record { sealed = tt; still = refl }

  missing_drops_none : OnMirrors octets label handed puts room film (still []) (still []) (Some (Publish a s)) (Some []) (Some []) (m ∷ []) [] (Err Missing) → ⊥
  missing_drops_none h = let e = h.still in cc

  missing_adds_none : OnGone octets label handed puts room faults film (still []) (still []) (Some (Publish a s)) (Some []) (Some []) (m ∷ []) [] [] (m ∷ []) (Err Missing) → ⊥
  missing_adds_none h = let e = h.still in cc

  -- nothing is handed out without a header on the disk, and a mirror is not gone for nothing
  unsealed_is_not_done : OnMirrors octets label handed puts room film (still []) (still []) (Some (Publish a s)) (Some []) (Some (7 ∷ [])) (m ∷ []) (m ∷ []) (Ok Done) → ⊥
  unsealed_is_not_done h = empty_signs_nothing _ _ (h.sealed.on_disk.stands [] refl)

  unsealed_loses_none : OnGone octets label handed puts room faults film (still []) (still []) (Some (Publish a s)) (Some []) (Some (7 ∷ [])) (m ∷ []) [] [] (m ∷ []) (Err MirrorLost) → ⊥
  unsealed_loses_none h = empty_signs_nothing _ _ (h.sealed.on_disk.stands [] refl)

  words_keep_mirrors : OnMirrors octets label handed puts room film (still []) (still []) None (Some []) (Some []) (m ∷ []) (m ∷ []) (Err Missing)
  words_keep_mirrors = refl

  words_lose_none : OnGone octets label handed puts room faults film (still []) (still []) None (Some []) (Some []) (m ∷ []) [] [] (m ∷ []) (Err Missing) → ⊥
  words_lose_none e = cc

  unsynced_octet : (o : Result Conclusion Fault) → WritesBehindSync octets label handed puts room film (still []) (still []) (Some (Publish a s)) (Some []) (Some (7 ∷ [])) (m ∷ []) (m ∷ []) o → ⊥
  unsynced_octet o (inl (same, kept)) = absurd (cc)
  unsynced_octet o (inr sealed) = empty_signs_nothing _ _ (sealed.on_disk.stands [] refl)

-- ---- complete runs

missing_is_called_for : (content left : Option (List ℕ)) (a : List ℕ) (n m : ℕ) → CallsFor content left (Route a n m) no_files (Err Missing) []
missing_is_called_for content left a n m = (refl, refl)
