-- No one-time key signs twice, over whole lives of an owner's disk.
use Rattle.std.proofs.Common.{◌≡◌, ◌≢◌, ℕ, ◌≤◌, List, [], ◌∷◌, map, arith, refl, sym, subst, IfSome, IfNone}
use Rattle.std.specs.List.{All, range_with_len}
use Rattle.std.specs.Option.{ForSome}
use Rattle.std.specs.declared.option.Option.{Option}
use Rattle.std.specs.declared.option.Option.TheVariants.{None, Some}
use Rattle.std.specs.declared.result.Result.{Result}
use Rattle.std.specs.declared.result.Result.TheVariants.{Ok, Err}
use Rattle.std.proofs.lemmas.List.Elements.{All-nil, All-append}
use Rattle.road_io.specs.declared.disk.Disk.{Ghosts}
use Rattle.road_io.specs.Moments.{Image, EachImage, AtEachMoment, still_told}
use Rattle.road_io.proofs.StillTold.{both_told}
use Rattle.road_io.specs.Contents.{Folder}
use Rattle.desk_areas.specs.Layout.{IsOpen}
use Rattle.key_desk.specs.Stands.{SameKeys}
use Rattle.desk_sight.specs.declared.looking.Use.{Use}
use Rattle.desk_sight.specs.Looks.{Spends}
use Rattle.road_command.specs.Requests.{Request, Key, Succeed, Links, Publish, Audit, AuditReach, Reduce}
use Rattle.command_files.specs.declared.fault.Fault.{Fault}
use Rattle.command_files.specs.declared.fault.Fault.TheVariants.{Sink, MirrorLost}
use Rattle.command_files.specs.declared.ended.Conclusion.{Conclusion}
use Rattle.owner_commands.specs.Signing.{OnWriting, SpreadSealed}
use Rattle.owner_commands.specs.StandingKeys.{FollowsByFile, WroteChain}
use Rattle.desk_areas.specs.Keys.{key_from}
use Rattle.owner_commands.specs.Releases.{Release, header_release, link_release, IsReleasedFrom, AllStand, AllApart}
use Rattle.owner_commands.proofs.ReleaseLaws.{Adds, adds_none, adds_header, adds_chain, adds_link, apart_append, keys_stay, keys_published, pair_of, stand_as_pairs, given_after, given_open}
use Rattle.road_run.specs.Commands.{OnDisk, OnMirrors, LeavesAll}
use Rattle.road_run.specs.Lives.{where_written, Run, given_by, given, Step, Ran, Cut, Broke, Spent, SpentCut, EachTells, IsLife, StandWithin, NoneSignsTwice}

-- a fact about no release, and about the releases if something was written
written : (P : Type 0) (o : Result Conclusion Fault) (it : OnWriting o P) (f : P → List Release) (Q : List Release → Type 0) → Q [] → ((p : P) → Q (f p)) → Q (where_written P o it f)
written P (Ok v) it f Q none each = each it
written P (Err Sink) it f Q none each = each it
written P (Err MirrorLost) it f Q none each = each it
written P (Err fault) it f Q none each = none

-- the stated content, if there is any
some_told : (told : Option (List ℕ)) → told ≢ None → (c : List ℕ) × (told ≡ Some c)
some_told None some = absurd (some refl)
some_told (Some c) some = (c, refl)

-- if the disks of a life state their contents, so does its first disk
first_tells : {D : Type 0} (g : Ghosts D) (disk : D) (states : List (D × List Release)) → EachTells g disk states → g.content disk ≢ None
first_tells g disk [] told = told
first_tells g disk (state ∷ states) told = told.0

module _ {D : Type 0} (g : Ghosts D) (old new : D) (files : Option Folder) (taken_before taken_now : Option (List ℕ)) (o : Result Conclusion Fault) (opened : ForSome (g.content old) IsOpen) where
  -- over a disk with a key no command changes the keys of its open areas
  keys_of : (asked : Option Request) → IfNone asked (LeavesAll g old new taken_before taken_now) → IfSome asked (λ request. OnDisk g old new request files taken_before taken_now o) → AtEachMoment g old new SameKeys
  keys_of None nothing on_disk = keys_stay g old new nothing.disk
  keys_of (Some (Key secret kind)) nothing on_disk = keys_stay g old new (on_disk.held opened)
  keys_of (Some (Succeed secret kind)) nothing on_disk = on_disk.keys
  keys_of (Some Links) nothing on_disk = keys_stay g old new on_disk.0
  keys_of (Some (Publish roads settings)) nothing on_disk = keys_published g old new files roads settings on_disk.1
  keys_of (Some (Audit key publication reply q chain)) nothing on_disk = keys_stay g old new on_disk.0
  keys_of (Some (AuditReach key publication reply q chain)) nothing on_disk = keys_stay g old new on_disk.0
  keys_of (Some (Reduce key text signature)) nothing on_disk = keys_stay g old new on_disk.0
  keys_of (Some request) nothing on_disk = keys_stay g old new on_disk

module _ {M : Type 0} (octets : M → Option (List ℕ)) (label handed puts room : M → ℕ) {D : Type 0} (g : Ghosts D) (reads : (d : D) (c : List ℕ) → g.content d ≡ Some c → Image g d c) where
  -- at each moment of a run, the earlier releases remain
  kept : (old new : D) → Run octets label handed puts room g old new → (before : List Release) → EachImage g old (AllStand before) → (k : ℕ) (i : List ℕ) → g.clock old ≤ k → k ≤ g.clock new → g.image_at new k i → AllStand before i
  kept old new run [] here k i from to h = All-nil (IsReleasedFrom i)
  kept old new run (r ∷ rest) here k i from to h =
      let opened : ForSome (g.content old) IsOpen = λ c is. given_open c r rest (here c (reads old c is)) in
      let keys = keys_of g old new run.files run.taken_before run.taken_now run.outcome opened run.asked run.promised.nothing run.promised.on_disk in
      let d = keys.each k i from to h in
      given_after d.0 i (r ∷ rest) d.2 (here d.0 d.1) (run.promised.stands.each (map pair_of (r ∷ rest)) (stand_as_pairs g old (r ∷ rest) here) k i from to h)

  -- and at each moment of a spending
  kept_spent : (what : Use) (old new : D) → Spends g what old new → (before : List Release) → EachImage g old (AllStand before) → (k : ℕ) (i : List ℕ) → g.clock old ≤ k → k ≤ g.clock new → g.image_at new k i → AllStand before i
  kept_spent what old new spends before here k i from to h =
      let d = spends.keys.each k i from to h in
      given_after d.0 i before d.2 (here d.0 d.1) (spends.stands.each (map pair_of before) (stand_as_pairs g old before here) k i from to h)

  -- what a run releases
  adds_by : (old new : D) (before : List Release) (c n : List ℕ) → still_told g old new ≡ Some c → AllStand before c → Image g new n → AllStand before n
      → (asked : Option Request) (files : Option Folder) (taken_before taken_now : Option (List ℕ)) (mirrors_before mirrors_now : List M) (o : Result Conclusion Fault)
      → (on_disk : IfSome asked (λ request. OnDisk g old new request files taken_before taken_now o)) (mirrored : OnMirrors octets label handed puts room g old new asked taken_before taken_now mirrors_before mirrors_now o)
      → Adds g new before (given_by octets label handed puts room g old new asked files taken_before taken_now mirrors_before mirrors_now o on_disk mirrored)
  adds_by old new before c n told was image now (Some (Publish roads settings)) files tb tn mb mn o on_disk mirrored =
      written (SpreadSealed octets label handed puts room g old new tb tn mb mn o) o mirrored.sealed (λ it. header_release it.on_disk.key it.on_disk.area it.publication ∷ []) (Adds g new before)
      (adds_none g new before) (λ it. adds_header g new before n image now old c told was it.publication it.on_disk)
  adds_by old new before c n told was image now (Some (Succeed secret kind)) files tb tn mb mn o on_disk mirrored =
      written (FollowsByFile g new files secret kind) o on_disk.follows (λ it. link_release it.follows.keys it.follows.before ∷ []) (Adds g new before)
      (adds_none g new before) (λ it. adds_link g new before n image now (key_from kind it.secret) it.follows)
  adds_by old new before c n told was image now (Some Links) files tb tn mb mn o on_disk mirrored =
      written (WroteChain g new tb tn o) o on_disk.1 (λ it. map (link_release it.chain.keys) (range_with_len 0 it.chain.last)) (Adds g new before)
      (adds_none g new before) (λ it. adds_chain g new before n image now it.chain.last it.chain.keys it.chain.stand)
  adds_by old new before c n told was image now asked files tb tn mb mn o on_disk mirrored = adds_none g new before

  module _ (old new : D) (told_before : g.content old ≢ None) (told_now : g.content new ≢ None) where
    adds_run : (run : Run octets label handed puts room g old new) (before : List Release) → EachImage g old (AllStand before) → Adds g new before (given octets label handed puts room g old new run)
    adds_run run before here =
        let c = some_told (g.content old) told_before in
        let n = some_told (g.content new) told_now in
        let image : Image g new n.0 = reads new n.0 n.1 in
        adds_by old new before c.0 n.0 (both_told (g.content old) (g.content new) c.0 n.0 n.1 c.1) (here c.0 (reads old c.0 c.1)) image (kept old new run before here (g.clock new) n.0 run.promised.stands.later (omega arith) image)
        run.asked run.files run.taken_before run.taken_now run.mirrors_before run.mirrors_now run.outcome run.promised.on_disk run.mirrored

    -- one step
    stepped : (before after : List Release) → Step octets label handed puts room g old new before after → EachImage g old (AllStand before) → AllApart before
        → EachImage g new (AllStand after) × AllApart after
    stepped before after (Ran run more) here apart =
        let adds = adds_run run before here in (
          subst (λ (all : List Release). EachImage g new (AllStand all)) (sym more)
              (λ i now. All-append (IsReleasedFrom i) before (given octets label handed puts room g old new run) (kept old new run before here (g.clock new) i run.promised.stands.later (omega arith) now) (adds.stand i now)),
          subst AllApart (sym more) (apart_append before (given octets label handed puts room g old new run) apart adds.apart adds.cross),
        )
    stepped before after (Cut called run k from to crashed same) here apart = (
      subst (λ (all : List Release). EachImage g new (AllStand all)) (sym same) (λ i now. kept old called run before here k i from to (crashed.left i now)),
      subst AllApart (sym same) apart,
    )
    stepped before after (Broke crashed same) here apart = (
      subst (λ (all : List Release). EachImage g new (AllStand all)) (sym same) (λ i now. here i (crashed.left i now)),
      subst AllApart (sym same) apart,
    )
    stepped before after (Spent what spends same) here apart = (
      subst (λ (all : List Release). EachImage g new (AllStand all)) (sym same) (λ i now. kept_spent what old new spends before here (g.clock new) i spends.stands.later (omega arith) now),
      subst AllApart (sym same) apart,
    )
    stepped before after (SpentCut what called spends k from to crashed same) here apart = (
      subst (λ (all : List Release). EachImage g new (AllStand all)) (sym same) (λ i now. kept_spent what old called spends before here k i from to (crashed.left i now)),
      subst AllApart (sym same) apart,
    )

  within : (old new : D) (before after : List Release) (step : Step octets label handed puts room g old new before after) → EachImage g old (AllStand before) → StandWithin octets label handed puts room g old new before after step
  within old new before after (Ran run more) here = λ k i from to h. kept old new run before here k i from to h
  within old new before after (Cut called run k from to crashed same) here = λ n i past upto h. kept old called run before here n i past upto h
  within old new before after (Broke crashed same) here = λ i now. here i (crashed.left i now)
  within old new before after (Spent what spends same) here = λ k i from to h. kept_spent what old new spends before here k i from to h
  within old new before after (SpentCut what called spends k from to crashed same) here = λ n i past upto h. kept_spent what old called spends before here n i past upto h

  -- a whole life
  pub none_twice : (disk : D) (before : List Release) (states : List (D × List Release)) (life : IsLife octets label handed puts room g disk before states) → EachTells g disk states → EachImage g disk (AllStand before) → AllApart before
      → NoneSignsTwice octets label handed puts room g disk before states life
  none_twice disk before [] life told here apart = tt
  none_twice disk before (state ∷ states) life told here apart =
      let next = stepped disk state.0 told.0 (first_tells g state.0 states told.1) before state.1 life.0 here apart in (
        within disk state.0 before state.1 life.0 here,
        next.0,
        next.1,
        none_twice state.0 state.1 states life.1 told.1 next.0 next.1,
      )
