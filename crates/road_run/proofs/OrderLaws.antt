-- Each image of a life is in order.
use Rattle.std.proofs.Common.{ℕ, ◌≤◌, List, [], ◌∷◌, arith, inl, inr, sym, subst, IfSome, IfNone, IfErr}
use Rattle.std.proofs.lemmas.Bool.{cases_lt}
use Rattle.std.specs.declared.option.Option.{Option}
use Rattle.std.specs.declared.option.Option.TheVariants.{None, Some}
use Rattle.std.specs.declared.result.Result.{Result}
use Rattle.std.specs.declared.result.Result.TheVariants.{Ok, Err}
use Rattle.road_io.specs.declared.disk.Disk.{Ghosts}
use Rattle.road_io.specs.Disk.{Stays, Turns}
use Rattle.road_io.specs.Moments.{EachImage, AtEachMoment}
use Rattle.road_io.specs.Contents.{Folder}
use Rattle.lms_tree.specs.Signatures.{KeyOf}
use Rattle.desk_areas.specs.Blank.{IsFresh}
use Rattle.desk_areas.specs.Keys.{key_from}
use Rattle.book_model.specs.declared.settings.Settings.{Settings}
use Rattle.proof_octets.specs.Headers.{header_text}
use Rattle.desk_sight.specs.Looks.{Spends}
use Rattle.desk_sight.specs.Tidy.{IsTidy, HasFreshLink}
use Rattle.desk_sight.specs.declared.looking.Use.{Use}
use Rattle.desk_sight.proofs.FreshSteps.{key_fresh, next_fresh, text_fresh, spent_fresh}
use Rattle.desk_sight.proofs.TidySteps.{tidy_open, fresh_linked, text_tidy, raised_tidy, fresh_tidy, spent_tidy}
use Rattle.road_command.specs.Requests.{Request, Key, Succeed, Links, Publish, Audit, AuditReach, Reduce}
use Rattle.command_files.specs.declared.fault.Fault.{Fault}
use Rattle.command_files.specs.declared.fault.Fault.TheVariants.{Sink, Disk, MirrorLost}
use Rattle.command_files.specs.declared.ended.Conclusion.{Conclusion}
use Rattle.owner_commands.specs.OwnerKey.{KeepsKey}
use Rattle.owner_commands.specs.NextKey.{MakesNext, AddsKey}
use Rattle.owner_commands.specs.Signing.{SignsAtMostOne, OnWriting, StaysRefused}
use Rattle.owner_commands.specs.Releases.{Release}
use Rattle.road_run.specs.Commands.{OnDisk, LeavesAll}
use Rattle.road_run.specs.Lives.{Run, Step, Ran, Cut, Broke, Spent, SpentCut, IsLife}
use Rattle.road_run.specs.LivesInOrder.{IsInOrder, IsLinkInOrder, OnTornLink, OnFaultyLink, EachCounts, Counts, InOrderWithin, StaysInOrder}

in_order : (i : List ℕ) → IsTidy i → IsInOrder i
in_order i tidy gate strange is = tidy_open i strange tidy gate is

link_in_order : (i : List ℕ) → HasFreshLink i → IsLinkInOrder i
link_in_order i fresh strange is = fresh_linked i strange fresh is

module _ {D : Type 0} (g : Ghosts D) where
  -- this holds of each image at each moment of a call
  abbrev pub Along : (List ℕ → Type 0) → D → D → Type 0
  Along P old new = (k : ℕ) (i : List ℕ) → g.clock old ≤ k → k ≤ g.clock new → g.image_at new k i → P i

  by_steps : (P : List ℕ → Type 0) (old new : D) (S : List ℕ → List ℕ → Type 0) → EachImage g old P → AtEachMoment g old new S → ((d i : List ℕ) → S d i → P d → P i) → Along P old new
  by_steps P old new S here m keeps k i from to h = let d = m.each k i from to h in keeps d.0 i d.2 (here d.0 d.1)

  by_staying : (P : List ℕ → Type 0) (old new : D) → EachImage g old P → AtEachMoment g old new Stays → Along P old new
  by_staying P old new here m = by_steps P old new Stays here m (λ d i is was. subst P (sym is) was)

  by_turning : (P : List ℕ → Type 0) (old new : D) (key : KeyOf) → ((i : List ℕ) → IsFresh key i → P i) → EachImage g old P → Turns g.clock g.image_at old new (IsFresh key) → Along P old new
  by_turning P old new key makes here m k i from to h = elim (cases_lt k m.turn) [
    | inl before ↦ here i (m.before k i from before to h)
    | inr since ↦ makes i (m.since k i since to h)
  ]

  module _ (old new : D) (files : Option Folder) (taken_before taken_now : Option (List ℕ)) (o : Result Conclusion Fault) where
    -- ---- commands

    made_along : (P : List ℕ → Type 0) → ((key : KeyOf) (i : List ℕ) → IsFresh key i → P i) → EachImage g old P → (secret : List ℕ) (kind : ℕ) → KeepsKey g old new files secret kind o → Along P old new
    made_along P makes here secret kind keeps = elim keeps.moments [
      | inl stays ↦ by_staying P old new here stays
      | inr file ↦ by_turning P old new (key_from kind file.secret) (makes (key_from kind file.secret)) here file.turns
    ]

    added_tidy : EachImage g old IsTidy → (secret : List ℕ) (kind : ℕ) → AddsKey g old new files secret kind o → Along IsTidy old new
    added_tidy tidy secret kind adds = elim adds.links [
      | inl stays ↦ by_staying IsTidy old new tidy stays
      | inr file ↦ by_steps IsTidy old new _ tidy file.raises (λ d i h was. elim h [
        | inl is ↦ subst IsTidy (sym is) was
        | inr raises ↦ raised_tidy (key_from kind file.secret) d i raises was
      ])
    ]

    signed_tidy : EachImage g old IsTidy → (roads : List ℕ) (s : Settings) → SignsAtMostOne g old new files roads s → Along IsTidy old new
    signed_tidy tidy roads s (inl stays) = by_staying IsTidy old new tidy stays
    signed_tidy tidy roads s (inr file) = by_steps IsTidy old new _ tidy file.one.each (λ d i h was. elim h [
      | inl is ↦ subst IsTidy (sym is) was
      | inr one ↦ text_tidy file.one.slot (header_text file.one.header) d i one.short one.free one.alone was
    ])

    signed_fresh : EachImage g old HasFreshLink → (roads : List ℕ) (s : Settings) → SignsAtMostOne g old new files roads s → Along HasFreshLink old new
    signed_fresh fresh roads s (inl stays) = by_staying HasFreshLink old new fresh stays
    signed_fresh fresh roads s (inr file) = by_steps HasFreshLink old new _ fresh file.one.each (λ d i h was. elim h [
      | inl is ↦ subst HasFreshLink (sym is) was
      | inr one ↦ text_fresh file.one.slot (header_text file.one.header) d i one.short one.free one.alone was
    ])

    -- ---- runs

    asked_tidy : EachImage g old IsTidy → (asked : Option Request) → IfNone asked (LeavesAll g old new taken_before taken_now) → IfSome asked (λ request. OnDisk g old new request files taken_before taken_now o) → Along IsTidy old new
    asked_tidy tidy None nothing on_disk = by_staying IsTidy old new tidy nothing.disk
    asked_tidy tidy (Some (Key secret kind)) nothing on_disk = made_along IsTidy fresh_tidy tidy secret kind on_disk
    asked_tidy tidy (Some (Succeed secret kind)) nothing on_disk = added_tidy tidy secret kind on_disk
    asked_tidy tidy (Some Links) nothing on_disk = by_staying IsTidy old new tidy on_disk.0
    asked_tidy tidy (Some (Publish roads settings)) nothing on_disk = signed_tidy tidy roads settings on_disk.1
    asked_tidy tidy (Some (Audit key publication reply q chain)) nothing on_disk = by_staying IsTidy old new tidy on_disk.0
    asked_tidy tidy (Some (AuditReach key publication reply q chain)) nothing on_disk = by_staying IsTidy old new tidy on_disk.0
    asked_tidy tidy (Some (Reduce key text signature)) nothing on_disk = by_staying IsTidy old new tidy on_disk.0
    asked_tidy tidy (Some request) nothing on_disk = by_staying IsTidy old new tidy on_disk

    -- no command except `succeed` leaves a link text while the next area is in use
    asked_fresh : (G : Type 0) → EachImage g old HasFreshLink → (asked : Option Request) → IfNone asked (LeavesAll g old new taken_before taken_now) → IfSome asked (λ request. OnDisk g old new request files taken_before taken_now o) → (Along HasFreshLink old new → G) → OnTornLink asked G → G
    asked_fresh G fresh None nothing on_disk go torn = go (by_staying HasFreshLink old new fresh nothing.disk)
    asked_fresh G fresh (Some (Key secret kind)) nothing on_disk go torn = go (made_along HasFreshLink key_fresh fresh secret kind on_disk)
    asked_fresh G fresh (Some (Succeed secret kind)) nothing on_disk go torn = torn
    asked_fresh G fresh (Some Links) nothing on_disk go torn = go (by_staying HasFreshLink old new fresh on_disk.0)
    asked_fresh G fresh (Some (Publish roads settings)) nothing on_disk go torn = go (signed_fresh fresh roads settings on_disk.1)
    asked_fresh G fresh (Some (Audit key publication reply q chain)) nothing on_disk go torn = go (by_staying HasFreshLink old new fresh on_disk.0)
    asked_fresh G fresh (Some (AuditReach key publication reply q chain)) nothing on_disk go torn = go (by_staying HasFreshLink old new fresh on_disk.0)
    asked_fresh G fresh (Some (Reduce key text signature)) nothing on_disk go torn = go (by_staying HasFreshLink old new fresh on_disk.0)
    asked_fresh G fresh (Some request) nothing on_disk go torn = go (by_staying HasFreshLink old new fresh on_disk)

    -- nor does `succeed`, if it ends over a disk that does not fail
    next_made : (secret : List ℕ) (kind : ℕ) → MakesNext g new files secret kind → EachImage g new HasFreshLink
    next_made secret kind made i now = let it = made.unspent i now in next_fresh (key_from kind made.secret) i it.on_disk.area it.on_disk.current it.unspent

    refused_fresh : EachImage g old HasFreshLink → g.clock old ≤ g.clock new → AtEachMoment g old new Stays → EachImage g new HasFreshLink
    refused_fresh fresh later stays i now = by_staying HasFreshLink old new fresh stays (g.clock new) i later (omega arith) now

  added_fresh : (old new : D) (files : Option Folder) (o : Result Conclusion Fault) (secret : List ℕ) (kind : ℕ) → EachImage g old HasFreshLink → g.clock old ≤ g.clock new → OnWriting o (MakesNext g new files secret kind) → IfErr o (StaysRefused g old new) → OnFaultyLink (Some (Succeed secret kind)) o (EachImage g new HasFreshLink) → EachImage g new HasFreshLink
  added_fresh old new files (Ok verdict) secret kind fresh later made refused faulty = next_made old new files None None (Ok verdict) secret kind made
  added_fresh old new files (Err Sink) secret kind fresh later made refused faulty = next_made old new files None None (Err Sink) secret kind made
  added_fresh old new files (Err MirrorLost) secret kind fresh later made refused faulty = next_made old new files None None (Err MirrorLost) secret kind made
  added_fresh old new files (Err Disk) secret kind fresh later made refused faulty = faulty
  added_fresh old new files (Err fault) secret kind fresh later made refused faulty = refused_fresh old new files None None (Err fault) fresh later refused

  ended_fresh : (old new : D) (files : Option Folder) (taken_before taken_now : Option (List ℕ)) (o : Result Conclusion Fault) → EachImage g old HasFreshLink → g.clock old ≤ g.clock new → (asked : Option Request) → IfNone asked (LeavesAll g old new taken_before taken_now) → IfSome asked (λ request. OnDisk g old new request files taken_before taken_now o) → OnFaultyLink asked o (EachImage g new HasFreshLink)
      → EachImage g new HasFreshLink
  ended_fresh old new files tb tn o fresh later (Some (Succeed secret kind)) nothing on_disk faulty = added_fresh old new files o secret kind fresh later on_disk.made on_disk.untouched faulty
  ended_fresh old new files tb tn o fresh later asked nothing on_disk faulty = asked_fresh old new files tb tn o (EachImage g new HasFreshLink) fresh asked nothing on_disk (λ along i now. along (g.clock new) i later (omega arith) now) tt

  -- ---- looks

  spends_tidy : (what : Use) (old new : D) → EachImage g old HasFreshLink → EachImage g old IsTidy → Spends g what old new → Along IsTidy old new
  spends_tidy what old new fresh tidy spends k i from to h = let d = spends.moments.each k i from to h in spent_tidy what d.0 i d.2 (fresh d.0 d.1) (tidy d.0 d.1)

  spends_fresh : (what : Use) (old new : D) → EachImage g old HasFreshLink → Spends g what old new → Along HasFreshLink old new
  spends_fresh what old new fresh spends k i from to h = let d = spends.moments.each k i from to h in spent_fresh what d.0 i d.2 (fresh d.0 d.1)

module _ {M : Type 0} (octets : M → Option (List ℕ)) (label handed puts room : M → ℕ) {D : Type 0} (g : Ghosts D) where
  run_tidy : (old new : D) → EachImage g old IsTidy → Run octets label handed puts room g old new → Along g IsTidy old new
  run_tidy old new tidy run = asked_tidy g old new run.files run.taken_before run.taken_now run.outcome tidy run.asked run.promised.nothing run.promised.on_disk

  -- one step
  within : (old new : D) (before after : List Release) (step : Step octets label handed puts room g old new before after) → EachImage g old HasFreshLink → EachImage g old IsTidy → InOrderWithin octets label handed puts room g old new before after step
  within old new before after (Ran run more) fresh tidy = λ k i from to h. in_order i (run_tidy old new tidy run k i from to h)
  within old new before after (Cut called run k from to crashed same) fresh tidy = λ n i past upto h. in_order i (run_tidy old called tidy run n i past upto h)
  within old new before after (Broke crashed same) fresh tidy = λ i now. in_order i (tidy i (crashed.left i now))
  within old new before after (Spent what spends same) fresh tidy = λ k i from to h. in_order i (spends_tidy g what old new fresh tidy spends k i from to h)
  within old new before after (SpentCut what called spends k from to crashed same) fresh tidy = λ n i past upto h. in_order i (spends_tidy g what old called fresh tidy spends n i past upto h)

  step_tidy : (old new : D) (before after : List Release) → Step octets label handed puts room g old new before after → EachImage g old HasFreshLink → EachImage g old IsTidy → EachImage g new IsTidy
  step_tidy old new before after (Ran run more) fresh tidy = λ i now. run_tidy old new tidy run (g.clock new) i run.promised.stands.later (omega arith) now
  step_tidy old new before after (Cut called run k from to crashed same) fresh tidy = λ i now. run_tidy old called tidy run k i from to (crashed.left i now)
  step_tidy old new before after (Broke crashed same) fresh tidy = λ i now. tidy i (crashed.left i now)
  step_tidy old new before after (Spent what spends same) fresh tidy = λ i now. spends_tidy g what old new fresh tidy spends (g.clock new) i spends.stands.later (omega arith) now
  step_tidy old new before after (SpentCut what called spends k from to crashed same) fresh tidy = λ i now. spends_tidy g what old called fresh tidy spends k i from to (crashed.left i now)

  step_fresh : (old new : D) (before after : List Release) (step : Step octets label handed puts room g old new before after) → Counts octets label handed puts room g old new before after step → EachImage g old HasFreshLink → EachImage g new HasFreshLink
  step_fresh old new before after (Ran run more) counts fresh = ended_fresh g old new run.files run.taken_before run.taken_now run.outcome fresh run.promised.stands.later run.asked run.promised.nothing run.promised.on_disk counts
  step_fresh old new before after (Cut called run k from to crashed same) counts fresh =
      asked_fresh g old called run.files run.taken_before run.taken_now run.outcome (EachImage g new HasFreshLink) fresh run.asked run.promised.nothing run.promised.on_disk (λ along i now. along k i from to (crashed.left i now)) counts
  step_fresh old new before after (Broke crashed same) counts fresh = λ i now. fresh i (crashed.left i now)
  step_fresh old new before after (Spent what spends same) counts fresh = λ i now. spends_fresh g what old new fresh spends (g.clock new) i spends.stands.later (omega arith) now
  step_fresh old new before after (SpentCut what called spends k from to crashed same) counts fresh = λ i now. spends_fresh g what old called fresh spends k i from to (crashed.left i now)

  -- a whole life
  pub stays_in_order : (disk : D) (before : List Release) (states : List (D × List Release)) (life : IsLife octets label handed puts room g disk before states) → EachCounts octets label handed puts room g disk before states life → EachImage g disk HasFreshLink → EachImage g disk IsTidy
      → StaysInOrder octets label handed puts room g disk before states life
  stays_in_order disk before [] life counts fresh tidy = tt
  stays_in_order disk before (state ∷ states) life counts fresh tidy =
      let next = step_tidy disk state.0 before state.1 life.0 fresh tidy in
      let linked = step_fresh disk state.0 before state.1 life.0 counts.0 fresh in (
        within disk state.0 before state.1 life.0 fresh tidy,
        λ i now. in_order i (next i now),
        λ i now. link_in_order i (linked i now),
        stays_in_order state.0 state.1 states life.1 counts.1 linked next,
      )
