use Rattle.std.proofs.Common.{◌≡◌, ◌≢◌, ◌-◌, ℕ, List, length, drop, rules, sym, ◌∙◌, subst}
use Rattle.std.specs.List.{count_by}
use Rattle.std.specs.Prelude.{IsErrOf}
use Rattle.desk_areas.specs.declared.errors.StartError.TheVariants.{BadBlock}
use Rattle.desk_areas.specs.declared.area.Count.{Count}
use Rattle.desk_areas.specs.Calls.{Called, is_spent}
use Rattle.desk_areas.specs.Area.{area_in}
use Rattle.desk_areas.specs.Reading.{IsLastLink, IsNamed}
use Rattle.desk_areas.proofs.CallLemmas.{area_read}
use Rattle.desk_areas.proofs.Moments.{stays_twice}
use Rattle.desk_areas.proofs.ReadLemmas.{alone_bad, same_name_bad, other_key_bad, ninth_bad}
use Rattle.desk_areas.proofs.reading.read_next.Goals as goal

pub returns-in_err-area-clause-bad : goal.returns-in_err-area-clause-bad
returns-in_err-area-clause-bad g c is x told =
    let bad : IsErrOf c.read_area.result BadBlock = search rules in
    alone_bad x c.args.earlier.now c.args.base c.args.named.now (c.requires.read x (c.read_area.ensures.content x told)) (c.read_area.ensures.bad bad x told)

pub returns-then-has_name-clause-bad : goal.returns-then-has_name-clause-bad
returns-then-has_name-clause-bad g c _ x told =
    let found = c.has_name.ensures.yes c.if-has_name.true in
    let name : c.i.result ≡ c.in_ok-area.area.key.i = (let h = c.i.ensures in let k = c.key.ensures in cc) in
    same_name_bad x c.args.earlier.now c.args.base c.args.named.now (c.requires.read x (c.read_area.ensures.content x told)) c.in_ok-area.area (c.in_ok-area.ensures.area x told) found.0 found.1 (found.2 ∙ name)

pub returns-then-not-is_named-clause-bad : goal.returns-then-not-is_named-clause-bad
returns-then-not-is_named-clause-bad g c _ x told =
    let key : c.key-2.result.now ≡ c.in_ok-area.area.key = (let k = c.key-2.ensures in cc) in
    other_key_bad x c.args.earlier.now c.args.base c.args.named.now (c.requires.read x (c.read_area.ensures.content x told)) c.in_ok-area.area (c.in_ok-area.ensures.area x told)
    (λ named. absurd (cc (c.is_named.ensures.1 (rw (← key) at named), c.if-not-is_named.true)))

pub returns-then-earlier-eq7-clause-bad : goal.returns-then-earlier-eq7-clause-bad
returns-then-earlier-eq7-clause-bad g c _ x told =
    let counts : c.counts.result.now ≡ c.in_ok-area.area.counts = (let k = c.counts.ensures.counts in cc) in
    let was = c.last_link.ensures.content x told in
    ninth_bad x c.args.earlier.now c.args.base c.args.named.now (c.requires.read x (c.read_area.ensures.content x was)) c.in_ok-area.area (c.in_ok-area.ensures.area x was) c.in_ok-area.ensures.known.1 c.in_ok-link.link (sym c.is_some.ensures ∙ c.if-is_some.true)
    (subst (λ (l : List Count). IsLastLink l c.args.base c.in_ok-link.link x) counts (c.in_ok-link.ensures.link x told)) c.if-earlier-eq7.true

pub returns-clause-counted : goal.returns-clause-counted
returns-clause-counted g c =
    area_read c.in_ok-area.area.counts (g.D.Disk.calls c.args.disk.now) (g.D.Disk.calls c.read_area.new.disk) (g.D.Disk.calls c.last_link.new.disk) c.in_ok-area.ensures.counted
    (subst (λ (l : List Count). Called (count_by is_spent (drop (length l - 1) l)) (g.D.Disk.calls c.read_area.new.disk) (g.D.Disk.calls c.last_link.new.disk)) c.counts.ensures.counts c.in_ok-link.ensures.counted)

pub returns-in_err-link-clause-moments : goal.returns-in_err-link-clause-moments
returns-in_err-link-clause-moments g c = stays_twice g.D.Disk _ _ _ c.read_area.ensures.moments c.last_link.ensures.moments

pub returns-then-earlier-eq7-clause-moments : goal.returns-then-earlier-eq7-clause-moments
returns-then-earlier-eq7-clause-moments g c = stays_twice g.D.Disk _ _ _ c.read_area.ensures.moments c.last_link.ensures.moments

pub returns-clause-moments : goal.returns-clause-moments
returns-clause-moments g c = stays_twice g.D.Disk _ _ _ c.read_area.ensures.moments c.last_link.ensures.moments

pub returns-clause-link : goal.returns-clause-link
returns-clause-link g c x told =
    let counts : c.counts.result.now ≡ c.in_ok-area.area.counts = (let k = c.counts.ensures.counts in cc) in
    subst (λ (l : List Count). IsLastLink l c.args.base c.in_ok-link.link x) counts (c.in_ok-link.ensures.link x told)

pub returns-clause-distinct : goal.returns-clause-distinct
returns-clause-distinct g c a below =
    let name : c.i.result ≡ c.in_ok-area.area.key.i = (let h = c.i.ensures in let k = c.key.ensures in cc) in
    subst (λ (i : List ℕ). (area_in c.args.earlier.now a).key.i ≢ i) name (c.has_name.ensures.no c.if-has_name.false a below)

pub returns-clause-named : goal.returns-clause-named
returns-clause-named g c =
    let key : c.key-2.result.now ≡ c.in_ok-area.area.key = (let k = c.key-2.ensures in cc) in
    subst (IsNamed c.args.named.now) key (c.is_named.ensures.0 c.if-not-is_named.false)
