use Rattle.road_run.proofs.CompleteLemmas.{complete_files, complete_run, proves_run}
use Rattle.road_run.proofs.RunLemmas.{exact_run, honest_run, taken_run, exact_files, exact_files_serving, exact_serving, exact_given}
use Rattle.road_run.proofs.SyncLemmas.{synced_run}
use Rattle.road_run.proofs.RightLemmas.{right_run}
use Rattle.road_run.proofs.HonestLemmas.{Verdicts, AcceptedLaws}
use Rattle.road_run.proofs.program.run_keeping.Given.{Over}
use Rattle.road_run.proofs.program.run_keeping.Goals as goal
use Rattle.road_run.proofs.program.run_keeping.Goals.{After-near_laws}

-- the laws of verdicts
verdicts : (g : Over) (c : After-near_laws g) → Verdicts
verdicts g c = record {
  one = c.verdict_laws.ensures.one;
  accepted = λ hash key links octets q least x h. (c.verdict_laws.ensures.accepts hash key links octets q least x).0 h;
  near_one = c.near_verdict_laws.ensures.one;
  near_accepted = λ hash key links octets q least x h. (c.near_verdict_laws.ensures.accepts hash key links octets q least x).0 h;
}

-- and of honest replies
laws : (g : Over) (c : After-near_laws g) → AcceptedLaws
laws g c = record { answers = c.honest_laws.ensures.accepted; near_replies = c.near_laws.ensures }

-- the consequences of the work, by the laws
pub returns : goal.returns
returns g c =
    let w = c.work.ensures.works in
    let seen = verdicts g (goal.at.returns g c).After-near_laws in
    let accepted = laws g (goal.at.returns g c).After-near_laws in
    let exact = exact_run g.D.Disk c.args.disk.now c.work.new.disk _ _ _ _ _ _ _ _ _ c.map_laws.ensures.faults c.map_laws.ensures.arcs c.server_laws.ensures seen w.promised in
    let served = exact_serving g.D.Disk c.args.disk.now c.work.new.disk c.server_laws.ensures _ _ _ _ _ _ _ _ _ _ _ _ _ w.promised w.takes in
    let files_exact = exact_files g.D.Disk c.args.disk.now c.work.new.disk _ _ _ _ _ _ _ _ _ c.map_laws.ensures.faults c.map_laws.ensures.arcs c.server_laws.ensures seen w.promised in
    let files_served = exact_files_serving g.D.Disk c.args.disk.now c.work.new.disk c.server_laws.ensures _ _ _ _ _ _ _ _ _ _ _ _ _ w.promised w.takes in
    record {
      runs = rw c.of.ensures.outcome (record {
        status = c.of.ensures.status;
        works = w;
        synced = synced_run g.M.Mirror.octets g.M.Mirror.named g.M.Mirror.handed g.M.Mirror.puts g.M.Mirror.room g.D.Disk c.args.disk.now c.work.new.disk _ _ _ _ _ _ _ _ _ _ _ w.promised w.mirrors;
        exact = exact;
        serve_exact = served;
        given_exact = exact_given g.D.Disk c.args.disk.now c.work.new.disk c.server_laws.ensures _ _ _ _ _ _ _ _ _ _ _ _ _ _ w.promised w.gave;
        honest = honest_run g.D.Disk c.args.disk.now c.work.new.disk _ _ _ _ _ _ _ _ _ seen accepted w.promised;
        right = right_run g.D.Disk c.args.disk.now c.work.new.disk _ _ _ _ _ _ _ _ _ c.server_laws.ensures seen c.right_laws.ensures.routes c.right_laws.ensures.radii w.promised;
        taken = taken_run g.D.Disk c.args.disk.now c.work.new.disk _ _ _ _ _ _ _ _ _ accepted c.honest_laws.ensures.unknown w.promised;
        proves = proves_run c.server_laws.ensures accepted c.honest_laws.ensures.unknown g.D.Disk c.args.disk.now c.work.new.disk _ _ _ _ _ _ _ _ _ w.promised;
        complete = complete_run g.D.Disk g.M.Mirror.octets g.M.Mirror.named g.M.Mirror.handed g.M.Mirror.puts g.M.Mirror.room c.args.disk.now c.work.new.disk _ _ _ _ _ _ _ _ _ _ _ _ _ _ _ w.promised w.takes w.mirrors exact served;
        file_exact = files_exact;
        file_serve_exact = files_served;
        file_complete = complete_files g.D.Disk g.M.Mirror.octets g.M.Mirror.named g.M.Mirror.handed g.M.Mirror.puts g.M.Mirror.room c.args.disk.now c.work.new.disk _ _ _ _ _ _ _ _ _ _ _ _ _ _ _ w.promised w.takes w.mirrors files_exact files_served;
      });
      gone = λ h. rw c.of.ensures.outcome (c.work.ensures.gone h);
    }
