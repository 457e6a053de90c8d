use Rattle.std.proofs.Common.{◌*◌, ◌^◌, ◌≤◌, take}
use Rattle.sha2.specs.Sha256.{sha256}
use Rattle.route_server.specs.Keeping.{publication_in}
use Rattle.route_survey.specs.Tallies.{CountsAll}
use Rattle.route_survey.proofs.asking.count_all.Given as goal

abbrev pub invariant-loop-query : goal.invariant-loop-query
invariant-loop-query l = record {
  counts : CountsAll (publication_in sha256 l.held) (take l.query-index l.queries) l.fn.tally l.tally;
  few : l.tally.accepted ≤ l.query-index;
  room : l.tally.total ≤ l.tally.accepted * 2 ^ 48;
}
