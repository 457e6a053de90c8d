use Rattle.std.proofs.Common.{◌≡◌, ◌*◌, ◌≤◌, drop}
use Rattle.proof_judge.specs.Judgement.{longer, walked_from}
use Rattle.proof_judge.proofs.route.follow.Given as goal

abbrev pub invariant-loop-index : goal.invariant-loop-index
invariant-loop-index l = record {
  same : walked_from l.by_id l.to 0 l.first l.rest ≡ longer l.total (walked_from l.by_id l.to l.index l.at (drop l.index l.rest));
  bound : l.total ≤ l.index * 4294967295;
}
