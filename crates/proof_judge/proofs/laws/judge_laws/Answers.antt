use Rattle.proof_judge.proofs.Exacts.{exact, exact_apart}
use Rattle.proof_judge.proofs.laws.judge_laws.Goals as goal

pub returns-clause-route : goal.returns-clause-route
returns-clause-route c = exact

pub returns-clause-apart : goal.returns-clause-apart
returns-clause-apart c = exact_apart
