use Rattle.near_proof.proofs.DeskLemmas.{links_lead}
use Rattle.near_proof.proofs.answer_laws.desk_laws.Goals as goal

pub returns : goal.returns
returns c = links_lead
