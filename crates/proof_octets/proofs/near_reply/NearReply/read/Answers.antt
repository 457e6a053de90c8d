use Rattle.std.proofs.Common.{arith}
use Rattle.octet_text.proofs.Fields.{is_found, reads_all}
use Rattle.proof_octets.specs.NearReplies.{near_reply}
use Rattle.proof_octets.proofs.NearFormat.{near_exact}
use Rattle.proof_octets.proofs.near_reply.NearReply.read.Goals as goal

pub returns-clause-found : goal.returns-clause-found
returns-clause-found c = is_found (λ r. r) near_reply near_exact c.args.octets.now c.read_whole.result (λ i. omega (arith, c.type_inv.octets i)) c.read_whole.ensures.reads

pub returns-clause-only : goal.returns-clause-only
returns-clause-only c = reads_all (λ r. r) near_reply near_exact c.args.octets.now c.read_whole.result c.read_whole.ensures.reads
