use Rattle.std.proofs.Common.{Ok, ap}
use Rattle.proof_octets.specs.declared.header.Header.{Header}
use Rattle.route_client.specs.declared.within.Within.{Within}
use Rattle.route_client.proofs.NearVerdictLaws.{walked_of, refused_measure, refused_walk}
use Rattle.route_client.proofs.near_checking.take.Goals as goal

pub returns-in-Err : goal.returns-in-Err
returns-in-Err c = refused_walk c.args.reply c.args.query c.in-Err.error (refused_measure c.args.reply.nodes c.args.query c.in-Err.error c.in-Err.ensures)

pub returns-in_ok-nodes-in-Ok : goal.returns-in_ok-nodes-in-Ok
returns-in_ok-nodes-in-Ok c = (
  Ok c.in_ok-nodes-in-Ok.nodes,
  walked_of c.args.reply.nodes c.args.query c.in-Ok.labels c.in_ok-nodes-in-Ok.nodes c.in-Ok.ensures c.in_ok-nodes-in-Ok.ensures,
  ap (λ (h : Header). let y : Within = record { nodes = c.in_ok-nodes-in-Ok.nodes; version = h.version; header = h } in Ok y) c.header_of-header.ensures,
)
