use Rattle.std.proofs.Common.{arith}
use Rattle.lms_tree.proofs.ChainLemmas.{links_found, links_all}
use Rattle.lms_tree.proofs.chain_files.read_links.Goals as goal

pub returns-clause-found : goal.returns-clause-found
returns-clause-found c = links_found c.args.octets.now c.read_all.result (λ i. omega (arith, c.type_inv.octets i)) c.read_all.ensures

pub returns-clause-only : goal.returns-clause-only
returns-clause-only c = links_all c.args.octets.now c.read_all.result c.read_all.ensures
