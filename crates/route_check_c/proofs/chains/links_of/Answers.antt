use Rattle.std.proofs.Common.{subst}
use Rattle.octet_text.specs.Format.{Fails, whole}
use Rattle.lms_tree.specs.ChainFiles.{chain_file}
use Rattle.route_check_c.specs.Telling.{NoChain}
use Rattle.route_check_c.proofs.chains.links_of.Goals as goal

pub returns-in-Err-Malformed-clause-unread : goal.returns-in-Err-Malformed-clause-unread
returns-in-Err-Malformed-clause-unread c =
    let is = c.told-in-Err-Malformed.ensures in
    let same = c.from.ensures in
    let found = subst (λ e. Fails e (whole chain_file c.args.chain.now)) c.in-Err-Malformed.field-0-is c.in-Err-Malformed.ensures.exact in
    NoChain c.in-Err-Malformed.field-0-0.at (cc (is, same, c.in-Err-Malformed.at-is)) found
