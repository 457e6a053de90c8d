use Rattle.std.proofs.Common.{subst, sym, arith}
use Rattle.lms_tree.specs.ChainFiles.{link_row}
use Rattle.lms_tree.specs.declared.links.Link.{Link}
use Rattle.lms_tree.proofs.ChainLemmas.{rows_fit}
use Rattle.lms_tree.proofs.chain_files.write_links.Goals as goal

pub put_link-requires : goal.put_link-requires
put_link-requires c =
    subst (λ (x : Link). link_row.Fits x) (sym c.link-item.is) (rows_fit link_row c.args.links.now c.loop-link.link-index c.link-item.result (omega (arith, c.loop-link-test.true)) c.requires.1)
