use Rattle.std.proofs.Common.{◌≡◌, take}
use Rattle.std.specs.List.{flat_map}
use Rattle.lms_tree.specs.ChainFiles.{link_row}
use Rattle.lms_tree.proofs.chain_files.write_links.Given as goal

abbrev pub invariant-loop-link : goal.invariant-loop-link
invariant-loop-link l = l.out.items ≡ flat_map link_row.spell (take l.link-index l.links)
