use Rattle.std.proofs.Common.{◌≡◌, [], length}
use Rattle.sha2.specs.Sha256.{sha256}
use Rattle.merkle_cover.specs.Rising.{Takes}
use Rattle.map_commands.specs.RootLine.{plain_texts}
use Rattle.map_commands.proofs.tree_root.plain_root.Given as goal

abbrev pub invariant-loop-position : goal.invariant-loop-position
invariant-loop-position l = record {
  pushed_is : l.rising.pushed ≡ l.position;
  leaves_is : l.rising.leaves ≡ length l.map.order;
  takes : Takes sha256 l.fan [] (plain_texts l.map.parts l.map.order) l.rising;
}
