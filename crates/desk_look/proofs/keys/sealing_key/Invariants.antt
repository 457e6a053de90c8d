use Rattle.std.proofs.Common.{◌≡◌, drop, Ok}
use Rattle.lms_tree.specs.Chains.{verified_along}
use Rattle.desk_look.specs.Forgeries.{key_before}
use Rattle.desk_look.proofs.keys.sealing_key.Given as goal

-- the chain leads to this key, and the text verifies along the rest of the chain from this key
abbrev pub invariant-loop-link : goal.invariant-loop-link
invariant-loop-link l = record {
  reached : l.key ≡ key_before l.public l.chain l.link-index;
  rest : verified_along l.key (drop l.link-index l.chain) l.text l.signature ≡ Ok tt;
}
