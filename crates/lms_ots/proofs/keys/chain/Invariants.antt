use Rattle.std.proofs.Common.{◌≡◌, ◌-◌, take, drop}
use Rattle.lms_ots.specs.Chains.{prefix, chain_of}
use Rattle.lms_ots.proofs.keys.chain.Given as goal

abbrev pub invariant-loop-number : goal.invariant-loop-number
invariant-loop-number l = record {
  prefix_is : take 22 l.text ≡ prefix l.i l.q l.at;
  value_is : drop 23 l.text ≡ chain_of l.i l.q l.at l.from (l.number - l.from) l.x;
}
