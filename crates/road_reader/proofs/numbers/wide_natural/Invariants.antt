use Rattle.std.proofs.Common.{◌≡◌, ◌^◌, ◌<◌, drop}
use Rattle.road_reader.proofs.NumberLaws.{rest_below}
use Rattle.road_reader.proofs.numbers.wide_natural.Given as goal

abbrev pub invariant-loop-octet : goal.invariant-loop-octet
invariant-loop-octet l = record {
  below : l.value < 2 ^ 64;
  rest : rest_below (2 ^ 64) l.value (drop l.octet-index l.word) ≡ rest_below (2 ^ 64) 0 l.word;
}
