use Rattle.std.proofs.Common.{◌≡◌, ◌+◌, ◌-◌, ◌*◌, ◌/◌, ◌^◌, ◌≤◌, suc}
use Rattle.std.specs.List.{range_with_len, sum_by}
use Rattle.merkle_cover.proofs.rising.digit_sum.Given as goal

abbrev pub invariant-loop-digit : goal.invariant-loop-digit
invariant-loop-digit l = record {
  rest_is : l.rest ≡ l.number / l.base ^ l.digit;
  sum_is : l.sum ≡ sum_by (λ k. l.number / l.base ^ k - l.base * (l.number / l.base ^ suc k)) (range_with_len 0 l.digit);
  few : l.sum ≤ l.base * l.digit;
}
