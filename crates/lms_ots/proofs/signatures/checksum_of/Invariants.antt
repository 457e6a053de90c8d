use Rattle.std.proofs.Common.{◌≡◌, ◌-◌, ◌*◌, ◌≤◌, take}
use Rattle.std.specs.List.{sum_by}
use Rattle.lms_ots.proofs.signatures.checksum_of.Given as goal

abbrev pub invariant-loop-octet : goal.invariant-loop-octet
invariant-loop-octet l =
    (l.sum ≡ sum_by (λ o. 255 - o) (take l.octet-index l.digest)) × (l.sum ≤ 255 * l.octet-index)
