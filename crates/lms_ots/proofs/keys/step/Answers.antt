use Rattle.std.proofs.Common.{◌≡◌, length, ap, ◌∙◌, arith}
use Rattle.std.proofs.Math.ListN.{set}
use Rattle.std.proofs.lemmas.List.{set_split, length-set}
use Rattle.sha2.specs.Sha256.{sha256}
use Rattle.lms_ots.proofs.PlaceLemmas.{drop-written}
use Rattle.lms_ots.proofs.keys.step.Goals as goal

pub returns-clause-value : goal.returns-clause-value
returns-clause-value c =
    let before = set c.args.text.now 22 c.args.number in
    let size : length before ≡ 55 = length-set c.args.text.now 22 c.args.number ∙ c.told-text in
    drop-written before c.write_array.new.out c.digest-digest.result 23 32 (omega (arith, size)) (omega arith) c.write_array.ensures.written
    ∙ c.digest-digest.ensures ∙ ap sha256 (set_split c.args.text.now 22 c.args.number (omega arith))
