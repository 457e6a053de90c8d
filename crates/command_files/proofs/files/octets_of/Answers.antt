use Rattle.std.proofs.Common.{◌≡◌, List, ℕ, Err, Result, IfErr, sym, ap, subst, ◌∙◌}
use Rattle.hex.specs.Hex.{decode_of}
use Rattle.hex.specs.declared.error.FromHexError.{FromHexError}
use Rattle.command_files.specs.HexFiles.{as_octets}
use Rattle.command_files.proofs.files.octets_of.Goals as goal

pub returns-in-Err : goal.returns-in-Err
returns-in-Err c =
    let none : decode_of c.without_line_end.result.now ≡ Err c.in-Err.field-0 = subst (λ found. IfErr found (λ (why : FromHexError). decode_of c.without_line_end.result.now ≡ Err why)) c.in-Err.is c.in_ok-octets.ensures.none in
    sym (ap as_octets none) ∙ ap (λ (t : List ℕ). as_octets (decode_of t)) c.without_line_end.ensures
