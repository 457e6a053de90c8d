use Rattle.std.proofs.Common.{◌≡◌, ◌∙◌, ap, false, Result, Err}
use Rattle.lms_tree.specs.Signatures.{KeyOf, is_kind}
use Rattle.lms_tree.specs.declared.keys.KeyError.{KeyError}
use Rattle.desk_areas.proofs.KeyLemmas.{known_kind, key_of_parts}
use Rattle.desk_areas.proofs.area.build_key.Goals as goal

pub unreachable-requires : goal.unreachable-requires
unreachable-requires c =
    let failing : KeyError → Result KeyOf KeyError = λ e. Err e in
    let unknown : is_kind c.args.kind ≡ false = c.build.ensures.kind.0 (c.in-Err-Kind.is ∙ ap failing c.in-Err-Kind.field-0-is) in
    let known = known_kind c.args.kind c.requires in
    cc (known, unknown)

pub returns-in-Ok-clause-key : goal.returns-in-Ok-clause-key
returns-in-Ok-clause-key c =
    c.in-Ok.ensures.key ∙ key_of_parts c.args.kind c.args.secret.now c.array_at.result c.array_at-2.result c.told-secret c.array_at.ensures c.array_at-2.ensures
