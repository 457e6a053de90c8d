use Rattle.std.proofs.Common.{◌≡◌, Ok, Err, sym, ap, ◌∙◌}
use Rattle.std.proofs.lemmas.Result.{err_from_is_err_and}
use Rattle.lms_tree.proofs.ChainLemmas.{whole_fails, whole_left, whole_read}
use Rattle.lms_tree.proofs.chain_files.read_all.Goals as goal

pub returns-in_err-links : goal.returns-in_err-links
returns-in_err-links c =
    let p = err_from_is_err_and c.from_residual.result c.from_residual.ensures.1 in
    rw (p.1, p.2)
    (whole_fails c.args.octets.now c.new-cursor.result c.in_err-links.field-0.0 c.new-cursor.ensures.at c.new-cursor.ensures.text c.in_err-links.ensures)

pub returns-then-not-is_empty : goal.returns-then-not-is_empty
returns-then-not-is_empty c =
    whole_left c.args.octets.now c.new-cursor.result c.in_ok-links.links.items c.read_some.new.cursor c.new-cursor.ensures.at c.new-cursor.ensures.text c.in_ok-links.ensures (sym c.is_empty.ensures ∙ c.if-not-is_empty.true)
    ∙ ap (λ n. Err n) (sym c.at.ensures)

pub returns : goal.returns
returns c =
    whole_read c.args.octets.now c.new-cursor.result c.in_ok-links.links.items c.read_some.new.cursor c.new-cursor.ensures.at c.new-cursor.ensures.text c.in_ok-links.ensures (sym c.is_empty.ensures ∙ c.if-not-is_empty.false)
    ∙ ap (λ l. Ok l) (sym c.from_vec.ensures)
