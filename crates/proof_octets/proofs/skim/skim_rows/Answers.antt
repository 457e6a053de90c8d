use Rattle.std.proofs.Common.{[], ◌∷◌, ◌++◌, length}
use Rattle.std.proofs.lemmas.Result.{err_from_is_err_and}
use Rattle.octet_text.specs.Format.{rows_at, seen_as}
use Rattle.octet_text.proofs.Loop.{begins, goes_on, ends, is_done}
use Rattle.proof_octets.proofs.OutlineLaws.{fails_then, rows_many}
use Rattle.proof_octets.proofs.skim.skim_rows.Goals as goal

pub loop-init : goal.loop-init
loop-init g c = ([], begins (g.R.Row.format c.args.reader.now) g.R.Row.follows c.args.count 0 c.args.cursor.now)

pub returns-in_err-item : goal.returns-in_err-item
returns-in_err-item g c =
    let p = err_from_is_err_and c.from_residual.result c.from_residual.ensures.1 in
    rw (p.1, p.2) (fails_then c.in_err-item.field-0.0 _ (seen_as length) (ends c.in_err-item.field-0.0 (g.R.Row.format c.args.reader.now) g.R.Row.follows c.loop.invariant.0 c.args.count c.loop.counter c.loop.least c.loop.cursor
    (rows_at (g.R.Row.format c.args.reader.now) g.R.Row.follows c.args.count 0 c.args.cursor.now) c.loop-test.true c.in_err-item.ensures c.loop.invariant.1))

pub loop-preserved : goal.loop-preserved
loop-preserved g c =
    rw c.after-least.ensures (
      c.loop.invariant.0 ++ c.in_ok-item.item ∷ [],
      goes_on (g.R.Row.format c.args.reader.now) g.R.Row.follows c.loop.invariant.0 c.args.count c.loop.counter c.loop.least c.loop.cursor
          c.in_ok-item.item c.read.new.cursor
          (rows_at (g.R.Row.format c.args.reader.now) g.R.Row.follows c.args.count 0 c.args.cursor.now) c.loop-test.true c.in_ok-item.ensures c.loop.invariant.1,
    )

pub returns : goal.returns
returns g c =
    rows_many (g.R.Row.format c.args.reader.now) g.R.Row.follows c.loop.invariant.0 c.args.count 0 c.args.cursor.now c.loop.cursor
    (is_done (g.R.Row.format c.args.reader.now) g.R.Row.follows c.loop.invariant.0 c.args.count c.loop.counter c.loop.least c.loop.cursor
    (rows_at (g.R.Row.format c.args.reader.now) g.R.Row.follows c.args.count 0 c.args.cursor.now) c.loop-test.false c.loop.invariant.1)
