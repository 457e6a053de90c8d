use Rattle.std.proofs.Common.{◌+◌, ◌-◌, arith}
use Rattle.std.proofs.lemmas.Slice.{drop-put_mid}
use Rattle.octet_text.proofs.places.write_array.Goals as goal

pub returns-clause-after : goal.returns-clause-after
returns-clause-after g c =
    drop-put_mid c.args.at (c.args.at + g.row.N - c.args.at) c.args.out.now c.copy_from_slice.new.self (c.args.at + g.row.N)
    (omega arith) (omega arith) (grind (arith, c.copy_from_slice.ensures, c.told-array))
