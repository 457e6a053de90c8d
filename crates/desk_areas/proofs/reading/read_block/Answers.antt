use Rattle.std.proofs.Common.{◌∙◌, ap}
use Rattle.std.specs.Int.{w32, from_be_bytes}
use Rattle.desk_areas.proofs.ReadLemmas.{kind_read, secret_read}
use Rattle.desk_areas.proofs.reading.read_block.Goals as goal

pub returns-clause-kind : goal.returns-clause-kind
returns-clause-kind g c x told = c.from_be_bytes.ensures ∙ ap (from_be_bytes w32) c.array_at.ensures ∙ kind_read c.args.base x c.read_at.new.into (c.in_ok-read_at.ensures.octets x told)

pub returns-clause-secret : goal.returns-clause-secret
returns-clause-secret g c x told = c.array_at-2.ensures ∙ secret_read c.args.base x c.read_at.new.into (c.in_ok-read_at.ensures.octets x told)
