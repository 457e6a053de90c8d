use Rattle.std.proofs.Common.{rules, arith, ◌+◌}
use Rattle.std.proofs.lemmas.List.{drop_all}
use Rattle.std.proofs.lemmas.Grind.{common_steps}
use Rattle.std.proofs.lemmas.Slice.{overwrites}
use Rattle.road_io.proofs.ReadLemmas.{gives, given_grows}
use Rattle.mem_io.proofs.source.MemSourceSource.read.Goals as goal

pub returns-clause-left : goal.returns-clause-left
returns-clause-left c = (
  gives c.args.self.now.at c.min-count.result c.args.self.now.octets.items c.copy_from_slice.new.self _ (search rules) (search (rules, overwrites)),
  λ none some. drop_all (c.args.self.now.at + c.min-count.result) c.args.self.now.octets.items (grind (arith, common_steps, none, some)),
)

pub returns-clause-gave : goal.returns-clause-gave
returns-clause-gave c =
    given_grows c.args.self.now.at c.min-count.result c.args.self.now.octets.items c.copy_from_slice.new.self _ (search rules) (search (rules, overwrites))

pub returns-clause-ended : goal.returns-clause-ended
returns-clause-ended c none some = drop_all (c.args.self.now.at + c.min-count.result) c.args.self.now.octets.items (grind (arith, common_steps, none, some))
