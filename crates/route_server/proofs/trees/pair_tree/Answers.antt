use Rattle.route_server.proofs.TextLemmas.{pairs_room}
use Rattle.route_server.proofs.trees.pair_tree.Goals as goal

pub pair_texts-requires : goal.pair_texts-requires
pair_texts-requires g c = pairs_room c.args.pairs.now c.requires.few

pub returns-clause-fit : goal.returns-clause-fit
returns-clause-fit g c = λ k d lt. c.in_ok-texts.ensures.fit k d lt (c.requires.ids k d lt)
