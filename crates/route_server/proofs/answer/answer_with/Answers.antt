use Rattle.route_server.proofs.answer.answer_with.Goals as goal

pub write-requires : goal.write-requires
write-requires c = c.requires
