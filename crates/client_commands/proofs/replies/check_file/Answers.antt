use Rattle.std.proofs.Common.{◌∷◌, [], refl}
use Rattle.client_commands.proofs.CheckFiles.{told_over_files}
use Rattle.command_files.proofs.Asked.{then_asked, asks_front, asks_all}
use Rattle.client_commands.proofs.replies.check_file.Goals as goal

pub returns-in-Ok-clause-promised : goal.returns-in-Ok-clause-promised
returns-in-Ok-clause-promised g c =
    told_over_files (λ k links octets. g.J.Judging.ends k links octets c.args.query c.args.least) _ _ _ _ _ _ _ _ _ _ _ _ _ _ _ _ _ c.in-Ok.told.end _ _
    c.in-Ok.ensures.verdict
    c.in_ok-reply.ensures.narrows c.in_ok-chain.ensures.narrows c.in_ok-key.ensures.loads.read c.in_ok-reply.ensures.loads.read c.in_ok-chain.ensures.loads.read
    refl c.as_slice.ensures c.in-Ok.ensures.told c.write_told.ensures.writes

pub returns-in_err-key-clause-asked : goal.returns-in_err-key-clause-asked
returns-in_err-key-clause-asked g c = asks_front (_ ∷ []) _ _ _ c.in_err-key.ensures.asked

pub returns-in_err-reply-clause-asked : goal.returns-in_err-reply-clause-asked
returns-in_err-reply-clause-asked g c = asks_front (_ ∷ _ ∷ []) _ _ _ (then_asked _ _ _ _ _ c.in_ok-key.ensures.asked c.in_err-reply.ensures.asked)

pub returns-in_err-chain-clause-asked : goal.returns-in_err-chain-clause-asked
returns-in_err-chain-clause-asked g c = asks_all _ _ _ (then_asked _ _ _ _ _ c.in_ok-key.ensures.asked (then_asked _ _ _ _ _ c.in_ok-reply.ensures.asked c.in_err-chain.ensures.asked))

pub returns-in-Ok-clause-asked : goal.returns-in-Ok-clause-asked
returns-in-Ok-clause-asked g c = asks_all _ _ _ (then_asked _ _ _ _ _ c.in_ok-key.ensures.asked (then_asked _ _ _ _ _ c.in_ok-reply.ensures.asked c.in_ok-chain.ensures.asked))

pub returns-clause-asked : goal.returns-clause-asked
returns-clause-asked g c = asks_all _ _ _ (then_asked _ _ _ _ _ c.in_ok-key.ensures.asked (then_asked _ _ _ _ _ c.in_ok-reply.ensures.asked c.in_ok-chain.ensures.asked))
