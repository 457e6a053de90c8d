use Rattle.desk_sight.proofs.Exclusive.{at_most_seven}
use Rattle.desk_fit.proofs.SignerSteps.{IsEnd, link_there, key_there}
use Rattle.desk_fit.proofs.signer.key_of.Goals as goal

pub base_of-requires : goal.base_of-requires
base_of-requires c = record { is_open = c.requires; few = at_most_seven c.args.image.now c.args.area c.requires }

pub overflow_sub-base_of : goal.overflow_sub-base_of
overflow_sub-base_of c =
    let end : IsEnd c.args.image.now c.base_of.result = link_there c.args.image.now c.args.area c.base_of.result c.if-area-eq0.false c.requires c.base_of.ensures.base in
    end.long

pub key_named-requires-clause-within : goal.key_named-requires-clause-within
key_named-requires-clause-within c =
    let end : IsEnd c.args.image.now c.base_of.result = link_there c.args.image.now c.args.area c.base_of.result c.if-area-eq0.false c.requires c.base_of.ensures.base in
    end.within

pub key_named-requires-clause-link : goal.key_named-requires-clause-link
key_named-requires-clause-link c =
    let end : IsEnd c.args.image.now c.base_of.result = link_there c.args.image.now c.args.area c.base_of.result c.if-area-eq0.false c.requires c.base_of.ensures.base in
    end.link

pub returns : goal.returns
returns c = key_there c.args.first c.args.image.now c.key_named.result c.args.area c.base_of.result c.if-area-eq0.false c.requires c.base_of.ensures.base c.key_named.ensures
