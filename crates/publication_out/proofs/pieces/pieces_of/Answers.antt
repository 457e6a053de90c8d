use Rattle.std.proofs.Common.{◌∙◌, ◌++◌, ap, arith}
use Rattle.std.proofs.lemmas.List.{take_all}
use Rattle.proof_octets.proofs.Writable.{short_signature, few_nodes, few_roads}
use Rattle.publication_out.specs.Ahead.{ahead}
use Rattle.publication_out.specs.declared.fields.Part.TheVariants.{Signature}
use Rattle.publication_out.proofs.AheadLemmas.{whole_text}
use Rattle.publication_out.proofs.pieces.pieces_of.Goals as goal

pub front-requires : goal.front-requires
front-requires c = short_signature c.args.publication.now c.requires

pub invariant_of-result-2 : goal.invariant_of-result-2
invariant_of-result-2 c = record { nodes = few_nodes c.args.publication.now c.requires; roads = few_roads c.args.publication.now c.requires }

pub returns : goal.returns
returns c =
    ap (λ x. x ++ ahead c.args.publication.now Signature 0) (take_all 110 c.front.result (omega arith) ∙ c.front.ensures) ∙ whole_text c.args.publication.now
