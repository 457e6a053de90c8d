-- Chains of links that lead from an owner's first key to a later one.
use Rattle.std.specs.Prelude.{ℕ, ◌+◌, List, [], ◌∷◌, Result, Ok, Err}
use Rattle.lms_tree.specs.declared.links.Link.{Link}
use Rattle.lms_tree.specs.declared.seals.SealError.{SealError}
use Rattle.lms_tree.specs.Signatures.{verified}
use Rattle.lms_tree.specs.Links.{link_text}

-- the result after the test of a link: the result for the remaining links, or the link's number and the reason of
-- its refusal
abbrev pub after_link : ℕ → Result (Unit {0}) SealError → Result (Unit {0}) (ℕ × SealError) →
    Result (Unit {0}) (ℕ × SealError)
after_link number (Ok _) rest = rest
after_link number (Err why) rest = Err (number, why)

-- the first link whose text is refused under the previous key, by its number; the links are counted from one on
abbrev pub chained_from : ℕ → List ℕ → List Link → Result (Unit {0}) (ℕ × SealError)
chained_from number key [] = Ok tt
chained_from number key (link ∷ links) = after_link number
    (verified key (link_text link.key) link.signature) (chained_from (number + 1) link.key links)

-- the first refused link, or none
abbrev pub chained : List ℕ → List Link → Result (Unit {0}) (ℕ × SealError)
chained key links = chained_from 0 key links

-- a text is verified under a key, or else under the keys that follow
abbrev pub or_else : Result (Unit {0}) SealError → Result (Unit {0}) SealError →
    Result (Unit {0}) SealError
or_else (Ok _) rest = Ok tt
or_else (Err why) rest = rest

-- a text is verified under one of the keys along the chain; otherwise the error is that of the last key
abbrev pub verified_along : List ℕ → List Link → List ℕ → List ℕ → Result (Unit {0}) SealError
verified_along key [] text signature = verified key text signature
verified_along key (link ∷ links) text signature = or_else (verified key text signature)
    (verified_along link.key links text signature)
