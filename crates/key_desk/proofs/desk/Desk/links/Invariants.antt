use Rattle.key_desk.proofs.LinkLemmas.{LinksUpTo}
use Rattle.key_desk.proofs.desk.Desk.links.Given as goal

-- the links so far are a chain to the key of the next area
abbrev pub invariant-loop-area : goal.invariant-loop-area
invariant-loop-area l = LinksUpTo l.self l.area l.links.items
