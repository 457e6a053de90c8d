-- The remaining octets of a publication.
use Rattle.std.specs.Prelude.{ℕ, ◌^◌, ◌<◌, List, ◌++◌, length, take, drop}
use Rattle.proof_octets.specs.declared.publication.Publication.{Publication}
use Rattle.publication_out.specs.Ahead.{ahead}
use Rattle.publication_out.specs.declared.rest.Rest.{Rest}

-- the octets of the buffer from one index up to another, followed by the remaining ones
abbrev pub left_in : Rest → List ℕ
left_in rest = drop rest.at (take rest.end rest.buffer) ++ ahead rest.publication.now rest.part
    rest.index

-- the numbers of nodes and of roads fit in four octets
pub record HasFewItems (b : Publication) : Type 0 where
  pub nodes : length b.parts.nodes < 2 ^ 32
  pub roads : length b.parts.roads < 2 ^ 32
