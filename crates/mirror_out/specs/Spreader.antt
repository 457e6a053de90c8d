-- The spreader.
use Rattle.std.specs.Prelude.{ℕ, List}
use Rattle.mirror_out.specs.declared.spreader.Spreader.{Spreader}

-- the labels of the mirrors that were dropped
abbrev pub lost_of : Spreader → List ℕ
lost_of spreader = spreader.lost.items

-- the number of mirrors when it was made
abbrev pub most_of : Spreader → ℕ
most_of spreader = spreader.most
