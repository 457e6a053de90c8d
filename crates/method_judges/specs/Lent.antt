-- Borrowed vectors.
use Rattle.book_model.specs.Bounds.{Vector}
use Rattle.method_judges.specs.declared.bounds.Vector.{Vector as Lent}

-- the codes of a vector, and the greatest error of each
abbrev pub shown : Lent → Vector
shown v = record { codes = v.codes.now; error = v.error }
