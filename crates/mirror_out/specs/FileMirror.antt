-- The mirror in a file.
use Rattle.std.specs.Prelude.{◌≡◌, ◌≢◌, ℕ, List, [], ◌∷◌, OnErr}
use Rattle.std.specs.declared.result.Result.{Result}
use Rattle.outside.specs.Called.{Note}
use Rattle.mirror_out.specs.declared.file_mirror.FileMirror.{FileMirror}

-- its label
abbrev pub label_of : FileMirror → ℕ
label_of mirror = mirror.label

-- one sync was asked of the system, and it is told as failed only if the system did not do it
pub record SyncsOnce {T E : Type 0} (answer : Result T E) (before now : List Note) : Type 0 where
  pub how : ℕ
  pub is : now ≡ (how ∷ 3 ∷ [], []) ∷ before
  pub failed : OnErr answer (how ≢ 0)
