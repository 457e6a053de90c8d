-- Out of memory has only one value.
use Rattle.std.specs.Prelude.{◌≡◌, refl}
use Rattle.octet_text.specs.declared.errors.NoMemory.{NoMemory}
use Rattle.octet_text.specs.Want.{no_memory}

pub one_want : (none : NoMemory) → none ≡ no_memory
one_want none = refl
