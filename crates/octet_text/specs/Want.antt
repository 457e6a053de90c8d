-- Out of memory.
use Rattle.octet_text.specs.declared.errors.NoMemory.{NoMemory}

-- the only value of its type
abbrev pub no_memory : NoMemory
no_memory = record { refused = tt {0} }
