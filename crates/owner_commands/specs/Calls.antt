-- The greatest number of calls to the owner's disk in a command. A call asks for the length, reads, writes or
-- syncs. A call that fails counts too.
use Rattle.std.specs.Prelude.{ℕ, ◌+◌}
use Rattle.key_desk.specs.Calls.{most_opening_calls, most_succession_calls}

-- `publish` opens the desk, and writes a text and then its gate, each with a sync
abbrev pub most_publish_calls : ℕ
most_publish_calls = most_opening_calls + 4

-- `succeed` opens the desk and adds the next key
abbrev pub most_succeed_calls : ℕ
most_succeed_calls = most_succession_calls
