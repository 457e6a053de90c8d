-- The output of `check`.
use Rattle.std.specs.Prelude.{ℕ, List}
use Rattle.std.specs.declared.option.Option.{Option}
use Rattle.lms_tree.specs.declared.links.Link.{Link}
use Rattle.sha2.specs.Sha256.{sha256}
use Rattle.road_io.specs.Contents.{Folder}
use Rattle.book_model.specs.declared.items.Query.{Query}
use Rattle.road_line.specs.VerdictLine.{accepted_line, refused_line}
use Rattle.route_client.specs.declared.errors.CheckError.TheVariants.{Memory}
use Rattle.route_client.specs.Verdicts.{IsVerdict}
use Rattle.command_files.specs.Endings.{Ending}
use Rattle.client_commands.specs.CheckFiles.{EndsVerdict, over_files}
use Rattle.octet_text.specs.Want.{no_memory}

-- `check` over a public key, a chain from it, and the octets of a reply: the line of the client's
-- verdict
abbrev pub EndsCheck : List ℕ → List Link → List ℕ → Query → ℕ → Ending
EndsCheck key links octets q least =
    EndsVerdict (IsVerdict sha256 key links octets q least) (Memory no_memory) accepted_line refused_line

-- the same over the files with these names; the chain's file is optional
abbrev pub ends_check : List ℕ → List ℕ → Query → ℕ → Option (List ℕ) → Folder → Ending
ends_check key reply q least =
    over_files (λ k links octets. EndsCheck k links octets q least) key reply
