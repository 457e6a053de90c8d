-- The output of `check-reach`.
use Rattle.std.specs.Prelude.{ℕ, List}
use Rattle.std.specs.declared.option.Option.{Option}
use Rattle.lms_tree.specs.declared.links.Link.{Link}
use Rattle.sha2.specs.Sha256.{sha256}
use Rattle.road_io.specs.Contents.{Folder}
use Rattle.proof_octets.specs.declared.query.NearQuery.{NearQuery}
use Rattle.road_line.specs.WithinLine.{within_line, refused_near_line}
use Rattle.route_client.specs.declared.near_errors.NearError.TheVariants.{Memory}
use Rattle.route_client.specs.NearVerdicts.{IsNearVerdict}
use Rattle.command_files.specs.Endings.{Ending}
use Rattle.client_commands.specs.CheckFiles.{EndsVerdict, over_files}
use Rattle.octet_text.specs.Want.{no_memory}

-- `check-reach` over a public key, a chain from it, and the octets of a reply: the line of the client's
-- verdict
abbrev pub EndsCheckReach : List ℕ → List Link → List ℕ → NearQuery → ℕ → Ending
EndsCheckReach key links octets q least =
    EndsVerdict (IsNearVerdict sha256 key links octets q least) (Memory no_memory) (λ x. within_line x.nodes)
    refused_near_line

-- the same over the files with these names; the chain's file is optional
abbrev pub ends_check_reach : List ℕ → List ℕ → NearQuery → ℕ → Option (List ℕ) → Folder → Ending
ends_check_reach key reply q least =
    over_files (λ k links octets. EndsCheckReach k links octets q least) key reply
