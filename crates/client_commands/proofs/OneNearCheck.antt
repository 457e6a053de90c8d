-- `check-reach` has one result over its files.
use Rattle.std.proofs.Common.{◌≡◌, List, ℕ}
use Rattle.std.specs.declared.option.Option.{Option}
use Rattle.std.specs.declared.result.Result.{Result}
use Rattle.sha2.specs.Sha256.{sha256}
use Rattle.road_io.specs.Contents.{Folder}
use Rattle.proof_octets.specs.declared.query.NearQuery.{NearQuery}
use Rattle.route_client.specs.declared.within.Within.{Within}
use Rattle.route_client.specs.declared.near_errors.NearError.{NearError}
use Rattle.route_client.specs.declared.near_errors.NearError.TheVariants.{Memory}
use Rattle.route_client.specs.NearVerdicts.{IsNearVerdict}
use Rattle.lms_tree.specs.declared.links.Link.{Link}
use Rattle.road_line.specs.WithinLine.{within_line, refused_near_line}
use Rattle.command_files.proofs.OneEnd.{HasOneEnd}
use Rattle.client_commands.specs.NearChecking.{EndsCheckReach, ends_check_reach}
use Rattle.client_commands.proofs.CheckFiles.{one_end, one_over_files}
use Rattle.octet_text.specs.Want.{no_memory}

-- octets have at most one verdict
abbrev pub OneNearVerdict : Type 0
OneNearVerdict = (hash : List ℕ → List ℕ) (key : List ℕ) (links : List Link) (octets : List ℕ) (q : NearQuery) (least : ℕ) (v w : Result Within NearError)
    → IsNearVerdict hash key links octets q least v → IsNearVerdict hash key links octets q least w → v ≡ w

pub only_check_reach : OneNearVerdict → (key reply : List ℕ) (q : NearQuery) (least : ℕ) (chain : Option (List ℕ)) (folder : Folder) → HasOneEnd (ends_check_reach key reply q least chain folder)
only_check_reach one key reply q least =
    one_over_files (λ k links octets. EndsCheckReach k links octets q least)
    (λ k links octets. one_end (IsNearVerdict sha256 k links octets q least) (Memory no_memory) (λ x. within_line x.nodes) refused_near_line (one sha256 k links octets q least)) key reply
