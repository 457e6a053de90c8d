-- `check` has one result over its files.
use Rattle.std.proofs.Common.{◌≡◌, List, ℕ}
use Rattle.std.specs.declared.option.Option.{Option}
use Rattle.std.specs.declared.result.Result.{Result}
use Rattle.sha2.specs.Sha256.{sha256}
use Rattle.road_io.specs.Contents.{Folder}
use Rattle.book_model.specs.declared.items.Query.{Query}
use Rattle.route_client.specs.declared.accepted.Checked.{Checked}
use Rattle.route_client.specs.declared.errors.CheckError.{CheckError}
use Rattle.route_client.specs.declared.errors.CheckError.TheVariants.{Memory}
use Rattle.route_client.specs.Verdicts.{IsVerdict}
use Rattle.lms_tree.specs.declared.links.Link.{Link}
use Rattle.road_line.specs.VerdictLine.{accepted_line, refused_line}
use Rattle.command_files.proofs.OneEnd.{HasOneEnd}
use Rattle.client_commands.specs.Checking.{EndsCheck, ends_check}
use Rattle.client_commands.proofs.CheckFiles.{one_end, one_over_files}
use Rattle.octet_text.specs.Want.{no_memory}

-- octets have at most one verdict
abbrev pub OneVerdict : Type 0
OneVerdict = (hash : List ℕ → List ℕ) (key : List ℕ) (links : List Link) (octets : List ℕ) (q : Query) (least : ℕ) (v w : Result Checked CheckError)
    → IsVerdict hash key links octets q least v → IsVerdict hash key links octets q least w → v ≡ w

pub only_check : OneVerdict → (key reply : List ℕ) (q : Query) (least : ℕ) (chain : Option (List ℕ)) (folder : Folder) → HasOneEnd (ends_check key reply q least chain folder)
only_check one key reply q least =
    one_over_files (λ k links octets. EndsCheck k links octets q least)
    (λ k links octets. one_end (IsVerdict sha256 k links octets q least) (Memory no_memory) accepted_line refused_line (one sha256 k links octets q least)) key reply
