-- The lines of a client's verdict.
use Rattle.std.specs.Prelude.{ℕ, List, ◌++◌, codes}
use Rattle.std.specs.Fmt.{decimal}
use Rattle.lms_tree.specs.declared.seals.SealError.{SealError}
use Rattle.lms_tree.specs.declared.seals.SealError.TheVariants.{BadKey, BadForm, NoMatch}
use Rattle.proof_judge.specs.declared.refusal.Refusal.{Refusal}
use Rattle.proof_judge.specs.declared.refusal.Refusal.TheVariants as judged
use Rattle.route_client.specs.declared.accepted.Checked.{Checked}
use Rattle.route_client.specs.declared.accepted.Checked.TheVariants.{Route, Apart}
use Rattle.route_client.specs.declared.errors.CoverFault.{CoverFault}
use Rattle.route_client.specs.declared.errors.CoverFault.TheVariants.{Place, Short, Long, Differs}
use Rattle.route_client.specs.declared.errors.CheckError.{CheckError}
use Rattle.route_client.specs.declared.errors.CheckError.TheVariants.{NotAnswer, Malformed, Stale, BadChain, BadSignature, BadCover, Judged, Memory}
use Rattle.road_line.specs.RouteLine.{route_line}

-- an accepted route and its length, or that no route exists
abbrev pub accepted_words : Checked → List ℕ
accepted_words (Route x) = route_line x.length x.route
accepted_words (Apart version header) = codes "none\n"

-- an accepted result
abbrev pub accepted_line : Checked → List ℕ
accepted_line x = codes "accepted " ++ accepted_words x

-- ---- refusals by name

abbrev pub seal_name : SealError → List ℕ
seal_name BadKey = codes "BadKey"
seal_name BadForm = codes "BadForm"
seal_name NoMatch = codes "NoMatch"

abbrev pub cover_name : CoverFault → List ℕ
cover_name Place = codes "Place"
cover_name Short = codes "Short"
cover_name Long = codes "Long"
cover_name Differs = codes "Differs"

-- the reason why the items do not show a shortest route, or that no route exists, with its numbers
abbrev pub judged_words : Refusal → List ℕ
judged_words (judged.RepeatedNode id) = codes "RepeatedNode " ++ decimal id
judged_words (judged.BadRoute hop) = codes "BadRoute " ++ decimal hop
judged_words (judged.MissingTuple id) = codes "MissingTuple " ++ decimal id
judged_words (judged.MissingPair a b) = codes "MissingPair " ++ decimal a ++ codes " " ++ decimal b
judged_words (judged.Shorter length) = codes "Shorter " ++ decimal length
judged_words (judged.Disagrees distance) = codes "Disagrees " ++ decimal distance
judged_words (judged.Memory _) = codes "Memory"

-- the test that a reply failed, with its numbers and names
abbrev pub refused_words : CheckError → List ℕ
refused_words (NotAnswer kind) = codes "NotAnswer " ++ decimal kind
refused_words (Malformed at) = codes "Malformed " ++ decimal at
refused_words (Stale version) = codes "Stale " ++ decimal version
refused_words (BadChain link why) = codes "BadChain " ++ decimal link ++ codes " " ++ seal_name why
refused_words (BadSignature why) = codes "BadSignature " ++ seal_name why
refused_words (BadCover tree why) = codes "BadCover " ++ decimal tree ++ codes " " ++ cover_name why
refused_words (Judged why) = judged_words why
refused_words (Memory _) = codes "Memory"

-- a refused reply
abbrev pub refused_line : CheckError → List ℕ
refused_line e = codes "refused " ++ refused_words e ++ codes "\n"
