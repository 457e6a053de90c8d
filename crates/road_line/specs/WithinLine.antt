-- The lines of a client's verdict on a reply to a range query.
use Rattle.std.specs.Prelude.{ℕ, List, ◌++◌, codes, length}
use Rattle.std.specs.Fmt.{decimal}
use Rattle.std.specs.List.{flat_map}
use Rattle.road_line.specs.RouteLine.{spaced}
use Rattle.road_line.specs.VerdictLine.{seal_name, cover_name}
use Rattle.proof_octets.specs.declared.marks.Mark.{Mark}
use Rattle.route_client.specs.declared.near_errors.NearError.{NearError}
use Rattle.route_client.specs.declared.near_errors.NearError.TheVariants.{Malformed, Stale, BadChain, BadSignature, BadCover, RepeatedNode, MissingTuple, Memory}

-- the id of a node after a space
abbrev pub spaced_id : Mark → List ℕ
spaced_id m = spaced m.id

-- the number of nodes, a colon, each id after a space, and a line end
abbrev pub within_line : List Mark → List ℕ
within_line marks = codes "within " ++ decimal
    (length marks) ++ codes ":" ++ flat_map spaced_id marks ++ codes "\n"

-- the test that a reply failed, with its numbers and names
abbrev pub refused_near_words : NearError → List ℕ
refused_near_words (Malformed at) = codes "Malformed " ++ decimal at
refused_near_words (Stale version) = codes "Stale " ++ decimal version
refused_near_words (BadChain link why) = codes "BadChain " ++ decimal link ++ codes " " ++ seal_name
    why
refused_near_words (BadSignature why) = codes "BadSignature " ++ seal_name why
refused_near_words (BadCover why) = codes "BadCover " ++ cover_name why
refused_near_words (RepeatedNode id) = codes "RepeatedNode " ++ decimal id
refused_near_words (MissingTuple id) = codes "MissingTuple " ++ decimal id
refused_near_words (Memory _) = codes "Memory"

-- a refused reply
abbrev pub refused_near_line : NearError → List ℕ
refused_near_line e = codes "refused " ++ refused_near_words e ++ codes "\n"
