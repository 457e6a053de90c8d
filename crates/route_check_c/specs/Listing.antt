-- The report about the accepted nodes that a caller lists.
use Rattle.std.specs.Prelude.{◌≡◌, ℕ, List, Contains, length, Result}
use Rattle.lms_tree.specs.declared.links.Link.{Link}
use Rattle.route_client.specs.declared.near_errors.NearError.{NearError}
use Rattle.route_client.specs.declared.picking.Picked.{Picked}
use Rattle.route_client.specs.declared.within.CheckedReply.{CheckedReply}
use Rattle.route_client.specs.declared.within.Within.{Within}
use Rattle.route_client.specs.Nearest.{PicksNearest}
use Rattle.route_check_c.specs.declared.nodes.ReachedNode.{ReachedNode}
use Rattle.route_check_c.specs.declared.verdict.Verdict.{Verdict}
use Rattle.route_check_c.specs.Codes.{told, listed_numbers, refused_numbers}
use Rattle.route_check_c.specs.Placing.{HaveLeavesOf, reached_nodes}
use Rattle.route_check_c.specs.Telling.{filled, TellsRange}

-- The number of listed nodes among all accepted ones. The buffer holds the nearest of these, as many as fit, each
-- as the leaf of its id in the reply gives it. Or memory ran out.
pub data TellsListed (ids : List ℕ) (checked : CheckedReply) (old_room new_room : List ReachedNode)
    (v : Verdict) : Type 0 where
  Listed : (x : Picked) → PicksNearest (λ m. Contains checked.nodes m) ids (length old_room) x →
      HaveLeavesOf checked.reply.nodes x.nodes →
      v ≡ listed_numbers x.count checked.reply.header.version →
      new_room ≡ filled (reached_nodes checked.reply.nodes x.nodes) old_room →
      TellsListed ids checked old_room new_room v
  ListShort : v ≡ refused_numbers (told 16 0 0) 0 → new_room ≡ old_room →
      TellsListed ids checked old_room new_room v

-- the report about a check, as for a range reply
abbrev pub TellsNearest : (List Link → Result Within NearError → Type 0) → List ℕ → List ℕ →
    List ℕ → List ReachedNode → List ReachedNode → List ℕ → List ℕ → Verdict → Type 0
TellsNearest IsVerdict ids chain reply old_room new_room old_line new_line v =
    TellsRange IsVerdict (TellsListed ids) chain reply old_room new_room old_line new_line v
