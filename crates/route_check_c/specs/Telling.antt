-- The report of a check to a program in another language: the numbers of its verdict, and the contents of the
-- caller's buffers.
use Rattle.std.specs.Prelude.{◌≡◌, ◌≢◌, ◌⊎◌, ℕ, ◌≤◌, ◌^◌, List, ◌++◌, length, take, drop, AllPairs, Option, None, Some, Result, Ok, Err}
use Rattle.octet_text.specs.Format.{whole}
use Rattle.lms_tree.specs.declared.links.Link.{Link}
use Rattle.lms_tree.specs.ChainFiles.{chain_file}
use Rattle.proof_octets.specs.NearReplies.{near_reply}
use Rattle.route_client.specs.declared.near_errors.NearError.{NearError}
use Rattle.route_client.specs.declared.near_errors.NearError.TheVariants as near_errors
use Rattle.route_client.specs.declared.within.CheckedReply.{CheckedReply}
use Rattle.route_client.specs.declared.within.Within.{Within}
use Rattle.route_client.specs.NearVerdicts as near
use Rattle.road_line.specs.WithinLine.{refused_near_line}
use Rattle.proof_octets.specs.declared.reply.Answer as answers
use Rattle.proof_octets.specs.Replies.{reply as reply_format, reply_of}
use Rattle.road_line.specs.VerdictLine.{refused_line}
use Rattle.route_client.specs.declared.accepted.Checked.{Checked}
use Rattle.route_client.specs.declared.accepted.CheckedAnswer.{CheckedAnswer}
use Rattle.route_client.specs.declared.errors.CheckError.{CheckError}
use Rattle.route_client.specs.declared.errors.CheckError.TheVariants as errors
use Rattle.route_client.specs.Verdicts.{taken}
use Rattle.route_check_c.specs.declared.nodes.ReachedNode.{ReachedNode}
use Rattle.route_check_c.specs.declared.nodes.RouteNode.{RouteNode}
use Rattle.route_check_c.specs.declared.reasons.Reason.{Reason}
use Rattle.route_check_c.specs.declared.verdict.Verdict.{Verdict}
use Rattle.route_check_c.specs.Codes.{told, route_reason, reach_reason, accepted_numbers, apart_numbers, refused_numbers}
use Rattle.route_check_c.specs.Placing.{HaveLeaves, HaveLeavesOf, route_nodes, reached_nodes}
use Rattle.octet_text.specs.Want.{no_memory}

-- a buffer that took as many of the items as fit, and is unchanged after them
abbrev pub filled : {X : Type 0} → List X → List X → List X
filled items room = take (length room) items ++ drop (length items) room

-- ---- unchecked replies

-- the octets of the chain or of the reply are too many to be read
abbrev pub AreTooLong : List ℕ → List ℕ → Type 0
AreTooLong chain reply = (2 ^ 32 ≤ length chain) ⊎ (2 ^ 32 ≤ length reply)

-- The reply was not checked, for one of these reasons: memory ran out; the chain or the reply has too many octets;
-- or the octets of the chain do not encode a chain, and the first field that cannot be read begins at that offset.
pub data IsUnread (chain reply : List ℕ) (why : Reason) : Type 0 where
  NoMemory : why ≡ told 16 0 0 → IsUnread chain reply why
  TooLong : why ≡ told 17 0 0 → AreTooLong chain reply → IsUnread chain reply why
  NoChain : (at : ℕ) → why ≡ told 18 at 0 → whole chain_file chain ≡ Err at →
      IsUnread chain reply why

-- the reply was not checked, and both buffers are unchanged
pub record Unread {X : Type 0} (chain reply : List ℕ) (old_room new_room : List X)
    (old_line new_line : List ℕ) (v : Verdict) : Type 0 where
  pub why : Reason
  pub cause : IsUnread chain reply why
  pub numbers : v ≡ refused_numbers why 0
  pub room : new_room ≡ old_room
  pub line : new_line ≡ old_line

-- ---- refused replies

-- The client refuses the reply under the chain, for a reason other than out of memory (in that case the reply
-- counts as not checked). The line is in its buffer, and no node is written.
pub record Refuses {A E X : Type 0} (IsVerdict : List Link → Result A E → Type 0) (short : E)
    (reason : E → Reason) (refused : E → List ℕ) (chain : List ℕ) (old_room new_room : List X)
    (old_line new_line : List ℕ) (v : Verdict) : Type 0 where
  pub links : List Link
  pub spelled : whole chain_file chain ≡ Ok links
  pub error : E
  pub not_memory : error ≢ short
  pub verdict : IsVerdict links (Err error)
  pub numbers : v ≡ refused_numbers (reason error) (length (refused error))
  pub room : new_room ≡ old_room
  pub line : new_line ≡ filled (refused error) old_line

-- ---- a route

-- a route visits no node twice
abbrev pub IsSimple : List ℕ → Type 0
IsSimple ids = AllPairs (λ x y. x ≢ y) ids

-- if simple is not 0, a route visits no node twice, or it is refused because it does, or memory runs out
abbrev pub Unwanted : ℕ → List ℕ → Result (Unit {0}) Reason → Type 0
Unwanted simple ids (Ok _) = simple ≢ 0 → IsSimple ids
Unwanted simple ids (Err why) = (why ≡ told 16 0 0) ⊎
    ((why ≡ told 15 0 0) × (simple ≢ 0) × ¬ IsSimple ids)

-- The report about an accepted route of this length: its numbers, and its nodes in their buffer, each given by the
-- leaf of its id in the answer; or that it visits a node twice, if such a route is unwanted; or that memory ran
-- out.
pub data TellsFound (simple : ℕ) (a : answers.Answer) (d : ℕ) (old_room new_room : List RouteNode)
    (v : Verdict) : Type 0 where
  Found : HaveLeaves a.items.nodes a.items.route → (simple ≢ 0 → IsSimple a.items.route) →
      v ≡ accepted_numbers (length a.items.route) d a.header.version →
      new_room ≡ filled (route_nodes a.items.nodes a.items.route) old_room →
      TellsFound simple a d old_room new_room v
  Twice : simple ≢ 0 → ¬ IsSimple a.items.route → v ≡ refused_numbers (told 15 0 0) 0 →
      new_room ≡ old_room → TellsFound simple a d old_room new_room v
  Short : v ≡ refused_numbers (told 16 0 0) 0 → new_room ≡ old_room →
      TellsFound simple a d old_room new_room v

-- the report about an answer that passes every test: its route; or a code of its own which states that no walk
-- joins the two ends, and then the buffer is unchanged
abbrev pub TellsWay : ℕ → answers.Answer → Option ℕ → List RouteNode → List RouteNode → Verdict → Type 0
TellsWay simple a (Some d) old_room new_room v = TellsFound simple a d old_room new_room v
TellsWay simple a None old_room new_room v = (v ≡ apart_numbers a.header.version) ×
    (new_room ≡ old_room)

abbrev pub TellsChecked : ℕ → CheckedAnswer → List RouteNode → List RouteNode → Verdict → Type 0
TellsChecked simple checked old_room new_room v =
    TellsWay simple checked.answer checked.length old_room new_room v

-- The client accepts the reply under the chain, with the answer that the octets encode. The report is about this
-- answer, and no line is written.
pub record AcceptsRoute (IsVerdict : List Link → Result Checked CheckError → Type 0)
    (chain reply : List ℕ) (simple : ℕ) (old_room new_room : List RouteNode)
    (old_line new_line : List ℕ) (v : Verdict) : Type 0 where
  pub links : List Link
  pub spelled : whole chain_file chain ≡ Ok links
  pub checked : CheckedAnswer
  pub brought : whole reply_format reply ≡ Ok (reply_of checked.answer)
  pub verdict : IsVerdict links (taken (Ok checked))
  pub told : TellsChecked simple checked old_room new_room v
  pub line : new_line ≡ old_line

abbrev pub TellsRoute : (List Link → Result Checked CheckError → Type 0) → List ℕ → List ℕ → ℕ →
    List RouteNode → List RouteNode → List ℕ → List ℕ → Verdict → Type 0
TellsRoute IsVerdict chain reply simple old_room new_room old_line new_line v =
    AcceptsRoute IsVerdict chain reply simple old_room new_room old_line new_line v ⊎
    (Refuses IsVerdict (errors.Memory no_memory) route_reason refused_line chain old_room new_room old_line
    new_line v ⊎
    Unread chain reply old_room new_room old_line new_line v)

-- ---- a radius

-- The report about the accepted nodes: their number, and the nodes in their buffer, each given by the leaf of its
-- id in the reply; or that memory ran out.
pub data TellsReached (checked : CheckedReply) (old_room new_room : List ReachedNode)
    (v : Verdict) : Type 0 where
  Reached : HaveLeavesOf checked.reply.nodes checked.nodes →
      v ≡ accepted_numbers (length checked.nodes) 0 checked.reply.header.version →
      new_room ≡ filled (reached_nodes checked.reply.nodes checked.nodes) old_room →
      TellsReached checked old_room new_room v
  ReachShort : v ≡ refused_numbers (told 16 0 0) 0 → new_room ≡ old_room →
      TellsReached checked old_room new_room v

-- The client accepts the nodes under the chain, with the reply that the octets encode. Tells gives the report about
-- this reply, and no line is written.
pub record AcceptsReach (IsVerdict : List Link → Result Within NearError → Type 0)
    (Tells : CheckedReply → List ReachedNode → List ReachedNode → Verdict → Type 0)
    (chain reply : List ℕ) (old_room new_room : List ReachedNode) (old_line new_line : List ℕ)
    (v : Verdict) : Type 0 where
  pub links : List Link
  pub spelled : whole chain_file chain ≡ Ok links
  pub checked : CheckedReply
  pub brought : whole near_reply reply ≡ Ok checked.reply
  pub verdict : IsVerdict links (near.taken (Ok checked))
  pub told : Tells checked old_room new_room v
  pub line : new_line ≡ old_line

abbrev pub TellsRange : (List Link → Result Within NearError → Type 0) →
    (CheckedReply → List ReachedNode → List ReachedNode → Verdict → Type 0) → List ℕ → List ℕ →
    List ReachedNode → List ReachedNode → List ℕ → List ℕ → Verdict → Type 0
TellsRange IsVerdict Tells chain reply old_room new_room old_line new_line v =
    AcceptsReach IsVerdict Tells chain reply old_room new_room old_line new_line v ⊎
    (Refuses IsVerdict (near_errors.Memory no_memory) reach_reason refused_near_line chain old_room new_room
    old_line new_line v ⊎
    Unread chain reply old_room new_room old_line new_line v)

abbrev pub TellsReach : (List Link → Result Within NearError → Type 0) → List ℕ → List ℕ →
    List ReachedNode → List ReachedNode → List ℕ → List ℕ → Verdict → Type 0
TellsReach IsVerdict chain reply old_room new_room old_line new_line v =
    TellsRange IsVerdict TellsReached chain reply old_room new_room old_line new_line v
