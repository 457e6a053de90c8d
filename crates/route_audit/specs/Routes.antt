-- Replies for routes, as a kind of replies.
use Rattle.std.specs.Prelude.{◌≡◌, ◌≢◌, ◌⊎◌, ℕ, List, Ok, Err}
use Rattle.octet_text.specs.Format.{whole}
use Rattle.book_model.specs.declared.items.Query.{Query}
use Rattle.lms_tree.specs.declared.links.Link.{Link}
use Rattle.proof_octets.specs.declared.reply.Answer as answers
use Rattle.proof_octets.specs.declared.reply.Reply.TheVariants as replies
use Rattle.proof_octets.specs.Good.{IsGood}
use Rattle.proof_octets.specs.Replies as formats
use Rattle.route_client.specs.declared.accepted.Checked.{Checked}
use Rattle.route_client.specs.declared.errors.CheckError.{CheckError}
use Rattle.route_client.specs.declared.errors.CheckError.TheVariants as checks
use Rattle.route_client.specs.Truth.{HoldsIn}
use Rattle.route_client.specs.Verdicts.{Accepts, IsVerdict, header_in}
use Rattle.route_audit.specs.Evidence.{Collides, IsRight}
use Rattle.route_audit.specs.Kinds.{ReplyKind}
use Rattle.octet_text.specs.Want.{no_memory}

-- the octets encode the answer, with its route or without one
abbrev pub SpellsAnswer : List ℕ → answers.Answer → Type 0
SpellsAnswer octets a = (whole formats.reply octets ≡ Ok (replies.Answer a)) ⊎
    (whole formats.reply octets ≡ Ok (replies.Apart a))

-- the octets are accepted as this answer with this result
pub record AcceptsAs (hash : List ℕ → List ℕ) (key : List ℕ) (links : List Link) (octets : List ℕ)
    (q : Query) (least : ℕ) (x : Checked) (a : answers.Answer) : Type 0 where
  pub accepts : Accepts hash key links octets q least x
  pub is : accepts.answer ≡ a

-- Routes between two nodes. One result is a route and its length; it is true if the route is a shortest one in the
-- publication's map. The other is that no route exists; it is true if no walk of the map joins the two ends.
abbrev pub routes : ReplyKind Query answers.Answer Checked CheckError
routes = record {
  Spells = SpellsAnswer;
  header = λ a. a.header;
  signature = λ a. a.signature;
  Accepts = AcceptsAs;
  Refuses = λ hash key links octets q e. IsVerdict hash key links octets q 0 (Err e) ×
      (e ≢ checks.Memory no_memory);
  IsGood = IsGood;
  IsRight = IsRight;
  Collides = Collides;
  taken_header = header_in;
  IsTrue = λ p q x. HoldsIn p.parts q x;
}
