-- A reply that is not an answer is refused for this reason, however little memory is available.
use Rattle.std.proofs.Common.{◌≡◌, ℕ, List, Result, Ok, Err, refl}
use Rattle.octet_text.specs.Format.{whole}
use Rattle.proof_octets.specs.declared.reply.Answer as answers
use Rattle.proof_octets.specs.declared.reply.Reply.{Reply}
use Rattle.proof_octets.specs.declared.reply.Reply.TheVariants as replies
use Rattle.proof_octets.specs.Replies as formats
use Rattle.proof_octets.specs.Replies.{BringsNone}
use Rattle.route_client.specs.declared.errors.CheckError.{CheckError}
use Rattle.route_client.specs.declared.errors.CheckError.TheVariants as errors
use Rattle.route_client.specs.Verdicts.{IsNotAnswer, Meets, answered}
use Rattle.octet_text.specs.Want.{no_memory}

begun : (w : Result Reply ℕ) (kind : ℕ) → ((r : Reply) → BringsNone r → w ≡ Ok r → ⊥) → answered w ≡ Err (errors.NotAnswer kind) → ⊥
begun (Ok (replies.Answer a)) kind none e = cc
begun (Ok replies.UnknownNode) kind none e = none replies.UnknownNode tt refl
begun (Ok replies.NoRoute) kind none e = none replies.NoRoute tt refl
begun (Ok (replies.Apart a)) kind none e = cc
begun (Err at) kind none e = cc

-- octets that do not encode a reply without an answer are not reported as one
pub answer_begun : (octets : List ℕ) (kind : ℕ) → ((r : Reply) → BringsNone r → whole formats.reply octets ≡ Ok r → ⊥) → ¬ IsNotAnswer octets kind
answer_begun octets kind none e = begun (whole formats.reply octets) kind none e

-- the first test that such octets fail, if memory does not run out
pub refused_at_once : (octets : List ℕ) (kind : ℕ) (e : CheckError) → Meets {A = Reply} (Err e) (answered (whole formats.reply octets)) → (e ≡ errors.Memory no_memory → ¬ IsNotAnswer octets kind) → IsNotAnswer octets kind → e ≡ errors.NotAnswer kind
refused_at_once octets kind (errors.Memory _) is memory not = absurd (memory refl not)
refused_at_once octets kind (errors.NotAnswer other) is memory not = cc
refused_at_once octets kind (errors.Malformed at) is memory not = cc
refused_at_once octets kind (errors.Stale version) is memory not = cc
refused_at_once octets kind (errors.BadChain link why) is memory not = cc
refused_at_once octets kind (errors.BadSignature why) is memory not = cc
refused_at_once octets kind (errors.BadCover tree why) is memory not = cc
refused_at_once octets kind (errors.Judged why) is memory not = cc

-- octets that encode an answer are not such octets
pub answer_read : {A : Type 0} (octets : List ℕ) (kind : ℕ) (a : answers.Answer) (r : Result A CheckError) → answered (whole formats.reply octets) ≡ Ok (formats.reply_of a) → IsNotAnswer octets kind → r ≡ Err (errors.NotAnswer kind)
answer_read octets kind a r read not = absurd cc
