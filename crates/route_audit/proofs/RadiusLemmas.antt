-- Replies for the nodes within a radius are a kind of replies.
use Rattle.std.proofs.Common.{◌≡◌, ℕ, List, Result, Ok, Err, refl, sym, ap, subst, arith, ◌∙◌}
use Rattle.sha2.specs.Sha256.{sha256}
use Rattle.octet_text.specs.Format.{whole}
use Rattle.book_model.specs.Books.{Kind}
use Rattle.lms_tree.specs.declared.links.Link.{Link}
use Rattle.lms_tree.specs.Chains.{verified_along}
use Rattle.proof_method.specs.Laws.{KeepsTrue}
use Rattle.proof_octets.specs.Headers.{header_text}
use Rattle.route_server.specs.Keeping.{Kept, IsKept, HasSpellings, header_in, publication_in}
use Rattle.route_audit.specs.Evidence.{two_texts}
use Rattle.route_audit.specs.Kinds.{AreReplies}
use Rattle.route_audit.specs.Steps.{Compared}
use Rattle.route_audit.specs.declared.finding.Finding.{Finding}
use Rattle.route_audit.specs.declared.finding.Finding.TheVariants.{Right, Collision, Forged}
use Rattle.proof_octets.specs.declared.query.NearQuery.{NearQuery}
use Rattle.proof_octets.specs.declared.near_reply.NearReply.{NearReply}
use Rattle.proof_octets.specs.NearReplies.{near_reply, IsGoodNear}
use Rattle.route_client.specs.declared.near_errors.NearError.{NearError}
use Rattle.route_client.specs.declared.within.Within.{Within}
use Rattle.route_client.specs.NearVerdicts.{IsNearVerdict, NearAccepts, items_covered}
use Rattle.route_audit.specs.NearComparing.{Compares, part_of}
use Rattle.route_audit.specs.NearEvidence.{IsRight}
use Rattle.route_audit.specs.Radii.{NearAcceptsAs, radii}
use Rattle.route_audit.proofs.NearJudged.{Met, HasDistances, right_of, collides_of}

abbrev pub OneVerdict : Type 0
OneVerdict = (hash : List ℕ → List ℕ) (key : List ℕ) (links : List Link) (octets : List ℕ) (q : NearQuery) (least : ℕ) (v w : Result Within NearError) → IsNearVerdict hash key links octets q least v → IsNearVerdict hash key links octets q least w → v ≡ w

abbrev pub AcceptsVerdict : Type 0
AcceptsVerdict = (hash : List ℕ → List ℕ) (key : List ℕ) (links : List Link) (octets : List ℕ) (q : NearQuery) (least : ℕ) (x : Within) → NearAccepts hash key links octets q least x → IsNearVerdict hash key links octets q least (Ok x)

-- octets encode one reply
one_spelled : (a b : NearReply) (r : Result NearReply ℕ) → r ≡ Ok a → r ≡ Ok b → a ≡ b
one_spelled a b r is other = cc

same_taken : (x y : Within) → ◌≡◌ {A = Result Within NearError} (Ok x) (Ok y) → x ≡ y
same_taken x y e = cc

not_both_ends : (x : Within) (e : NearError) → ◌≡◌ {A = Result Within NearError} (Ok x) (Err e) → ⊥
not_both_ends x e is = cc

-- acceptance with any minimum version is acceptance
abbrev any_least : (hash : List ℕ → List ℕ) (key : List ℕ) (links : List Link) (octets : List ℕ) (q : NearQuery) (least : ℕ) (x : Within) → NearAccepts hash key links octets q least x → NearAccepts hash key links octets q 0 x
any_least hash key links octets q least x is = record {
  reply = is.reply;
  spelled = is.spelled;
  fresh = omega arith;
  chain = is.chain;
  signed = is.signed;
  covered = is.covered;
  distinct = is.distinct;
  complete = is.complete;
  nodes = is.nodes;
  version = is.version;
  header = is.header;
}

-- octets that encode a reply and are accepted are accepted as that reply
pub accepts_as : (hash : List ℕ → List ℕ) (key : List ℕ) (links : List Link) (octets : List ℕ) (q : NearQuery) (x : Within) (a : NearReply) → NearAccepts hash key links octets q 0 x → whole near_reply octets ≡ Ok a → NearAcceptsAs hash key links octets q 0 x a
accepts_as hash key links octets q x a accepts is = record { accepts = accepts; is = one_spelled accepts.reply a (whole near_reply octets) accepts.spelled is }

pub spelled_as : (hash : List ℕ → List ℕ) (key : List ℕ) (links : List Link) (octets : List ℕ) (q : NearQuery) (least : ℕ) (x : Within) (a : NearReply) → NearAcceptsAs hash key links octets q least x a → whole near_reply octets ≡ Ok a
spelled_as hash key links octets q least x a h = subst (λ (y : NearReply). whole near_reply octets ≡ Ok y) h.is h.accepts.spelled

pub covered_as : (hash : List ℕ → List ℕ) (key : List ℕ) (links : List Link) (octets : List ℕ) (q : NearQuery) (least : ℕ) (x : Within) (a : NearReply) → NearAcceptsAs hash key links octets q least x a → items_covered hash a ≡ Ok tt
covered_as hash key links octets q least x a h = subst (λ (y : NearReply). items_covered hash y ≡ Ok tt) h.is h.accepts.covered

pub are_replies : OneVerdict → AcceptsVerdict → AreReplies radii
are_replies one accepts = record {
  chain = λ hash key links octets q least x a h. h.accepts.chain;
  signed = λ hash key links octets q least x a h. subst (λ (y : NearReply). verified_along key links (header_text y.header) y.signature ≡ Ok tt) h.is h.accepts.signed;
  spelled = spelled_as;
  same_header = λ hash key links octets q least x a h. h.accepts.header ∙ ap (λ (y : NearReply). y.header) h.is;
  any_least = λ hash key links octets q least x a h. record { accepts = any_least hash key links octets q least x h.accepts; is = h.is };
  one_taken = λ hash key links octets q x y a b h k. same_taken x y (one hash key links octets q 0 (Ok x) (Ok y) (accepts hash key links octets q 0 x h.accepts) (accepts hash key links octets q 0 y k.accepts));
  one_answer = λ octets a b h k. one_spelled a b (whole near_reply octets) h k;
  not_refused = λ hash key links octets q x a e h k. not_both_ends x e (one hash key links octets q 0 (Ok x) (Err e) (accepts hash key links octets q 0 x h.accepts) k.0);
  collision = λ hash sha p a two h. h.collision;
  truth = λ hash sha p q x a h. h.within;
  not_both = λ hash sha p q x a two h k. k.not_own h.own;
}

-- a finding of a comparison with a held book's node tree is also a finding for its publication
pub compared : (hash : List ℕ → List ℕ) (k : Kept) (q : NearQuery) (a : NearReply) (finding : Finding) → IsKept k → HasSpellings k → IsGoodNear a → a.header ≡ header_in hash k → ((kind : Kind) → KeepsTrue kind) → HasDistances
    → Compares hash (part_of k a) finding → Compared radii hash sha256 (publication_in hash k) q a finding
compared hash k q a Right kept spelled good header true_of distances compares = λ key links octets x h.
    subst (λ (y : NearReply). IsRight hash sha256 (publication_in hash k) q x y) h.is
    (by h.accepts (subst IsGoodNear (sym h.is) good) (ap (λ (y : NearReply). y.header) h.is ∙ header) (subst (λ (y : NearReply). Compares hash (part_of k y) Right) (sym h.is) compares))
  where
    by : {key : List ℕ} {links : List Link} {octets : List ℕ} {x : Within} (accepts : NearAccepts hash key links octets q 0 x) → IsGoodNear accepts.reply → accepts.reply.header ≡ header_in hash k
        → Compares hash (part_of k accepts.reply) Right → IsRight hash sha256 (publication_in hash k) q x accepts.reply
    by {key} {links} {octets} {x} accepts good header own = right_of hash k q x accepts.reply
        (record { kept = kept; spelled = spelled; good = good; header = header; complete = accepts.complete; nodes = accepts.nodes }) true_of distances own
compared hash k q a (Collision left right) kept spelled good header true_of distances compares = collides_of hash k kept a (two_texts left right) compares.0 compares.1
compared hash k q a (Forged key text signature) kept spelled good header true_of distances compares = absurd compares
