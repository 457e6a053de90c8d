-- Replies for routes are a kind of replies.
use Rattle.std.proofs.Common.{◌≡◌, ◌⊎◌, inl, inr, ℕ, Option, None, Some, List, [], ◌∷◌, Result, Ok, Err, IfOk, refl, sym, ap, subst, arith, ◌∙◌}
use Rattle.sha2.specs.Sha256.{sha256}
use Rattle.octet_text.specs.Exact.{IsBytes}
use Rattle.octet_text.specs.Format.{whole}
use Rattle.octet_text.proofs.Fields.{whole_found}
use Rattle.book_model.specs.declared.items.Query.{Query}
use Rattle.book_model.specs.Books.{Kind}
use Rattle.lms_tree.specs.declared.links.Link.{Link}
use Rattle.lms_tree.specs.Chains.{verified_along}
use Rattle.proof_method.specs.Laws.{KeepsTrue}
use Rattle.proof_octets.specs.declared.reply.Answer as answers
use Rattle.proof_octets.specs.declared.reply.Reply.{Reply}
use Rattle.proof_octets.specs.declared.reply.Reply.TheVariants as replies
use Rattle.proof_octets.specs.Good.{IsGood}
use Rattle.proof_octets.specs.Headers.{header_text}
use Rattle.proof_octets.specs.Replies as formats
use Rattle.proof_octets.proofs.FormatLaws.{reply_exact}
use Rattle.proof_octets.proofs.Good.{is_routed, is_apart}
use Rattle.route_client.specs.declared.accepted.Checked.{Checked}
use Rattle.route_client.specs.declared.accepted.Checked.TheVariants.{Route, Apart}
use Rattle.route_client.specs.declared.errors.CheckError.{CheckError}
use Rattle.route_client.specs.Verdicts.{IsVerdict, Accepts, Says, reply_by, as_checked, header_in as header_of_taken}
use Rattle.route_server.specs.Keeping.{Kept, IsKept, HasSpellings, header_in, publication_in}
use Rattle.route_audit.specs.Comparing.{Compares, node_part_of, pair_part_of}
use Rattle.route_audit.specs.Evidence.{two_texts, IsRight}
use Rattle.route_audit.specs.Kinds.{AreReplies}
use Rattle.route_audit.specs.Routes.{SpellsAnswer, AcceptsAs, routes}
use Rattle.route_audit.specs.Steps.{Compared}
use Rattle.route_audit.specs.declared.finding.Finding.{Finding}
use Rattle.route_audit.specs.declared.finding.Finding.TheVariants.{Right, Collision, Forged}
use Rattle.route_audit.proofs.Judged.{SoundLaws, right_of, collides_of}

abbrev pub OneVerdict : Type 0
OneVerdict = (hash : List ℕ → List ℕ) (key : List ℕ) (links : List Link) (octets : List ℕ) (q : Query) (least : ℕ) (v w : Result Checked CheckError) → IsVerdict hash key links octets q least v → IsVerdict hash key links octets q least w → v ≡ w

abbrev pub AcceptsVerdict : Type 0
AcceptsVerdict = (hash : List ℕ → List ℕ) (key : List ℕ) (links : List Link) (octets : List ℕ) (q : Query) (least : ℕ) (x : Checked) → Accepts hash key links octets q least x → IsVerdict hash key links octets q least (Ok x)

-- octets encode one answer
one_read : (a b : answers.Answer) (r : Result Reply ℕ) → (r ≡ Ok (replies.Answer a)) ⊎ (r ≡ Ok (replies.Apart a)) → (r ≡ Ok (replies.Answer b)) ⊎ (r ≡ Ok (replies.Apart b)) → a ≡ b
one_read a b r (inl is) (inl other) = cc
one_read a b r (inl is) (inr other) = absurd cc
one_read a b r (inr is) (inl other) = absurd cc
one_read a b r (inr is) (inr other) = cc

one_spelled : (octets : List ℕ) (a b : answers.Answer) → SpellsAnswer octets a → SpellsAnswer octets b → a ≡ b
one_spelled octets a b is other = one_read a b (whole formats.reply octets) is other

-- accepted octets encode an answer
spelled_by : (octets : List ℕ) (x : Checked) (a : answers.Answer) → whole formats.reply octets ≡ Ok (reply_by x a) → SpellsAnswer octets a
spelled_by octets (Route x) a is = inl is
spelled_by octets (Apart version header) a is = inr is

-- the reply that a route makes encodes its answer
pub spells_with : (octets route : List ℕ) (a : answers.Answer) → whole formats.reply octets ≡ Ok (formats.reply_with route a) → SpellsAnswer octets a
spells_with octets [] a is = inr is
spells_with octets (id ∷ ids) a is = inl is

-- octets that encode an answer are the text of its reply
pub text_of : (octets : List ℕ) (a : answers.Answer) → IsBytes octets → SpellsAnswer octets a → octets ≡ formats.reply_text (formats.reply_of a)
text_of octets a bytes (inl is) =
    let both = whole_found formats.reply reply_exact octets (replies.Answer a) bytes is in
    both.1 ∙ ap formats.reply_text (sym (is_routed a both.0))
text_of octets a bytes (inr is) =
    let both = whole_found formats.reply reply_exact octets (replies.Apart a) bytes is in
    both.1 ∙ ap formats.reply_text (sym (is_apart a both.0))

-- the result taken from an answer with a length, or without one
pub taken_of : (a : answers.Answer) (length : Option ℕ) → (x : Checked) × (as_checked a (Ok length) ≡ Ok x)
taken_of a (Some d) = (Route (record { length = d; route = a.items.route; version = a.header.version; header = a.header }), refl)
taken_of a None = (Apart a.header.version a.header, refl)

-- the header of the result is that of the answer
same_header : (kind : Kind) (a : answers.Answer) (q : Query) (x : Checked) → Says kind a q x → header_of_taken x ≡ a.header
same_header kind a q (Route x) says = says.header
same_header kind a q (Apart version header) says = says.header_is

same_taken : (x y : Checked) → ◌≡◌ {A = Result Checked CheckError} (Ok x) (Ok y) → x ≡ y
same_taken x y e = cc

not_both_ends : (x : Checked) (e : CheckError) → ◌≡◌ {A = Result Checked CheckError} (Ok x) (Err e) → ⊥
not_both_ends x e is = cc

-- acceptance with any minimum version is acceptance
abbrev any_least : (hash : List ℕ → List ℕ) (key : List ℕ) (links : List Link) (octets : List ℕ) (q : Query) (least : ℕ) (x : Checked) → Accepts hash key links octets q least x → Accepts hash key links octets q 0 x
any_least hash key links octets q least x is = record {
  answer = is.answer;
  spelled = is.spelled;
  fresh = omega arith;
  chain = is.chain;
  signed = is.signed;
  nodes = is.nodes;
  pairs = is.pairs;
  kind = is.kind;
  method = is.method;
  says = is.says;
}

-- octets that encode an answer and are accepted are accepted as that answer
pub accepts_as : (hash : List ℕ → List ℕ) (key : List ℕ) (links : List Link) (octets : List ℕ) (q : Query) (x : Checked) (a : answers.Answer) → Accepts hash key links octets q 0 x → SpellsAnswer octets a → AcceptsAs hash key links octets q 0 x a
accepts_as hash key links octets q x a accepts is = record { accepts = accepts; is = one_spelled octets accepts.answer a (spelled_by octets x accepts.answer accepts.spelled) is }

pub spelled_as : (hash : List ℕ → List ℕ) (key : List ℕ) (links : List Link) (octets : List ℕ) (q : Query) (least : ℕ) (x : Checked) (a : answers.Answer) → AcceptsAs hash key links octets q least x a → SpellsAnswer octets a
spelled_as hash key links octets q least x a h = subst (SpellsAnswer octets) h.is (spelled_by octets x h.accepts.answer h.accepts.spelled)

pub are_replies : OneVerdict → AcceptsVerdict → AreReplies routes
are_replies one accepts = record {
  chain = λ hash key links octets q least x a h. h.accepts.chain;
  signed = λ hash key links octets q least x a h. subst (λ (y : answers.Answer). verified_along key links (header_text y.header) y.signature ≡ Ok tt) h.is h.accepts.signed;
  spelled = spelled_as;
  same_header = λ hash key links octets q least x a h. same_header h.accepts.kind h.accepts.answer q x h.accepts.says ∙ ap (λ (y : answers.Answer). y.header) h.is;
  any_least = λ hash key links octets q least x a h. record { accepts = any_least hash key links octets q least x h.accepts; is = h.is };
  one_taken = λ hash key links octets q x y a b h k. same_taken x y (one hash key links octets q 0 (Ok x) (Ok y) (accepts hash key links octets q 0 x h.accepts) (accepts hash key links octets q 0 y k.accepts));
  one_answer = one_spelled;
  not_refused = λ hash key links octets q x a e h k. not_both_ends x e (one hash key links octets q 0 (Ok x) (Err e) (accepts hash key links octets q 0 x h.accepts) k.0);
  collision = λ hash sha p a two h. h.collision;
  truth = λ hash sha p q x a h. h.holds;
  not_both = λ hash sha p q x a two h k. k.not_own h.own;
}

-- a finding of a comparison with a held book's trees is also a finding for its publication
pub compared : (hash : List ℕ → List ℕ) (k : Kept) (q : Query) (a : answers.Answer) (finding : Finding) → IsKept k → HasSpellings k → IsGood a → a.header ≡ header_in hash k → ((kind : Kind) → KeepsTrue kind) → SoundLaws
    → Compares hash (node_part_of k a) (pair_part_of k a) finding → Compared routes hash sha256 (publication_in hash k) q a finding
compared hash k q a Right kept spelled good header true_of sound compares = λ key links octets x h.
    subst (λ (y : answers.Answer). IsRight hash sha256 (publication_in hash k) q x y) h.is
    (by h.accepts (subst IsGood (sym h.is) good) (ap (λ (y : answers.Answer). y.header) h.is ∙ header) (subst (λ (y : answers.Answer). Compares hash (node_part_of k y) (pair_part_of k y) Right) (sym h.is) compares))
  where
    by : {key : List ℕ} {links : List Link} {octets : List ℕ} {x : Checked} (accepts : Accepts hash key links octets q 0 x) → IsGood accepts.answer → accepts.answer.header ≡ header_in hash k
        → Compares hash (node_part_of k accepts.answer) (pair_part_of k accepts.answer) Right → IsRight hash sha256 (publication_in hash k) q x accepts.answer
    by {key} {links} {octets} {x} accepts good header own = right_of hash k q x accepts.answer
        (record { kept = kept; spelled = spelled; good = good; header = header; kind = accepts.kind; method = accepts.method; says = accepts.says }) true_of sound own.0 own.1
compared hash k q a (Collision left right) kept spelled good header true_of sound compares = collides_of hash k kept a (two_texts left right) compares.0 compares.1
compared hash k q a (Forged key text signature) kept spelled good header true_of sound compares = absurd compares

-- a consequence of a value holds if the value exists
pub if_ok : {T E : Type 0} (r : Result T E) (P Q : T → Type 0) → ((x : T) → P x → Q x) → IfOk r P → IfOk r Q
if_ok (Ok x) P Q f h = f x h
if_ok (Err e) P Q f h = tt
