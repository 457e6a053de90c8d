-- Octets accepted for a range query are also accepted under lower minimum versions, only under public keys, and not
-- for a route.
use Rattle.std.proofs.Common.{◌≡◌, ℕ, zero, suc, ◌+◌, ◌≤◌, ◌<◌, Bool, true, false, cond, List, [], ◌∷◌, length, take, drop, Result, Ok, Err, refl, sym, ap, arith, ◌∙◌, nat_lt}
use Rattle.std.specs.Prelude.{get_or}
use Rattle.std.specs.Int.{w8, from_be_bytes}
use Rattle.std.specs.Str.{bytes_eq}
use Rattle.std.proofs.lemmas.Bool.Decides.{nat_tests}
use Rattle.std.proofs.lemmas.Slice.Eq.{bytes_eq-Decides}
use Rattle.octet_text.specs.Left.{Left}
use Rattle.octet_text.specs.Format.{◌>>=◌, between, number_at, octets_at, whole}
use Rattle.book_model.specs.declared.items.Query.{Query}
use Rattle.lms_tree.specs.declared.links.Link.{Link}
use Rattle.proof_octets.specs.declared.reply.Reply.{Reply}
use Rattle.proof_octets.specs.Replies as formats
use Rattle.route_client.specs.declared.accepted.Checked.{Checked}
use Rattle.route_client.specs.Verdicts.{Accepts, reply_by}
use Rattle.near_proof.proofs.Accepted.{not_verified, link_good}
use Rattle.proof_octets.specs.declared.query.NearQuery.{NearQuery}
use Rattle.proof_octets.specs.declared.near_reply.NearReply.{NearReply}
use Rattle.proof_octets.specs.NearReplies.{near_name, near_reply}
use Rattle.route_client.specs.declared.within.Within.{Within}
use Rattle.route_client.specs.NearVerdicts.{NearAccepts}
use Rattle.proof_octets.specs.Radius.{IsNear}
use Rattle.proof_octets.proofs.MarkLaws.{listed_once}
use Rattle.near_proof.specs.NearAcceptance.{LowerVersionsAccept, OnlyKeysAccept, NoOctetsAnswerBoth, TrueAnswersAgree}

pub lower : LowerVersionsAccept
lower hash key links octets query least low x at is = record {
  reply = is.reply;
  spelled = is.spelled;
  fresh = omega (arith, at, is.fresh);
  chain = is.chain;
  signed = is.signed;
  covered = is.covered;
  distinct = is.distinct;
  complete = is.complete;
  nodes = is.nodes;
  version = is.version;
  header = is.header;
}

pub keys : OnlyKeysAccept
keys hash key [] octets query least x bad is = not_verified key _ _ bad is.signed
keys hash key (link ∷ links) octets query least x bad is = not_verified key _ _ bad (link_good 0 _ _ is.chain)

-- ---- the first octet

-- a bound value was read
bound : {A B : Type 0} (r : Result A ℕ) (k : A → Result B ℕ) (y : B) → (r >>= k) ≡ Ok y → (x : A) × (r ≡ Ok x)
bound (Ok x) k y e = (x, refl)
bound (Err d) k y e = absurd cc

-- a field that passed its test
passed : {A : Type 0} (short test : Bool) (e : ℕ) (x y : A) → cond short (Err e) (cond test (Ok x) (Err e)) ≡ Ok y → test ≡ true
passed true t e x y h = absurd cc
passed false true e x y h = refl
passed false false e x y h = absurd cc

-- a reply for a route begins with one of four numbers
route_octet : (text : List ℕ) (y : ℕ × Left) → number_at w8 (between 0 3) (record { at = 0; text = text }) ≡ Ok y → (first : ℕ) (rest : List ℕ) → text ≡ first ∷ rest → first ≤ 3
route_octet text y read first rest is =
    let test : between 0 3 (from_be_bytes w8 (take 1 text)) ≡ true = passed _ _ _ _ y read in
    let here : between 0 3 first ≡ true = ap (λ (t : List ℕ). between 0 3 (from_be_bytes w8 (take 1 t))) (sym is) ∙ test in
    grind (arith, nat_tests, here)

-- a reply to a range query begins with a letter
near_octet : (text : List ℕ) (y : List ℕ × Left) → octets_at 4 (bytes_eq near_name) (record { at = 0; text = text }) ≡ Ok y → get_or text 0 0 ≡ 0x52
near_octet text y read =
    let same : near_name ≡ take 4 text = (bytes_eq-Decides near_name (take 4 text)).0 (passed _ _ _ _ y read) in
    first text same
  where
    first : (text : List ℕ) → near_name ≡ take 4 text → get_or text 0 0 ≡ 0x52
    first [] same = cc
    first (x ∷ rest) same = sym (ap (λ (t : List ℕ). get_or t 0 0) same)

unlike : (text : List ℕ) (a : ℕ × Left) (b : List ℕ × Left) → number_at w8 (between 0 3) (record { at = 0; text = text }) ≡ Ok a → octets_at 4 (bytes_eq near_name) (record { at = 0; text = text }) ≡ Ok b → ⊥
unlike [] a b route near = cc
unlike (first ∷ rest) a b route near = omega (arith, route_octet (first ∷ rest) a route first rest refl, near_octet (first ∷ rest) b near)

tag_read : (text : List ℕ) (r : Reply) → whole formats.reply text ≡ Ok r → (y : ℕ × Left) × (number_at w8 (between 0 3) (record { at = 0; text = text }) ≡ Ok y)
unfolding formats.reply
tag_read text r read = bound (number_at w8 (between 0 3) (record { at = 0; text = text })) _ _ (bound (formats.reply.read (record { at = 0; text = text })) _ r read).1

name_read : (text : List ℕ) (r : NearReply) → whole near_reply text ≡ Ok r → (y : List ℕ × Left) × (octets_at 4 (bytes_eq near_name) (record { at = 0; text = text }) ≡ Ok y)
unfolding near_reply
name_read text r read = bound (octets_at 4 (bytes_eq near_name) (record { at = 0; text = text })) _ _ (bound (near_reply.read (record { at = 0; text = text })) _ r read).1

pub one_form : NoOctetsAnswerBoth
one_form hash key near_key links near_links octets query near least near_least x y is so =
    let a = tag_read octets (reply_by x is.answer) is.spelled in
    let b = name_read octets so.reply so.spelled in
    unlike octets a.0 b.0 a.1 b.1

pub agree : TrueAnswersAgree
agree parts query one other first second = listed_once (IsNear parts query) one other first second
