-- Octets that are accepted are also accepted under lower minimum versions, only under public keys, and, if they
-- have a route, for only one query.
use Rattle.std.proofs.Common.{◌≡◌, ℕ, ◌+◌, ◌≤◌, ◌==◌, Bool, true, false, cond, not, List, [], ◌∷◌, length, Option, Some, None, is_some, Result, Ok, Err, refl, sym, ap, subst, arith, ◌∙◌}
use Rattle.std.proofs.lemmas.Bool.Decides.{nat_tests}
use Rattle.octet_text.specs.Format.{whole}
use Rattle.road_map.specs.declared.parts.Parts.{Parts}
use Rattle.road_map.specs.Routes.{IsShortest}
use Rattle.road_leaf.specs.declared.leaf.NodeLeaf.{NodeLeaf}
use Rattle.book_model.specs.declared.items.Query.{Query}
use Rattle.book_model.specs.declared.items.Items.{Items}
use Rattle.book_model.specs.declared.settings.Numbers.{Numbers}
use Rattle.book_model.specs.Books.{Kind}
use Rattle.lms_tree.specs.declared.links.Link.{Link}
use Rattle.lms_tree.specs.declared.seals.SealError.{SealError}
use Rattle.lms_tree.specs.declared.seals.SealError.TheVariants.{BadKey}
use Rattle.lms_tree.specs.Chains.{after_link}
use Rattle.lms_tree.specs.Links.{IsLink}
use Rattle.lms_tree.specs.Signatures.{is_key, verified}
use Rattle.proof_judge.specs.declared.refusal.Refusal.TheVariants.{RepeatedNode, MissingTuple, BadRoute}
use Rattle.proof_judge.specs.ItemWalks.{item_at, StandsTwice}
use Rattle.proof_judge.specs.Judgement.{Verdict, by_item, by_arc, arc_to, walked_from, walked, OnRoute, OwnTests, Judged}
use Rattle.proof_method.proofs.RouteLaws.{tests_passed, route_passed}
use Rattle.proof_method.proofs.Completes.{shortest_joins}
use Rattle.proof_octets.specs.declared.header.Header.{Header}
use Rattle.proof_octets.specs.declared.reply.Answer as answers
use Rattle.proof_octets.specs.declared.reply.Reply.{Reply}
use Rattle.proof_octets.specs.declared.reply.Reply.TheVariants as replies
use Rattle.proof_octets.specs.Good.{IsGoodHeader}
use Rattle.proof_octets.specs.Headers.{header_text}
use Rattle.proof_octets.specs.Replies as formats
use Rattle.route_client.specs.declared.accepted.Accepted.{Accepted}
use Rattle.route_client.specs.declared.accepted.Checked.{Checked}
use Rattle.route_client.specs.declared.accepted.Checked.TheVariants.{Route, Apart}
use Rattle.route_client.specs.Verdicts.{Accepts}
use Rattle.near_proof.specs.Acceptance.{LowerVersionsAccept, OnlyKeysAccept, RoutesAnswerOneQuery, TrueAnswersAgree, HeadersAreNoLinks}

-- ---- minimum versions

pub lower : LowerVersionsAccept
lower hash key links octets query least low x at is = record {
  answer = is.answer;
  spelled = is.spelled;
  fresh = omega (arith, at, is.fresh);
  chain = is.chain;
  signed = is.signed;
  nodes = is.nodes;
  pairs = is.pairs;
  kind = is.kind;
  method = is.method;
  says = is.says;
}

-- ---- keys

pub not_verified : (key text sig : List ℕ) → is_key key ≡ false → verified key text sig ≡ Ok tt → ⊥
not_verified key text sig bad good = by (is_key key) _ bad good
  where
    by : (b : Bool) (rest : Result (Unit {0}) SealError) → b ≡ false → cond (not b) (Err BadKey) rest ≡ Ok tt → ⊥
    by true rest bad good = cc
    by false rest bad good = cc

pub link_good : (n : ℕ) (v : Result (Unit {0}) SealError) (rest : Result (Unit {0}) (ℕ × SealError)) → after_link n v rest ≡ Ok tt → v ≡ Ok tt
link_good n (Ok tt) rest e = refl
link_good n (Err why) rest e = cc

pub keys : OnlyKeysAccept
keys hash key [] octets query least x bad is = not_verified key _ _ bad is.signed
keys hash key (link ∷ links) octets query least x bad is = not_verified key _ _ bad (link_good 0 _ _ is.chain)

-- ---- one query

ends_here : (nodes : List NodeLeaf) (t index r d : ℕ) → walked_from nodes t index r [] ≡ Ok d → r ≡ t
ends_here nodes t index r d e = by_item_here (item_at nodes r) e
  where
    by_end : (b : Bool) → (r == t) ≡ b → cond b (Ok 0) (Err (BadRoute (index + 1))) ≡ Ok d → r ≡ t
    by_end true s e = grind (arith, s)
    by_end false s e = cc

    by_item_here : (o : Option NodeLeaf) → cond (is_some o) (cond (r == t) (Ok 0) (Err (BadRoute (index + 1)))) (Err (MissingTuple r)) ≡ Ok d → r ≡ t
    by_item_here None e = cc
    by_item_here (Some n) e = by_end (r == t) refl e

-- a walk from the next id on
abbrev OnWalk : List NodeLeaf → ℕ → ℕ → ℕ → List ℕ → Type 0
OnWalk nodes t index q route = (m : ℕ) × (walked_from nodes t index q route ≡ Ok m)

goes_on : (nodes : List NodeLeaf) (t index r q d : ℕ) (route : List ℕ) → walked_from nodes t index r (q ∷ route) ≡ Ok d → OnWalk nodes t (index + 1) q route
goes_on nodes t index r q d route e = by_node (item_at nodes r) (walked_from nodes t (index + 1) q route) refl e
  where
    by_length : (l : Option ℕ) (v : Verdict) → walked_from nodes t (index + 1) q route ≡ v → by_arc index l v ≡ Ok d → OnWalk nodes t (index + 1) q route
    by_length None v s e = cc
    by_length (Some l) (Err x) s e = cc
    by_length (Some l) (Ok m) s e = (m, s)

    by_node : (o : Option NodeLeaf) (v : Verdict) → walked_from nodes t (index + 1) q route ≡ v → by_item index r q o v ≡ Ok d → OnWalk nodes t (index + 1) q route
    by_node None v s e = cc
    by_node (Some n) v s e = by_length (arc_to n.arcs q) v s e

-- two walks of one route end at the same id
same_end : (nodes more : List NodeLeaf) (t u index i r d e : ℕ) (route : List ℕ) → walked_from nodes t index r route ≡ Ok d → walked_from more u i r route ≡ Ok e → t ≡ u
same_end nodes more t u index i r d e [] one two = sym (ends_here nodes t index r d one) ∙ ends_here more u i r e two
same_end nodes more t u index i r d e (q ∷ route) one two =
    let on = goes_on nodes t index r q d route one in
    let so = goes_on more u i r q e route two in
    same_end nodes more t u (index + 1) (i + 1) q on.0 so.0 route on.1 so.1

-- a route that is a walk
record Starts (nodes : List NodeLeaf) (q : Query) (first : ℕ) (rest : List ℕ) (d : ℕ) : Type 0 where
  pub start : first ≡ q.from
  pub goes : walked_from nodes q.to 0 first rest ≡ Ok d

starts : (nodes : List NodeLeaf) (q : Query) (first d : ℕ) (rest : List ℕ) → walked nodes q (first ∷ rest) ≡ Ok d → Starts nodes q first rest d
starts nodes q first d rest e = by_start (first == q.from) refl e
  where
    by_start : (b : Bool) → (first == q.from) ≡ b → cond b (walked_from nodes q.to 0 first rest) (Err (BadRoute 0)) ≡ Ok d → Starts nodes q first rest d
    by_start true s e = record { start = grind (arith, s); goes = e }
    by_start false s e = cc

same_query : (q r : Query) → q.from ≡ r.from → q.to ≡ r.to → q ≡ r
same_query q r from to =
    ap (λ (f : ℕ). let x : Query = record { from = f; to = q.to } in x) from
    ∙ ap (λ (t : ℕ). let x : Query = record { from = r.from; to = t } in x) to

one_walk : (nodes more : List NodeLeaf) (q r : Query) (route : List ℕ) (d e : ℕ) → walked nodes q route ≡ Ok d → walked more r route ≡ Ok e → q ≡ r
one_walk nodes more q r [] d e one two = cc
one_walk nodes more q r (first ∷ rest) d e one two =
    let a = starts nodes q first d rest one in
    let b = starts more r first e rest two in
    same_query q r (sym a.start ∙ b.start) (same_end nodes more q.to r.to 0 0 first d e rest a.goes b.goes)

-- a route that the judgement accepts is a walk
judged_walk : (k : Kind) (n : Numbers) (g : Items) (q : Query) (d : ℕ) → Judged k n g q (Ok d) → (m : ℕ) × (walked g.nodes q g.route ≡ Ok m)
judged_walk k n g q d h =
    let t = tests_passed (StandsTwice g.nodes) RepeatedNode (OnRoute (walked g.nodes q g.route) (OwnTests k n g q)) d h in
    let r = route_passed (walked g.nodes q g.route) (OwnTests k n g q) d t.1 in
    (r.0, r.1)

same_answer : (read : Result Reply ℕ) (a b : answers.Answer) → read ≡ Ok (replies.Answer a) → read ≡ Ok (replies.Answer b) → a ≡ b
same_answer read a b one two = cc

pub one_query : RoutesAnswerOneQuery
one_query hash key other_key links other_links octets query other least other_least x (Route y) is so =
    let a = judged_walk is.kind is.answer.header.numbers is.answer.items query x.length is.says.judged in
    let b = judged_walk so.kind so.answer.header.numbers so.answer.items other y.length so.says.judged in
    let same = same_answer (whole formats.reply octets) so.answer is.answer so.spelled is.spelled in
    let here : walked so.answer.items.nodes other is.answer.items.route ≡ Ok b.0 =
    subst (λ (z : answers.Answer). walked so.answer.items.nodes other z.items.route ≡ Ok b.0) same b.1 in
    one_walk is.answer.items.nodes so.answer.items.nodes query other is.answer.items.route a.0 b.0 a.1 here
one_query hash key other_key links other_links octets query other least other_least x (Apart version header) is so =
    absurd (unlike (whole formats.reply octets) is.answer so.answer is.spelled so.spelled)
  where
    unlike : (read : Result Reply ℕ) (a b : answers.Answer) → read ≡ Ok (replies.Answer a) → read ≡ Ok (replies.Apart b) → ⊥
    unlike read a b one two = cc

-- ---- one map

one_length : (parts : Parts) (s t d e : ℕ) (route other : List ℕ) → IsShortest parts s t route d → IsShortest parts s t other e → d ≡ e
one_length parts s t d e route other one two =
    omega (arith, one.least e (shortest_joins parts s t e other two), two.least d (shortest_joins parts s t d route one))

pub agree : TrueAnswersAgree
agree parts query (Route x) (Route y) one two = one_length parts query.from query.to x.length y.length x.route y.route one two
agree parts query (Route x) (Apart version header) one two = absurd (two.2 x.length (shortest_joins parts query.from query.to x.length x.route one))
agree parts query (Apart version header) (Route y) one two = absurd (one.2 y.length (shortest_joins parts query.from query.to y.length y.route two))
agree parts query (Apart version header) (Apart other_version other) one two = tt

-- ---- headers

pub no_links : ((h : Header) → IsGoodHeader h → length (header_text h) ≡ 104) → HeadersAreNoLinks
no_links long h good link = omega (arith, long h good, link.size)
