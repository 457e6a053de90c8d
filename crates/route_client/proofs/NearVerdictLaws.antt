-- Octets have at most one verdict, and accepted octets pass every test.
use Rattle.std.proofs.Common.{◌≡◌, ℕ, ◌⊎◌, inl, inr, List, Option, Some, None, Result, Ok, Err, IfOk, refl, sym, ap, subst, ◌∙◌}
use Rattle.octet_text.specs.Format.{whole}
use Rattle.road_map.specs.Least.{IsLeast}
use Rattle.road_map.proofs.LeastLaws.{IsLeast-unique}
use Rattle.road_leaf.specs.declared.leaf.NodeLeaf.{NodeLeaf}
use Rattle.lms_tree.specs.declared.links.Link.{Link}
use Rattle.proof_judge.specs.declared.refusal.Refusal.{Refusal}
use Rattle.proof_judge.specs.declared.refusal.Refusal.TheVariants as refusals
use Rattle.proof_judge.specs.ItemWalks.{StandsTwice}
use Rattle.proof_octets.specs.declared.header.Header.{Header}
use Rattle.route_client.specs.declared.errors.CheckError.{CheckError}
use Rattle.route_client.specs.declared.errors.CheckError.TheVariants as tests
use Rattle.route_client.specs.Verdicts.{◌>>=◌, header_tested, Meets as MeetsTest}
use Rattle.route_client.proofs.VerdictLaws.{header_passes, passes_header}
use Rattle.proof_octets.specs.declared.marks.Mark.{Mark}
use Rattle.proof_octets.specs.declared.query.NearQuery.{NearQuery}
use Rattle.proof_octets.specs.declared.near_reply.NearReply.{NearReply}
use Rattle.proof_octets.specs.NearReplies.{near_reply, IsNamed}
use Rattle.proof_octets.proofs.Named.{read_named}
use Rattle.proof_octets.specs.Radius.{ListsMarks}
use Rattle.proof_octets.proofs.MarkLaws.{listed_once}
use Rattle.road_search.specs.Labelling.{Found}
use Rattle.route_client.specs.Reached.{IsLabelled, Reached, Measured}
use Rattle.route_client.proofs.Walks.{reached_marks}
use Rattle.route_client.specs.declared.near_errors.NearError.{NearError}
use Rattle.route_client.specs.declared.near_errors.NearError.TheVariants as errors
use Rattle.route_client.specs.declared.within.CheckedReply.{CheckedReply}
use Rattle.route_client.specs.declared.within.Within.{Within}
use Rattle.route_client.specs.NearVerdicts.{spelled, items_covered, header_and_cover, near_error, after_tests, tested, near_passed, IsReached, LacksItem, Walked, as_within, WalkedAfter, IsNearVerdict, NearAccepts, UnlessMemory, Meets, ChecksNear}
use Rattle.octet_text.specs.Want.{no_memory}

-- ---- at most one verdict

-- the tests after the search for ids without an item
Then : List NodeLeaf → NearQuery → Option ℕ → Result (List Mark) NearError → Type 0
Then nodes q (Some id) r = r ≡ Err (errors.MissingTuple id)
Then nodes q None r = (marks : List Mark) × ListsMarks (IsReached nodes q) marks × (r ≡ Ok marks)

-- the tests after the search for repeated ids
After : List NodeLeaf → NearQuery → Option ℕ → Result (List Mark) NearError → Type 0
unfolding Then
After nodes q (Some id) r = r ≡ Err (errors.RepeatedNode id)
After nodes q None r = (o : Option ℕ) × IsLeast (LacksItem nodes q) o × Then nodes q o r

record InTurn (nodes : List NodeLeaf) (q : NearQuery) (r : Result (List Mark) NearError) : Type 0 where
  pub twice : Option ℕ
  pub least : IsLeast (StandsTwice nodes) twice
  pub after : After nodes q twice r

in_turn : (nodes : List NodeLeaf) (q : NearQuery) (r : Result (List Mark) NearError) → Walked nodes q r → InTurn nodes q r
unfolding After Then
in_turn nodes q (Ok marks) h = record { twice = None; least = h.0; after = (None, h.1.0, (marks, h.1.1, refl)) }
in_turn nodes q (Err (errors.MissingTuple id)) h = record { twice = None; least = h.0; after = (Some id, h.1, refl) }
in_turn nodes q (Err (errors.RepeatedNode id)) h = record { twice = Some id; least = h; after = refl }
in_turn nodes q (Err (errors.Malformed at)) h = absurd h.1
in_turn nodes q (Err (errors.Stale version)) h = absurd h.1
in_turn nodes q (Err (errors.BadChain link why)) h = absurd h.1
in_turn nodes q (Err (errors.BadSignature why)) h = absurd h.1
in_turn nodes q (Err (errors.BadCover why)) h = absurd h.1
in_turn nodes q (Err (errors.Memory _)) h = absurd h.1

one_then : (nodes : List NodeLeaf) (q : NearQuery) (o : Option ℕ) (r s : Result (List Mark) NearError) → Then nodes q o r → Then nodes q o s → r ≡ s
unfolding Then
one_then nodes q (Some id) r s h k = h ∙ sym k
one_then nodes q None r s h k = h.2 ∙ ap (λ (marks : List Mark). Ok marks) (listed_once (IsReached nodes q) h.0 k.0 h.1 k.1) ∙ sym k.2

one_after : (nodes : List NodeLeaf) (q : NearQuery) (o : Option ℕ) (r s : Result (List Mark) NearError) → After nodes q o r → After nodes q o s → r ≡ s
unfolding After
one_after nodes q (Some id) r s h k = h ∙ sym k
one_after nodes q None r s h k =
    let same : k.0 ≡ h.0 = IsLeast-unique (LacksItem nodes q) k.0 h.0 k.1 h.1 in
    one_then nodes q h.0 r s h.2 (subst (λ (o : Option ℕ). Then nodes q o s) same k.2)

one_walked : (nodes : List NodeLeaf) (q : NearQuery) (r s : Result (List Mark) NearError) → Walked nodes q r → Walked nodes q s → r ≡ s
one_walked nodes q r s h k =
    let one = in_turn nodes q r h in
    let other = in_turn nodes q s k in
    let same : other.twice ≡ one.twice = IsLeast-unique (StandsTwice nodes) other.twice one.twice other.least one.least in
    one_after nodes q one.twice r s one.after (subst (λ (o : Option ℕ). After nodes q o s) same other.after)

one_within : (p : Result NearReply NearError) (q : NearQuery) (v w : Result Within NearError) → WalkedAfter p q v → WalkedAfter p q w → v ≡ w
one_within (Err e) q v w is so = is ∙ sym so
one_within (Ok a) q v w is so = is.2 ∙ ap (as_within a) (one_walked a.nodes q is.0 so.0 is.1 so.1) ∙ sym so.2

pub one_verdict : (hash : List ℕ → List ℕ) (key : List ℕ) (links : List Link) (octets : List ℕ) (q : NearQuery) (least : ℕ) (v w : Result Within NearError) → IsNearVerdict hash key links octets q least v → IsNearVerdict hash key links octets q least w → v ≡ w
unfolding IsNearVerdict
one_verdict hash key links octets q least v w = one_within (near_passed hash key links octets least) q v w

-- ---- an accepted reply passes each test

record PassesBoth (h n : Result (Unit {0}) CheckError) : Type 0 where
  pub header : h ≡ Ok tt
  pub covered : n ≡ Ok tt

both_pass : (h n : Result (Unit {0}) CheckError) → (h >>= λ _. n) ≡ Ok tt → PassesBoth h n
both_pass (Ok u) n e = record { header = refl; covered = e }
both_pass (Err d) n e = absurd cc

record Passes (hash : List ℕ → List ℕ) (key : List ℕ) (links : List Link) (least : ℕ) (r : Result NearReply ℕ) (a : NearReply) : Type 0 where
  pub spelled : r ≡ Ok a
  pub passes : header_and_cover hash key links least a ≡ Ok tt

passes_of : (hash : List ℕ → List ℕ) (key : List ℕ) (links : List Link) (least : ℕ) (r : Result NearReply ℕ) (a : NearReply) → tested hash key links least (spelled r) ≡ Ok a → Passes hash key links least r a
passes_of hash key links least (Err at) a e = absurd cc
passes_of hash key links least (Ok b) a e = by_tests (header_and_cover hash key links least b) refl e
  where
    by_tests : (t : Result (Unit {0}) CheckError) → header_and_cover hash key links least b ≡ t → after_tests b t ≡ Ok a → Passes hash key links least (Ok b) a
    by_tests (Ok u) is h =
        let same : b ≡ a = cc in
        record { spelled = ap (λ (x : NearReply). Ok x) same; passes = subst (λ (x : NearReply). header_and_cover hash key links least x ≡ Ok tt) same is }
    by_tests (Err d) is h = absurd cc

record Brought (p : Result NearReply NearError) (q : NearQuery) (x : Within) : Type 0 where
  pub reply : NearReply
  pub passed : p ≡ Ok reply
  pub distinct : IsLeast (StandsTwice reply.nodes) None
  pub complete : IsLeast (LacksItem reply.nodes q) None
  pub nodes : ListsMarks (IsReached reply.nodes q) x.nodes
  pub version : x.version ≡ reply.header.version
  pub header : x.header ≡ reply.header

ok_brought : (a : NearReply) (q : NearQuery) (x : Within) (r : Result (List Mark) NearError) → Walked a.nodes q r → Ok x ≡ as_within a r → Brought (Ok a) q x
ok_brought a q x (Ok marks) is e =
    let same : x ≡ record { nodes = marks; version = a.header.version; header = a.header } = cc in
    record {
      reply = a;
      passed = refl;
      distinct = is.0;
      complete = is.1.0;
      nodes = subst (ListsMarks (IsReached a.nodes q)) (sym (ap (λ (y : Within). y.nodes) same)) is.1.1;
      version = ap (λ (y : Within). y.version) same;
      header = ap (λ (y : Within). y.header) same;
    }
ok_brought a q x (Err d) is e = absurd cc

brought : (p : Result NearReply NearError) (q : NearQuery) (x : Within) → WalkedAfter p q (Ok x) → Brought p q x
brought (Err e) q x is = absurd cc
brought (Ok a) q x is = ok_brought a q x is.0 is.1 is.2

pub accepts_of : (hash : List ℕ → List ℕ) (key : List ℕ) (links : List Link) (octets : List ℕ) (q : NearQuery) (least : ℕ) (x : Within) → IsNearVerdict hash key links octets q least (Ok x) → NearAccepts hash key links octets q least x
unfolding IsNearVerdict near_passed header_and_cover
accepts_of hash key links octets q least x is =
    let all = brought (near_passed hash key links octets least) q x is in
    let a = all.reply in
    let front = passes_of hash key links least (whole near_reply octets) a all.passed in
    let both = both_pass (header_tested key links least a.header a.signature) (items_covered hash a) front.passes in
    let header = header_passes key links least a.header a.signature both.header in
    record {
      reply = a;
      spelled = front.spelled;
      fresh = header.fresh;
      chain = header.chain;
      signed = header.signed;
      covered = both.covered;
      distinct = all.distinct;
      complete = all.complete;
      nodes = all.nodes;
      version = all.version;
      header = all.header;
    }

-- the reply that passes the tests before its items are walked is the reply that the octets encode
pub spelled_of : (hash : List ℕ → List ℕ) (key : List ℕ) (links : List Link) (octets : List ℕ) (least : ℕ) (a : NearReply) → near_passed hash key links octets least ≡ Ok a → whole near_reply octets ≡ Ok a
unfolding near_passed
spelled_of hash key links octets least a is = (passes_of hash key links least (whole near_reply octets) a is).spelled

-- a fact about a reply holds for the same reply after it passes
pub of_same : (P : NearReply → Type 0) (a : NearReply) (r : Result CheckedReply NearError) → P a → IfOk r (λ c. c.reply ≡ a) → IfOk r (λ c. P c.reply)
of_same P a (Ok c) holds same = subst P (sym same) holds
of_same P a (Err e) holds same = tt

-- ---- and in the other direction

passed_is : (hash : List ℕ → List ℕ) (key : List ℕ) (links : List Link) (octets : List ℕ) (least : ℕ) (a : NearReply) → whole near_reply octets ≡ Ok a → header_tested key links least a.header a.signature ≡ Ok tt → items_covered hash a ≡ Ok tt
    → near_passed hash key links octets least ≡ Ok a
unfolding near_passed header_and_cover
passed_is hash key links octets least a read header covers =
    let test : header_and_cover hash key links least a ≡ Ok tt = rw (header, covers) refl in
    rw (read, test) refl

same_within : (x : Within) (a : NearReply) → x.version ≡ a.header.version → x.header ≡ a.header → Ok x ≡ as_within a (Ok x.nodes)
same_within x a version header =
    ap (λ (v : ℕ). let y : Within = record { nodes = x.nodes; version = v; header = x.header } in Ok y) version
    ∙ ap (λ (h : Header). let y : Within = record { nodes = x.nodes; version = a.header.version; header = h } in Ok y) header

pub verdict_of : (hash : List ℕ → List ℕ) (key : List ℕ) (links : List Link) (octets : List ℕ) (q : NearQuery) (least : ℕ) (x : Within) → NearAccepts hash key links octets q least x → IsNearVerdict hash key links octets q least (Ok x)
unfolding IsNearVerdict
verdict_of hash key links octets q least x is =
    let a = is.reply in
    let header = passes_header key links least a.header a.signature (record { fresh = is.fresh; chain = is.chain; signed = is.signed }) in
    let front = passed_is hash key links octets least a is.spelled header is.covered in
    subst (λ (p : Result NearReply NearError). WalkedAfter p q (Ok x)) (sym front) (Ok x.nodes, (is.distinct, (is.complete, is.nodes)), same_within x a is.version is.header)

-- ---- the results of functions

-- a weaker fact also holds
pub weaker : {A : Type 0} (P Q : Result A NearError → Type 0) (r : Result A NearError) → ((x : Result A NearError) → P x → Q x) → UnlessMemory P r → UnlessMemory Q r
weaker P Q (Ok x) f h = f (Ok x) h
weaker P Q (Err (errors.Malformed at)) f h = f (Err (errors.Malformed at)) h
weaker P Q (Err (errors.Stale version)) f h = f (Err (errors.Stale version)) h
weaker P Q (Err (errors.BadChain link why)) f h = f (Err (errors.BadChain link why)) h
weaker P Q (Err (errors.BadSignature why)) f h = f (Err (errors.BadSignature why)) h
weaker P Q (Err (errors.BadCover why)) f h = f (Err (errors.BadCover why)) h
weaker P Q (Err (errors.RepeatedNode id)) f h = f (Err (errors.RepeatedNode id)) h
weaker P Q (Err (errors.MissingTuple id)) f h = f (Err (errors.MissingTuple id)) h
weaker P Q (Err (errors.Memory _)) f h = tt

pub only_accepted : (hash : List ℕ → List ℕ) (key : List ℕ) (links : List Link) (octets : List ℕ) (q : NearQuery) (least : ℕ) (r : Result Within NearError) → UnlessMemory (IsNearVerdict hash key links octets q least) r
    → (x : Within) → NearAccepts hash key links octets q least x → UnlessMemory (λ v. v ≡ Ok x) r
only_accepted hash key links octets q least r is x accepts =
    weaker (IsNearVerdict hash key links octets q least) (λ v. v ≡ Ok x) r (λ v h. one_verdict hash key links octets q least v (Ok x) h (verdict_of hash key links octets q least x accepts)) is

pub refused : (hash : List ℕ → List ℕ) (key : List ℕ) (links : List Link) (octets : List ℕ) (q : NearQuery) (least : ℕ) (e : NearError)
    → Meets {A = NearReply} (Err e) (near_passed hash key links octets least) → UnlessMemory (IsNearVerdict hash key links octets q least) (Err e)
unfolding IsNearVerdict
refused hash key links octets q least (errors.Memory _) is = tt
refused hash key links octets q least (errors.Malformed at) is = rw is refl
refused hash key links octets q least (errors.Stale version) is = rw is refl
refused hash key links octets q least (errors.BadChain link why) is = rw is refl
refused hash key links octets q least (errors.BadSignature why) is = rw is refl
refused hash key links octets q least (errors.BadCover why) is = rw is refl
refused hash key links octets q least (errors.RepeatedNode id) is = rw is refl
refused hash key links octets q least (errors.MissingTuple id) is = rw is refl

pub walked : (hash : List ℕ → List ℕ) (key : List ℕ) (links : List Link) (octets : List ℕ) (q : NearQuery) (least : ℕ) (a : NearReply) (r : Result Within NearError) → near_passed hash key links octets least ≡ Ok a
    → UnlessMemory (WalkedAfter (Ok a) q) r → UnlessMemory (IsNearVerdict hash key links octets q least) r
unfolding IsNearVerdict
walked hash key links octets q least a r is h = subst (λ (p : Result NearReply NearError). UnlessMemory (WalkedAfter p q) r) (sym is) h

-- ---- the results of a check

error_of : {A : Type 0} (e f : NearError) → ◌≡◌ {A = Result A NearError} (Err e) (Err f) → e ≡ f
error_of e f is = cc

-- a reply that is refused before its items are walked
pub checks_refused : (hash : List ℕ → List ℕ) (key : List ℕ) (links : List Link) (octets : List ℕ) (q : NearQuery) (least : ℕ) (e : NearError)
    → Meets {A = NearReply} (Err e) (near_passed hash key links octets least) → (◌≡◌ {A = Result NearReply NearError} (Err e) (Err (errors.Memory no_memory)) → IsNamed octets) → ChecksNear hash key links octets q least (Err e)
checks_refused hash key links octets q least e is named =
    let verdict = refused hash key links octets q least e is in
    record {
      verdict = verdict;
      accepts = only_accepted hash key links octets q least (Err e) verdict;
      named = λ memory. named (ap (λ x. Err x) (error_of {A = Within} e (errors.Memory no_memory) memory));
    }

-- a reply whose items are walked
pub checks_walked : (hash : List ℕ → List ℕ) (key : List ℕ) (links : List Link) (octets : List ℕ) (q : NearQuery) (least : ℕ) (a : NearReply) (r : Result Within NearError) → near_passed hash key links octets least ≡ Ok a
    → UnlessMemory (WalkedAfter (Ok a) q) r → ChecksNear hash key links octets q least r
checks_walked hash key links octets q least a r is h =
    let verdict = walked hash key links octets q least a r is h in
    record {
      verdict = verdict;
      accepts = only_accepted hash key links octets q least r verdict;
      named = λ memory. read_named octets a (spelled_of hash key links octets least a is);
    }

-- ---- the tests before the items are walked

-- the test that fails is the reason of the refusal
pub failed : (a : NearReply) (t : Result (Unit {0}) CheckError) (e : CheckError) → MeetsTest {A = Unit {0}} (Err e) t → Meets {A = NearReply} (Err (near_error e)) (after_tests a t)
failed a t (tests.Stale version) is = rw is refl
failed a t (tests.BadChain link why) is = rw is refl
failed a t (tests.BadSignature why) is = rw is refl
failed a t (tests.BadCover tree why) is = rw is refl
failed a t (tests.NotAnswer kind) is = tt
failed a t (tests.Malformed at) is = tt
failed a t (tests.Judged why) is = tt
failed a t (tests.Memory _) is = tt

-- octets that do not encode a reply are refused
pub unread : (hash : List ℕ → List ℕ) (key : List ℕ) (links : List Link) (octets : List ℕ) (least : ℕ) (e : NearError) → Meets {A = NearReply} (Err e) (spelled (whole near_reply octets)) → Meets {A = NearReply} (Err e) (near_passed hash key links octets least)
unfolding near_passed
unread hash key links octets least (errors.Memory _) is = tt
unread hash key links octets least (errors.Malformed at) is = rw is refl
unread hash key links octets least (errors.Stale version) is = rw is refl
unread hash key links octets least (errors.BadChain link why) is = rw is refl
unread hash key links octets least (errors.BadSignature why) is = rw is refl
unread hash key links octets least (errors.BadCover why) is = rw is refl
unread hash key links octets least (errors.RepeatedNode id) is = rw is refl
unread hash key links octets least (errors.MissingTuple id) is = rw is refl

-- a reply that was read is tested
pub read_tested : (hash : List ℕ → List ℕ) (key : List ℕ) (links : List Link) (octets : List ℕ) (least : ℕ) (a : NearReply) (r : Result NearReply NearError) → spelled (whole near_reply octets) ≡ Ok a → Meets r (after_tests a (header_and_cover hash key links least a)) → Meets r (near_passed hash key links octets least)
unfolding near_passed
read_tested hash key links octets least a r is meets = subst (λ (p : Result NearReply NearError). Meets r (tested hash key links least p)) (sym is) meets

-- ---- the walks

-- the listed nodes are the measured ones
pub measured_of : (nodes : List NodeLeaf) (q : NearQuery) (r : Result Found NearError) → IsLeast (StandsTwice nodes) None → UnlessMemory (Reached nodes q) r → UnlessMemory (Measured nodes q) r
measured_of nodes q (Ok found) distinct h = (distinct, h)
measured_of nodes q (Err (errors.MissingTuple id)) distinct h = (distinct, h)
measured_of nodes q (Err (errors.RepeatedNode id)) distinct h = absurd h
measured_of nodes q (Err (errors.Malformed at)) distinct h = absurd h
measured_of nodes q (Err (errors.Stale version)) distinct h = absurd h
measured_of nodes q (Err (errors.BadChain link why)) distinct h = absurd h
measured_of nodes q (Err (errors.BadSignature why)) distinct h = absurd h
measured_of nodes q (Err (errors.BadCover why)) distinct h = absurd h
measured_of nodes q (Err (errors.Memory _)) distinct h = tt

pub walked_of : (nodes : List NodeLeaf) (q : NearQuery) (found : Found) (marks : List Mark) → Measured nodes q (Ok found) → ListsMarks (IsLabelled found q.radius) marks → Walked nodes q (Ok marks)
walked_of nodes q found marks h listed = (h.0, (h.1.0, reached_marks nodes q found marks h.1.1 listed))

pub refused_measure : (nodes : List NodeLeaf) (q : NearQuery) (e : NearError) → UnlessMemory (Measured nodes q) (Err e) → UnlessMemory (Walked nodes q) (Err e)
refused_measure nodes q (errors.Memory _) h = tt
refused_measure nodes q (errors.Malformed at) h = h
refused_measure nodes q (errors.Stale version) h = h
refused_measure nodes q (errors.BadChain link why) h = h
refused_measure nodes q (errors.BadSignature why) h = h
refused_measure nodes q (errors.BadCover why) h = h
refused_measure nodes q (errors.RepeatedNode id) h = h
refused_measure nodes q (errors.MissingTuple id) h = h

pub refused_walk : (a : NearReply) (q : NearQuery) (e : NearError) → UnlessMemory (Walked a.nodes q) (Err e) → UnlessMemory (WalkedAfter (Ok a) q) (Err e)
refused_walk a q (errors.Memory _) h = tt
refused_walk a q (errors.Malformed at) h = (Err (errors.Malformed at), h, refl)
refused_walk a q (errors.Stale version) h = (Err (errors.Stale version), h, refl)
refused_walk a q (errors.BadChain link why) h = (Err (errors.BadChain link why), h, refl)
refused_walk a q (errors.BadSignature why) h = (Err (errors.BadSignature why), h, refl)
refused_walk a q (errors.BadCover why) h = (Err (errors.BadCover why), h, refl)
refused_walk a q (errors.RepeatedNode id) h = (Err (errors.RepeatedNode id), h, refl)
refused_walk a q (errors.MissingTuple id) h = (Err (errors.MissingTuple id), h, refl)

-- the least repeated id, as it was found
pub repeated_is : (nodes : List NodeLeaf) (q : NearQuery) (e : Refusal) (id : ℕ) → e ≡ refusals.RepeatedNode id → (e ≡ refusals.Memory no_memory) ⊎ ((n : ℕ) × (e ≡ refusals.RepeatedNode n) × IsLeast (StandsTwice nodes) (Some n)) → IsLeast (StandsTwice nodes) (Some id)
repeated_is nodes q e id is (inl memory) = absurd (let bad : refusals.RepeatedNode id ≡ (refusals.Memory no_memory) = sym is ∙ memory in cc)
repeated_is nodes q e id is (inr found) =
    let both : refusals.RepeatedNode found.0 ≡ refusals.RepeatedNode id = sym found.1 ∙ is in
    let same : found.0 ≡ id = cc in
    subst (λ (n : ℕ). IsLeast (StandsTwice nodes) (Some n)) same found.2
