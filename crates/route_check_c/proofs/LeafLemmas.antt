-- The leaves on which a verdict rests: each node of an accepted reply has a leaf.
use Rattle.std.proofs.Common.{◌≡◌, ℕ, ◌+◌, ◌==◌, Bool, true, false, cond, List, [], ◌∷◌, Option, Some, None, is_some, Result, Ok, Err, refl, sym, subst, ◌∙◌}
use Rattle.std.specs.Prelude.{All, Contains, IsSome, IfOk, IfSome}
use Rattle.octet_text.specs.declared.errors.NoMemory.{NoMemory as OutOfMemory}
use Rattle.std.proofs.lemmas.List.Elements.{All-nil, All-cons, All-weaker, All-take, All-contains, All-contains_itself}
use Rattle.octet_text.specs.Format.{whole}
use Rattle.road_leaf.specs.declared.leaf.NodeLeaf.{NodeLeaf}
use Rattle.lms_tree.specs.declared.links.Link.{Link}
use Rattle.book_model.specs.declared.items.Query.{Query}
use Rattle.book_model.specs.declared.items.Items.{Items}
use Rattle.book_model.specs.declared.settings.Numbers.{Numbers}
use Rattle.book_model.specs.Books.{Kind}
use Rattle.proof_judge.specs.declared.refusal.Refusal.{Refusal}
use Rattle.proof_judge.specs.declared.refusal.Refusal.TheVariants.{RepeatedNode}
use Rattle.proof_judge.specs.ItemWalks.{item_at, StandsTwice}
use Rattle.proof_judge.specs.Judgement.{Verdict, arc_to, by_arc, by_item, walked_from, walked, Then, OnRoute, OwnTests, Judged}
use Rattle.proof_octets.specs.declared.reply.Answer as answers
use Rattle.proof_octets.specs.declared.reply.Reply.{Reply}
use Rattle.proof_octets.specs.declared.reply.Reply.TheVariants as replies
use Rattle.proof_octets.specs.Replies.{reply, reply_with, reply_of}
use Rattle.route_client.specs.declared.accepted.Accepted.{Accepted}
use Rattle.route_client.specs.declared.accepted.Checked.{Checked}
use Rattle.route_client.specs.declared.accepted.CheckedAnswer.{CheckedAnswer}
use Rattle.route_client.specs.declared.errors.CheckError.{CheckError}
use Rattle.route_client.specs.Verdicts.{IsVerdict, UnlessMemory, as_checked, taken}
use Rattle.route_client.proofs.VerdictLaws.{accepts_of}
use Rattle.proof_octets.specs.declared.marks.Mark.{Mark}
use Rattle.proof_octets.specs.declared.query.NearQuery.{NearQuery}
use Rattle.proof_octets.specs.declared.near_reply.NearReply.{NearReply}
use Rattle.proof_octets.specs.NearReplies.{near_reply}
use Rattle.route_client.specs.declared.within.CheckedReply.{CheckedReply}
use Rattle.route_client.specs.NearVerdicts as near
use Rattle.route_client.specs.NearVerdicts.{IsReached, LacksItem}
use Rattle.route_client.proofs.NearVerdictLaws as near_laws
use Rattle.std.specs.List.Sorted.{IsStrictlySortedBy}
use Rattle.std.specs.Ordering.{nat_cmp}
use Rattle.proof_octets.specs.Radius.{marked_ids}
use Rattle.route_client.specs.declared.picking.Picked.{Picked}
use Rattle.route_client.specs.Nearest.{PicksNearest}
use Rattle.route_check_c.specs.Placing.{AreApart, HaveLeaves, HaveLeavesOf}
use Rattle.road_map.specs.Least.{IsLeast}

-- ---- a route that is a walk

Has : List NodeLeaf → ℕ → Type 0
Has nodes id = IsSome (item_at nodes id)

first_of : (b : Bool) (v : Verdict) (e : Refusal) (d : ℕ) → ◌≡◌ {A = Verdict} (cond b v (Err e)) (Ok d) → (b ≡ true) × (v ≡ Ok d)
first_of true v e d h = (refl, h)
first_of false v e d h = absurd cc

by_arc_ok : (index : ℕ) (o : Option ℕ) (rest : Verdict) (d : ℕ) → by_arc index o rest ≡ Ok d → (e : ℕ) × (rest ≡ Ok e)
by_arc_ok index None rest d h = absurd cc
by_arc_ok index (Some l) (Ok e) d h = (e, refl)
by_arc_ok index (Some l) (Err e) d h = absurd cc

by_item_ok : (index r q : ℕ) (o : Option NodeLeaf) (rest : Verdict) (d : ℕ) → by_item index r q o rest ≡ Ok d → (IsSome o) × ((e : ℕ) × (rest ≡ Ok e))
by_item_ok index r q None rest d h = absurd cc
by_item_ok index r q (Some n) rest d h = (refl, by_arc_ok index (arc_to n.arcs q) rest d h)

all_from : (nodes : List NodeLeaf) (t index r : ℕ) (route : List ℕ) (d : ℕ) → walked_from nodes t index r route ≡ Ok d → All (Has nodes) (r ∷ route)
unfolding Has
all_from nodes t index r [] d h = All-cons (Has nodes) r [] (first_of (is_some (item_at nodes r)) _ _ d h).0 (All-nil (Has nodes))
all_from nodes t index r (q ∷ route) d h =
    let both = by_item_ok index r q (item_at nodes r) (walked_from nodes t (index + 1) q route) d h in
    All-cons (Has nodes) r (q ∷ route) both.0 (all_from nodes t (index + 1) q route both.1.0 both.1.1)

all_walked : (nodes : List NodeLeaf) (q : Query) (route : List ℕ) (d : ℕ) → walked nodes q route ≡ Ok d → HaveLeaves nodes route
unfolding Has
all_walked nodes q [] d h = absurd cc
all_walked nodes q (r ∷ route) d h = all_from nodes q.to 0 r route d (first_of (r == q.from) _ _ d h).1

-- ---- the judgement of a route

after_none : (next : Verdict → Type 0) (o : Option ℕ) (d : ℕ) → Then {A = ℕ} RepeatedNode next o (Ok d) → next (Ok d)
after_none next None d h = h
after_none next (Some n) d h = absurd cc

walk_ok : (w : Verdict) (next : ℕ → Verdict → Type 0) (d : ℕ) → OnRoute w next (Ok d) → (e : ℕ) × (w ≡ Ok e)
walk_ok (Ok e) next d h = (e, refl)
walk_ok (Err e) next d h = absurd cc

judged_leaves : (k : Kind) (n : Numbers) (g : Items) (q : Query) (d : ℕ) → Judged k n g q (Ok d) → HaveLeaves g.nodes g.route
judged_leaves k n g q d is =
    let walk = walk_ok (walked g.nodes q g.route) (OwnTests k n g q) d (after_none (OnRoute (walked g.nodes q g.route) (OwnTests k n g q)) is.0 d is.2) in
    all_walked g.nodes q g.route walk.0 walk.1

none_least : (P : ℕ → Type 0) (next : Verdict → Type 0) (o : Option ℕ) (d : ℕ) → IsLeast P o → Then {A = ℕ} RepeatedNode next o (Ok d) → IsLeast P None
none_least P next None d least h = least
none_least P next (Some n) d least h = absurd cc

judged_apart : (k : Kind) (n : Numbers) (g : Items) (q : Query) (d : ℕ) → Judged k n g q (Ok d) → AreApart g.nodes
judged_apart k n g q d is = none_least (StandsTwice g.nodes) (OnRoute (walked g.nodes q g.route) (OwnTests k n g q)) is.0 d is.1 is.2

answer_is : (route : List ℕ) (a b : answers.Answer) → replies.Answer b ≡ reply_with route a → b ≡ a
answer_is [] a b e = absurd cc
answer_is (id ∷ ids) a b e = cc

route_leaves : (hash : List ℕ → List ℕ) (key : List ℕ) (links : List Link) (octets : List ℕ) (query : Query) (least : ℕ) (a : answers.Answer) (d : ℕ) → whole reply octets ≡ Ok (reply_of a)
    → UnlessMemory (IsVerdict hash key links octets query least) (as_checked a (Ok (Some d))) → HaveLeaves a.items.nodes a.items.route
route_leaves hash key links octets query least a d read is =
    let x : Accepted = record { length = d; route = a.items.route; version = a.header.version; header = a.header } in
    let accepts = accepts_of hash key links octets query least (Checked.Route x) is in
    let both : ◌≡◌ {A = Result Reply ℕ} (Ok (replies.Answer accepts.answer)) (Ok (reply_of a)) = sym accepts.spelled ∙ read in
    let same : accepts.answer ≡ a = answer_is a.items.route a accepts.answer cc in
    subst (λ (b : answers.Answer). HaveLeaves b.items.nodes b.items.route) same
    (judged_leaves accepts.kind accepts.answer.header.numbers accepts.answer.items query d accepts.says.judged)

by_way : (hash : List ℕ → List ℕ) (key : List ℕ) (links : List Link) (octets : List ℕ) (query : Query) (least : ℕ) (a : answers.Answer) (o : Option ℕ) → whole reply octets ≡ Ok (reply_of a)
    → UnlessMemory (IsVerdict hash key links octets query least) (as_checked a (Ok o)) → IfSome o (λ _. HaveLeaves a.items.nodes a.items.route)
by_way hash key links octets query least a None read is = tt
by_way hash key links octets query least a (Some d) read is = route_leaves hash key links octets query least a d read is

-- each node of an accepted route has a leaf in the answer
pub checked_leaves : (hash : List ℕ → List ℕ) (key : List ℕ) (links : List Link) (octets : List ℕ) (query : Query) (least : ℕ) (c : CheckedAnswer) → whole reply octets ≡ Ok (reply_of c.answer)
    → UnlessMemory (IsVerdict hash key links octets query least) (taken (Ok c)) → IfSome c.length (λ _. HaveLeaves c.answer.items.nodes c.answer.items.route)
checked_leaves hash key links octets query least c = by_way hash key links octets query least c.answer c.length

route_apart : (hash : List ℕ → List ℕ) (key : List ℕ) (links : List Link) (octets : List ℕ) (query : Query) (least : ℕ) (a : answers.Answer) (d : ℕ) → whole reply octets ≡ Ok (reply_of a)
    → UnlessMemory (IsVerdict hash key links octets query least) (as_checked a (Ok (Some d))) → AreApart a.items.nodes
route_apart hash key links octets query least a d read is =
    let x : Accepted = record { length = d; route = a.items.route; version = a.header.version; header = a.header } in
    let accepts = accepts_of hash key links octets query least (Checked.Route x) is in
    let both : ◌≡◌ {A = Result Reply ℕ} (Ok (replies.Answer accepts.answer)) (Ok (reply_of a)) = sym accepts.spelled ∙ read in
    let same : accepts.answer ≡ a = answer_is a.items.route a accepts.answer cc in
    subst (λ (b : answers.Answer). AreApart b.items.nodes) same
    (judged_apart accepts.kind accepts.answer.header.numbers accepts.answer.items query d accepts.says.judged)

apart_by_way : (hash : List ℕ → List ℕ) (key : List ℕ) (links : List Link) (octets : List ℕ) (query : Query) (least : ℕ) (a : answers.Answer) (o : Option ℕ) → whole reply octets ≡ Ok (reply_of a)
    → UnlessMemory (IsVerdict hash key links octets query least) (as_checked a (Ok o)) → IfSome o (λ _. AreApart a.items.nodes)
apart_by_way hash key links octets query least a None read is = tt
apart_by_way hash key links octets query least a (Some d) read is = route_apart hash key links octets query least a d read is

-- no two leaves of an answer with an accepted route belong to the same node
pub checked_apart : (hash : List ℕ → List ℕ) (key : List ℕ) (links : List Link) (octets : List ℕ) (query : Query) (least : ℕ) (c : CheckedAnswer) → whole reply octets ≡ Ok (reply_of c.answer)
    → UnlessMemory (IsVerdict hash key links octets query least) (taken (Ok c)) → IfSome c.length (λ _. AreApart c.answer.items.nodes)
checked_apart hash key links octets query least c = apart_by_way hash key links octets query least c.answer c.length

-- a verdict that accepts is not out of memory
not_short : (P : Result Checked CheckError → Type 0) (a : answers.Answer) (o : Option ℕ) → UnlessMemory P (as_checked a (Ok o)) → P (as_checked a (Ok o))
not_short P a None h = h
not_short P a (Some d) h = h

pub verdict_taken : (P : Result Checked CheckError → Type 0) (c : CheckedAnswer) → UnlessMemory P (taken (Ok c)) → P (taken (Ok c))
verdict_taken P c = not_short P c.answer c.length

-- ---- a radius

some_or : (o : Option NodeLeaf) → ¬ (o ≡ None) → IsSome o
some_or None f = absurd (f refl)
some_or (Some n) f = refl

reached_has : (nodes : List NodeLeaf) (q : NearQuery) (m : Mark) → ((id : ℕ) → ¬ LacksItem nodes q id) → IsReached nodes q m → IsSome (item_at nodes m.id)
reached_has nodes q m complete reached = some_or (item_at nodes m.id) (λ e. complete m.id ((m.distance, reached.0), rw e refl))

-- each accepted node within a radius has a leaf in the reply
pub reached_leaves : (hash : List ℕ → List ℕ) (key : List ℕ) (links : List Link) (octets : List ℕ) (q : NearQuery) (least : ℕ) (c : CheckedReply) → whole near_reply octets ≡ Ok c.reply
    → near.UnlessMemory (near.IsNearVerdict hash key links octets q least) (near.taken (Ok c)) → HaveLeavesOf c.reply.nodes c.nodes
reached_leaves hash key links octets q least c read is =
    let accepts = near_laws.accepts_of hash key links octets q least _ is in
    let both : ◌≡◌ {A = Result NearReply ℕ} (Ok accepts.reply) (Ok c.reply) = sym accepts.spelled ∙ read in
    let same : accepts.reply ≡ c.reply = cc in
    All-weaker (Contains c.nodes) (λ (m : Mark). IsSome (item_at c.reply.nodes m.id))
    (λ m there. subst (λ (r : NearReply). IsSome (item_at r.nodes m.id)) same (reached_has accepts.reply.nodes q m accepts.complete ((accepts.nodes.same m).0 there)))
    c.nodes (All-contains_itself c.nodes)

-- nor do two leaves of an accepted reply for a radius
pub reached_apart : (hash : List ℕ → List ℕ) (key : List ℕ) (links : List Link) (octets : List ℕ) (q : NearQuery) (least : ℕ) (c : CheckedReply) → whole near_reply octets ≡ Ok c.reply
    → near.UnlessMemory (near.IsNearVerdict hash key links octets q least) (near.taken (Ok c)) → AreApart c.reply.nodes
reached_apart hash key links octets q least c read is =
    let accepts = near_laws.accepts_of hash key links octets q least _ is in
    let both : ◌≡◌ {A = Result NearReply ℕ} (Ok accepts.reply) (Ok c.reply) = sym accepts.spelled ∙ read in
    let same : accepts.reply ≡ c.reply = cc in
    subst (λ (r : NearReply). AreApart r.nodes) same accepts.distinct

-- the ids of its nodes ascend
pub reached_rising : (hash : List ℕ → List ℕ) (key : List ℕ) (links : List Link) (octets : List ℕ) (q : NearQuery) (least : ℕ) (c : CheckedReply)
    → near.UnlessMemory (near.IsNearVerdict hash key links octets q least) (near.taken (Ok c)) → IsStrictlySortedBy nat_cmp (marked_ids c.nodes)
reached_rising hash key links octets q least c is = (near_laws.accepts_of hash key links octets q least _ is).nodes.rising

-- and each node that is picked from them has a leaf
picked_leaves : (leaves : List NodeLeaf) (marks : List Mark) (ids : List ℕ) (most : ℕ) (x : Picked) → HaveLeavesOf leaves marks → PicksNearest (λ m. Contains marks m) ids most x → HaveLeavesOf leaves x.nodes
picked_leaves leaves marks ids most x all p =
    let Has : Mark → Type 0 = λ m. IsSome (item_at leaves m.id) in
    let listed : All Has p.all = All-weaker (Contains p.all) Has (λ m c. All-contains Has marks m all ((p.ranked.same m).0 c).0) p.all (All-contains_itself p.all) in
    subst (All Has) (sym p.nodes) (All-take Has most p.all listed)

pub pick_leaves : (leaves : List NodeLeaf) (marks : List Mark) (ids : List ℕ) (most : ℕ) (r : Result Picked OutOfMemory) → HaveLeavesOf leaves marks → IfOk r (PicksNearest (λ m. Contains marks m) ids most) → IfOk r (λ x. HaveLeavesOf leaves x.nodes)
pick_leaves leaves marks ids most (Ok x) all p = picked_leaves leaves marks ids most x all p
pick_leaves leaves marks ids most (Err none) all p = tt

-- for an accepted reply the verdict holds without an exception
pub accepted_so : (P : Result Checked CheckError → Type 0) (checked : CheckedAnswer) → UnlessMemory P (taken (Ok checked)) → P (taken (Ok checked))
accepted_so P checked h = by_length checked.length h
  where
    by_length : (length : Option ℕ) → UnlessMemory P (as_checked checked.answer (Ok length)) → P (as_checked checked.answer (Ok length))
    by_length None h = h
    by_length (Some d) h = h
