-- Items have at most one verdict.
use Rattle.std.proofs.Common.{◌≡◌, ℕ, ◌+◌, Option, None, Some, Result, Ok, Err, ◌⊎◌, inl, inr, arith, ap, sym, ◌∙◌, subst, refl}
use Rattle.road_map.proofs.LeastLaws.{IsLeast-unique}
use Rattle.road_search.specs.Passing.{Ways, Reaches}
use Rattle.book_model.specs.declared.items.Query.{Query}
use Rattle.book_model.specs.declared.settings.Numbers.{Numbers}
use Rattle.proof_judge.specs.declared.refusal.Refusal.{Refusal}
use Rattle.proof_judge.specs.declared.refusal.Refusal.TheVariants.{RepeatedNode, MissingTuple, Shorter}
use Rattle.book_model.specs.declared.items.Items.{Items}
use Rattle.proof_judge.specs.ItemWalks.{item_at, StandsTwice, any_ways, inner_ways, live_ways, Lacks, EndsLacking}
use Rattle.proof_judge.specs.Judgement.{Verdict, Good, Tests, Then, OnRoute, OwnTests, walked, pair_fault, PairFails, PairTests, NotBefore, HasOneVerdict}
use Rattle.proof_judge.specs.Apart.{Passed, Leads, open_ways, WalkTests, joined_fault, BordersFail, BorderTests, ApartTests, end_lacking, HasOneApartVerdict}
use Rattle.book_model.specs.Books.{Kind, Dij, Full, Ldm, Hyp}

abbrev Unique : {A : Type 0} → (Result A Refusal → Type 0) → Type 0
Unique {A} P = (v w : Result A Refusal) → P v → P w → v ≡ w

then_unique : {A : Type 0} (refuse : ℕ → Refusal) (next : Result A Refusal → Type 0) → Unique next → (v w : Result A Refusal) (o p : Option ℕ) → o ≡ p → Then refuse next o v → Then refuse next p w → v ≡ w
then_unique refuse next one v w None None e t u = one v w t u
then_unique refuse next one v w None (Some m) e t u = cc
then_unique refuse next one v w (Some n) None e t u = cc
then_unique refuse next one v w (Some n) (Some m) e t u = let same : n ≡ m = cc in t ∙ (ap (λ x. Err (refuse x)) same ∙ sym u)

tests_unique : {A : Type 0} (P : ℕ → Type 0) (refuse : ℕ → Refusal) (next : Result A Refusal → Type 0) → Unique next → Unique (Tests P refuse next)
tests_unique P refuse next one v w h k = then_unique refuse next one v w h.0 k.0 (IsLeast-unique P h.0 k.0 h.1 k.1) h.2 k.2

good_unique : (d : ℕ) → Unique (Good d)
good_unique d v w h k = h ∙ sym k

same_place : (b c b' c' : ℕ) → NotBefore b c b' c' → NotBefore b' c' b c → (b ≡ b') × (c ≡ c')
same_place b c b' c' (inl h) (inl k) = absurd (omega (arith, h, k))
same_place b c b' c' (inl h) (inr k) = absurd (omega (arith, h, k.0))
same_place b c b' c' (inr h) (inl k) = absurd (omega (arith, h.0, k))
same_place b c b' c' (inr h) (inr k) = (h.0, omega (arith, h.1, k.1))

one_fault : (g : Items) (q : Query) (d b c : ℕ) (e f : Refusal) → PairFails g q d b c e → PairFails g q d b c f → e ≡ f
one_fault g q d b c e f h k =
    let ps : Some h.p ≡ Some k.p = IsLeast-unique (Reaches (inner_ways (item_at g.nodes)) q.from d b) (Some h.p) (Some k.p) h.near.least k.near.least in
    let rs : Some h.r ≡ Some k.r = IsLeast-unique (Reaches (inner_ways (item_at g.nodes)) q.to d c) (Some h.r) (Some k.r) h.far.least k.far.least in
    let p : h.p ≡ k.p = cc in
    let r : h.r ≡ k.r = cc in
    let both : Some e ≡ Some f = sym h.fault ∙ (ap (λ x. pair_fault g.pairs d b c (x + h.r)) p ∙ (ap (λ x. pair_fault g.pairs d b c (k.p + x)) r ∙ k.fault)) in
    cc

pairs_unique : (g : Items) (q : Query) (d : ℕ) → Unique (PairTests g q d)
pairs_unique g q d (Ok m) (Ok n) h k = ap Ok (h.0 ∙ sym k.0)
pairs_unique g q d (Ok m) (Err f) h k = absurd (h.1 k.0 k.1 f k.2)
pairs_unique g q d (Err e) (Ok n) h k = absurd (k.1 h.0 h.1 e h.2)
pairs_unique g q d (Err e) (Err f) h k =
    let s : (h.0 ≡ k.0) × (h.1 ≡ k.1) = same_place h.0 h.1 k.0 k.1 (h.3 k.0 k.1 f k.2) (k.3 h.0 h.1 e h.2) in
    let moved : PairFails g q d h.0 h.1 f = subst (λ b. PairFails g q d b h.1 f) (sym s.0) (subst (λ c. PairFails g q d k.0 c f) (sym s.1) k.2) in
    ap Err (one_fault g q d h.0 h.1 e f h.2 moved)

own_unique : (k : Kind) (n : Numbers) (g : Items) (q : Query) (d : ℕ) → Unique (OwnTests k n g q d)
own_unique Dij n g q d = tests_unique (Lacks (any_ways (item_at g.nodes)) q.from d) MissingTuple _ (tests_unique (Reaches (any_ways (item_at g.nodes)) q.from d q.to) Shorter (Good d) (good_unique d))
own_unique Full n g q d = λ v w h k. h ∙ sym k
own_unique Ldm n g q d = tests_unique (EndsLacking (live_ways n.first (item_at g.nodes) q.to d) q.from) MissingTuple _ (tests_unique (Reaches (live_ways n.first (item_at g.nodes) q.to d) q.from d q.to) Shorter (Good d) (good_unique d))
own_unique Hyp n g q d = tests_unique (λ id. Lacks (inner_ways (item_at g.nodes)) q.from d id ⊎ Lacks (inner_ways (item_at g.nodes)) q.to d id) MissingTuple _ (tests_unique (Reaches (inner_ways (item_at g.nodes)) q.from d q.to) Shorter (PairTests g q d) (pairs_unique g q d))

route_unique : (r : Verdict) (next : ℕ → Verdict → Type 0) → ((d : ℕ) → Unique (next d)) → Unique (OnRoute r next)
route_unique (Ok d) next one = one d
route_unique (Err e) next one = λ v w h k. h ∙ sym k

pub exact : (k : Kind) → HasOneVerdict k
exact k n g q v w h j = tests_unique (StandsTwice g.nodes) RepeatedNode (OnRoute (walked g.nodes q g.route) (OwnTests k n g q)) (route_unique (walked g.nodes q g.route) (OwnTests k n g q) (own_unique k n g q)) v w h j

-- ---- if no route is given

walks_unique : (w : Ways) (q : Query) → Unique (WalkTests w q)
walks_unique w q = tests_unique (EndsLacking w q.from) MissingTuple _ (tests_unique (Leads w q.from q.to) Shorter Passed (λ v w h k. h ∙ sym k))

one_borders_fault : (g : Items) (q : Query) (b c : ℕ) (e f : Refusal) → BordersFail g q b c e → BordersFail g q b c f → e ≡ f
one_borders_fault g q b c e f h k =
    let ps : Some h.p ≡ Some k.p = IsLeast-unique (Leads (inner_ways (item_at g.nodes)) q.from b) (Some h.p) (Some k.p) h.near.least k.near.least in
    let rs : Some h.r ≡ Some k.r = IsLeast-unique (Leads (inner_ways (item_at g.nodes)) q.to c) (Some h.r) (Some k.r) h.far.least k.far.least in
    let p : h.p ≡ k.p = cc in
    let r : h.r ≡ k.r = cc in
    let both : Some e ≡ Some f = sym h.fault ∙ (ap (λ x. joined_fault g.pairs b c (x + h.r)) p ∙ (ap (λ x. joined_fault g.pairs b c (k.p + x)) r ∙ k.fault)) in
    cc

borders_unique : (g : Items) (q : Query) → Unique (BorderTests g q)
borders_unique g q (Ok _) (Ok _) h k = refl
borders_unique g q (Ok _) (Err f) h k = absurd (h k.0 k.1 f k.2)
borders_unique g q (Err e) (Ok _) h k = absurd (k h.0 h.1 e h.2)
borders_unique g q (Err e) (Err f) h k =
    let s : (h.0 ≡ k.0) × (h.1 ≡ k.1) = same_place h.0 h.1 k.0 k.1 (h.3 k.0 k.1 f k.2) (k.3 h.0 h.1 e h.2) in
    let moved : BordersFail g q h.0 h.1 f = subst (λ b. BordersFail g q b h.1 f) (sym s.0) (subst (λ c. BordersFail g q k.0 c f) (sym s.1) k.2) in
    ap Err (one_borders_fault g q h.0 h.1 e f h.2 moved)

apart_unique : (k : Kind) (n : Numbers) (g : Items) (q : Query) → Unique (ApartTests k n g q)
apart_unique Dij n g q = walks_unique (any_ways (item_at g.nodes)) q
apart_unique Full n g q = λ v w h k. h ∙ sym k
apart_unique Ldm n g q = walks_unique (open_ways (item_at g.nodes) q.to) q
apart_unique Hyp n g q = tests_unique (λ id. EndsLacking (inner_ways (item_at g.nodes)) q.from id ⊎ EndsLacking (inner_ways (item_at g.nodes)) q.to id) MissingTuple _ (tests_unique (Leads (inner_ways (item_at g.nodes)) q.from q.to) Shorter (BorderTests g q) (borders_unique g q))

pub exact_apart : (k : Kind) → HasOneApartVerdict k
exact_apart k n g q v w h j = tests_unique (StandsTwice g.nodes) RepeatedNode (Then MissingTuple (ApartTests k n g q) (end_lacking g.nodes q)) (λ x y t u. then_unique MissingTuple (ApartTests k n g q) (apart_unique k n g q) x y (end_lacking g.nodes q) (end_lacking g.nodes q) refl t u) v w h j
