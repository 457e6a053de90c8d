-- Verdicts from the results of a search.
use Rattle.std.proofs.Common.{◌≡◌, ℕ, Option, None, Some, IsSome, Result, Ok, Err, List, ◌⊎◌, inl, inr, refl, ap, sym, ◌∙◌, subst}
use Rattle.road_map.specs.Least.{IsLeast}
use Rattle.road_map.proofs.LeastLaws.{IsLeast-same}
use Rattle.road_search.specs.Passing.{Ways, Reaches, IsLeastPassing}
use Rattle.book_model.specs.declared.items.Query.{Query}
use Rattle.book_model.specs.declared.settings.Numbers.{Numbers}
use Rattle.proof_judge.specs.declared.refusal.Refusal.{Refusal}
use Rattle.proof_judge.specs.declared.refusal.Refusal.TheVariants.{RepeatedNode, BadRoute, MissingTuple, MissingPair, Shorter, Disagrees, Memory}
use Rattle.book_model.specs.declared.items.Items.{Items}
use Rattle.proof_judge.specs.ItemWalks.{StandsTwice, Lacks}
use Rattle.proof_judge.specs.Judgement.{Verdict, Tests, Then, OnRoute, OwnTests, Judged, walked}
use Rattle.book_model.specs.Books.{Kind}
use Rattle.road_leaf.specs.declared.leaf.NodeLeaf.{NodeLeaf}
use Rattle.proof_judge.specs.Apart.{ApartVerdict, ApartTests, JudgedApart, end_lacking}
use Rattle.proof_judge.specs.SharedTests.{UnlessMemory, RefusesBefore, RefusesApart}
use Rattle.octet_text.specs.Want.{no_memory}

pub unless : {A : Type 0} (P : Result A Refusal → Type 0) (v : Result A Refusal) → P v → UnlessMemory P v
unless P (Ok d) h = h
unless P (Err (Memory _)) h = tt
unless P (Err (RepeatedNode id)) h = h
unless P (Err (BadRoute i)) h = h
unless P (Err (MissingTuple id)) h = h
unless P (Err (MissingPair a b)) h = h
unless P (Err (Shorter d)) h = h
unless P (Err (Disagrees d)) h = h

pub unless-map : {A : Type 0} (P Q : Result A Refusal → Type 0) (v : Result A Refusal) → ((v : Result A Refusal) → P v → Q v) → UnlessMemory P v → UnlessMemory Q v
unless-map P Q (Ok d) to h = to (Ok d) h
unless-map P Q (Err (Memory _)) to h = tt
unless-map P Q (Err (RepeatedNode id)) to h = to (Err (RepeatedNode id)) h
unless-map P Q (Err (BadRoute i)) to h = to (Err (BadRoute i)) h
unless-map P Q (Err (MissingTuple id)) to h = to (Err (MissingTuple id)) h
unless-map P Q (Err (MissingPair a b)) to h = to (Err (MissingPair a b)) h
unless-map P Q (Err (Shorter d)) to h = to (Err (Shorter d)) h
unless-map P Q (Err (Disagrees d)) to h = to (Err (Disagrees d)) h

-- the whole verdict, from the verdict of the method's own tests
pub judged_by : (k : Kind) (n : Numbers) (g : Items) (q : Query) (d : ℕ) (v : Verdict) → IsLeast (StandsTwice g.nodes) None → walked g.nodes q g.route ≡ Ok d → UnlessMemory (OwnTests k n g q d) v → UnlessMemory (Judged k n g q) v
judged_by k n g q d v distinct is h = unless-map (OwnTests k n g q d) (Judged k n g q) v (λ v own. (None, distinct, subst (λ r. OnRoute r (OwnTests k n g q) v) (sym is) own)) h

pub refused_twice : (g : Items) (q : Query) (id : ℕ) → IsLeast (StandsTwice g.nodes) (Some id) → RefusesBefore g q (RepeatedNode id)
refused_twice g q id h = λ k n. (Some id, h, refl)

pub refused_walk : (g : Items) (q : Query) (e : Refusal) → IsLeast (StandsTwice g.nodes) None → walked g.nodes q g.route ≡ Err e → RefusesBefore g q e
refused_walk g q e distinct is = λ k n. unless (Judged k n g q) (Err e) (None, distinct, subst (λ r. OnRoute r (OwnTests k n g q) (Err e)) (sym is) refl)

some_reach : (w : Ways) (from limit v : ℕ) (o : Option ℕ) → IsLeastPassing w from limit v o → IsSome o → (d : ℕ) × Reaches w from limit v d
some_reach w from limit v None h some = cc
some_reach w from limit v (Some d) h some = (d, h.0)

reach_some : (w : Ways) (from limit v : ℕ) (o : Option ℕ) → IsLeastPassing w from limit v o → (d : ℕ) → Reaches w from limit v d → IsSome o
reach_some w from limit v None h d r = absurd (h d r)
reach_some w from limit v (Some e) h d r = refl

-- the least id without an entry, as a search finds it
pub lacks_least : (w : Ways) (from limit : ℕ) (len : ℕ → Option ℕ) (missing : Option ℕ) → ((v : ℕ) → IsLeastPassing w from limit v (len v)) → IsLeast (λ v. IsSome (len v) × (w.arcs v ≡ None)) missing → IsLeast (Lacks w from limit) missing
lacks_least w from limit len missing lengths h =
    IsLeast-same (λ v. IsSome (len v) × (w.arcs v ≡ None)) (Lacks w from limit) missing
    (λ v s. (some_reach w from limit v (len v) (lengths v) s.0, s.1))
    (λ v l. (reach_some w from limit v (len v) (lengths v) l.0.0 l.0.1, l.1)) h

-- the two tests that follow a search
pub search_tests : (w : Ways) (from limit to : ℕ) (len : ℕ → Option ℕ) (missing : Option ℕ) → ((v : ℕ) → IsLeastPassing w from limit v (len v)) → IsLeast (λ v. IsSome (len v) × (w.arcs v ≡ None)) missing → (next : Verdict → Type 0) (v : Verdict) →
    Then MissingTuple (Then Shorter next (len to)) missing v → Tests (Lacks w from limit) MissingTuple (Tests (Reaches w from limit to) Shorter next) v
search_tests w from limit to len None lengths h next v t = (None, lacks_least w from limit len None lengths h, (len to, lengths to, t))
search_tests w from limit to len (Some id) lengths h next v t = (Some id, lacks_least w from limit len (Some id) lengths h, t)

-- a repeated id is refused by every method
pub refused_fault : (g : Items) (q : Query) (nodes : List NodeLeaf) (e : Refusal) → nodes ≡ g.nodes → ((e ≡ Memory no_memory) ⊎ ((id : ℕ) × (e ≡ RepeatedNode id) × IsLeast (StandsTwice nodes) (Some id))) → RefusesBefore g q e
refused_fault g q nodes e same (inl m) = subst (RefusesBefore g q) (sym m) (λ k n. tt)
refused_fault g q nodes e same (inr f) = subst (RefusesBefore g q) (sym f.1) (refused_twice g q f.0 (subst (λ xs. IsLeast (StandsTwice xs) (Some f.0)) same f.2))

-- and so is a fault on the walk of the route
pub refused_later : (g : Items) (q : Query) (found nodes : List NodeLeaf) (route : List ℕ) (e : Refusal) → nodes ≡ g.nodes → found ≡ nodes → route ≡ g.route → IsLeast (StandsTwice nodes) None → Err e ≡ walked found q route → RefusesBefore g q e
refused_later g q found nodes route e same at way distinct is =
    refused_walk g q e (subst (λ xs. IsLeast (StandsTwice xs) None) same distinct) (ap (λ xs. walked xs q g.route) (sym (at ∙ same)) ∙ (ap (walked found q) (sym way) ∙ sym is))

-- ---- if no route is given

-- the whole verdict, from the verdict of the method's own tests
pub judged_apart : (k : Kind) (n : Numbers) (g : Items) (q : Query) (v : ApartVerdict) → IsLeast (StandsTwice g.nodes) None → end_lacking g.nodes q ≡ None → UnlessMemory (ApartTests k n g q) v → UnlessMemory (JudgedApart k n g q) v
judged_apart k n g q v distinct ends h = unless-map (ApartTests k n g q) (JudgedApart k n g q) v (λ v own. (None, distinct, subst (λ o. Then MissingTuple (ApartTests k n g q) o v) (sym ends) own)) h

-- a repeated id is refused by every method
pub apart_fault : (g : Items) (q : Query) (nodes : List NodeLeaf) (e : Refusal) → nodes ≡ g.nodes → ((e ≡ Memory no_memory) ⊎ ((id : ℕ) × (e ≡ RepeatedNode id) × IsLeast (StandsTwice nodes) (Some id))) → RefusesApart g q e
apart_fault g q nodes e same (inl m) = subst (RefusesApart g q) (sym m) (λ k n. tt)
apart_fault g q nodes e same (inr f) = subst (RefusesApart g q) (sym f.1) (λ k n. (Some f.0, subst (λ xs. IsLeast (StandsTwice xs) (Some f.0)) same f.2, refl))

-- and so is an end without an item
pub apart_end : (g : Items) (q : Query) (id : ℕ) → IsLeast (StandsTwice g.nodes) None → end_lacking g.nodes q ≡ Some id → RefusesApart g q (MissingTuple id)
apart_end g q id distinct ends = λ k n. (None, distinct, subst (λ o. Then MissingTuple (ApartTests k n g q) o (Err (MissingTuple id))) (sym ends) refl)
