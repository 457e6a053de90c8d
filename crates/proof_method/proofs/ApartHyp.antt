-- Under HYP, a good judgement of no route is true of the map, and gathered items are judged good.
use Rattle.std.proofs.Common.{◌≡◌, ◌≢◌, ℕ, suc, ◌+◌, ◌≤◌, IsTrue, Option, None, Some, IsSome, Ok, [], ◌⊎◌, inl, inr, refl, arith, sym, ◌∙◌, subst}
use Rattle.std.specs.List.{Contains}
use Rattle.road_map.specs.declared.parts.Parts.{Parts}
use Rattle.road_map.specs.Walks.{Knows, Joins}
use Rattle.road_map.specs.Maps.{IsMap}
use Rattle.road_map.specs.Least.{IsLeast}
use Rattle.road_search.specs.Passing.{Ways}
use Rattle.road_leaf.specs.declared.pair.PairLeaf.{PairLeaf}
use Rattle.book_model.specs.declared.items.Query.{Query}
use Rattle.book_model.specs.declared.items.Items.{Items}
use Rattle.book_model.specs.Books.{Hyp, Book, leaf}
use Rattle.proof_judge.specs.declared.refusal.Refusal.{Refusal}
use Rattle.proof_judge.specs.declared.refusal.Refusal.TheVariants.{MissingTuple, Shorter}
use Rattle.proof_judge.specs.ItemWalks.{item_at, inner_ways, marks, EndsLacking}
use Rattle.proof_judge.specs.Judgement.{Tests, pair_at}
use Rattle.proof_judge.specs.Apart.{Leads, HasWay, joined_fault, BordersFail, BorderTests}
use Rattle.proof_judge.proofs.AllWalks.{reaches_leads, way_lacking, lacking_way}
use Rattle.proof_method.specs.Gathering.{IsPairOf}
use Rattle.proof_method.specs.Apart.{IsGatheredApart}
use Rattle.proof_method.specs.Laws.{IsSoundApart, IsCompleteApart}
use Rattle.proof_method.proofs.Along.{IsOfMap, Joins-known, Joins-turn, Joins-append}
use Rattle.proof_method.proofs.CompleteHyp.{inner_part, marked}
use Rattle.proof_method.proofs.Completes.{not_both, no_item}
use Rattle.proof_method.proofs.CompleteApart.{begins_apart, leads_joins, apart_faultless}
use Rattle.proof_method.proofs.Parts.{part_reaches}
use Rattle.proof_method.proofs.RouteLaws.{have_arcs, items_of_map, roads_known, tests_passed, item_known}
use Rattle.proof_method.proofs.SoundApart.{BegunApart, begun_apart, ends_known, joined_faulty}
use Rattle.proof_method.proofs.SoundHyp.{least_not_not, inner_least}

-- ---- a good judgement

module _ (parts : Parts) (m : IsMap parts) (g : Items) (q : Query) (pairs_of : (p : PairLeaf) → Contains g.pairs p → IsPairOf parts p) (none : (b c : ℕ) (e : Refusal) → BordersFail g q b c e → ⊥)
    (b c : ℕ) (near_mark : IsTrue (marks (item_at g.nodes b))) (far_mark : IsTrue (marks (item_at g.nodes c))) (mid : ℕ) (j : Joins parts b c mid) where
  fails : (p r : ℕ) → IsLeast (Leads (inner_ways (item_at g.nodes)) q.from b) (Some p) → IsLeast (Leads (inner_ways (item_at g.nodes)) q.to c) (Some r) → (o : Option Refusal) → joined_fault g.pairs b c (p + r) ≡ o → ⊥
  fails p r near far None is = joined_faulty parts m g pairs_of b c (p + r) mid j is
  fails p r near far (Some e) is = none b c e (record { p = p; r = r; near = record { marked = near_mark; least = near }; far = record { marked = far_mark; least = far }; fault = is })

  -- border nodes to which inner walks from the two ends lead are not joined
  pub no_passage : (p r : ℕ) → Leads (inner_ways (item_at g.nodes)) q.from b p → Leads (inner_ways (item_at g.nodes)) q.to c r → ⊥
  no_passage p r near far =
      least_not_not (Leads (inner_ways (item_at g.nodes)) q.from b)
      (λ p' least_p. least_not_not (Leads (inner_ways (item_at g.nodes)) q.to c)
      (λ r' least_r. fails p' r' least_p least_r (joined_fault g.pairs b c (p' + r')) refl)
      (suc r) r (omega arith) far)
      (suc p) p (omega arith) near

pub sound_apart_hyp : IsSoundApart Hyp
sound_apart_hyp b g q m is a h =
    let s : BegunApart Hyp b.numbers g q = begun_apart Hyp b.numbers g q h in
    let w : Ways = inner_ways (item_at g.nodes) in
    let one : ((id : ℕ) → (EndsLacking w q.from id ⊎ EndsLacking w q.to id) → ⊥) × Tests (Leads w q.from q.to) Shorter (BorderTests g q) (Ok tt) = tests_passed (λ id. EndsLacking w q.from id ⊎ EndsLacking w q.to id) MissingTuple (Tests (Leads w q.from q.to) Shorter (BorderTests g q)) tt s.own in
    let two : ((d : ℕ) → Leads w q.from q.to d → ⊥) × BorderTests g q (Ok tt) = tests_passed (Leads w q.from q.to) Shorter (BorderTests g q) tt one.1 in
    ends_known b g q a s.from_item s.to_item (λ e j.
    let far : e + 1 ≤ e = inner_least b m g q a (e + 1) (item_known b g a q.from s.from_item) (item_known b g a q.to s.to_item)
    (λ x y p r mid near_mark far_mark near far k below. no_passage b.parts m g q a.pairs two.1 x y near_mark far_mark mid k p r (reaches_leads w q.from (e + 1) x p near) (reaches_leads w q.to (e + 1) y r far))
    (λ id d r lacks. one.0 id (inl (way_lacking w q.from id (d, reaches_leads w q.from (e + 1) id d r) lacks)))
    (λ id d r lacks. one.0 id (inr (way_lacking w q.to id (d, reaches_leads w q.to (e + 1) id d r) lacks)))
    (λ d r. two.0 d (reaches_leads w q.from (e + 1) q.to d r)) e j in
    omega (arith, far))

-- ---- the gathered items

module _ (b : Book) (g : Items) (q : Query) (m : IsMap b.parts) (h : IsGatheredApart Hyp b q g) where
  -- an inner walk over the items is one over the book
  in_book : (from id : ℕ) → HasWay (inner_ways (item_at g.nodes)) from id → HasWay (inner_ways (leaf b)) from id
  in_book from id r = (r.0, part_reaches (inner_ways (item_at g.nodes)) (inner_ways (leaf b)) (inner_part b g h.authentic) from (r.0 + 1) id r.0 r.1)

  of_map : IsOfMap b.parts (inner_ways (item_at g.nodes))
  of_map = items_of_map b.parts g.nodes (inner_ways (item_at g.nodes)).lets (have_arcs b g h.authentic)

  -- border nodes near the start and near the end are not joined
  not_joined : (x y p r w : ℕ) → Leads (inner_ways (item_at g.nodes)) q.from x p → Leads (inner_ways (item_at g.nodes)) q.to y r → Joins b.parts x y w → ⊥
  not_joined x y p r w near far j =
      let k : Joins b.parts q.from x p = leads_joins b g (inner_ways (item_at g.nodes)) of_map q.from x p h.unjoined.0 near in
      let l : Joins b.parts q.to y r = leads_joins b g (inner_ways (item_at g.nodes)) of_map q.to y r h.unjoined.1 far in
      h.unjoined.2 ((p + w) + r) (Joins-append b.parts q.from y q.to (p + w) r (Joins-append b.parts q.from x y p w k j) (Joins-turn b.parts (roads_known b.parts m) q.to y r l))

  pub faultless : (x y : ℕ) (e : Refusal) → BordersFail g q x y e → ⊥
  faultless x y e f =
      let near : Leads (inner_ways (item_at g.nodes)) q.from x f.p = f.near.least.0 in
      let far : Leads (inner_ways (item_at g.nodes)) q.to y f.r = f.far.least.0 in
      let k : Joins b.parts q.from x f.p = leads_joins b g (inner_ways (item_at g.nodes)) of_map q.from x f.p h.unjoined.0 near in
      let here : Knows b.parts x = Joins-known b.parts (roads_known b.parts m) q.from x f.p k in
      let differ : x ≢ y = λ same. not_joined x y f.p f.r 0 near far (subst (λ z. Joins b.parts x z 0) same (record { walk = record { start = x; hops = [] }; known = here; starts = refl; follows = tt; ends = refl; sums = refl })) in
      let there : IsSome (pair_at g.pairs x y) = h.pairs x y (record { differ = differ; near_mark = marked b g h.authentic x (item_at g.nodes x) refl f.near.marked; far_mark = marked b g h.authentic y (item_at g.nodes y) refl f.far.marked; near = in_book q.from x (f.p, near); far = in_book q.to y (f.r, far) }) in
      let none : joined_fault g.pairs x y (f.p + f.r) ≡ None = apart_faultless b.parts m g h.authentic.pairs x y (f.p + f.r) (λ w j. not_joined x y f.p f.r w near far j) differ there in
      let bad : None ≡ Some e = sym none ∙ f.fault in
      cc

  pub no_lack : (id : ℕ) → EndsLacking (inner_ways (item_at g.nodes)) q.from id ⊎ EndsLacking (inner_ways (item_at g.nodes)) q.to id → ⊥
  no_lack id (inl l) = let r : HasWay (inner_ways (item_at g.nodes)) q.from id × ((inner_ways (item_at g.nodes)).arcs id ≡ None) = lacking_way (inner_ways (item_at g.nodes)) q.from id l in not_both (item_at g.nodes id) ((h.nodes id).1 (inr (inl (in_book q.from id r.0)))) (no_item (item_at g.nodes id) r.1)
  no_lack id (inr l) = let r : HasWay (inner_ways (item_at g.nodes)) q.to id × ((inner_ways (item_at g.nodes)).arcs id ≡ None) = lacking_way (inner_ways (item_at g.nodes)) q.to id l in not_both (item_at g.nodes id) ((h.nodes id).1 (inr (inr (in_book q.to id r.0)))) (no_item (item_at g.nodes id) r.1)

  pub not_led : (d : ℕ) → Leads (inner_ways (item_at g.nodes)) q.from q.to d → ⊥
  not_led d r = h.unjoined.2 d (leads_joins b g (inner_ways (item_at g.nodes)) of_map q.from q.to d h.unjoined.0 r)

pub complete_apart_hyp : IsCompleteApart Hyp
complete_apart_hyp b g q m is h = begins_apart Hyp b g q h (None, no_lack b g q m h, (None, not_led b g q m h, faultless b g q m h))
