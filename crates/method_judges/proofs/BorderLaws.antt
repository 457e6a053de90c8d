-- Border nodes in a map by id.
use Rattle.std.proofs.Common.{◌≡◌, ℕ, ◌<◌, ◌==◌, ◌&&◌, Bool, true, false, cond, Option, None, Some, IsSome, is_some, List, [], ◌∷◌, ◌++◌, ◌⊎◌, refl, arith, ap, sym, ◌∙◌, subst, map, nat_lt}
use Rattle.std.specs.List.{AllByRecursion}
use Rattle.std.specs.List.Sorted.{IsStrictlySortedBy}
use Rattle.std.specs.Option.{option_or}
use Rattle.std.specs.Ordering.{nat_cmp}
use Rattle.std.specs.declared.cmp.Ordering.TheVariants.{Less, Equal, Greater}
use Rattle.std.specs.BTreeMap.{BTreeMap, get, IsOrdered}
use Rattle.std.proofs.lemmas.Cmp.{nat_cmp_total}
use Rattle.std.proofs.lemmas.List.Folds.{find-append}
use Rattle.std.proofs.lemmas.Map.Views.{btree_map_get_iff}
use Rattle.road_map.specs.Least.{IsLeast, lesser}
use Rattle.road_map.proofs.LeastLaws.{IsLeast-unique, IsLeast-lesser}
use Rattle.road_search.specs.Passing.{Ways, IsLeastPassing}
use Rattle.road_leaf.specs.declared.leaf.NodeLeaf.{NodeLeaf}
use Rattle.book_model.specs.declared.items.Query.{Query}
use Rattle.proof_judge.specs.declared.refusal.Refusal.TheVariants.{MissingTuple, Shorter}
use Rattle.book_model.specs.declared.items.Items.{Items}
use Rattle.proof_judge.specs.ItemWalks.{item_at, marks, inner_ways, Lacks, EndsLacking}
use Rattle.proof_judge.specs.Apart.{ApartVerdict, Leads, BorderTests, InnerTests}
use Rattle.proof_judge.specs.Judgement.{Verdict, Then, Tests, PairTests, HypTests}
use Rattle.method_judges.specs.Scans.{AboveAll, AreRising, border_length, IsBorderList}
use Rattle.method_judges.proofs.BorderLists.{AreBorders, Marked, border_among}
use Rattle.proof_judge.proofs.AllWalks.{lacking_least}
use Rattle.proof_judge.proofs.Tested.{lacks_least}

-- one more item
pub border_turn : (nodes xs : List NodeLeaf) (n : NodeLeaf) (len : ℕ → Option ℕ) (old new : ℕ → Option ℕ) → ((q : ℕ) → old q ≡ border_among nodes xs len q) →
    ((q : ℕ) → new q ≡ cond (is_some (border_length nodes len n.id) && (n.id == q)) (border_length nodes len n.id) (old q)) → (q : ℕ) → new q ≡ border_among nodes (xs ++ n ∷ []) len q
border_turn nodes xs n len old new h is q = is q ∙ (ap (λ o. cond (is_some (border_length nodes len n.id) && (n.id == q)) (border_length nodes len n.id) o) (h q) ∙ (by_test (border_length nodes len n.id) refl (n.id == q) refl (item_at xs q) ∙ ap (λ o. cond (is_some o) (border_length nodes len q) None) (sym (find-append (λ (x : NodeLeaf). x.id == q) xs (n ∷ [])))))
  where
    by_test : (o : Option ℕ) → border_length nodes len n.id ≡ o → (b : Bool) → (n.id == q) ≡ b → (i : Option NodeLeaf) →
        cond (is_some o && b) o (cond (is_some i) (border_length nodes len q) None) ≡ cond (is_some (option_or i (cond b (Some n) None))) (border_length nodes len q) None
    by_test None f true t None = let same : n.id ≡ q = grind (arith, t) in sym f ∙ ap (border_length nodes len) same
    by_test (Some l) f true t None = let same : n.id ≡ q = grind (arith, t) in sym f ∙ ap (border_length nodes len) same
    by_test None f true t (Some m) = refl
    by_test (Some l) f true t (Some m) = let same : n.id ≡ q = grind (arith, t) in sym f ∙ ap (border_length nodes len) same
    by_test None f false t None = refl
    by_test (Some l) f false t None = refl
    by_test None f false t (Some m) = refl
    by_test (Some l) f false t (Some m) = refl

less_is : (x y : ℕ) → nat_cmp x y ≡ Less → x < y
less_is x y h = by_lt (nat_lt x y) refl (x == y) h
  where
    by_lt : (b : Bool) → nat_lt x y ≡ b → (s : Bool) → cond b Less (cond s Equal Greater) ≡ Less → x < y
    by_lt true e s h = grind (arith, e)
    by_lt false e true h = cc
    by_lt false e false h = cc

equal_is : (x y : ℕ) → nat_cmp x y ≡ Equal → x ≡ y
equal_is x y h = by_lt (nat_lt x y) (x == y) refl h
  where
    by_lt : (b : Bool) → (s : Bool) → (x == y) ≡ s → cond b Less (cond s Equal Greater) ≡ Equal → x ≡ y
    by_lt true s e h = cc
    by_lt false true e h = grind (arith, e)
    by_lt false false e h = cc

above_sorted : (id : ℕ) (es : List (ℕ × ℕ)) → AllByRecursion (λ y. nat_cmp id y ≡ Less) (map (λ (e : ℕ × ℕ). e.0) es) → IsStrictlySortedBy nat_cmp (map (λ (e : ℕ × ℕ). e.0) es) → AboveAll id es
unfolding IsStrictlySortedBy
above_sorted id [] a s = tt
above_sorted id (e ∷ es) a s = (less_is id e.0 a.0, above_sorted e.0 es s.0 s.1)

rising_sorted : (es : List (ℕ × ℕ)) → IsStrictlySortedBy nat_cmp (map (λ (e : ℕ × ℕ). e.0) es) → AreRising es
unfolding IsStrictlySortedBy
rising_sorted [] s = tt
rising_sorted (e ∷ es) s = above_sorted e.0 es s.0 s.1

pub border_list : (nodes : List NodeLeaf) (len : ℕ → Option ℕ) (m : BTreeMap ℕ ℕ) → IsOrdered nat_cmp m → ((id : ℕ) → get nat_cmp m id ≡ border_length nodes len id) → IsBorderList nodes len m.entries
border_list nodes len m ordered is = record {
  rising = rising_sorted m.entries ordered;
  all = λ b p. (
    (λ c. sym (is b) ∙ (btree_map_get_iff nat_cmp_total equal_is m ordered b p).1 c),
    (λ e. (btree_map_get_iff nat_cmp_total equal_is m ordered b p).0 (is b ∙ e)),
  );
}

-- the list has all border nodes, each with its least length
pub listed_borders : (nodes : List NodeLeaf) (len : ℕ → Option ℕ) (P : ℕ → ℕ → Type 0) (bs : List (ℕ × ℕ)) → ((v : ℕ) → IsLeast (P v) (len v)) → IsBorderList nodes len bs → AreBorders (Marked nodes P) bs
listed_borders nodes len P bs lengths l = record { rising = l.rising; all = λ b p. (λ c. to b p (marks (item_at nodes b)) refl ((l.all b p).0 c), λ a. (l.all b p).1 (back b p a (marks (item_at nodes b)) refl)) }
  where
    to : (b p : ℕ) (t : Bool) → marks (item_at nodes b) ≡ t → cond t (len b) None ≡ Some p → Marked nodes P b p
    to b p true e h = (e, subst (IsLeast (P b)) h (lengths b))
    to b p false e h = cc

    back : (b p : ℕ) → Marked nodes P b p → (t : Bool) → marks (item_at nodes b) ≡ t → cond t (len b) None ≡ Some p
    back b p a true e = IsLeast-unique (P b) (len b) (Some p) (lengths b) a.1
    back b p a false e = let t : marks (item_at nodes b) ≡ true = a.0 in cc

-- the tests of HYP, from the results of two searches
pub hyp_tests : (g : Items) (q : Query) (d : ℕ) (near far : ℕ → Option ℕ) (m n : Option ℕ) →
    ((v : ℕ) → IsLeastPassing (inner_ways (item_at g.nodes)) q.from d v (near v)) → ((v : ℕ) → IsLeastPassing (inner_ways (item_at g.nodes)) q.to d v (far v)) →
    IsLeast (λ v. IsSome (near v) × ((inner_ways (item_at g.nodes)).arcs v ≡ None)) m → IsLeast (λ v. IsSome (far v) × ((inner_ways (item_at g.nodes)).arcs v ≡ None)) n →
    (v : Verdict) → Then MissingTuple (Then Shorter (PairTests g q d) (near q.to)) (lesser m n) v → HypTests g q d v
hyp_tests g q d near far m n near_is far_is m_is n_is v t = by_missing (lesser m n) both t
  where
    both : IsLeast (λ id. Lacks (inner_ways (item_at g.nodes)) q.from d id ⊎ Lacks (inner_ways (item_at g.nodes)) q.to d id) (lesser m n)
    both = IsLeast-lesser (Lacks (inner_ways (item_at g.nodes)) q.from d) (Lacks (inner_ways (item_at g.nodes)) q.to d) m n (lacks_least (inner_ways (item_at g.nodes)) q.from d near m near_is m_is) (lacks_least (inner_ways (item_at g.nodes)) q.to d far n far_is n_is)

    by_missing : (o : Option ℕ) → IsLeast (λ id. Lacks (inner_ways (item_at g.nodes)) q.from d id ⊎ Lacks (inner_ways (item_at g.nodes)) q.to d id) o → Then MissingTuple (Then Shorter (PairTests g q d) (near q.to)) o v → HypTests g q d v
    by_missing None h t = (None, h, (near q.to, near_is q.to, t))
    by_missing (Some id) h t = (Some id, h, t)

-- the tests of HYP if no route is given, from the results of two searches over the same items
pub inner_tests : (g : Items) (q : Query) (nodes : List NodeLeaf) → nodes ≡ g.nodes → (near far : ℕ → Option ℕ) (m n : Option ℕ) →
    ((v : ℕ) → IsLeast (Leads (inner_ways (item_at nodes)) q.from v) (near v)) → ((v : ℕ) → IsLeast (Leads (inner_ways (item_at nodes)) q.to v) (far v)) →
    IsLeast (λ v. IsSome (near v) × ((inner_ways (item_at nodes)).arcs v ≡ None)) m → IsLeast (λ v. IsSome (far v) × ((inner_ways (item_at nodes)).arcs v ≡ None)) n →
    (v : ApartVerdict) → Then MissingTuple (Then Shorter (BorderTests g q) (near q.to)) (lesser m n) v → InnerTests g q v
inner_tests g q nodes same near far m n near_is far_is m_is n_is v t =
    subst (λ xs. Tests (λ id. EndsLacking (inner_ways (item_at xs)) q.from id ⊎ EndsLacking (inner_ways (item_at xs)) q.to id) MissingTuple (Tests (Leads (inner_ways (item_at xs)) q.from q.to) Shorter (BorderTests g q)) v) same (by_missing (lesser m n) both t)
  where
    inner : Ways
    inner = inner_ways (item_at nodes)

    both : IsLeast (λ id. EndsLacking inner q.from id ⊎ EndsLacking inner q.to id) (lesser m n)
    both = IsLeast-lesser (EndsLacking inner q.from) (EndsLacking inner q.to) m n (lacking_least inner q.from near m near_is m_is) (lacking_least inner q.to far n far_is n_is)

    by_missing : (o : Option ℕ) → IsLeast (λ id. EndsLacking inner q.from id ⊎ EndsLacking inner q.to id) o → Then MissingTuple (Then Shorter (BorderTests g q) (near q.to)) o v → Tests (λ id. EndsLacking inner q.from id ⊎ EndsLacking inner q.to id) MissingTuple (Tests (Leads inner q.from q.to) Shorter (BorderTests g q)) v
    by_missing None h t = (None, h, (near q.to, near_is q.to, t))
    by_missing (Some id) h t = (Some id, h, t)
