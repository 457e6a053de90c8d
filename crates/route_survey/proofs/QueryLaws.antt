-- Random queries, one after the other; their ends are nodes of the grid.
use Rattle.std.proofs.Common.{◌≡◌, ℕ, zero, suc, ◌+◌, ◌-◌, ◌*◌, ◌%◌, ◌<◌, ◌≤◌, List, [], ◌∷◌, ◌++◌, refl, arith, ap, sym, ◌∙◌, append_assoc, length, subst}
use Rattle.std.specs.List.{All}
use Rattle.std.proofs.lemmas.List.Elements.{All-nil, All-cons}
use Rattle.std.proofs.Math.Nat.{mul-le-mul_left}
use Rattle.road_map.specs.declared.parts.Parts.{Parts}
use Rattle.road_map.specs.Walks.{Knows}
use Rattle.road_reader.specs.Grid.{first_state, after_draws, next_state, drawn, grid_of, IsConnected}
use Rattle.book_model.specs.declared.items.Query.{Query}
use Rattle.near_proof.specs.Honest.{AreJoined}
use Rattle.route_survey.specs.Asked.{id_drawn, query_drawn, queries_drawn, survey_queries}

pub query_more : (all items items' : List Query) (count draw draw' left : ℕ) (q : Query) → 0 < left → all ≡ items ++ queries_drawn count draw left → q ≡ query_drawn draw count → draw' ≡ after_draws draw 4 → items' ≡ items ++ q ∷ [] → all ≡ items' ++ queries_drawn count draw' (left - 1)
query_more all items items' count draw draw' zero q some is one moved pushed = absurd (omega (arith, some))
query_more all items items' count draw draw' (suc n) q some is one moved pushed =
    let e : suc n - 1 ≡ n = omega arith in
    is
    ∙ (ap (λ (t : Query). items ++ t ∷ queries_drawn count (after_draws draw 4) n) (sym one)
    ∙ (sym (append_assoc items (q ∷ []) (queries_drawn count (after_draws draw 4) n))
    ∙ (ap (λ t. t ++ queries_drawn count (after_draws draw 4) n) (sym pushed)
    ∙ (ap (λ s. items' ++ queries_drawn count s n) (sym moved)
    ∙ ap (λ m. items' ++ queries_drawn count draw' m) (sym e)))))

pub length-drawn : (count state n : ℕ) → length (queries_drawn count state n) ≡ n
length-drawn count state zero = refl
length-drawn count state (suc n) = ap suc (length-drawn count (after_draws state 4) n)

module _ (parts : Parts) (count : ℕ) (some : 0 < count) (knows : (id : ℕ) → 1 ≤ id → id ≤ count → Knows parts id) (connected : IsConnected parts) where
  drawn_known : (state : ℕ) → Knows parts (id_drawn state count)
  drawn_known state =
      let below : (drawn (next_state state) * 32768 + drawn (next_state (next_state state))) % count < count = omega (arith, some) in
      knows (id_drawn state count) (omega arith) (omega (arith, below))

  are_joined : (state : ℕ) → AreJoined parts (query_drawn state count)
  are_joined state =
      let from : Knows parts (id_drawn state count) = drawn_known state in
      let to : Knows parts (id_drawn (next_state (next_state state)) count) = drawn_known (next_state (next_state state)) in
      let walk = connected (id_drawn state count) (id_drawn (next_state (next_state state)) count) from to in
      record { from = from; to = to; length = walk.0; joins = walk.1 }

  pub all_joined : (state n : ℕ) → All (AreJoined parts) (queries_drawn count state n)
  all_joined state zero = All-nil (AreJoined parts)
  all_joined state (suc n) = All-cons (AreJoined parts) (query_drawn state count) (queries_drawn count (after_draws state 4) n) (are_joined state) (all_joined (after_draws state 4) n)

-- the queries of a survey join nodes of its grid, and there are as many as requested
pub survey_joined : (width seed n : ℕ) (parts : Parts) (items : List Query) → 2 ≤ width → ((id : ℕ) → 1 ≤ id → id ≤ width * width → Knows (grid_of width seed) id) → IsConnected (grid_of width seed)
    → parts ≡ grid_of width seed → items ≡ survey_queries width seed n → All (AreJoined parts) items
unfolding survey_queries
survey_joined width seed n parts items wide knows connected same is =
    let some : width * 1 ≤ width * width = mul-le-mul_left {m = 1} {n = width} width (omega arith) in
    subst (λ (x : Parts). All (AreJoined x) items) (sym same) (subst (All (AreJoined (grid_of width seed))) (sym is) (all_joined (grid_of width seed) (width * width) (omega arith) knows connected (first_state (seed + 1)) n))

pub survey_count : (width seed n : ℕ) (items : List Query) → items ≡ survey_queries width seed n → length items ≡ n
unfolding survey_queries
survey_count width seed n items is = ap length is ∙ length-drawn (width * width) (first_state (seed + 1)) n
