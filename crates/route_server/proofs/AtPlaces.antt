-- Pair leaves at indices, one after another.
use Rattle.std.proofs.Common.{◌≡◌, ℕ, ◌+◌, ◌<◌, ◌++◌, List, [], ◌∷◌, length, take, get_or, slice_get, Some, ap, sym, ◌∙◌}
use Rattle.std.specs.List.{filter_map, cons_option}
use Rattle.std.proofs.lemmas.List.{take_more}
use Rattle.std.proofs.lemmas.List.Elements.{filter_map-append}
use Rattle.road_leaf.specs.declared.pair.PairLeaf.{PairLeaf}

pub pairs_more : (pairs : List PairLeaf) (places : List ℕ) (i : ℕ) (p : PairLeaf) (old new : List PairLeaf) → i < length places → slice_get pairs (get_or places i 0) ≡ Some p → old ≡ filter_map (slice_get pairs) (take i places) → new ≡ old ++ p ∷ [] → new ≡ filter_map (slice_get pairs) (take (i + 1) places)
pairs_more pairs places i p old new within is so_far e =
    e ∙ ap (λ ps. ps ++ p ∷ []) so_far
    ∙ sym (ap (filter_map (slice_get pairs)) (take_more places i 0 within) ∙ filter_map-append (slice_get pairs) (take i places) (get_or places i 0 ∷ []) ∙ ap (λ o. filter_map (slice_get pairs) (take i places) ++ cons_option o []) is)
