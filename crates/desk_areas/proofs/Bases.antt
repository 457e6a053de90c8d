-- Where areas begin, from the numbers of slots of the areas before them.
use Rattle.std.proofs.Common.{◌≡◌, ◌<◌, List, ℕ, suc, length, get_or, arith, ◌∙◌}
use Rattle.std.proofs.lemmas.List.{get_or_default}
use Rattle.desk_areas.specs.Area.{AreaView, area_in, no_area}
use Rattle.desk_areas.specs.Layout.{place_in, base_of}
use Rattle.desk_areas.specs.Reading.{IsLaidOut}
use Rattle.desk_areas.proofs.Areas.{base_next}

-- an element is found at its offset
pub item_at : (areas : List AreaView) (i : ℕ) (item : AreaView) → i < length areas → item ≡ get_or areas i item → item ≡ area_in areas i
item_at areas i item lt is = is ∙ get_or_default areas i item no_area lt

-- where an area ends
pub end_at : (areas : List AreaView) (c : List ℕ) (i base n : ℕ) → IsLaidOut areas c → i < length areas → base ≡ base_of c i → n ≡ length (area_in areas i).counts → place_in base n ≡ base_of c (suc i)
end_at areas c i base n laid lt base_is n_is = let slots = laid.slots i lt in omega (arith, base_next c i, slots, base_is, n_is)
