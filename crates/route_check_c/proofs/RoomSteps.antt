-- A buffer filled item by item.
use Rattle.std.proofs.Common.{◌≡◌, ℕ, ◌+◌, ◌<◌, List, [], ◌∷◌, ◌++◌, length, take, drop, get_or, set, ap, sym, ◌∙◌, arith}
use Rattle.std.proofs.lemmas.List.{take_more, drop_more, length-take-le, append_assoc}
use Rattle.std.proofs.Math.Seq.{set-append_seam}

-- the item at this index goes into the room
pub put_next : {X : Type 0} (items old room : List X) (k : ℕ) (y : X) → k < length items → k < length old
    → room ≡ take k items ++ drop k old → y ≡ get_or items k y → set room k y ≡ take (k + 1) items ++ drop (k + 1) old
put_next items old room k y lt lo is gives =
    let size : length (take k items) ≡ k = length-take-le k items (omega (arith, lt)) in
    let front : take (k + 1) items ≡ take k items ++ y ∷ [] = take_more items k y lt ∙ ap (λ z. take k items ++ z ∷ []) (sym gives) in
    let behind : drop k old ≡ get_or old k y ∷ drop (k + 1) old = drop_more old k y lo in
    let seam = set-append_seam (take k items) (get_or old k y) (drop (k + 1) old) y in
    ap (λ r. set r k y) (is ∙ ap (λ r. take k items ++ r) behind)
    ∙ ap (λ n. set (take k items ++ get_or old k y ∷ drop (k + 1) old) n y) (sym size)
    ∙ seam
    ∙ sym (append_assoc (take k items) (y ∷ []) (drop (k + 1) old))
    ∙ ap (λ f. f ++ drop (k + 1) old) (sym front)
