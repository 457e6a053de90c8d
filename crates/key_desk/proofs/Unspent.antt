-- The new area of a succession is zeros except for its key.
use Rattle.std.proofs.Common.{◌≡◌, inl, inr, ℕ, ◌+◌, ◌-◌, ◌<◌, ◌≤◌, List, replicate, length, arith, sym, ◌∙◌, ap, subst}
use Rattle.std.proofs.lemmas.List.{length-replicate}
use Rattle.road_io.specs.declared.disk.Disk.{Ghosts}
use Rattle.road_io.specs.Moments.{Image, EachImage, AtEachMoment}
use Rattle.road_io.proofs.MomentLaws.{at_end}
use Rattle.lms_tree.specs.Signatures.{KeyOf}
use Rattle.desk_areas.specs.Layout.{slots_of, place_in, AgreesOutside}
use Rattle.desk_areas.specs.Blank.{IsBlankArea, IsZero}
use Rattle.desk_areas.proofs.Frame.{gate_apart}
use Rattle.key_desk.specs.declared.desk.Desk.{Desk}
use Rattle.key_desk.specs.Succession.{next_desk, IsUnspent}
use Rattle.key_desk.proofs.Successors.{blank_apart}

-- at least one octet was cleared
pub some_zeros : (zeros : List ℕ) (kind : ℕ) → zeros ≡ replicate (place_in 0 (slots_of kind)) 0 → 1 ≤ length zeros
some_zeros zeros kind is =
    let long : length zeros ≡ place_in 0 (slots_of kind) = ap (λ (l : List ℕ). length l) is ∙ length-replicate (place_in 0 (slots_of kind)) 0 in
    omega (arith, long)

-- the zeros, the key block, the link text before the area, and its gate
pub unspent : {D : Type 0} (g : Ghosts D) (key : KeyOf) (one two three four : D) (base slots end place n : ℕ) → 0 < slots → end ≡ place_in base slots → place ≡ place_in base (slots - 1) → 1 ≤ n
    → EachImage g one (IsZero end n) → AtEachMoment g one two (AgreesOutside (end + 1) (end + 53)) → EachImage g two (IsBlankArea key end)
    → AtEachMoment g two three (AgreesOutside (place + 1) (place + 128)) → AtEachMoment g three four (AgreesOutside place (place + 1)) → EachImage g four (IsUnspent key (place_in base slots))
unspent g key one two three four base slots end place n some end_is place_is long cleared m2 blank m3 m4 i now =
    let e3 = at_end g three four (AgreesOutside place (place + 1)) m4 i now in
    let e2 = at_end g two three (AgreesOutside (place + 1) (place + 128)) m3 e3.0 e3.1 in
    let e1 = at_end g one two (AgreesOutside (end + 1) (end + 53)) m2 e2.0 e2.1 in
    let zero = cleared e1.0 e1.1 in
    let behind : place + 128 ≤ end = omega (arith, some, end_is, place_is) in
    subst (λ (b : ℕ). IsUnspent key b i) end_is (record {
      blank = blank_apart key end place (place + 1) e3.0 i (omega (arith, behind)) e3.2 (blank_apart key end (place + 1) (place + 128) e2.0 e3.0 behind e2.2 (blank e2.0 e2.1));
      gate = gate_apart place (place + 1) e3.0 i e3.2 end (inr (omega (arith, behind)))
          ∙ gate_apart (place + 1) (place + 128) e2.0 e3.0 e2.2 end (inr behind)
          ∙ gate_apart (end + 1) (end + 53) e1.0 e2.0 e1.2 end (inl (omega arith))
          ∙ zero.zero end (omega arith) (omega (arith, long));
    })

-- where the next desk's area begins
pub unspent_next : {D : Type 0} (g : Ghosts D) (desk : Desk) (key : KeyOf) (disk : D) (next : Desk) (base slots : ℕ) → next ≡ next_desk desk key → desk.base ≡ base → slots_of desk.key.kind ≡ slots
    → EachImage g disk (IsUnspent key (place_in base slots)) → EachImage g disk (IsUnspent next.key next.base)
unspent_next g desk key disk next base slots is base_is slots_is each =
    let there : place_in base slots ≡ place_in desk.base (slots_of desk.key.kind) = ap (λ (b : ℕ). place_in b slots) (sym base_is) ∙ ap (λ (n : ℕ). place_in desk.base n) (sym slots_is) in
    subst (λ (w : Desk). EachImage g disk (IsUnspent w.key w.base)) (sym is) (subst (λ (b : ℕ). EachImage g disk (IsUnspent key b)) there each)
