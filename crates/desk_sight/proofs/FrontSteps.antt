-- The octets that a look reads from a disk, and their prefix.
use Rattle.std.proofs.Common.{◌≡◌, ℕ, suc, ◌+◌, ◌-◌, ◌<◌, ◌≤◌, min, List, length, get_or, take, arith, refl, sym, ◌∙◌, ap, subst, length-take}
use Rattle.std.proofs.lemmas.List.{get_or-take}
use Rattle.lms_tree.specs.Links.{IsLink}
use Rattle.desk_areas.specs.Layout.{SlotId, slots_at, place_in, base_of, place_of, gate_of, text_of, last_slot, SameFront}
use Rattle.desk_areas.proofs.Areas.{base_next}
use Rattle.desk_areas.proofs.Growth.{front_bases, front_slots, front_gate, front_text, front_lasts}
use Rattle.desk_sight.specs.Images.{seen_of}
use Rattle.desk_sight.specs.Areas.{IsWhole, IsWaitingLink}
use Rattle.desk_sight.specs.Looks.{HasClosedLink}

pub seen_front : (end n : ℕ) (c : List ℕ) → end ≤ length (take n c) → SameFront end (take n c) c
seen_front end n c le = record {
  long = le;
  longer = omega (arith, le, length-take n c);
  same = λ k lt. let below : k < n = omega (arith, lt, le, length-take n c) in sym (get_or-take n c k 0 below);
}

pub closed_behind : (end : ℕ) (d i : List ℕ) → SameFront end d i → HasClosedLink end d → HasClosedLink end i
closed_behind end d i front it =
    let area = it.area in
    let ends : base_of d (suc area) ≤ end = let is = it.ends in omega (arith, is) in
    let known : (last_slot d area).number < slots_at d (base_of d area) = let some = it.known in omega (arith, some) in
    let last : last_slot i area ≡ last_slot d area = front_lasts end d i front area ends area (omega arith) in
    record {
      area = area;
      ends = front_bases end d i front area ends (suc area) (omega arith) ∙ it.ends;
      known = let some = it.known in let same = front_slots end d i front area ends area (omega arith) in omega (arith, some, same);
      within = front.longer;
      shut = ap (λ (s : SlotId). gate_of i s) last ∙ front_gate end d i front area ends (last_slot d area) (omega arith) known ∙ it.shut;
      link = subst IsLink (sym (ap (λ (s : SlotId). text_of i s) last ∙ front_text end d i front area ends (last_slot d area) (omega arith) known)) it.link;
    }

pub closed_here : (image : List ℕ) (area : ℕ) (link : List ℕ) → IsWhole image area → IsWaitingLink image area link → HasClosedLink (base_of image (suc area)) image
closed_here image area link whole waits = record {
  area = area;
  ends = refl;
  known = whole.known;
  within = let le = whole.within in omega (arith, le, base_next image area);
  shut = waits.free;
  link = waits.names.link;
}

pub closed_in : (image c : List ℕ) (area : ℕ) (link : List ℕ) → image ≡ seen_of c → IsWhole image area → IsWaitingLink image area link → HasClosedLink (base_of image (suc area)) c
closed_in image c area link is whole waits =
    let here = closed_here image area link whole waits in
    closed_behind (base_of image (suc area)) image c (subst (λ (x : List ℕ). SameFront (base_of image (suc area)) x c) (sym is) (seen_front (base_of image (suc area)) 1049088 c (subst (λ (x : List ℕ). base_of image (suc area) ≤ length x) is here.within))) here
