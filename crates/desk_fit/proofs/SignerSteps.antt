-- The key of an open area, by the link text before it.
use Rattle.std.proofs.Common.{◌≡◌, ◌≢◌, ℕ, zero, suc, ◌+◌, ◌-◌, ◌<◌, ◌≤◌, List, length, take, drop, arith, refl, sym, ◌∙◌, ap, subst}
use Rattle.lms_tree.specs.Links.{IsLink, link_text}
use Rattle.desk_areas.specs.Layout.{base_of, place_of, text_at, last_slot, HasLink, IsAreaOpen}
use Rattle.desk_areas.specs.Reading.{IsLinkTo}
use Rattle.desk_areas.proofs.Areas.{base_next, open_down, open_link}
use Rattle.desk_areas.proofs.ReadLemmas.{link_split}
use Rattle.desk_sight.specs.Sights.{IsSight}
use Rattle.desk_sight.specs.declared.sight.Sight.{Sight}
use Rattle.desk_fit.specs.Signers.{IsKeyOf, IsSigner}

-- a block comes before each area that is open
pub block_there : (image : List ℕ) (before area : ℕ) → before < area → IsAreaOpen image area → base_of image before + 5 ≤ length image
block_there image before area lt is =
    let link : HasLink image before = open_link image before (open_down image (suc before) area (omega arith) is) in
    let place = link.place in
    omega (arith, place.whole, place.known)

-- the last slot of an area ends where the next area begins
last_at : (image : List ℕ) (area end : ℕ) → HasLink image area → end ≡ base_of image (suc area) → place_of image (last_slot image area) ≡ end - 128
last_at image area end link is =
    let known = link.place.known in
    let next = base_next image area in
    omega (arith, known, next, is)

pub record IsEnd (image : List ℕ) (end : ℕ) : Type 0 where
  pub long : 128 ≤ end
  pub within : end - 128 + 128 ≤ length image
  pub link : IsLink (text_at image (end - 128))

pub link_there : (image : List ℕ) (area end : ℕ) → area ≢ 0 → IsAreaOpen image area → end ≡ base_of image area → IsEnd image end
link_there image zero end some is at = absurd (some refl)
link_there image (suc area) end some is at =
    let link : HasLink image area = open_link image area is in
    let last : place_of image (last_slot image area) ≡ end - 128 = last_at image area end link at in
    let known = link.place.known in
    let whole = link.place.whole in
    let next = base_next image area in
    record {
      long = omega (arith, known, next, at);
      within = omega (arith, whole, last);
      link = subst (λ (p : ℕ). IsLink (text_at image p)) last link.link;
    }

pub key_there : (first image key : List ℕ) (area end : ℕ) → area ≢ 0 → IsAreaOpen image area → end ≡ base_of image area → IsLinkTo (text_at image (end - 128)) key → IsKeyOf first image area key
key_there first image key zero end some is at names = absurd (some refl)
key_there first image key (suc area) end some is at names =
    let last : place_of image (last_slot image area) ≡ end - 128 = last_at image area end (open_link image area is) at in
    subst (λ (p : ℕ). IsLinkTo (text_at image p) key) (sym last) names

pub key_first : (first image : List ℕ) (area : ℕ) → area ≡ 0 → IsKeyOf first image area first
key_first first image zero is = refl
key_first first image (suc area) is = absurd (omega arith)

pub text_read : (text key : List ℕ) → IsLink text → key ≡ take 56 (drop 4 text) → IsLinkTo text key
text_read text key link is = record { link = link; is = link_split text link ∙ ap (λ (l : List ℕ). link_text l) (sym is) }

-- ---- the key that signs

pub area_of : (image : List ℕ) (sight : Sight) (it : IsSight image sight) → it.area ≡ sight.key - 1
area_of image sight it = let key = it.here.key in omega (arith, key)

pub open_here : (image : List ℕ) (sight : Sight) → IsSight image sight → IsAreaOpen image (sight.key - 1)
open_here image sight it = subst (λ (a : ℕ). IsAreaOpen image a) (area_of image sight it) it.current.is_open

pub signer_here : (first image key : List ℕ) (sight : Sight) → IsSight image sight → IsKeyOf first image (sight.key - 1) key → IsSigner first image key
signer_here first image key sight it is = record { area = it.area; current = it.current; is = subst (λ (a : ℕ). IsKeyOf first image a key) (sym (area_of image sight it)) is }
