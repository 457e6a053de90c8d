-- A desk's links form a chain.
use Rattle.std.proofs.Common.{◌≡◌, ◌⊎◌, inl, inr, ℕ, suc, ◌+◌, ◌-◌, ◌^◌, ◌<◌, ◌≤◌, length, map, List, [], ◌∷◌, ◌++◌, Result, Ok, Err, refl, sym, ap, subst, ◌∙◌, arith}
use Rattle.std.proofs.lemmas.Bool.{cases_eq}
use Rattle.std.proofs.lemmas.Bool.Decides.{nat_tests}
use Rattle.std.proofs.lemmas.List.FromFn.{map-range_with_len_more, length-map-range_with_len}
use Rattle.std.specs.List.{range_with_len}
use Rattle.octet_text.specs.Format.{RowsFit}
use Rattle.lms_tree.specs.Signatures.{height_of, public_key, verified}
use Rattle.lms_tree.specs.Links.{link_text}
use Rattle.lms_tree.specs.Chains.{after_link, chained, chained_from}
use Rattle.lms_tree.specs.ChainFiles.{chain_file, link_row}
use Rattle.lms_tree.proofs.ChainLemmas.{rows_push}
use Rattle.lms_tree.specs.declared.links.Link.{Link}
use Rattle.lms_tree.specs.declared.seals.SealError.{SealError}
use Rattle.desk_areas.specs.Layout.{slots_of}
use Rattle.key_desk.specs.declared.desk.Desk.{Desk}
use Rattle.key_desk.specs.Desk.{key_of}
use Rattle.key_desk.specs.Links.{link_from, links_of}

-- the last slot is a leaf of the tree
pub last_is_leaf : (kind : ℕ) → slots_of kind - 1 < 2 ^ height_of kind
unfolding slots_of
last_is_leaf kind = elim (cases_eq kind 5) [
  | inl five ↦ subst (λ (k : ℕ). slots_of k - 1 < 2 ^ height_of k) (sym five) (omega arith)
  | inr other ↦ elim (cases_eq kind 6) [
    | inl six ↦ subst (λ (k : ℕ). slots_of k - 1 < 2 ^ height_of k) (sym six) (omega arith)
    | inr unknown ↦
        let none : slots_of kind ≡ 0 = grind (arith, nat_tests) in
        let low : height_of kind ≡ 0 = grind (arith, nat_tests) in
        subst (λ (h : ℕ). slots_of kind - 1 < 2 ^ h) (sym low) (omega (arith, none))
  ]
]

-- the last key to which a chain leads
abbrev pub last_key : List ℕ → List Link → List ℕ
last_key key [] = key
last_key key (link ∷ links) = last_key link.key links

pub last_pushed : (key : List ℕ) (links : List Link) (link : Link) → last_key key (links ++ link ∷ []) ≡ link.key
last_pushed key [] link = refl
last_pushed key (first ∷ links) link = last_pushed first.key links link

-- if a chain is followed, its first link verifies, and so do the others
both : (n : ℕ) (v : Result (Unit {0}) SealError) (r : Result (Unit {0}) (ℕ × SealError)) → after_link n v r ≡ Ok tt → (v ≡ Ok tt) × (r ≡ Ok tt)
both n (Ok _) r so = (refl, so)
both n (Err why) r so = absurd cc

-- one more link, signed by the last key
pub chained_push : (n : ℕ) (key : List ℕ) (links : List Link) (link : Link) → chained_from n key links ≡ Ok tt → verified (last_key key links) (link_text link.key) link.signature ≡ Ok tt
    → chained_from n key (links ++ link ∷ []) ≡ Ok tt
chained_push n key [] link so good = ap (λ (v : Result (Unit {0}) SealError). after_link n v (Ok tt)) good
chained_push n key (first ∷ links) link so good =
    let parts = both n (verified key (link_text first.key) first.signature) (chained_from (n + 1) first.key links) so in
    ap (λ (v : Result (Unit {0}) SealError). after_link n v (chained_from (n + 1) first.key (links ++ link ∷ []))) parts.0
    ∙ chained_push (n + 1) first.key links link parts.1 good

-- these are the links from the key of the first area to the key of an area, in order
pub record LinksUpTo (desk : Desk) (area : ℕ) (links : List Link) : Type 0 where
  pub are : links ≡ map (link_from desk) (range_with_len 0 area)
  pub chain : chained (public_key (key_of desk 0)) links ≡ Ok tt
  pub last : last_key (public_key (key_of desk 0)) links ≡ public_key (key_of desk area)
  pub fits : RowsFit (λ _. link_row) (λ _. 0) 0 links

pub no_links : (desk : Desk) → LinksUpTo desk 0 []
no_links desk = record { are = refl; chain = refl; last = refl; fits = tt }

pub one_link_more : (desk : Desk) (area : ℕ) (links : List Link) (link : Link) → LinksUpTo desk area links → link ≡ link_from desk area → verified (public_key (key_of desk area)) (link_text link.key) link.signature ≡ Ok tt → link_row.Fits link
    → LinksUpTo desk (area + 1) (links ++ link ∷ [])
one_link_more desk area links link upto is good fit =
    let next : suc area ≡ area + 1 = omega arith in
    record {
      are = ap (λ (l : List Link). l ++ link ∷ []) upto.are ∙ ap (λ (x : Link). map (link_from desk) (range_with_len 0 area) ++ x ∷ []) is ∙ sym (map-range_with_len_more (link_from desk) 0 area area (omega arith));
      chain = chained_push 0 (public_key (key_of desk 0)) links link upto.chain (subst (λ (k : List ℕ). verified k (link_text link.key) link.signature ≡ Ok tt) (sym upto.last) good);
      last = last_pushed (public_key (key_of desk 0)) links link ∙ ap (λ (x : Link). x.key) is ∙ ap (λ (a : ℕ). public_key (key_of desk a)) next;
      fits = rows_push link_row links link upto.fits fit;
    }

-- all of a desk's links make a chain file
pub links_fit : (desk : Desk) (links : List Link) → length desk.earlier ≤ 7 → LinksUpTo desk (length desk.earlier) links → chain_file.Fits links
links_fit desk links few upto =
    let long : length links ≡ length desk.earlier = ap length upto.are ∙ length-map-range_with_len (link_from desk) 0 (length desk.earlier) in
    (omega (arith, few, long), upto.fits)

-- the links up to the current area are all of them
pub all_links : (desk : Desk) (area : ℕ) (links : List Link) → area ≡ length desk.earlier → LinksUpTo desk area links → LinksUpTo desk (length desk.earlier) links
all_links desk area links is upto = subst (λ (a : ℕ). LinksUpTo desk a links) is upto
