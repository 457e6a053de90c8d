-- A desk's links lead to each of its keys.
use Rattle.std.proofs.Common.{◌≡◌, ℕ, zero, suc, ◌<◌, ◌≤◌, length, map, get_or, arith, ap, ◌∙◌}
use Rattle.std.specs.List.{Contains, range_with_len}
use Rattle.std.proofs.lemmas.List.{length-map, get_or-map}
use Rattle.std.proofs.lemmas.List.FromFn.{length-range_with_len, get_or-map-range_with_len}
use Rattle.road_map.proofs.Among.{Contains-here, Contains-there}
use Rattle.lms_tree.specs.Signatures.{public_key}
use Rattle.lms_tree.specs.declared.links.Link.{Link}
use Rattle.key_desk.specs.declared.desk.Desk.{Desk}
use Rattle.key_desk.specs.Desk.{key_of}
use Rattle.key_desk.specs.Links.{link_from, links_of}
use Rattle.near_proof.specs.Honest.{keys_along}
use Rattle.near_proof.specs.DeskKeys.{LinksLead}

-- the number of a desk's links
count_of_links : (desk : Desk) → length (links_of desk) ≡ length desk.earlier
count_of_links desk = length-map (range_with_len 0 (length desk.earlier)) (link_from desk) ∙ length-range_with_len 0 (length desk.earlier)

-- the key of an area after the first is that of a link
key_behind : (desk : Desk) (area : ℕ) → area < length desk.earlier → Contains (map (λ (l : Link). l.key) (links_of desk)) (public_key (key_of desk (suc area)))
key_behind desk area before =
    let within : area < length (links_of desk) = omega (arith, before, count_of_links desk) in
    let link : Link = link_from desk area in
    let own : get_or (links_of desk) area link ≡ link = get_or-map-range_with_len (link_from desk) 0 (length desk.earlier) area area link before (omega arith) in (
      area,
      omega (arith, within, length-map (links_of desk) (λ (l : Link). l.key)),
      get_or-map (λ (l : Link). l.key) (links_of desk) area link (public_key (key_of desk (suc area))) within ∙ ap (λ (l : Link). l.key) own,
    )

among_keys : (desk : Desk) (area : ℕ) → area ≤ length desk.earlier → Contains (keys_along (public_key (key_of desk 0)) (links_of desk)) (public_key (key_of desk area))
among_keys desk zero within = Contains-here (public_key (key_of desk 0)) (map (λ (l : Link). l.key) (links_of desk))
among_keys desk (suc area) within =
    Contains-there (public_key (key_of desk 0)) (public_key (key_of desk (suc area))) (map (λ (l : Link). l.key) (links_of desk)) (key_behind desk area (omega (arith, within)))

pub links_lead : LinksLead
links_lead desk area within chain = record { chain = chain; among = among_keys desk area within }
