-- The links from each of a desk's keys to the next.
use Rattle.std.specs.Prelude.{ℕ, suc, ◌-◌, List, length, map}
use Rattle.std.specs.List.{range_with_len}
use Rattle.lms_tree.specs.Signatures.{KeyOf, public_key, sealed}
use Rattle.lms_tree.specs.Links.{link_text}
use Rattle.lms_tree.specs.declared.links.Link.{Link}
use Rattle.desk_areas.specs.Layout.{slots_of}
use Rattle.key_desk.specs.declared.desk.Desk.{Desk}
use Rattle.key_desk.specs.Desk.{key_of}

-- the link from a key to the next: the signature of its link text by the key's last one-time key
abbrev pub link_of : KeyOf → List ℕ → Link
link_of key next = record {
  key = next;
  signature = sealed key (slots_of key.kind - 1) (link_text next);
}

-- the link from the key of an area to the key of the next area
abbrev pub link_from : Desk → ℕ → Link
link_from desk area = link_of (key_of desk area) (public_key (key_of desk (suc area)))

-- a link for each area before the current one
abbrev pub links_of : Desk → List Link
links_of desk = map (link_from desk) (range_with_len 0 (length desk.earlier))
