-- The output of `links`.
use Rattle.std.specs.Prelude.{◌≡◌, ℕ, suc, List, map}
use Rattle.std.specs.List.{range_with_len}
use Rattle.std.specs.declared.option.Option.{Option}
use Rattle.std.specs.declared.result.Result.TheVariants.{Ok}
use Rattle.std.specs.Option.{ForSome}
use Rattle.lms_tree.specs.Signatures.{public_key}
use Rattle.lms_tree.specs.ChainFiles.{chain_file}
use Rattle.lms_tree.specs.declared.links.Link.{Link}
use Rattle.desk_areas.specs.Layout.{IsCurrent, base_of}
use Rattle.desk_areas.specs.Keys.{key_at}
use Rattle.key_desk.specs.Links.{link_of}
use Rattle.command_desks.specs.Opening.{EndsOpening}
use Rattle.command_files.specs.Endings.{Ending}
use Rattle.command_files.specs.declared.ended.Conclusion.TheVariants.{Done}

-- the link from the key of an area of the disk to that of the next area
abbrev pub link_on : List ℕ → ℕ → Link
link_on image area = link_of (key_at image (base_of image area))
    (public_key (key_at image (base_of image (suc area))))

-- the chain file with a link for each open area before the last
pub record IsChainOn (image text : List ℕ) : Type 0 where
  pub area : ℕ
  pub current : IsCurrent image area
  pub spelled : text ≡ chain_file.spell (map (link_on image) (range_with_len 0 area))

-- the chain is written from the disk's contents
abbrev pub TellsLinks : Option (List ℕ) → Ending
TellsLinks content (Ok Done) text = ForSome content (λ c. IsChainOn c text)
TellsLinks content outcome text = ⊥

-- `links` over the disk's contents; it opens the desk first
abbrev pub EndsLinks : Option (List ℕ) → Ending
EndsLinks content = EndsOpening content (TellsLinks content)
