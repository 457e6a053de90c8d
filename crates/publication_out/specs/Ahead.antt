-- The octets of a publication that are still to come, part by part.
use Rattle.std.specs.Prelude.{◌≡◌, ℕ, ◌≤◌, List, [], ◌++◌, length, take, drop}
use Rattle.std.specs.Int.{w16, w32, w64, to_be_bytes}
use Rattle.std.specs.List.{flat_map}
use Rattle.book_model.specs.declared.settings.Settings.{Settings}
use Rattle.proof_octets.specs.declared.publication.Publication.{Publication}
use Rattle.proof_octets.specs.Headers.{header_text}
use Rattle.proof_octets.specs.Publications.{publication_name, node, road}
use Rattle.publication_out.specs.declared.fields.Part.{Part}
use Rattle.publication_out.specs.declared.fields.Part.TheVariants.{Signature, Nodes, Roads}
use Rattle.publication_out.specs.declared.fields.Step.{Step}

-- everything before the octets of the signature
abbrev pub front_text : Publication → List ℕ
front_text b = publication_name ++ (header_text b.header ++ to_be_bytes w16 (length b.signature))

-- the numbers of the settings, and the number of nodes
abbrev pub numbers_text : Settings → ℕ → List ℕ
numbers_text s nodes =
    to_be_bytes w64 s.seed ++ (to_be_bytes w64 s.p1 ++
    (to_be_bytes w64 s.p2 ++ (to_be_bytes w64 s.p3 ++ to_be_bytes w32 nodes)))

-- the octets from an index of a part on
abbrev pub ahead : Publication → Part → ℕ → List ℕ
ahead b Roads i = flat_map road.spell (drop i b.parts.roads)
ahead b Nodes i =
    flat_map node.spell (drop i b.parts.nodes) ++
    (to_be_bytes w32 (length b.parts.roads) ++ flat_map road.spell b.parts.roads)
ahead b Signature i =
    drop i b.signature ++ (numbers_text b.settings (length b.parts.nodes)
    ++ (flat_map node.spell b.parts.nodes ++
    (to_be_bytes w32 (length b.parts.roads) ++ flat_map road.spell b.parts.roads)))

-- the front of a buffer holds the octets up to another index; it is empty only if no octets remain
pub record IsStep (b : Publication) (part : Part) (index : ℕ) (buffer : List ℕ)
    (step : Step) : Type 0 where
  pub cut : ahead b part index ≡ take step.len buffer ++ ahead b step.part step.index
  pub within : step.len ≤ length buffer
  pub end : step.len ≡ 0 → ahead b part index ≡ []
