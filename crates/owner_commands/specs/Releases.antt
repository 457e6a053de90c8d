-- Signatures released by the program, and the one-time keys that made them. Source: RFC 8554, sections 1.2
-- and 9.2: a one-time key signs one text. A key with the same identifier I, number and seed makes the same
-- one-time key again (appendix A).
use Rattle.std.specs.Prelude.{◌≡◌, ◌≢◌, ◌⊎◌, ℕ, List, [], ◌∷◌}
use Rattle.std.specs.List.{All}
use Rattle.lms_tree.specs.Signatures.{KeyOf, sealed}
use Rattle.lms_tree.specs.Links.{IsLink}
use Rattle.desk_areas.specs.Layout.{SlotId, IsSigned}
use Rattle.proof_octets.specs.declared.publication.Publication.{Publication}
use Rattle.key_desk.specs.Stands.{key_in}
use Rattle.proof_octets.specs.Headers.{header_text}
use Rattle.route_owner.specs.Published.{slot_in}
use Rattle.owner_commands.specs.StandingKeys.{last_of, next_text, link_by}

-- A released signature: the key that made it, the slot of its one-time key, its text, and its octets.
pub record Release : Type 0 where
  pub key : KeyOf
  pub slot : SlotId
  pub text : List ℕ
  pub octets : List ℕ

-- a publication's signature of its header, by a one-time key of this key in this area
abbrev pub header_release : KeyOf → ℕ → Publication → Release
header_release key area p = record {
  key = key;
  slot = slot_in area p;
  text = header_text p.header;
  octets = p.signature;
}

-- the signature of the link text of the key after an area's key, by the last one-time key of that area
abbrev pub link_release : (ℕ → KeyOf) → ℕ → Release
link_release keys area = record {
  key = keys area;
  slot = last_of keys area;
  text = next_text keys area;
  octets = (link_by keys area).signature;
}

-- The text of a release is in its slot of the image, in an area of its key. Its octets are the signature that this
-- key makes of the text with the one-time key of the slot's number.
pub record IsReleasedFrom (image : List ℕ) (r : Release) : Type 0 where
  pub signed : IsSigned image r.slot r.text
  pub held : key_in image r.slot.area ≡ r.key
  pub sealed_by : r.octets ≡ sealed r.key r.slot.number r.text

-- the same for each of these
abbrev pub AllStand : List Release → List ℕ → Type 0
AllStand given image = All (IsReleasedFrom image) given

-- Two signatures were made by keys with different identifiers, or by one-time keys with different numbers; or they
-- consist of equal octets, of the same link text.
abbrev pub AreApart : Release → Release → Type 0
AreApart a b = (a.key.i ≢ b.key.i) ⊎ ((a.slot.number ≢ b.slot.number) ⊎ ((a ≡ b) × IsLink a.text))

abbrev pub AllApart : List Release → Type 0
AllApart [] = Unit {0}
AllApart (r ∷ rest) = All (AreApart r) rest × AllApart rest
