-- Small objects for worked runs and lives: each is given by what it states.
use Rattle.std.proofs.Common.{◌≡◌, ℕ, List, [], ◌∷◌, replicate, refl, ◌∙◌, subst, arith}
use Rattle.std.proofs.lemmas.List.Elements.{All-nil, All-cons}
use Rattle.std.specs.declared.option.Option.TheVariants.{Some}
use Rattle.road_io.specs.Contents.{Folder}
use Rattle.road_io.specs.declared.library.Library.{Ghosts as LibraryView}
use Rattle.road_io.specs.declared.source.Source.{Ghosts as SourceView}
use Rattle.road_io.specs.declared.sink.Sink.{Ghosts as SinkView}
use Rattle.road_io.specs.declared.disk.Disk.{Ghosts as DiskView}
use Rattle.road_io.specs.Disk.{Stays}
use Rattle.road_io.specs.Moments.{AtEachMoment}
use Rattle.mirror_out.specs.declared.mirror.Mirror.{Ghosts as MirrorView}
use Rattle.lms_tree.specs.Signatures.{sealed}
use Rattle.desk_areas.specs.Layout.{SlotId, base_of, slots_of, IsAreaOpen, IsSigned}
use Rattle.key_desk.specs.Stands.{key_in, KeepsStanding}
use Rattle.owner_commands.specs.Releases.{Release, IsReleasedFrom, AllStand}

-- a library with these files, which knows the names that were requested
pub record Shelf : Type 0 where
  pub files : Folder
  pub asked : List (List ℕ)
  pub faults : ℕ

abbrev pub shelf : LibraryView Shelf
shelf = record { files = λ l. Some l.files; asked = λ l. l.asked; faults = λ l. l.faults; failures = λ l. l.faults }

-- a source with these octets left, which has given these and has not ended
pub record Tap : Type 0 where
  pub left : List ℕ
  pub given : List ℕ
  pub faults : ℕ

abbrev pub tap : SourceView Tap
tap = record { left = λ s. Some s.left; given = λ s. s.given; ended = λ s. ⊥; faults = λ s. s.faults }

-- a sink that has taken these octets
pub record Page : Type 0 where
  pub taken : List ℕ
  pub faults : ℕ

abbrev pub page : SinkView Page
page = record { taken = λ k. Some k.taken; faults = λ k. k.faults }

-- a disk with the octet lists that it held at its moments; a read gives the one of its last moment
pub record Film : Type 0 where
  pub image : ℕ → List ℕ
  pub clock : ℕ
  pub faults : ℕ

abbrev pub film : DiskView Film
film = record {
  content = λ d. Some (d.image d.clock);
  clock = λ d. d.clock;
  image_at = λ d k i. i ≡ d.image k;
  faults = λ d. d.faults;
  calls = λ d. 0;
}

-- a disk that holds these octets at its only moment
abbrev pub still : List ℕ → Film
still octets = record { image = λ k. octets; clock = 0; faults = 0 }

-- a mirror that took nothing and promises nothing, by its label
abbrev pub mirror : MirrorView ℕ
mirror = record {
  octets = λ m. Some [];
  named = λ m. m;
  faults = λ m. 0;
  handed = λ m. 0;
  puts = λ m. 0;
  room = λ m. 0;
}

-- ---- objects to which nothing happens

-- a disk that does not change keeps its images and its signed pairs
pub film_stays : (d : Film) → AtEachMoment film d d Stays
film_stays d = record {
  later = omega arith;
  past = λ k i early is. is;
  each = λ k i from to is. (let e : k ≡ d.clock = omega arith in (i, subst (λ (n : ℕ). i ≡ d.image n) e is, refl));
}

pub film_stands : (d : Film) → KeepsStanding film d d
film_stands d = record {
  later = omega arith;
  each = λ pairs stands k i from to is. (let e : k ≡ d.clock = omega arith in stands i (subst (λ (n : ℕ). i ≡ d.image n) e is));
}

-- from octets to other ones, some image changes
pub octets_do_not_stay : (before now : List ℕ) → (now ≡ before → ⊥) → AtEachMoment film (still before) (still now) Stays → ⊥
octets_do_not_stay before now other h = let from = h.each 0 now (omega arith) (omega arith) refl in other (from.2 ∙ from.1)

-- ---- a signed text

-- an image of a key's block and its first slot: both gates are open, and the slot has a text of one octet
abbrev pub written : List ℕ
written = 1 ∷ 0 ∷ 0 ∷ 0 ∷ 5 ∷ replicate 187 1

abbrev pub first : SlotId
first = record { area = 0; number = 0 }

-- the signature that the key of the image makes of that text
pub signature : List ℕ
signature = sealed (key_in written 0) 0 (1 ∷ [])

abbrev pub release : Release
release = record { key = key_in written 0; slot = first; text = 1 ∷ []; octets = signature }

pub written_signs : IsSigned written first (1 ∷ [])
unfolding IsAreaOpen base_of slots_of
written_signs = record {
  area = omega arith;
  place = record { known = omega arith; whole = omega arith };
  spent = record { gate = omega arith; text_is = refl };
}

pub written_releases : AllStand (release ∷ []) written
unfolding signature
written_releases = All-cons (IsReleasedFrom written) release [] (record { signed = written_signs; held = refl; sealed_by = refl }) (All-nil (IsReleasedFrom written))

-- an image without octets has signed nothing
pub empty_signs_nothing : (slot : SlotId) (text : List ℕ) → IsSigned [] slot text → ⊥
empty_signs_nothing slot text signed = omega (arith, signed.spent.gate)

pub empty_releases_nothing : AllStand (release ∷ []) [] → ⊥
empty_releases_nothing all = let it = all 0 release (omega arith) in empty_signs_nothing first (1 ∷ []) it.signed
