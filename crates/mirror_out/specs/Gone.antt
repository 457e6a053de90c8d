-- The mirrors that are gone: each was handed one piece more after those that it took, and failed at it.
use Rattle.std.specs.Prelude.{◌≡◌, ◌⊎◌, ℕ, ◌+◌, ◌*◌, ◌<◌, ◌≤◌, List, [], ◌∷◌, ◌++◌, take, vec_len, vec_capacity}
use Rattle.std.specs.declared.option.Option.{Option}
use Rattle.std.specs.declared.vec.Vec.{Vec}
use Rattle.std.specs.declared.alloc.Global.{Global}
use Rattle.std.specs.Io.KnownBytes.{Appends}
use Rattle.road_io.specs.Causes.{Rose}
use Rattle.mirror_out.specs.Mirrors.{Took}

-- the list of those that are gone has room for all these mirrors
abbrev pub HasRoom : {M : Type 0} → Vec M Global → Vec M Global → Type 0
HasRoom gone mirrors = vec_len gone + vec_len mirrors ≤ vec_capacity gone

-- the list of those that are gone grew at its end, by mirrors of which P holds
abbrev pub Adds : {M : Type 0} → List M → List M → (List M → Type 0) → Type 0
Adds {M} before now P = (fallen : List M) × (now ≡ before ++ fallen) × P fallen

module _ {M : Type 0} (Stays Falls : M → M → Type 0) where
  -- From left to right, each mirror stays, or is one of those that are gone, in any order. Each of these was one of
  -- the mirrors.
  abbrev pub Parts : List M → List M → List M → Type 0
  Parts [] kept gone = (kept ≡ []) × (gone ≡ [])
  Parts (m ∷ old) kept gone =
      ((n : M) × (rest : List M) × (kept ≡ n ∷ rest) × Stays m n × Parts old rest gone)
      ⊎ ((g : M) × (front : List M) × (back : List M) × (gone ≡ front ++ g ∷ back) × Falls m g ×
      Parts old kept (front ++ back))

-- M is a mirror; octets, label, handed, puts, room and faults give its contents, its label, the number of pieces it
-- was handed, its promises, and the number of its failures
module _ {M : Type 0} (octets : M → Option (List ℕ)) (label handed : M → ℕ) where
  -- the mirror took the text in this many puts, and none of them failed
  pub record Holds (puts room faults : M → ℕ) (count : ℕ) (text : List ℕ) (old new : M) : Type 0 where
    pub took : Took octets label handed puts room count text old new
    pub faultless : faults new ≡ faults old

  -- The mirror took pieces of this size of the text, fewer than this count. It was handed one piece more, and its
  -- number of failures rose. It states the octets of the pieces that it took, and keeps its label.
  pub record Falls (faults : M → ℕ) (size : ℕ) (text : List ℕ) (count : ℕ) (old gone : M) :
      Type 0 where
    pub taken : ℕ
    pub fewer : taken < count
    pub holds : Appends (octets old) (octets gone) (take (size * taken) text)
    pub same : label gone ≡ label old
    pub called : handed gone ≡ handed old + taken + 1
    pub failed : Rose (faults old) (faults gone)
