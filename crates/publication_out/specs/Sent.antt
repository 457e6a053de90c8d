-- What is sent in pieces.
use Rattle.std.specs.Prelude.{ℕ, ◌≤◌, List, length, take}
use Rattle.std.specs.Int.{div_ceil}
use Rattle.std.specs.declared.option.Option.{Option}
use Rattle.std.specs.Io.KnownBytes.{Appends}
use Rattle.mirror_out.specs.Gone.{Falls, Holds, Parts}
use Rattle.mirror_out.specs.Mirrors.{Mirrors}

-- the number of 4,096-octet pieces of a text, with the rest in the last
abbrev pub pieces_in : List ℕ → ℕ
pieces_in text = div_ceil (length text) 4096

module _ {M : Type 0} (octets : M → Option (List ℕ)) (label handed puts room : M → ℕ) where
  -- If the sink failed, it had taken a prefix of a text. The mirrors that stay took a prefix that is no
  -- longer, in no more puts than the text has pieces. Each of the other mirrors had promised less.
  pub record MirrorsFront (text : List ℕ) (before now : Option (List ℕ)) (old kept : List M) :
      Type 0 where
    pub sent : ℕ
    pub within : sent ≤ length text
    pub written : Appends before now (take sent text)
    pub n : ℕ
    pub behind : n ≤ sent
    pub count : ℕ
    pub few : count ≤ pieces_in text
    pub took : Mirrors octets label handed puts room count (take n text) old kept

-- the same with the mirrors that are gone, each of which was handed one piece more after those that it took
module _ {M : Type 0} (octets : M → Option (List ℕ)) (label handed puts room faults : M → ℕ) where
  -- of a text of which pieces were handed out, this many of them, with these octets
  abbrev pub PartsAfter : List ℕ → ℕ → List ℕ → List M → List M → List M → Type 0
  PartsAfter text count octets_handed old kept gone =
      Parts (Holds octets label handed puts room faults count octets_handed)
      (Falls octets label handed faults 4096 text count) old kept gone

  -- of a whole text
  abbrev pub PartsWhole : List ℕ → List M → List M → List M → Type 0
  PartsWhole text old kept gone = PartsAfter text (pieces_in text) text old kept gone

  -- of a text, if the sink failed
  pub record PartsFront (text : List ℕ) (before now : Option (List ℕ)) (old kept gone : List M) :
      Type 0 where
    pub sent : ℕ
    pub within : sent ≤ length text
    pub written : Appends before now (take sent text)
    pub n : ℕ
    pub behind : n ≤ sent
    pub count : ℕ
    pub few : count ≤ pieces_in text
    pub parts : PartsAfter text count (take n text) old kept gone
