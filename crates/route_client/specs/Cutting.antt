-- The positions of texts that follow one another in octets, each after a prefix of fixed length.
use Rattle.std.specs.Prelude.{ℕ, ◌+◌, ◌*◌, List, [], ◌∷◌, length}
use Rattle.merkle_cover.specs.declared.cuts.Cut.{Cut}
use Rattle.proof_octets.specs.declared.reply.Answer as answers

-- the cuts of texts from an offset on
abbrev pub cuts_at : ℕ → ℕ → List (List ℕ) → List Cut
cuts_at front at [] = []
cuts_at front at (text ∷ texts) =
    record { start = at + front; end = at + front + length text } ∷ cuts_at front
    (at + front + length text) texts

-- the offset at which the last text ends
abbrev pub end_at : ℕ → ℕ → List (List ℕ) → ℕ
end_at front at [] = at
end_at front at (text ∷ texts) = end_at front (at + front + length text) texts

-- the number of octets of a route together with its count; an answer without a route has none
abbrev pub route_octets : List ℕ → ℕ
route_octets [] = 0
route_octets (id ∷ ids) = 4 + 4 * length (id ∷ ids)

-- the offset of an answer's first node item in its reply
abbrev pub nodes_at : answers.Answer → ℕ
nodes_at a = 111 + length a.signature + route_octets a.items.route
