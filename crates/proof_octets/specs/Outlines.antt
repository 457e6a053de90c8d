-- The part of a reply before its items, and the number of its node items.
use Rattle.std.specs.Prelude.{ℕ, zero, suc, true, false, List, [], length, Option, Some, None, Result, Ok, Err}
use Rattle.octet_text.specs.Format.{◌>>=◌, Format, between, nothing, never, seq, tagged, seen_as}
use Rattle.proof_octets.specs.declared.header.Header.{Header}
use Rattle.proof_octets.specs.declared.outline.Outline.{Outline}
use Rattle.proof_octets.specs.declared.reply.Answer as answers
use Rattle.proof_octets.specs.declared.reply.Reply.{Reply}
use Rattle.proof_octets.specs.declared.reply.Reply.TheVariants as replies
use Rattle.proof_octets.specs.Headers.{header, leaf_kind}
use Rattle.proof_octets.specs.Replies.{signature, way_of, node_items, pair_items, digests}

-- the outline of an answer
abbrev pub outline_of : answers.Answer → Outline
outline_of a = record {
  header = a.header;
  signature = a.signature;
  nodes = length a.node_places;
}

-- the outline of the answer in a reply, if the reply has an answer
abbrev pub outline_in : Reply → Option Outline
outline_in (replies.Answer a) = Some (outline_of a)
outline_in replies.UnknownNode = None
outline_in replies.NoRoute = None
outline_in (replies.Apart a) = Some (outline_of a)

-- the outline of the reply that octets encode
abbrev pub outlined : Result Reply ℕ → Result (Option Outline) ℕ
outlined (Ok r) = Ok (outline_in r)
outlined (Err at) = Err at

-- ---- reading without keeping the items

-- a format that reads values and keeps only their number
abbrev pub many : {A : Type 0} → (A → ℕ) → Format A → Format ℕ
many count f = record {
  read = λ left. f.read left >>= seen_as count;
  spell = λ _. [];
  Fits = λ _. ⊥;
}

abbrev pub OutlineParts : Type 0
OutlineParts = Header × (List ℕ × (List ℕ × (ℕ × (ℕ × (ℕ × ℕ)))))

abbrev pub outline_made : OutlineParts → Outline
outline_made p = record { header = p.0; signature = p.1.0; nodes = p.1.1.1.0 }

unfoldable pub outline : Format (List ℕ) → Format Outline
outline way = record {
  read = λ left.
      (seq header λ h.
      seq signature λ _.
      seq way λ _.
      seq (many (λ p. length p.0) (node_items (leaf_kind h))) λ _.
      seq (many (λ p. length p.0) pair_items) λ _.
      seq (many length digests) λ _.
      many length digests).read left >>= seen_as outline_made;
  spell = λ _. [];
  Fits = λ _. ⊥;
}

-- a format read as an optional value
abbrev pub given : Format Outline → Format (Option Outline)
given f = record {
  read = λ left. f.read left >>= seen_as (λ o. Some o);
  spell = λ _. [];
  Fits = λ _. ⊥;
}

abbrev pub outline_kind : ℕ → Format (Option Outline)
outline_kind zero = given (outline (way_of true))
outline_kind (suc zero) = nothing None
outline_kind (suc (suc zero)) = nothing None
outline_kind (suc (suc (suc zero))) = given (outline (way_of false))
outline_kind (suc (suc (suc (suc _)))) = never

abbrev pub no_tag : Option Outline → ℕ
no_tag _ = 0

unfoldable pub outlines : Format (Option Outline)
outlines = tagged (between 0 3) no_tag outline_kind
