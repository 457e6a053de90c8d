-- Chain files: the links of a chain, one after the other. Nothing stands between them or follows them.
use Rattle.std.specs.Prelude.{◌≡◌, ℕ, zero, suc, ◌≤◌, ◌==◌, List, [], ◌∷◌, length, if◌then◌else◌, Result, Ok}
use Rattle.std.specs.List.{flat_map}
use Rattle.octet_text.specs.Left.{Left}
use Rattle.octet_text.specs.Format.{◌>>=◌, Format, RowsFit, behind, mapped, seq, octets, any_octets, string, u16, between}
use Rattle.lms_tree.specs.declared.links.Link.{Link}

-- the octets of RPL1, which begin each link of a chain file
abbrev pub link_name : List ℕ
link_name = 0x52 ∷ 0x50 ∷ 0x4c ∷ 0x31 ∷ []

abbrev pub make_link : List ℕ × List ℕ → Link
make_link p = record { key = p.0; signature = p.1 }

abbrev pub link_parts : Link → List ℕ × List ℕ
link_parts link = (link.key, link.signature)

-- a link: RPL1, the next key, the length of a signature, and this signature of the link text, of at most 1,452
-- octets
abbrev pub link_row : Format Link
link_row = behind link_name (mapped make_link link_parts
    (seq (octets 56 any_octets) (λ key. string (u16 (between 0 1452)))))

-- as many values as the octets hold, at most n
abbrev pub many_at : {A : Type 0} → Format A → ℕ → Left → Result (List A × Left) ℕ
many_at f zero left = Ok ([], left)
many_at f (suc n) left =
    if length left.text == 0 then Ok ([], left)
    else f.read left >>= λ x. many_at f n x.1 >>= λ xs. Ok (x.0 ∷ xs.0, xs.1)

abbrev pub many : {A : Type 0} → Format A → ℕ → Format (List A)
many f n = record {
  read = many_at f n;
  spell = flat_map f.spell;
  Fits = λ xs. (length xs ≤ n) ×
      RowsFit (λ _. f) (λ _. 0) 0 xs;
}

-- a chain file: at most seven links
abbrev pub chain_file : Format (List Link)
chain_file = many link_row 7
