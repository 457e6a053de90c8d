-- The octets that the writes of a new key leave on the disk.
use Rattle.std.proofs.Common.{◌≡◌, ℕ, zero, suc, ◌+◌, ◌*◌, ◌^◌, ◌<◌, ◌≤◌, List, ◌++◌, length, get_or, take, drop, replicate, arith, sym, ◌∙◌, ap, subst}
use Rattle.std.specs.Int.{w32, to_be_bytes, from_be_bytes}
use Rattle.std.proofs.lemmas.List.{places, get_or-replicate, get_or-take, get_or-drop, drop-take, take-take, take_all, drop-drop}
use Rattle.std.proofs.lemmas.Nat.{from_be_bytes-to_be_bytes_4}
use Rattle.road_io.specs.Disk.{written}
use Rattle.road_io.proofs.WrittenLaws.{written_inside, written_above, length-written}
use Rattle.desk_areas.specs.Layout.{slots_of, place_in, kind_at, secret_at}
use Rattle.desk_areas.specs.Keys.{key_from}
use Rattle.desk_areas.specs.Blank.{IsZero, IsBlankArea}
use Rattle.desk_areas.proofs.KeyLemmas.{four_octets, key_from-secret}

pub cleared : (zeros c : List ℕ) → zeros ≡ replicate (length zeros) 0 → get_or c 0 0 ≡ 0 → 0 < length c → IsZero 0 (length zeros + 1) (written 1 zeros c)
cleared zeros c are first some = record {
  long = grind (arith, places);
  zero = λ k from lt. zeroes k (omega (arith, lt));
}
  where
    zeroes : (k : ℕ) → k < length zeros + 1 → get_or (written 1 zeros c) k 0 ≡ 0
    zeroes zero lt = grind (arith, places)
    zeroes (suc k) lt =
        let here : get_or zeros k 0 ≡ 0 = ap (λ (l : List ℕ). get_or l k 0) are ∙ get_or-replicate (length zeros) k 0 0 (omega arith) in
        let there : get_or (written 1 zeros c) (suc k) 0 ≡ get_or zeros k 0 = grind (arith, places) in
        there ∙ here

-- a key block, written after the gate at a base
module _ (base : ℕ) (block d : List ℕ) (size : length block ≡ 52) (fits : base + 53 ≤ length d) where
  inside : take 52 (drop (base + 1) (written (base + 1) block d)) ≡ block
  inside = subst (λ (n : ℕ). take n (drop (base + 1) (written (base + 1) block d)) ≡ block) size (written_inside (base + 1) block d (omega arith))

  octet : (k place : ℕ) → k < 52 → place ≡ base + 1 + k → get_or (written (base + 1) block d) place 0 ≡ get_or block k 0
  octet k place lt is =
      ap (λ (p : ℕ). get_or (written (base + 1) block d) p 0) is
      ∙ sym (get_or-drop (base + 1) (written (base + 1) block d) k 0)
      ∙ sym (get_or-take 52 (drop (base + 1) (written (base + 1) block d)) k 0 lt)
      ∙ ap (λ (l : List ℕ). get_or l k 0) inside

  pub block_kind : kind_at (written (base + 1) block d) base ≡ ((get_or block 0 0 * 256 + get_or block 1 0) * 256 + get_or block 2 0) * 256 + get_or block 3 0
  block_kind =
      let a : get_or (written (base + 1) block d) (base + 1) 0 ≡ get_or block 0 0 = octet 0 (base + 1) (omega arith) (omega arith) in
      let b : get_or (written (base + 1) block d) (base + 2) 0 ≡ get_or block 1 0 = octet 1 (base + 2) (omega arith) (omega arith) in
      let e : get_or (written (base + 1) block d) (base + 3) 0 ≡ get_or block 2 0 = octet 2 (base + 3) (omega arith) (omega arith) in
      let f : get_or (written (base + 1) block d) (base + 4) 0 ≡ get_or block 3 0 = octet 3 (base + 4) (omega arith) (omega arith) in
      cc

  pub block_secret : secret_at (written (base + 1) block d) base ≡ take 48 (drop 4 block)
  block_secret =
      let image = written (base + 1) block d in
      let five : base + 5 ≡ (base + 1) + 4 = omega arith in
      let four : drop (base + 5) image ≡ drop 4 (drop (base + 1) image) = ap (λ (n : ℕ). drop n image) five ∙ sym (drop-drop 4 (base + 1) image) in
      ap (λ (l : List ℕ). take 48 l) four
      ∙ sym (take-take 48 48 (drop 4 (drop (base + 1) image)) (omega arith))
      ∙ ap (λ (l : List ℕ). take 48 l) (sym (drop-take 4 48 (drop (base + 1) image)))
      ∙ ap (λ (l : List ℕ). take 48 (drop 4 l)) inside

-- a block written over zeros makes a blank area
pub blank_written : (base kind : ℕ) (secret block d : List ℕ) → kind < 2 ^ 32 → length secret ≡ 48 → block ≡ to_be_bytes w32 kind ++ secret
    → IsZero base (place_in 0 (slots_of kind)) d → IsBlankArea (key_from kind secret) base (written (base + 1) block d)
blank_written base kind secret block d high long_secret is clear =
    let size : length block ≡ 52 = ap length is ∙ omega (arith, long_secret) in
    let fits : base + 53 ≤ length d = omega (arith, clear.long) in
    let long : length (written (base + 1) block d) ≡ length d = length-written (base + 1) block d (omega (arith, size, fits)) in
    let kind_is : ((get_or block 0 0 * 256 + get_or block 1 0) * 256 + get_or block 2 0) * 256 + get_or block 3 0 ≡ kind =
    sym (four_octets block) ∙ ap (from_be_bytes w32) is ∙ from_be_bytes-to_be_bytes_4 kind high in
    let secret_is : take 48 (drop 4 block) ≡ secret = ap (λ (l : List ℕ). take 48 (drop 4 l)) is ∙ take_all 48 secret (omega (arith, long_secret)) in
    record {
      block = record {
        kind = block_kind base block d size fits ∙ kind_is;
        secret = block_secret base block d size fits ∙ secret_is ∙ key_from-secret kind secret;
        within = omega (arith, clear.long, long);
      };
      zero = λ k from to. written_above (base + 1) block d (omega (arith, size, fits)) k (omega (arith, size, from)) ∙ clear.zero k (omega (arith, from)) (omega (arith, to));
    }
