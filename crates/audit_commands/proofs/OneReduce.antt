-- `reduce` has one result over its files and the disk's contents.
use Rattle.std.proofs.Common.{◌≡◌, inl, inr, ℕ, ◌+◌, ◌<◌, ◌≤◌, List, length, take, drop, Option, Some, None, refl, sym, ap, ◌∙◌, subst, arith}
use Rattle.std.proofs.lemmas.Bool.{cases_lt}
use Rattle.std.proofs.lemmas.List.{length-take, length-drop}
use Rattle.std.specs.declared.result.Result.{Result}
use Rattle.std.specs.declared.result.Result.TheVariants.{Ok, Err}
use Rattle.road_io.specs.Contents.{Folder}
use Rattle.lms_tree.specs.Signatures.{KeyOf, public_key, verified}
use Rattle.lms_tree.specs.declared.seals.SealError.{SealError}
use Rattle.lms_tree.proofs.SealLemmas.{public_key-name}
use Rattle.lms_reduce.proofs.GoodLemmas.{good-length}
use Rattle.desk_areas.specs.Layout.{SlotId, slots_at, base_of, place_in, IsAreaOpen}
use Rattle.desk_areas.specs.Keys.{key_at}
use Rattle.desk_areas.specs.Faults.{IsUsable, TooShort, Alone, SameName}
use Rattle.command_files.specs.HexFiles.{public_key_at, hex_text_at}
use Rattle.command_files.specs.Endings.{Ending, EndsReading}
use Rattle.command_files.specs.declared.fault.Fault.{Fault}
use Rattle.command_files.specs.declared.ended.Conclusion.{Conclusion}
use Rattle.command_files.proofs.OneEnd.{HasOneEnd, one_reading}
use Rattle.command_desks.specs.Opening.{EndsOpening}
use Rattle.command_desks.proofs.Openings.{one_opening}
use Rattle.audit_commands.specs.Reducing.{HasSigned, HasSpent, IsKeyIn, TellsReduced, EndsReducing, EndsReduce, ends_reduce, slot_named}

-- ---- one key has a public key

-- the name of a key whose area can be used has 16 octets
named_at : (c : List ℕ) (area : ℕ) → IsUsable c → IsAreaOpen c area → length (key_at c (base_of c area)).i ≡ 16
named_at c area usable is_open =
    elim (cases_lt (length c) (place_in (base_of c area) (slots_at c (base_of c area)))) [
      | inl short ↦ absurd (usable.good_block (record { area = area; is_open = is_open; fault = Alone (TooShort short) }))
      | inr long ↦
          let rest = drop (base_of c area + 5) c in
          omega (arith, length-take 16 (take 48 rest), length-take 48 rest, length-drop (base_of c area + 5) c, long)
    ]

name_at : (c : List ℕ) (area : ℕ) → IsUsable c → IsAreaOpen c area → take 16 (drop 8 (public_key (key_at c (base_of c area)))) ≡ (key_at c (base_of c area)).i
name_at c area usable is_open = public_key-name (key_at c (base_of c area)) (named_at c area usable is_open)

one_name : (c : List ℕ) (a b : ℕ) → IsUsable c → IsAreaOpen c a → IsAreaOpen c b → public_key (key_at c (base_of c a)) ≡ public_key (key_at c (base_of c b)) → (key_at c (base_of c a)).i ≡ (key_at c (base_of c b)).i
one_name c a b usable open_a open_b same = sym (name_at c a usable open_a) ∙ ap (λ (l : List ℕ). take 16 (drop 8 l)) same ∙ name_at c b usable open_b

no_two : (c : List ℕ) (a b : ℕ) → a < b → IsUsable c → IsAreaOpen c a → IsAreaOpen c b → public_key (key_at c (base_of c a)) ≡ public_key (key_at c (base_of c b)) → ⊥
no_two c a b lt usable open_a open_b same = usable.good_block (record { area = b; is_open = open_b; fault = SameName a lt (one_name c a b usable open_a open_b same) })

one_area : (c : List ℕ) (a b : ℕ) (key other : KeyOf) → IsUsable c → IsKeyIn c a key → IsKeyIn c b other → public_key key ≡ public_key other → a ≡ b
one_area c a b key other usable at_a at_b same =
    let keys : public_key (key_at c (base_of c a)) ≡ public_key (key_at c (base_of c b)) = ap (λ (k : KeyOf). public_key k) (sym at_a.is) ∙ same ∙ ap (λ (k : KeyOf). public_key k) at_b.is in
    elim (cases_lt a b) [
      | inl below ↦ absurd (no_two c a b below usable at_a.is_open at_b.is_open keys)
      | inr ge ↦ elim (cases_lt b a) [
        | inl above ↦ absurd (no_two c b a above usable at_b.is_open at_a.is_open (sym keys))
        | inr le ↦ omega (arith, ge, le)
      ]
    ]

-- ---- a slot has signed one text, or no text

one_signed : (c : List ℕ) (slot : SlotId) (s t : Option (List ℕ)) → HasSigned c slot s → HasSigned c slot t → s ≡ t
one_signed c slot None None h k = refl
one_signed c slot None (Some t) h k = absurd (h t k)
one_signed c slot (Some s) None h k = absurd (k s h)
one_signed c slot (Some s) (Some t) h k = ap (λ (x : List ℕ). Some x) (sym h.spent.text_is ∙ k.spent.text_is)

one_spent : (c : List ℕ) (area : ℕ) (sig : List ℕ) (s t : Option (List ℕ)) → 4 ≤ length sig → HasSpent c area sig s → HasSpent c area sig t → s ≡ t
one_spent c area sig s t long h k = one_signed c (slot_named area sig) s t (h.named long) (k.named long)

-- ---- one end

two_answers : (public text sig : List ℕ) (why : SealError) → verified public text sig ≡ Ok tt → verified public text sig ≡ Err why → ⊥
two_answers public text sig why good bad = cc

module _ (c public text sig : List ℕ) (usable : IsUsable c) (o e : Result Conclusion Fault) (s t : List ℕ) where
  one_told : (key other : KeyOf) (a b : ℕ) (spent spent' : Option (List ℕ)) → public ≡ public_key key → public ≡ public_key other → IsKeyIn c a key → IsKeyIn c b other → HasSpent c a sig spent → HasSpent c b sig spent'
      → TellsReduced key spent text sig o s → TellsReduced other spent' text sig e t → o ≡ e
  one_told key other a b spent spent' of_key of_other at_a at_b has has' = by
    where
      same : public_key key ≡ public_key other
      same = sym of_key ∙ of_other

      there : verified (public_key key) text sig ≡ verified (public_key other) text sig
      there = ap (λ (k : List ℕ). verified k text sig) same

      one : verified (public_key key) text sig ≡ Ok tt → spent ≡ spent'
      one good =
          let long : 4 ≤ length sig = omega (arith, good-length (public_key key) text sig good) in
          let area = one_area c a b key other usable at_a at_b same in
          one_spent c a sig spent spent' long has (subst (λ (n : ℕ). HasSpent c n sig spent') (sym area) has')

      by : TellsReduced key spent text sig o s → TellsReduced other spent' text sig e t → o ≡ e
      by (inl h) (inl k) = h.2 ∙ sym k.2
      by (inl h) (inr k) = absurd (two_answers (public_key key) text sig h.0 (there ∙ k.0) h.1)
      by (inr h) (inl k) = absurd (two_answers (public_key key) text sig k.0 h.0 (there ∙ k.1))
      by (inr (good, inl h)) (inr (good', inl k)) = h.1 ∙ sym k.1
      by (inr (good, inl h)) (inr (good', inr k)) = absurd (k.0 (sym (one good) ∙ h.0))
      by (inr (good, inr h)) (inr (good', inl k)) = absurd (h.0 (one good ∙ k.0))
      by (inr (good, inr h)) (inr (good', inr k)) = h.3 ∙ sym k.3

  one_reducing : EndsReducing (Some c) public text sig o s → EndsReducing (Some c) public text sig e t → o ≡ e
  one_reducing (inl h) (inl k) = h.0 ∙ sym k.0
  one_reducing (inl h) (inr (area, key, spent, of_key, on_disk, told)) = absurd (h.1 c refl area key (on_disk c refl).0 of_key)
  one_reducing (inr (area, key, spent, of_key, on_disk, told)) (inl k) = absurd (k.1 c refl area key (on_disk c refl).0 of_key)
  one_reducing (inr (a, key, spent, of_key, on_disk, told)) (inr (b, other, spent', of_other, on_disk', told')) =
      one_told key other a b spent spent' of_key of_other (on_disk c refl).0 (on_disk' c refl).0 (on_disk c refl).1 (on_disk' c refl).1 told told'

-- the steps after an opening, on a disk that can be used
with_usable : (c : List ℕ) (Next : Ending) (o : Result Conclusion Fault) (t : List ℕ) → EndsOpening (Some c) Next o t → EndsOpening (Some c) (λ x l. IsUsable c × Next x l) o t
with_usable c Next o t (inl h) = inl h
with_usable c Next o t (inr (inl h)) = inr (inl h)
with_usable c Next o t (inr (inr h)) = inr (inr (h.0, (h.0 c refl, h.1)))

one_reduce : (c public text sig : List ℕ) → HasOneEnd (EndsReduce (Some c) public text sig)
one_reduce c public text sig o e s t h k =
    one_opening c (λ x l. IsUsable c × EndsReducing (Some c) public text sig x l) o e s t
    (λ a b. one_reducing c public text sig a.0 o e s t a.1 b.1)
    (with_usable c (EndsReducing (Some c) public text sig) o s h) (with_usable c (EndsReducing (Some c) public text sig) e t k)

-- so it has one end over its files
pub only_reduce : (content key text signature : List ℕ) (folder : Folder) → HasOneEnd (ends_reduce (Some content) key text signature folder)
only_reduce content key text signature folder =
    one_reading (public_key_at folder key) (λ public. EndsReading (hex_text_at folder text) (λ octets. EndsReading (hex_text_at folder signature) (λ sig. EndsReduce (Some content) public octets sig)))
    (λ public. one_reading (hex_text_at folder text) (λ octets. EndsReading (hex_text_at folder signature) (λ sig. EndsReduce (Some content) public octets sig))
    (λ octets. one_reading (hex_text_at folder signature) (λ sig. EndsReduce (Some content) public octets sig) (λ sig. one_reduce content public octets sig)))
