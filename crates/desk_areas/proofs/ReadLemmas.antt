-- The values read from one area.
use Rattle.std.proofs.Common.{◌≡◌, ℕ, ◌+◌, ◌-◌, ◌<◌, ◌≤◌, List, ◌++◌, length, get_or, take, drop, Option, Some, None, IfSome, IfNone, is_some, true, arith, sym, ◌∙◌, ap, subst}
use Rattle.std.specs.Int.{w32, from_be_bytes}
use Rattle.std.proofs.lemmas.List.{get_or-take, get_or-drop, drop-take, take-take, drop-drop, take_all, take-append-drop, length-drop}
use Rattle.lms_tree.specs.Signatures.{KeyOf, public_key}
use Rattle.lms_tree.specs.Links.{IsLink, link_mark, link_text, linked_key}
use Rattle.desk_areas.specs.declared.area.Count.{Count}
use Rattle.desk_areas.specs.Layout.{SlotId, slots_of, slots_at, place_in, base_of, gate_at, text_at, gate_of, text_of, kind_at, secret_at, last_slot, HasLink}
use Rattle.desk_areas.specs.Keys.{key_from, key_at}
use Rattle.desk_areas.specs.Area.{AreaView, area_in}
use Rattle.desk_areas.specs.Faults.{IsBadArea, StrayLink, IsFaulty, Alone, SameName, OtherKey, NinthKey, IsBadBlock}
use Rattle.desk_areas.proofs.KeyLemmas.{four_octets}
use Rattle.desk_areas.specs.Reading.{HasStray, HasGates, IsReadArea, IsLastLink, IsNamed, IsLinkBefore, HasRead}

-- an octet that was read
module _ (base : ℕ) (x octets : List ℕ) (is : octets ≡ take 53 (drop base x)) where
  octet_read : (k : ℕ) → k < 53 → get_or octets k 0 ≡ get_or x (base + k) 0
  octet_read k lt = ap (λ (l : List ℕ). get_or l k 0) is ∙ get_or-take 53 (drop base x) k 0 lt ∙ get_or-drop base x k 0

  kind_octet : (k : ℕ) → k < 4 → get_or (take 4 (drop 1 octets)) k 0 ≡ get_or x (base + (1 + k)) 0
  kind_octet k lt = get_or-take 4 (drop 1 octets) k 0 lt ∙ get_or-drop 1 octets k 0 ∙ octet_read (1 + k) (omega (arith, lt))

  pub kind_read : from_be_bytes w32 (take 4 (drop 1 octets)) ≡ kind_at x base
  kind_read =
      let whole = four_octets (take 4 (drop 1 octets)) in
      let a = kind_octet 0 (omega arith) in
      let b = kind_octet 1 (omega arith) in
      let e = kind_octet 2 (omega arith) in
      let f = kind_octet 3 (omega arith) in
      cc

  pub secret_read : take 48 (drop 5 octets) ≡ secret_at x base
  secret_read = ap (λ (l : List ℕ). take 48 (drop 5 l)) is ∙ ap (λ (l : List ℕ). take 48 l) (drop-take 5 48 (drop base x)) ∙ take-take 48 48 (drop 5 (drop base x)) (omega arith) ∙ ap (λ (l : List ℕ). take 48 l) (drop-drop 5 base x)

-- a link text is the mark followed by the key that it names
pub link_split : (text : List ℕ) → IsLink text → text ≡ link_text (take 56 (drop 4 text))
link_split text link =
    let rest : take 56 (drop 4 text) ≡ drop 4 text = take_all 56 (drop 4 text) (omega (arith, length-drop 4 text, link.size)) in
    sym (take-append-drop 4 text) ∙ ap (λ (l : List ℕ). l ++ drop 4 text) link.mark ∙ ap (λ (l : List ℕ). link_mark ++ l) (sym rest)

pub some_then : {T : Type 0} (o : Option T) (P Q : T → Type 0) → IfSome o P → ((t : T) → P t → Q t) → IfSome o Q
some_then None P Q h f = h
some_then (Some t) P Q h f = f t h

pub none_then : {T : Type 0} (o : Option T) (P Q : Type 0) → IfNone o P → (P → Q) → IfNone o Q
none_then None P Q h f = f h
none_then (Some t) P Q h f = h

-- ---- one area

-- an area with a link text in a spent slot before the last one cannot be used
pub stray_bad : (x : List ℕ) (base kind : ℕ) (counts : List Count) → kind ≡ kind_at x base → length counts ≡ slots_of kind → HasGates counts base x → HasStray counts base x → IsBadArea x base
stray_bad x base kind counts kind_is size gates stray =
    let slots : slots_of kind ≡ slots_at x base = ap (λ (k : ℕ). slots_of k) kind_is in
    StrayLink stray.number (omega (arith, stray.early, size, slots)) (gates.spent stray.number (omega (arith, stray.early)) stray.spent) stray.link

-- an area that was read
pub area_read : (x : List ℕ) (base kind : ℕ) (secret : List ℕ) (area : AreaView) (counts : List Count) (key : KeyOf) → area ≡ record { key = key; counts = counts } → key ≡ key_from kind secret → kind ≡ kind_at x base → secret ≡ secret_at x base
    → 0 < slots_of kind → place_in base (slots_of kind) ≤ length x → HasGates counts base x → (HasStray counts base x → ⊥) → IsReadArea area base x
area_read x base kind secret area counts key area_is key_is kind_is secret_is some whole gates plain =
    let made : key_from kind secret ≡ key_at x base = ap (λ (k : ℕ). key_from k secret) kind_is ∙ ap (λ (s : List ℕ). key_from (kind_at x base) s) secret_is in
    let kind_of_key : key.kind ≡ kind = ap (λ (k : KeyOf). k.kind) key_is in
    subst (λ (a : AreaView). IsReadArea a base x) (sym area_is)
    (record {
      key = key_is ∙ made;
      known = subst (λ (k : ℕ). 0 < slots_of k) (sym kind_of_key) some;
      within = subst (λ (k : ℕ). place_in base (slots_of k) ≤ length x) (sym kind_of_key) whole;
      gates = gates;
      plain = plain;
    })

-- ---- the next of some areas

module _ (x : List ℕ) (earlier : List AreaView) (base : ℕ) (named : Option (List ℕ)) (read : HasRead earlier base named x) where
  block : (fault : IsFaulty x (length earlier)) → IsBadBlock x
  block fault = record { area = length earlier; is_open = read.is_open; fault = fault }

  pub alone_bad : IsBadArea x base → IsBadBlock x
  alone_bad bad = block (Alone (subst (λ (b : ℕ). IsBadArea x b) (sym read.based) bad))

  -- the name of the area that was read
  name_read : (area : AreaView) → IsReadArea area base x → (key_at x (base_of x (length earlier))).i ≡ area.key.i
  name_read area is = ap (λ (b : ℕ). (key_at x b).i) read.based ∙ ap (λ (k : KeyOf). k.i) (sym is.key)

  pub same_name_bad : (area : AreaView) → IsReadArea area base x → (a : ℕ) → a < length earlier → (area_in earlier a).key.i ≡ area.key.i → IsBadBlock x
  same_name_bad area is a lt same = let before = read.each a lt in block (SameName a lt (ap (λ (k : KeyOf). k.i) (sym before.key) ∙ same ∙ sym (name_read area is)))

  other_key : (area : AreaView) → IsReadArea area base x → (n : Option (List ℕ)) → IsLinkBefore (length earlier) n x → (IsNamed n area.key → ⊥) → IsBadBlock x
  other_key area is None before isnt = absurd (isnt tt)
  other_key area is (Some key) before isnt =
      block (OtherKey before.0 before.1 (λ same. isnt (
      ap (λ (k : KeyOf). public_key k) is.key
      ∙ ap (λ (b : ℕ). public_key (key_at x b)) (sym read.based)
      ∙ sym same
      ∙ ap (λ (l : List ℕ). linked_key l) before.2)))

  pub other_key_bad : (area : AreaView) → IsReadArea area base x → (IsNamed named area.key → ⊥) → IsBadBlock x
  other_key_bad area is = other_key area is named read.before

  -- the last slot of the area that was read has a link
  pub link_read : (area : AreaView) → IsReadArea area base x → length area.counts ≡ slots_of area.key.kind → (key : List ℕ) → IsLastLink area.counts base (Some key) x → HasLink x (length earlier)
  link_read area is size key link =
      let slots : slots_at x (base_of x (length earlier)) ≡ length area.counts =
      ap (λ (b : ℕ). slots_at x b) read.based ∙ ap (λ (k : KeyOf). slots_of k.kind) (sym is.key) ∙ sym size in
      let last : last_slot x (length earlier) ≡ record { area = length earlier; number = length area.counts - 1 } = ap (λ (n : ℕ). at (n - 1)) slots in
      let base_is = read.based in
      let gate = is.gates.spent (length area.counts - 1) (omega (arith, is.known, size)) link.0 in
      let gate_there : 0 < gate_of x (at (length area.counts - 1)) = subst (λ (b : ℕ). 0 < gate_at x (place_in b (length area.counts - 1))) (sym base_is) gate in
      let text_there : IsLink (text_of x (at (length area.counts - 1))) = subst (λ (b : ℕ). IsLink (text_at x (place_in b (length area.counts - 1)))) (sym base_is) link.1.link in
      record {
        place = record {
          known = omega (arith, slots, is.known, size);
          whole = omega (arith, slots, is.known, size, is.within, base_is);
        };
        gate = subst (λ (s : SlotId). 0 < gate_of x s) (sym last) gate_there;
        link = subst (λ (s : SlotId). IsLink (text_of x s)) (sym last) text_there;
      }
    where
      at : ℕ → SlotId
      at n = record { area = length earlier; number = n }

  pub ninth_bad : (area : AreaView) → IsReadArea area base x → length area.counts ≡ slots_of area.key.kind → (link : Option (List ℕ)) → is_some link ≡ true → IsLastLink area.counts base link x → length earlier ≡ 7 → IsBadBlock x
  ninth_bad area is size None some link seven = absurd (cc (some))
  ninth_bad area is size (Some key) some link seven = block (NinthKey seven (link_read area is size key link))
