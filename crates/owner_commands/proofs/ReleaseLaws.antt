-- Released signatures are in images, and no one-time key makes two of them.
use Rattle.std.proofs.Common.{◌≡◌, ◌≢◌, ◌⊎◌, inl, inr, ℕ, zero, suc, ◌+◌, ◌-◌, ◌<◌, ◌≤◌, List, [], ◌∷◌, ◌++◌, map, Some, length, arith, refl, sym, ap, subst, ◌∙◌}
use Rattle.std.specs.List.{All, range_with_len}
use Rattle.std.specs.declared.option.Option.{Option}
use Rattle.std.proofs.lemmas.List.Elements.{All-nil, All-cons, All-head, All-tail, All-weaker, All-append, All-map}
use Rattle.road_io.specs.declared.disk.Disk.{Ghosts}
use Rattle.road_io.specs.Disk.{Stays}
use Rattle.road_io.specs.Moments.{Image, EachImage, AtEachMoment, still_told}
use Rattle.road_io.specs.Contents.{Folder}
use Rattle.road_io.proofs.MomentLaws.{weaker}
use Rattle.book_model.specs.declared.settings.Settings.{Settings}
use Rattle.lms_tree.specs.Signatures.{KeyOf, sealed}
use Rattle.lms_tree.specs.Links.{IsLink}
use Rattle.desk_areas.specs.Layout.{SlotId, slots_of, slots_at, base_of, gate_of, text_of, last_slot, IsAreaOpen, IsCurrent, IsOpen, IsSigned}
use Rattle.std.proofs.lemmas.Bool.{cases_eq}
use Rattle.desk_areas.proofs.Areas.{slot_cases, slot_eq, open_first, open_down, open_link}
use Rattle.key_desk.specs.Stands.{AllSigned, Stands, key_in, SameKeys}
use Rattle.key_desk.proofs.KeptKeys.{stays_keys, slot_keys}
use Rattle.key_desk.proofs.Puts.{puts_outside}
use Rattle.proof_octets.specs.declared.publication.Publication.{Publication}
use Rattle.proof_octets.specs.Headers.{header_text}
use Rattle.route_owner.specs.Published.{SignsInSlot, slot_in}
use Rattle.owner_commands.specs.Signing.{StandsOnDisk, SignsAtMostOne}
use Rattle.owner_commands.specs.StandingKeys.{last_of, next_text, link_by, KeysStand, FollowsAnother}
use Rattle.owner_commands.specs.Names.{HasDistinctNames}
use Rattle.owner_commands.specs.Releases.{Release, header_release, link_release, IsReleasedFrom, AllStand, AreApart, AllApart}

-- ---- lists

all_any : {X : Type 0} (P : X → Type 0) (xs : List X) → ((x : X) → P x) → All P xs
all_any P [] h = All-nil P
all_any P (x ∷ xs) h = All-cons P x xs (h x) (all_any P xs h)

both : {X : Type 0} (P Q R : X → Type 0) (xs : List X) → ((x : X) → P x → Q x → R x) → All P xs → All Q xs → All R xs
both P Q R [] f h k = All-nil R
both P Q R (x ∷ xs) f h k = All-cons R x xs (f x (All-head P x xs h) (All-head Q x xs k)) (both P Q R xs f (All-tail P x xs h) (All-tail Q x xs k))

unmapped : {X Y : Type 0} (P : Y → Type 0) (f : X → Y) (xs : List X) → All P (map f xs) → All (λ x. P (f x)) xs
unmapped P f [] h = All-nil (λ x. P (f x))
unmapped P f (x ∷ xs) h = All-cons (λ y. P (f y)) x xs (All-head P (f x) (map f xs) h) (unmapped P f xs (All-tail P (f x) (map f xs) h))

-- a fact about each number of a range
each_of : (f : ℕ → Release) (P : Release → Type 0) (start n : ℕ) → ((a : ℕ) → start ≤ a → a < start + n → P (f a)) → All P (map f (range_with_len start n))
each_of f P start zero h = All-nil P
each_of f P start (suc n) h =
    All-cons P (f start) (map f (range_with_len (start + 1) n)) (h start (omega arith) (omega arith)) (each_of f P (start + 1) n (λ a from to. h a (omega arith) (omega arith)))

-- ---- a release in an image

pub given_kept : (d i : List ℕ) (r : Release) → SameKeys d i → IsReleasedFrom d r → IsSigned i r.slot r.text → IsReleasedFrom i r
given_kept d i r same given signed = record { signed = signed; held = same r.slot.area given.signed.area ∙ given.held; sealed_by = given.sealed_by }

-- ---- two releases

parts : (a b : Release) → a.key ≡ b.key → a.slot ≡ b.slot → a.text ≡ b.text → a.octets ≡ b.octets → a ≡ b
parts a b key slot text octets =
    let f : KeyOf → SlotId → List ℕ → List ℕ → Release = λ k s t o. record { key = k; slot = s; text = t; octets = o } in
    ap (λ (k : KeyOf). f k a.slot a.text a.octets) key ∙ ap (λ (s : SlotId). f b.key s a.text a.octets) slot ∙ ap (λ (t : List ℕ). f b.key b.slot t a.octets) text ∙ ap (λ (o : List ℕ). f b.key b.slot b.text o) octets

-- two releases from one slot of an image are equal
one_release : (i : List ℕ) (a b : Release) → IsReleasedFrom i a → IsReleasedFrom i b → a.slot ≡ b.slot → a ≡ b
one_release i a b h k same =
    let key : a.key ≡ b.key = sym h.held ∙ ap (λ (s : SlotId). key_in i s.area) same ∙ k.held in
    let text : a.text ≡ b.text = sym h.signed.spent.text_is ∙ ap (λ (s : SlotId). text_of i s) same ∙ k.signed.spent.text_is in
    let octets : a.octets ≡ b.octets =
    h.sealed_by ∙ ap (λ (x : KeyOf). sealed x a.slot.number a.text) key ∙ ap (λ (s : SlotId). sealed b.key s.number a.text) same ∙ ap (λ (t : List ℕ). sealed b.key b.slot.number t) text ∙ sym k.sealed_by in
    parts a b key same text octets

-- two slots of an image whose open areas have keys of distinct identifiers
two_slots : (i : List ℕ) → HasDistinctNames i → (a b : Release) → IsReleasedFrom i a → IsReleasedFrom i b → a.slot ≢ b.slot → AreApart a b
two_slots i names a b h k other = elim (cases_eq a.slot.number b.slot.number) [
  | inr ne ↦ inr (inl ne)
  | inl number ↦ inl (λ is.
      other (slot_eq a.slot b.slot (names a.slot.area b.slot.area h.signed.area k.signed.area (ap (λ (x : KeyOf). x.i) h.held ∙ is ∙ ap (λ (x : KeyOf). x.i) (sym k.held))) number))
]

-- a link that is released besides the earlier releases
apart_link : (i : List ℕ) → HasDistinctNames i → (a b : Release) → IsReleasedFrom i a → IsReleasedFrom i b → IsLink b.text → AreApart a b
apart_link i names a b h k link = elim (slot_cases a.slot b.slot) [
  | inl same ↦ let one = one_release i a b h k same in inr (inr (one, subst (λ (r : Release). IsLink r.text) (sym one) link))
  | inr ne ↦ two_slots i names a b h k ne
]

-- a slot with a closed gate has made none of these
others_fresh : (c : List ℕ) (before : List Release) (r : Release) → All (IsReleasedFrom c) before → gate_of c r.slot ≡ 0 → All (λ a. a.slot ≢ r.slot) before
others_fresh c before r given shut = All-weaker (IsReleasedFrom c) (λ a. a.slot ≢ r.slot)
    (λ a h is. let gate : 0 < gate_of c r.slot = subst (λ (s : SlotId). 0 < gate_of c s) is h.signed.spent.gate in omega (arith, gate, shut)) before given

pub apart_append : (before given : List Release) → AllApart before → AllApart given → All (λ a. All (AreApart a) given) before → AllApart (before ++ given)
apart_append [] given h k cross = k
apart_append (r ∷ rest) given h k cross = (
  All-append (AreApart r) rest given h.0 (All-head (λ a. All (AreApart a) given) r rest cross),
  apart_append rest given h.1 k (All-tail (λ a. All (AreApart a) given) r rest cross),
)

-- ---- the links of keys on the disk

module _ {D : Type 0} (g : Ghosts D) (disk : D) (last : ℕ) (keys : ℕ → KeyOf) (stand : KeysStand g disk last keys) (i : List ℕ) (now : Image g disk i) where
  link_is : (area : ℕ) → area < last → IsLink (next_text keys area)
  link_is area lt =
      let current = stand.current i now in
      let has = open_link i area (open_down i (suc area) last lt current.is_open) in
      let slots : slots_at i (base_of i area) ≡ slots_of (keys area).kind = ap (λ (k : KeyOf). slots_of k.kind) (stand.held i now area (omega (arith, lt))) in
      let f : ℕ → SlotId = λ n. record { area = area; number = n - 1 } in
      let at : last_slot i area ≡ last_of keys area = ap f slots in
      let signed = stand.linked i now area lt in
      subst IsLink (ap (λ (s : SlotId). text_of i s) at ∙ signed.spent.text_is) has.link

  link_given : (area : ℕ) → area < last → IsReleasedFrom i (link_release keys area)
  link_given area lt = record { signed = stand.linked i now area lt; held = stand.held i now area (omega (arith, lt)); sealed_by = refl }

  -- two links are made by keys of two areas
  chain_apart : (start n : ℕ) → start + n ≤ last → AllApart (map (link_release keys) (range_with_len start n))
  chain_apart start zero le = tt
  chain_apart start (suc n) le = (
    each_of (link_release keys) (AreApart (link_release keys start)) (start + 1) n
        (λ a from to.
        two_slots i (stand.names i now) (link_release keys start) (link_release keys a) (link_given start (omega (arith, le))) (link_given a (omega (arith, to, le)))
        (λ is. let same : start ≡ a = ap (λ (s : SlotId). s.area) is in omega (arith, from, same))),
    chain_apart (start + 1) n (omega (arith, le)),
  )

-- ---- what is released besides the earlier releases

-- a release is in every image, and differs from all earlier ones
pub record Adds {D : Type 0} (g : Ghosts D) (disk : D) (before given : List Release) : Type 0 where
  pub stand : EachImage g disk (AllStand given)
  pub apart : AllApart given
  pub cross : All (λ a. All (AreApart a) given) before

module _ {D : Type 0} (g : Ghosts D) (disk : D) (before : List Release) where
  pub adds_none : Adds g disk before []
  adds_none = record {
    stand = λ i now. All-nil (IsReleasedFrom i);
    apart = tt;
    cross = all_any (λ a. All (AreApart a) []) before (λ a. All-nil (AreApart a));
  }

  adds_one : (r : Release) → EachImage g disk (λ i. IsReleasedFrom i r) → All (λ a. AreApart a r) before → Adds g disk before (r ∷ [])
  adds_one r stand cross = record {
    stand = λ i now. All-cons (IsReleasedFrom i) r [] (stand i now) (All-nil (IsReleasedFrom i));
    apart = (All-nil (AreApart r), tt);
    cross = All-weaker (λ a. AreApart a r) (λ a. All (AreApart a) (r ∷ [])) (λ a apart. All-cons (AreApart a) r [] apart (All-nil (AreApart a))) before cross;
  }

  module _ (n : List ℕ) (image : Image g disk n) (given : All (IsReleasedFrom n) before) where
    -- the signature of a header, by a slot that was free in the content that the disk read
    pub adds_header : (old : D) (c : List ℕ) → still_told g old disk ≡ Some c → All (IsReleasedFrom c) before → (p : Publication) (on_disk : StandsOnDisk g old disk p) → Adds g disk before (header_release on_disk.key on_disk.area p ∷ [])
    adds_header old c told was p on_disk =
        let stand : EachImage g disk (λ i. IsReleasedFrom i (header_release on_disk.key on_disk.area p)) = λ i now. record { signed = on_disk.stands i now; held = on_disk.held i now; sealed_by = on_disk.exact } in
        adds_one (header_release on_disk.key on_disk.area p) stand
        (both (IsReleasedFrom n) (λ a. a.slot ≢ slot_in on_disk.area p) (λ a. AreApart a (header_release on_disk.key on_disk.area p)) before
        (λ a h other. two_slots n (on_disk.names n image) a (header_release on_disk.key on_disk.area p) h (stand n image) other) given
        (others_fresh c before (header_release on_disk.key on_disk.area p) was (on_disk.was_free c told)))

    -- the links of a chain
    pub adds_chain : (last : ℕ) (keys : ℕ → KeyOf) → KeysStand g disk last keys → Adds g disk before (map (link_release keys) (range_with_len 0 last))
    adds_chain last keys stand = record {
      stand = λ i now. each_of (link_release keys) (IsReleasedFrom i) 0 last (λ a from to. link_given g disk last keys stand i now a (omega (arith, to)));
      apart = chain_apart g disk last keys stand n image 0 last (omega arith);
      cross = All-weaker (IsReleasedFrom n) (λ a. All (AreApart a) (map (link_release keys) (range_with_len 0 last)))
          (λ a h. each_of (link_release keys) (AreApart a) 0 last
          (λ x from to. apart_link n (stand.names n image) a (link_release keys x) h (link_given g disk last keys stand n image x (omega (arith, to))) (link_is g disk last keys stand n image x (omega (arith, to))))) before given;
    }

    -- the link to a new key
    pub adds_link : (key : KeyOf) (it : FollowsAnother g disk key) → Adds g disk before (link_release it.keys it.before ∷ [])
    adds_link key it = adds_one (link_release it.keys it.before)
        (λ i now. link_given g disk (suc it.before) it.keys it.stand i now it.before (omega arith))
        (All-weaker (IsReleasedFrom n) (λ a. AreApart a (link_release it.keys it.before))
        (λ a h. apart_link n (it.stand.names n image) a (link_release it.keys it.before) h (link_given g disk (suc it.before) it.keys it.stand n image it.before (omega arith)) (link_is g disk (suc it.before) it.keys it.stand n image it.before (omega arith))) before given)

-- ---- what a call leaves unchanged

module _ {D : Type 0} (g : Ghosts D) (old new : D) where
  pub keys_stay : AtEachMoment g old new Stays → AtEachMoment g old new SameKeys
  keys_stay stays = weaker g old new Stays SameKeys stays (λ d i now is. stays_keys d i is)

  -- a publication changes no key
  pub keys_published : (files : Option Folder) (roads : List ℕ) (s : Settings) → SignsAtMostOne g old new files roads s → AtEachMoment g old new SameKeys
  keys_published files roads s (inl stays) = keys_stay stays
  keys_published files roads s (inr file) = weaker g old new _ SameKeys file.one.each
      (λ d i now h. elim h [ inl is ↦ stays_keys d i is | inr one ↦ slot_keys file.one.slot d i (puts_outside file.one.slot (header_text file.one.header) d i (let short = one.short in omega (arith, short)) one.alone) (let early = one.free.early in omega (arith, early)) ])

-- releases as pairs of a slot and a text
abbrev pub pair_of : Release → SlotId × List ℕ
pair_of r = (r.slot, r.text)

pub stand_as_pairs : {D : Type 0} (g : Ghosts D) (disk : D) (given : List Release) → EachImage g disk (AllStand given) → Stands g disk (map pair_of given)
stand_as_pairs g disk given stand i now =
    All-map (λ pair. IsSigned i pair.0 pair.1) pair_of given (All-weaker (IsReleasedFrom i) (λ r. IsSigned i r.slot r.text) (λ r h. h.signed) given (stand i now))

-- signed pairs, together with keys that remain, are still released
pub given_after : (d i : List ℕ) (given : List Release) → SameKeys d i → AllStand given d → AllSigned (map pair_of given) i → AllStand given i
given_after d i given same before signed =
    both (IsReleasedFrom d) (λ r. IsSigned i r.slot r.text) (IsReleasedFrom i) given (λ r h k. given_kept d i r same h k) before (unmapped (λ pair. IsSigned i pair.0 pair.1) pair_of given signed)

-- if something was released, the key gate is open
pub given_open : (c : List ℕ) (r : Release) (rest : List Release) → AllStand (r ∷ rest) c → IsOpen c
given_open c r rest all =
    let given = All-head (IsReleasedFrom c) r rest all in
    record { long = omega (arith, given.signed.place.whole); gate = open_first c (open_down c 0 r.slot.area (omega arith) given.signed.area) }

-- ---- what the definitions exclude

-- one one-time key for two texts
pub two_texts : (a b : Release) → a.key.i ≡ b.key.i → a.slot.number ≡ b.slot.number → a.text ≢ b.text → AreApart a b → ⊥
two_texts a b key number text (inl other) = other key
two_texts a b key number text (inr (inl other)) = other number
two_texts a b key number text (inr (inr same)) = text (ap (λ (r : Release). r.text) same.0)

-- or twice for a text that is not a link text
pub two_headers : (a b : Release) → a.key.i ≡ b.key.i → a.slot.number ≡ b.slot.number → (IsLink a.text → ⊥) → AreApart a b → ⊥
two_headers a b key number plain (inl other) = other key
two_headers a b key number plain (inr (inl other)) = other number
two_headers a b key number plain (inr (inr same)) = plain same.1
