-- The signed publication is the promised one.
use Rattle.std.proofs.Common.{◌≡◌, ◌⊎◌, ℕ, ◌+◌, ◌^◌, ◌≤◌, ◌<◌, List, ◌++◌, length, take, drop, [], append-nil, append_assoc, ◌-◌, refl, sym, ap, subst, ◌∙◌, arith, inl, inr, ◌↔◌}
use Rattle.std.specs.List.{All}
use Rattle.std.proofs.lemmas.List.{length-append, length-take-le, length-drop, drop-drop}
use Rattle.std.proofs.Math.Seq.{drop-length, take-length}
use Rattle.std.proofs.lemmas.Bool.Decides.{nat_tests}
use Rattle.sha2.specs.Sha256.{sha256}
use Rattle.road_map.specs.declared.parts.Parts.{Parts}
use Rattle.road_io.specs.declared.disk.Disk.{Ghosts}
use Rattle.road_io.specs.Moments.{Image, EachImage, AtEachMoment}
use Rattle.road_io.proofs.MomentLaws.{weaker}
use Rattle.book_model.specs.declared.settings.Settings.{Settings}
use Rattle.lms_tree.specs.Signatures.{KeyOf, number_at, sealed, seal_len, height_of}
use Rattle.lms_tree.specs.Links.{IsLink}
use Rattle.desk_areas.specs.declared.area.Count.TheVariants.{Free, Spent}
use Rattle.key_desk.specs.Desk.{IsSignature, HasAreas, Fits, PutsLowest, count_at, slot_here}
use Rattle.key_desk.specs.declared.desk.Desk.{Desk}
use Rattle.key_desk.proofs.Counts.{own_here, count_here, free_isnt_spent}
use Rattle.key_desk.proofs.Successors.{slots_on}
use Rattle.desk_areas.specs.Layout.{SlotId, slots_of, slots_at, base_of, gate_of, IsCurrent, IsSigned, PutsText, SignsAtMost}
use Rattle.proof_octets.specs.declared.header.Header.{Header}
use Rattle.proof_octets.specs.declared.publication.Publication.{Publication}
use Rattle.proof_octets.specs.Headers.{header_text}
use Rattle.proof_octets.specs.Publications.{publication, publication_text}
use Rattle.proof_octets.specs.Good.{IsGoodPublication, IsGoodNode, IsGoodRoad, IsGoodHeader}
use Rattle.route_server.specs.Headers.{HasHeader, header_of}
use Rattle.route_owner.specs.Published.{HasSettingWidths, IsPublication, IsSealed, IsSignable, SignsInSlot, SignsLowest, SignsHeader, SignsLowestHeader}

-- the publication of these parts and settings
abbrev pub publication_with : Header → Parts → Settings → List ℕ → Publication
publication_with header parts s signature =
    record { header = header; signature = signature; settings = s; parts = parts }

-- a header that was made can be signed
pub signable : (hash : List ℕ → List ℕ) (parts left : Parts) (s : Settings) (h : Header) → left ≡ parts → HasHeader hash sha256 parts s h → (s.version < 2 ^ 64 → IsGoodHeader h)
    → HasSettingWidths s → s.version < 2 ^ 64 → All IsGoodNode parts.nodes → All IsGoodRoad parts.roads → IsSignable hash parts s h left
signable hash parts left s h same has good widths version nodes roads = record {
  same = same;
  has = has;
  good_header = good version;
  settings = widths;
  few_nodes = has.is_map.sized.1;
  few_roads = has.is_map.sized.2;
  nodes = nodes;
  roads = roads;
}

-- a signed header makes a publication that has an encoding
pub good_publication : (hash : List ℕ → List ℕ) (parts left : Parts) (s : Settings) (header : Header) (signature : List ℕ) → IsSignable hash parts s header left → length signature ≤ 1452
    → IsGoodPublication (publication_with header left s signature)
unfolding header_of
good_publication hash parts left s header signature is short = record {
  header = is.good_header;
  signature = short;
  method = sym (ap (λ (h : Header). h.method) is.has.is);
  order = sym (ap (λ (h : Header). h.order) is.has.is);
  fan = sym (ap (λ (h : Header). h.fan) is.has.is);
  version = sym (ap (λ (h : Header). h.version) is.has.is);
  seed = is.settings.seed;
  p1 = is.settings.p1;
  p2 = is.settings.p2;
  p3 = is.settings.p3;
  few_nodes = subst (λ (p : Parts). length p.nodes ≤ 65536) (sym is.same) is.few_nodes;
  nodes = subst (λ (p : Parts). All IsGoodNode p.nodes) (sym is.same) is.nodes;
  few_roads = subst (λ (p : Parts). length p.roads ≤ 262144) (sym is.same) is.few_roads;
  roads = subst (λ (p : Parts). All IsGoodRoad p.roads) (sym is.same) is.roads;
}

-- which publications fit
abbrev pub Ranges : Type 0
Ranges = (b : Publication) → publication.Fits b ↔ IsGoodPublication b

pub fits_with : Ranges → (hash : List ℕ → List ℕ) (parts left : Parts) (s : Settings) (header : Header) (signature : List ℕ) → IsSignable hash parts s header left → length signature ≤ 1452
    → publication.Fits (publication_with header left s signature)
fits_with ranges hash parts left s header signature is short = (ranges (publication_with header left s signature)).1 (good_publication hash parts left s header signature is short)

-- the content of a vector after all of it was overwritten
pub all_written : (n : ℕ) (out items : List ℕ) → n ≡ length items → length out ≡ length items → take n (out ++ drop (length out) items) ≡ out
all_written n out items whole same =
    let none : drop (length out) items ≡ [] = ap (λ k. drop k items) same ∙ drop-length items in
    rw none (rw append-nil (ap (λ k. take k out) (whole ∙ sym same) ∙ take-length out))

-- the slot that a signature names belongs to the key and is not its last
slot_so : (key : KeyOf) (q : ℕ) (signature : List ℕ) → q + 1 < slots_of key.kind → number_at signature 0 ≡ q → number_at signature 0 + 1 < slots_of key.kind
slot_so key q signature early number = omega (arith, early, number)

-- a signature of the header, at its slot
pub signed_so : (key now : KeyOf) (q : ℕ) (header : Header) (text signature : List ℕ) → now ≡ key → text ≡ header_text header → IsSignature now q text signature
    → (number_at signature 0 ≡ q) × IsSignature key (number_at signature 0) (header_text header) signature
signed_so key now q header text signature same is good =
    (good.number_is, record { number_is = refl; good = rw (sym is, sym same) good.good })

-- a header is not a link text
pub no_link : (header : Header) (text : List ℕ) → length (header_text header) ≡ 104 → text ≡ header_text header → IsLink text → ⊥
no_link header text long is link = omega (arith, link.size, ap length is, long)

module _ {D : Type 0} (g : Ghosts D) (old new : D) where
  -- a text and a gate in one slot of a desk's current area, other than the last slot
  in_slot : (desk : Desk) (q : ℕ) (header : Header) (text d i : List ℕ) → text ≡ header_text header → length (header_text header) ≤ 104 → q + 1 < slots_of desk.key.kind → HasAreas desk d
      → PutsLowest desk q text d i → SignsAtMost (slot_here desk q) text d i → SignsInSlot (slot_here desk q) (header_text header) d i
  in_slot desk q header text d i is short early areas h signs = record {
    current = areas.current;
    early = omega (arith, early, slots_on desk d areas);
    short = short;
    alone = subst (λ t. PutsText (slot_here desk q) t d i) is h.alone;
    signs = subst (λ t. SignsAtMost (slot_here desk q) t d i) is signs;
  }

  -- the slot is the lowest free one, if no other slot is in use by a signing
  in_lowest : (desk : Desk) (q : ℕ) (header : Header) (text d i : List ℕ) → text ≡ header_text header → length (header_text header) ≤ 104 → q + 1 < slots_of desk.key.kind → Fits g desk old → Image g old d
      → ((s : ℕ) → (count_at desk s ≡ Free) ⊎ (count_at desk s ≡ Spent))
      → PutsLowest desk q text d i → SignsAtMost (slot_here desk q) text d i → SignsLowest (slot_here desk q) (header_text header) d i
  in_lowest desk q header text d i is short early fits now either h signs = record {
    free = record {
      current = areas.current;
      early = omega (arith, early, slots_on desk d areas);
      shut = fits.others h.opened d now (slot_here desk q) (own_here desk q (omega (arith, early))) (λ spent. free_isnt_spent (sym h.free ∙ sym (count_here desk (slot_here desk q) refl) ∙ spent));
      lowest = λ s less. elim (either s) [
        | inl free ↦ absurd (h.lowest s less free)
        | inr spent ↦ let same = fits.spent h.opened d d now now (slot_here desk s) (own_here desk s (omega (arith, early, less))) (count_here desk (slot_here desk s) refl ∙ spent) in same.open_gate
      ];
    };
    short = short;
    alone = subst (λ t. PutsText (slot_here desk q) t d i) is h.alone;
    signs = subst (λ t. SignsAtMost (slot_here desk q) t d i) is signs;
  }
    where
      areas : HasAreas desk d
      areas = fits.areas d now

  -- the moments of a signing
  pub signs_header : (hash : List ℕ → List ℕ) (parts : Parts) (s : Settings) (header : Header) (text : List ℕ) (desk : Desk) (q : ℕ) → HasHeader hash sha256 parts s header → text ≡ header_text header → length (header_text header) ≡ 104
      → EachImage g old (HasAreas desk) → q + 1 < slots_of desk.key.kind
      → AtEachMoment g old new (λ d i. ((i ≡ d) ⊎ PutsLowest desk q text d i) × SignsAtMost (slot_here desk q) text d i) → SignsHeader g old new hash parts s
  signs_header hash parts s header text desk q has is long areas early each = record {
    slot = slot_here desk q;
    header = header;
    of_book = has;
    each = weaker g old new _ _ each (λ d i now h. elim h.0 [
      | inl same ↦ inl same
      | inr puts ↦ inr (in_slot desk q header text d i is (omega (arith, long)) early (areas d now) puts h.1)
    ]);
  }

  pub signs_lowest : (hash : List ℕ → List ℕ) (parts : Parts) (s : Settings) (header : Header) (text : List ℕ) (desk : Desk) (q : ℕ) → HasHeader hash sha256 parts s header → text ≡ header_text header → length (header_text header) ≡ 104
      → Fits g desk old → q + 1 < slots_of desk.key.kind → ((s : ℕ) → (count_at desk s ≡ Free) ⊎ (count_at desk s ≡ Spent))
      → AtEachMoment g old new (λ d i. ((i ≡ d) ⊎ PutsLowest desk q text d i) × SignsAtMost (slot_here desk q) text d i) → SignsLowestHeader g old new hash parts s
  signs_lowest hash parts s header text desk q has is long fits early either each = record {
    slot = slot_here desk q;
    header = header;
    of_book = has;
    each = weaker g old new _ _ each (λ d i now h. elim h.0 [
      | inl same ↦ inl same
      | inr puts ↦ inr (in_lowest desk q header text d i is (omega (arith, long)) early fits now either puts h.1)
    ]);
  }

  -- the pairs that are signed afterwards, in the current area of the desk
  pub sealed_so : (p : Publication) (desk : Desk) (area q : ℕ) (text : List ℕ) → number_at p.signature 0 ≡ q → text ≡ header_text p.header → EachImage g new (HasAreas desk) → length desk.earlier ≡ area → q + 1 < slots_of desk.key.kind
      → EachImage g old (λ i. gate_of i (record { area = area; number = q }) ≡ 0) → EachImage g new (λ i. IsSigned i (record { area = area; number = q }) text) → IsSealed g old new area p
  sealed_so p desk area q text number is areas here below free stands = record {
    current = λ i now. let h = areas i now in subst (IsCurrent i) here h.current;
    early = λ i now.
        let there : slots_at i (base_of i area) ≡ slots_of desk.key.kind = ap (λ (a : ℕ). slots_at i (base_of i a)) (sym here) ∙ slots_on desk i (areas i now) in
        omega (arith, number, below, there);
    was_free = subst (λ (n : ℕ). EachImage g old (λ i. gate_of i (record { area = area; number = n }) ≡ 0)) (sym number) free;
    stands = subst (λ t. EachImage g new (λ i. IsSigned i (record { area = area; number = number_at p.signature 0 }) t)) is
        (subst (λ (n : ℕ). EachImage g new (λ i. IsSigned i (record { area = area; number = n }) text)) (sym number) stands);
  }

-- the signature in a publication is the one that its key makes
exact_so : (key now : KeyOf) (q : ℕ) (header : Header) (text signature made : List ℕ) → made ≡ signature → now ≡ key → text ≡ header_text header → number_at signature 0 ≡ q → signature ≡ sealed now q text
    → made ≡ sealed key (number_at made 0) (header_text header)
exact_so key now q header text signature made same keys of number exact =
    let own : signature ≡ sealed key q text = exact ∙ ap (λ (k : KeyOf). sealed k q text) keys in
    let here : q ≡ number_at made 0 = sym (ap (λ (x : List ℕ). number_at x 0) same ∙ number) in
    same ∙ own ∙ ap (λ (n : ℕ). sealed key n text) here ∙ ap (λ (t : List ℕ). sealed key (number_at made 0) t) of

-- the publication that is made from parts, a header and its signature
pub published_so : Ranges → (hash : List ℕ → List ℕ) (parts left : Parts) (s : Settings) (header : Header) (made signature : List ℕ) (key now : KeyOf) (q : ℕ) (text : List ℕ)
    → IsSignable hash parts s header left → made ≡ signature → length signature ≤ 1452 → now ≡ key → q + 1 < slots_of key.kind → text ≡ header_text header → IsSignature now q text signature → signature ≡ sealed now q text
    → IsPublication hash key parts s (publication_with header left s made)
published_so ranges hash parts left s header made signature key now q text is same short keys early of good exact = record {
  of_parts = is.same;
  of_settings = refl;
  has_header = is.has;
  slot = subst (λ x. number_at x 0 + 1 < slots_of key.kind) (sym same) (slot_so key q signature early good.number_is);
  signed = subst (λ x. IsSignature key (number_at x 0) (header_text header) x) (sym same) (signed_so key now q header text signature keys of good).1;
  exact = exact_so key now q header text signature made same keys of good.number_is exact;
  fits = fits_with ranges hash parts left s header made is (rw same short);
}

-- a signature is at most as long as that of a tree of height 10
pub seal_short : (kind n room : ℕ) (signature : List ℕ) → n ≡ seal_len (height_of kind) → length signature ≡ n → length signature ≤ 1452
seal_short kind n room signature is same = omega (arith, is, same, by kind)
  where
    by : (kind : ℕ) → height_of kind ≤ 10
    by kind = grind (arith, nat_tests)
