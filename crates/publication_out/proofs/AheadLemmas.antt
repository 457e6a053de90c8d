-- The steps through the octets of a publication.
use Rattle.std.proofs.Common.{◌≡◌, ℕ, suc, ◌+◌, ◌-◌, ◌<◌, ◌≤◌, min, List, [], ◌∷◌, ◌++◌, length, take, drop, get_or, refl, sym, ap, ◌∙◌, subst, arith, append_assoc}
use Rattle.std.specs.Int.{w16, w32, w64, to_be_bytes}
use Rattle.std.specs.List.{flat_map}
use Rattle.std.proofs.lemmas.List.{take-append-drop, take_at, drop_at, drop-drop, drop-take, take-take, length-take-le, length-drop, length-append}
use Rattle.std.proofs.Math.ListN.{drop_of_length-le}
use Rattle.std.proofs.Math.Seq.{drop-cons, take-add, drop-append-add}
use Rattle.road_map.specs.declared.parts.Node.{Node}
use Rattle.road_map.specs.declared.parts.Road.{Road}
use Rattle.proof_octets.specs.declared.publication.Publication.{Publication}
use Rattle.proof_octets.specs.Headers.{header_text}
use Rattle.proof_octets.specs.Publications.{publication, publication_name, node, road, nodes, roads}
use Rattle.publication_out.specs.Ahead.{ahead, front_text, numbers_text, IsStep}
use Rattle.publication_out.specs.declared.fields.Part.{Part}
use Rattle.publication_out.specs.declared.fields.Part.TheVariants.{Signature, Nodes, Roads}
use Rattle.publication_out.specs.declared.fields.Step.{Step}

-- the nodes, the count of roads and the roads
abbrev map_text : Publication → List ℕ
map_text b = flat_map node.spell b.parts.nodes ++ (to_be_bytes w32 (length b.parts.roads) ++ flat_map road.spell b.parts.roads)

pub signature_step : (b : Publication) (i len : ℕ) (buffer : List ℕ) → 0 < len → take len buffer ≡ take len (drop i b.signature) → len ≤ length buffer → IsStep b Signature i buffer (record { len = len; part = Signature; index = i + len })
signature_step b i len buffer some same within =
    let rest = numbers_text b.settings (length b.parts.nodes) ++ map_text b in
    record {
      cut = ap (λ x. x ++ rest) (sym (take-append-drop len (drop i b.signature))) ∙ append_assoc (take len (drop i b.signature)) (drop len (drop i b.signature)) rest
          ∙ ap (λ x. x ++ (drop len (drop i b.signature) ++ rest)) (sym same) ∙ ap (λ x. take len buffer ++ (x ++ rest)) (drop-drop len i b.signature);
      within = within;
      end = λ none. absurd (omega (arith, none, some));
    }

pub numbers_step : (b : Publication) (i len : ℕ) (buffer : List ℕ) → length b.signature ≤ i → len ≡ 36 → take 36 buffer ≡ numbers_text b.settings (length b.parts.nodes) → 36 ≤ length buffer → IsStep b Signature i buffer (record { len = len; part = Nodes; index = 0 })
numbers_step b i len buffer past is text within =
    let rest = numbers_text b.settings (length b.parts.nodes) ++ map_text b in
    record {
      cut = ap (λ x. x ++ rest) (drop_of_length-le b.signature past) ∙ ap (λ x. x ++ map_text b) (sym text) ∙ ap (λ n. take n buffer ++ map_text b) (sym is);
      within = omega (arith, is, within);
      end = λ none. absurd (omega (arith, none, is));
    }

-- one row of a list, and the rows after it
row : {X : Type 0} (spell : X → List ℕ) (xs : List X) (i : ℕ) (x : X) → i < length xs → x ≡ get_or xs i x → flat_map spell (drop i xs) ≡ spell x ++ flat_map spell (drop (i + 1) xs)
row spell xs i x l is =
    let up : suc i ≡ i + 1 = omega arith in
    ap (flat_map spell) (drop-cons xs i x l) ∙ ap (λ y. spell y ++ flat_map spell (drop (suc i) xs)) (sym is) ∙ ap (λ j. spell x ++ flat_map spell (drop j xs)) up

pub node_step : (b : Publication) (i len : ℕ) (buffer : List ℕ) (n : Node) → i < length b.parts.nodes → n ≡ get_or b.parts.nodes i n → len ≡ 12 → take 12 buffer ≡ node.spell n → 12 ≤ length buffer → IsStep b Nodes i buffer (record { len = len; part = Nodes; index = i + 1 })
node_step b i len buffer n l is long text within =
    let rest = to_be_bytes w32 (length b.parts.roads) ++ flat_map road.spell b.parts.roads in
    record {
      cut = ap (λ x. x ++ rest) (row node.spell b.parts.nodes i n l is) ∙ append_assoc (node.spell n) (flat_map node.spell (drop (i + 1) b.parts.nodes)) rest
          ∙ ap (λ x. x ++ (flat_map node.spell (drop (i + 1) b.parts.nodes) ++ rest)) (sym text ∙ ap (λ k. take k buffer) (sym long));
      within = omega (arith, long, within);
      end = λ none. absurd (omega (arith, none, long));
    }

pub count_step : (b : Publication) (i len : ℕ) (buffer : List ℕ) → length b.parts.nodes ≤ i → len ≡ 4 → take 4 buffer ≡ to_be_bytes w32 (length b.parts.roads) → 4 ≤ length buffer → IsStep b Nodes i buffer (record { len = len; part = Roads; index = 0 })
count_step b i len buffer past long text within =
    let rest = to_be_bytes w32 (length b.parts.roads) ++ flat_map road.spell b.parts.roads in
    record {
      cut = ap (λ (x : List Node). flat_map node.spell x ++ rest) (drop_of_length-le b.parts.nodes past) ∙ ap (λ x. x ++ flat_map road.spell b.parts.roads) (sym text ∙ ap (λ k. take k buffer) (sym long));
      within = omega (arith, long, within);
      end = λ none. absurd (omega (arith, none, long));
    }

pub road_step : (b : Publication) (i len : ℕ) (buffer : List ℕ) (r : Road) → i < length b.parts.roads → r ≡ get_or b.parts.roads i r → len ≡ 12 → take 12 buffer ≡ road.spell r → 12 ≤ length buffer → IsStep b Roads i buffer (record { len = len; part = Roads; index = i + 1 })
road_step b i len buffer r l is long text within = record {
  cut = row road.spell b.parts.roads i r l is ∙ ap (λ x. x ++ flat_map road.spell (drop (i + 1) b.parts.roads)) (sym text ∙ ap (λ k. take k buffer) (sym long));
  within = omega (arith, long, within);
  end = λ none. absurd (omega (arith, none, long));
}

pub last_step : (b : Publication) (i : ℕ) (buffer : List ℕ) → length b.parts.roads ≤ i → IsStep b Roads i buffer (record { len = 0; part = Roads; index = i })
last_step b i buffer past = record {
  cut = refl;
  within = omega arith;
  end = λ none. ap (λ (x : List Road). flat_map road.spell x) (drop_of_length-le b.parts.roads past);
}

-- ---- the whole

regroup : (a h l s p q r t c n d e : List ℕ) → (a ++ (h ++ l)) ++ (s ++ ((p ++ (q ++ (r ++ (t ++ c)))) ++ (n ++ (d ++ e)))) ≡ a ++ (h ++ ((l ++ s) ++ (p ++ (q ++ (r ++ (t ++ ((c ++ n) ++ (d ++ e))))))))
regroup a h l s p q r t c n d e = simp append_assoc refl

pub whole_text : (b : Publication) → front_text b ++ ahead b Signature 0 ≡ publication.spell b
unfolding publication
whole_text b = regroup publication_name (header_text b.header) (to_be_bytes w16 (length b.signature)) b.signature (to_be_bytes w64 b.settings.seed) (to_be_bytes w64 b.settings.p1) (to_be_bytes w64 b.settings.p2) (to_be_bytes w64 b.settings.p3) (to_be_bytes w32 (length b.parts.nodes)) (flat_map node.spell b.parts.nodes) (to_be_bytes w32 (length b.parts.roads)) (flat_map road.spell b.parts.roads)

-- ---- the octets that a call gives

-- this many more octets are given
pub given_more : (all old now piece rest : List ℕ) (done count : ℕ) → now ≡ take done all ++ drop done old → done ≤ length all → done + count ≤ length old → length piece ≡ count → drop done all ≡ piece ++ rest
    → (take done now ++ piece ++ drop (done + length piece) now ≡ take (done + count) all ++ drop (done + count) old) × (rest ≡ drop (done + count) all) × (done + count ≤ length all)
given_more all old now piece rest done count is there room long left =
    let front : length (take done all) ≡ done = length-take-le done all there in
    let first : take done now ≡ take done all = ap (take done) is ∙ take_at (take done all) (drop done old) done front in
    let long' : done + length piece ≡ length (take done all) + count = omega (arith, front, long) in
    let long'' : length (take done all) + count ≡ done + count = ap (λ n. n + count) front in
    let last : drop (done + length piece) now ≡ drop (done + count) old =
    ap (drop (done + length piece)) is ∙ ap (λ n. drop n (take done all ++ drop done old)) long' ∙ drop-append-add (take done all) (drop done old) count ∙ drop-drop count done old in
    let piece_is : take count (drop done all) ≡ piece = ap (take count) left ∙ take_at piece rest count long in
    let rest_is : drop count (drop done all) ≡ rest = ap (drop count) left ∙ drop_at piece rest count long in
    let both : take (done + count) all ≡ take done all ++ piece = take-add done count all ∙ ap (λ x. take done all ++ x) piece_is in
    let size : length all - done ≡ length piece + length rest = sym (length-drop done all) ∙ ap length left ∙ length-append piece rest in (
      ap (λ x. x ++ piece ++ drop (done + length piece) now) first ∙ ap (λ x. take done all ++ piece ++ x) last ∙ ap (λ x. x ++ drop (done + count) old) (sym both),
      sym rest_is ∙ drop-drop count done all,
      omega (arith, size, there, long),
    )

-- a piece at the front of the octets that are left in a buffer
pub left_cut : (buffer more : List ℕ) (at end count : ℕ) → at + count ≤ end → end ≤ length buffer
    → (drop at (take end buffer) ++ more ≡ take count (drop at buffer) ++ (drop (at + count) (take end buffer) ++ more)) × (length (take count (drop at buffer)) ≡ count)
left_cut buffer more at end count within inside =
    let x = drop at (take end buffer) in
    let first : take count x ≡ take count (drop at buffer) =
    ap (λ n. take count (drop at (take n buffer))) (let e : end ≡ at + (end - at) = omega (arith, within) in e) ∙ ap (take count) (drop-take at (end - at) buffer) ∙ take-take count (end - at) (drop at buffer) (omega (arith, within)) in
    let last : drop count x ≡ drop (at + count) (take end buffer) = drop-drop count at (take end buffer) in (
      ap (λ y. y ++ more) (sym (take-append-drop count x)) ∙ append_assoc (take count x) (drop count x) more ∙ ap (λ y. y ++ (drop count x ++ more)) first ∙ ap (λ y. take count (drop at buffer) ++ (y ++ more)) last,
      length-take-le count (drop at buffer) (omega (arith, length-drop at buffer, within, inside)),
    )
