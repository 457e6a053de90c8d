-- Pairing arcs one after another.
use Rattle.std.proofs.Common.{◌≡◌, ◌≢◌, ℕ, ◌+◌, ◌<◌, ◌≤◌, ◌==◌, ◌&&◌, ◌||◌, nat_lt, Bool, true, false, not, cond, None, Some, List, length, take, slice_get, get_or, count_by, refl, sym, ◌∙◌, ap, below_more, arith}
use Rattle.std.proofs.lemmas.List.Sums.{sum_by_more}
use Rattle.std.proofs.lemmas.Option.{slice_get-get_or}
use Rattle.dimacs_reader.specs.declared.arc.Arc.{Arc}
use Rattle.dimacs_reader.specs.Dimacs.{is_arc, turned, lacks_back, is_unpaired, first_unpaired}
use Rattle.dimacs_reader.specs.Left.{has_back, TakesBack}
use Rattle.dimacs_reader.proofs.Ranges.{find_some, find_none}

-- each arc up to an index has taken its reverse arc, and this many arcs are left
pub record PairedTo (arcs : List Arc) (index : ℕ) (left : Arc → ℕ) : Type 0 where
  pub left_is : (other : Arc) → other.from ≢ other.to → left other + count_by (is_arc (turned other)) (take index arcs) ≡ count_by (is_arc other) arcs
  pub paired : (k : ℕ) → k < index → is_unpaired arcs k ≡ false

pub paired_to_none : (arcs : List Arc) (left : Arc → ℕ) → ((arc : Arc) → left arc ≡ count_by (is_arc arc) arcs) → PairedTo arcs 0 left
paired_to_none arcs left all = record {
  left_is = λ other apart. omega (arith, all other);
  paired = λ k lt. absurd (omega (arith, lt));
}

pub is_arc_same : (arc : Arc) → is_arc arc arc ≡ true
is_arc_same arc = grind arith

-- one more arc is counted
count_next : (arcs : List Arc) (index : ℕ) (arc other : Arc) → index < length arcs → arc ≡ get_or arcs index arc → count_by (is_arc other) (take (index + 1) arcs) ≡ count_by (is_arc other) (take index arcs) + cond (is_arc other arc) 1 0
count_next arcs index arc other within is =
    sum_by_more (λ x. cond (is_arc other x) 1 0) arcs index arc within ∙ ap (λ x. count_by (is_arc other) (take index arcs) + cond (is_arc other x) 1 0) (sym is)

or_false : (a b : Bool) → (a || b) ≡ false → (a ≡ false) × (b ≡ false)
or_false true b h = cc
or_false false b h = (refl, h)

and_false : (a b : Bool) → (a ≡ true → b ≡ false) → (a && b) ≡ false
and_false true b h = h refl
and_false false b h = refl

or_rest : (a b : Bool) → (a || b) ≡ true → a ≡ false → b ≡ true
or_rest true b h bad = cc
or_rest false b h bad = h

not_true : (a : Bool) → not a ≡ true → a ≡ false
not_true true h = cc
not_true false h = refl

apart : (a b : ℕ) → (a == b) ≡ false → a ≢ b
apart a b h e = absurd (grind (arith, h, e))

is_less : (a b : ℕ) → nat_lt a b ≡ true → a < b
is_less a b h = grind (arith, h)

not_less : (a b : ℕ) → nat_lt a b ≡ false → b ≤ a
not_less a b h = grind (arith, h)

less_is : (a b : ℕ) → a < b → nat_lt a b ≡ true
less_is a b h = grind (arith, h)

less_not : (a b : ℕ) → b ≤ a → nat_lt a b ≡ false
less_not a b h = grind (arith, h)

module _ (arcs : List Arc) (index : ℕ) (arc : Arc) (left : Arc → ℕ) (so_far : PairedTo arcs index left) (within : index < length arcs) (is : arc ≡ get_or arcs index arc) where
  here : slice_get arcs index ≡ Some arc
  here = slice_get-get_or arcs index arc within ∙ ap Some (sym is)

  one_next : count_by (is_arc arc) (take (index + 1) arcs) ≡ count_by (is_arc arc) (take index arcs) + 1
  one_next = count_next arcs index arc arc within is ∙ ap (λ b. count_by (is_arc arc) (take index arcs) + cond b 1 0) (is_arc_same arc)

  -- an arc that has a reverse arc
  paired_here : has_back left arc ≡ true → is_unpaired arcs index ≡ false
  paired_here back =
      ap (lacks_back arcs index) here
      ∙ and_false (not (arc.from == arc.to)) _ (λ joins.
      let two : arc.to ≢ arc.from = λ e. apart arc.from arc.to (not_true _ joins) (sym e) in
      let some : 0 < left (turned arc) = is_less 0 (left (turned arc)) (or_rest (arc.from == arc.to) _ back (not_true _ joins)) in
      let known : left (turned arc) + count_by (is_arc arc) (take index arcs) ≡ count_by (is_arc (turned arc)) arcs = so_far.left_is (turned arc) two in
      let next : count_by (is_arc arc) (take (index + 1) arcs) ≡ count_by (is_arc arc) (take index arcs) + 1 = one_next in
      less_not _ _ (omega arith))

  pub paired_next : (after : Arc → ℕ) → has_back left arc ≡ true → TakesBack left after arc → PairedTo arcs (index + 1) after
  paired_next after back takes = record {
    left_is = λ other two. omega (arith, takes other two, so_far.left_is other two, count_next arcs index arc (turned other) within is);
    paired = below_more _ index so_far.paired (paired_here back);
  }

  -- an arc without a reverse arc
  unpaired_here : has_back left arc ≡ false → is_unpaired arcs index ≡ true
  unpaired_here none =
      let both : ((arc.from == arc.to) ≡ false) × (nat_lt 0 (left (turned arc)) ≡ false) = or_false (arc.from == arc.to) (nat_lt 0 (left (turned arc))) none in
      let two : arc.to ≢ arc.from = λ e. apart arc.from arc.to both.0 (sym e) in
      let spent : left (turned arc) ≤ 0 = not_less 0 (left (turned arc)) both.1 in
      let known : left (turned arc) + count_by (is_arc arc) (take index arcs) ≡ count_by (is_arc (turned arc)) arcs = so_far.left_is (turned arc) two in
      let next : count_by (is_arc arc) (take (index + 1) arcs) ≡ count_by (is_arc arc) (take index arcs) + 1 = one_next in
      let more : nat_lt (count_by (is_arc (turned arc)) arcs) (count_by (is_arc arc) (take (index + 1) arcs)) ≡ true = less_is _ _ (omega arith) in
      ap (lacks_back arcs index) here ∙ (ap (λ b. not b && nat_lt (count_by (is_arc (turned arc)) arcs) (count_by (is_arc arc) (take (index + 1) arcs))) both.0 ∙ more)

  pub first_is_here : has_back left arc ≡ false → Some index ≡ first_unpaired arcs
  unfolding first_unpaired
  first_is_here none = sym (find_some (is_unpaired arcs) 0 (length arcs) index (omega arith) (omega arith) (unpaired_here none) (λ k low lt. so_far.paired k lt))

pub first_is_none : (arcs : List Arc) (index : ℕ) (left : Arc → ℕ) → length arcs ≤ index → PairedTo arcs index left → None ≡ first_unpaired arcs
unfolding first_unpaired
first_is_none arcs index left past so_far = sym (find_none (is_unpaired arcs) 0 (length arcs) (λ k low lt. so_far.paired k (omega (arith, lt))))
