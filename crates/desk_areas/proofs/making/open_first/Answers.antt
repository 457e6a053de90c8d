use Rattle.std.proofs.Common.{◌≡◌, List, ℕ, ◌<◌, get_or, arith, ◌∙◌, inl, inr}
use Rattle.std.proofs.lemmas.Bool.{cases_eq}
use Rattle.road_io.specs.declared.disk.Disk.{Ghosts}
use Rattle.road_io.specs.Moments.{Image, EachImage, AtEachMoment}
use Rattle.road_io.proofs.MomentLaws.{continued, weaker, at_end}
use Rattle.desk_areas.specs.Layout.{kind_at, slots_of, place_in, gate_at, AgreesOutside}
use Rattle.desk_areas.specs.Blank.{IsZero, IsBlank, IsFresh}
use Rattle.desk_areas.proofs.Frame.{range_apart}
use Rattle.desk_areas.specs.Keys.{key_from}
use Rattle.desk_areas.proofs.OnOks.{on_ok}
use Rattle.desk_areas.proofs.making.open_first.Given.{Over}
use Rattle.desk_areas.proofs.making.open_first.Goals as goal
use Rattle.desk_areas.proofs.making.open_first.Goals.{After-open_block}

-- the block is written behind a gate that stays closed
shut : {D : Type 0} (g : Ghosts D) (kind : ℕ) (old new : D) → EachImage g old (IsZero 0 (place_in 0 (slots_of kind))) → AtEachMoment g old new (AgreesOutside 1 53) → AtEachMoment g old new (λ d i. gate_at i 0 ≡ 0)
shut g kind old new clear m = weaker g old new _ (λ d i. gate_at i 0 ≡ 0) m (λ d i now h. h.same 0 (inl (omega arith)) ∙ (clear d now).zero 0 (omega arith) (omega arith))

module _ (g : Over) (c : After-open_block g) where
  -- once the gate is open, everything is there
  blank : (d i : List ℕ) → Image g.D.Disk c.put_block.new.disk d → AgreesOutside 0 1 d i → 0 < gate_at i 0 → IsBlank (key_from c.args.kind c.args.secret.now) i
  blank d i now h opened =
      let area = c.in_ok-put_block.ensures.blank d now in
      let one : get_or i 1 0 ≡ get_or d 1 0 = h.same 1 (inr (omega arith)) in
      let two : get_or i 2 0 ≡ get_or d 2 0 = h.same 2 (inr (omega arith)) in
      let three : get_or i 3 0 ≡ get_or d 3 0 = h.same 3 (inr (omega arith)) in
      let four : get_or i 4 0 ≡ get_or d 4 0 = h.same 4 (inr (omega arith)) in
      let kind : kind_at i 0 ≡ kind_at d 0 = cc in
      record {
        key_open = opened;
        area = record {
          block = record {
            kind = kind ∙ area.block.kind;
            secret = range_apart 0 1 d i h 5 48 (inr (omega arith)) ∙ area.block.secret;
            within = omega (arith, area.block.within, h.long);
          };
          zero = λ k from to. h.same k (inr (omega (arith, from))) ∙ area.zero k from to;
        };
      }

  fresh : (d i : List ℕ) → Image g.D.Disk c.put_block.new.disk d → AgreesOutside 0 1 d i → IsFresh (key_from c.args.kind c.args.secret.now) i
  fresh d i now h = elim (cases_eq (gate_at i 0) 0) [
    | inl shut ↦ inl (λ opened. omega (arith, opened.gate, shut))
    | inr isnt ↦ inr (blank d i now h (omega (arith, isnt)))
  ]

pub returns-in_err-put_block-clause-moments : goal.returns-in_err-put_block-clause-moments
returns-in_err-put_block-clause-moments g c =
    weaker g.D.Disk c.args.disk.now c.put_block.new.disk (λ d i. gate_at i 0 ≡ 0) (λ d i. IsFresh (key_from c.args.kind c.args.secret.now) i)
    (shut g.D.Disk c.args.kind c.args.disk.now c.put_block.new.disk c.requires.clear c.put_block.ensures.moments) (λ d i now shut. inl (λ opened. omega (arith, opened.gate, shut)))

pub returns-clause-moments : goal.returns-clause-moments
returns-clause-moments g c =
    let at = (goal.at.returns-clause-moments g c).After-open_block in
    continued g.D.Disk c.args.disk.now c.put_block.new.disk c.open_block.new.disk (λ d i. gate_at i 0 ≡ 0) (AgreesOutside 0 1) (λ d i. IsFresh (key_from c.args.kind c.args.secret.now) i)
    (shut g.D.Disk c.args.kind c.args.disk.now c.put_block.new.disk c.requires.clear c.put_block.ensures.moments) c.open_block.ensures.moments
    (λ d i now shut. inl (λ opened. omega (arith, opened.gate, shut)))
    (λ d e i now_d now_e shut h. fresh g at e i now_e h)

pub returns-clause-blank : goal.returns-clause-blank
returns-clause-blank g c =
    let at = (goal.at.returns-clause-blank g c).After-open_block in
    on_ok c.open_block.result _ _ c.open_block.ensures.open (λ opened i now.
    let e = at_end g.D.Disk c.put_block.new.disk c.open_block.new.disk _ c.open_block.ensures.moments i now in
    let gate : gate_at i 0 ≡ 1 = opened i now in
    blank g at e.0 i e.1 e.2 (omega (arith, gate)))
