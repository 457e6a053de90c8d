use Rattle.std.proofs.Common.{◌≤◌, ◌<◌, length, arith, append_assoc, append-nil, sym, refl, ◌∙◌, ap, ◌++◌, ◌∷◌, [], rules, vec_len, vec_capacity}
use Rattle.std.proofs.lemmas.Grind.{common_steps}
use Rattle.mirror_out.proofs.Parting.{Going-kept_at, Going-gone_at, Parts-all}
use Rattle.mirror_out.proofs.Spreading.{Begun-kept_at, Begun-gone_at, Spreads-all}
use Rattle.mirror_out.proofs.spreader.Spreader.put.Goals as goal

pub loop-at-init : goal.loop-at-init
loop-at-init g c = record {
  within = omega arith;
  count = refl;
  same_most = refl;
  spread = ([], sym (append-nil c.args.self.now.lost.items), λ kept more s. s);
  roomy = λ h. h;
  parted = λ h. ([], sym (append-nil c.args.gone.now.items), λ kept more s. s);
}

pub loop-at-preserved-in-None : goal.loop-at-preserved-in-None
loop-at-preserved-in-None g c =
    let there : c.loop-at.at < length c.loop-at.mirrors.items = search rules in
    record {
      within = omega arith;
      count = omega (arith, c.loop-at.invariant.count);
      same_most = c.loop-at.invariant.same_most;
      spread = (
        c.loop-at.invariant.spread.0,
        c.loop-at.invariant.spread.1,
        Begun-kept_at _ _ _ _ _ 1 c.args.piece.now c.args.mirrors.now.items c.loop-at.mirrors.items c.loop-at.invariant.spread.0 c.loop-at.at _ _
            there c.index_mut.ensures.value c.loop-at.invariant.spread.2 c.in-None.ensures.kept,
      );
      roomy = λ h. c.loop-at.invariant.roomy h;
      parted = λ h. let so = c.loop-at.invariant.parted h in (
        so.0,
        so.1,
        Going-kept_at _ _ c.args.mirrors.now.items c.loop-at.mirrors.items so.0 c.loop-at.at _ _ there c.index_mut.ensures.value so.2 c.in-None.ensures.holds,
      );
    }

pub loop-at-preserved : goal.loop-at-preserved
loop-at-preserved g c =
    let there : c.loop-at.at < length c.loop-at.mirrors.items = search rules in
    record {
      within = omega (arith, c.remove.ensures.len);
      count = grind (arith, common_steps);
      same_most = c.loop-at.invariant.same_most;
      spread = (
        c.loop-at.invariant.spread.0 ++ c.in-Some.label ∷ [],
        rw (c.push.ensures.items, c.unwrap.ensures, c.loop-at.invariant.spread.1) (append_assoc c.args.self.now.lost.items c.loop-at.invariant.spread.0 (c.in-Some.label ∷ [])),
        Begun-gone_at _ _ _ _ _ 1 c.args.piece.now c.args.mirrors.now.items c.loop-at.mirrors.items c.loop-at.invariant.spread.0 c.loop-at.at _ _ c.in-Some.label _
            there c.index_mut.ensures.value c.remove.ensures.items c.in-Some.ensures.label c.loop-at.invariant.spread.2 c.in-Some.ensures.promised,
      );
      roomy = λ h.
          let roomy = c.loop-at.invariant.roomy h in
          let free : vec_len c.loop-at.gone < vec_capacity c.loop-at.gone = omega (arith, roomy) in
          omega (arith, roomy, c.remove.ensures.len, c.keep.ensures.len free, c.keep.ensures.capacity);
      parted = λ h.
          let roomy = c.loop-at.invariant.roomy h in
          let free : vec_len c.loop-at.gone < vec_capacity c.loop-at.gone = omega (arith, roomy) in
          let so = c.loop-at.invariant.parted h in (
            so.0 ++ c.remove.result ∷ [],
            c.keep.ensures.kept free ∙ ap (λ x. x ++ c.remove.result ∷ []) so.1 ∙ append_assoc c.args.gone.now.items so.0 (c.remove.result ∷ []),
            Going-gone_at _ _ c.args.mirrors.now.items c.loop-at.mirrors.items so.0 c.loop-at.at _ _ c.remove.result _
                there c.index_mut.ensures.value c.remove.ensures.items c.remove.ensures.value so.2 c.in-Some.ensures.falls,
          );
    }

pub returns-clause-spread : goal.returns-clause-spread
returns-clause-spread g c =
    let past : length c.loop-at.mirrors.items ≤ c.loop-at.at = search rules in (
      c.loop-at.invariant.spread.0,
      c.loop-at.invariant.spread.1,
      Spreads-all _ _ _ _ _ 1 c.args.piece.now c.args.mirrors.now.items c.loop-at.mirrors.items c.loop-at.invariant.spread.0 c.loop-at.at past c.loop-at.invariant.spread.2,
    )

pub returns-clause-parted : goal.returns-clause-parted
returns-clause-parted g c h =
    let past : length c.loop-at.mirrors.items ≤ c.loop-at.at = search rules in
    let so = c.loop-at.invariant.parted h in (
      so.0,
      so.1,
      Parts-all _ _ c.args.mirrors.now.items c.loop-at.mirrors.items so.0 c.loop-at.at past so.2,
    )

pub returns-clause-roomy : goal.returns-clause-roomy
returns-clause-roomy g c h = c.loop-at.invariant.roomy h
