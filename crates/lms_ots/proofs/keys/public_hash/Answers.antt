use Rattle.std.proofs.Common.{◌≡◌, ◌++◌, ◌∙◌, ap, List, ℕ, arith, subst}
use Rattle.std.specs.List.{range_with_len, flat_map}
use Rattle.octet_text.specs.Sha.{HoldsText}
use Rattle.lms_ots.specs.Chains.{prefix, public_value, public_of, key_of, chain_of}
use Rattle.lms_ots.proofs.OtsLemmas.{pieces-more}
use Rattle.lms_ots.proofs.keys.public_hash.Goals as goal

pub loop-at-preserved : goal.loop-at-preserved
unfolding public_value
loop-at-preserved c =
    let g = public_value c.args.i.now c.args.q c.args.seed.now in
    let value : c.chain.result ≡ g c.loop-at.at = c.chain.ensures ∙ ap (λ (x : List ℕ). chain_of c.args.i.now c.args.q c.loop-at.at 0 255 x) c.secret.ensures in
    subst (λ (t : List ℕ). HoldsText c.add.new.self t) (ap (λ (x : List ℕ). (prefix c.args.i.now c.args.q 0x8080 ++ flat_map g (range_with_len 0 c.loop-at.at)) ++ x) value ∙ pieces-more g (prefix c.args.i.now c.args.q 0x8080) c.loop-at.at) (c.add.ensures _ c.loop-at.invariant)

pub returns : goal.returns
unfolding public_of key_of
returns c =
    let g = public_value c.args.i.now c.args.q c.args.seed.now in
    let all : c.loop-at.at ≡ 34 = omega arith in
    c.end.ensures _ (subst (λ n. HoldsText c.loop-at.hasher (prefix c.args.i.now c.args.q 0x8080 ++ flat_map g (range_with_len 0 n))) all c.loop-at.invariant)
