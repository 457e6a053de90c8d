use Rattle.std.proofs.Common.{◌≡◌, ◌<◌, ◌∙◌, ap, sym, subst, arith, List, ℕ}
use Rattle.lms_tree.specs.Signatures.{number_at, sealed}
use Rattle.desk_areas.specs.Layout.{slots_of}
use Rattle.key_desk.specs.View.{View}
use Rattle.key_desk.specs.Desk.{IsSignature}
use Rattle.desk_areas.proofs.KeyLemmas.{slot_is_leaf, sealed-number}
use Rattle.key_desk.proofs.desk.Desk.sign_with.Goals as goal

pub sign_into-requires-clause-slot : goal.sign_into-requires-clause-slot
sign_into-requires-clause-slot c =
    slot_is_leaf c.self.inside.key.kind c.args.slot (subst (λ (v : View). c.args.slot < slots_of v.key.kind) (sym c.self.view_is) c.requires.slot)

pub returns : goal.returns
returns c = record {
  exact = subst (λ (v : View). c.sign_into.new.out ≡ sealed v.key c.args.slot c.args.text.now) c.self.view_is c.sign_into.ensures.signature;
  signature =
      subst (λ (v : View). IsSignature v.key c.args.slot c.args.text.now c.sign_into.new.out) c.self.view_is
      (record {
        number_is = ap (λ (l : List ℕ). number_at l 0) c.sign_into.ensures.signature ∙ sealed-number c.self.inside.key c.args.slot c.args.text.now (omega arith);
        good = c.sign_into.ensures.verified;
      });
}
