use Rattle.std.proofs.Common.{◌≡◌, ◌+◌, [], ◌∙◌, ap, sym, get_or, List, ℕ, length}
use Rattle.std.proofs.lemmas.List.{length-map}
use Rattle.map_commands.specs.RootLine.{plain_texts}
use Rattle.map_commands.proofs.RootLemmas.{text_here}
use Rattle.map_commands.proofs.tree_root.plain_root.Goals as goal

pub loop-position-init : goal.loop-position-init
loop-position-init c =
    record {
      pushed_is = c.in_ok-rising.ensures.unpushed;
      leaves_is = c.in_ok-rising.ensures.leaves ∙ c.count-count.ensures;
      takes = c.in_ok-rising.ensures.takes (plain_texts c.args.map.now.parts c.args.map.now.order) (length-map c.args.map.now.order _ ∙ sym c.count-count.ensures);
    }

pub loop-position-preserved : goal.loop-position-preserved
loop-position-preserved c =
    let inv = c.loop-position.invariant in
    let at = c.in_ok-text.ensures in
    record {
      pushed_is = c.push.ensures.pushed ∙ ap (λ n. n + 1) inv.pushed_is;
      leaves_is = c.push.ensures.leaves ∙ inv.leaves_is;
      takes = c.push.ensures.takes _ _ _ inv.takes
          (ap (λ i. get_or (plain_texts c.args.map.now.parts c.args.map.now.order) i []) inv.pushed_is
          ∙ text_here c.args.map.now.parts c.args.map.now.order c.loop-position.position at.node _ at.here (c.as_slice.ensures.value ∙ at.is));
    }

pub returns : goal.returns
returns c = c.end.ensures.root _ _ _ c.loop-position.invariant.takes
