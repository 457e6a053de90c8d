use Rattle.std.proofs.Common.{◌≡◌, ◌+◌, ◌*◌, ◌≤◌, ◌++◌, ◌∷◌, [], List, length, arith, ap, ◌∙◌, subst}
use Rattle.std.proofs.lemmas.List.{length-append}
use Rattle.road_map.specs.declared.arc.Arc.{Arc}
use Rattle.road_map.specs.Parted.{parted, AreEnds}
use Rattle.road_map.specs.Rows.{row_at}
use Rattle.road_map.proofs.PartedLaws.{ends_more, parted_more}
use Rattle.road_map.proofs.NetLaws.{rows_more, thin_more}
use Rattle.road_map.proofs.net.net_of.Goals as goal

pub loop-position-preserved : goal.loop-position-preserved
loop-position-preserved c =
    let row : List Arc = c.as_slice.result.now in
    let old : List Arc = c.loop-position.arcs.items in
    let new : List Arc = c.extend.new.list.items in
    let row_is : row ≡ row_at c.args.roads.now c.loop-position.position = c.as_slice.ensures.value ∙ c.in_ok-gather.ensures in
    let few : length row ≤ 255 = omega (arith, ap length c.as_slice.ensures.value, c.len.ensures, c.gather.new.row.ok.0, c.if-len-gt-MOST.false) in
    let added : new ≡ old ++ row = c.in_ok-extend.ensures.items in
    let long : length new ≡ length old + length row = ap length added ∙ length-append old row in
    let end : c.len-in-loop-position.result ≡ length new = omega (arith, c.len-in-loop-position.ensures, c.extend.new.list.ok.0) in
    let sum : c.len-in-loop-position.result ≡ length old + length row = omega (arith, end, long) in
    let pushed : c.push.new.list.items ≡ c.loop-position.ends.items ++ c.len-in-loop-position.result ∷ [] = c.in_ok-push.ensures.items in
    let most : length old ≤ 255 * c.loop-position.position = c.loop-position.invariant.few in
    record {
      ends = rw pushed (subst (AreEnds 0 (c.loop-position.ends.items ++ c.len-in-loop-position.result ∷ [])) end (ends_more 0 c.loop-position.ends.items (length old) c.len-in-loop-position.result c.loop-position.invariant.ends (omega (arith, sum))));
      few = omega (arith, long, few, most);
      rows = rows_more c.args.roads.now c.loop-position.position (parted 0 c.loop-position.ends.items old) (parted 0 c.push.new.list.items new) row
          (rw (pushed, added) (parted_more 0 c.loop-position.ends.items old row c.len-in-loop-position.result c.loop-position.invariant.ends sum)) row_is c.loop-position.invariant.rows;
      thin = thin_more c.args.roads.now c.loop-position.position row row_is few c.loop-position.invariant.thin;
    }
