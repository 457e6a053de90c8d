use Rattle.std.proofs.Common.{◌≡◌, ◌<◌, ◌≤◌, ◌+◌, ℕ, [], ◌∷◌, ◌++◌, List, length, map, take, arith, refl, ap, sym, subst, ◌∙◌, rules, SFits, w32}
use Rattle.std.proofs.lemmas.Int.{to_z-of_z}
use Rattle.std.proofs.lemmas.Result.{err_from_is_err_and}
use Rattle.std.proofs.lemmas.List.{length-append}
use Rattle.std.proofs.Math.Seq.{take-append_seam}
use Rattle.road_map.specs.declared.arc.Arc.{Arc}
use Rattle.road_leaf.specs.declared.leaf.Extra.{Extra}
use Rattle.road_leaf.specs.declared.node_leaves.Head.{Head}
use Rattle.road_leaf.specs.Held.{extra_at, leaf_of, leaves_from, said, EndAt}
use Rattle.road_leaf.proofs.HeldLaws.{same_words, held_more, ends_more}
use Rattle.road_leaf.proofs.node_leaves.hold.Goals as goal

pub returns-in_err-put_note-clause-err : goal.returns-in_err-put_note-clause-err
returns-in_err-put_note-clause-err c =
    let old_says : List Extra = map (said c.args.codes.now.items) c.args.notes.now.items in
    let new_says : List Extra = map (said c.put_note.new.codes.items) c.put_note.new.notes.items in
    let p = err_from_is_err_and c.from_residual.result c.from_residual.ensures.1 in
    let words : (i : ℕ) → i < length c.args.heads.now.items → extra_at new_says i ≡ extra_at old_says i
    = λ i lt. c.put_note.ensures.before i (omega (arith, c.len.ensures, c.args.heads.now.ok.0, lt)) in
    rw p.1 (same_words 0 c.args.heads.now.items c.args.arcs.now.items new_says old_says words)

pub returns-in_err-extend-clause-err : goal.returns-in_err-extend-clause-err
returns-in_err-extend-clause-err c =
    let old_says : List Extra = map (said c.args.codes.now.items) c.args.notes.now.items in
    let new_says : List Extra = map (said c.put_note.new.codes.items) c.put_note.new.notes.items in
    let p = err_from_is_err_and c.from_residual-in_err-extend.result c.from_residual-in_err-extend.ensures.1 in
    let words : (i : ℕ) → i < length c.args.heads.now.items → extra_at new_says i ≡ extra_at old_says i
    = λ i lt. c.put_note.ensures.before i (omega (arith, c.len.ensures, c.args.heads.now.ok.0, lt)) in
    rw (p.1, c.in_err-extend.ensures.items) (same_words 0 c.args.heads.now.items c.args.arcs.now.items new_says old_says words)

pub returns-in-Ok-clause-held : goal.returns-in-Ok-clause-held
returns-in-Ok-clause-held c =
    let x : SFits w32 c.args.leaf.x = search rules in
    let y : SFits w32 c.args.leaf.y = search rules in
    let h : Head = record { id = c.args.leaf.id; x = c.args.leaf.x; y = c.args.leaf.y; end = c.len-end.result } in
    let pushed : c.push.new.list.items ≡ c.args.heads.now.items ++ h ∷ [] = rw (to_z-of_z w32 c.args.leaf.x x, to_z-of_z w32 c.args.leaf.y y) at c.in-Ok.ensures.items in
    let long : c.len-end.result ≡ length c.extend.new.list.items = omega (arith, c.len-end.ensures, c.extend.new.list.ok.0) in
    let more : length c.args.arcs.now.items ≤ c.len-end.result = omega (arith, long, ap length c.in_ok-extend.ensures.items, length-append c.args.arcs.now.items c.as_slice.result.now) in
    let ends : EndAt 0 (c.args.heads.now.items ++ h ∷ []) c.len-end.result = ends_more 0 c.args.heads.now.items (length c.args.arcs.now.items) h c.requires.held.ends more in
    record {
      ends = subst (EndAt 0 c.push.new.list.items) long (subst (λ (hs : List Head). EndAt 0 hs c.len-end.result) (sym pushed) ends);
      within = c.put_note.ensures.within;
    }

pub returns-in-Ok-clause-ok : goal.returns-in-Ok-clause-ok
returns-in-Ok-clause-ok c =
    let old_says : List Extra = map (said c.args.codes.now.items) c.args.notes.now.items in
    let new_says : List Extra = map (said c.put_note.new.codes.items) c.put_note.new.notes.items in
    let hs : List Head = c.args.heads.now.items in
    let arcs : List Arc = c.args.arcs.now.items in
    let x : SFits w32 c.args.leaf.x = search rules in
    let y : SFits w32 c.args.leaf.y = search rules in
    let h : Head = record { id = c.args.leaf.id; x = c.args.leaf.x; y = c.args.leaf.y; end = c.len-end.result } in
    let pushed : c.push.new.list.items ≡ hs ++ h ∷ [] = rw (to_z-of_z w32 c.args.leaf.x x, to_z-of_z w32 c.args.leaf.y y) at c.in-Ok.ensures.items in
    let is : h.end ≡ length arcs + length c.as_slice.result.now = omega (arith, c.len-end.ensures, c.extend.new.list.ok.0, ap length c.in_ok-extend.ensures.items, length-append arcs c.as_slice.result.now) in
    let count : c.len.result ≡ length hs = omega (arith, c.len.ensures, c.args.heads.now.ok.0) in
    let words : (i : ℕ) → i < length hs → extra_at new_says i ≡ extra_at old_says i
    = λ i lt. c.put_note.ensures.before i (omega (arith, count, lt)) in
    let says : extra_at new_says (length hs) ≡ c.args.leaf.extra = ap (extra_at new_says) (sym count) ∙ c.in_ok-put_note.ensures.here in
    let its : c.as_slice.result.now ≡ c.args.leaf.arcs = c.as_slice.ensures in
    let held : leaves_from 0 (hs ++ h ∷ []) (arcs ++ c.as_slice.result.now) new_says ≡ leaves_from 0 hs arcs new_says ++ leaf_of h c.as_slice.result.now (extra_at new_says (length hs)) ∷ []
    = held_more 0 hs arcs c.as_slice.result.now new_says h c.requires.held.ends is in
    rw (pushed, c.in_ok-extend.ensures.items, held, same_words 0 hs arcs new_says old_says words, says, its) refl

pub returns-clause-err : goal.returns-clause-err
returns-clause-err c =
    let old_says : List Extra = map (said c.args.codes.now.items) c.args.notes.now.items in
    let new_says : List Extra = map (said c.put_note.new.codes.items) c.put_note.new.notes.items in
    let hs : List Head = c.args.heads.now.items in
    let arcs : List Arc = c.args.arcs.now.items in
    let count : c.len.result ≡ length hs = omega (arith, c.len.ensures, c.args.heads.now.ok.0) in
    let words : (i : ℕ) → i < length hs → extra_at new_says i ≡ extra_at old_says i
    = λ i lt. c.put_note.ensures.before i (omega (arith, count, lt)) in
    let same : take c.len-count.result (arcs ++ c.as_slice.result.now) ≡ arcs = ap (λ k. take k (arcs ++ c.as_slice.result.now)) (omega (arith, c.len-count.ensures, c.args.arcs.now.ok.0)) ∙ take-append_seam arcs c.as_slice.result.now in
    let cut : c.truncate.new.self.items ≡ arcs = c.truncate.ensures.items ∙ (ap (take c.len-count.result) c.in_ok-extend.ensures.items ∙ same) in
    rw (c.in-Err.ensures.items, cut) (same_words 0 hs arcs new_says old_says words)
