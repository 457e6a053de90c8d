use Rattle.std.proofs.Common.{◌≡◌, ℕ, ◌+◌, ◌*◌, ◌/◌, List, None, Some, take, drop, ap, ◌∙◌, sym, subst, arith, refl, IfSome, IfNone, Option}
use Rattle.std.proofs.lemmas.Nat.{shr-shr}
use Rattle.lms_reduce.specs.Texts.{parent_text}
use Rattle.octet_text.specs.Collisions.{AreCollision}
use Rattle.lms_reduce.specs.Meetings.{IsHighestMeeting, text_above}
use Rattle.lms_reduce.specs.Ways.{raised}
use Rattle.lms_reduce.specs.declared.ways.TwoNodes.{TwoNodes}
use Rattle.lms_reduce.proofs.MeetingLemmas.{none-here, one-more}
use Rattle.lms_reduce.proofs.WayLemmas.{raised-more, parent_text-same, IfNone-map}
use Rattle.lms_reduce.proofs.ways.highest_meeting.Goals as goal
use Rattle.lms_reduce.proofs.ways.highest_meeting.Goals.{then-is_collision, else-is_collision}

-- a level without a collision changes nothing
still-highest : (hash : List ℕ → List ℕ) (i : List ℕ) (r : ℕ) (x x_path y y_path : List ℕ) (level : ℕ) (highest : Option TwoNodes) → ¬ AreCollision hash (text_above hash i r x x_path level) (text_above hash i r y y_path level)
    → IfSome highest (λ two. IsHighestMeeting hash i r x x_path y y_path level two.left two.right) → IfSome highest (λ two. IsHighestMeeting hash i r x x_path y y_path (level + 1) two.left two.right)
still-highest hash i r x x_path y y_path level None none h = tt
still-highest hash i r x x_path y y_path level (Some two) none h =
    record {
      level = h.level;
      within = omega (arith, h.within);
      of_left = h.of_left;
      of_right = h.of_right;
      highest = λ above lo hi. one-more (λ a. ¬ AreCollision hash (text_above hash i r x x_path a) (text_above hash i r y y_path a)) (h.level + 1) level (λ a l m. h.highest a (omega (arith, l)) m) none above (omega (arith, lo)) hi;
    }

div-one : (n : ℕ) → n ≡ n / 1
div-one n = omega arith

pub loop-level-init : goal.loop-level-init
unfolding raised
loop-level-init g c =
    record { node_is = div-one c.args.r; left_size = omega arith; right_size = omega arith; left_is = refl; right_is = refl; found = tt; highest = tt; together = λ e. e }

pub loop-level-preserved : goal.loop-level-preserved
loop-level-preserved g c =
    let hash = g.H.Hasher.hash in
    let i = c.args.i.now in
    let r = c.args.r in
    let level = c.loop-level.level in
    let node = c.loop-level.node in
    let so_far = c.loop-level.invariant in
    let left : c.parent_text.result ≡ parent_text i node c.loop-level.left (take 32 (drop (32 * level) c.args.left_path.now)) = c.parent_text.ensures ∙ ap (parent_text i node c.loop-level.left) c.array_at.ensures in
    let right : c.parent_text-in-loop-level.result ≡ parent_text i node c.loop-level.right (take 32 (drop (32 * level) c.args.right_path.now)) = c.parent_text-in-loop-level.ensures ∙ ap (parent_text i node c.loop-level.right) c.array_at-in-loop-level.ensures in
    let down : (c.parent_text.result ≡ c.parent_text-in-loop-level.result) → c.loop-level.left ≡ c.loop-level.right =
    λ e. parent_text-same i node c.loop-level.left c.loop-level.right c.array_at.result c.array_at-in-loop-level.result (omega (arith, so_far.left_size, so_far.right_size)) (omega arith) (sym c.parent_text.ensures ∙ e ∙ c.parent_text-in-loop-level.ensures) in
    let left_here : c.parent_text.result ≡ text_above hash i r c.args.left.now c.args.left_path.now level =
    left ∙ ap (λ v. parent_text i node v (take 32 (drop (32 * level) c.args.left_path.now))) so_far.left_is ∙ ap (λ n. parent_text i n (raised hash i r c.args.left.now c.args.left_path.now level) (take 32 (drop (32 * level) c.args.left_path.now))) so_far.node_is in
    let right_here : c.parent_text-in-loop-level.result ≡ text_above hash i r c.args.right.now c.args.right_path.now level =
    right ∙ ap (λ v. parent_text i node v (take 32 (drop (32 * level) c.args.right_path.now))) so_far.right_is ∙ ap (λ n. parent_text i n (raised hash i r c.args.right.now c.args.right_path.now level) (take 32 (drop (32 * level) c.args.right_path.now))) so_far.node_is in
    record {
      node_is = ap (λ x. x / 2) so_far.node_is ∙ shr-shr r level 1;
      left_size = omega arith;
      right_size = omega arith;
      left_is = c.digest_of-left.ensures ∙ ap hash left ∙ raised-more hash i r c.args.left.now c.args.left_path.now level node c.loop-level.left so_far.node_is so_far.left_is;
      right_is = c.digest_of-right.ensures ∙ ap hash right ∙ raised-more hash i r c.args.right.now c.args.right_path.now level node c.loop-level.right so_far.node_is so_far.right_is;
      found = elim c.if-is_collision.branch [
        | then-is_collision w ↦ subst (λ (h : Option TwoNodes). IfSome h (λ two. AreCollision hash two.left two.right)) (sym w.highest-is) (record { left_octets = w.if-is_collision.ensures.octets.0; right_octets = w.if-is_collision.ensures.octets.1; differ = w.if-is_collision.ensures.found.0; one_digest = sym c.digest_of-left.ensures ∙ w.if-is_collision.ensures.found.1 ∙ c.digest_of-right.ensures })
        | else-is_collision w ↦ subst (λ (h : Option TwoNodes). IfSome h (λ two. AreCollision hash two.left two.right)) (sym w.highest-is) so_far.found
      ];
      highest = elim c.if-is_collision.branch [
        | then-is_collision w ↦ subst (λ (h : Option TwoNodes). IfSome h (λ two. IsHighestMeeting hash i r c.args.left.now c.args.left_path.now c.args.right.now c.args.right_path.now (level + 1) two.left two.right)) (sym w.highest-is)
            (record { level = level; within = omega arith; of_left = left_here; of_right = right_here; highest = λ above lo hi _. omega (arith, lo, hi) })
        | else-is_collision w ↦ subst (λ (h : Option TwoNodes). IfSome h (λ two. IsHighestMeeting hash i r c.args.left.now c.args.left_path.now c.args.right.now c.args.right_path.now (level + 1) two.left two.right)) (sym w.highest-is)
            (still-highest hash i r c.args.left.now c.args.left_path.now c.args.right.now c.args.right_path.now level c.loop-level.highest
            (none-here hash _ _ _ _ c.digest_of-left.result c.digest_of-right.result left_here right_here c.digest_of-left.ensures c.digest_of-right.ensures w.if-is_collision.ensures.none) so_far.highest)
      ];
      together = elim c.if-is_collision.branch [
        | then-is_collision w ↦ subst (λ (h : Option TwoNodes). IfNone h (c.digest_of-left.result ≡ c.digest_of-right.result → c.args.left.now ≡ c.args.right.now)) (sym w.highest-is) tt
        | else-is_collision w ↦ subst (λ (h : Option TwoNodes). IfNone h (c.digest_of-left.result ≡ c.digest_of-right.result → c.args.left.now ≡ c.args.right.now)) (sym w.highest-is) (IfNone-map c.loop-level.highest (λ f e. f (down (w.if-is_collision.ensures.none e))) so_far.together)
      ];
    }
