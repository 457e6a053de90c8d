use Rattle.std.proofs.Common.{◌≡◌, ◌≢◌, ◌<◌, ◌≤◌, List, ℕ, Bool, true, false, length, arith, ap, sym, ◌∙◌}
use Rattle.desk_areas.specs.Area.{AreaView}
use Rattle.desk_areas.specs.declared.area.Count.TheVariants
use Rattle.key_desk.specs.declared.desk.Desk.{Desk}
use Rattle.key_desk.specs.Desk.{count_at}
use Rattle.key_desk.specs.Succession.{last_number}
use Rattle.key_desk.proofs.desk.Desk.may_follow.Goals as goal

-- fewer than seven areas are before the current one
fewer : (earlier areas : List AreaView) → areas ≡ earlier → length areas ≤ 7 → length areas ≢ 7 → length earlier < 7
fewer earlier areas is few isnt = let long : length areas ≡ length earlier = ap length is in omega (arith, few, isnt, long)

pub returns-then-earlier-eq7-clause-refused : goal.returns-then-earlier-eq7-clause-refused
returns-then-earlier-eq7-clause-refused c = ap length (sym c.earlier.ensures.areas) ∙ c.if-earlier-eq7.true

pub returns-then-is_last_spent-clause-refused : goal.returns-then-is_last_spent-clause-refused
returns-then-is_last_spent-clause-refused c = (fewer _ _ c.earlier.ensures.areas c.earlier.ensures.few c.if-earlier-eq7.false, c.is_last_spent.ensures.0 c.if-is_last_spent.true)

-- a slot that was not found to be spent is not spent
unspent : (desk : Desk) (told : Bool) → (count_at desk (last_number desk) ≡ TheVariants.Spent → told ≡ true) → told ≡ false → count_at desk (last_number desk) ≢ TheVariants.Spent
unspent desk told when isnt spent = let is = when spent in absurd (cc (is, isnt))

pub returns-then-holds_name-clause-refused : goal.returns-then-holds_name-clause-refused
returns-then-holds_name-clause-refused c =
    (fewer _ _ c.earlier.ensures.areas c.earlier.ensures.few c.if-earlier-eq7.false, unspent c.args.self.now _ c.is_last_spent.ensures.1 c.if-is_last_spent.false, c.holds_name.ensures.yes c.if-holds_name.true)

pub returns-clause-follows : goal.returns-clause-follows
returns-clause-follows c = record {
  few = fewer _ _ c.earlier.ensures.areas c.earlier.ensures.few c.if-earlier-eq7.false;
  free = unspent c.args.self.now _ c.is_last_spent.ensures.1 c.if-is_last_spent.false;
  other = λ found. c.holds_name.ensures.no c.if-holds_name.false found.0 found.1 found.2;
}
