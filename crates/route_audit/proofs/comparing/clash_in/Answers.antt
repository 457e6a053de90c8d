use Rattle.std.proofs.Common.{◌≡◌, ◌≤◌, ◌∙◌, length, refl, sym, ap, arith}
use Rattle.std.proofs.lemmas.Bool.Decides.{nat_tests}
use Rattle.std.specs.Prelude.{◌↔◌, IfOk, IsNone}
use Rattle.std.specs.Option.{option_copied}
use Rattle.merkle_cover.specs.Covers.{chosen_texts, cover_of}
use Rattle.route_server.specs.Keeping.{texts_in}
use Rattle.route_audit.specs.Comparing.{part_under}
use Rattle.route_audit.specs.Evidence.{Part, IsTreesOwn}
use Rattle.route_audit.proofs.Folded.{IsThere, is_there, folds_to_root, folds_there, own_there, own_found, clash_found}
use Rattle.route_audit.proofs.comparing.clash_in.Given.{Over}
use Rattle.route_audit.proofs.comparing.clash_in.Goals as goal
use Rattle.route_audit.proofs.comparing.clash_in.Goals.{After-clash}

pub clash-requires-clause-built : goal.clash-requires-clause-built
clash-requires-clause-built g c =
    (is_there g.H.Hasher.hash c.args.held.now.settings.fan (texts_in c.args.held.now c.args.which) c.in-Some.tree.now c.in-Some-leaves.leaves.now (ap option_copied (sym c.in-Some-leaves.is) ∙ c.leaves.ensures) (ap option_copied (sym c.in-Some.is) ∙ c.tree.ensures)).built

pub clash-requires-clause-folds : goal.clash-requires-clause-folds
clash-requires-clause-folds g c =
    let k = c.args.held.now in
    let part = part_under k c.args.which c.args.places.now c.args.texts.now c.args.cover.now in
    folds_there g.H.Hasher.hash part (texts_in k c.args.which) c.in-Some.tree.now c.in-Some-leaves.leaves.now refl
    (is_there g.H.Hasher.hash k.settings.fan (texts_in k c.args.which) c.in-Some.tree.now c.in-Some-leaves.leaves.now (ap option_copied (sym c.in-Some-leaves.is) ∙ c.leaves.ensures) (ap option_copied (sym c.in-Some.is) ∙ c.tree.ensures))
    (folds_to_root g.H.Hasher.hash c.args.which part c.requires.folds (grind (arith, nat_tests)))

some : (g : Over) (c : After-clash g) → 1 ≤ length c.args.places.now
some g c = grind (arith, nat_tests)

-- the existing tree
there : (g : Over) (c : After-clash g) → IsThere g.H.Hasher.hash c.args.held.now.settings.fan (texts_in c.args.held.now c.args.which) c.in-Some.tree.now c.in-Some-leaves.leaves.now
there g c =
    is_there g.H.Hasher.hash c.args.held.now.settings.fan (texts_in c.args.held.now c.args.which) c.in-Some.tree.now c.in-Some-leaves.leaves.now (ap option_copied (sym c.in-Some-leaves.is) ∙ c.leaves.ensures) (ap option_copied (sym c.in-Some.is) ∙ c.tree.ensures)

abbrev part : (g : Over) (c : After-clash g) → Part
part g c = part_under c.args.held.now c.args.which c.args.places.now c.args.texts.now c.args.cover.now

own : (g : Over) (c : After-clash g) → IfOk c.clash.result (λ x. IsNone x ↔ IsTreesOwn g.H.Hasher.hash (part g c))
own g c =
    own_found g.H.Hasher.hash (part g c) c.clash.result ((c.args.texts.now ≡ chosen_texts c.in-Some-leaves.leaves.now c.args.places.now) × (c.args.cover.now ≡ cover_of g.H.Hasher.hash c.in-Some-leaves.leaves.now c.in-Some.tree.now.fan c.args.places.now))
    (own_there g.H.Hasher.hash (part g c) (texts_in c.args.held.now c.args.which) c.in-Some.tree.now c.in-Some-leaves.leaves.now refl (there g c) (folds_to_root g.H.Hasher.hash c.args.which (part g c) c.requires.folds (some g c)))
    c.clash.ensures.own

pub returns-clause-own : goal.returns-clause-own
returns-clause-own g c = own g c

pub returns-clause-clash : goal.returns-clause-clash
returns-clause-clash g c =
    clash_found g.H.Hasher.hash (part g c) (texts_in c.args.held.now c.args.which) c.in-Some.tree.now c.in-Some-leaves.leaves.now c.clash.result refl (there g c) (own g c) c.clash.ensures.sides
