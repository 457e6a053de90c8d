use Rattle.std.proofs.Common.{◌≡◌, None, List, [], length, ap, sym, ◌∙◌}
use Rattle.road_map.specs.declared.parts.Node.{Node}
use Rattle.road_map.specs.declared.parts.Parts.{Parts}
use Rattle.road_leaf.specs.declared.leaf.Extra.{Extra}
use Rattle.book_model.specs.Books.{Ldm, settings_fault, method_fault}
use Rattle.landmarks.specs.Tables.{codes_in}
use Rattle.method_books.specs.LdmBooks.{ldm_book}
use Rattle.method_books.proofs.PlanLaws.{extras_long, covers_all, planned}
use Rattle.method_books.proofs.ldm.codes_over.Goals as goal

pub new-requires-clause-long : goal.new-requires-clause-long
new-requires-clause-long c = ap (λ (es : List Extra). length es) c.in_ok-extras.ensures ∙ extras_long (codes_in c.in_ok-table.table) c.args.settings.now.p3 [] c.args.order.now

pub returns-clause-covers : goal.returns-clause-covers
returns-clause-covers c = covers_all c.args.map.now.parts c.args.order.now c.in_ok-extras-2.extras.entries c.requires c.in_ok-extras-2.ensures.covers

pub returns-clause-book : goal.returns-clause-book
returns-clause-book c = planned c.args.map.now.parts c.args.settings.now c.args.order.now c.in_ok-table.table c.in_ok-extras.extras.items c.in_ok-extras-2.extras.entries c.step.result c.requires c.in_ok-table.ensures c.in_ok-extras.ensures c.in_ok-extras-2.ensures.adds c.step.ensures

pub returns-clause-vectors : goal.returns-clause-vectors
returns-clause-vectors c =
    let count : length c.as_slice-count.result.now ≡ length c.args.map.now.parts.nodes = ap (λ (xs : List Node). length xs) (c.as_slice-count.ensures ∙ ap (λ (p : Parts). p.nodes) c.parts.ensures.parts) in
    let allowed : method_fault Ldm c.args.map.now.parts c.args.settings.now ≡ None = ap (λ o. settings_fault o None) (sym (c.refused_parameter.ensures c.args.map.now.parts count) ∙ c.in_default.is) in
    c.method_laws.ensures.vectors Ldm c.args.map.now.parts c.args.settings.now c.args.order.now (ldm_book c.args.map.now.parts c.in_ok-extras-2.extras.entries (record { first = c.step.result; second = c.args.settings.now.p1 })) c.parts.ensures.is_map c.requires
    (planned c.args.map.now.parts c.args.settings.now c.args.order.now c.in_ok-table.table c.in_ok-extras.extras.items c.in_ok-extras-2.extras.entries c.step.result c.requires c.in_ok-table.ensures c.in_ok-extras.ensures c.in_ok-extras-2.ensures.adds c.step.ensures) allowed
