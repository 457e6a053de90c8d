use Rattle.std.proofs.Common.{◌≡◌, ◌<◌, ◌∙◌, ℕ, Err, arith, sym, ap, subst, inr, length, List, Contains}
use Rattle.road_map.specs.declared.parts.Node.{Node}
use Rattle.road_map.specs.declared.parts.Parts.{Parts}
use Rattle.book_model.specs.Books.{Full, settings_fault, count_fault}
use Rattle.book_model.proofs.ById.{by_id-length}
use Rattle.method_books.proofs.FullLaws.{too_many, not_too_many}
use Rattle.method_books.proofs.full.table_over.Goals as goal

pub returns-in-Some-clause-refused : goal.returns-in-Some-clause-refused
returns-in-Some-clause-refused c = inr (ap (λ o. settings_fault o (count_fault Full c.args.map.now.parts c.args.settings.now)) (sym (c.first_parameter.ensures c.args.map.now.parts) ∙ c.in-Some.is))

pub returns-then-count-gt1024-clause-refused : goal.returns-then-count-gt1024-clause-refused
returns-then-count-gt1024-clause-refused c =
    let count : length c.as_slice-count.result.now ≡ length c.args.map.now.parts.nodes = ap (λ (xs : List Node). length xs) (c.as_slice-count.ensures ∙ ap (λ (p : Parts). p.nodes) c.parts.ensures.parts) in
    inr (ap (λ o. settings_fault o (count_fault Full c.args.map.now.parts c.args.settings.now)) (sym (c.first_parameter.ensures c.args.map.now.parts) ∙ c.in_default.is) ∙ too_many c.args.map.now.parts c.args.settings.now (length c.as_slice-count.result.now) count c.if-count-gt1024.true)

pub pair_leaves-requires : goal.pair_leaves-requires
pair_leaves-requires c = λ id h. (c.in_ok-ids.ensures.order.same id).0 (subst (λ xs. Contains xs id) c.as_slice.ensures h)

pub returns-in-Ok-clause-allowed : goal.returns-in-Ok-clause-allowed
returns-in-Ok-clause-allowed c =
    let count : length c.as_slice-count.result.now ≡ length c.args.map.now.parts.nodes = ap (λ (xs : List Node). length xs) (c.as_slice-count.ensures ∙ ap (λ (p : Parts). p.nodes) c.parts.ensures.parts) in
    ap (λ o. settings_fault o (count_fault Full c.args.map.now.parts c.args.settings.now)) (sym (c.first_parameter.ensures c.args.map.now.parts) ∙ c.in_default.is) ∙ not_too_many c.args.map.now.parts c.args.settings.now (length c.as_slice-count.result.now) count c.if-count-gt1024.false

pub returns-in-Err-TooMany-clause-refused : goal.returns-in-Err-TooMany-clause-refused
returns-in-Err-TooMany-clause-refused c =
    let count : length c.as_slice-count.result.now ≡ length c.args.map.now.parts.nodes = ap (λ (xs : List Node). length xs) (c.as_slice-count.ensures ∙ ap (λ (p : Parts). p.nodes) c.parts.ensures.parts) in
    let more : 2048 < length c.as_slice.result.now = c.in-Err-TooMany.ensures.many.0 (ap Err c.in-Err-TooMany.field-0-is) in
    let same : length c.as_slice.result.now ≡ length c.args.map.now.parts.nodes = ap (λ (xs : List ℕ). length xs) (c.as_slice.ensures ∙ c.in_ok-ids.ensures.by_id) ∙ by_id-length c.args.map.now.parts.nodes in
    let above : 1024 < length c.as_slice-count.result.now = omega (arith, count, more, same) in
    inr (ap (λ o. settings_fault o (count_fault Full c.args.map.now.parts c.args.settings.now)) (sym (c.first_parameter.ensures c.args.map.now.parts) ∙ c.in_default.is) ∙ too_many c.args.map.now.parts c.args.settings.now (length c.as_slice-count.result.now) count above)
