-- A publication that has no reason to be refused has the header of its book.
use Rattle.std.proofs.Common.{◌≡◌, ℕ, Bool, true, false, cond, Option, None, Some, List, refl, ap, sym, ◌∙◌}
use Rattle.book_model.specs.declared.settings.PlanError.{PlanError}
use Rattle.book_model.specs.declared.settings.PlanError.TheVariants as plan
use Rattle.book_model.specs.Books.{Kind, kind_of, leaf_order, plan_fault}
use Rattle.proof_method.specs.Planning.{book_fault}
use Rattle.proof_octets.specs.declared.publication.Publication.{Publication}
use Rattle.route_server.specs.Headers.{HasHeader}
use Rattle.route_service.specs.Refusals.{header_by, is_header_by, book_refusal, refusal_of}
use Rattle.road_map.specs.MapTests.{is_map}
use Rattle.route_service.proofs.ExtraLemmas.{order_lists, book_in, is_book_in}
use Rattle.road_map.proofs.MapTests.{map_from}
use Rattle.route_service.proofs.RefusalLemmas.{header_is, headers_same}

abbrev no_refusal : Option ℕ
no_refusal = None

abbrev no_fault : Option PlanError
no_fault = None

module _ (hash sha : List ℕ → List ℕ) (p : Publication) where
  abbrev fault : Option PlanError
  fault = book_fault p.parts p.settings

  abbrev is_same : Bool
  is_same = is_header_by hash sha p (kind_of p.settings.method)

  by_same : (kind : Kind) → kind_of p.settings.method ≡ Some kind → is_map p.parts ≡ true → fault ≡ None → (b : Bool) → is_same ≡ b → cond b no_refusal (Some 4) ≡ no_refusal →
      HasHeader hash sha p.parts p.settings p.header
  by_same kind method map allowed false e h = absurd (cc)
  by_same kind method map allowed true e h =
      let order = leaf_order sha p.parts p.settings in
      let book = is_book_in kind p.parts p.settings order (order_lists sha p.parts p.settings (map_from p.parts map)) in
      let same : header_by hash sha kind p.parts p.settings ≡ p.header = headers_same (header_by hash sha kind p.parts p.settings) p.header (sym (ap (is_header_by hash sha p) method) ∙ e) in
      record {
        is_map = map_from p.parts map;
        allowed = allowed;
        kind = kind;
        book = book_in kind p.parts p.settings order;
        is_book = record { method = method; book = book };
        is = sym same ∙ sym (header_is hash sha kind p.parts p.settings (book_in kind p.parts p.settings order) book);
      }

  -- settings that are allowed name a method
  by_kind : (k : Option Kind) → kind_of p.settings.method ≡ k → is_map p.parts ≡ true → fault ≡ None → book_refusal no_fault is_same ≡ None →
      HasHeader hash sha p.parts p.settings p.header
  by_kind None e map allowed h =
      let none : Some (plan.Settings 0) ≡ no_fault = sym (ap (λ k. plan_fault k p.parts p.settings) e) ∙ allowed in absurd (cc)
  by_kind (Some kind) e map allowed h = by_same kind e map allowed is_same refl h

  by_fault : is_map p.parts ≡ true → (f : Option PlanError) → fault ≡ f → book_refusal f is_same ≡ None → HasHeader hash sha p.parts p.settings p.header
  by_fault map (Some why) e h = absurd (cc)
  by_fault map None e h = by_kind (kind_of p.settings.method) refl map e h

  by_map : (b : Bool) → is_map p.parts ≡ b → cond b (book_refusal fault is_same) (Some 2) ≡ no_refusal → HasHeader hash sha p.parts p.settings p.header
  by_map false e h = absurd (cc)
  by_map true e h = by_fault e fault refl h

  pub installable : refusal_of hash sha p ≡ None → HasHeader hash sha p.parts p.settings p.header
  unfolding refusal_of
  installable h = by_map (is_map p.parts) refl h
