-- The order and the method of parts and settings that have a book.
use Rattle.std.proofs.Common.{◌≡◌, ℕ, Option, Some, None, List, subst}
use Rattle.road_map.specs.declared.parts.Parts.{Parts}
use Rattle.road_map.specs.Maps.{IsMap}
use Rattle.book_model.specs.declared.settings.Settings.{Settings}
use Rattle.book_model.specs.declared.settings.PlanError.{PlanError}
use Rattle.book_model.specs.Books.{Kind, Book, kind_of, leaf_order, seed_text, first_failed, common_tests, settings_fault, plan_fault, method_fault}
use Rattle.proof_method.specs.Vectors.{HasVectors}
use Rattle.proof_method.specs.Gathering.{IsOrderOf}
use Rattle.proof_method.proofs.VectorLaws.{gives_vectors}
use Rattle.road_order.proofs.ListingLaws.{lists}
use Rattle.route_server.specs.Headers.{IsBook}
use Rattle.route_server.proofs.Ordered.{order_from_moves}

-- if there is a book, the leaves are in an order of its ids
pub is_order : (sha : List ℕ → List ℕ) (parts : Parts) (s : Settings) → IsMap parts → IsOrderOf parts (leaf_order sha parts s)
is_order sha parts s is_map = order_from_moves parts (leaf_order sha parts s) is_map (lists (λ u. sha (seed_text s.seed u)) parts s.order is_map)

own_allowed : (i : Option ℕ) (rest : Option PlanError) → settings_fault i rest ≡ None → rest ≡ None
own_allowed None rest e = e
own_allowed (Some n) rest e = cc

-- settings that have a book pass the method's own tests
pub method_allowed : (parts : Parts) (s : Settings) (k : Kind) → plan_fault (kind_of s.method) parts s ≡ None → kind_of s.method ≡ Some k → method_fault k parts s ≡ None
method_allowed parts s k allowed is = own_allowed (first_failed 1 (common_tests s)) (method_fault k parts s) (subst (λ o. plan_fault o parts s ≡ None) is allowed)

-- the book of a method has vectors, if the method requires them
pub has_vectors : (sha : List ℕ → List ℕ) (parts : Parts) (s : Settings) (k : Kind) (b : Book) → IsMap parts → plan_fault (kind_of s.method) parts s ≡ None → IsBook sha parts s k b → HasVectors k b
has_vectors sha parts s k b is_map allowed is = gives_vectors k parts s (leaf_order sha parts s) b is_map (is_order sha parts s is_map) is.book (method_allowed parts s k allowed is.method)
