-- Grids over nodes.
use Rattle.std.proofs.Common.{◌≡◌, ℕ, ℤ, ◌==◌, not, Bool, Some, List, map, slice_get, refl, ap, sym, ◌∙◌}
use Rattle.std.specs.List.{Contains}
use Rattle.std.specs.Option.{option_map, unwrap_or}
use Rattle.std.proofs.lemmas.List.Elements.{All-contains}
use Rattle.road_map.specs.declared.parts.Node.{Node}
use Rattle.road_map.specs.declared.parts.Parts.{Parts}
use Rattle.road_map.specs.Maps.{IsMap, IsById}
use Rattle.road_map.proofs.Among.{contains_at}
use Rattle.book_model.specs.Orders.{Frame, frame_of, int_least, int_greatest}
use Rattle.book_model.specs.Frames.{InFrame}
use Rattle.book_model.proofs.FrameLaws.{all_in_frame}
use Rattle.book_model.specs.Cells.{cell_in, cell_of}
use Rattle.proof_method.proofs.LeafLaws.{node_is}
use Rattle.method_books.specs.declared.grid.Grid.{Grid}
use Rattle.method_books.specs.Grids.{frame, IsGridOf, Holds}

-- the frame holds its nodes
pub holds : (nodes : List Node) (g : Grid) (n : Node) → IsGridOf nodes g → Contains nodes n → Holds g n
holds nodes g n h c = record {
  columns = h.columns;
  columns_max = h.columns_max;
  rows = h.rows;
  rows_max = h.rows_max;
  inside = All-contains (InFrame g.frame) nodes n (all_in_frame nodes g.frame h.framed) c;
}

frame_with : ℤ → ℤ → ℤ → ℤ → Frame
frame_with a b c d = record { low_x = a; high_x = b; low_y = c; high_y = d }

frame_is : (nodes : List Node) (g : Grid) → IsGridOf nodes g → frame g ≡ frame_of nodes
unfolding frame_with
frame_is nodes g h =
    ap (λ a. frame_with a g.frame.high_x g.frame.low_y g.frame.high_y) h.framed.low_x
    ∙ (ap (λ b. frame_with (int_least (map (λ (n : Node). n.x) nodes)) b g.frame.low_y g.frame.high_y) h.framed.high_x
    ∙ (ap (λ c. frame_with (int_least (map (λ (n : Node). n.x) nodes)) (int_greatest (map (λ (n : Node). n.x) nodes)) c g.frame.high_y) h.framed.low_y
    ∙ ap (λ d. frame_with (int_least (map (λ (n : Node). n.x) nodes)) (int_greatest (map (λ (n : Node). n.x) nodes)) (int_least (map (λ (n : Node). n.y) nodes)) d) h.framed.high_y))

-- the cell of the node at a position
pub cell_is : (parts : Parts) (order : List Node) → IsMap parts → IsById parts.nodes order → (g : Grid) → IsGridOf parts.nodes g → (p : ℕ) (m n : Node) (cell : ℕ) → slice_get order p ≡ Some m → cell ≡ cell_in (frame g) g.columns g.rows m → slice_get order p ≡ Some n → cell ≡ cell_of parts.nodes g.columns g.rows n.id
cell_is parts order map by g of p m n cell here is at =
    let same : m ≡ n = (let e : Some m ≡ Some n = sym here ∙ at in cc) in
    let in_frame : cell ≡ cell_in (frame_of parts.nodes) g.columns g.rows n = is ∙ (ap (λ f. cell_in f g.columns g.rows m) (frame_is parts.nodes g of) ∙ ap (cell_in (frame_of parts.nodes) g.columns g.rows) same) in
    in_frame ∙ sym (ap (λ o. unwrap_or (option_map (cell_in (frame_of parts.nodes) g.columns g.rows) o) 0) (node_is parts order map by n.id p n at refl))

pub within_nodes : (parts : Parts) (order : List Node) → IsById parts.nodes order → (p : ℕ) (n : Node) → slice_get order p ≡ Some n → Contains parts.nodes n
within_nodes parts order by p n at = (by.same n).1 (contains_at order p n at)

-- whether an id is in another cell
abbrev pub elsewhere : List Node → Grid → ℕ → ℕ → Bool
elsewhere nodes g cell id = not (cell_of nodes g.columns g.rows id == cell)
