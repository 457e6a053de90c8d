-- The books of each method fit the formats.
use Rattle.std.specs.Prelude.{◌≡◌, ℕ, None, List}
use Rattle.road_map.specs.declared.parts.Parts.{Parts}
use Rattle.road_map.specs.Maps.{IsMap}
use Rattle.book_model.specs.declared.settings.Settings.{Settings}
use Rattle.book_model.specs.Books.{Kind, Book, IsBookOf, method_fault}
use Rattle.proof_method.specs.Gathering.{IsOrderOf}
use Rattle.route_server.specs.Fitting.{FitsFormats}

-- each book of a method fits the formats
abbrev pub BooksFit : Kind → Type 0
BooksFit kind = (parts : Parts) (s : Settings) (order : List ℕ) (b : Book) → IsMap parts →
    IsOrderOf parts order → method_fault kind parts s ≡ None → IsBookOf kind parts s order b →
    FitsFormats kind b
