-- Books of any method as contracts see them, by their methods.
use Rattle.std.specs.Prelude.{[]}
use Rattle.road_map.specs.Maps.{Charted}
use Rattle.book_model.specs.Books as books
use Rattle.method_books.specs.PlainBooks.{plain_book}
use Rattle.method_books.specs.LdmBooks.{ldm_book}
use Rattle.method_books.specs.HypBooks.{hyp_book}
use Rattle.method_books.specs.declared.any.AnyBook.{AnyBook}
use Rattle.method_books.specs.declared.any.AnyBook.TheVariants.{Dij, Full, Ldm, Hyp}

abbrev pub kind_in : AnyBook → books.Kind
kind_in (Dij b) = books.Dij
kind_in (Full b) = books.Full
kind_in (Ldm b) = books.Ldm
kind_in (Hyp b) = books.Hyp

abbrev pub shown_in : AnyBook → books.Book
shown_in (Dij b) = plain_book b.map.parts []
shown_in (Full b) = plain_book b.map.parts b.pairs
shown_in (Ldm b) = ldm_book b.map.parts b.extras.entries b.numbers
shown_in (Hyp b) = hyp_book b.map.parts b.grid.columns b.grid.rows b.pairs

abbrev pub charted_in : AnyBook → Charted
charted_in (Dij b) = b.map
charted_in (Full b) = b.map
charted_in (Ldm b) = b.map
charted_in (Hyp b) = b.map
