use Rattle.book_model.specs.Books.{leaf}
use Rattle.proof_judge.specs.ItemWalks.{live_ways}
use Rattle.method_books.specs.LdmBooks.{ldm_book}
use Rattle.method_books.proofs.GatedBooks.{live_gated}
use Rattle.method_books.proofs.ldm.live_labels.Goals as goal

pub returns : goal.returns
returns c = λ v.
    let book = c.args.book.now in
    let b = ldm_book book.map.parts book.extras.entries book.numbers in
    c.in_ok-labels.ensures (live_ways book.numbers.first (leaf b) c.args.query.to c.args.most) (live_gated b book.map.order c.args.query.to c.args.most c.requires.short) v
