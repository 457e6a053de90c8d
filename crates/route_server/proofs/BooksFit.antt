-- Each book that its method allows has an encoding.
use Rattle.book_model.specs.Books.{Kind, Dij, Full, Ldm, Hyp}
use Rattle.route_server.proofs.MethodFits.{BooksFit}
use Rattle.route_server.proofs.DijFits.{dij_fits}
use Rattle.route_server.proofs.FullFits.{full_fits}
use Rattle.route_server.proofs.LdmFits.{ldm_fits}
use Rattle.route_server.proofs.HypFits.{hyp_fits}

pub books_fit : (kind : Kind) → BooksFit kind
books_fit Dij = dij_fits
books_fit Full = full_fits
books_fit Ldm = ldm_fits
books_fit Hyp = hyp_fits
