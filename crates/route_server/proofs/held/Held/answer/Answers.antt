use Rattle.std.proofs.Common.{◌≡◌, ◌<◌, ◌-◌, ◌^◌, ℕ, List, All, length, nat_eq, Option, refl, ap, sym, subst, arith, ◌∙◌}
use Rattle.std.specs.Prelude.{slice_get, IfSome, IfNone}
use Rattle.std.specs.List.{IsDistinct, filter_map}
use Rattle.std.proofs.lemmas.List.{length-map}
use Rattle.std.proofs.lemmas.Result.{IfOk-weaker}
use Rattle.sha2.specs.Sha256.{sha256}
use Rattle.road_map.specs.Walks.{Knows}
use Rattle.road_leaf.specs.declared.pair.PairLeaf.{PairLeaf}
use Rattle.road_leaf.specs.declared.leaf.NodeLeaf.{NodeLeaf}
use Rattle.road_leaf.specs.Leaves.{node_leaf, pair_leaf}
use Rattle.book_model.specs.Books.{leaves_of, IsBookOf}
use Rattle.merkle_cover.specs.Covers.{IsRising}
use Rattle.proof_method.specs.declared.found.Found.{Found}
use Rattle.proof_method.specs.Gathering.{IsOrderOf, IsFirstUnknown}
use Rattle.proof_octets.specs.declared.reply.Reply.TheVariants as replies
use Rattle.proof_octets.specs.Replies.{reply, reply_of}
use Rattle.method_books.specs.AnyBooks.{kind_in, shown_in, charted_in}
use Rattle.proof_octets.proofs.ReplyLength.{unknown_long}
use Rattle.route_server.specs.Bringing.{AreBrought, placed_of}
use Rattle.route_server.specs.Fitting.{kind_of_leaves}
use Rattle.route_server.specs.Headers.{pair_texts}
use Rattle.route_server.specs.Honesty.{IsHonest, Gathers, Replies, ids_at}
use Rattle.route_server.specs.Keeping.{Kept, publication_in, kept_as, header_in, leaves_in, count_in, cover_in}
use Rattle.route_server.specs.LeafTrees.{Leaves}
use Rattle.route_server.proofs.Answering.{FoundFacts, gathered_facts, in_range, cover_either}
use Rattle.route_server.proofs.Brought.{IsBrought, IsServed, answer_good, answer_short, is_reply}
use Rattle.route_server.proofs.HeaderLemmas.{count_either}
use Rattle.route_server.proofs.HeldLaws.{shown}
use Rattle.route_server.proofs.LeavesAt.{all_at, has_leaves}
use Rattle.proof_octets.specs.declared.placed.PlacedAnswer.{PlacedAnswer}
use Rattle.proof_octets.specs.declared.reply.Answer as answers
use Rattle.proof_octets.specs.Placed.{HasLeaves, with_leaves}
use Rattle.proof_octets.specs.declared.publication.Publication.{Publication}
use Rattle.route_server.proofs.held.Held.answer.Given.{Over}
use Rattle.route_server.proofs.held.Held.answer.Goals as goal
use Rattle.route_server.proofs.held.Held.answer.Goals.{In_ok-signature, After-numbers_fit}

pub returns-in-None-clause-honest : goal.returns-in-None-clause-honest
returns-in-None-clause-honest g c =
    let hash = g.H.Hasher.hash in
    let b = shown_in c.self.inside.book in
    IfOk-weaker c.unknown.result (λ v. v.items ≡ reply.spell replies.UnknownNode) (λ v. IsHonest hash sha256 (publication_in hash c.args.self.now) c.args.query v.items) (λ v spelled.
    subst (λ (k : Kept). IsHonest hash sha256 (publication_in hash k) c.args.query v.items) c.self.view_is
    (record {
      kind = kind_in c.self.inside.book;
      book = b;
      is_book = c.self.invariant.planned.is_book;
      reply = replies.UnknownNode;
      says = subst (λ (o : Option Found). IfNone o ((id : ℕ) × IsFirstUnknown b.parts c.args.query id)) c.in-None.is c.in_ok-gathered.ensures.unknown;
      fits = c.unknown.ensures.fits;
      spelled = spelled;
    })) c.unknown.ensures.spelled

pub returns-in-None-clause-short : goal.returns-in-None-clause-short
returns-in-None-clause-short g c =
    IfOk-weaker c.unknown.result (λ v. v.items ≡ reply.spell replies.UnknownNode) (λ v. length v.items < 2 ^ 32 - 16) (λ v spelled. omega (arith, unknown_long, ap (λ (xs : List ℕ). length xs) spelled)) c.unknown.ensures.spelled

-- the gathered items, with their route or for the case that no walk joins the ends
brought_found : (g : Over) (c : In_ok-signature g) → Gathers (kind_in c.self.inside.book) (shown_in c.self.inside.book) c.args.query c.in-Some.found
brought_found g c = subst (λ (o : Option Found). IfSome o (Gathers (kind_in c.self.inside.book) (shown_in c.self.inside.book) c.args.query)) c.in-Some.is c.in_ok-gathered.ensures.found

-- the items found, over the held book
facts : (g : Over) (c : In_ok-signature g) → FoundFacts (charted_in c.self.inside.book).parts (shown_in c.self.inside.book) c.in-Some.found
facts g c =
    let kind = (kind_in c.self.inside.book) in
    let parts = (charted_in c.self.inside.book).parts in
    let s = c.self.inside.settings in
    let b = shown_in c.self.inside.book in
    let book : IsBookOf kind parts s c.self.inside.order.ids b = subst (λ (o : List ℕ). IsBookOf kind parts s o b) (sym c.self.invariant.planned.order_is) c.self.invariant.planned.is_book.book in
    gathered_facts kind parts s c.self.inside.order.ids b c.args.query c.in-Some.found (c.method_laws.ensures.known kind) (c.method_laws.ensures.known_apart kind) c.self.invariant.planned.is_map c.self.invariant.planned.lists book (brought_found g c)

pub bring-requires-clause-distinct : goal.bring-requires-clause-distinct
bring-requires-clause-distinct g c = subst (λ (ids : List ℕ). IsDistinct nat_eq ids) (sym c.as_slice-2.ensures) (facts g (goal.at.bring-requires-clause-distinct g c).In_ok-signature).distinct

pub bring-requires-clause-known : goal.bring-requires-clause-known
bring-requires-clause-known g c =
    subst (λ (ids : List ℕ). All (Knows c.args.self.now.map.parts) ids) (sym c.as_slice-2.ensures)
    (subst (λ (k : Kept). All (Knows k.map.parts) c.in-Some.found.nodes) c.self.view_is (facts g (goal.at.bring-requires-clause-known g c).In_ok-signature).all_known)

pub pairs_brought-requires : goal.pairs_brought-requires
pairs_brought-requires g c =
    let i = c.self.inside in
    let pairs = (shown_in i.book).pairs in
    record {
      rising = subst (λ (ps : List PairLeaf). IsRising (length ps) c.as_slice-chosen.result.now) (sym c.pairs.ensures)
          (subst (λ (places : List ℕ). IsRising (length pairs) places) (sym c.as_slice-chosen.ensures) (facts g (goal.at.pairs_brought-requires g c).In_ok-signature).pairs);
      ids = subst (λ (ps : List PairLeaf). All (λ p. p.a < p.b) ps) (sym c.pairs.ensures) c.self.invariant.planned.fits.pairs_rise;
      whole = ap count_in (c.as_ref.ensures.value ∙ c.self.invariant.pairs_are) ∙ count_either i.settings.fan (pair_texts pairs) ∙ length-map pairs pair_leaf.spell ∙ ap (λ (ps : List PairLeaf). length ps) (sym c.pairs.ensures);
    }

-- the node leaves at the indices
abbrev leaves : (g : Over) (c : After-numbers_fit g) → List NodeLeaf
leaves g c = leaves_of (shown_in c.self.inside.book) (ids_at c.self.inside.order.ids c.in_ok-nodes.nodes.places)

-- the answer, and the answer as it is written with the copy of the signature
abbrev placed : (g : Over) (c : After-numbers_fit g) → List ℕ → PlacedAnswer
placed g c signature = placed_of c.header-header.result signature c.in-Some.found c.in_ok-nodes.nodes c.in_ok-pairs.pairs

abbrev whole : (g : Over) (c : After-numbers_fit g) → answers.Answer
whole g c = with_leaves (placed g c c.args.self.now.signature) (leaves g c)

-- the ids of the order are those of the book
lists : (g : Over) (c : After-numbers_fit g) → IsOrderOf (shown_in c.self.inside.book).parts c.self.inside.order.ids
lists g c =
    let i = c.self.inside in
    (shown (kind_in i.book) (charted_in i.book) i.settings i.order.ids i.order.places.items (shown_in i.book) c.self.invariant.planned).lists

-- the indices of the nodes that were found are taken
nodes_brought : (g : Over) (c : After-numbers_fit g) → AreBrought g.H.Hasher.hash (kept_as (charted_in c.self.inside.book) c.self.inside.settings c.self.inside.order.ids (shown_in c.self.inside.book) c.self.inside.signature) c.in-Some.found.nodes c.in_ok-nodes.nodes
nodes_brought g c =
    subst (λ (k : Kept). AreBrought g.H.Hasher.hash k c.in-Some.found.nodes c.in_ok-nodes.nodes) (sym c.self.view_is)
    (subst (λ (ids : List ℕ). AreBrought g.H.Hasher.hash c.args.self.now ids c.in_ok-nodes.nodes) c.as_slice-2.ensures c.in_ok-nodes.ensures)

brought : (g : Over) (c : After-numbers_fit g) → IsRising (length (shown_in c.self.inside.book).pairs) c.in-Some.found.pairs → IsBrought g.H.Hasher.hash (kind_in c.self.inside.book) c.self.inside.settings c.self.inside.order.ids (shown_in c.self.inside.book) c.in-Some.found (whole g c)
brought g c pairs_rise =
    let hash = g.H.Hasher.hash in
    let i = c.self.inside in
    let kind = kind_in i.book in
    let b = shown_in i.book in
    let n = nodes_brought g c in
    let p = c.in_ok-pairs.ensures in
    let chosen = c.as_slice-chosen.ensures in
    record {
      header = c.header-header.ensures ∙ ap (λ (k : Kept). header_in hash k) (sym c.self.view_is);
      version = c.version_fits.ensures;
      signature = c.requires;
      route = refl;
      ids = subst (λ (xs : List ℕ). All (λ n. n < 2 ^ 32) xs) c.as_slice-3.ensures c.numbers_fit.ensures;
      rising = n.rising;
      node_places = n.small;
      moved = n.same;
      nodes = refl;
      leaves = all_at (node_leaf (kind_of_leaves kind b.numbers)).Fits b i.order.ids c.in_ok-nodes.nodes.places (lists g c) (nodes_brought g c).rising c.self.invariant.spelled;
      pair_places = p.places ∙ chosen;
      pair_numbers = subst (λ (xs : List ℕ). All (λ n. n < 2 ^ 32) xs) (p.places ∙ chosen) p.small;
      pairs = p.pairs ∙ ap (λ (ps : List PairLeaf). filter_map (slice_get ps) c.as_slice-chosen.result.now) c.pairs.ensures ∙ ap (filter_map (slice_get b.pairs)) chosen;
      one_each = p.one_each ∙ ap (λ (xs : List ℕ). length xs) chosen;
      pair_leaves = p.fit;
      node_cover = n.cover;
      pair_cover = p.cover ∙ ap (λ (o : Option Leaves). cover_in hash o c.as_slice-chosen.result.now) (c.as_ref.ensures.value ∙ c.self.invariant.pairs_are) ∙ ap (cover_in hash (leaves_in i.settings.fan (pair_texts b.pairs))) chosen
          ∙ cover_either hash i.settings.fan (pair_texts b.pairs) c.in-Some.found.pairs (subst (λ n. IsRising n c.in-Some.found.pairs) (sym (length-map b.pairs pair_leaf.spell)) pairs_rise);
    }

-- the held book
served : (g : Over) (c : After-numbers_fit g) → IsServed g.H.Hasher.hash (kind_in c.self.inside.book) (charted_in c.self.inside.book).parts c.self.inside.settings c.self.inside.order.ids (shown_in c.self.inside.book)
served g c =
    let i = c.self.invariant.planned in
    record {
      size = g.met.H.Hasher.size;
      is_map = i.is_map;
      same = i.is_book.book.of_parts;
      lists = i.lists;
      fits = i.fits;
      method = i.is_book.method;
      range = in_range (charted_in c.self.inside.book).parts c.self.inside.settings i.allowed;
    }

-- the answer has an encoding
fits : (g : Over) (c : After-numbers_fit g) → FoundFacts (charted_in c.self.inside.book).parts (shown_in c.self.inside.book) c.in-Some.found → IsBrought g.H.Hasher.hash (kind_in c.self.inside.book) c.self.inside.settings c.self.inside.order.ids (shown_in c.self.inside.book) c.in-Some.found (whole g c) → reply.Fits (reply_of (whole g c))
fits g c known br =
    (c.range_laws.ensures.answer (whole g c)).1
    (answer_good g.H.Hasher.hash (kind_in c.self.inside.book) (charted_in c.self.inside.book).parts c.self.inside.settings c.self.inside.order.ids (shown_in c.self.inside.book) c.in-Some.found (whole g c) (served g c) known br)

-- the texts that the book holds are those of its leaves
told : (g : Over) (c : After-numbers_fit g) (texts : List (List ℕ)) → texts ≡ c.self.inside.nodes.texts → reply.Fits (reply_of (whole g c)) → HasLeaves (placed g c c.args.self.now.signature) texts (leaves g c)
told g c texts are ok =
    has_leaves (placed g c c.args.self.now.signature) texts (shown_in c.self.inside.book) c.self.inside.order.ids (lists g c) (are ∙ ap (λ (l : Leaves). l.texts) c.self.invariant.nodes_are) (nodes_brought g c).rising ok

signed : (g : Over) (c : After-numbers_fit g) → c.in_ok-signature.signature ≡ c.args.self.now.signature
signed g c = c.in_ok-signature.ensures ∙ c.as_slice.ensures ∙ ap (λ (k : Kept). k.signature) c.self.view_is

pub answer_with-requires : goal.answer_with-requires
answer_with-requires g c =
    let e = (goal.at.answer_with-requires g c).After-numbers_fit in
    let f = facts g (goal.at.answer_with-requires g c).In_ok-signature in (
      leaves g e,
      subst (λ (s : List ℕ). HasLeaves (placed g e s) c.texts-texts.result.now (leaves g e)) (sym (signed g e)) (told g e c.texts-texts.result.now c.texts-texts.ensures.texts (fits g e f (brought g e f.pairs))),
    )

pub returns-clause-honest : goal.returns-clause-honest
returns-clause-honest g c =
    let e = (goal.at.returns-clause-honest g c).After-numbers_fit in
    let f = (goal.at.returns-clause-honest g c).In_ok-signature in
    let hash = g.H.Hasher.hash in
    let kind = (kind_in c.self.inside.book) in
    let b = shown_in c.self.inside.book in
    let s = c.self.inside.settings in
    let order = c.self.inside.order.ids in
    let br = brought g e (facts g f).pairs in
    let ok = fits g e (facts g f) br in
    let p : Publication = publication_in hash (kept_as (charted_in c.self.inside.book) s order b c.self.inside.signature) in
    let says = is_reply hash kind s order b p c.args.query c.in-Some.found (whole g e) refl (sym (ap (λ (k : Kept). k.signature) c.self.view_is)) (brought_found g f) (facts g f).distinct br in
    let leaves_told = subst (λ (s : List ℕ). HasLeaves (placed g e s) c.texts-texts.result.now (leaves g e)) (sym (signed g e)) (told g e c.texts-texts.result.now c.texts-texts.ensures.texts ok) in
    IfOk-weaker c.answer_with.result (λ v. v.items ≡ reply.spell (reply_of (with_leaves (placed g e c.in_ok-signature.signature) (leaves g e)))) (λ v. IsHonest hash sha256 (publication_in hash c.args.self.now) c.args.query v.items) (λ v is.
    subst (λ (k : Kept). IsHonest hash sha256 (publication_in hash k) c.args.query v.items) c.self.view_is
    (record {
      kind = kind;
      book = b;
      is_book = c.self.invariant.planned.is_book;
      reply = reply_of (whole g e);
      says = subst (λ (o : List ℕ). Replies hash kind o b p c.args.query (reply_of (whole g e))) c.self.invariant.planned.order_is says;
      fits = ok;
      spelled = is ∙ ap (λ (s : List ℕ). reply.spell (reply_of (with_leaves (placed g e s) (leaves g e)))) (signed g e);
    })) (c.answer_with.ensures (leaves g e) leaves_told)

pub returns-clause-short : goal.returns-clause-short
returns-clause-short g c =
    let e = (goal.at.returns-clause-short g c).After-numbers_fit in
    let f = facts g (goal.at.returns-clause-short g c).In_ok-signature in
    let br = brought g e f.pairs in
    let leaves_told = subst (λ (s : List ℕ). HasLeaves (placed g e s) c.texts-texts.result.now (leaves g e)) (sym (signed g e)) (told g e c.texts-texts.result.now c.texts-texts.ensures.texts (fits g e f br)) in
    let few = answer_short g.H.Hasher.hash (kind_in c.self.inside.book) (charted_in c.self.inside.book).parts c.self.inside.settings c.self.inside.order.ids (shown_in c.self.inside.book) c.in-Some.found (whole g e) (served g e) f br in
    IfOk-weaker c.answer_with.result (λ v. v.items ≡ reply.spell (reply_of (with_leaves (placed g e c.in_ok-signature.signature) (leaves g e)))) (λ v. length v.items < 2 ^ 32 - 16) (λ v is.
    omega (arith, few, ap (λ (xs : List ℕ). length xs) (is ∙ ap (λ (s : List ℕ). reply.spell (reply_of (with_leaves (placed g e s) (leaves g e)))) (signed g e))))
    (c.answer_with.ensures (leaves g e) leaves_told)
