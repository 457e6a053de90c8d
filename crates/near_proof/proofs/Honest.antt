-- Honest replies are accepted, or state that an end is unknown.
use Rattle.std.proofs.Common.{◌≡◌, ◌≢◌, ℕ, ◌≤◌, ◌⊎◌, inl, inr, Some, List, [], ◌∷◌, length, map, slice_get, Result, Ok, Err, refl, sym, ap, subst, ◌∙◌}
use Rattle.std.specs.List.{Contains, filter_map}
use Rattle.std.proofs.lemmas.List.{length-map}
use Rattle.octet_text.specs.Format.{whole}
use Rattle.octet_text.proofs.Fields.{whole_again}
use Rattle.road_map.proofs.Among.{Contains-none, Contains-here, Contains-cases}
use Rattle.road_map.specs.declared.parts.Parts.{Parts}
use Rattle.road_map.specs.Walks.{Knows}
use Rattle.road_map.specs.Maps.{IsMap}
use Rattle.road_leaf.specs.Leaves.{node_leaf_text, pair_leaf}
use Rattle.book_model.specs.declared.settings.Settings.{Settings}
use Rattle.book_model.specs.declared.items.Query.{Query}
use Rattle.book_model.specs.Books.{Kind, Book, kind_of, leaves_of, leaf_order, IsBookOf}
use Rattle.lms_tree.specs.declared.links.Link.{Link}
use Rattle.lms_tree.specs.declared.seals.SealError.{SealError}
use Rattle.lms_tree.specs.Chains.{or_else, verified_along}
use Rattle.lms_tree.specs.Signatures.{verified}
use Rattle.merkle_cover.specs.Covers.{IsRising, chosen_texts, cover_of}
use Rattle.proof_method.specs.declared.found.Found.{Found}
use Rattle.proof_judge.specs.Judgement.{Judged}
use Rattle.proof_judge.specs.Apart.{JudgedApart}
use Rattle.proof_method.specs.Gathering.{IsOrderOf, IsFound, AreUnjoined, IsFirstUnknown}
use Rattle.proof_method.specs.Apart.{IsFoundApart}
use Rattle.proof_method.specs.Laws.{IsComplete, BringsAll, FindsKnown, IsCompleteApart, BringsAllApart, FindsKnownApart}
use Rattle.proof_octets.specs.declared.header.Header.{Header}
use Rattle.proof_octets.specs.declared.publication.Publication.{Publication}
use Rattle.proof_octets.specs.declared.reply.Answer as answers
use Rattle.proof_octets.specs.declared.reply.Reply.{Reply}
use Rattle.proof_octets.specs.declared.reply.Reply.TheVariants as replies
use Rattle.proof_octets.specs.Headers.{header_text}
use Rattle.proof_octets.specs.Replies as formats
use Rattle.proof_octets.proofs.FormatLaws.{reply_exact}
use Rattle.route_server.specs.Headers.{root_or_zeros, node_texts, pair_texts, book_header, header_of, HasHeader, IsBook, Makes}
use Rattle.route_server.specs.declared.errors.BuildError.{BuildError}
use Rattle.route_server.specs.declared.errors.BuildError.TheVariants as build
use Rattle.route_server.specs.Honesty.{ids_at, Gathers, IsAnswer, Replies}
use Rattle.route_server.proofs.Answering.{gathered_facts}
use Rattle.route_server.proofs.Known.{length-leaves_of}
use Rattle.route_client.specs.declared.accepted.Accepted.{Accepted}
use Rattle.route_client.specs.declared.accepted.Checked.{Checked}
use Rattle.route_client.specs.declared.accepted.Checked.TheVariants.{Route, Apart}
use Rattle.route_client.specs.declared.errors.CheckError.TheVariants.{NotAnswer}
use Rattle.route_client.specs.Truth.{HoldsIn}
use Rattle.route_client.specs.Verdicts.{nodes_covered, pairs_covered, passed, reply_by, Says, IsVerdict}
use Rattle.near_proof.specs.Honest.{IsSigned, keys_along, Leads, AreKnown, AreAccepted, AnswersAreAccepted, UnknownNodesAreTold}
use Rattle.near_proof.proofs.Chosen.{node_texts_chosen, pair_texts_chosen, is_covered}
use Rattle.near_proof.proofs.Ordered.{is_order, has_vectors}
use Rattle.octet_text.specs.Want.{no_memory}

-- the laws of every method that are used for honest replies
pub record MethodLaws : Type 0 where
  pub complete : (k : Kind) → IsComplete k
  pub gathered : (k : Kind) → BringsAll k
  pub known : (k : Kind) → FindsKnown k
  pub complete_apart : (k : Kind) → IsCompleteApart k
  pub gathered_apart : (k : Kind) → BringsAllApart k
  pub known_apart : (k : Kind) → FindsKnownApart k

-- the known facts about an honest answer: the book, and its header
pub record Over (hash sha : List ℕ → List ℕ) (p : Publication) (q : Query) (kind : Kind) (b : Book) (IsGathered : Found → Type 0) (a : answers.Answer) : Type 0 where
  pub is_map : IsMap p.parts
  pub lists : IsOrderOf p.parts (leaf_order sha p.parts p.settings)
  pub book : IsBookOf kind p.parts p.settings (leaf_order sha p.parts p.settings) b
  pub method : kind_of p.settings.method ≡ Some kind
  pub header : a.header ≡ book_header hash p.settings (leaf_order sha p.parts p.settings) b
  pub answer : IsAnswer hash IsGathered (leaf_order sha p.parts p.settings) b p a
  pub gathers : (f : Found) → IsGathered f → Gathers kind b q f

module _ (hash sha : List ℕ → List ℕ) (p : Publication) (q : Query) (kind : Kind) (b : Book) (IsGathered : Found → Type 0) (a : answers.Answer) (over : Over hash sha p q kind b IsGathered a) where
  pub all_known : (id : ℕ) → Contains (leaf_order sha p.parts p.settings) id → Knows b.parts id
  all_known id h = subst (λ (ps : Parts). Knows ps id) (sym over.book.of_parts) ((over.lists.same id).0 h)

  pub node_count : length (node_texts (leaves_of b (leaf_order sha p.parts p.settings))) ≡ length (leaf_order sha p.parts p.settings)
  node_count =
      length-map (leaves_of b (leaf_order sha p.parts p.settings)) _ ∙ length-leaves_of b (leaf_order sha p.parts p.settings) all_known

  nodes_fold : nodes_covered hash a ≡ Ok tt
  unfolding nodes_covered header_of
  nodes_fold =
      let order = leaf_order sha p.parts p.settings in
      let fan : p.header.fan ≡ a.header.fan = ap (λ (h : Header). h.fan) (sym over.answer.header) in
      let same : a.header.fan ≡ p.settings.fan = ap (λ (h : Header). h.fan) over.header in
      is_covered hash 1 a.header.fan a.header.nodes (node_texts (leaves_of b order)) (map node_leaf_text a.items.nodes) a.node_cover a.node_places a.header.node_root
      (ap (λ (h : Header). h.nodes) over.header ∙ sym (length-map (leaves_of b order) _))
      (ap node_texts over.answer.brings.nodes ∙ node_texts_chosen b order a.node_places all_known over.answer.rising.below)
      (over.answer.node_cover ∙ ap (λ (f : ℕ). cover_of hash (node_texts (leaves_of b order)) f a.node_places) fan)
      (subst (λ (n : ℕ). IsRising n a.node_places) (sym node_count) over.answer.rising)
      (ap (λ (h : Header). h.node_root) over.header ∙ ap (λ (f : ℕ). root_or_zeros hash f (node_texts (leaves_of b order))) (sym same))

  -- the indices of pairs ascend, and the reply has their leaves
  pub pairs_rising : MethodLaws → IsRising (length b.pairs) a.pair_places
  pairs_rising laws =
      let order = leaf_order sha p.parts p.settings in
      let facts = gathered_facts kind p.parts p.settings order b q over.answer.found (laws.known kind) (laws.known_apart kind) over.is_map over.lists over.book (over.gathers over.answer.found over.answer.gathered) in
      subst (IsRising (length b.pairs)) (sym over.answer.pair_places) facts.pairs

  pub pairs_chosen : MethodLaws → pair_texts a.items.pairs ≡ chosen_texts (pair_texts b.pairs) a.pair_places
  pairs_chosen laws =
      let chosen : a.items.pairs ≡ filter_map (slice_get b.pairs) a.pair_places = over.answer.brings.pairs ∙ ap (filter_map (slice_get b.pairs)) (sym over.answer.pair_places) in
      let rising = pairs_rising laws in
      ap pair_texts chosen ∙ pair_texts_chosen b.pairs a.pair_places rising.below

  pairs_fold : MethodLaws → pairs_covered hash a ≡ Ok tt
  unfolding pairs_covered header_of
  pairs_fold laws =
      let fan : p.header.fan ≡ a.header.fan = ap (λ (h : Header). h.fan) (sym over.answer.header) in
      let same : a.header.fan ≡ p.settings.fan = ap (λ (h : Header). h.fan) over.header in
      is_covered hash 2 a.header.fan a.header.pairs (pair_texts b.pairs) (map pair_leaf.spell a.items.pairs) a.pair_cover a.pair_places a.header.pair_root
      (ap (λ (h : Header). h.pairs) over.header ∙ sym (length-map b.pairs _))
      (pairs_chosen laws)
      (over.answer.pair_cover ∙ ap (λ (f : ℕ). cover_of hash (pair_texts b.pairs) f a.pair_places) fan)
      (subst (λ (n : ℕ). IsRising n a.pair_places) (sym (length-map b.pairs _)) (pairs_rising laws))
      (ap (λ (h : Header). h.pair_root) over.header ∙ ap (λ (f : ℕ). root_or_zeros hash f (pair_texts b.pairs)) (sym same))

  same_numbers : a.header.numbers ≡ b.numbers
  unfolding header_of
  same_numbers = ap (λ (h : Header). h.numbers) over.header

  same_method : kind_of a.header.method ≡ Some kind
  unfolding header_of
  same_method = ap (λ (h : Header). kind_of h.method) over.header ∙ over.method

  book_map : IsMap b.parts
  book_map = subst IsMap (sym over.book.of_parts) over.is_map

is_judged : (hash sha : List ℕ → List ℕ) (p : Publication) (q : Query) (kind : Kind) (b : Book) (d : ℕ) (a : answers.Answer) (over : Over hash sha p q kind b (IsFound kind b q d) a) → HasHeader hash sha p.parts p.settings p.header
    → MethodLaws → Judged kind a.header.numbers a.items q (Ok d)
is_judged hash sha p q kind b d a over has laws =
    let order = leaf_order sha p.parts p.settings in
    let gathered = laws.gathered kind p.parts p.settings order (ids_at order a.node_places) b q d over.answer.found a.items over.is_map over.lists over.book over.answer.gathered over.answer.brings in
    let vectors = has_vectors sha p.parts p.settings kind b over.is_map has.allowed (record { method = over.method; book = over.book }) in
    rw (same_numbers hash sha p q kind b (IsFound kind b q d) a over) (laws.complete kind b a.items q d (book_map hash sha p q kind b (IsFound kind b q d) a over) vectors gathered)

is_apart : (hash sha : List ℕ → List ℕ) (p : Publication) (q : Query) (kind : Kind) (b : Book) (a : answers.Answer) (over : Over hash sha p q kind b (IsFoundApart kind b q) a) → HasHeader hash sha p.parts p.settings p.header
    → MethodLaws → JudgedApart kind a.header.numbers a.items q (Ok tt)
is_apart hash sha p q kind b a over has laws =
    let order = leaf_order sha p.parts p.settings in
    let gathered = laws.gathered_apart kind p.parts p.settings order (ids_at order a.node_places) b q over.answer.found a.items over.is_map over.lists over.book over.answer.gathered over.answer.brings in
    let vectors = has_vectors sha p.parts p.settings kind b over.is_map has.allowed (record { method = over.method; book = over.book }) in
    rw (same_numbers hash sha p q kind b (IsFoundApart kind b q) a over) (laws.complete_apart kind b a.items q (book_map hash sha p q kind b (IsFoundApart kind b q) a over) vectors gathered)

-- without links a key leads to itself
pub leads_itself : (key : List ℕ) → Leads key [] key
leads_itself key = record { chain = refl; among = Contains-here key [] }

-- a text that verifies under one of the keys of a chain verifies along the chain
pub verified_among : (first : List ℕ) (links : List Link) (text signature key : List ℕ) → Contains (keys_along first links) key → verified key text signature ≡ Ok tt → verified_along first links text signature ≡ Ok tt
verified_among first [] text signature key among good =
    elim (Contains-cases first key [] among) [
      | inl is ↦ subst (λ k. verified k text signature ≡ Ok tt) (sym is) good
      | inr never ↦ absurd (Contains-none key never)
    ]
verified_among first (link ∷ links) text signature key among good =
    elim (Contains-cases first key (map (λ (l : Link). l.key) (link ∷ links)) among) [
      | inl is ↦ ap (λ r. or_else r (verified_along link.key links text signature)) (subst (λ k. verified k text signature ≡ Ok tt) (sym is) good)
      | inr behind ↦ or_last (verified first text signature) (verified_along link.key links text signature) (verified_among link.key links text signature key behind good)
    ]
  where
    or_last : (r rest : Result (Unit {0}) SealError) → rest ≡ Ok tt → or_else r rest ≡ Ok tt
    or_last (Ok u) rest is = refl
    or_last (Err why) rest is = is

-- the answer is accepted with its own content
accept_answer : (hash sha : List ℕ → List ℕ) (key first : List ℕ) (links : List Link) (octets : List ℕ) (p : Publication) (q : Query) (least : ℕ) (kind : Kind) (b : Book) (IsGathered : Found → Type 0) (a : answers.Answer) (x : Checked)
    → Over hash sha p q kind b IsGathered a → IsSigned hash sha key p → Leads first links key → least ≤ p.header.version → MethodLaws → Says kind a q x → HoldsIn p.parts q x → formats.reply.Fits (reply_by x a) → octets ≡ formats.reply.spell (reply_by x a)
    → AreAccepted hash first links octets q least p.parts
accept_answer hash sha key first links octets p q least kind b IsGathered a x over signed leads le laws says holds fits spelled =
    record {
      accepted = x;
      accepts = record {
        answer = a;
        spelled = ap (whole formats.reply) spelled ∙ whole_again formats.reply reply_exact (reply_by x a) fits;
        fresh = subst (λ (h : Header). least ≤ h.version) (sym over.answer.header) le;
        chain = leads.chain;
        signed = rw (over.answer.header, over.answer.signature) (verified_among first links (header_text p.header) p.signature key leads.among signed.signature);
        nodes = nodes_fold hash sha p q kind b IsGathered a over;
        pairs = pairs_fold hash sha p q kind b IsGathered a over laws;
        kind = kind;
        method = same_method hash sha p q kind b IsGathered a over;
        says = says;
      };
      holds = holds;
    }

-- ---- by the kind of the reply

both_known : (parts : Parts) (q : Query) (id : ℕ) → AreKnown parts q → IsFirstUnknown parts q id → ⊥
both_known parts q id known (inl h) = h.1 known.from
both_known parts q id known (inr h) = h.2 known.to

by_reply : (hash sha : List ℕ → List ℕ) (key first : List ℕ) (links : List Link) (octets : List ℕ) (p : Publication) (q : Query) (least : ℕ) (kind : Kind) (b : Book) (r : Reply)
    → IsSigned hash sha key p → Leads first links key → least ≤ p.header.version → AreKnown p.parts q → IsMap p.parts → IsBook sha p.parts p.settings kind b → p.header ≡ book_header hash p.settings (leaf_order sha p.parts p.settings) b → MethodLaws
    → Replies hash kind (leaf_order sha p.parts p.settings) b p q r → formats.reply.Fits r → octets ≡ formats.reply.spell r → AreAccepted hash first links octets q least p.parts
by_reply hash sha key first links octets p q least kind b (replies.Answer a) signed leads le known is_map book header laws says fits spelled =
    let answer = says.1 in
    let over : Over hash sha p q kind b (IsFound kind b q says.0) a
    = record { is_map = is_map; lists = is_order sha p.parts p.settings is_map; book = book.book; method = book.method; header = answer.header ∙ header; answer = answer; gathers = λ f is. inl (says.0, is) } in
    let x : Accepted = record { length = says.0; route = a.items.route; version = a.header.version; header = a.header } in
    accept_answer hash sha key first links octets p q least kind b (IsFound kind b q says.0) a (Route x) over signed leads le laws
    (record { judged = is_judged hash sha p q kind b says.0 a over signed.header laws; route = refl; version = refl; header = refl })
    (rw (answer.brings.route, ← book.book.of_parts) answer.gathered.shortest) fits spelled
by_reply hash sha key first links octets p q least kind b replies.UnknownNode signed leads le known is_map book header laws says fits spelled =
    absurd (both_known p.parts q says.0 known (subst (λ (ps : Parts). IsFirstUnknown ps q says.0) book.book.of_parts says.1))
by_reply hash sha key first links octets p q least kind b replies.NoRoute signed leads le known is_map book header laws says fits spelled = absurd says
by_reply hash sha key first links octets p q least kind b (replies.Apart a) signed leads le known is_map book header laws says fits spelled =
    let over : Over hash sha p q kind b (IsFoundApart kind b q) a
    = record { is_map = is_map; lists = is_order sha p.parts p.settings is_map; book = book.book; method = book.method; header = says.header ∙ header; answer = says; gathers = λ f is. inr is } in
    accept_answer hash sha key first links octets p q least kind b (IsFoundApart kind b q) a (Apart a.header.version a.header) over signed leads le laws
    (record { judged = is_apart hash sha p q kind b a over signed.header laws; version_is = refl; header_is = refl })
    (subst (λ (ps : Parts). AreUnjoined ps q) book.book.of_parts says.gathered.unjoined) fits spelled

unknown_reply : (hash : List ℕ → List ℕ) (kind : Kind) (order : List ℕ) (b : Book) (p : Publication) (q : Query) (r : Reply) → b.parts ≡ p.parts
    → (¬ Knows p.parts q.from) ⊎ (¬ Knows p.parts q.to) → Replies hash kind order b p q r → r ≡ replies.UnknownNode
unknown_reply hash kind order b p q (replies.Answer a) same (inl h) says = absurd (h (subst (λ (ps : Parts). Knows ps q.from) same says.1.gathered.shortest.known.0))
unknown_reply hash kind order b p q (replies.Answer a) same (inr h) says = absurd (h (subst (λ (ps : Parts). Knows ps q.to) same says.1.gathered.shortest.known.1))
unknown_reply hash kind order b p q replies.UnknownNode same h says = refl
unknown_reply hash kind order b p q replies.NoRoute same h says = absurd says
unknown_reply hash kind order b p q (replies.Apart a) same (inl h) says = absurd (h (subst (λ (ps : Parts). Knows ps q.from) same says.gathered.unjoined.0))
unknown_reply hash kind order b p q (replies.Apart a) same (inr h) says = absurd (h (subst (λ (ps : Parts). Knows ps q.to) same says.gathered.unjoined.1))

told_by : (hash : List ℕ → List ℕ) (key : List ℕ) (links : List Link) (octets : List ℕ) (q : Query) (least : ℕ) (r : Reply) → formats.reply.Fits r → octets ≡ formats.reply.spell r
    → r ≡ replies.UnknownNode → IsVerdict hash key links octets q least (Err (NotAnswer 1))
unfolding IsVerdict passed
told_by hash key links octets q least r fits spelled is =
    let read : whole formats.reply octets ≡ Ok replies.UnknownNode = ap (whole formats.reply) spelled ∙ whole_again formats.reply reply_exact r fits ∙ ap (λ (x : Reply). Ok x) is in
    rw read refl

pub unknown_told : UnknownNodesAreTold
unknown_told hash sha key links octets p q least unknown honest =
    told_by hash key links octets q least honest.reply honest.fits honest.spelled
    (unknown_reply hash honest.kind (leaf_order sha p.parts p.settings) honest.book p q honest.reply honest.is_book.book.of_parts unknown honest.says)

pub answers_accepted : ((hash sha : List ℕ → List ℕ) (parts : Parts) (s : Settings) (h j : Header) → HasHeader hash sha parts s h → HasHeader hash sha parts s j → h ≡ j) → MethodLaws → AnswersAreAccepted
answers_accepted one laws hash sha key first links octets p q least signed leads le known honest =
    let order = leaf_order sha p.parts p.settings in
    let has = signed.header in
    let own : HasHeader hash sha p.parts p.settings (book_header hash p.settings order honest.book)
    = record { is_map = has.is_map; allowed = has.allowed; kind = honest.kind; book = honest.book; is_book = honest.is_book; is = refl } in
    by_reply hash sha key first links octets p q least honest.kind honest.book honest.reply signed leads le known has.is_map honest.is_book
    (one hash sha p.parts p.settings p.header (book_header hash p.settings order honest.book) has own) laws honest.says honest.fits honest.spelled

same_ok : (h j : Header) → ◌≡◌ {A = Result Header BuildError} (Ok h) (Ok j) → h ≡ j
same_ok h j e = cc

-- there is at most one header, and at most one book
pub one_of : ((hash sha : List ℕ → List ℕ) (parts : Parts) (s : Settings) (v w : Result Header BuildError) → Makes hash sha parts s v → Makes hash sha parts s w → v ≢ Err (build.Memory no_memory) → w ≢ Err (build.Memory no_memory) → v ≡ w)
    → (hash sha : List ℕ → List ℕ) (parts : Parts) (s : Settings) (h j : Header) → HasHeader hash sha parts s h → HasHeader hash sha parts s j → h ≡ j
one_of law hash sha parts s h j has other = same_ok h j (law hash sha parts s (Ok h) (Ok j) has other (λ e. absurd cc) (λ e. absurd cc))
