-- Honest replies are right.
use Rattle.std.proofs.Common.{◌≡◌, ℕ, List, inl, inr, Result, Ok, refl, sym, ap, subst, arith, ◌∙◌}
use Rattle.std.proofs.lemmas.List.{length-map}
use Rattle.octet_text.specs.Format.{whole}
use Rattle.octet_text.proofs.Fields.{whole_again}
use Rattle.road_map.specs.declared.parts.Parts.{Parts}
use Rattle.road_map.specs.Maps.{IsMap}
use Rattle.book_model.specs.declared.items.Query.{Query}
use Rattle.book_model.specs.declared.settings.Settings.{Settings}
use Rattle.book_model.specs.Books.{Kind, Book, leaves_of, leaf_order}
use Rattle.lms_tree.specs.declared.links.Link.{Link}
use Rattle.merkle_cover.specs.Covers.{IsRising, cover_of}
use Rattle.proof_method.specs.declared.found.Found.{Found}
use Rattle.proof_method.specs.Apart.{IsFoundApart}
use Rattle.proof_method.specs.Gathering.{IsAuthentic, IsFound, IsFirstUnknown}
use Rattle.proof_octets.specs.declared.header.Header.{Header}
use Rattle.proof_octets.specs.declared.publication.Publication.{Publication}
use Rattle.proof_octets.specs.declared.reply.Answer as answers
use Rattle.proof_octets.specs.declared.reply.Reply.{Reply}
use Rattle.proof_octets.specs.declared.reply.Reply.TheVariants as replies
use Rattle.proof_octets.specs.Replies as formats
use Rattle.proof_octets.proofs.FormatLaws.{reply_exact}
use Rattle.route_server.specs.Headers.{node_texts, pair_texts, book_header, header_of, HasHeader, IsBook}
use Rattle.route_server.specs.Honesty.{ids_at, Replies}
use Rattle.route_audit.specs.Evidence.{IsTreesOwn, IsOwn, node_part, pair_part}
use Rattle.route_audit.specs.Routes.{SpellsAnswer, routes}
use Rattle.route_audit.proofs.RouteLemmas.{accepts_as}
use Rattle.near_proof.specs.Honest.{AreKnown, AreAccepted, AnswersAreAccepted}
use Rattle.near_proof.proofs.Honest.{MethodLaws, Over, all_known, node_count, pairs_rising, pairs_chosen}
use Rattle.near_proof.proofs.Chosen.{node_texts_chosen}
use Rattle.near_proof.proofs.Ordered.{is_order}
use Rattle.proof_octets.specs.declared.near_reply.NearReply.{NearReply}
use Rattle.proof_octets.specs.NearReplies.{near_reply}
use Rattle.proof_octets.proofs.NearFormat.{near_exact}
use Rattle.route_audit.specs.NearEvidence as near_evidence
use Rattle.near_proof.specs.NearLaws.{NearRepliesAreAccepted}
use Rattle.near_proof.specs.Right.{AreRight, HonestRepliesAreRight, HonestReachesAreRight}
use Rattle.near_proof.proofs.NearHonest as near

abbrev pub OneHeader : Type 0
OneHeader = (hash sha : List ℕ → List ℕ) (parts : Parts) (s : Settings) (h j : Header) → HasHeader hash sha parts s h → HasHeader hash sha parts s j → h ≡ j

-- the header of a publication is that of each of its books
own_header : OneHeader → (hash sha : List ℕ → List ℕ) (p : Publication) (kind : Kind) (b : Book) → HasHeader hash sha p.parts p.settings p.header → IsBook sha p.parts p.settings kind b
    → p.header ≡ book_header hash p.settings (leaf_order sha p.parts p.settings) b
own_header one hash sha p kind b has is =
    one hash sha p.parts p.settings p.header (book_header hash p.settings (leaf_order sha p.parts p.settings) b) has
    (record { is_map = has.is_map; allowed = has.allowed; kind = kind; book = b; is_book = is; is = refl })

-- and it has the fan-out of its settings
own_fan : (hash : List ℕ → List ℕ) (p : Publication) (order : List ℕ) (b : Book) → p.header ≡ book_header hash p.settings order b → p.header.fan ≡ p.settings.fan
unfolding header_of
own_fan hash p order b is = ap (λ (h : Header). h.fan) is

-- ---- routes

module _ (hash sha : List ℕ → List ℕ) (p : Publication) (q : Query) (kind : Kind) (b : Book) (IsGathered : Found → Type 0) (a : answers.Answer) (over : Over hash sha p q kind b IsGathered a) (laws : MethodLaws) (is_book : IsBook sha p.parts p.settings kind b)
    (fan : p.header.fan ≡ p.settings.fan) where
  nodes_own : IsTreesOwn hash (node_part sha p b a)
  nodes_own =
      let order = leaf_order sha p.parts p.settings in
      record {
        rising = subst (λ (n : ℕ). IsRising n a.node_places) (sym (node_count hash sha p q kind b IsGathered a over)) over.answer.rising;
        texts = ap node_texts over.answer.brings.nodes ∙ node_texts_chosen b order a.node_places (all_known hash sha p q kind b IsGathered a over) over.answer.rising.below;
        cover = over.answer.node_cover ∙ ap (λ (f : ℕ). cover_of hash (node_texts (leaves_of b order)) f a.node_places) fan;
      }

  pairs_own : IsTreesOwn hash (pair_part p b a)
  pairs_own = record {
    rising = subst (λ (n : ℕ). IsRising n a.pair_places) (sym (length-map b.pairs _)) (pairs_rising hash sha p q kind b IsGathered a over laws);
    texts = pairs_chosen hash sha p q kind b IsGathered a over laws;
    cover = over.answer.pair_cover ∙ ap (λ (f : ℕ). cover_of hash (pair_texts b.pairs) f a.pair_places) fan;
  }

  own : IsOwn hash sha p a
  own = record { kind = kind; book = b; is_book = is_book; nodes = nodes_own; pairs = pairs_own }

  -- the accepted result is right
  right_of : (first : List ℕ) (links : List Link) (octets : List ℕ) → AreAccepted hash first links octets q 0 p.parts → SpellsAnswer octets a → IsAuthentic b a.items → AreRight routes hash sha first links octets q p
  unfolding own
  right_of first links octets taken spelled authentic = record {
    taken = taken.accepted;
    answer = a;
    accepts = accepts_as hash first links octets q taken.accepted a taken.accepts spelled;
    header = over.answer.header;
    right = record { own = own; authentic = authentic; holds = taken.holds };
  }

both_known : (parts : Parts) (q : Query) (id : ℕ) → AreKnown parts q → IsFirstUnknown parts q id → ⊥
both_known parts q id known (inl h) = h.1 known.from
both_known parts q id known (inr h) = h.2 known.to

by_reply : (hash sha : List ℕ → List ℕ) (first : List ℕ) (links : List Link) (octets : List ℕ) (p : Publication) (q : Query) (kind : Kind) (b : Book) (r : Reply)
    → AreAccepted hash first links octets q 0 p.parts → AreKnown p.parts q → IsMap p.parts → IsBook sha p.parts p.settings kind b → p.header ≡ book_header hash p.settings (leaf_order sha p.parts p.settings) b → MethodLaws
    → Replies hash kind (leaf_order sha p.parts p.settings) b p q r → formats.reply.Fits r → octets ≡ formats.reply.spell r → AreRight routes hash sha first links octets q p
by_reply hash sha first links octets p q kind b (replies.Answer a) taken known is_map book header laws says fits spelled =
    let order = leaf_order sha p.parts p.settings in
    let over : Over hash sha p q kind b (IsFound kind b q says.0) a
    = record { is_map = is_map; lists = is_order sha p.parts p.settings is_map; book = book.book; method = book.method; header = says.1.header ∙ header; answer = says.1; gathers = λ f is. inl (says.0, is) } in
    let gathered = laws.gathered kind p.parts p.settings order (ids_at order a.node_places) b q says.0 says.1.found a.items is_map over.lists over.book says.1.gathered says.1.brings in
    right_of hash sha p q kind b (IsFound kind b q says.0) a over laws book (own_fan hash p order b header) first links octets taken
    (inl (ap (whole formats.reply) spelled ∙ whole_again formats.reply reply_exact (replies.Answer a) fits)) gathered.authentic
by_reply hash sha first links octets p q kind b replies.UnknownNode taken known is_map book header laws says fits spelled =
    absurd (both_known p.parts q says.0 known (subst (λ (ps : Parts). IsFirstUnknown ps q says.0) book.book.of_parts says.1))
by_reply hash sha first links octets p q kind b replies.NoRoute taken known is_map book header laws says fits spelled = absurd says
by_reply hash sha first links octets p q kind b (replies.Apart a) taken known is_map book header laws says fits spelled =
    let order = leaf_order sha p.parts p.settings in
    let over : Over hash sha p q kind b (IsFoundApart kind b q) a
    = record { is_map = is_map; lists = is_order sha p.parts p.settings is_map; book = book.book; method = book.method; header = says.header ∙ header; answer = says; gathers = λ f is. inr is } in
    let gathered = laws.gathered_apart kind p.parts p.settings order (ids_at order a.node_places) b q says.found a.items is_map over.lists over.book says.gathered says.brings in
    right_of hash sha p q kind b (IsFoundApart kind b q) a over laws book (own_fan hash p order b header) first links octets taken
    (inr (ap (whole formats.reply) spelled ∙ whole_again formats.reply reply_exact (replies.Apart a) fits)) gathered.authentic

pub replies_right : OneHeader → MethodLaws → AnswersAreAccepted → HonestRepliesAreRight
replies_right one laws accepted hash sha key first links octets p q signed leads known honest =
    by_reply hash sha first links octets p q honest.kind honest.book honest.reply (accepted hash sha key first links octets p q 0 signed leads (omega arith) known honest) known signed.header.is_map honest.is_book
    (own_header one hash sha p honest.kind honest.book signed.header honest.is_book) laws honest.says honest.fits honest.spelled

-- ---- radii

same_reply : (read : Result NearReply ℕ) (a b : NearReply) → read ≡ Ok a → read ≡ Ok b → a ≡ b
same_reply read a b one two = cc

pub reaches_right : OneHeader → NearRepliesAreAccepted → HonestReachesAreRight
reaches_right one accepted hash sha key first links octets p q signed leads honest =
    let order = leaf_order sha p.parts p.settings in
    let b = honest.book in
    let a = honest.reply in
    let has = signed.header in
    let header = own_header one hash sha p honest.kind b has honest.is_book in
    let over : near.Over hash sha p q honest.kind b a
    = record { is_map = has.is_map; lists = is_order sha p.parts p.settings has.is_map; book = honest.is_book.book; header = honest.says.header ∙ header; known = honest.known; reply = honest.says } in
    let taken = accepted hash sha key first links octets p q 0 signed leads (omega arith) honest in
    let spelled : whole near_reply octets ≡ Ok a = ap (whole near_reply) honest.spelled ∙ whole_again near_reply near_exact a honest.fits in
    let nodes : IsTreesOwn hash (near_evidence.near_part sha p b a)
    = record {
      rising = subst (λ (n : ℕ). IsRising n a.places) (sym (near.node_count hash sha p q honest.kind b a over)) over.reply.rising;
      texts = ap node_texts over.reply.nodes ∙ node_texts_chosen b order a.places (near.all_known hash sha p q honest.kind b a over) over.reply.rising.below;
      cover = over.reply.cover ∙ ap (λ (f : ℕ). cover_of hash (node_texts (leaves_of b order)) f a.places) (own_fan hash p order b header);
    } in
    record {
      taken = taken.accepted;
      answer = a;
      accepts = record { accepts = taken.accepts; is = same_reply (whole near_reply octets) taken.accepts.reply a taken.accepts.spelled spelled };
      header = honest.says.header;
      right = record {
        own = record { kind = honest.kind; book = b; is_book = honest.is_book; nodes = nodes };
        authentic = near.own hash sha p q honest.kind b a over;
        within = taken.within;
      };
    }
