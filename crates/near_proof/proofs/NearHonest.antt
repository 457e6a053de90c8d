-- The honest reply is accepted.
use Rattle.std.proofs.Common.{◌≡◌, ℕ, ◌+◌, ◌≤◌, ◌<◌, ◌==◌, Bool, true, false, cond, Option, None, Some, IsSome, List, [], ◌∷◌, length, map, count_by, nat_eq, Ok, refl, arith, sym, ap, subst, ◌∙◌}
use Rattle.std.specs.List.{Contains, IsDistinct, cons_option}
use Rattle.std.proofs.lemmas.List.{length-map}
use Rattle.std.proofs.lemmas.Map.Keys.{IsDistinct-head, IsDistinct-tail}
use Rattle.octet_text.specs.Format.{whole}
use Rattle.octet_text.proofs.Fields.{whole_again}
use Rattle.road_map.specs.declared.parts.Parts.{Parts}
use Rattle.road_map.specs.Walks.{Knows, Joins, distance}
use Rattle.road_map.specs.Laws.{DistanceLaws}
use Rattle.road_map.specs.Maps.{IsMap}
use Rattle.road_map.specs.Least.{IsLeast}
use Rattle.road_map.proofs.Among.{Contains-here, Contains-there}
use Rattle.road_search.specs.Passing.{Ways}
use Rattle.road_leaf.specs.declared.leaf.NodeLeaf.{NodeLeaf}
use Rattle.road_leaf.specs.Leaves.{node_leaf_text}
use Rattle.book_model.specs.declared.settings.Settings.{Settings}
use Rattle.book_model.specs.Books.{Kind, Book, leaf, leaves_of, leaf_order, IsBookOf}
use Rattle.merkle_cover.specs.Covers.{IsRising, cover_of}
use Rattle.lms_tree.specs.declared.links.Link.{Link}
use Rattle.proof_judge.specs.ItemWalks.{item_at, any_ways, StandsTwice}
use Rattle.proof_judge.proofs.Keys.{count-cons}
use Rattle.proof_method.specs.Gathering.{IsOrderOf}
use Rattle.proof_method.proofs.Along.{IsOfMap, Joins-known, reaches_joins}
use Rattle.proof_method.proofs.BookLaws.{leaf_true}
use Rattle.proof_method.proofs.Completes.{at_most, below_bound, no_item, not_both}
use Rattle.proof_method.proofs.Picks.{picked_from, picked_to, found_some, stands_once}
use Rattle.proof_method.proofs.RouteLaws.{have_arcs, items_of_map, leaf_id, roads_known}
use Rattle.proof_octets.specs.declared.header.Header.{Header}
use Rattle.proof_octets.specs.declared.publication.Publication.{Publication}
use Rattle.proof_octets.specs.Headers.{header_text}
use Rattle.route_server.specs.Headers.{root_or_zeros, node_texts, book_header, header_of, HasHeader}
use Rattle.route_server.specs.Honesty.{ids_at}
use Rattle.route_server.proofs.Known.{known_leaf, length-leaves_of}
use Rattle.near_proof.specs.Honest.{IsSigned, Leads}
use Rattle.near_proof.proofs.Honest.{verified_among}
use Rattle.near_proof.proofs.Chosen.{node_texts_chosen, is_covered}
use Rattle.near_proof.proofs.Ordered.{is_order}
use Rattle.proof_octets.specs.declared.marks.Mark.{Mark}
use Rattle.proof_octets.specs.declared.query.NearQuery.{NearQuery}
use Rattle.proof_octets.specs.declared.near_reply.NearReply.{NearReply}
use Rattle.proof_octets.specs.NearReplies.{near_reply}
use Rattle.proof_octets.specs.Radius.{IsWithin, IsNear, AreWithin}
use Rattle.proof_octets.proofs.NearFormat.{near_exact}
use Rattle.route_client.specs.declared.within.Within.{Within}
use Rattle.route_client.specs.NearVerdicts.{LacksItem, items_covered, limit_of}
use Rattle.route_server.specs.NearHonesty.{IsNearReply}
use Rattle.route_audit.proofs.NearSound.{alone, authentic_alone, items_listed}
use Rattle.near_proof.specs.NearLaws.{AreAccepted, NearRepliesAreAccepted}
use Rattle.near_proof.proofs.NearMarks.{marks_of, all_listed}

-- ---- leaves of distinct ids

count_none : (id : ℕ) (xs : List NodeLeaf) → ((n : NodeLeaf) → Contains xs n → n.id ≡ id → ⊥) → count_by (λ (n : NodeLeaf). n.id == id) xs ≡ 0
count_none id [] h = refl
count_none id (x ∷ xs) h =
    let apart : (x.id == id) ≡ false = grind (arith, h x (Contains-here x xs)) in
    let rest : count_by (λ (n : NodeLeaf). n.id == id) xs ≡ 0 = count_none id xs (λ n c. h n (Contains-there x n xs c)) in
    let c : count_by (λ (n : NodeLeaf). n.id == id) (x ∷ xs) ≡ 0 + count_by (λ (n : NodeLeaf). n.id == id) xs = count-cons (λ (n : NodeLeaf). n.id) id x xs ∙ ap (λ t. cond t 1 0 + count_by (λ (n : NodeLeaf). n.id == id) xs) apart in
    omega arith

leaves_once : (b : Book) (order : List ℕ) → IsDistinct nat_eq order → (id : ℕ) → count_by (λ (n : NodeLeaf). n.id == id) (leaves_of b order) ≤ 1
leaves_once b [] h id = omega arith
leaves_once b (x ∷ xs) h id = by_head (leaf b x) refl (leaves_once b xs (IsDistinct-tail nat_eq x xs h) id)
  where
    here_only : (n : NodeLeaf) → leaf b x ≡ Some n → n.id ≡ id → count_by (λ (n : NodeLeaf). n.id == id) (leaves_of b xs) ≡ 0
    here_only n is same = count_none id (leaves_of b xs) (λ k c e.
        let r : (y : ℕ) × Contains xs y × (leaf b y ≡ Some k) = picked_from (leaf b) xs k c in
        let own : x ≡ id = sym (leaf_id b.parts b.extra_of x n is) ∙ same in
        let other : r.0 ≡ id = sym (leaf_id b.parts b.extra_of r.0 k r.2) ∙ e in
        stands_once x xs (IsDistinct-head nat_eq x xs h) (subst (Contains xs) (other ∙ sym own) r.1))

    by_id_of : (n : NodeLeaf) → leaf b x ≡ Some n → (t : Bool) → (n.id == id) ≡ t → count_by (λ (n : NodeLeaf). n.id == id) (leaves_of b xs) ≤ 1 → cond t 1 0 + count_by (λ (n : NodeLeaf). n.id == id) (leaves_of b xs) ≤ 1
    by_id_of n is true e rest = omega (arith, here_only n is (grind (arith, e)))
    by_id_of n is false e rest = omega (arith, rest)

    by_head : (o : Option NodeLeaf) → leaf b x ≡ o → count_by (λ (n : NodeLeaf). n.id == id) (leaves_of b xs) ≤ 1 → count_by (λ (n : NodeLeaf). n.id == id) (cons_option o (leaves_of b xs)) ≤ 1
    by_head None is rest = rest
    by_head (Some n) is rest = rw (count-cons (λ (n : NodeLeaf). n.id) id n (leaves_of b xs)) (by_id_of n is (n.id == id) refl rest)

same_self : (n : ℕ) → (n == n) ≡ true
same_self n = grind arith

-- ---- the known facts about an honest reply: the book, and its header

pub record Over (hash sha : List ℕ → List ℕ) (p : Publication) (q : NearQuery) (kind : Kind) (b : Book) (a : NearReply) : Type 0 where
  pub is_map : IsMap p.parts
  pub lists : IsOrderOf p.parts (leaf_order sha p.parts p.settings)
  pub book : IsBookOf kind p.parts p.settings (leaf_order sha p.parts p.settings) b
  pub header : a.header ≡ book_header hash p.settings (leaf_order sha p.parts p.settings) b
  pub known : Knows p.parts q.from
  pub reply : IsNearReply hash (leaf_order sha p.parts p.settings) b p q a

pub all_known : (hash sha : List ℕ → List ℕ) (p : Publication) (q : NearQuery) (kind : Kind) (b : Book) (a : NearReply) → Over hash sha p q kind b a
    → (id : ℕ) → Contains (leaf_order sha p.parts p.settings) id → Knows b.parts id
all_known hash sha p q kind b a over id h = subst (λ (ps : Parts). Knows ps id) (sym over.book.of_parts) ((over.lists.same id).0 h)

pub node_count : (hash sha : List ℕ → List ℕ) (p : Publication) (q : NearQuery) (kind : Kind) (b : Book) (a : NearReply) → Over hash sha p q kind b a
    → length (node_texts (leaves_of b (leaf_order sha p.parts p.settings))) ≡ length (leaf_order sha p.parts p.settings)
node_count hash sha p q kind b a over =
    length-map (leaves_of b (leaf_order sha p.parts p.settings)) _ ∙ length-leaves_of b (leaf_order sha p.parts p.settings) (all_known hash sha p q kind b a over)

items_fold : (hash sha : List ℕ → List ℕ) (p : Publication) (q : NearQuery) (kind : Kind) (b : Book) (a : NearReply) → Over hash sha p q kind b a → items_covered hash a ≡ Ok tt
unfolding header_of
items_fold hash sha p q kind b a over =
    let order = leaf_order sha p.parts p.settings in
    let fan : p.header.fan ≡ a.header.fan = ap (λ (h : Header). h.fan) (sym over.reply.header) in
    let same : a.header.fan ≡ p.settings.fan = ap (λ (h : Header). h.fan) over.header in
    is_covered hash 1 a.header.fan a.header.nodes (node_texts (leaves_of b order)) (map node_leaf_text a.nodes) a.cover a.places a.header.node_root
    (ap (λ (h : Header). h.nodes) over.header ∙ sym (length-map (leaves_of b order) _))
    (ap node_texts over.reply.nodes ∙ node_texts_chosen b order a.places (all_known hash sha p q kind b a over) over.reply.rising.below)
    (over.reply.cover ∙ ap (λ (f : ℕ). cover_of hash (node_texts (leaves_of b order)) f a.places) fan)
    (subst (λ (n : ℕ). IsRising n a.places) (sym (node_count hash sha p q kind b a over)) over.reply.rising)
    (ap (λ (h : Header). h.node_root) over.header ∙ ap (λ (f : ℕ). root_or_zeros hash f (node_texts (leaves_of b order))) (sym same))

-- ---- its items

-- the items are leaves of the book
pub own : (hash sha : List ℕ → List ℕ) (p : Publication) (q : NearQuery) (kind : Kind) (b : Book) (a : NearReply) → Over hash sha p q kind b a → (n : NodeLeaf) → Contains a.nodes n → leaf b n.id ≡ Some n
own hash sha p q kind b a over n c =
    let r : (id : ℕ) × Contains (ids_at (leaf_order sha p.parts p.settings) a.places) id × (leaf b id ≡ Some n) =
    picked_from (leaf b) (ids_at (leaf_order sha p.parts p.settings) a.places) n (subst (λ (xs : List NodeLeaf). Contains xs n) over.reply.nodes c) in
    leaf_true b r.0 n r.2

once_each : (hash sha : List ℕ → List ℕ) (p : Publication) (q : NearQuery) (kind : Kind) (b : Book) (a : NearReply) → Over hash sha p q kind b a → (id : ℕ) → ¬ StandsTwice a.nodes id
once_each hash sha p q kind b a over id two =
    let one : count_by (λ (n : NodeLeaf). n.id == id) a.nodes ≤ 1 =
    subst (λ (xs : List NodeLeaf). count_by (λ (n : NodeLeaf). n.id == id) xs ≤ 1) (sym over.reply.nodes) (leaves_once b (ids_at (leaf_order sha p.parts p.settings) a.places) over.reply.distinct id) in
    omega (arith, one, two)

-- each node within the radius has an item
has_item : (hash sha : List ℕ → List ℕ) (p : Publication) (q : NearQuery) (kind : Kind) (b : Book) (a : NearReply) → Over hash sha p q kind b a → (id : ℕ) → Knows p.parts id → IsWithin p.parts q id → IsSome (item_at a.nodes id)
has_item hash sha p q kind b a over id known within =
    let ids = ids_at (leaf_order sha p.parts p.settings) a.places in
    let n : (n : NodeLeaf) × (leaf b id ≡ Some n) = known_leaf b id (subst (λ (ps : Parts). Knows ps id) (sym over.book.of_parts) known) in
    let among : Contains a.nodes n.0 = subst (λ (xs : List NodeLeaf). Contains xs n.0) (sym over.reply.nodes) (picked_to (leaf b) ids id n.0 ((over.reply.same id).1 within) n.1) in
    found_some (λ (n : NodeLeaf). n.id == id) a.nodes n.0 among (ap (λ x. x == id) (leaf_id b.parts b.extra_of id n.0 n.1) ∙ same_self id)

-- so every walk within the radius ends at an item
none_lacks : (hash sha : List ℕ → List ℕ) (p : Publication) (q : NearQuery) (kind : Kind) (b : Book) (a : NearReply) → Over hash sha p q kind b a → (id : ℕ) → ¬ LacksItem a.nodes q id
none_lacks hash sha p q kind b a over id lacks =
    let w : Ways = any_ways (item_at a.nodes) in
    let parts : b.parts ≡ p.parts = over.book.of_parts in
    let of : IsOfMap b.parts w = items_of_map b.parts a.nodes (λ _ _. true) (have_arcs b (alone a.nodes) (authentic_alone b a.nodes (own hash sha p q kind b a over))) in
    let here : Knows b.parts q.from = subst (λ (ps : Parts). Knows ps q.from) (sym parts) over.known in
    let walk : Joins p.parts q.from id lacks.0.0 = subst (λ (ps : Parts). Joins ps q.from id lacks.0.0) parts (reaches_joins b.parts w of q.from (limit_of q) id lacks.0.0 here lacks.0.1) in
    let near : (e : ℕ) × (distance p.parts q.from id ≡ Some e) × (e ≤ lacks.0.0) = at_most p.parts over.is_map q.from id lacks.0.0 walk in
    let below : lacks.0.0 < limit_of q = below_bound q.from (limit_of q) id lacks.0.0 lacks.0.1 in
    let known : Knows p.parts id = Joins-known p.parts (roads_known p.parts over.is_map) q.from id lacks.0.0 walk in
    not_both (item_at a.nodes id) (has_item hash sha p q kind b a over id known (near.0, near.1, omega (arith, near.2, below))) (no_item (item_at a.nodes id) lacks.1)

-- ---- the law

mark_known : (parts : Parts) → IsMap parts → ((ps : Parts) → IsMap ps → DistanceLaws ps) → (q : NearQuery) (m : Mark) → IsNear parts q m → Knows parts m.id
mark_known parts is_map laws q m n =
    let least : IsLeast (Joins parts q.from m.id) (Some m.distance) = subst (IsLeast (Joins parts q.from m.id)) n.distance_is ((laws parts is_map).least q.from m.id) in
    Joins-known parts (roads_known parts is_map) q.from m.id m.distance least.0

accept : (hash sha : List ℕ → List ℕ) (key first : List ℕ) (links : List Link) (octets : List ℕ) (p : Publication) (q : NearQuery) (least : ℕ) (kind : Kind) (b : Book) (a : NearReply) → ((ps : Parts) → IsMap ps → DistanceLaws ps) → Over hash sha p q kind b a
    → IsSigned hash sha key p → Leads first links key → least ≤ p.header.version → near_reply.Fits a → octets ≡ near_reply.spell a → AreAccepted hash first links octets q least p.parts
accept hash sha key first links octets p q least kind b a laws over signed leads le fits spelled =
    let within : AreWithin p.parts q (marks_of p.parts q) = all_listed p.parts q over.is_map (mark_known p.parts over.is_map laws q) in
    let parts : p.parts ≡ b.parts = sym over.book.of_parts in
    let is_map : IsMap b.parts = subst IsMap parts over.is_map in
    let x : Within = record { nodes = marks_of p.parts q; version = a.header.version; header = a.header } in
    record {
      accepted = x;
      accepts = record {
        reply = a;
        spelled = ap (whole near_reply) spelled ∙ whole_again near_reply near_exact a fits;
        fresh = subst (λ (h : Header). least ≤ h.version) (sym over.reply.header) le;
        chain = leads.chain;
        signed = rw (over.reply.header, over.reply.signature) (verified_among first links (header_text p.header) p.signature key leads.among signed.signature);
        covered = items_fold hash sha p q kind b a over;
        distinct = once_each hash sha p q kind b a over;
        complete = none_lacks hash sha p q kind b a over;
        nodes =
            items_listed b a.nodes q is_map (laws b.parts is_map) (own hash sha p q kind b a over) (none_lacks hash sha p q kind b a over) (marks_of p.parts q)
            (subst (λ (ps : Parts). AreWithin ps q (marks_of p.parts q)) parts within);
        version = refl;
        header = refl;
      };
      within = within;
    }

pub replies_accepted : ((hash sha : List ℕ → List ℕ) (parts : Parts) (s : Settings) (h j : Header) → HasHeader hash sha parts s h → HasHeader hash sha parts s j → h ≡ j)
    → ((ps : Parts) → IsMap ps → DistanceLaws ps) → NearRepliesAreAccepted
replies_accepted one laws hash sha key first links octets p q least signed leads le honest =
    let order = leaf_order sha p.parts p.settings in
    let has = signed.header in
    let own : HasHeader hash sha p.parts p.settings (book_header hash p.settings order honest.book)
    = record { is_map = has.is_map; allowed = has.allowed; kind = honest.kind; book = honest.book; is_book = honest.is_book; is = refl } in
    let header : p.header ≡ book_header hash p.settings order honest.book = one hash sha p.parts p.settings p.header (book_header hash p.settings order honest.book) has own in
    accept hash sha key first links octets p q least honest.kind honest.book honest.reply laws
    (record {
      is_map = has.is_map;
      lists = is_order sha p.parts p.settings has.is_map;
      book = honest.is_book.book;
      header = honest.says.header ∙ header;
      known = honest.known;
      reply = honest.says;
    })
    signed leads le honest.fits honest.spelled
