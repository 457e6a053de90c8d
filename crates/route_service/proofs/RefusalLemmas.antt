-- The result of an install is the result of the functions.
use Rattle.std.proofs.Common.{◌≡◌, ◌≢◌, ◌==◌, ℕ, ◌&&◌, Bool, true, false, cond, Option, None, Some, List, [], ◌∷◌, Err, refl, arith, ap, sym, ◌∙◌, inl, inr, map}
use Rattle.std.specs.List.{cons_option, filter_map}
use Rattle.std.specs.Option.{option_map}
use Rattle.std.specs.Str.{bytes_eq}
use Rattle.std.proofs.lemmas.Bool.{and_parts, cases_Bool}
use Rattle.std.proofs.lemmas.Bool.Decides.{nat_tests}
use Rattle.std.proofs.lemmas.Slice.Eq.{bytes_eq-Decides}
use Rattle.road_map.specs.declared.parts.Node.{Node}
use Rattle.road_map.specs.declared.parts.Parts.{Parts}
use Rattle.road_map.specs.declared.error.MapError.{MapError}
use Rattle.road_map.specs.declared.error.MapError.TheVariants as map_errors
use Rattle.road_map.specs.ArcsOut.{arcs_out}
use Rattle.road_map.specs.Walks.{distance}
use Rattle.road_map.specs.Laws.{FaultLaws}
use Rattle.road_map.specs.Maps.{IsMap, Fault}
use Rattle.road_leaf.specs.declared.leaf.Extra.{Extra}
use Rattle.road_leaf.specs.declared.pair.PairLeaf.{PairLeaf}
use Rattle.book_model.specs.Nodes.{node_at}
use Rattle.book_model.specs.Pairs.{pairs_of}
use Rattle.book_model.specs.declared.settings.Settings.{Settings}
use Rattle.book_model.specs.declared.settings.Numbers.{Numbers}
use Rattle.book_model.specs.declared.settings.PlanError.{PlanError}
use Rattle.book_model.specs.Books.{Kind, Book, kind_of, leaf_by, leaf_of, leaves_of, leaf_order, extras, paired, IsBookOf}
use Rattle.proof_method.specs.Planning.{book_fault}
use Rattle.proof_judge.proofs.ItemLaws.{find_some}
use Rattle.proof_octets.specs.declared.header.Header.{Header}
use Rattle.proof_octets.specs.declared.publication.Publication.{Publication}
use Rattle.route_server.specs.Headers.{HasHeader, header_of, book_header}
use Rattle.route_server.specs.Installing.{Installs}
use Rattle.route_server.specs.declared.errors.BuildError.TheVariants as build
use Rattle.route_server.specs.declared.errors.InstallError.{InstallError}
use Rattle.route_server.specs.declared.errors.InstallError.TheVariants as installs
use Rattle.route_service.specs.Pinning.{Pins, not_pinned}
use Rattle.route_service.specs.Refusals.{leaves_with, numbers_of, header_by, is_same_header, is_header_by, book_refusal, refusal_of}
use Rattle.road_map.specs.MapTests.{is_map}
use Rattle.road_map.proofs.MapTests.{map_true, map_from}
use Rattle.octet_text.specs.Want.{no_memory}

node_id : (nodes : List Node) (id : ℕ) (n : Node) → node_at nodes id ≡ Some n → n.id ≡ id
node_id nodes id n e = let found = find_some (λ (m : Node). m.id == id) nodes n e in grind (arith, found.1)

-- the leaf of an id has the contents that are added for the id
leaf_here : (parts : Parts) (f : ℕ → Extra) (id : ℕ) → leaf_of parts f id ≡ leaf_of parts (λ _. f id) id
leaf_here parts f id = by_node (node_at parts.nodes id) refl
  where
    by_node : (o : Option Node) → node_at parts.nodes id ≡ o → option_map (leaf_by parts f) o ≡ option_map (leaf_by parts (λ _. f id)) o
    by_node None is = refl
    by_node (Some n) is = ap (λ x. Some (record { id = n.id; x = n.x; y = n.y; arcs = arcs_out parts.roads n.id; extra = x })) (ap f (node_id parts.nodes id n is))

leaves_here : (parts : Parts) (f : ℕ → Extra) (order : List ℕ) → filter_map (leaf_of parts f) order ≡ leaves_with parts order (map f order)
leaves_here parts f [] = refl
leaves_here parts f (id ∷ order) =
    ap (λ o. cons_option o (filter_map (leaf_of parts f) order)) (leaf_here parts f id)
    ∙ ap (cons_option (leaf_of parts (λ _. f id) id)) (leaves_here parts f order)

-- the header of a book is the computed header
pub header_is : (hash sha : List ℕ → List ℕ) (kind : Kind) (parts : Parts) (s : Settings) (b : Book) → IsBookOf kind parts s (leaf_order sha parts s) b →
    book_header hash s (leaf_order sha parts s) b ≡ header_by hash sha kind parts s
unfolding header_by
header_is hash sha kind parts s b is =
    let order = leaf_order sha parts s in
    let leaves : leaves_of b order ≡ leaves_with parts order (extras kind parts s order) =
    ap (λ p. filter_map (leaf_of p b.extra_of) order) is.of_parts ∙ leaves_here parts b.extra_of order ∙ ap (leaves_with parts order) is.adds in
    let numbers : b.numbers ≡ numbers_of kind parts s =
    ap (λ x. record { first = x; second = b.numbers.second }) is.first ∙ ap (λ x. record { first = (numbers_of kind parts s).first; second = x }) is.second in
    ap (λ l. header_of hash s l b.pairs b.numbers) leaves
    ∙ ap (λ (p : List PairLeaf). header_of hash s (leaves_with parts order (extras kind parts s order)) p b.numbers) is.has_pairs
    ∙ ap (λ (n : Numbers). header_of hash s (leaves_with parts order (extras kind parts s order)) (pairs_of (distance parts) (paired kind parts s)) n) numbers

same_bytes : (xs ys : List ℕ) → bytes_eq xs ys ≡ true → xs ≡ ys
same_bytes xs ys e = grind (arith, bytes_eq-Decides, e)

bytes_same : (xs : List ℕ) → bytes_eq xs xs ≡ true
bytes_same xs = grind (arith, bytes_eq-Decides)

header_itself : (h : Header) → is_same_header h h ≡ true
header_itself h = let a = bytes_same h.node_root in let b = bytes_same h.pair_root in grind (arith, nat_tests, a, b)

-- headers that pass the test are equal
pub headers_same : (a b : Header) → is_same_header a b ≡ true → a ≡ b
headers_same a b e =
    let second = and_parts (is_same_but_second a b) (a.numbers.second == b.numbers.second) e in
    let first = and_parts (is_same_but_first a b) (a.numbers.first == b.numbers.first) second.0 in
    let pair_root = and_parts (is_same_to_pairs a b) (bytes_eq a.pair_root b.pair_root) first.0 in
    let pairs = and_parts (is_same_to_roots a b) (a.pairs == b.pairs) pair_root.0 in
    let node_root = and_parts (is_same_to_nodes a b) (bytes_eq a.node_root b.node_root) pairs.0 in
    let nodes = and_parts (is_same_to_version a b) (a.nodes == b.nodes) node_root.0 in
    let version = and_parts ((a.method == b.method) && (a.order == b.order) && (a.fan == b.fan)) (a.version == b.version) nodes.0 in
    let fan = and_parts ((a.method == b.method) && (a.order == b.order)) (a.fan == b.fan) version.0 in
    let order = and_parts (a.method == b.method) (a.order == b.order) fan.0 in
    built a b (same order.0) (same order.1) (same fan.1) (same version.1) (same nodes.1) (same_bytes a.node_root b.node_root node_root.1)
    (same pairs.1) (same_bytes a.pair_root b.pair_root pair_root.1) (same first.1) (same second.1)
  where
    is_same_to_version : Header → Header → Bool
    is_same_to_version a b = (a.method == b.method) && (a.order == b.order) && (a.fan == b.fan) && (a.version == b.version)

    is_same_to_nodes : Header → Header → Bool
    is_same_to_nodes a b = is_same_to_version a b && (a.nodes == b.nodes)

    is_same_to_roots : Header → Header → Bool
    is_same_to_roots a b = is_same_to_nodes a b && bytes_eq a.node_root b.node_root

    is_same_to_pairs : Header → Header → Bool
    is_same_to_pairs a b = is_same_to_roots a b && (a.pairs == b.pairs)

    is_same_but_first : Header → Header → Bool
    is_same_but_first a b = is_same_to_pairs a b && bytes_eq a.pair_root b.pair_root

    is_same_but_second : Header → Header → Bool
    is_same_but_second a b = is_same_but_first a b && (a.numbers.first == b.numbers.first)

    same : {m n : ℕ} → (m == n) ≡ true → m ≡ n
    same e = grind (arith, nat_tests, e)

    header_with_all : ℕ → ℕ → ℕ → ℕ → ℕ → List ℕ → ℕ → List ℕ → ℕ → ℕ → Header
    header_with_all method order fan version nodes node_root pairs pair_root first second = record {
      method = method;
      order = order;
      fan = fan;
      version = version;
      nodes = nodes;
      node_root = node_root;
      pairs = pairs;
      pair_root = pair_root;
      numbers = record { first = first; second = second };
    }

    built : (a b : Header) → a.method ≡ b.method → a.order ≡ b.order → a.fan ≡ b.fan → a.version ≡ b.version → a.nodes ≡ b.nodes → a.node_root ≡ b.node_root
        → a.pairs ≡ b.pairs → a.pair_root ≡ b.pair_root → a.numbers.first ≡ b.numbers.first → a.numbers.second ≡ b.numbers.second → a ≡ b
    built a b c0 c1 c2 c3 c4 c5 c6 c7 c8 c9 =
        let whole : header_with_all a.method a.order a.fan a.version a.nodes a.node_root a.pairs a.pair_root a.numbers.first a.numbers.second
        ≡ header_with_all b.method b.order b.fan b.version b.nodes b.node_root b.pairs b.pair_root b.numbers.first b.numbers.second = cc in
        whole

-- a publication with the header of its book has no reason to be refused
pub none_refuses : (hash sha : List ℕ → List ℕ) (p : Publication) → HasHeader hash sha p.parts p.settings p.header → refusal_of hash sha p ≡ None
unfolding refusal_of
none_refuses hash sha p h =
    let order = leaf_order sha p.parts p.settings in
    let is : header_by hash sha h.kind p.parts p.settings ≡ p.header = sym (header_is hash sha h.kind p.parts p.settings h.book h.is_book.book) ∙ sym h.is in
    let same : is_header_by hash sha p (kind_of p.settings.method) ≡ true = ap (is_header_by hash sha p) h.is_book.method ∙ ap (λ x. is_same_header x p.header) is ∙ header_itself p.header in
    ap (λ b. cond b (book_refusal (book_fault p.parts p.settings) (is_header_by hash sha p (kind_of p.settings.method))) (Some 2)) (map_true p.parts h.is_map)
    ∙ ap (λ f. book_refusal f (is_header_by hash sha p (kind_of p.settings.method))) h.allowed
    ∙ ap (λ b. cond b None (Some 4)) same

header_differs : (hash sha : List ℕ → List ℕ) (p : Publication) (h : Header) → HasHeader hash sha p.parts p.settings h → h ≢ p.header → is_header_by hash sha p (kind_of p.settings.method) ≡ false
header_differs hash sha p h has apart =
    let is : header_by hash sha has.kind p.parts p.settings ≡ h = sym (header_is hash sha has.kind p.parts p.settings has.book has.is_book.book) ∙ sym has.is in
    let other : is_same_header h p.header ≡ false = elim (cases_Bool (is_same_header h p.header)) [ inl e ↦ absurd (apart (headers_same h p.header e)) | inr e ↦ e ] in
    ap (is_header_by hash sha p) has.is_book.method ∙ ap (λ x. is_same_header x p.header) is ∙ other

-- a fault of maps, a fault of books, and another header
map_refuses : (hash sha : List ℕ → List ℕ) (p : Publication) (e : MapError) → FaultLaws p.parts → Fault p.parts e → e ≢ map_errors.Memory no_memory → refusal_of hash sha p ≡ Some 2
unfolding refusal_of
map_refuses hash sha p e laws fault known =
    let none : is_map p.parts ≡ false = elim (cases_Bool (is_map p.parts)) [ inl is ↦ absurd (known (laws.none (map_from p.parts is) e fault)) | inr not ↦ not ] in
    ap (λ b. cond b (book_refusal (book_fault p.parts p.settings) (is_header_by hash sha p (kind_of p.settings.method))) (Some 2)) none

book_refuses : (hash sha : List ℕ → List ℕ) (p : Publication) (e : PlanError) → IsMap p.parts → book_fault p.parts p.settings ≡ Some e → refusal_of hash sha p ≡ Some 3
unfolding refusal_of
book_refuses hash sha p e map fault =
    ap (λ b. cond b (book_refusal (book_fault p.parts p.settings) (is_header_by hash sha p (kind_of p.settings.method))) (Some 2)) (map_true p.parts map)
    ∙ ap (λ f. book_refusal f (is_header_by hash sha p (kind_of p.settings.method))) fault

header_refuses : (hash sha : List ℕ → List ℕ) (p : Publication) (h : Header) → HasHeader hash sha p.parts p.settings h → h ≢ p.header → refusal_of hash sha p ≡ Some 4
unfolding refusal_of
header_refuses hash sha p h has apart =
    ap (λ b. cond b (book_refusal (book_fault p.parts p.settings) (is_header_by hash sha p (kind_of p.settings.method))) (Some 2)) (map_true p.parts has.is_map)
    ∙ ap (λ f. book_refusal f (is_header_by hash sha p (kind_of p.settings.method))) has.allowed
    ∙ ap (λ b. cond b None (Some 4)) (header_differs hash sha p h has apart)

-- the result of an install
pub refused_as : (hash sha : List ℕ → List ℕ) (p : Publication) (e : InstallError) → FaultLaws p.parts → Installs hash sha p (Err e) → Pins hash sha p (Err (not_pinned e))
refused_as hash sha p (installs.Build (build.Map e)) laws h = map_refuses hash sha p e laws h.0.0 h.0.1
refused_as hash sha p (installs.Build (build.Plan e)) laws h = book_refuses hash sha p e h.0.0 h.0.1
refused_as hash sha p (installs.Build (build.Memory _)) laws h = tt
refused_as hash sha p installs.HeaderWrong laws h = header_refuses hash sha p h.0 h.1 h.2
refused_as hash sha p (installs.Memory _) laws h = tt
