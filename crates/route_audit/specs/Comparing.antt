-- Comparing an answer with a held book.
use Rattle.std.specs.Prelude.{◌≡◌, ℕ, Option, None, Some, List, [], length, Ok}
use Rattle.proof_octets.specs.declared.reply.Answer as answers
use Rattle.route_client.specs.Verdicts.{covered}
use Rattle.route_server.specs.Headers.{node_texts, pair_texts, root_or_zeros}
use Rattle.route_server.specs.Keeping.{Kept, texts_in}
use Rattle.octet_text.specs.Collisions.{AreCollision}
use Rattle.route_audit.specs.Evidence.{Part, IsTreesOwn, ClashesFirst, two_texts}
use Rattle.route_audit.specs.declared.finding.Finding.{Finding}
use Rattle.route_audit.specs.declared.finding.Finding.TheVariants.{Right, Collision, Forged}

-- the leaves of a tree, if there is one
abbrev pub leaves_or_none : Option (List (List ℕ)) → List (List ℕ)
leaves_or_none None = []
leaves_or_none (Some texts) = texts

-- the part of a tree of a held book that an answer carries: tree 1 for nodes, tree 2 for pairs
abbrev pub part_under : Kept → ℕ → List ℕ → List (List ℕ) → List (List ℕ) → Part
part_under k which places texts cover =
    record {
      leaves = leaves_or_none (texts_in k which);
      fan = k.settings.fan;
      places = places;
      texts = texts;
      cover = cover;
    }

-- the part recomputes the tree's root
abbrev pub FoldsUnder : (List ℕ → List ℕ) → ℕ → Part → Type 0
FoldsUnder hash which part =
    covered hash which (length part.leaves) part.fan part.places part.texts part.cover
    (root_or_zeros hash part.fan part.leaves) ≡ Ok tt

abbrev pub node_part_of : Kept → answers.Answer → Part
node_part_of k a = part_under k 1 a.node_places (node_texts a.items.nodes) a.node_cover

abbrev pub pair_part_of : Kept → answers.Answer → Part
pair_part_of k a = part_under k 2 a.pair_places (pair_texts a.items.pairs) a.pair_cover

-- the result of a comparison in two trees
abbrev pub Compares : (List ℕ → List ℕ) → Part → Part → Finding → Type 0
Compares hash nodes pairs Right = IsTreesOwn hash nodes × IsTreesOwn hash pairs
Compares hash nodes pairs (Collision left right) = AreCollision hash left right ×
    ClashesFirst hash nodes pairs (two_texts left right)
Compares hash nodes pairs (Forged key text signature) = ⊥
