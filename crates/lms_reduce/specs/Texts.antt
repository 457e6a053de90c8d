-- The texts whose hashes lead from a signature to the root of a tree. RFC 8554: the steps of a
-- chain (§ 4.3), the signed text (§ 4.5), the ends of the chains (§ 4.6), the leaves and the inner
-- nodes of a tree (§ 5.3).
use Rattle.std.specs.Prelude.{ℕ, ◌/◌, ◌%◌, ◌==◌, List, [], ◌∷◌, ◌++◌, if◌then◌else◌}
use Rattle.std.specs.List.{range_with_len, flat_map}
use Rattle.lms_ots.specs.Chains.{prefix}

-- the text of step j of chain at: I || u32str(q) || u16str(at) || u8str(j) || x
unfoldable pub step_text : List ℕ → ℕ → ℕ → ℕ → List ℕ → List ℕ
step_text i q at j x = prefix i q at ++ j ∷ [] ++ x

-- the hashed text of a signed text: I || u32str(q) || D_MESG || C || text
unfoldable pub message_text : List ℕ → ℕ → List ℕ → List ℕ → List ℕ
message_text i q c text = prefix i q 0x8181 ++ c ++ text

-- the hashed text of 34 values, one for each chain: I || u32str(q) || D_PBLC || value[0] || .. || value[33]
unfoldable pub values_text : List ℕ → ℕ → (ℕ → List ℕ) → List ℕ
values_text i q values = prefix i q 0x8080 ++ flat_map values (range_with_len 0 34)

-- the hashed text of leaf r: I || u32str(r) || D_LEAF || K
unfoldable pub leaf_text : List ℕ → ℕ → List ℕ → List ℕ
leaf_text i r key = prefix i r 0x8282 ++ key

-- the hashed text of inner node r: I || u32str(r) || D_INTR || left || right
unfoldable pub inner_text : List ℕ → ℕ → List ℕ → List ℕ → List ℕ
inner_text i r left right = prefix i r 0x8383 ++ left ++ right

-- the hashed text of the parent of node r, from the value at r and at its sibling
unfoldable pub parent_text : List ℕ → ℕ → List ℕ → List ℕ → List ℕ
parent_text i r value other =
    if r % 2 == 0 then inner_text i (r / 2) value other else inner_text i (r / 2) other value
