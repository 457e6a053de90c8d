use Rattle.std.proofs.Common.{◌≡◌, ◌≤◌, ◌++◌, ℕ, nat_eq, is_some, map, length, drop}
use Rattle.std.specs.List.{IsDistinct, list_any}
use Rattle.std.specs.Map.{lookup, keys_of}
use Rattle.method_books.specs.LdmBooks.{extra_in}
use Rattle.method_books.proofs.extras.with_ids.Given as goal

abbrev pub invariant-loop-extra : goal.invariant-loop-extra
invariant-loop-extra l = record {
  few : length l.extras.items ≤ length l.order;
  distinct : IsDistinct nat_eq (keys_of l.entries.items);
  adds : l.fn.extras.items ≡ l.extras.items ++ map (extra_in l.entries.items) (drop (length l.extras.items) l.order);
  covers : (id : ℕ) → is_some (lookup (nat_eq id) l.entries.items) ≡ list_any (nat_eq id) (drop (length l.extras.items) l.order);
}

abbrev pub decreases-loop-extra : goal.decreases-loop-extra
decreases-loop-extra l = length l.extras.items
