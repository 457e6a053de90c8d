use Rattle.std.proofs.Common.{◌≡◌, ◌++◌, ◌∷◌, [], List, ℕ, suc, length, take, drop, rules, refl, sym, ◌∙◌, ap, arith, length-append}
use Rattle.std.proofs.lemmas.List.{length_push, drop_at, take_all}
use Rattle.mem_io.specs.declared.disk.Entry.TheVariants.{Write}
use Rattle.mem_io.specs.declared.disk.Piece.{Piece}
use Rattle.road_io.specs.Disk.{written, Torn}
use Rattle.mem_io.specs.Journal.{content_at, last_sync}
use Rattle.mem_io.proofs.JournalSteps.{content_new, content_same, placed_new, last_new, last_le, kept_new, each_new, left_same, write_left, torn_same, stays_put}
use Rattle.mem_io.proofs.disk.MemDiskDisk.write_at.Goals as goal

-- the place where the journal keeps the octets of the new entry
new_octets : (old bytes new : List ℕ) (from : ℕ) → new ≡ old ++ bytes → from ≡ length old → take (length bytes) (drop from new) ≡ bytes
new_octets old bytes new from is at =
    ap (λ (l : List ℕ). take (length bytes) (drop from l)) is
    ∙ ap (λ (l : List ℕ). take (length bytes) l) (drop_at old bytes from (sym at))
    ∙ take_all (length bytes) bytes (omega arith)

pub invariant_of-self-2-clause-agrees : goal.invariant_of-self-2-clause-agrees
invariant_of-self-2-clause-agrees c =
    let m = c.args.self.now in
    let p : Piece = record { at = c.args.at; from = c.len-from.result; len = length c.args.octets.now } in
    let pushed : c.push.new.self.items ≡ m.entries.items ++ Write p ∷ [] = search rules in
    let longer : c.extend_from_slice.new.self.items ≡ m.octets.items ++ c.args.octets.now = search rules in
    let from_is : c.len-from.result ≡ length m.octets.items = search rules in
    let part = new_octets m.octets.items c.args.octets.now c.extend_from_slice.new.self.items c.len-from.result longer from_is in
    let size : length c.push.new.self.items ≡ suc (length m.entries.items) = omega (arith, ap length pushed, length_push m.entries.items (Write p)) in
    ap (λ (n : ℕ). content_at m.base.items c.push.new.self.items c.extend_from_slice.new.self.items n) size
    ∙ content_new m.base.items m.entries.items c.push.new.self.items m.octets.items c.extend_from_slice.new.self.items c.args.octets.now (Write p) pushed longer m.kept
    ∙ ap (λ (l : List ℕ). written c.args.at l (content_at m.base.items m.entries.items m.octets.items (length m.entries.items))) part
    ∙ ap (λ (l : List ℕ). written c.args.at c.args.octets.now l) m.agrees
    ∙ sym c.overwrite.ensures.written

pub invariant_of-self-2-clause-kept : goal.invariant_of-self-2-clause-kept
invariant_of-self-2-clause-kept c =
    let m = c.args.self.now in
    let p : Piece = record { at = c.args.at; from = c.len-from.result; len = length c.args.octets.now } in
    let pushed : c.push.new.self.items ≡ m.entries.items ++ Write p ∷ [] = search rules in
    let longer : c.extend_from_slice.new.self.items ≡ m.octets.items ++ c.args.octets.now = search rules in
    let from_is : c.len-from.result ≡ length m.octets.items = search rules in
    kept_new m.base.items m.entries.items c.push.new.self.items m.octets.items c.extend_from_slice.new.self.items c.args.octets.now (Write p) pushed longer m.kept
    (omega (arith, from_is, ap length longer, length-append m.octets.items c.args.octets.now))

pub invariant_of-self-2-clause-placed : goal.invariant_of-self-2-clause-placed
invariant_of-self-2-clause-placed c =
    let m = c.args.self.now in
    let p : Piece = record { at = c.args.at; from = c.len-from.result; len = length c.args.octets.now } in
    let pushed : c.push.new.self.items ≡ m.entries.items ++ Write p ∷ [] = search rules in
    let longer : c.extend_from_slice.new.self.items ≡ m.octets.items ++ c.args.octets.now = search rules in
    placed_new m.base.items m.entries.items c.push.new.self.items m.octets.items c.extend_from_slice.new.self.items c.args.octets.now (Write p) pushed longer m.kept m.placed
    (omega (arith, ap length m.agrees, c.requires m.content.items refl))

pub invariant_of-self-2-clause-since_is : goal.invariant_of-self-2-clause-since_is
invariant_of-self-2-clause-since_is c =
    let m = c.args.self.now in
    let p : Piece = record { at = c.args.at; from = c.len-from.result; len = length c.args.octets.now } in
    let pushed : c.push.new.self.items ≡ m.entries.items ++ Write p ∷ [] = search rules in
    let longer : c.extend_from_slice.new.self.items ≡ m.octets.items ++ c.args.octets.now = search rules in
    let size : length c.push.new.self.items ≡ suc (length m.entries.items) = omega (arith, ap length pushed, length_push m.entries.items (Write p)) in
    ap (λ (n : ℕ). last_sync c.push.new.self.items n) size
    ∙ last_new m.base.items m.entries.items c.push.new.self.items m.octets.items c.extend_from_slice.new.self.items c.args.octets.now (Write p) pushed longer m.kept
    ∙ m.since_is

pub invariant_of-self-2-clause-synced_is : goal.invariant_of-self-2-clause-synced_is
invariant_of-self-2-clause-synced_is c =
    let m = c.args.self.now in
    let p : Piece = record { at = c.args.at; from = c.len-from.result; len = length c.args.octets.now } in
    let pushed : c.push.new.self.items ≡ m.entries.items ++ Write p ∷ [] = search rules in
    let longer : c.extend_from_slice.new.self.items ≡ m.octets.items ++ c.args.octets.now = search rules in
    content_same m.base.items m.entries.items c.push.new.self.items m.octets.items c.extend_from_slice.new.self.items c.args.octets.now (Write p) pushed longer m.kept m.since
    (omega (arith, m.since_is, last_le m.entries.items (length m.entries.items))) ∙ m.synced_is

pub returns-clause-moments : goal.returns-clause-moments
returns-clause-moments c =
    let m = c.args.self.now in
    let p : Piece = record { at = c.args.at; from = c.len-from.result; len = length c.args.octets.now } in
    let pushed : c.push.new.self.items ≡ m.entries.items ++ Write p ∷ [] = search rules in
    let longer : c.extend_from_slice.new.self.items ≡ m.octets.items ++ c.args.octets.now = search rules in
    let from_is : c.len-from.result ≡ length m.octets.items = search rules in
    let part = new_octets m.octets.items c.args.octets.now c.extend_from_slice.new.self.items c.len-from.result longer from_is in
    record {
      later = omega (arith, ap length pushed, length_push m.entries.items (Write p));
      past = λ k i le h. left_same m.base.items m.entries.items c.push.new.self.items m.octets.items c.extend_from_slice.new.self.items c.args.octets.now (Write p) pushed longer m.kept k i le h;
      each = each_new m.base.items m.entries.items c.push.new.self.items m.octets.items c.extend_from_slice.new.self.items c.args.octets.now (Write p) pushed longer m.kept
          (Torn c.args.at (length c.args.octets.now)) (torn_same c.args.at (length c.args.octets.now))
          (λ i h. write_left m.base.items m.entries.items m.octets.items c.extend_from_slice.new.self.items c.args.octets.now p i part refl (omega (arith, ap length m.agrees, c.requires m.content.items refl)) h);
    }

pub returns-then-not-can_call-clause-moments : goal.returns-then-not-can_call-clause-moments
returns-then-not-can_call-clause-moments c =
    let m = c.args.self.now in
    record {
      later = omega arith;
      past = λ k i le h. h;
      each = stays_put m.base.items m.entries.items m.octets.items (Torn c.args.at (length c.args.octets.now)) (torn_same c.args.at (length c.args.octets.now));
    }
