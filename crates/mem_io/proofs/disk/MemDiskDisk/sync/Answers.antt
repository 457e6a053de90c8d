use Rattle.std.proofs.Common.{◌≡◌, ◌++◌, ◌∷◌, [], List, ℕ, suc, length, Some, subst, rules, refl, sym, ◌∙◌, ap, arith}
use Rattle.std.proofs.lemmas.List.{append-nil, length_push}
use Rattle.mem_io.specs.declared.disk.Entry.TheVariants.{Sync}
use Rattle.road_io.specs.Disk.{Stays}
use Rattle.mem_io.specs.Journal.{content_at, LeftAt, last_sync}
use Rattle.mem_io.specs.JournalLaws.{read_left}
use Rattle.mem_io.proofs.JournalSteps.{content_new, placed_new, last_new, kept_new, each_new, left_new, left_same, sync_left}
use Rattle.mem_io.proofs.disk.MemDiskDisk.sync.Goals as goal

pub invariant_of-self-2-clause-agrees : goal.invariant_of-self-2-clause-agrees
invariant_of-self-2-clause-agrees c =
    let pushed : c.push.new.self.items ≡ c.args.self.now.entries.items ++ Sync ∷ [] = search rules in
    let m = c.args.self.now in
    let size : length c.push.new.self.items ≡ suc (length m.entries.items) = omega (arith, ap length pushed, length_push m.entries.items Sync) in
    ap (λ (n : ℕ). content_at m.base.items c.push.new.self.items m.octets.items n) size
    ∙ content_new m.base.items m.entries.items c.push.new.self.items m.octets.items m.octets.items [] Sync pushed (sym (append-nil m.octets.items)) m.kept
    ∙ m.agrees

pub invariant_of-self-2-clause-kept : goal.invariant_of-self-2-clause-kept
invariant_of-self-2-clause-kept c =
    let m = c.args.self.now in
    let pushed : c.push.new.self.items ≡ m.entries.items ++ Sync ∷ [] = search rules in
    kept_new m.base.items m.entries.items c.push.new.self.items m.octets.items m.octets.items [] Sync pushed (sym (append-nil m.octets.items)) m.kept (omega arith)

pub invariant_of-self-2-clause-placed : goal.invariant_of-self-2-clause-placed
invariant_of-self-2-clause-placed c =
    let m = c.args.self.now in
    let pushed : c.push.new.self.items ≡ m.entries.items ++ Sync ∷ [] = search rules in
    let size : length c.push.new.self.items ≡ suc (length m.entries.items) = omega (arith, ap length pushed, length_push m.entries.items Sync) in
    let more = sym (append-nil m.octets.items) in
    placed_new m.base.items m.entries.items c.push.new.self.items m.octets.items m.octets.items [] Sync pushed more m.kept m.placed (omega arith)

pub invariant_of-self-2-clause-since_is : goal.invariant_of-self-2-clause-since_is
invariant_of-self-2-clause-since_is c =
    let m = c.args.self.now in
    let pushed : c.push.new.self.items ≡ m.entries.items ++ Sync ∷ [] = search rules in
    let size : length c.push.new.self.items ≡ suc (length m.entries.items) = omega (arith, ap length pushed, length_push m.entries.items Sync) in
    let more = sym (append-nil m.octets.items) in
    let len : c.len-self.result ≡ length c.push.new.self.items = search rules in
    ap (λ (n : ℕ). last_sync c.push.new.self.items n) size
    ∙ last_new m.base.items m.entries.items c.push.new.self.items m.octets.items m.octets.items [] Sync pushed more m.kept
    ∙ sym size ∙ sym len

pub invariant_of-self-2-clause-synced_is : goal.invariant_of-self-2-clause-synced_is
invariant_of-self-2-clause-synced_is c =
    let m = c.args.self.now in
    let pushed : c.push.new.self.items ≡ m.entries.items ++ Sync ∷ [] = search rules in
    let size : length c.push.new.self.items ≡ suc (length m.entries.items) = omega (arith, ap length pushed, length_push m.entries.items Sync) in
    let more = sym (append-nil m.octets.items) in
    let len : c.len-self.result ≡ length c.push.new.self.items = search rules in
    let copied : c.copy.new.to.items ≡ m.content.items = search rules in
    ap (λ (n : ℕ). content_at m.base.items c.push.new.self.items m.octets.items n) (len ∙ size)
    ∙ content_new m.base.items m.entries.items c.push.new.self.items m.octets.items m.octets.items [] Sync pushed more m.kept
    ∙ m.agrees ∙ sym copied

pub returns-clause-moments : goal.returns-clause-moments
returns-clause-moments c =
    let m = c.args.self.now in
    let pushed : c.push.new.self.items ≡ m.entries.items ++ Sync ∷ [] = search rules in
    let more = sym (append-nil m.octets.items) in
    record {
      later = omega (arith, ap length pushed, length_push m.entries.items Sync);
      past = λ k i le h. left_same m.base.items m.entries.items c.push.new.self.items m.octets.items m.octets.items [] Sync pushed more m.kept k i le h;
      each = each_new m.base.items m.entries.items c.push.new.self.items m.octets.items m.octets.items [] Sync pushed more m.kept Stays (λ d. refl)
          (λ i h. sync_left m.base.items m.entries.items m.octets.items m.octets.items i h);
    }

pub returns-clause-one : goal.returns-clause-one
returns-clause-one c = λ i now.
    let m = c.args.self.now in
    let pushed : c.push.new.self.items ≡ m.entries.items ++ Sync ∷ [] = search rules in
    let size : length c.push.new.self.items ≡ suc (length m.entries.items) = omega (arith, ap length pushed, length_push m.entries.items Sync) in
    let here = left_new m.base.items m.entries.items c.push.new.self.items m.octets.items m.octets.items [] Sync pushed (sym (append-nil m.octets.items)) m.kept i (subst (λ (n : ℕ). LeftAt m.base.items c.push.new.self.items m.octets.items n i) size now) in
    ap (λ (l : List ℕ). Some l) (sym m.agrees ∙ sym here)

pub returns-then-not-can_call-clause-dropped : goal.returns-then-not-can_call-clause-dropped
returns-then-not-can_call-clause-dropped c =
    let m = c.args.self.now in
    read_left m.base.items m.entries.items m.octets.items (length m.entries.items) m.content.items m.content.items m.agrees refl
