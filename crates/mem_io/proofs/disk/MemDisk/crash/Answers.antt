use Rattle.std.proofs.Common.{◌≡◌, ◌∙◌, ap, arith, List, ℕ, length, get_or}
use Rattle.mem_io.specs.declared.disk.Entry.{Entry}
use Rattle.mem_io.specs.declared.disk.MemDisk.{MemDisk}
use Rattle.mem_io.specs.Journal.{filled_at}
use Rattle.mem_io.specs.MemDisk.{FillsUnsynced}
use Rattle.mem_io.proofs.JournalSteps.{length-filled}
use Rattle.mem_io.proofs.FillLaws.{filled_covered, filled_apart}
use Rattle.mem_io.proofs.disk.MemDisk.crash.Goals as goal

-- the replay fills the offsets that were not synced
fills : (octet : ℕ) (m : MemDisk) (base octets content : List ℕ) (entries : List Entry) → base ≡ m.base.items → octets ≡ m.octets.items → entries ≡ m.entries.items
    → content ≡ filled_at octet base entries octets (length entries) → FillsUnsynced octet m content
fills octet m base octets content entries b o e is =
    let n = length m.entries.items in
    let replay : content ≡ filled_at octet m.base.items m.entries.items m.octets.items n =
    is ∙ ap (λ (l : List ℕ). filled_at octet l entries octets (length entries)) b ∙ ap (λ (l : List ℕ). filled_at octet m.base.items entries l (length entries)) o
    ∙ ap (λ (l : List Entry). filled_at octet m.base.items l m.octets.items (length l)) e in
    record {
      long = ap length replay ∙ length-filled m.base.items m.entries.items m.octets.items octet m.kept m.placed n (omega arith) ∙ ap length m.agrees;
      filled = λ x h. ap (λ (l : List ℕ). get_or l x 0) replay ∙ filled_covered m.base.items m.entries.items m.octets.items octet m.kept m.placed n (omega arith) x h;
      others = λ x h. ap (λ (l : List ℕ). get_or l x 0) replay ∙ filled_apart m.base.items m.entries.items m.octets.items octet m.kept m.placed n (omega arith) x h ∙ ap (λ (l : List ℕ). get_or l x 0) m.agrees;
    }

pub returns-clause-fill : goal.returns-clause-fill
returns-clause-fill c = λ octet is.
    fills octet c.args.self c.deref.result.now c.deref-2.result.now c.pick_content.new.content.items c.deref-3.result.now c.deref.ensures.value c.deref-2.ensures.value c.deref-3.ensures.value (c.pick_content.ensures.fill octet is)
