-- The content at a moment is one of the images of that moment.
use Rattle.std.specs.Prelude.{◌≡◌, ℕ, zero, suc, List, get_or, Some, refl}
use Rattle.std.proofs.Common.{inl, subst, ◌∙◌}
use Rattle.mem_io.specs.declared.disk.Entry.{Entry}
use Rattle.mem_io.specs.declared.disk.Entry.TheVariants.{Sync, Write}
use Rattle.mem_io.specs.Journal.{after, content_at, LeftAfter, LeftAt}

after_left : (entry : Entry) (octets content : List ℕ) (Before : List ℕ → Type 0) →
    LeftAfter entry (after entry octets content) Before (after entry octets content)
after_left Sync octets content Before = refl
after_left (Write p) octets content Before = inl refl

pub content_left : (base : List ℕ) (entries : List Entry) (octets : List ℕ) (k : ℕ) →
    LeftAt base entries octets k (content_at base entries octets k)
content_left base entries octets zero = refl
content_left base entries octets (suc k) = after_left (get_or entries k Sync) octets
    (content_at base entries octets k) (LeftAt base entries octets k)

pub read_left : (base : List ℕ) (entries : List Entry) (octets : List ℕ) (k : ℕ)
    (content c : List ℕ) → content_at base entries octets k ≡ content → Some content ≡ Some c →
    LeftAt base entries octets k c
read_left base entries octets k content c agrees is =
    let same : content ≡ c = cc in
    subst (LeftAt base entries octets k) (agrees ∙ same) (content_left base entries octets k)
