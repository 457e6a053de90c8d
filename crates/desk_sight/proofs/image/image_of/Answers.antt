use Rattle.std.proofs.Common.{◌≡◌, ◌≤◌, ◌∙◌, ℕ, List, length, take, drop, min, replicate, ap, sym, arith}
use Rattle.std.proofs.lemmas.List.{take-append-le, take_all, length-replicate}
use Rattle.desk_sight.proofs.ReadFronts.{read_front}
use Rattle.desk_sight.proofs.image.image_of.Goals as goal

pub returns-in-Ok-read_at-clause-image : goal.returns-in-Ok-read_at-clause-image
returns-in-Ok-read_at-clause-image g c x told =
    let kept : length c.read_at.new.into ≡ length c.deref_mut.result.now = c.read_at.auto.into in
    let size : c.in-Ok-filled.image.len ≡ length c.read_at.new.into = omega (arith, kept, c.deref_mut.ensures.len) in
    let items : length c.deref_mut.result.now ≡ c.min-length.result = ap (λ (l : List ℕ). length l) (c.deref_mut.ensures.value ∙ c.in-Ok-filled.ensures.items) ∙ length-replicate c.min-length.result 0 in
    let long : c.in-Ok.length ≡ length x = c.in-Ok.ensures.length x (c.in-Ok-read_at.ensures.content x told) in
    take-append-le c.in-Ok-filled.image.len c.read_at.new.into (drop (length c.read_at.new.into) c.in-Ok-filled.image.items) (omega (arith, size))
    ∙ take_all c.in-Ok-filled.image.len c.read_at.new.into (omega (arith, size))
    ∙ read_front x c.read_at.new.into (length c.deref_mut.result.now) 1049088 (omega (arith, items, long, c.min-length.ensures)) (c.in-Ok-read_at.ensures.octets x told)
