use Rattle.std.proofs.Common.{◌≡◌, ◌+◌, length, arith}
use Rattle.std.proofs.lemmas.Bool.{le-leb, leb-true, ltb-true}
use Rattle.merkle_cover.specs.Texts.{total_length}
use Rattle.merkle_cover.proofs.TextsLemmas.{length-texts_of, total_length-texts_of}
use Rattle.merkle_cover.proofs.texts.Texts.fits.Goals as goal
use Rattle.merkle_cover.proofs.texts.Texts.fits.Goals.{After-from, Else-len}

pub returns-then-len : goal.returns-then-len
returns-then-len c =
    let octets = c.self.inside.octets.items in
    let ends = c.self.inside.ends.items in
    let all = total_length-texts_of octets 0 ends c.self.invariant.whole in
    let total : total_length c.args.self.now + 0 ≡ length octets = rw (← c.self.view_is) all in
    let count : length c.args.self.now ≡ length ends = rw (← c.self.view_is) (length-texts_of octets 0 ends) in (
      λ t. let le = leb-true (c.len-then-len.result + length c.args.text.now) c.from.result t in
          record { count = omega (arith, count); octets = omega (arith, total, le) },
      λ room. le-leb (c.len-then-len.result + length c.args.text.now) c.from.result (omega (arith, room.octets, total)),
    )

pub returns-else-len : goal.returns-else-len
returns-else-len c =
    let octets = c.self.inside.octets.items in
    let ends = c.self.inside.ends.items in
    let count : length c.args.self.now ≡ length ends = rw (← c.self.view_is) (length-texts_of octets 0 ends) in (
      λ t. absurd (omega (arith, ltb-true c.len.result 4294967295 t)),
      λ room. absurd (omega (arith, room.count, count)),
    )
