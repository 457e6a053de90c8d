use Rattle.std.proofs.Common.{◌≡◌, ◌+◌, ◌-◌, ◌<◌, ◌≤◌, List, ℕ, length, ap, sym, ◌∙◌, arith, subst, refl}
use Rattle.road_io.specs.Moments.{EachImage}
use Rattle.lms_tree.specs.Signatures.{public_key}
use Rattle.lms_tree.specs.Links.{link_text}
use Rattle.desk_areas.specs.Keys.{key_from}
use Rattle.desk_areas.specs.Layout.{place_in, text_at}
use Rattle.desk_areas.proofs.OnOks.{on_ok, on_ok_both}
use Rattle.key_desk.proofs.RaisingSteps.{signs1, signs2, signs3, signs4, keys1, keys2, keys3, keys4, fits4, signed4, link_size}
use Rattle.key_desk.proofs.Puts.{text_within}
use Rattle.key_desk.proofs.Raises.{raises1, raises2, raises3, raises4, raised_text, raises_as}
use Rattle.key_desk.proofs.Unspent.{unspent, some_zeros}
use Rattle.key_desk.proofs.succeed.raise.Given.{Over}
use Rattle.key_desk.proofs.succeed.raise.Goals as goal
use Rattle.key_desk.proofs.succeed.raise.Goals.{After-open_gate}

pub returns-in_err-clear_next-clause-moments : goal.returns-in_err-clear_next-clause-moments
returns-in_err-clear_next-clause-moments g c desk fits can base slots =
    signs1 g.D.Disk desk (key_from c.args.kind c.args.secret.now) c.args.disk.now fits can c.args.base c.args.slots c.place_in-end.result _ base slots c.place_in-end.ensures.place refl c.clear_next.new.disk (length c.args.zeros.now) c.clear_next.ensures.moments

pub returns-in_err-clear_next-clause-keys : goal.returns-in_err-clear_next-clause-keys
returns-in_err-clear_next-clause-keys g c desk fits can base slots =
    keys1 g.D.Disk desk (key_from c.args.kind c.args.secret.now) c.args.disk.now fits can c.args.base c.args.slots c.place_in-end.result _ base slots c.place_in-end.ensures.place refl c.clear_next.new.disk (length c.args.zeros.now) c.clear_next.ensures.moments

pub returns-in_err-put_block-clause-moments : goal.returns-in_err-put_block-clause-moments
returns-in_err-put_block-clause-moments g c desk fits can base slots =
    signs2 g.D.Disk desk (key_from c.args.kind c.args.secret.now) c.args.disk.now fits can c.args.base c.args.slots c.place_in-end.result _ base slots c.place_in-end.ensures.place refl c.clear_next.new.disk (length c.args.zeros.now) c.clear_next.ensures.moments
    c.put_block.new.disk c.put_block.ensures.moments

pub returns-in_err-put_block-clause-keys : goal.returns-in_err-put_block-clause-keys
returns-in_err-put_block-clause-keys g c desk fits can base slots =
    keys2 g.D.Disk desk (key_from c.args.kind c.args.secret.now) c.args.disk.now fits can c.args.base c.args.slots c.place_in-end.result _ base slots c.place_in-end.ensures.place refl c.clear_next.new.disk (length c.args.zeros.now) c.clear_next.ensures.moments
    c.put_block.new.disk c.put_block.ensures.moments

pub returns-in_err-put_text-clause-moments : goal.returns-in_err-put_text-clause-moments
returns-in_err-put_text-clause-moments g c desk fits can base slots =
    signs3 g.D.Disk desk (key_from c.args.kind c.args.secret.now) c.args.disk.now fits can c.args.base c.args.slots c.place_in-end.result c.place_in-place.result base slots c.place_in-end.ensures.place c.place_in-place.ensures.place c.clear_next.new.disk (length c.args.zeros.now) c.clear_next.ensures.moments
    c.put_block.new.disk c.put_block.ensures.moments c.put_text.new.disk (text_within g.D.Disk _ _ c.place_in-place.result (length c.args.link.now) (omega (arith, c.told-link)) c.put_text.ensures.moments)

pub returns-in_err-put_text-clause-keys : goal.returns-in_err-put_text-clause-keys
returns-in_err-put_text-clause-keys g c desk fits can base slots =
    keys3 g.D.Disk desk (key_from c.args.kind c.args.secret.now) c.args.disk.now fits can c.args.base c.args.slots c.place_in-end.result c.place_in-place.result base slots c.place_in-end.ensures.place c.place_in-place.ensures.place c.clear_next.new.disk (length c.args.zeros.now) c.clear_next.ensures.moments
    c.put_block.new.disk c.put_block.ensures.moments c.put_text.new.disk (text_within g.D.Disk _ _ c.place_in-place.result (length c.args.link.now) (omega (arith, c.told-link)) c.put_text.ensures.moments)

module _ (g : Over) (c : After-open_gate g) where
  stored : EachImage g.D.Disk c.put_text.new.disk (λ i. text_at i c.place_in-place.result ≡ link_text (public_key (key_from c.args.kind c.args.secret.now)))
  stored i now = c.in_ok-put_text.ensures.stored i now ∙ c.requires.link

  size : length (public_key (key_from c.args.kind c.args.secret.now)) ≡ 56
  size = link_size (public_key (key_from c.args.kind c.args.secret.now)) c.args.link.now c.requires.link c.told-link

pub returns-clause-moments : goal.returns-clause-moments
returns-clause-moments g c desk fits can base slots =
    signs4 g.D.Disk desk (key_from c.args.kind c.args.secret.now) c.args.disk.now fits can c.args.base c.args.slots c.place_in-end.result c.place_in-place.result base slots c.place_in-end.ensures.place c.place_in-place.ensures.place c.clear_next.new.disk (length c.args.zeros.now) c.clear_next.ensures.moments
    c.put_block.new.disk c.put_block.ensures.moments c.put_text.new.disk (text_within g.D.Disk _ _ c.place_in-place.result (length c.args.link.now) (omega (arith, c.told-link)) c.put_text.ensures.moments) c.open_gate.new.disk c.open_gate.ensures.moments c.in_ok-put_block.ensures.blank (stored g (goal.at.returns-clause-moments g c).After-open_gate)

pub returns-clause-keys : goal.returns-clause-keys
returns-clause-keys g c desk fits can base slots =
    keys4 g.D.Disk desk (key_from c.args.kind c.args.secret.now) c.args.disk.now fits can c.args.base c.args.slots c.place_in-end.result c.place_in-place.result base slots c.place_in-end.ensures.place c.place_in-place.ensures.place c.clear_next.new.disk (length c.args.zeros.now) c.clear_next.ensures.moments
    c.put_block.new.disk c.put_block.ensures.moments c.put_text.new.disk (text_within g.D.Disk _ _ c.place_in-place.result (length c.args.link.now) (omega (arith, c.told-link)) c.put_text.ensures.moments) c.open_gate.new.disk c.open_gate.ensures.moments c.in_ok-put_block.ensures.blank (stored g (goal.at.returns-clause-keys g c).After-open_gate)

pub returns-clause-fits : goal.returns-clause-fits
returns-clause-fits g c desk fits can base slots =
    let at = (goal.at.returns-clause-fits g c).After-open_gate in
    on_ok_both c.open_gate.result _ _ _ c.open_gate.ensures.stored c.open_gate.ensures.settled (λ gate settled.
    fits4 g.D.Disk desk (key_from c.args.kind c.args.secret.now) c.args.disk.now fits can c.args.base c.args.slots c.place_in-end.result c.place_in-place.result base slots c.place_in-end.ensures.place c.place_in-place.ensures.place c.clear_next.new.disk (length c.args.zeros.now) c.clear_next.ensures.moments
    c.put_block.new.disk c.put_block.ensures.moments c.put_text.new.disk (text_within g.D.Disk _ _ c.place_in-place.result (length c.args.link.now) (omega (arith, c.told-link)) c.put_text.ensures.moments) c.open_gate.new.disk c.open_gate.ensures.moments c.in_ok-put_block.ensures.blank (stored g at) (size g at) gate settled)

pub returns-clause-signed : goal.returns-clause-signed
returns-clause-signed g c desk fits can base slots =
    let at = (goal.at.returns-clause-signed g c).After-open_gate in
    on_ok c.open_gate.result _ _ c.open_gate.ensures.stored (λ gate.
    signed4 g.D.Disk desk (key_from c.args.kind c.args.secret.now) c.args.disk.now fits can c.args.base c.args.slots c.place_in-end.result c.place_in-place.result base slots c.place_in-end.ensures.place c.place_in-place.ensures.place c.clear_next.new.disk (length c.args.zeros.now) c.clear_next.ensures.moments
    c.put_block.new.disk c.put_block.ensures.moments c.put_text.new.disk (text_within g.D.Disk _ _ c.place_in-place.result (length c.args.link.now) (omega (arith, c.told-link)) c.put_text.ensures.moments) c.open_gate.new.disk c.open_gate.ensures.moments c.in_ok-put_block.ensures.blank (stored g at) (size g at) gate)

pub returns-clause-unspent : goal.returns-clause-unspent
returns-clause-unspent g c =
    on_ok c.open_gate.result _ _ c.open_gate.ensures.stored (λ gate.
    unspent g.D.Disk (key_from c.args.kind c.args.secret.now) c.clear_next.new.disk c.put_block.new.disk c.put_text.new.disk c.open_gate.new.disk c.args.base c.args.slots c.place_in-end.result c.place_in-place.result (length c.args.zeros.now)
    c.requires.some c.place_in-end.ensures.place c.place_in-place.ensures.place (some_zeros c.args.zeros.now c.args.kind c.requires.zeros) c.in_ok-clear_next.ensures.cleared c.put_block.ensures.moments c.in_ok-put_block.ensures.blank (text_within g.D.Disk _ _ c.place_in-place.result (length c.args.link.now) (omega (arith, c.told-link)) c.put_text.ensures.moments) c.open_gate.ensures.moments)

pub returns-clause-counted : goal.returns-clause-counted
returns-clause-counted g c =
    on_ok c.open_gate.result _ _ c.open_gate.ensures.counted (λ opened. omega (arith, c.in_ok-clear_next.ensures.counted, c.in_ok-put_block.ensures.counted, c.in_ok-put_text.ensures.counted, opened))

-- the slot of the link lies before the new area
lies_before : (base slots end place : ℕ) → 0 < slots → end ≡ place_in base slots → place ≡ place_in base (slots - 1) → place + 128 ≤ end
lies_before base slots end place some end_is place_is = omega (arith, some, end_is, place_is)

pub returns-in_err-clear_next-clause-raises : goal.returns-in_err-clear_next-clause-raises
returns-in_err-clear_next-clause-raises g c =
    raises_as g.D.Disk (key_from c.args.kind c.args.secret.now) c.args.disk.now c.clear_next.new.disk c.place_in-end.result (place_in c.args.base (c.args.slots - 1)) _ _ c.place_in-end.ensures.place refl
    (raises1 g.D.Disk (key_from c.args.kind c.args.secret.now) c.place_in-end.result (place_in c.args.base (c.args.slots - 1)) (lies_before c.args.base c.args.slots c.place_in-end.result (place_in c.args.base (c.args.slots - 1)) c.requires.some c.place_in-end.ensures.place refl) c.args.disk.now (λ i now. omega (arith, c.requires.within i now, c.place_in-end.ensures.place)) c.clear_next.new.disk (length c.args.zeros.now) c.clear_next.ensures.moments)

pub returns-in_err-put_block-clause-raises : goal.returns-in_err-put_block-clause-raises
returns-in_err-put_block-clause-raises g c =
    raises_as g.D.Disk (key_from c.args.kind c.args.secret.now) c.args.disk.now c.put_block.new.disk c.place_in-end.result (place_in c.args.base (c.args.slots - 1)) _ _ c.place_in-end.ensures.place refl
    (raises2 g.D.Disk (key_from c.args.kind c.args.secret.now) c.place_in-end.result (place_in c.args.base (c.args.slots - 1)) (lies_before c.args.base c.args.slots c.place_in-end.result (place_in c.args.base (c.args.slots - 1)) c.requires.some c.place_in-end.ensures.place refl) c.args.disk.now (λ i now. omega (arith, c.requires.within i now, c.place_in-end.ensures.place)) c.clear_next.new.disk (length c.args.zeros.now) c.clear_next.ensures.moments c.put_block.new.disk c.put_block.ensures.moments)

pub returns-in_err-put_text-clause-raises : goal.returns-in_err-put_text-clause-raises
returns-in_err-put_text-clause-raises g c =
    raises_as g.D.Disk (key_from c.args.kind c.args.secret.now) c.args.disk.now c.put_text.new.disk c.place_in-end.result c.place_in-place.result _ _ c.place_in-end.ensures.place c.place_in-place.ensures.place
    (raises3 g.D.Disk (key_from c.args.kind c.args.secret.now) c.place_in-end.result c.place_in-place.result (lies_before c.args.base c.args.slots c.place_in-end.result c.place_in-place.result c.requires.some c.place_in-end.ensures.place c.place_in-place.ensures.place) c.args.disk.now (λ i now. omega (arith, c.requires.within i now, c.place_in-end.ensures.place)) c.clear_next.new.disk (length c.args.zeros.now) c.clear_next.ensures.moments c.put_block.new.disk c.put_block.ensures.moments c.put_text.new.disk (raised_text g.D.Disk _ _ c.place_in-place.result (length c.args.link.now) c.told-link c.put_text.ensures.moments))

pub returns-clause-raises : goal.returns-clause-raises
returns-clause-raises g c =
    raises_as g.D.Disk (key_from c.args.kind c.args.secret.now) c.args.disk.now c.open_gate.new.disk c.place_in-end.result c.place_in-place.result _ _ c.place_in-end.ensures.place c.place_in-place.ensures.place
    (raises4 g.D.Disk (key_from c.args.kind c.args.secret.now) c.place_in-end.result c.place_in-place.result (lies_before c.args.base c.args.slots c.place_in-end.result c.place_in-place.result c.requires.some c.place_in-end.ensures.place c.place_in-place.ensures.place) c.args.disk.now (λ i now. omega (arith, c.requires.within i now, c.place_in-end.ensures.place)) c.clear_next.new.disk (length c.args.zeros.now) c.clear_next.ensures.moments c.put_block.new.disk c.put_block.ensures.moments c.put_text.new.disk (raised_text g.D.Disk _ _ c.place_in-place.result (length c.args.link.now) c.told-link c.put_text.ensures.moments) c.open_gate.new.disk c.open_gate.ensures.moments (some_zeros c.args.zeros.now c.args.kind c.requires.zeros) c.in_ok-clear_next.ensures.cleared c.in_ok-put_block.ensures.blank)
