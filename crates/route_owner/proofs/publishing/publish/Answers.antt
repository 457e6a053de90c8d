use Rattle.std.proofs.Common.{◌≡◌, ◌≢◌, ◌≤◌, ◌+◌, ◌<◌, ℕ, rules, List, length, ◌∙◌, ap, subst, sym, arith}
use Rattle.lms_tree.specs.Signatures.{KeyOf, number_at}
use Rattle.desk_areas.specs.Layout.{slots_of}
use Rattle.route_owner.proofs.Sealing.{all_written, fits_with, no_link, signed_so, signs_header, signs_lowest, sealed_so, published_so, seal_short}
use Rattle.route_server.specs.declared.errors.BuildError.TheVariants as build_errors
use Rattle.route_owner.proofs.Refusing.{no_reason, none_refused, desk_refused, book_refused}
use Rattle.route_owner.proofs.publishing.publish.Goals as goal
use Rattle.octet_text.specs.Want.{no_memory}

signature_is : (g : _) (c : goal.After-result-in-Ok-sign-1 g) → c.from_vec.result ≡ c.sign.new.out
signature_is g c = c.from_vec.ensures ∙ all_written _ _ _ c.in-Ok-zeros.signature.ok.0 (c.sign.auto.out ∙ ap length c.deref_mut.ensures.value)

pub sign-requires-clause-plain : goal.sign-requires-clause-plain
sign-requires-clause-plain g c = no_link c.in-Ok.signable.header _ (c.length_laws.ensures.header _ c.in-Ok.ensures.signable.good_header) c.write.ensures

pub returns-in-Ok-sign-clause-published : goal.returns-in-Ok-sign-clause-published
returns-in-Ok-sign-clause-published g c =
    published_so c.range_laws.ensures.publication _ _ _ _ _ _ _ _ _ _ _ c.in-Ok.ensures.signable (signature_is g c)
    (seal_short c.args.desk.now.key.kind _ 0 c.sign.new.out c.sig_len.ensures (c.sign.auto.out ∙ ap length c.deref_mut.ensures.value ∙ c.in-Ok-zeros.ensures))
    c.in-Ok-sign.ensures.same.key c.in-Ok-sign.ensures.early c.write.ensures c.in-Ok-sign.ensures.signature c.in-Ok-sign.ensures.exact

pub returns-in-Ok-sign-clause-sealed : goal.returns-in-Ok-sign-clause-sealed
returns-in-Ok-sign-clause-sealed g c =
    sealed_so _ _ _ _ c.sign.new.self _ c.in-Ok-sign.field-0 _ (ap (λ x. number_at x 0) (signature_is g c) ∙ c.in-Ok-sign.ensures.signature.number_is) c.write.ensures
    c.in-Ok-sign.ensures.fits.areas (ap length c.in-Ok-sign.ensures.same.earlier)
    (subst (λ (k : KeyOf). c.in-Ok-sign.field-0 + 1 < slots_of k.kind) (sym c.in-Ok-sign.ensures.same.key) c.in-Ok-sign.ensures.early) c.in-Ok-sign.ensures.was_free c.in-Ok-sign.ensures.signed.signed

pub returns-in-Ok-sign-clause-moments : goal.returns-in-Ok-sign-clause-moments
returns-in-Ok-sign-clause-moments g c =
    signs_header _ _ _ _ _ _ c.in-Ok.signable.header _ c.args.desk.now c.in-Ok-sign.ensures.moments.0 c.in-Ok.ensures.signable.has c.write.ensures (c.length_laws.ensures.header _ c.in-Ok.ensures.signable.good_header) c.requires.areas c.in-Ok-sign.ensures.moments.2 c.in-Ok-sign.ensures.moments.3

pub returns-in-Err-sign-clause-moments : goal.returns-in-Err-sign-clause-moments
returns-in-Err-sign-clause-moments g c =
    signs_header _ _ _ _ _ _ c.in-Ok.signable.header _ c.args.desk.now c.in-Err-sign.ensures.moments.0 c.in-Ok.ensures.signable.has c.write.ensures (c.length_laws.ensures.header _ c.in-Ok.ensures.signable.good_header) c.requires.areas c.in-Err-sign.ensures.moments.2 c.in-Err-sign.ensures.moments.3

pub returns-in-Ok-sign-clause-refused_else : goal.returns-in-Ok-sign-clause-refused_else
returns-in-Ok-sign-clause-refused_else g c =
    none_refused c.server_laws.ensures g.H.Hasher.hash c.args.parts c.args.settings.now c.args.desk.now _ c.in-Ok.signable.header c.in-Ok-sign.field-0 c.in-Ok.ensures.signable.has c.in-Ok-sign.ensures.not_free (λ is. c.in-Ok-sign.ensures.closed.1 is)

pub returns-in-Err-sign-clause-refused_else : goal.returns-in-Err-sign-clause-refused_else
returns-in-Err-sign-clause-refused_else g c =
    desk_refused c.server_laws.ensures g.H.Hasher.hash c.args.parts c.args.settings.now c.args.desk.now c.in-Err-sign.fault c.in-Ok.signable.header c.in-Ok.ensures.signable.has c.in-Err-sign.ensures.not_free (λ is. c.in-Err-sign.ensures.closed.1 is)

pub returns-in-Err-clause-refused_else : goal.returns-in-Err-clause-refused_else
returns-in-Err-clause-refused_else g c =
    let other : c.in-Err.fault ≢ (build_errors.Memory no_memory) = search rules in
    book_refused c.server_laws.ensures g.H.Hasher.hash c.args.parts c.args.settings.now c.args.desk.now c.in-Err.fault (c.in-Err.ensures.refused, other)

pub returns-in-Err-clause-succeeds : goal.returns-in-Err-clause-succeeds
returns-in-Err-clause-succeeds g c can still =
    let other : c.in-Err.fault ≢ (build_errors.Memory no_memory) = search rules in
    absurd (no_reason c.server_laws.ensures g.H.Hasher.hash c.args.parts c.args.settings.now c.args.desk.now can.header c.in-Err.fault can.has (c.in-Err.ensures.refused, other))

pub returns-in-Ok-sign-clause-lowest : goal.returns-in-Ok-sign-clause-lowest
returns-in-Ok-sign-clause-lowest g c s before = c.in-Ok-sign.ensures.lowest s (subst (λ (n : ℕ). s < n) (ap (λ x. number_at x 0) (signature_is g c) ∙ c.in-Ok-sign.ensures.signature.number_is) before)

pub returns-in-Ok-sign-clause-lowest_moments : goal.returns-in-Ok-sign-clause-lowest_moments
returns-in-Ok-sign-clause-lowest_moments g c either =
    signs_lowest _ _ _ _ _ _ c.in-Ok.signable.header _ c.args.desk.now c.in-Ok-sign.ensures.moments.0 c.in-Ok.ensures.signable.has c.write.ensures (c.length_laws.ensures.header _ c.in-Ok.ensures.signable.good_header) c.requires c.in-Ok-sign.ensures.moments.2 either c.in-Ok-sign.ensures.moments.3

pub returns-in-Err-sign-clause-lowest_moments : goal.returns-in-Err-sign-clause-lowest_moments
returns-in-Err-sign-clause-lowest_moments g c either =
    signs_lowest _ _ _ _ _ _ c.in-Ok.signable.header _ c.args.desk.now c.in-Err-sign.ensures.moments.0 c.in-Ok.ensures.signable.has c.write.ensures (c.length_laws.ensures.header _ c.in-Ok.ensures.signable.good_header) c.requires c.in-Err-sign.ensures.moments.2 either c.in-Err-sign.ensures.moments.3
