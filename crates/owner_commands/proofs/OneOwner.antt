-- `key`, `desk` and `publish` each have one result over their files and the disk's contents.
use Rattle.std.proofs.Common.{◌≡◌, ℕ, ◌+◌, ◌<◌, List, refl, sym, ap, ◌∙◌, arith}
use Rattle.std.specs.declared.option.Option.TheVariants.{Some}
use Rattle.std.specs.declared.result.Result.{Result}
use Rattle.std.specs.declared.result.Result.TheVariants.{Ok, Err}
use Rattle.road_io.specs.Contents.{Folder}
use Rattle.road_map.specs.declared.parts.Parts.{Parts}
use Rattle.book_model.specs.declared.settings.Settings.{Settings}
use Rattle.proof_octets.specs.declared.header.Header.{Header}
use Rattle.proof_octets.specs.declared.publication.Publication.{Publication}
use Rattle.route_owner.specs.Published.{slot_of, slot_in}
use Rattle.desk_areas.specs.Layout.{slots_of, slots_at, base_of, gate_of}
use Rattle.desk_areas.proofs.Growth.{one_current}
use Rattle.command_files.specs.Reading.{parts_at}
use Rattle.command_files.specs.HexFiles.{secret_at}
use Rattle.command_files.specs.declared.fault.Fault.{Fault}
use Rattle.command_files.specs.declared.fault.Fault.TheVariants.{KeysUsedUp, Held}
use Rattle.command_files.specs.declared.ended.Conclusion.{Conclusion}
use Rattle.command_files.specs.declared.ended.Conclusion.TheVariants.{Done}
use Rattle.command_files.proofs.OneEnd.{HasOneEnd, one_reading}
use Rattle.command_desks.proofs.Openings.{one_opening}
use Rattle.command_books.specs.Installing.{EndsBuilding}
use Rattle.command_books.proofs.OneBuilding.{OneMaking, one_building}
use Rattle.owner_commands.specs.OwnerKey.{EndsKey, ends_key}
use Rattle.owner_commands.specs.OwnerDesk.{TellsDesk, EndsDesk}
use Rattle.owner_commands.specs.Publishing.{EndsSigning, EndsPublish, IsSignedFrom, AllSpent, ends_publish}

-- over the contents of a disk, `key` has one end
one_key_end : (content : List ℕ) (kind : ℕ) (secret : List ℕ) (o p : Result Conclusion Fault) (s t : List ℕ) → EndsKey (Some content) kind secret o s → EndsKey (Some content) kind secret p t → o ≡ p
one_key_end content kind secret (Ok Done) (Ok Done) s t h k = refl
one_key_end content kind secret (Ok Done) (Err Held) s t h k = absurd (h.0 content refl (k.0 content refl))
one_key_end content kind secret (Ok Done) p s t h k = absurd k
one_key_end content kind secret (Err Held) (Ok Done) s t h k = absurd (k.0 content refl (h.0 content refl))
one_key_end content kind secret (Err Held) (Err Held) s t h k = refl
one_key_end content kind secret (Err Held) p s t h k = absurd k
one_key_end content kind secret o p s t h k = absurd h

-- a one-time key that was not used cannot be one of those that have all been used
unused_left : (content : List ℕ) (h : Header) (p : Publication) → IsSignedFrom content h p → AllSpent content → ⊥
unused_left content h p is all =
    let here : is.on_disk.area ≡ all.area = one_current content is.on_disk.area all.area is.on_disk.current all.current in
    let slots : slots_at content (base_of content all.area) ≡ slots_of is.key.kind = ap (λ (a : ℕ). slots_at content (base_of content a)) (sym here) ∙ ap slots_of is.on_disk.kind in
    let spent : 0 < gate_of content (slot_in all.area p) = all.spent (slot_of p) (omega (arith, is.slot, slots)) in
    let unused : gate_of content (slot_in all.area p) ≡ 0 = ap (λ (a : ℕ). gate_of content (slot_in a p)) (sym here) ∙ is.unused in
    omega (arith, spent, unused)

-- over parts that have a header, `publish` has one end
one_signing : (content : List ℕ) (parts : Parts) (st : Settings) (h : Header) (o e : Result Conclusion Fault) (s t : List ℕ) → EndsSigning (Some content) parts st h o s → EndsSigning (Some content) parts st h e t → o ≡ e
one_signing content parts st h (Ok Done) (Ok Done) s t a b = refl
one_signing content parts st h (Ok Done) (Err KeysUsedUp) s t a b = absurd (unused_left content h a.0 (a.1.signed content refl) (b.0 content refl))
one_signing content parts st h (Ok Done) e s t a b = absurd b
one_signing content parts st h (Err KeysUsedUp) (Ok Done) s t a b = absurd (unused_left content h b.0 (b.1.signed content refl) (a.0 content refl))
one_signing content parts st h (Err KeysUsedUp) (Err KeysUsedUp) s t a b = refl
one_signing content parts st h (Err KeysUsedUp) e s t a b = absurd b
one_signing content parts st h o e s t a b = absurd a

one_desk : (content : List ℕ) (o e : Result Conclusion Fault) (s t : List ℕ) → TellsDesk (Some content) o s → TellsDesk (Some content) e t → o ≡ e
one_desk content (Ok Done) (Ok Done) s t a b = refl
one_desk content (Ok Done) e s t a b = absurd b
one_desk content o e s t a b = absurd a

one_publish_end : OneMaking → (content : List ℕ) (st : Settings) (parts : Parts) (o e : Result Conclusion Fault) (s t : List ℕ)
    → EndsPublish (Some content) st parts o s → EndsPublish (Some content) st parts e t → o ≡ e
one_publish_end makings content st parts o e s t =
    one_opening content (EndsBuilding parts st (EndsSigning (Some content) parts st)) o e s t
    (one_building (EndsSigning (Some content) parts st) o e s t makings parts st (λ h. one_signing content parts st h o e s t))

-- and so over their files
pub only_key : (content secret : List ℕ) (kind : ℕ) (folder : Folder) → HasOneEnd (ends_key (Some content) secret kind folder)
only_key content secret kind folder = one_reading (secret_at folder secret) (EndsKey (Some content) kind) (λ s. one_key_end content kind s)

pub only_desk : (content : List ℕ) → HasOneEnd (EndsDesk (Some content))
only_desk content o e s t = one_opening content (TellsDesk (Some content)) o e s t (one_desk content o e s t)

pub only_publish : OneMaking → (content roads : List ℕ) (st : Settings) (folder : Folder) → HasOneEnd (ends_publish (Some content) roads st folder)
only_publish makings content roads st folder = one_reading (parts_at folder roads) (EndsPublish (Some content) st) (λ parts. one_publish_end makings content st parts)
