-- An audit has one result over its files and the disk's contents.
use Rattle.std.proofs.Common.{◌≡◌, inl, inr, ℕ, List, refl, sym, subst, ◌∙◌}
use Rattle.std.specs.declared.option.Option.{Option}
use Rattle.std.specs.declared.option.Option.TheVariants.{Some}
use Rattle.std.specs.declared.result.Result.{Result}
use Rattle.sha2.specs.Sha256.{sha256}
use Rattle.lms_tree.specs.declared.links.Link.{Link}
use Rattle.desk_look.specs.Forgeries.{AreSigned, Forges}
use Rattle.desk_look.specs.declared.forgery.Forgery.{Forgery}
use Rattle.proof_octets.specs.declared.header.Header.{Header}
use Rattle.proof_octets.specs.declared.publication.Publication.{Publication}
use Rattle.proof_octets.specs.Headers.{header_text}
use Rattle.route_audit.specs.Kinds.{AreReplies, ReplyKind}
use Rattle.road_io.specs.Contents.{Folder}
use Rattle.command_files.specs.Reading.{octets_at, publication_at, chain_at}
use Rattle.command_files.specs.HexFiles.{public_key_at}
use Rattle.command_files.specs.Endings.{Ending, EndsReading}
use Rattle.command_files.proofs.OneEnd.{HasOneEnd, one_reading}
use Rattle.command_desks.proofs.Openings.{one_opening}
use Rattle.command_books.specs.Installing.{EndsInstalling}
use Rattle.command_books.proofs.OneBuilding.{OneMaking, one_installing}
use Rattle.audit_commands.specs.Auditing.{EndsOwnersKey, EndsClient, EndsSigned, EndsSameHeader, EndsComparing, EndsAudit, ends_audit}
use Rattle.audit_commands.specs.Owners.{look_in}
use Rattle.command_files.specs.declared.fault.Fault.{Fault}
use Rattle.command_files.specs.declared.ended.Conclusion.{Conclusion}

-- a text that an image has signed is not a forgery in this image
not_both : (content key : List ℕ) (links : List Link) (header signature : List ℕ) (f : Forgery) → Forges (look_in content) key links header signature f → AreSigned (look_in content) links header → ⊥
not_both content key links header signature f forges signed = elim forges.first [
  | inl h ↦ let at = signed.linked h.number h.known in h.unsigned at.0 at.1
  | inr h ↦ h.unsigned signed.sealed.0 signed.sealed.1
]

module _ {Q A X E : Type 0} (kind : ReplyKind Q A X E) (line : E → List ℕ) (laws : AreReplies kind) where
  module _ (o e : Result Conclusion Fault) (s t : List ℕ) where
    one_owner : (content key : List ℕ) (Next : Ending) → (Next o s → Next e t → o ≡ e) → EndsOwnersKey (Some content) key Next o s → EndsOwnersKey (Some content) key Next e t → o ≡ e
    one_owner content key Next one (inl a) (inl b) = a.0 ∙ sym b.0
    one_owner content key Next one (inl a) (inr b) = absurd (a.1 content refl (b.0 content refl))
    one_owner content key Next one (inr a) (inl b) = absurd (b.1 content refl (a.0 content refl))
    one_owner content key Next one (inr a) (inr b) = one a.1 b.1

    one_client : (key : List ℕ) (links : List Link) (octets : List ℕ) (q : Q) (Next : X → A → Ending) → ((x : X) (a : A) → Next x a o s → Next x a e t → o ≡ e)
        → EndsClient kind line key links octets q Next o s → EndsClient kind line key links octets q Next e t → o ≡ e
    one_client key links octets q Next next (inl a) (inl b) = a.2 ∙ sym b.2
    one_client key links octets q Next next (inl a) (inr b) = absurd (laws.not_refused sha256 key links octets q b.0 b.1 a.0 b.2 a.1)
    one_client key links octets q Next next (inr a) (inl b) = absurd (laws.not_refused sha256 key links octets q a.0 a.1 b.0 a.2 b.1)
    one_client key links octets q Next next (inr a) (inr b) =
        let taken : b.0 ≡ a.0 = laws.one_taken sha256 key links octets q b.0 a.0 b.1 a.1 b.2 a.2 in
        let answer : b.1 ≡ a.1 = laws.one_answer octets b.1 a.1 (laws.spelled sha256 key links octets q 0 b.0 b.1 b.2) (laws.spelled sha256 key links octets q 0 a.0 a.1 a.2) in
        let of_x : Next a.0 b.1 e t = subst (λ (x : X). Next x b.1 e t) taken b.3 in
        next a.0 a.1 a.3 (subst (λ (y : A). Next a.0 y e t) answer of_x)

    one_signed : (content key : List ℕ) (links : List Link) (h : Header) (signature : List ℕ) (Next : Ending) → (Next o s → Next e t → o ≡ e) → EndsSigned (Some content) key links h signature Next o s → EndsSigned (Some content) key links h signature Next e t → o ≡ e
    one_signed content key links header signature Next one (inl h) (inl k) = h.0 ∙ sym k.0
    one_signed content key links header signature Next one (inl h) (inr k) = absurd (not_both content key links (header_text header) signature h.1 (h.2 content refl) (k.0 content refl))
    one_signed content key links header signature Next one (inr h) (inl k) = absurd (not_both content key links (header_text header) signature k.1 (k.2 content refl) (h.0 content refl))
    one_signed content key links header signature Next one (inr h) (inr k) = one h.1 k.1

    one_same : (p : Publication) (header : Header) (Next : Ending) → (Next o s → Next e t → o ≡ e) → EndsSameHeader p header Next o s → EndsSameHeader p header Next e t → o ≡ e
    one_same p header Next one (inl h) (inl k) = h.0 ∙ sym k.0
    one_same p header Next one (inl h) (inr k) = absurd (h.1 k.0)
    one_same p header Next one (inr h) (inl k) = absurd (k.1 h.0)
    one_same p header Next one (inr h) (inr k) = one h.1 k.1

    one_comparing : (p : Publication) (q : Q) (x : X) (a : A) → EndsComparing kind p q x a o s → EndsComparing kind p q x a e t → o ≡ e
    one_comparing p q x a (inl h) (inl k) = h.0 ∙ sym k.0
    one_comparing p q x a (inl h) (inr k) = absurd (laws.not_both sha256 sha256 p q x a k.1 h.1 k.2)
    one_comparing p q x a (inr h) (inl k) = absurd (laws.not_both sha256 sha256 p q x a h.1 k.1 h.2)
    one_comparing p q x a (inr h) (inr k) = h.0 ∙ sym k.0

  -- over the contents of a disk, an audit has one end
  one_audit : OneMaking → (content key : List ℕ) (links : List Link) (b : Publication) (octets : List ℕ) (q : Q) (o e : Result Conclusion Fault) (s t : List ℕ)
      → EndsAudit kind line (Some content) key links b octets q o s → EndsAudit kind line (Some content) key links b octets q e t → o ≡ e
  one_audit makings content key links b octets q o e s t =
      one_opening content Owner o e s t (one_owner o e s t content key Client (one_client o e s t key links octets q Install install))
    where
      Behind : X → A → Result Conclusion Fault → List ℕ → Type 0
      Behind x a = EndsSigned (Some content) key links (kind.header a) (kind.signature a) (EndsSameHeader b (kind.header a) (EndsComparing kind b q x a))

      Install : X → A → Result Conclusion Fault → List ℕ → Type 0
      Install x a = EndsInstalling b (Behind x a)

      Client : Result Conclusion Fault → List ℕ → Type 0
      Client = EndsClient kind line key links octets q Install

      Owner : Result Conclusion Fault → List ℕ → Type 0
      Owner = EndsOwnersKey (Some content) key Client

      install : (x : X) (a : A) → Install x a o s → Install x a e t → o ≡ e
      install x a =
          one_installing makings b (Behind x a) o e s t
          (one_signed o e s t content key links (kind.header a) (kind.signature a) (EndsSameHeader b (kind.header a) (EndsComparing kind b q x a)) (one_same o e s t b (kind.header a) (EndsComparing kind b q x a) (one_comparing o e s t b q x a)))

  -- so it has one end over its files
  pub only_audit : OneMaking → (content key publication reply : List ℕ) (q : Q) (chain : Option (List ℕ)) (folder : Folder) → HasOneEnd (ends_audit kind line (Some content) key publication reply q chain folder)
  only_audit makings content key publication reply q chain folder =
      one_reading (public_key_at folder key) (λ k. EndsReading (publication_at folder publication) (λ p. EndsReading (octets_at folder reply) (λ octets. EndsReading (chain_at folder chain) (λ links. EndsAudit kind line (Some content) k links p octets q))))
      (λ k. one_reading (publication_at folder publication) (λ p. EndsReading (octets_at folder reply) (λ octets. EndsReading (chain_at folder chain) (λ links. EndsAudit kind line (Some content) k links p octets q)))
      (λ p. one_reading (octets_at folder reply) (λ octets. EndsReading (chain_at folder chain) (λ links. EndsAudit kind line (Some content) k links p octets q))
      (λ octets. one_reading (chain_at folder chain) (λ links. EndsAudit kind line (Some content) k links p octets q) (λ links. one_audit makings content k links p octets q))))
