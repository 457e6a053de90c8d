-- An image has at most one sight.
use Rattle.std.proofs.Common.{◌≡◌, ℕ, suc, List, Option, Some, None, Bool, true, false, Result, Ok, MatchOption, ◌↔◌, arith, inl, inr, refl, sym, ◌∙◌, ap, subst}
use Rattle.std.proofs.lemmas.Bool.{cases_lt}
use Rattle.octet_text.specs.Format.{whole}
use Rattle.octet_text.proofs.Fields.{whole_again}
use Rattle.desk_areas.specs.Layout.{place_in, base_of, place_of}
use Rattle.desk_areas.proofs.Growth.{one_current}
use Rattle.proof_octets.specs.Headers.{header}
use Rattle.proof_octets.specs.declared.header.Header.{Header}
use Rattle.proof_octets.proofs.FormatLaws.{header_exact}
use Rattle.desk_sight.specs.Texts.{HasHeader}
use Rattle.desk_sight.specs.Slots.{IsOrderly, IsWaitingIn}
use Rattle.desk_sight.specs.Areas.{early_at, IsFollowed, IsWaitingLink}
use Rattle.desk_sight.specs.Sights.{HasNoneSigned, IsLastSigned, IsGreatestSigned, IsSight, IsSightOf}
use Rattle.desk_sight.specs.declared.slots.Signed.{Signed}
use Rattle.desk_sight.specs.declared.sight.Sight.{Sight}
use Rattle.desk_sight.proofs.Unlinked.{one_link}

-- a fact that holds of at most one value gives at most one option
option_once : {A : Type 0} (Q : Type 0) (P : A → Type 0) → (Q → (x : A) → P x → ⊥) → ((x y : A) → P x → P y → x ≡ y) → (a b : Option A) → MatchOption a Q P → MatchOption b Q P → a ≡ b
option_once {A} Q P none one None None p q = refl
option_once {A} Q P none one None (Some y) p q = absurd (none p y q)
option_once {A} Q P none one (Some x) None p q = absurd (none q x p)
option_once {A} Q P none one (Some x) (Some y) p q = ap Some (one x y p q)

bool_once : (a b : Bool) (P : Type 0) → (a ≡ true) ↔ P → (b ≡ true) ↔ P → a ≡ b
bool_once true true P p q = refl
bool_once true false P p q = sym (q.1 (p.0 refl))
bool_once false true P p q = p.1 (q.0 refl)
bool_once false false P p q = refl

ok_once : (x y : Header) → ◌≡◌ {A = Result Header ℕ} (Ok x) (Ok y) → x ≡ y
ok_once x y is = cc

signed_once : (a b : Signed) → a.version ≡ b.version → a.nodes ≡ b.nodes → a ≡ b
signed_once a b version nodes = ap (λ (v : ℕ). record { version = v; nodes = a.nodes }) version ∙ ap (λ (n : ℕ). record { version = b.version; nodes = n }) nodes

module _ (image : List ℕ) where
  header_once : (place : ℕ) (a b : Signed) → HasHeader image place a → HasHeader image place b → a ≡ b
  header_once place a b x y =
      let same : x.whole ≡ y.whole = ok_once x.whole y.whole (sym (whole_again header header_exact x.whole x.fits) ∙ ap (λ (t : List ℕ). whole header t) (sym x.text ∙ y.text) ∙ whole_again header header_exact y.whole y.fits) in
      signed_once a b (x.version ∙ ap (λ (h : Header). h.version) same ∙ sym y.version) (x.nodes ∙ ap (λ (h : Header). h.nodes) same ∙ sym y.nodes)

  spent_once : (base count a b : ℕ) → IsOrderly image base a count → IsOrderly image base b count → a ≡ b
  spent_once base count a b so_a so_b = elim (cases_lt a b) [
    | inl less ↦
        let few = so_b.few in
        let gate = so_b.used a less in
        let shut = so_a.shut a (omega arith) (omega (arith, less, few)) in
        absurd (omega (arith, gate, shut))
    | inr not ↦ elim (cases_lt b a) [
      | inl less ↦
          let few = so_a.few in
          let gate = so_a.used b less in
          let shut = so_b.shut b (omega arith) (omega (arith, less, few)) in
          absurd (omega (arith, gate, shut))
      | inr le ↦ omega (arith, not, le)
    ]
  ]

  waiting_once : (base spent count : ℕ) (a b : Signed) → IsWaitingIn image base spent count a → IsWaitingIn image base spent count b → a ≡ b
  waiting_once base spent count a b x y = header_once (place_in base spent) a b x.header y.header

  last_once : (areas : ℕ) (a b : Signed) → IsLastSigned image areas a → IsLastSigned image areas b → a ≡ b
  last_once areas a b x y = elim (cases_lt x.slot.area y.slot.area) [
    | inl less ↦ absurd (x.later y.slot b (inl less) y.has)
    | inr ge ↦ elim (cases_lt y.slot.area x.slot.area) [
      | inl less ↦ absurd (y.later x.slot a (inl less) x.has)
      | inr le ↦
          let area : x.slot.area ≡ y.slot.area = omega (arith, ge, le) in
          elim (cases_lt x.slot.number y.slot.number) [
            | inl less ↦ absurd (x.later y.slot b (inr (area, less)) y.has)
            | inr above ↦ elim (cases_lt y.slot.number x.slot.number) [
              | inl less ↦ absurd (y.later x.slot a (inr (sym area, less)) x.has)
              | inr below ↦
                  let number : x.slot.number ≡ y.slot.number = omega (arith, above, below) in
                  let place : place_of image x.slot ≡ place_of image y.slot = ap (λ (k : ℕ). place_in (base_of image k) x.slot.number) area ∙ ap (λ (n : ℕ). place_in (base_of image y.slot.area) n) number in
                  header_once (place_of image y.slot) a b (subst (λ (p : ℕ). HasHeader image p a) place x.has.header) y.has.header
            ]
          ]
    ]
  ]

  none_last : (areas : ℕ) → HasNoneSigned image areas → (a : Signed) → IsLastSigned image areas a → ⊥
  none_last areas none a x = none x.slot a x.has

  greatest_once : (areas v w : ℕ) → IsGreatestSigned image areas v → IsGreatestSigned image areas w → v ≡ w
  greatest_once areas v w x y =
      let low = x.most y.slot y.signed y.has in
      let high = y.most x.slot x.signed x.has in
      let one = x.is in
      let other = y.is in
      omega (arith, low, high, one, other)

  none_greatest : (areas : ℕ) → HasNoneSigned image areas → (v : ℕ) → IsGreatestSigned image areas v → ⊥
  none_greatest areas none v x = none x.slot x.signed x.has

  link_once : (area : ℕ) (a b : List ℕ) → IsWaitingLink image area a → IsWaitingLink image area b → a ≡ b
  link_once area a b x y = one_link a b (sym x.names.is ∙ y.names.is)

  fields_once : (a b : Sight) → a.key ≡ b.key → a.size ≡ b.size → a.spent ≡ b.spent → a.last ≡ b.last → a.greatest ≡ b.greatest → a.waiting ≡ b.waiting → a.link ≡ b.link → a.is_followed ≡ b.is_followed → a ≡ b
  fields_once a b key size spent last greatest waiting link followed =
      ap (λ (x : ℕ). record { key = x; size = a.size; spent = a.spent; last = a.last; greatest = a.greatest; waiting = a.waiting; link = a.link; is_followed = a.is_followed }) key
      ∙ ap (λ (x : ℕ). record { key = b.key; size = x; spent = a.spent; last = a.last; greatest = a.greatest; waiting = a.waiting; link = a.link; is_followed = a.is_followed }) size
      ∙ ap (λ (x : ℕ). record { key = b.key; size = b.size; spent = x; last = a.last; greatest = a.greatest; waiting = a.waiting; link = a.link; is_followed = a.is_followed }) spent
      ∙ ap (λ (x : Option Signed). record { key = b.key; size = b.size; spent = b.spent; last = x; greatest = a.greatest; waiting = a.waiting; link = a.link; is_followed = a.is_followed }) last
      ∙ ap (λ (x : Option ℕ). record { key = b.key; size = b.size; spent = b.spent; last = b.last; greatest = x; waiting = a.waiting; link = a.link; is_followed = a.is_followed }) greatest
      ∙ ap (λ (x : Option Signed). record { key = b.key; size = b.size; spent = b.spent; last = b.last; greatest = b.greatest; waiting = x; link = a.link; is_followed = a.is_followed }) waiting
      ∙ ap (λ (x : Option (List ℕ)). record { key = b.key; size = b.size; spent = b.spent; last = b.last; greatest = b.greatest; waiting = b.waiting; link = x; is_followed = a.is_followed }) link
      ∙ ap (λ (x : Bool). record { key = b.key; size = b.size; spent = b.spent; last = b.last; greatest = b.greatest; waiting = b.waiting; link = b.link; is_followed = x }) followed

  same_area : (area : ℕ) (a b : Sight) → IsSightOf image area a → IsSightOf image area b → a ≡ b
  same_area area a b x y =
      let spent : a.spent ≡ b.spent = spent_once (base_of image area) (early_at image area) a.spent b.spent x.slots y.slots in
      let waits = subst (λ (n : ℕ). MatchOption a.waiting ((s : Signed) → IsWaitingIn image (base_of image area) n (early_at image area) s → ⊥) (IsWaitingIn image (base_of image area) n (early_at image area))) spent x.waiting in
      fields_once a b (x.key ∙ sym y.key) (x.size ∙ sym y.size) spent
      (option_once (HasNoneSigned image (suc area)) (IsLastSigned image (suc area)) (none_last (suc area)) (last_once (suc area)) a.last b.last x.told.last y.told.last)
      (option_once (HasNoneSigned image (suc area)) (IsGreatestSigned image (suc area)) (none_greatest (suc area)) (greatest_once (suc area)) a.greatest b.greatest x.told.greatest y.told.greatest)
      (option_once _ (IsWaitingIn image (base_of image area) b.spent (early_at image area)) (λ none. none) (waiting_once (base_of image area) b.spent (early_at image area)) a.waiting b.waiting waits y.waiting)
      (option_once _ (IsWaitingLink image area) (λ none. none) (link_once area) a.link b.link x.link y.link)
      (bool_once a.is_followed b.is_followed (IsFollowed image area) x.followed y.followed)

  pub one_sight : (a b : Sight) → IsSight image a → IsSight image b → a ≡ b
  one_sight a b x y =
      let area : x.area ≡ y.area = one_current image x.area y.area x.current y.current in
      same_area y.area a b (subst (λ (k : ℕ). IsSightOf image k a) area x.here) y.here
