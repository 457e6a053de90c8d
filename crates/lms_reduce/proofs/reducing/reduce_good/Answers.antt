use Rattle.std.proofs.Common.{◌≡◌, ℕ, List, take, drop, Option, Some, None, ap, subst, sym, ◌∙◌, inl, inr}
use Rattle.std.specs.Option.{option_copied}
use Rattle.sha2.specs.Sha256.{sha256}
use Rattle.octet_text.specs.Collisions.{AreCollision}
use Rattle.lms_ots.specs.Chains.{digits_of, randomiser_of}
use Rattle.lms_tree.specs.Signatures.{number_at}
use Rattle.lms_reduce.specs.Comparing.{HasNoLesser, ShowsOwn}
use Rattle.lms_reduce.specs.Released.{claimed_digits, signed_digits}
use Rattle.lms_reduce.specs.Meetings.{MeetOnWay}
use Rattle.lms_reduce.specs.Texts.{message_text}
use Rattle.lms_reduce.specs.declared.comparing.Clash.{Clash}
use Rattle.lms_reduce.proofs.MeetingLemmas.{IfSome-some}
use Rattle.lms_reduce.specs.Reduction.{Reduces}
use Rattle.lms_reduce.specs.declared.reduced.Reduced.{Reduced}
use Rattle.lms_reduce.proofs.DigitLemmas.{text_hash-same}
use Rattle.lms_reduce.proofs.ReduceLemmas.{shows-any, shows-lesser}
use Rattle.lms_reduce.proofs.RootLemmas.{IfNone-none}
use Rattle.lms_reduce.proofs.reducing.reduce_good.Goals as goal
use Rattle.lms_reduce.proofs.reducing.reduce_good.Goals.{After-digits-shown, After-digits}

-- the digits of the text, under the signature's own randomiser
claimed : (c : After-digits-shown) → c.digits-shown.result ≡ claimed_digits c.args.key.now c.args.text.now c.args.sig.now
claimed c =
    let key = c.args.key.now in
    let text = c.args.text.now in
    c.digits-shown.ensures ∙ ap (λ (x : List ℕ). digits_of x c.args.q c.array_at-c.result text) c.i-i.ensures
    ∙ ap (λ n. digits_of key.i n c.array_at-c.result text) c.requires.slot ∙ ap (λ (x : List ℕ). digits_of key.i (number_at c.args.sig.now 0) x text) c.array_at-c.ensures

-- all values are the key's own
shows : (c : After-digits-shown) → ShowsOwn c.args.key.now.i c.args.q c.args.key.now.seed (claimed_digits c.args.key.now c.args.text.now c.args.sig.now) (take 1124 (drop 4 c.args.sig.now))
shows c = IfNone-none c.in_ok-left.field-0 c.in_default.is c.in_ok-left.ensures.none

-- the digits of the text that the slot signed
signed : (c : After-digits) → c.digits.result ≡ signed_digits c.args.key.now c.args.q c.in-Some-spent.own.now
signed c =
    let key = c.args.key.now in
    let q = c.args.q in
    let own = c.in-Some-spent.own.now in
    c.digits.ensures ∙ ap (λ (x : List ℕ). digits_of x q c.randomiser-own_c.result own) c.i-i.ensures
    ∙ ap (λ (x : List ℕ). digits_of key.i q x own) (c.randomiser-own_c.ensures ∙ ap (λ (x : List ℕ). randomiser_of x q c.seed.result) c.i-i.ensures ∙ ap (randomiser_of key.i q) c.seed.ensures)

-- a hashed text, in terms of the key
message_is : (i of_key : List ℕ) (q n : ℕ) (c of_slot text left : List ℕ) → i ≡ of_key → q ≡ n → c ≡ of_slot → left ≡ message_text i q c text → left ≡ message_text of_key n of_slot text
message_is i of_key q n c of_slot text left ei eq ec is =
    is ∙ ap (λ (x : List ℕ). message_text x q c text) ei ∙ ap (λ x. message_text of_key x c text) eq ∙ ap (λ (x : List ℕ). message_text of_key n x text) ec

pub returns-in-Some : goal.returns-in-Some
returns-in-Some c =
    let key = c.args.key.now in
    let text = c.args.text.now in
    let sig = c.args.sig.now in
    let two : Clash = c.in-Some.field-0 in
    record {
      collide = IfSome-some (λ x. AreCollision sha256 x.left x.right) c.in_ok-left.field-0 two c.in-Some.is c.in_ok-left.ensures.found;
      meet = inl (subst (λ n. MeetOnWay key n text sig two.left two.right) c.requires.slot (IfSome-some (λ x. MeetOnWay key c.args.q text sig x.left x.right) c.in_ok-left.field-0 two c.in-Some.is c.in_ok-left.ensures.meet));
    }

pub returns-in_ok-left-in-None : goal.returns-in_ok-left-in-None
returns-in_ok-left-in-None c =
    let key = c.args.key.now in
    let q = c.args.q in
    let sig = c.args.sig.now in
    let own = c.in-Some-spent.own.now in
    let slot = c.requires.slot in
    let own_c : c.randomiser-own_c.result ≡ randomiser_of key.i (number_at sig 0) key.seed = c.randomiser-own_c.ensures ∙ ap (λ (x : List ℕ). randomiser_of x q c.seed.result) c.i-i.ensures ∙ ap (randomiser_of key.i q) c.seed.ensures ∙ ap (λ n. randomiser_of key.i n key.seed) slot in
    record {
      collide = c.in_ok-left-in-None.ensures.collide;
      meet = inr (record {
        other = own;
        signed = ap option_copied c.in-Some-spent.is;
        at = record {
          own = message_is c.i-i.result key.i q (number_at sig 0) c.randomiser-own_c.result (randomiser_of key.i (number_at sig 0) key.seed) own c.in_ok-left-in-None.field-0.left c.i-i.ensures slot own_c c.in_ok-left-in-None.ensures.own;
          shown = message_is c.i-i.result key.i q (number_at sig 0) c.array_at-c.result (take 32 (drop 8 sig)) c.args.text.now c.in_ok-left-in-None.field-0.right c.i-i.ensures slot c.array_at-c.ensures c.in_ok-left-in-None.ensures.shown;
        };
      });
    }

pub returns-in_default-spent : goal.returns-in_default-spent
returns-in_default-spent c =
    let d = (goal.at.returns-in_default-spent c).After-digits-shown in
    let key = c.args.key.now in
    let text = c.args.text.now in
    let sig = c.args.sig.now in
    let nothing : option_copied c.args.spent ≡ None = ap option_copied c.in_default-spent.is in
    subst (λ (s : Option (List ℕ)). Reduces key s text sig c.chain_at.result) (sym nothing)
    (subst (λ (r : Reduced). Reduces key None text sig r) (sym c.chain_at.ensures)
    (shows-any key text sig c.digits-shown.result c.args.q c.requires.slot (claimed d) (shows d)))

pub compare_messages-requires-clause-one_hash : goal.compare_messages-requires-clause-one_hash
compare_messages-requires-clause-one_hash c =
    let i = c.i-i.result in
    let q = c.args.q in
    let text = c.args.text.now in
    let own = c.in-Some-spent.own.now in
    let none : HasNoLesser c.digits-shown.result c.digits.result = c.in-None.ensures.none in
    sym (text_hash-same i i q q c.array_at-c.result c.randomiser-own_c.result text own
    (subst (λ (d : List ℕ). HasNoLesser d (digits_of i q c.randomiser-own_c.result own)) c.digits-shown.ensures
    (subst (λ (d : List ℕ). HasNoLesser c.digits-shown.result d) c.digits.ensures none)))

pub returns-in-Some-first_lesser : goal.returns-in-Some-first_lesser
returns-in-Some-first_lesser c =
    let d = (goal.at.returns-in-Some-first_lesser c).After-digits-shown in
    let e = (goal.at.returns-in-Some-first_lesser c).After-digits in
    let key = c.args.key.now in
    let text = c.args.text.now in
    let sig = c.args.sig.now in
    let own = c.in-Some-spent.own.now in
    let one : option_copied c.args.spent ≡ Some own = ap option_copied c.in-Some-spent.is in
    subst (λ (s : Option (List ℕ)). Reduces key s text sig c.chain_at-in-Some-first_lesser.result) (sym one)
    (subst (λ (r : Reduced). Reduces key (Some own) text sig r) (sym c.chain_at-in-Some-first_lesser.ensures)
    (shows-lesser key own text sig c.digits-shown.result c.digits.result c.args.q c.in-Some-first_lesser.at c.requires.slot (claimed d) (signed e) (shows d) c.in-Some-first_lesser.ensures.found))
