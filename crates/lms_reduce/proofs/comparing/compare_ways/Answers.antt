use Rattle.std.proofs.Common.{◌≡◌, ℕ, ◌+◌, ◌-◌, ◌*◌, ◌/◌, ◌^◌, ◌<◌, List, length, take, drop, arith, ap, ◌∙◌, sym, inl, inr}
use Rattle.std.proofs.lemmas.List.{take_all, length-take-le, length-drop}
use Rattle.sha2.specs.Sha256.{sha256}
use Rattle.lms_ots.specs.Chains.{public_of, candidate_of}
use Rattle.lms_tree.specs.Signatures.{height_of, leaf_of}
use Rattle.lms_tree.proofs.SealLemmas.{height-max}
use Rattle.lms_reduce.specs.Meetings.{IsHighestMeeting, MeetAtNode, MeetOnWay}
use Rattle.lms_reduce.specs.Texts.{leaf_text}
use Rattle.lms_reduce.specs.Ways.{raised}
use Rattle.lms_reduce.proofs.GoodLemmas.{IsGood, IsGood-verified}
use Rattle.lms_reduce.proofs.MeetingLemmas.{kept-meet, node-meet}
use Rattle.lms_reduce.proofs.RootLemmas.{ends-meet}
use Rattle.lms_reduce.proofs.TextLemmas.{leaf_text-same, sha256-leaf_text}
use Rattle.lms_reduce.proofs.comparing.compare_ways.Goals as goal
use Rattle.lms_reduce.proofs.comparing.compare_ways.Goals.{After-height, After-highest_meeting}

good : (c : After-height) → IsGood c.args.key.now c.args.text.now c.args.sig.now
good c = IsGood-verified c.args.key.now c.args.text.now c.args.sig.now c.height.ensures.known (omega (arith, ap (λ (l : List ℕ). length l) c.i-i.ensures)) c.requires.good

slot : (c : After-height) → c.args.q < 2 ^ height_of c.args.key.now.kind
slot c = omega (arith, c.requires.slot, (good c).slot)

size : (c : After-height) → length c.args.sig.now ≡ 1132 + 32 * height_of c.args.key.now.kind
size c = (good c).size

pub own_path-own_path-requires : goal.own_path-own_path-requires
own_path-own_path-requires c = slot (goal.at.own_path-own_path-requires c).After-height

pub highest_meeting-requires : goal.highest_meeting-requires
highest_meeting-requires c =
    let a = (goal.at.highest_meeting-requires c).After-height in
    let h = height_of c.args.key.now.kind in
    let sig = c.args.sig.now in
    let same : c.height.result ≡ h = c.height.ensures.height in
    let back : length (drop 1132 sig) ≡ length sig - 1132 = length-drop 1132 sig in
    record {
      paths = length-take-le (32 * c.height.result) c.own_path-own_path.result (omega (arith, same, height-max c.args.key.now.kind))
          ∙ (let e : 32 * c.height.result ≡ length sig - 1132 = omega (arith, same, size a) in e)
          ∙ sym (length-take-le (length sig - 1132) (drop 1132 sig) (omega (arith, back)));
    }

-- the hash of the key's own public key, and of the public key that the signature shows
own_key : (c : After-highest_meeting) → c.public_hash.result ≡ public_of c.args.key.now.i c.args.q c.args.key.now.seed
own_key c =
    let key = c.args.key.now in
    c.public_hash.ensures ∙ ap (λ (x : List ℕ). public_of x c.args.q c.seed.result) c.i-i.ensures ∙ ap (public_of key.i c.args.q) c.seed.ensures

shown_key : (c : After-highest_meeting) → c.candidate.result ≡ candidate_of c.args.key.now.i c.args.q (take 1124 (drop 4 c.args.sig.now)) c.args.text.now
shown_key c = c.candidate.ensures ∙ ap (λ (x : List ℕ). candidate_of x c.args.q (take 1124 (drop 4 c.args.sig.now)) c.args.text.now) c.i-i.ensures

-- both paths lead to the root
ends : (c : After-highest_meeting) → (λ (n : ℕ) (path : List ℕ). raised sha256 c.i-i.result (c.slots.result + c.args.q) c.digest_of.result (take (32 * c.height.result) c.own_path-own_path.result) n ≡ raised sha256 c.i-i.result (c.slots.result + c.args.q) c.digest_of-2.result path n) (length (take (length c.args.sig.now - 1132) (drop 1132 c.args.sig.now)) / 32) (take (length c.args.sig.now - 1132) (drop 1132 c.args.sig.now))
ends c =
    let key = c.args.key.now in
    let sig = c.args.sig.now in
    let fine : IsGood key c.args.text.now sig = IsGood-verified key c.args.text.now sig c.height.ensures.known (omega (arith, ap (λ (l : List ℕ). length l) c.i-i.ensures)) c.requires.good in
    let h = height_of key.kind in
    let i = c.i-i.result in
    let leaf : ℕ = c.slots.result + c.args.q in
    let beside = take (length sig - 1132) (drop 1132 sig) in
    let back : length (drop 1132 sig) ≡ length sig - 1132 = length-drop 1132 sig in
    let whole : beside ≡ drop 1132 sig = take_all (length sig - 1132) (drop 1132 sig) (omega (arith, back)) in
    let levels : length beside / 32 ≡ h = omega (arith, ap (λ (l : List ℕ). length l) whole, back, fine.size) in
    ends-meet key c.args.q c.args.text.now sig c.own_path-own_path.result c.digest_of.result c.digest_of-2.result i beside leaf c.height.result (length beside / 32)
    fine c.requires.slot c.own_path-own_path.ensures c.i-i.ensures (ap (λ x. x + c.args.q) c.slots.ensures) c.height.ensures.height levels whole
    (c.digest_of.ensures ∙ ap sha256 c.leaf_text-own.ensures ∙ sha256-leaf_text i leaf c.public_hash.result ∙ ap (leaf_of i leaf) (own_key c))
    (c.digest_of-2.ensures ∙ ap sha256 c.leaf_text-shown.ensures ∙ sha256-leaf_text i leaf c.candidate.result ∙ ap (leaf_of i leaf) (shown_key c))

-- where the paths meet
nodes : (c : After-highest_meeting) (one other : List ℕ) → (λ (path : List ℕ). IsHighestMeeting sha256 c.i-i.result (c.slots.result + c.args.q) c.digest_of.result (take (32 * c.height.result) c.own_path-own_path.result) c.digest_of-2.result path (length path / 32) one other) (take (length c.args.sig.now - 1132) (drop 1132 c.args.sig.now)) → MeetAtNode c.args.key.now c.args.q c.args.text.now c.args.sig.now one other
nodes c one other m =
    let key = c.args.key.now in
    let sig = c.args.sig.now in
    let fine : IsGood key c.args.text.now sig = IsGood-verified key c.args.text.now sig c.height.ensures.known (omega (arith, ap (λ (l : List ℕ). length l) c.i-i.ensures)) c.requires.good in
    let h = height_of key.kind in
    let i = c.i-i.result in
    let leaf : ℕ = c.slots.result + c.args.q in
    let beside = take (length sig - 1132) (drop 1132 sig) in
    let back : length (drop 1132 sig) ≡ length sig - 1132 = length-drop 1132 sig in
    let whole : beside ≡ drop 1132 sig = take_all (length sig - 1132) (drop 1132 sig) (omega (arith, back)) in
    let levels : length beside / 32 ≡ h = omega (arith, ap (λ (l : List ℕ). length l) whole, back, fine.size) in
    node-meet key c.args.q c.args.text.now sig c.own_path-own_path.result c.digest_of.result c.digest_of-2.result i beside leaf c.height.result (length beside / 32)
    (omega (arith, c.requires.slot, fine.slot)) c.own_path-own_path.ensures c.i-i.ensures (ap (λ x. x + c.args.q) c.slots.ensures) c.height.ensures.height levels whole
    (c.digest_of.ensures ∙ ap sha256 c.leaf_text-own.ensures ∙ sha256-leaf_text i leaf c.public_hash.result ∙ ap (leaf_of i leaf) (own_key c))
    (c.digest_of-2.ensures ∙ ap sha256 c.leaf_text-shown.ensures ∙ sha256-leaf_text i leaf c.candidate.result ∙ ap (leaf_of i leaf) (shown_key c))
    one other m

pub returns-in-Some-clause-meet : goal.returns-in-Some-clause-meet
returns-in-Some-clause-meet c =
    kept-meet (λ (left right : List ℕ). MeetOnWay c.args.key.now c.args.q c.args.text.now c.args.sig.now left right) c.keep.result c.in-Some.two.left c.in-Some.two.right c.keep.ensures.kept
    (inl (nodes (goal.at.returns-in-Some-clause-meet c).After-highest_meeting c.in-Some.two.left c.in-Some.two.right c.in-Some.ensures.highest))

pub keep-requires-then-not-is_same-clause-one_digest : goal.keep-requires-then-not-is_same-clause-one_digest
keep-requires-then-not-is_same-clause-one_digest c =
    let e = ends (goal.at.keep-requires-then-not-is_same-clause-one_digest c).After-highest_meeting in
    sym c.digest_of.ensures ∙ c.in_default.ensures.none e ∙ c.digest_of-2.ensures

-- the text of a leaf, in terms of the key
leaf_is : (i of_key : List ℕ) (n leaf : ℕ) (public own : List ℕ) → i ≡ of_key → n ≡ leaf → public ≡ own → leaf_text i n public ≡ leaf_text of_key leaf own
leaf_is i of_key n leaf public own ei en ep = ap (λ (x : List ℕ). leaf_text x n public) ei ∙ ap (λ x. leaf_text of_key x public) en ∙ ap (leaf_text of_key leaf) ep

pub returns-then-not-is_same-clause-meet : goal.returns-then-not-is_same-clause-meet
returns-then-not-is_same-clause-meet c =
    let d = (goal.at.returns-then-not-is_same-clause-meet c).After-highest_meeting in
    let key = c.args.key.now in
    let q = c.args.q in
    let leaf : c.slots.result + q ≡ 2 ^ height_of key.kind + q = ap (λ x. x + q) c.slots.ensures in
    kept-meet (λ (left right : List ℕ). MeetOnWay key q c.args.text.now c.args.sig.now left right) c.keep-then-not-is_same.result c.leaf_text-own.result c.leaf_text-shown.result c.keep-then-not-is_same.ensures.kept
    (inr (inl (record {
      own = c.leaf_text-own.ensures ∙ leaf_is c.i-i.result key.i (c.slots.result + q) (2 ^ height_of key.kind + q) c.public_hash.result (public_of key.i q key.seed) c.i-i.ensures leaf (own_key d);
      shown = c.leaf_text-shown.ensures ∙ leaf_is c.i-i.result key.i (c.slots.result + q) (2 ^ height_of key.kind + q) c.candidate.result (candidate_of key.i q (take 1124 (drop 4 c.args.sig.now)) c.args.text.now) c.i-i.ensures leaf (shown_key d);
    })))

pub returns-clause-none : goal.returns-clause-none
returns-clause-none c =
    let d = (goal.at.returns-clause-none c).After-highest_meeting in
    sym (shown_key d)
    ∙ sym (leaf_text-same c.i-i.result (c.slots.result + c.args.q) c.public_hash.result c.candidate.result (sym c.leaf_text-own.ensures ∙ c.if-not-is_same.ensures.same ∙ c.leaf_text-shown.ensures))
    ∙ own_key d
