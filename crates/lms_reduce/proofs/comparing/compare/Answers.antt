use Rattle.std.proofs.Common.{◌≡◌, ℕ, List, take, drop, Option, None, Some, Result, Ok, Err, IfOk, IfSome, IfNone, arith, ap, subst, ◌∙◌, sym, inl, inr}
use Rattle.std.proofs.lemmas.List.{drop-drop}
use Rattle.lms_ots.specs.Chains.{public_of, candidate_of, key_of, ended_value, digits_of}
use Rattle.lms_tree.specs.Signatures.{number_at}
use Rattle.lms_reduce.specs.Comparing.{ShowsOwn}
use Rattle.octet_text.specs.declared.errors.NoMemory.{NoMemory}
use Rattle.lms_reduce.specs.Meetings.{MeetAtEnds, MeetInChain, MeetOnWay}
use Rattle.lms_reduce.specs.declared.comparing.Clash.{Clash}
use Rattle.lms_reduce.proofs.MeetingLemmas.{IfSome-some}
use Rattle.lms_reduce.specs.Released.{claimed_digits}
use Rattle.lms_reduce.proofs.RootLemmas.{IfNone-none, take-inside}
use Rattle.lms_reduce.proofs.comparing.compare.Goals as goal
use Rattle.lms_reduce.proofs.comparing.compare.Goals.{After-digits-digits}

candidate-is : (i : List ℕ) (q : ℕ) (c text ots digits : List ℕ) → c ≡ take 32 (drop 4 ots) → digits ≡ digits_of i q c text → key_of i q (ended_value i q digits ots) ≡ candidate_of i q ots text
unfolding candidate_of
candidate-is i q c text ots digits ec ed =
    ap (λ (d : List ℕ). key_of i q (ended_value i q d ots)) (ed ∙ ap (λ (x : List ℕ). digits_of i q x text) ec)

-- the digits of the text, under the signature's own randomiser
claimed : (c : After-digits-digits) → c.digits-digits.result ≡ claimed_digits c.args.key.now c.args.text.now c.args.sig.now
claimed c =
    let key = c.args.key.now in
    let q = c.args.q in
    let text = c.args.text.now in
    let sig = c.args.sig.now in
    let c_is : c.array_at.result ≡ take 32 (drop 8 sig) = c.array_at.ensures ∙ take-inside 4 32 1124 (drop 4 sig) (omega arith) ∙ ap (take 32) (drop-drop 4 4 sig) in
    c.digits-digits.ensures ∙ ap (λ (x : List ℕ). digits_of x q c.array_at.result text) c.i-i.ensures
    ∙ ap (λ n. digits_of key.i n c.array_at.result text) c.requires.slot ∙ ap (λ (x : List ℕ). digits_of key.i (number_at sig 0) x text) c_is

-- a clash also satisfies the weaker statement
found_map : (r : Result (Option Clash) NoMemory) (P Q : Clash → Type 0) → ((x : Clash) → P x → Q x) → IfOk r (λ o. IfSome o P) → IfOk r (λ o. IfSome o Q)
found_map (Err e) P Q by found = tt
found_map (Ok None) P Q by found = tt
found_map (Ok (Some x)) P Q by found = by x found

pub compare_ends-requires-clause-same : goal.compare_ends-requires-clause-same
compare_ends-requires-clause-same c =
    let key = c.args.key.now in
    let q = c.args.q in
    let text = c.args.text.now in
    let i = c.i-i.result in
    let ots = take 1124 (drop 4 c.args.sig.now) in
    candidate-is i q c.array_at.result text ots c.digits-digits.result c.array_at.ensures c.digits-digits.ensures
    ∙ ap (λ (x : List ℕ). candidate_of x q ots text) c.i-i.ensures
    ∙ IfNone-none c.in_ok-clash.field-0 c.in_default.is c.in_ok-clash.ensures.none
    ∙ ap (λ (x : List ℕ). public_of x q key.seed) (sym c.i-i.ensures) ∙ ap (public_of i q) (sym c.seed-seed.ensures)

pub returns-in-Some-2-clause-meet : goal.returns-in-Some-2-clause-meet
returns-in-Some-2-clause-meet c =
    let key = c.args.key.now in
    let q = c.args.q in
    let text = c.args.text.now in
    let sig = c.args.sig.now in
    let ots = take 1124 (drop 4 sig) in
    let one = c.in-Some-2.clash.left in
    let other = c.in-Some-2.clash.right in
    let meet = IfSome-some (λ x. MeetAtEnds c.i-i.result q c.seed-seed.result c.digits-digits.result ots x.left x.right) c.in_ok-clash-2.field-0 c.in-Some-2.clash c.in-Some-2.is c.in_ok-clash-2.ensures.meet in
    inr (inr (inl (subst (λ (d : List ℕ). MeetAtEnds key.i q key.seed d ots one other) (claimed (goal.at.returns-in-Some-2-clause-meet c).After-digits-digits)
    (subst (λ (s : List ℕ). MeetAtEnds key.i q s c.digits-digits.result ots one other) c.seed-seed.ensures
    (subst (λ (i : List ℕ). MeetAtEnds i q c.seed-seed.result c.digits-digits.result ots one other) c.i-i.ensures meet)))))

pub returns-clause-meet : goal.returns-clause-meet
returns-clause-meet c =
    let key = c.args.key.now in
    let q = c.args.q in
    let ots = take 1124 (drop 4 c.args.sig.now) in
    let meets : List ℕ → List ℕ → List ℕ → Type 0 = λ i seed d. IfOk c.compare_chains.result (λ r. IfSome r (λ x. MeetInChain i q seed d ots x.left x.right)) in
    found_map c.compare_chains.result (λ x. MeetInChain key.i q key.seed (claimed_digits key c.args.text.now c.args.sig.now) ots x.left x.right) (λ x. MeetOnWay key q c.args.text.now c.args.sig.now x.left x.right) (λ x m. inr (inr (inr m)))
    (subst (λ (d : List ℕ). meets key.i key.seed d) (claimed (goal.at.returns-clause-meet c).After-digits-digits)
    (subst (λ (s : List ℕ). meets key.i s c.digits-digits.result) c.seed-seed.ensures
    (subst (λ (i : List ℕ). meets i c.seed-seed.result c.digits-digits.result) c.i-i.ensures c.compare_chains.ensures.meet)))

pub returns-clause-none : goal.returns-clause-none
returns-clause-none c =
    let key = c.args.key.now in
    let q = c.args.q in
    let ots = take 1124 (drop 4 c.args.sig.now) in
    let shows : List ℕ → List ℕ → List ℕ → Type 0 = λ i seed d. IfOk c.compare_chains.result (λ r. IfNone r (ShowsOwn i q seed d ots)) in
    subst (λ (d : List ℕ). shows key.i key.seed d) (claimed (goal.at.returns-clause-none c).After-digits-digits)
    (subst (λ (s : List ℕ). shows key.i s c.digits-digits.result) c.seed-seed.ensures
    (subst (λ (i : List ℕ). shows i c.seed-seed.result c.digits-digits.result) c.i-i.ensures c.compare_chains.ensures.none))
