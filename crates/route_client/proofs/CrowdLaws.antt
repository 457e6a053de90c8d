-- An answer with more node items than its tree has leaves is refused before the judgement.
use Rattle.std.proofs.Common.{◌≡◌, ℕ, ◌<◌, ◌≤◌, inl, inr, Bool, true, false, cond, List, Option, None, Some, Result, Ok, Err, length, nat_eq, refl, arith, ap, sym, subst}
use Rattle.std.specs.Prelude.{IfErr, OnErr}
use Rattle.std.proofs.lemmas.Bool.Decides.{nat_tests}
use Rattle.octet_text.specs.Format.{whole}
use Rattle.lms_tree.specs.declared.links.Link.{Link}
use Rattle.merkle_cover.specs.Covers.{first_fault, fold_exact, after_fault}
use Rattle.merkle_cover.specs.declared.folds.FoldError.{FoldError}
use Rattle.merkle_cover.proofs.FoldLemmas.{rising-first_fault}
use Rattle.proof_octets.specs.declared.outline.Outline.{Outline}
use Rattle.proof_octets.specs.declared.reply.Answer as answers
use Rattle.proof_octets.specs.declared.reply.Reply.{Reply}
use Rattle.proof_octets.specs.declared.reply.Reply.TheVariants as replies
use Rattle.proof_octets.specs.Good.{IsGoodHeader}
use Rattle.proof_octets.specs.Outlines.{outline_of, outlined}
use Rattle.proof_octets.specs.Replies as formats
use Rattle.route_client.specs.declared.errors.CheckError.{CheckError}
use Rattle.route_client.specs.declared.errors.CheckError.TheVariants as errors
use Rattle.route_client.specs.declared.errors.CoverFault.TheVariants as faults
use Rattle.route_client.specs.Crowds.{IsCrowded}
use Rattle.route_client.specs.Verdicts.{◌>>=◌, IsNotAnswer, Meets, answered, header_tested, matched, nodes_covered, pairs_covered, tested, reply_tested, passed}
use Rattle.route_client.proofs.FewItems.{few_rising}

-- a refusal at one step is a refusal after it
meets_then : {A B : Type 0} (e : CheckError) (r : Result A CheckError) (k : A → Result B CheckError) → Meets {A = A} (Err e) r → Meets {A = B} (Err e) (r >>= k)
meets_then (errors.Memory _) r k is = tt
meets_then {A} (errors.NotAnswer kind) r k is = ap (λ (q : Result A CheckError). q >>= k) is
meets_then {A} (errors.Malformed at) r k is = ap (λ (q : Result A CheckError). q >>= k) is
meets_then {A} (errors.Stale version) r k is = ap (λ (q : Result A CheckError). q >>= k) is
meets_then {A} (errors.BadChain link why) r k is = ap (λ (q : Result A CheckError). q >>= k) is
meets_then {A} (errors.BadSignature why) r k is = ap (λ (q : Result A CheckError). q >>= k) is
meets_then {A} (errors.BadCover tree why) r k is = ap (λ (q : Result A CheckError). q >>= k) is
meets_then {A} (errors.Judged why) r k is = ap (λ (q : Result A CheckError). q >>= k) is

-- ---- indices that are not those of a leaf

faulty : (tree : ℕ) (root : List ℕ) (none zero : Bool) (first : Result (Unit {0}) CheckError) (o : Option ℕ) (r : Result (List ℕ) FoldError) → none ≡ false → (o ≡ None → ⊥)
    → cond none first (cond zero (Err (errors.BadCover tree faults.Place)) (matched tree root (after_fault o r))) ≡ Err (errors.BadCover tree faults.Place)
faulty tree root true zero first o r some fault = absurd cc
faulty tree root false true first o r some fault = refl
faulty tree root false false first None r some fault = absurd (fault refl)
faulty tree root false false first (Some i) r some fault = refl

some_there : (n : ℕ) → 65536 < n → nat_eq n 0 ≡ false
some_there n many = grind (arith, nat_tests, many)

nodes_crowded : (hash : List ℕ → List ℕ) (a : answers.Answer) → a.header.nodes ≤ 65536 → 65536 < length a.node_places → nodes_covered hash a ≡ Err (errors.BadCover 1 faults.Place)
unfolding nodes_covered
nodes_crowded hash a few many =
    faulty 1 a.header.node_root (nat_eq (length a.node_places) 0) (nat_eq a.header.nodes 0) _ (first_fault a.header.nodes a.node_places) (fold_exact hash a.header.nodes a.header.fan a.node_places _ a.node_cover) (some_there (length a.node_places) many)
    (λ none. let within : length a.node_places ≤ a.header.nodes = few_rising a.header.nodes a.node_places (rising-first_fault a.header.nodes a.node_places none) in absurd (omega (arith, within, few, many)))

-- ---- the answer's tests

tested_crowd : (hash : List ℕ → List ℕ) (key : List ℕ) (links : List Link) (least : ℕ) (a : answers.Answer) (e : CheckError) → IsGoodHeader a.header → IsCrowded key links least (outline_of a) e → Meets {A = Unit {0}} (Err e) (tested hash key links least a)
unfolding tested
tested_crowd hash key links least a e good crowd = elim crowd.why [
  | inl header ↦ meets_then e (header_tested key links least a.header a.signature) (λ _. nodes_covered hash a >>= λ _. pairs_covered hash a) header
  | inr both ↦ rw (both.1, both.0, nodes_crowded hash a good.nodes_high crowd.many) refl
]

passed_routed : (hash : List ℕ → List ℕ) (key : List ℕ) (links : List Link) (octets : List ℕ) (least : ℕ) (a : answers.Answer) → whole formats.reply octets ≡ Ok (replies.Answer a) → passed hash key links octets least ≡ (tested hash key links least a >>= λ _. Ok (replies.Answer a))
unfolding passed
passed_routed hash key links octets least a read = rw read refl

passed_apart : (hash : List ℕ → List ℕ) (key : List ℕ) (links : List Link) (octets : List ℕ) (least : ℕ) (a : answers.Answer) → whole formats.reply octets ≡ Ok (replies.Apart a) → passed hash key links octets least ≡ (tested hash key links least a >>= λ _. Ok (replies.Apart a))
unfolding passed
passed_apart hash key links octets least a read = rw read refl

same_crowd : (key : List ℕ) (links : List Link) (least : ℕ) (a : answers.Answer) (o : Outline) (e : CheckError) → outline_of a ≡ o → IsGoodHeader o.header → IsCrowded key links least o e → IsGoodHeader a.header × IsCrowded key links least (outline_of a) e
same_crowd key links least a o e same good crowd = subst (λ (x : Outline). IsGoodHeader x.header × IsCrowded key links least x e) (sym same) (good, crowd)

crowd_refused : (hash : List ℕ → List ℕ) (key : List ℕ) (links : List Link) (octets : List ℕ) (least : ℕ) (o : Outline) (e : CheckError) (w : Result Reply ℕ) → whole formats.reply octets ≡ w → outlined w ≡ Ok (Some o) → IsGoodHeader o.header → IsCrowded key links least o e → Meets {A = Reply} (Err e) (passed hash key links octets least)
crowd_refused hash key links octets least o e (Ok (replies.Answer a)) read is good crowd =
    let same : outline_of a ≡ o = cc in
    let its = same_crowd key links least a o e same good crowd in
    subst (λ (r : Result Reply CheckError). Meets {A = Reply} (Err e) r) (sym (passed_routed hash key links octets least a read)) (meets_then e (tested hash key links least a) (λ _. Ok (replies.Answer a)) (tested_crowd hash key links least a e its.0 its.1))
crowd_refused hash key links octets least o e (Ok replies.UnknownNode) read is good crowd = absurd cc
crowd_refused hash key links octets least o e (Ok replies.NoRoute) read is good crowd = absurd cc
crowd_refused hash key links octets least o e (Ok (replies.Apart a)) read is good crowd =
    let same : outline_of a ≡ o = cc in
    let its = same_crowd key links least a o e same good crowd in
    subst (λ (r : Result Reply CheckError). Meets {A = Reply} (Err e) r) (sym (passed_apart hash key links octets least a read)) (meets_then e (tested hash key links least a) (λ _. Ok (replies.Apart a)) (tested_crowd hash key links least a e its.0 its.1))
crowd_refused hash key links octets least o e (Err at) read is good crowd = absurd cc

pub if_crowded : (hash : List ℕ → List ℕ) (key : List ℕ) (links : List Link) (octets : List ℕ) (least : ℕ) (o : Outline) (r : Result (Unit {0}) CheckError) → outlined (whole formats.reply octets) ≡ Ok (Some o) → IsGoodHeader o.header → IfErr r (IsCrowded key links least o) → IfErr r (λ e. Meets {A = Reply} (Err e) (passed hash key links octets least))
if_crowded hash key links octets least o (Ok u) is good crowd = tt
if_crowded hash key links octets least o (Err e) is good crowd = crowd_refused hash key links octets least o e (whole formats.reply octets) refl is good crowd

-- a fact that always holds also holds after an error
pub on_err : {A : Type 0} (r : Result A CheckError) (P : Type 0) → P → OnErr r P
on_err (Ok x) P p = tt
on_err (Err e) P p = p

-- ---- octets with an outline encode an answer, and octets that cannot be read encode nothing

brings : (w : Result Reply ℕ) (o : Outline) (kind : ℕ) → outlined w ≡ Ok (Some o) → answered w ≡ Err (errors.NotAnswer kind) → ⊥
brings (Ok (replies.Answer a)) o kind is not = cc
brings (Ok replies.UnknownNode) o kind is not = cc
brings (Ok replies.NoRoute) o kind is not = cc
brings (Ok (replies.Apart a)) o kind is not = cc
brings (Err at) o kind is not = cc

pub outlined_answers : (octets : List ℕ) (o : Outline) (kind : ℕ) → outlined (whole formats.reply octets) ≡ Ok (Some o) → ¬ IsNotAnswer octets kind
outlined_answers octets o kind is not = brings (whole formats.reply octets) o kind is not

unread : (w : Result Reply ℕ) (at : ℕ) → outlined w ≡ Err at → w ≡ Err at
unread (Ok r) at is = absurd cc
unread (Err f) at is = cc

pub malformed_is : (octets : List ℕ) (at : ℕ) → outlined (whole formats.reply octets) ≡ Err at → whole formats.reply octets ≡ Err at
malformed_is octets at is = unread (whole formats.reply octets) at is

pub malformed_refused : (hash : List ℕ → List ℕ) (key : List ℕ) (links : List Link) (octets : List ℕ) (least at : ℕ) → outlined (whole formats.reply octets) ≡ Err at → passed hash key links octets least ≡ Err (errors.Malformed at)
unfolding passed
malformed_refused hash key links octets least at is = rw (malformed_is octets at is) refl

pub malformed_answers : (octets : List ℕ) (at kind : ℕ) → outlined (whole formats.reply octets) ≡ Err at → ¬ IsNotAnswer octets kind
malformed_answers octets at kind is not =
    let read : whole formats.reply octets ≡ Err at = malformed_is octets at is in
    let told : answered (Err at) ≡ Err (errors.NotAnswer kind) = subst (λ w. answered w ≡ Err (errors.NotAnswer kind)) read not in
    cc
