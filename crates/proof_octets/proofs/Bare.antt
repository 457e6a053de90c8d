-- A reply without an answer is read, however little memory is available.
use Rattle.std.proofs.Common.{◌≡◌, ◌≢◌, ℕ, List, ◌∙◌, sym, ap, subst, refl, Bool, Result, Ok, Err, ◌==◌, length, true, false, if◌then◌else◌}
use Rattle.octet_text.specs.Left.{Left}
use Rattle.octet_text.specs.Format.{◌>>=◌, ended, whole, Reads}
use Rattle.octet_text.specs.declared.errors.ReadError.{ReadError}
use Rattle.octet_text.specs.declared.errors.ReadError.TheVariants.{Malformed, Memory}
use Rattle.proof_octets.specs.declared.reply.Reply.{Reply}
use Rattle.proof_octets.specs.Replies.{reply, BringsNone}
use Rattle.octet_text.specs.Want.{no_memory}

-- a text that is read whole is read with nothing left
if_ended : (b : Bool) (x r : Reply) (at : ℕ) (left : Left) → ◌≡◌ {A = Result Reply ℕ} (if b then Ok x else Err at) (Ok r) →
    (rest : Left) × (◌≡◌ {A = Result (Reply × Left) ℕ} (Ok (x, left)) (Ok (r, rest)))
if_ended true x r at left e =
    let same : x ≡ r = cc in
    (left, ap (λ (y : Reply). let w : Result (Reply × Left) ℕ = Ok (y, left) in w) same)
if_ended false x r at left e = absurd cc

read_before_end : (w : Result (Reply × Left) ℕ) (r : Reply) → (w >>= ended) ≡ Ok r → (rest : Left) × (w ≡ Ok (r, rest))
read_before_end (Ok x) r e = if_ended (length x.1.text == 0) x.0 r x.1.at x.1 e
read_before_end (Err at) r e = absurd cc

-- at the first octet
at_first : (left : Left) (octets : List ℕ) → left.at ≡ 0 → left.text ≡ octets → left ≡ record { at = 0; text = octets }
at_first left octets at text =
    ap (λ (n : ℕ). let l : Left = record { at = n; text = left.text } in l) at ∙
    ap (λ (t : List ℕ). let l : Left = record { at = 0; text = t } in l) text

-- if memory runs out, no such reply ends before that point
pub short_of_bare : (left : Left) (octets : List ℕ) (P : Type 0) → left.at ≡ 0 → left.text ≡ octets →
    (P → (r : Reply) (rest : Left) → BringsNone r → reply.read left ≢ Ok (r, rest)) →
    P → (r : Reply) → BringsNone r → whole reply octets ≢ Ok r
short_of_bare left octets P at text memory short r none e =
    let front = at_first left octets at text in
    let before = read_before_end (reply.read left) r (subst (λ (l : Left). (reply.read l >>= ended) ≡ Ok r) (sym front) e) in
    memory short r before.0 none before.1

-- if out of memory is excluded, the value read is the answer
pub bare_is_read : (result : Result Reply ReadError) (w : Result Reply ℕ) →
    Reads (λ r. r) result w → (result ≡ Err (Memory no_memory) → (r : Reply) → BringsNone r → w ≢ Ok r) →
    (r : Reply) → BringsNone r → w ≡ Ok r → result ≡ Ok r
bare_is_read (Ok x) w reads memory r none e = cc
bare_is_read (Err (Memory _)) w reads memory r none e = absurd (memory refl r none e)
bare_is_read (Err (Malformed m)) w reads memory r none e = cc
