-- Octets that are read after a name began with that name.
use Rattle.std.proofs.Common.{◌≡◌, ℕ, Bool, true, false, cond, List, length, take, Result, Ok, Err, refl, sym}
use Rattle.std.specs.Prelude.{nat_lt}
use Rattle.std.specs.Str.{bytes_eq}
use Rattle.std.proofs.lemmas.Slice.Eq.{bytes_eq-Decides}
use Rattle.octet_text.specs.Left.{Left}
use Rattle.octet_text.specs.Format.{◌>>=◌, after, octets_at, whole}
use Rattle.proof_octets.specs.declared.near_reply.NearReply.{NearReply}
use Rattle.proof_octets.specs.NearReplies.{near_name, near_reply, IsNamed}

tested : {A : Type 0} (b t : Bool) (e : ℕ) (x y : A) → cond b (Err e) (cond t (Ok x) (Err e)) ≡ Ok y → t ≡ true
tested true t e x y h = absurd cc
tested false true e x y h = refl
tested false false e x y h = absurd cc

-- octets that pass the test for a name begin with it
pub begun : (left : Left) (name : List ℕ) (x : List ℕ × Left) → octets_at (length name) (bytes_eq name) left ≡ Ok x → take (length name) left.text ≡ name
begun left name x e =
    let front = take (length name) left.text in
    sym ((bytes_eq-Decides name front).0 (tested (nat_lt (length left.text) (length name)) (bytes_eq name front) left.at (front, after left (length name)) x e))

-- if three steps succeed, the first succeeds
first_of : {A B C : Type 0} (r : Result A ℕ) (k : A → Result B ℕ) (l : B → Result C ℕ) (y : C) → ((r >>= k) >>= l) ≡ Ok y → (x : A) × (r ≡ Ok x)
first_of (Ok x) k l y e = (x, refl)
first_of (Err at) k l y e = absurd cc

-- the octets of a reply begin with its name
pub read_named : (octets : List ℕ) (a : NearReply) → whole near_reply octets ≡ Ok a → IsNamed octets
unfolding near_reply
read_named octets a e =
    let left : Left = record { at = 0; text = octets } in
    let first = first_of (octets_at 4 (bytes_eq near_name) left) _ _ a e in
    begun left near_name first.0 first.1

-- and so does every encoding of the reply
pub spelled_named : (a : NearReply) → IsNamed (near_reply.spell a)
unfolding near_reply
spelled_named a = refl
