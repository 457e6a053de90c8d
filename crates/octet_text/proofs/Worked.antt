-- Two lists of numbers to which the definition of SHA-256 gives the same digest. They are not a collision, since
-- one of them does not consist of octets.
use Rattle.std.proofs.Common.{◌≡◌, ◌≢◌, ℕ, zero, suc, ◌+◌, ◌<◌, List, [], ◌∷◌, ◌++◌, take, arith, refl, ap}
use Rattle.sha2.specs.Sha256.{sha256, padded_message, first_words, next_word, schedule, rounds, add_state, compress, hash_after, digest_bytes, initial_hash_256}
use Rattle.octet_text.specs.Collisions.{AreCollision}

abbrev left : List ℕ
left = 0 ∷ 256 ∷ []

abbrev right : List ℕ
right = 1 ∷ 0 ∷ []

same_schedule : (b c : List ℕ) (n : ℕ) → first_words b 16 ≡ first_words c 16 → schedule b n ≡ schedule c n
unfolding schedule
same_schedule b c zero h = h
same_schedule b c (suc n) h = ap (λ w. w ++ next_word w (n + 16) ∷ []) (same_schedule b c n h)

same_compress : (h b c : List ℕ) → first_words b 16 ≡ first_words c 16 → compress h b ≡ compress h c
unfolding compress
same_compress h b c e = ap (λ s. add_state h (rounds h s 64)) (same_schedule b c 48 e)

same_words : first_words (take 64 (padded_message left)) 16 ≡ first_words (take 64 (padded_message right)) 16
unfolding first_words
same_words = refl

they_differ : left ≢ right
they_differ e = cc

have_one_digest : sha256 left ≡ sha256 right
unfolding sha256 hash_after
have_one_digest = ap (λ h. digest_bytes h 8) (same_compress initial_hash_256 (take 64 (padded_message left)) (take 64 (padded_message right)) same_words)

are_none : AreCollision sha256 left right → ⊥
are_none c =
    let small : 256 < 256 = c.left_octets 1 in
    omega (arith, small)
