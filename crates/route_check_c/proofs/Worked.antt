-- The definitions of unchecked replies, evaluated for some replies. A weakened definition fails here.
use Rattle.std.proofs.Common.{◌≡◌, ℕ, ◌<◌, ◌^◌, List, length, arith, ap, inl, inr}
use Rattle.route_check_c.specs.Codes.{told}
use Rattle.route_check_c.specs.Telling.{IsUnread, NoMemory, TooLong, NoChain}
use Rattle.route_check_c.specs.declared.reasons.Reason.{Reason}

abbrev code_of : Reason → ℕ
code_of why = why.code

-- a text of fewer than 2 ^ 32 octets is not too long
short_enough : (chain reply : List ℕ) → length chain < 2 ^ 32 → length reply < 2 ^ 32 → IsUnread chain reply (told 17 0 0) → ⊥
short_enough chain reply few little (NoMemory is) = let same : 17 ≡ 16 = ap code_of is in omega (arith, same)
short_enough chain reply few little (TooLong is (inl many)) = omega (arith, few, many)
short_enough chain reply few little (TooLong is (inr many)) = omega (arith, little, many)
short_enough chain reply few little (NoChain at is bad) = let same : 17 ≡ 18 = ap code_of is in omega (arith, same)
