-- Which publications a service accepts, and whether it answers range queries. These are the only differences
-- between a guarded and an open service. Source: RFC 8554, section 5 (valid signatures); Yiu, Lin and Mouratidis,
-- ICDE 2010 (the owner signs the roots). Chains of keys are this program's profile.
use Rattle.std.specs.Prelude.{◌≡◌, ℕ, Bool, true, false, Option, None, Some, Result, Ok, Err}
use Rattle.lms_tree.specs.declared.seals.SealError.{SealError}
use Rattle.lms_tree.specs.declared.seals.SealError.TheVariants.{BadKey, BadForm, NoMatch}
use Rattle.lms_tree.specs.Chains.{verified_along}
use Rattle.proof_octets.specs.declared.publication.Publication.{Publication}
use Rattle.proof_octets.specs.Headers.{header_text}
use Rattle.route_service.specs.declared.guard.Guard.{Guard}
use Rattle.route_service.specs.declared.guard.Guard.TheVariants.{Open, Signed}

-- only a guarded service knows range queries
abbrev pub answers_near : Guard → Bool
answers_near Open = false
answers_near (Signed key links) = true

-- the reason why a signature is refused, as a number
abbrev pub cause_of : SealError → ℕ
cause_of BadKey = 1
cause_of BadForm = 2
cause_of NoMatch = 3

abbrev pub cause : Result (Unit {0}) SealError → Option ℕ
cause (Ok _) = None
cause (Err why) = Some (cause_of why)

-- why a guard refuses a publication: its header is not signed under the key or under a key to which the links lead
-- from it; an open service refuses no publication because of its signature
abbrev pub unsigned : Guard → Publication → Option ℕ
unsigned Open p = None
unsigned (Signed key links) p = cause (verified_along key links (header_text p.header) p.signature)

-- its header is signed as the guard requires
abbrev pub IsSigned : Guard → Publication → Type 0
IsSigned Open p = Unit {0}
IsSigned (Signed key links) p = verified_along key links (header_text p.header) p.signature ≡ Ok tt
