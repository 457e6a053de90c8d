use Rattle.std.proofs.Common.{◌≡◌, ℕ, ◌≢◌, false, List, [], ◌∷◌, None, refl, subst, get_or, Bool, true}
use Rattle.std.specs.Prelude.{codes}
use Rattle.std.specs.Str.{bytes_eq}
use Rattle.std.proofs.lemmas.Slice.Eq.{bytes_eq-Decides}
use Rattle.std.specs.Bool.{Decides}
use Rattle.road_command.specs.Requests.{request_of}
use Rattle.road_command.proofs.command.command_of.Goals as goal

by_not : {P : Type 0} → (b : Bool) → Decides b P → ¬ P → b ≡ false
by_not true d n = absurd (n (d.0 refl))
by_not false d n = refl

not_word : (verb word : List ℕ) → verb ≢ word → bytes_eq verb word ≡ false
not_word verb word other = by_not (bytes_eq verb word) (bytes_eq-Decides verb word) other

-- arguments whose first one is not a command's name
no_command : (words : List (List ℕ)) (verb : List ℕ) → verb ≡ get_or words 0 [] → verb ≢ codes "route" → verb ≢ codes "root" → verb ≢ codes "dimacs" → verb ≢ codes "key" → verb ≢ codes "succeed" → verb ≢ codes "links" → verb ≢ codes "desk" → verb ≢ codes "publish" → verb ≢ codes "prove" → verb ≢ codes "serve" → verb ≢ codes "check" → verb ≢ codes "audit" → verb ≢ codes "survey" → verb ≢ codes "reach" → verb ≢ codes "check-reach" → verb ≢ codes "audit-reach" → verb ≢ codes "reduce"
    → None ≡ request_of words
no_command [] verb is a b c d e f g h i j k l m n o p q = refl
no_command (first ∷ words) verb is a b c d e f g h i j k l m n o p q =
    subst (λ v. None ≡ request_of (v ∷ words)) is (rw (not_word verb (codes "route") a, not_word verb (codes "root") b, not_word verb (codes "dimacs") c, not_word verb (codes "key") d, not_word verb (codes "succeed") e, not_word verb (codes "links") f, not_word verb (codes "desk") g, not_word verb (codes "publish") h, not_word verb (codes "prove") i, not_word verb (codes "serve") j, not_word verb (codes "check") k, not_word verb (codes "audit") l, not_word verb (codes "survey") m, not_word verb (codes "reach") n, not_word verb (codes "check-reach") o, not_word verb (codes "audit-reach") p, not_word verb (codes "reduce") q) refl)

pub returns-in_default-clause-is : goal.returns-in_default-clause-is
returns-in_default-clause-is c = let h = c.in_default in no_command c.args.words.now c.word.result.now c.word.ensures h.not-route h.not-root h.not-dimacs h.not-key h.not-succeed h.not-links h.not-desk h.not-publish h.not-prove h.not-serve h.not-check h.not-audit h.not-survey h.not-reach h.not-text h.not-text-2 h.not-reduce
