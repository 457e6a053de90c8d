-- The chain of a desk's keys.
use Rattle.std.specs.Prelude.{◌≡◌, ℕ, ◌≤◌, length, Ok}
use Rattle.lms_tree.specs.Signatures.{public_key}
use Rattle.lms_tree.specs.Chains.{chained}
use Rattle.key_desk.specs.declared.desk.Desk.{Desk}
use Rattle.key_desk.specs.Desk.{key_of}
use Rattle.key_desk.specs.Links.{links_of}
use Rattle.near_proof.specs.Honest.{Leads}

-- if each of a desk's links is signed under the previous key, as the links that `links` returns are, they lead from
-- the first of the desk's keys to each of them
abbrev pub LinksLead : Type 0
LinksLead = (desk : Desk) (area : ℕ) → area ≤ length desk.earlier
    → chained (public_key (key_of desk 0)) (links_of desk) ≡ Ok tt
    → Leads (public_key (key_of desk 0)) (links_of desk) (public_key (key_of desk area))
