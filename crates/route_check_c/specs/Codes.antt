-- Verdicts as numbers. Each number is part of the library's interface: no number changes its meaning, and new ones
-- follow the last. No verdict has the code 0, so memory that no check has written to cannot be mistaken for an
-- acceptance.
use Rattle.std.specs.Prelude.{ℕ, ◌==◌, if◌then◌else◌}
use Rattle.lms_tree.specs.declared.seals.SealError.{SealError}
use Rattle.lms_tree.specs.declared.seals.SealError.TheVariants as seals
use Rattle.proof_judge.specs.declared.refusal.Refusal.{Refusal}
use Rattle.proof_judge.specs.declared.refusal.Refusal.TheVariants as refusals
use Rattle.route_client.specs.declared.errors.CheckError.{CheckError}
use Rattle.route_client.specs.declared.errors.CheckError.TheVariants as errors
use Rattle.route_client.specs.declared.errors.CoverFault.{CoverFault}
use Rattle.route_client.specs.declared.errors.CoverFault.TheVariants as faults
use Rattle.route_client.specs.declared.near_errors.NearError.{NearError}
use Rattle.route_client.specs.declared.near_errors.NearError.TheVariants as near_errors
use Rattle.route_check_c.specs.declared.reasons.Reason.{Reason}
use Rattle.route_check_c.specs.declared.verdict.Verdict.{Verdict}

-- a test, given by its number, and the two numbers that it reports
abbrev pub told : ℕ → ℕ → ℕ → Reason
told code first second = record { code = code; first = first; second = second }

-- why a signature does not verify
abbrev pub seal_number : SealError → ℕ
seal_number seals.BadKey = 1
seal_number seals.BadForm = 2
seal_number seals.NoMatch = 3

-- why items and a cover do not give a root
abbrev pub cover_number : CoverFault → ℕ
cover_number faults.Place = 1
cover_number faults.Short = 2
cover_number faults.Long = 3
cover_number faults.Differs = 4

-- why the items do not show a shortest route, or that no route exists
abbrev pub judged_reason : Refusal → Reason
judged_reason (refusals.RepeatedNode id) = told 9 id 0
judged_reason (refusals.BadRoute hop) = told 10 hop 0
judged_reason (refusals.MissingTuple id) = told 11 id 0
judged_reason (refusals.MissingPair a b) = told 12 a b
judged_reason (refusals.Shorter length) = told 13 length 0
judged_reason (refusals.Disagrees distance) = told 14 distance 0
judged_reason (refusals.Memory _) = told 16 0 0

-- the first test that the reply to a query for a route fails
abbrev pub route_reason : CheckError → Reason
route_reason (errors.NotAnswer kind) = told 3 kind 0
route_reason (errors.Malformed at) = told 4 at 0
route_reason (errors.Stale version) = told 5 version 0
route_reason (errors.BadChain link why) = told 6 link (seal_number why)
route_reason (errors.BadSignature why) = told 7 (seal_number why) 0
route_reason (errors.BadCover tree why) = told 8 tree (cover_number why)
route_reason (errors.Judged why) = judged_reason why
route_reason (errors.Memory _) = told 16 0 0

-- the first test that the reply to a range query fails
abbrev pub reach_reason : NearError → Reason
reach_reason (near_errors.Malformed at) = told 4 at 0
reach_reason (near_errors.Stale version) = told 5 version 0
reach_reason (near_errors.BadChain link why) = told 6 link (seal_number why)
reach_reason (near_errors.BadSignature why) = told 7 (seal_number why) 0
reach_reason (near_errors.BadCover why) = told 8 1 (cover_number why)
reach_reason (near_errors.RepeatedNode id) = told 9 id 0
reach_reason (near_errors.MissingTuple id) = told 11 id 0
reach_reason (near_errors.Memory _) = told 16 0 0

-- ---- the verdict

-- this many nodes are accepted, for a route of this length, from a publication of this version
abbrev pub accepted_numbers : ℕ → ℕ → ℕ → Verdict
accepted_numbers count length version = record {
  code = 1;
  count = count;
  length = length;
  version = version;
  first = 0;
  second = 0;
  line = 0;
}

-- the accepted result is that no walk joins the two ends, from a publication of this version
abbrev pub apart_numbers : ℕ → Verdict
apart_numbers version = record {
  code = 2;
  count = 0;
  length = 0;
  version = version;
  first = 0;
  second = 0;
  line = 0;
}

-- this many of the accepted nodes within a radius are listed, from a publication of this version; zero has its own
-- code
abbrev pub listed_numbers : ℕ → ℕ → Verdict
listed_numbers count version = record {
  code = if count == 0 then 19 else 1;
  count = count;
  length = 0;
  version = version;
  first = 0;
  second = 0;
  line = 0;
}

-- nothing is accepted, for this reason; the reason's line has this many octets
abbrev pub refused_numbers : Reason → ℕ → Verdict
refused_numbers why line = record {
  code = why.code;
  count = 0;
  length = 0;
  version = 0;
  first = why.first;
  second = why.second;
  line = line;
}
