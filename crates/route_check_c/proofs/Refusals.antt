-- The report about a refusal, as the report about a check.
use Rattle.std.proofs.Common.{◌≡◌, ◌≢◌, ◌⊎◌, ℕ, List, length, Result, Ok, Err, refl, subst, inl, inr}
use Rattle.std.specs.Prelude.{IfOk, IfErr}
use Rattle.std.specs.declared.vec.Vec.{Vec}
use Rattle.std.specs.declared.alloc.Global.{Global}
use Rattle.octet_text.specs.Format.{whole}
use Rattle.octet_text.specs.declared.errors.NoMemory.{NoMemory as OutOfMemory}
use Rattle.lms_tree.specs.declared.links.Link.{Link}
use Rattle.lms_tree.specs.ChainFiles.{chain_file}
use Rattle.route_client.specs.declared.near_errors.NearError.{NearError}
use Rattle.route_client.specs.declared.near_errors.NearError.TheVariants as near_errors
use Rattle.route_client.specs.declared.within.Within.{Within}
use Rattle.route_client.specs.NearVerdicts as near
use Rattle.route_client.specs.declared.accepted.Checked.{Checked}
use Rattle.route_client.specs.declared.errors.CheckError.{CheckError}
use Rattle.route_client.specs.declared.errors.CheckError.TheVariants as errors
use Rattle.route_client.specs.Verdicts.{UnlessMemory}
use Rattle.route_check_c.specs.declared.reasons.Reason.{Reason}
use Rattle.route_check_c.specs.declared.verdict.Verdict.{Verdict}
use Rattle.route_check_c.specs.Codes.{told, refused_numbers}
use Rattle.route_check_c.specs.Telling.{filled, NoMemory, Refuses, Unread}
use Rattle.octet_text.specs.Want.{no_memory}

-- ---- a refusal for a reason other than out of memory is a verdict

pub route_refused : (P : Result Checked CheckError → Type 0) (e : CheckError) → e ≢ errors.Memory no_memory → UnlessMemory P (Err e) → P (Err e)
route_refused P (errors.Memory _) not h = absurd (not refl)
route_refused P (errors.NotAnswer kind) not h = h
route_refused P (errors.Malformed at) not h = h
route_refused P (errors.Stale version) not h = h
route_refused P (errors.BadChain link why) not h = h
route_refused P (errors.BadSignature why) not h = h
route_refused P (errors.BadCover tree why) not h = h
route_refused P (errors.Judged why) not h = h

pub reach_refused : (P : Result Within NearError → Type 0) (e : NearError) → e ≢ near_errors.Memory no_memory → near.UnlessMemory P (Err e) → P (Err e)
reach_refused P (near_errors.Memory _) not h = absurd (not refl)
reach_refused P (near_errors.Malformed at) not h = h
reach_refused P (near_errors.Stale version) not h = h
reach_refused P (near_errors.BadChain link why) not h = h
reach_refused P (near_errors.BadSignature why) not h = h
reach_refused P (near_errors.BadCover why) not h = h
reach_refused P (near_errors.MissingTuple id) not h = h
reach_refused P (near_errors.RepeatedNode id) not h = h

-- ---- so its report is a report about the check

-- the line of a refusal was made and is reported with its reason, or memory ran out for it
pub refusal_told : {A E X : Type 0} (P : List Link → Result A E → Type 0) (short : E) (reason : E → Reason) (refused : E → List ℕ) (chain reply : List ℕ) (links : List Link) (e : E) (room : List X) (text : Result (Vec ℕ Global) OutOfMemory) (old_line new_line : List ℕ) (v : Verdict) →
    whole chain_file chain ≡ Ok links → (e ≢ short → P links (Err e)) → IfOk text (λ t. (e ≢ short) × (t.items ≡ refused e))
    → IfOk text (λ t. (v ≡ refused_numbers (reason e) (length t.items)) × (new_line ≡ filled t.items old_line)) → IfErr text (λ _. (v ≡ refused_numbers (told 16 0 0) 0) × (new_line ≡ old_line))
    → Refuses P short reason refused chain room room old_line new_line v ⊎ Unread chain reply room room old_line new_line v
refusal_told P short reason refused chain reply links e room (Ok t) old_line new_line v spelled verdict line told_line short_line = inl (record {
  links = links;
  spelled = spelled;
  error = e;
  not_memory = line.0;
  verdict = verdict line.0;
  numbers = subst (λ (l : List ℕ). v ≡ refused_numbers (reason e) (length l)) line.1 told_line.0;
  room = refl;
  line = subst (λ (l : List ℕ). new_line ≡ filled l old_line) line.1 told_line.1;
})
refusal_told P short reason refused chain reply links e room (Err none) old_line new_line v spelled verdict line told_line short_line = inr (record {
  why = told 16 0 0;
  cause = NoMemory refl;
  numbers = short_line.0;
  room = refl;
  line = short_line.1;
})
