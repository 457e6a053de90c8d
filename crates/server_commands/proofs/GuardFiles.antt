-- The files of a guard: the values read from them, and which files were loaded.
use Rattle.std.proofs.Common.{◌≡◌, ℕ, suc, List, [], ◌∷◌, ◌++◌, take, refl, ap, subst, ◌∙◌, arith, IfSome, IfNone}
use Rattle.std.specs.declared.option.Option.{Option}
use Rattle.std.specs.declared.option.Option.TheVariants.{None, Some}
use Rattle.std.specs.declared.result.Result.{Result}
use Rattle.std.specs.declared.result.Result.TheVariants.{Ok, Err}
use Rattle.road_io.specs.Causes.{Rose}
use Rattle.road_io.specs.Contents.{Folder}
use Rattle.road_io.specs.Disk.{Narrows}
use Rattle.lms_tree.specs.declared.links.Link.{Link}
use Rattle.route_service.specs.declared.guard.Guard.{Guard}
use Rattle.route_service.specs.declared.guard.Guard.TheVariants.{Signed}
use Rattle.command_files.specs.Asking.{AsksFront}
use Rattle.command_files.specs.Reading.{chain_at, IsOfFiles, Fails, Loads}
use Rattle.command_files.specs.HexFiles.{public_key_at}
use Rattle.command_files.specs.declared.fault.Fault.{Fault}
use Rattle.command_files.specs.declared.fault.Fault.TheVariants.{Missing, TooLong, Road, Dimacs, Malformed, BadHex, Library, Memory}
use Rattle.command_files.proofs.Asked.{then_asked}
use Rattle.command_files.proofs.Written.{over_both, moved}
use Rattle.server_commands.specs.Guarding.{signed_of, guard_at}

-- one name that was requested, and a prefix of further names after it
pub front_behind : (names old mid new : List (List ℕ)) (name : List ℕ) → mid ≡ old ++ name ∷ [] → AsksFront names mid new → AsksFront (name ∷ names) old new
front_behind names old mid new name first h = record {
  n = suc h.n;
  within = omega (arith, h.within);
  asked = then_asked old mid new name (take h.n names) first h.asked;
}

-- a function that failed with this fault
abbrev fault_in : (X : Type 0) → Fault → Result X Fault
fault_in X f = Err f

one_fault : (X : Type 0) (e f : Fault) → fault_in X e ≡ fault_in X f → e ≡ f
one_fault X e f is = cc

-- a fault of one of the files of a value is a fault of the value
module _ {X Y Z W : Type 0} (view : X → Z) (wanted : Y → W) (meaning : Folder → Result Z Fault) (whole : Folder → Result W Fault) (files : Option Folder) (before mid now : ℕ) (e : Fault) where
  loads_fault : mid ≡ before → IfSome files (λ folder. Fails e (whole folder)) → Loads view meaning files mid now (Err e) → Loads wanted whole files before now (Err e)
  loads_fault same read loads = record {
    read = read;
    missing = if_none files Missing loads.missing;
    too_long = if_none files TooLong loads.too_long;
    library = rose Library loads.library;
    kept = tt;
    spared = λ free. loads.spared free ∙ same;
    others = loads.others;
    later = omega (arith, loads.later, same);
  }
    where
      rose : (f : Fault) → (fault_in X e ≡ fault_in X f → Rose mid now) → fault_in Y e ≡ fault_in Y f → Rose before now
      rose f cause is = subst (λ n. Rose n now) same (cause (ap (fault_in X) (one_fault Y e f is)))

      if_none : (fs : Option Folder) (f : Fault) → IfNone fs (fault_in X e ≡ fault_in X f → Rose mid now) → IfNone fs (fault_in Y e ≡ fault_in Y f → Rose before now)
      if_none None f h = rose f h
      if_none (Some folder) f h = tt

-- ---- the files of a guard

no_key : (key : Result (List ℕ) Fault) (links : Result (List Link) Fault) (e : Fault) → IsOfFiles e → Fails e key → Fails e (signed_of key links)
no_key key links Missing of is = ap (λ k. signed_of k links) is
no_key key links TooLong of is = ap (λ k. signed_of k links) is
no_key key links (Road fault) of is = ap (λ k. signed_of k links) is
no_key key links (Dimacs fault) of is = ap (λ k. signed_of k links) is
no_key key links (Malformed at) of is = ap (λ k. signed_of k links) is
no_key key links BadHex of is = ap (λ k. signed_of k links) is
no_key key links Library of is = tt
no_key key links (Memory _) of is = tt
no_key key links e of is = absurd of

no_links : (read : Result (List ℕ) Fault) (links : Result (List Link) Fault) (key : List ℕ) (e : Fault) → IsOfFiles e → read ≡ Ok key → Fails e links → Fails e (signed_of read links)
no_links read links key Missing of first is = ap (λ k. signed_of k links) first ∙ ap (signed_of (Ok key)) is
no_links read links key TooLong of first is = ap (λ k. signed_of k links) first ∙ ap (signed_of (Ok key)) is
no_links read links key (Road fault) of first is = ap (λ k. signed_of k links) first ∙ ap (signed_of (Ok key)) is
no_links read links key (Dimacs fault) of first is = ap (λ k. signed_of k links) first ∙ ap (signed_of (Ok key)) is
no_links read links key (Malformed at) of first is = ap (λ k. signed_of k links) first ∙ ap (signed_of (Ok key)) is
no_links read links key BadHex of first is = ap (λ k. signed_of k links) first ∙ ap (signed_of (Ok key)) is
no_links read links key Library of first is = tt
no_links read links key (Memory _) of first is = tt
no_links read links key e of first is = absurd of

module _ (key_name : List ℕ) (chain_name : Option (List ℕ)) where
  abbrev guard_in : Folder → Result Guard Fault
  guard_in folder = guard_at folder (Some (key_name, chain_name))

  abbrev same : Guard → Guard
  same guard = guard

  pub no_key_loads : (files : Option Folder) (before now : ℕ) (e : Fault) → Loads (λ (octets : List ℕ). octets) (λ folder. public_key_at folder key_name) files before now (Err e)
      → Loads (λ (guard : Guard). guard) (λ folder. guard_at folder (Some (key_name, chain_name))) files before now (Err e)
  no_key_loads files before now e loads =
      loads_fault (λ (octets : List ℕ). octets) same (λ folder. public_key_at folder key_name) guard_in files before before now e refl
      (over_key files loads.read) loads
    where
      over_key : (fs : Option Folder) → IfSome fs (λ folder. Fails e (public_key_at folder key_name)) → IfSome fs (λ folder. Fails e (guard_in folder))
      over_key None h = tt
      over_key (Some folder) h = no_key (public_key_at folder key_name) (chain_at folder chain_name) e loads.others h

  pub no_chain_loads : (first files : Option Folder) (key : List ℕ) (before mid now : ℕ) (e : Fault) → Narrows first files → IfSome first (λ folder. public_key_at folder key_name ≡ Ok key) → mid ≡ before
      → Loads (λ (links : List Link). links) (λ folder. chain_at folder chain_name) files mid now (Err e)
      → Loads (λ (guard : Guard). guard) (λ folder. guard_at folder (Some (key_name, chain_name))) files before now (Err e)
  no_chain_loads first files key before mid now e narrows read_key kept loads =
      loads_fault (λ (links : List Link). links) same (λ folder. chain_at folder chain_name) guard_in files before mid now e kept
      (over_both files (λ folder. public_key_at folder key_name ≡ Ok key) (λ folder. Fails e (chain_at folder chain_name)) (λ folder. Fails e (guard_in folder))
      (λ folder is none. no_links (public_key_at folder key_name) (chain_at folder chain_name) key e loads.others is none)
      (moved first files (λ folder. public_key_at folder key_name ≡ Ok key) narrows read_key) loads.read) loads

  pub guard_loads : (first files : Option Folder) (key : List ℕ) (links : List Link) (before mid now : ℕ) → Narrows first files → IfSome first (λ folder. public_key_at folder key_name ≡ Ok key)
      → IfSome files (λ folder. chain_at folder chain_name ≡ Ok links) → mid ≡ before → now ≡ mid
      → Loads (λ (guard : Guard). guard) (λ folder. guard_at folder (Some (key_name, chain_name))) files before now (Ok (Signed key links))
  guard_loads first files key links before mid now narrows read_key read_chain kept still = record {
    read = over_both files (λ folder. public_key_at folder key_name ≡ Ok key) (λ folder. chain_at folder chain_name ≡ Ok links) (λ folder. guard_in folder ≡ Ok (Signed key links))
        (λ folder is follows. ap (λ k. signed_of k (chain_at folder chain_name)) is ∙ ap (signed_of (Ok key)) follows)
        (moved first files (λ folder. public_key_at folder key_name ≡ Ok key) narrows read_key) read_chain;
    missing = if_none files Missing;
    too_long = if_none files TooLong;
    library = λ is. absurd (cc);
    kept = still ∙ kept;
    spared = λ free. still ∙ kept;
    others = tt;
    later = omega (arith, still, kept);
  }
    where
      never : (f : Fault) → Ok (Signed key links) ≡ fault_in Guard f → ⊥
      never f is = cc

      if_none : (fs : Option Folder) (f : Fault) → IfNone fs (Ok (Signed key links) ≡ fault_in Guard f → Rose before now)
      if_none None f = λ is. absurd (never f is)
      if_none (Some folder) f = tt
