-- How a check of either kind of replies ends.
use Rattle.std.specs.Prelude.{◌≡◌, ◌≢◌, ℕ, List, ◌∷◌}
use Rattle.std.specs.declared.option.Option.{Option}
use Rattle.std.specs.declared.result.Result.{Result}
use Rattle.std.specs.declared.result.Result.TheVariants.{Ok, Err}
use Rattle.lms_tree.specs.declared.links.Link.{Link}
use Rattle.road_io.specs.Contents.{Folder}
use Rattle.command_files.specs.Asking.{AsksFront, if_named}
use Rattle.command_files.specs.Reading.{octets_at, chain_at}
use Rattle.command_files.specs.HexFiles.{public_key_at}
use Rattle.command_files.specs.Endings.{Ending, EndsReading, Promises, TellsNone, NoDisk}
use Rattle.command_files.specs.Spared.{SparesLibrary, SparesBut}
use Rattle.command_files.specs.declared.ended.Conclusion.{Conclusion}
use Rattle.command_files.specs.declared.ended.Conclusion.TheVariants.{Done, Refused}
use Rattle.command_files.specs.declared.fault.Fault.{Fault}
use Rattle.command_files.specs.declared.fault.Fault.TheVariants.{Sink}

-- how a check ends by its verdict, which is not out of memory: with the line of the accepted result or of the
-- refusal
abbrev pub EndsVerdict : {A E : Type 0} → (Result A E → Type 0) → E → (A → List ℕ) → (E → List ℕ) →
    Ending
EndsVerdict {A} {E} IsVerdict short accepted refused (Ok Done) text = (x : A) × IsVerdict (Ok x) ×
    (text ≡ accepted x)
EndsVerdict {A} {E} IsVerdict short accepted refused (Ok Refused) text = (e : E) × (e ≢ short) ×
    IsVerdict (Err e) × (text ≡ refused e)
EndsVerdict IsVerdict short accepted refused outcome text = ⊥

-- over the files with these names, where the chain's file is optional: Ends gives the result for a public key, a
-- chain from it and the octets of a reply
abbrev pub over_files : (List ℕ → List Link → List ℕ → Ending) → List ℕ → List ℕ →
    Option (List ℕ) → Folder → Ending
over_files Ends key reply chain folder =
    EndsReading (public_key_at folder key)
    (λ k. EndsReading (octets_at folder reply)
    (λ octets. EndsReading (chain_at folder chain) (λ links. Ends k links octets)))

-- a checking command over the files with these names; Ends gives the result for their contents
pub record ChecksFiles (Ends : List ℕ → List Link → List ℕ → Ending) (key reply : List ℕ)
    (chain : Option (List ℕ)) (files : Option Folder) (asked new_asked : List (List ℕ))
    (loads new_loads : ℕ) (taken new_taken : Option (List ℕ)) (writes new_writes : ℕ)
    (outcome : Result Conclusion Fault) : Type 0 where
  pub promised : Promises (over_files Ends key reply chain) TellsNone NoDisk files loads new_loads
      taken new_taken writes new_writes outcome
  pub library : SparesLibrary outcome loads new_loads
  pub asks : AsksFront (key ∷ reply ∷ if_named chain) asked new_asked
  pub sink : SparesBut Sink outcome writes new_writes
