-- If no outside object failed, the result is the one that the files require.
use Rattle.std.specs.Prelude.{◌≡◌, ◌≢◌, ℕ, List}
use Rattle.std.specs.declared.result.Result.{Result}
use Rattle.std.specs.declared.result.Result.TheVariants.{Err}
use Rattle.road_io.specs.Causes.{Rose}
use Rattle.command_files.specs.declared.fault.Fault.{Fault}
use Rattle.command_files.specs.declared.fault.Fault.TheVariants.{Memory}
use Rattle.command_files.specs.declared.ended.Conclusion.{Conclusion}
use Rattle.command_files.specs.Endings.{Ending}
use Rattle.octet_text.specs.Want.{no_memory}

-- no outside object failed
pub record NoneFailed (library_before library_now sink_before sink_now disk_before disk_now : ℕ) :
    Type 0 where
  pub library_stays : ¬ Rose library_before library_now
  pub sink_stays : ¬ Rose sink_before sink_now
  pub disk_stays : ¬ Rose disk_before disk_now

-- unless memory runs out, the outcome is one that the files require, and they require no other
pub record IsExact (Ends : Ending) (outcome : Result Conclusion Fault) : Type 0 where
  pub called_for : outcome ≢ Err (Memory no_memory) → (text : List ℕ) × Ends outcome text
  pub only_one : (other : Result Conclusion Fault) (text : List ℕ) → outcome ≢ Err (Memory no_memory) →
      Ends other text → outcome ≡ other
