-- If no outside object failed, a command ends as its files require.
use Rattle.std.proofs.Common.{◌≡◌, ◌≢◌, ℕ, List, [], refl, sym, ◌∙◌}
use Rattle.std.specs.declared.option.Option.{Option}
use Rattle.std.specs.declared.result.Result.{Result}
use Rattle.std.specs.declared.result.Result.TheVariants.{Ok, Err}
use Rattle.command_files.specs.Endings.{Ending, EndsReading, Answered}
use Rattle.command_files.specs.Exact.{IsExact}
use Rattle.command_files.specs.declared.fault.Fault.{Fault}
use Rattle.command_files.specs.declared.fault.Fault.TheVariants.{TruncatedFrame, FrameTooLong, Library, Source, Sink, Disk, Memory, UnknownNode, NoRoute, TooManyFrames, MirrorLost}
use Rattle.command_files.specs.declared.ended.Conclusion.{Conclusion}
use Rattle.octet_text.specs.Want.{no_memory}

-- the files require at most one outcome
abbrev pub HasOneEnd : Ending → Type 0
HasOneEnd Ends = (one other : Result Conclusion Fault) (text other_text : List ℕ) → Ends one text →
    Ends other other_text → one ≡ other

-- the content of a file, or its first fault, determines the end
pub one_reading : {X : Type 0} (read : Result X Fault) (E : X → Ending) → ((x : X) → HasOneEnd (E x)) → HasOneEnd (EndsReading read E)
one_reading (Ok x) E one o p s t h k = one x o p s t h k
one_reading (Err e) E one o p s t h k = h.0 ∙ sym k.0

-- a result is exact if no outside object failed
pub exact_end : (E : Ending) → HasOneEnd E → (old new : Option (List ℕ)) (outcome : Result Conclusion Fault) → Answered E old new outcome
    → (outcome ≡ Err Library → ⊥) → (outcome ≡ Err Sink → ⊥) → (outcome ≡ Err Disk → ⊥) → (outcome ≡ Err MirrorLost → ⊥) → IsExact E outcome
exact_end E one old new outcome a library sink disk mirror = by_end (called outcome a library sink disk mirror)
  where
    called : (o : Result Conclusion Fault) → Answered E old new o → (o ≡ Err Library → ⊥) → (o ≡ Err Sink → ⊥) → (o ≡ Err Disk → ⊥) → (o ≡ Err MirrorLost → ⊥) → o ≢ Err (Memory no_memory) → (text : List ℕ) × E o text
    called (Ok verdict) a l k d g m = (a.0, a.1)
    called (Err (Memory _)) a l k d g m = absurd (m refl)
    called (Err Library) a l k d g m = absurd (l refl)
    called (Err Sink) a l k d g m = absurd (k refl)
    called (Err Disk) a l k d g m = absurd (d refl)
    called (Err MirrorLost) a l k d g m = absurd (g refl)
    called (Err (UnknownNode id)) a l k d g m = (a.0, a.1)
    called (Err NoRoute) a l k d g m = (a.0, a.1)
    called (Err TruncatedFrame) a l k d g m = (a.0, a.1)
    called (Err FrameTooLong) a l k d g m = (a.0, a.1)
    called (Err TooManyFrames) a l k d g m = (a.0, a.1)
    called (Err Source) a l k d g m = (a.0, a.1)
    called (Err fault) a l k d g m = ([], a)

    by_end : (outcome ≢ Err (Memory no_memory) → (text : List ℕ) × E outcome text) → IsExact E outcome
    by_end end = record {
      called_for = end;
      only_one = λ other text full h. one outcome other (end full).0 text (end full).1 h;
    }
