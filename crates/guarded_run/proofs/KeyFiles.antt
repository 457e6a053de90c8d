-- What a load of the file `owner.key` shows.
use Rattle.std.proofs.Common.{◌≡◌, ℕ, List, Option, Some, None, Result, sym, subst}
use Rattle.std.specs.Prelude.{IfSome, IsSomeAnd}
use Rattle.std.specs.declared.vec.Vec.{Vec}
use Rattle.std.specs.declared.alloc.Global.{Global}
use Rattle.road_io.specs.Contents.{Folder, Gives}
use Rattle.road_io.specs.declared.library.LoadError.{LoadError}
use Rattle.guarded_run.specs.OwnerKey.{IsKnown}
use Rattle.guarded_run.specs.declared.owner_key.KeyFile.{KeyFile}
use Rattle.guarded_run.specs.declared.owner_key.KeyFile.TheVariants.{Special}

pub some_and : (file : Option (List ℕ)) (octets : List ℕ) (P : List ℕ → Type 0) → file ≡ Some octets → P octets → IsSomeAnd file P
some_and file octets P is h = subst (λ (f : Option (List ℕ)). IsSomeAnd f P) (sym is) h

pub by_gives : (files : Option Folder) (name : List ℕ) (most : ℕ) (loaded : Result (Vec ℕ Global) LoadError) (known : KeyFile)
    → ((file : Option (List ℕ)) → Gives file most loaded → IsKnown file known)
    → IfSome files (λ folder. Gives (folder name) most loaded) → IfSome files (λ folder. IsKnown (folder name) known)
by_gives None name most loaded known each gives = tt
by_gives (Some folder) name most loaded known each gives = each (folder name) gives

pub special : (files : Option Folder) (name : List ℕ) → IfSome files (λ folder. IsKnown (folder name) Special)
special None name = tt
special (Some folder) name = tt
