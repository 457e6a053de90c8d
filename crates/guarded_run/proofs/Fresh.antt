-- What objects state before any call to them.
use Rattle.std.proofs.Common.{◌≡◌, ℕ, List, [], get_or, Some, refl, sym, subst}
use Rattle.road_io.specs.Contents.{Folder}
use Rattle.road_io.specs.Noted.{noted}
use Rattle.road_io.specs.Shelves.{Note, asked_in, failures_in, shelf, told}
use Rattle.road_io.specs.Worlds.{Call, reads}

pub fresh_files : (world history : List Note) → history ≡ [] → (folder : Folder) × (told world history ≡ Some folder)
fresh_files world history is = (shelf world, subst (λ (h : List Note). told world h ≡ Some (shelf world)) (sym is) refl)

pub fresh_names : (history : List Note) → history ≡ [] → asked_in history ≡ []
fresh_names history is = subst (λ (h : List Note). asked_in h ≡ []) (sym is) refl

pub fresh_failures : (world history : List Note) → history ≡ [] → failures_in (shelf world) history ≡ 0
fresh_failures world history is = subst (λ (h : List Note). failures_in (shelf world) h ≡ 0) (sym is) refl

pub fresh_octets : (history : List (List ℕ × List ℕ)) → history ≡ [] → noted history ≡ []
fresh_octets history is = subst (λ (h : List (List ℕ × List ℕ)). noted h ≡ []) (sym is) refl

pub fresh_content : (world history : List Call) → history ≡ [] → (octets : List ℕ) × (reads world history ≡ Some octets)
fresh_content world history is = ((get_or world 0 ([], [])).1, subst (λ (h : List Call). reads world h ≡ Some (get_or world 0 ([], [])).1) (sym is) refl)
