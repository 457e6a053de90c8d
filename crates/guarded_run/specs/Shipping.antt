-- The objects of a run before it begins.
use Rattle.std.specs.Prelude.{◌≡◌, ℕ, List, []}
use Rattle.std.specs.declared.option.Option.TheVariants.{Some}
use Rattle.road_io.specs.Contents.{Folder}
use Rattle.road_io.specs.declared.library.Library.{Ghosts as LibraryView}
use Rattle.road_io.specs.declared.source.Source.{Ghosts as SourceView}
use Rattle.road_io.specs.declared.sink.Sink.{Ghosts as SinkView}
use Rattle.road_io.specs.declared.disk.Disk.{Ghosts as DiskView}

-- No call was made to these objects: the libraries and the disk state their contents, no name was requested, nothing
-- was given or taken, and nothing has failed. F is the library by which the file `owner.key` is read.
pub record AreFresh {L S K D F : Type 0} (library : LibraryView L) (source : SourceView S)
    (sink : SinkView K) (disk : DiskView D) (keys : LibraryView F) (l : L) (s : S) (k : K) (d : D)
    (f : F) : Type 0 where
  pub files : (folder : Folder) × (library.files l ≡ Some folder)
  pub unasked : library.asked l ≡ []
  pub library_faults : library.faults l ≡ 0
  pub given : source.given s ≡ []
  pub source_faults : source.faults s ≡ 0
  pub taken : sink.taken k ≡ Some []
  pub sink_faults : sink.faults k ≡ 0
  pub content : (octets : List ℕ) × (disk.content d ≡ Some octets)
  pub disk_faults : disk.faults d ≡ 0
  pub calls : disk.calls d ≡ 0
  pub key_files : (folder : Folder) × (keys.files f ≡ Some folder)
  pub keys_unasked : keys.asked f ≡ []
  pub key_faults : keys.faults f ≡ 0
