use Rattle.std.proofs.Common.{◌≡◌, ◌+◌, ◌≤◌, ◌++◌, List, ℕ, length, take, drop, vec_len, ◌-◌}
use Rattle.mirror_out.specs.Gone.{Adds, Falls, HasRoom, Holds}
use Rattle.mirror_out.proofs.Parting.{Going}
use Rattle.mirror_out.proofs.Spreading.{Begun}
use Rattle.mirror_out.proofs.spreader.Spreader.put.Given as goal

abbrev pub invariant-loop-at : goal.invariant-loop-at
invariant-loop-at g l =
    record {
      within : l.at ≤ vec_len l.mirrors;
      count : length l.self.lost.items + vec_len l.mirrors ≡ length l.fn.self.lost.items + vec_len l.fn.mirrors;
      same_most : l.self.most ≡ l.fn.self.most;
      spread : (gone : List ℕ) × (l.self.lost.items ≡ l.fn.self.lost.items ++ gone)
          × Begun g.M.Mirror.octets g.M.Mirror.named g.M.Mirror.handed g.M.Mirror.puts g.M.Mirror.room
          1 l.piece l.fn.mirrors.items (take l.at l.mirrors.items) gone (drop l.at l.mirrors.items);
      roomy : HasRoom l.fn.gone l.fn.mirrors → HasRoom l.gone l.mirrors;
      parted : HasRoom l.fn.gone l.fn.mirrors → Adds l.fn.gone.items l.gone.items (λ fallen. Going (Holds g.M.Mirror.octets g.M.Mirror.named g.M.Mirror.handed g.M.Mirror.puts g.M.Mirror.room g.M.Mirror.faults 1 l.piece)
          (Falls g.M.Mirror.octets g.M.Mirror.named g.M.Mirror.handed g.M.Mirror.faults (length l.piece) l.piece 1)
          l.fn.mirrors.items (take l.at l.mirrors.items) fallen (drop l.at l.mirrors.items));
    }

abbrev pub decreases-loop-at : goal.decreases-loop-at
decreases-loop-at g l = vec_len l.mirrors - l.at
