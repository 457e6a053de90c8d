use Rattle.std.proofs.Common.{◌≡◌, ◌+◌, ◌≤◌, length, vec_len}
use Rattle.proof_octets.specs.Publications.{publication_text}
use Rattle.mirror_out.specs.Gone.{HasRoom}
use Rattle.mirror_out.specs.Spreader.{lost_of, most_of}
use Rattle.publication_out.proofs.SendLemmas.{IsUnderWay}
use Rattle.publication_out.proofs.sending.send.Given as goal

abbrev pub invariant-loop-count : goal.invariant-loop-count
invariant-loop-count g l = record {
  counted : length (lost_of l.spreader) + vec_len l.mirrors ≡ length (lost_of l.fn.spreader) + vec_len l.fn.mirrors;
  same_most : most_of l.spreader ≡ most_of l.fn.spreader;
  kept : g.K.Sink.faults l.sink ≡ g.K.Sink.faults l.fn.sink;
  later : g.K.Sink.faults l.fn.sink ≤ g.K.Sink.faults l.sink;
  roomy : HasRoom l.fn.gone l.fn.mirrors → HasRoom l.gone l.mirrors;
  way : IsUnderWay g.M.Mirror.octets g.M.Mirror.named g.M.Mirror.handed g.M.Mirror.puts g.M.Mirror.room g.M.Mirror.faults (HasRoom l.fn.gone l.fn.mirrors)
      (publication_text l.publication) l.buffer l.pieces l.count (g.K.Sink.taken l.fn.sink) (g.K.Sink.taken l.sink) l.fn.mirrors.items l.mirrors.items l.fn.gone.items l.gone.items;
}

abbrev pub decreases-loop-count : goal.decreases-loop-count
decreases-loop-count g l = length l.pieces + l.count
