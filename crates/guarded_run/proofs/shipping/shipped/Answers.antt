use Rattle.std.proofs.Common.{◌≡◌, [], Some, ap}
use Rattle.guarded_run.proofs.Fresh.{fresh_files, fresh_names, fresh_failures, fresh_octets, fresh_content}
use Rattle.guarded_run.proofs.shipping.shipped.Goals as goal

pub returns-clause-fresh : goal.returns-clause-fresh
returns-clause-fresh g c =
    let shelves : c.new-2.result.inner.folder.history.events ≡ [] = cc in
    let output : c.new-5.result.inner.output.history.events ≡ [] = cc in
    record {
      files = fresh_files c.new-2.result.inner.world.events c.new-2.result.inner.folder.history.events shelves;
      unasked = fresh_names c.new-2.result.inner.folder.history.events shelves;
      library_faults = fresh_failures c.new-2.result.inner.world.events c.new-2.result.inner.folder.history.events shelves;
      given = fresh_octets c.new-3.result.input.history.events c.new-3.ensures.history;
      source_faults = c.new-3.ensures.faults;
      taken = ap Some (fresh_octets c.new-5.result.inner.output.history.events output);
      sink_faults = cc;
      content = fresh_content c.new-6.result.world.events c.new-6.result.disk.history.events c.new-6.ensures.history;
      disk_faults = c.new-6.ensures.faults;
      calls = c.new-6.ensures.calls;
      key_files = fresh_files c.new-7.result.world.events c.new-7.result.folder.history.events c.new-7.ensures.history;
      keys_unasked = fresh_names c.new-7.result.folder.history.events c.new-7.ensures.history;
      key_faults = c.new-7.ensures.faults;
    }
