use Rattle.std.proofs.Common.{ap, ◌∙◌}
use Rattle.sync_core.specs.Jobs.{Sync}
use Rattle.sync_job.specs.Runs.{IsCopying, EndsSync, no_number}
use Rattle.sync_job.specs.Words.{calls_of, master_of, mirror_of, report_of}
use Rattle.mirror_engines.specs.Ports.{is_lost}
use Rattle.mirror_engines.specs.Runs.{IsSynchronised}
use Rattle.mirror_engines.proofs.Devices.{tells_device, sync_ends}
use Rattle.sync_job.specs.Alone.{store_of}
use Rattle.mirror_engines.proofs.Running.{whole}
use Rattle.mirror_engines.proofs.Worlds.{handed_on, stops_handed_on, was_answered}
use Rattle.mirror_engines.proofs.runs.run_synchronize.Goals as goal

pub returns : goal.returns
returns g c =
    let w = whole g.M.MasterPort.answered c.args.master _ _ g.O.Output.contents g.O.Output.failures (IsSynchronised c.args.token c.args.steal) IsCopying (Sync c.args.token c.args.steal) (EndsSync (Sync c.args.token c.args.steal) c.run_sync-ended.result) c.args.mirror c.into_store.result c.args.output c.into_output.result
    c.held.result (mirror_of c.new-ports.result) (mirror_of c.run_sync-ended.new.ports) c.into_parts-master.result.1 c.new.result (report_of c.new-ports.result) (report_of c.run_sync-ended.new.ports) c.into_parts-master.result.2
    (calls_of c.new-ports.result) (calls_of c.run_sync-ended.new.ports) c.run_sync-ended.result c.is_lost.result c.answer_of-answer.result
    c.held.ensures.store c.held.ensures.stands c.held.ensures.holder c.new.ensures.output c.new.ensures.lost
    c.new-ports.ensures.calls c.new-ports.ensures.parts.1 c.new-ports.ensures.parts.2
    c.run_sync-ended.ensures.run c.run_sync-ended.ensures.left.mirror
    (tells_device IsCopying no_number (Sync c.args.token c.args.steal) (EndsSync (Sync c.args.token c.args.steal) c.run_sync-ended.result) (mirror_of c.new-ports.result) (mirror_of c.run_sync-ended.new.ports) (calls_of c.new-ports.result) (calls_of c.run_sync-ended.new.ports) c.run_sync-ended.result (is_lost (report_of c.run_sync-ended.new.ports)) _ _ c.new-ports.ensures.calls c.run_sync-ended.ensures.run (λ es. sync_ends (Sync c.args.token c.args.steal) c.run_sync-ended.result es) c.run_sync-ended.ensures.left.asked)
    c.into_parts-master.ensures.1 c.into_parts-master.ensures.2
    c.is_lost.ensures c.answer_of-answer.ensures c.into_store.ensures c.into_output.ensures (λ r. r)
    c.new-ports.ensures.parts.0 (λ m. g.met.M.MasterPort.unasked m) c.run_sync-ended.ensures.left.answered c.run_sync-ended.ensures.left.asked in
    let asked = was_answered g.M.MasterPort.answered (master_of c.new-ports.result) (master_of c.run_sync-ended.new.ports) (calls_of c.new-ports.result) (calls_of c.run_sync-ended.new.ports) (λ m. g.met.M.MasterPort.unasked m) c.run_sync-ended.ensures.left.answered in
    record {
      ran = w.ran;
      world = record {
        events = handed_on g.M.MasterPort.answered g.M.MasterPort.is_at c.args.master _ _ c.args.mirror c.into_store.result (mirror_of c.new-ports.result) (mirror_of c.run_sync-ended.new.ports) c.held.result
            c.new-ports.ensures.parts.0 c.new-ports.ensures.parts.1 c.held.ensures.store c.held.ensures.holder (c.into_store.ensures ∙ ap store_of c.into_parts-master.ensures.1) asked c.run_sync-ended.ensures.left.world;
        stops = stops_handed_on g.M.MasterPort.answered g.M.MasterPort.is_at c.args.master _ _ c.args.mirror c.into_store.result (mirror_of c.new-ports.result) (mirror_of c.run_sync-ended.new.ports) c.held.result
            c.new-ports.ensures.parts.0 c.new-ports.ensures.parts.1 c.held.ensures.store c.held.ensures.holder (c.into_store.ensures ∙ ap store_of c.into_parts-master.ensures.1) asked c.run_sync-ended.ensures.left.stops;
      };
      output = record { unfailed = w.unfailed; peer = w.peer };
    }
