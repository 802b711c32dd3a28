use Rattle.std.proofs.Common.{refl}
use Rattle.record_writer.specs.Data.{call_finish}
use Rattle.record_writer.specs.View.{writer_view}
use Rattle.record_writer.proofs.CallLaws.{not-folder, call-folder, call-too-long}
use Rattle.record_writer.proofs.writer.Writer.finish.Goals as goal

pub send-requires : goal.send-requires
send-requires g c = not-folder (writer_view c.args.self) (call_finish) c.close_root-prepared.new.self c.close_root-prepared.result c.close_root-prepared.ensures

pub returns-clause-folder : goal.returns-clause-folder
returns-clause-folder g c =
    let f = g.F.Folder in
    call-folder f.files f.draft f.numbers f.faults c.args.folder.now c.send.new.folder (writer_view c.args.self) (call_finish) c.close_root-prepared.new.self c.close_root-prepared.new.self.record.items
    c.close_root-prepared.result c.send.result c.close_root-prepared.ensures c.send.ensures.outcome refl c.send.ensures.folder

pub returns-clause-too_long : goal.returns-clause-too_long
returns-clause-too_long g c = call-too-long (writer_view c.args.self) (call_finish) c.close_root-prepared.new.self c.close_root-prepared.result c.send.result c.close_root-prepared.ensures c.send.ensures.outcome
