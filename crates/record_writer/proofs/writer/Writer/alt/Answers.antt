use Rattle.std.proofs.Common.{refl}
use Rattle.archive_tree.specs.View.{stamp_view}
use Rattle.record_writer.specs.Data.{call_alt}
use Rattle.record_writer.specs.Given.{given_body}
use Rattle.record_writer.specs.View.{writer_view}
use Rattle.record_writer.proofs.CallLaws.{not-folder, call-folder, call-after, call-too-long}
use Rattle.record_writer.proofs.writer.Writer.alt.Goals as goal

pub send-requires : goal.send-requires
send-requires g c = not-folder (writer_view c.args.self.now) (call_alt (stamp_view c.args.stamp.now) (given_body c.args.body)) c.add_alternative-prepared.new.self c.add_alternative-prepared.result c.add_alternative-prepared.ensures

pub returns-clause-folder : goal.returns-clause-folder
returns-clause-folder g c =
    let f = g.F.Folder in
    call-folder f.files f.draft f.numbers f.faults c.args.folder.now c.send.new.folder (writer_view c.args.self.now) (call_alt (stamp_view c.args.stamp.now) (given_body c.args.body)) c.add_alternative-prepared.new.self c.add_alternative-prepared.new.self.record.items
    c.add_alternative-prepared.result c.send.result c.add_alternative-prepared.ensures c.send.ensures.outcome refl c.send.ensures.folder

pub returns-clause-after : goal.returns-clause-after
returns-clause-after g c = call-after (writer_view c.args.self.now) (call_alt (stamp_view c.args.stamp.now) (given_body c.args.body)) c.add_alternative-prepared.new.self c.add_alternative-prepared.result c.send.result c.add_alternative-prepared.ensures c.send.ensures.outcome

pub returns-clause-too_long : goal.returns-clause-too_long
returns-clause-too_long g c = call-too-long (writer_view c.args.self.now) (call_alt (stamp_view c.args.stamp.now) (given_body c.args.body)) c.add_alternative-prepared.new.self c.add_alternative-prepared.result c.send.result c.add_alternative-prepared.ensures c.send.ensures.outcome
