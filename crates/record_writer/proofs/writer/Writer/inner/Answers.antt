use Rattle.std.proofs.Common.{refl}
use Rattle.version_set.specs.View.{pairs_of}
use Rattle.archive_tree.specs.View.{stamp_view}
use Rattle.record_writer.specs.Data.{call_inner}
use Rattle.record_writer.specs.Given.{given_label}
use Rattle.record_writer.specs.View.{writer_view}
use Rattle.record_writer.proofs.CallLaws.{not-folder, call-folder, call-after, call-too-long}
use Rattle.record_writer.proofs.writer.Writer.inner.Goals as goal

pub send-requires : goal.send-requires
send-requires g c = not-folder (writer_view c.args.self.now) (call_inner (given_label c.args.label) (stamp_view c.args.stamp.now) (pairs_of c.args.set.now)) c.begin_inner-prepared.new.self c.begin_inner-prepared.result c.begin_inner-prepared.ensures

pub returns-clause-folder : goal.returns-clause-folder
returns-clause-folder g c =
    let f = g.F.Folder in
    call-folder f.files f.draft f.numbers f.faults c.args.folder.now c.send.new.folder (writer_view c.args.self.now) (call_inner (given_label c.args.label) (stamp_view c.args.stamp.now) (pairs_of c.args.set.now)) c.begin_inner-prepared.new.self c.begin_inner-prepared.new.self.record.items
    c.begin_inner-prepared.result c.send.result c.begin_inner-prepared.ensures c.send.ensures.outcome refl c.send.ensures.folder

pub returns-clause-after : goal.returns-clause-after
returns-clause-after g c = call-after (writer_view c.args.self.now) (call_inner (given_label c.args.label) (stamp_view c.args.stamp.now) (pairs_of c.args.set.now)) c.begin_inner-prepared.new.self c.begin_inner-prepared.result c.send.result c.begin_inner-prepared.ensures c.send.ensures.outcome

pub returns-clause-too_long : goal.returns-clause-too_long
returns-clause-too_long g c = call-too-long (writer_view c.args.self.now) (call_inner (given_label c.args.label) (stamp_view c.args.stamp.now) (pairs_of c.args.set.now)) c.begin_inner-prepared.new.self c.begin_inner-prepared.result c.send.result c.begin_inner-prepared.ensures c.send.ensures.outcome
