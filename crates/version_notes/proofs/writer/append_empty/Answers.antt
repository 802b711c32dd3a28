use Rattle.std.proofs.Common.{rules, arith}
use Rattle.version_notes.proofs.Zeros.{gains_failed, zeros_more, zeros_stopped}
use Rattle.version_notes.proofs.writer.append_empty.Goals as goal

pub loop-done-preserved : goal.loop-done-preserved
loop-done-preserved g c =
    let old = c.loop-done.invariant in
    let draft = g.F.Folder.draft in
    let numbers = g.F.Folder.numbers in
    record {
      within = omega (arith, c.min-piece.ensures, c.loop-done-test.true);
      whole = search rules;
      zeros = search rules;
      files = search rules;
      drafts = zeros_more (draft c.args.folder.now) (draft c.loop-done.folder) (draft c.append.new.self) (numbers c.args.folder.now) (numbers c.loop-done.folder) (numbers c.append.new.self)
          4096 c.min-piece.result _ old.zeros (omega (arith, c.min-piece.ensures)) c.loop-done.done old.drafts c.in_ok-append.ensures.ok;
      later = search rules;
    }

pub returns-in_err-append : goal.returns-in_err-append
returns-in_err-append g c =
    let old = c.loop-done.invariant in
    let draft = g.F.Folder.draft in
    let numbers = g.F.Folder.numbers in
    record {
      same_files = search rules;
      gains = gains_failed (draft c.args.folder.now) (draft c.append.new.self) (numbers c.args.folder.now) (numbers c.append.new.self) _ c.from_residual.result (search rules)
          (zeros_stopped (draft c.args.folder.now) (draft c.loop-done.folder) (draft c.append.new.self) (numbers c.args.folder.now) (numbers c.loop-done.folder) (numbers c.append.new.self)
          4096 c.min-piece.result _ old.zeros (omega (arith, c.min-piece.ensures)) c.loop-done.done _ (omega (arith, c.min-piece.ensures, c.loop-done-test.true, old.whole)) old.drafts c.in_err-append.ensures.err);
      cause = search rules;
    }
