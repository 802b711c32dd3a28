use Rattle.std.proofs.Common.{rules, lit<}
use Rattle.std.proofs.lemmas.Str.Pattern.{split_parts}
use Rattle.archive_text.proofs.LineLaws.{key_step, last_key}
use Rattle.archive_text.proofs.export.put_lines.Goals as goal
use Rattle.archive_file.proofs.PutLaws.{on-ok}

pub loop-line-preserved : goal.loop-line-preserved
loop-line-preserved c =
    let parts = split_parts 10 c.loop-line.left.now c.split_once.result c.split_once.ensures.cases (lit< tt) in
    let part = rw c.in-Some.is at parts in
    record {
      utf8 = search rules;
      wrote = key_step _ _ _ _ _ _ part.0 part.1 c.loop-line.invariant.wrote c.in_ok-put_key.ensures;
    }

pub returns : goal.returns
returns c =
    let parts = split_parts 10 c.loop-line.left.now c.split_once.result c.split_once.ensures.cases (lit< tt) in
    let free = rw c.in_default.is at parts in
    on-ok c.put_key-2.result (λ h. last_key _ _ _ _ (search rules) free c.loop-line.invariant.wrote h) c.put_key-2.ensures
