use Rattle.std.proofs.Common.{rules}
use Rattle.archive_check.proofs.file.check.Goals as goal

pub returns : goal.returns
returns g c =
    let j = c.judge_file.ensures in
    record {
      files = j.same_files;
      draft = j.same_draft;
      pulls = j.pulls;
      later = j.later;
      cause = j.cause;
      sound = λ files bytes told front. j.sound bytes (files, told, front);
      versions = λ files bytes rules vs told front is. j.versions bytes (files, told, front) rules vs is;
      damage = λ files bytes told front. j.damage bytes (files, told, front);
      short = j.short;
      too_long = search rules;
    }
