use Rattle.std.specs.FinMap as map
use Rattle.xarch_words.specs.Refusal.{no_file}
use Rattle.xarch_parts.specs.Ends.{IsInside, IsOfFolder}
use Rattle.xarch_parts.specs.InputLaws.{front_is_whole}
use Rattle.xarch_parts.proofs.inputs.read_whole.Goals as goal

pub returns-in-Ok-clause-reads : goal.returns-in-Ok-clause-reads
unfolding IsOfFolder IsInside
returns-in-Ok-clause-reads g c = let r = c.read_front.ensures in record { same_files = r.files; same_draft = r.draft; pulls = r.pulls; later = r.later; cause = tt }

pub returns-in-Ok-clause-told : goal.returns-in-Ok-clause-told
returns-in-Ok-clause-told g c = λ files told length. front_is_whole (map.get files c.args.name.now) (no_file c.args.name.now) c.args.length _ length (c.in-Ok.ensures.bytes files told)

pub returns-in-Err-Folder-clause-reads : goal.returns-in-Err-Folder-clause-reads
unfolding IsOfFolder
returns-in-Err-Folder-clause-reads g c = let r = c.read_front.ensures in record { same_files = r.files; same_draft = r.draft; pulls = r.pulls; later = r.later; cause = rw c.in-Err-Folder.field-0-is at c.in-Err-Folder.ensures.cause }

pub returns-in-Err-Memory-clause-reads : goal.returns-in-Err-Memory-clause-reads
unfolding IsOfFolder IsInside
returns-in-Err-Memory-clause-reads g c = let r = c.read_front.ensures in record { same_files = r.files; same_draft = r.draft; pulls = r.pulls; later = r.later; cause = tt }
