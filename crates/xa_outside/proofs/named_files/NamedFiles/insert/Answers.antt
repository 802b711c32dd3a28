use Rattle.xa_outside.proofs.FileLemmas.{kept_files-insert}
use Rattle.std.proofs.Common.{ap, ◌∙◌}
use Rattle.std.specs.FinMap as fin
use Rattle.xa_outside.specs.NamedFiles.{stored_files}
use Rattle.xa_outside.proofs.named_files.NamedFiles.insert.Goals as goal

pub returns-in-Ok-insert-clause-ok : goal.returns-in-Ok-insert-clause-ok
returns-in-Ok-insert-clause-ok c =
    kept_files-insert c.args.self.now.files c.insert.new.self c.in-Ok.name c.args.bytes c.in-Ok-insert.ensures.updates ∙ ap (λ bs. fin.insert (stored_files c.args.self.now) bs c.args.bytes.items) c.in-Ok.ensures.ok
