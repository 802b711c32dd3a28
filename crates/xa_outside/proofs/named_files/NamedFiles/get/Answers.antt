use Rattle.std.proofs.Common.{Some, sym, ap, ◌∙◌}
use Rattle.std.specs.Prelude.{option_map}
use Rattle.xa_outside.proofs.FileLemmas.{items_of, get-kept_files}
use Rattle.xa_outside.proofs.named_files.NamedFiles.get.Goals as goal

pub returns-in-Some : goal.returns-in-Some
returns-in-Some c = ap Some c.deref.ensures.value ∙ ap (option_map items_of) c.in-Some.ensures.value ∙ sym (get-kept_files c.args.self.now.files c.args.name.now)

pub returns-in-None : goal.returns-in-None
returns-in-None c = sym (get-kept_files c.args.self.now.files c.args.name.now ∙ ap (option_map items_of) (sym c.in-None.ensures.value))
