use Rattle.std.proofs.Common.{sym, ap, ◌∙◌, subst}
use Rattle.key_spec.specs.View.{names_view}
use Rattle.csv_tables.specs.Keys.{AreKeys}
use Rattle.xarch_meanings.specs.KeyLaws.{spelled-keys}
use Rattle.xarch_tables.proofs.table.keyed_text.Goals as goal

pub printed-requires-clause-keys : goal.printed-requires-clause-keys
printed-requires-clause-keys c = subst AreKeys (sym (ap names_view c.deref.ensures.value ∙ c.in_ok-names.ensures)) (spelled-keys c.args.keys.now c.requires.words.keyed)
