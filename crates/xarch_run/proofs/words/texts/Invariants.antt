use Rattle.std.proofs.Common.{◌≡◌}
use Rattle.std.specs.Vec.Iter.{into_iter_items}
use Rattle.serde_json.specs.View.{items_view}
use Rattle.xarch_words.specs.View.{words_view}
use Rattle.xarch_run.specs.Words.{texts_of}
use Rattle.xarch_run.proofs.WordLemmas.{onto}
use Rattle.xarch_run.proofs.words.texts.Given as goal

-- what is left decides
abbrev pub invariant-loop-value : goal.invariant-loop-value
invariant-loop-value l = onto (words_view l.texts.items) (texts_of (items_view (into_iter_items l.value-iterator))) ≡ texts_of (items_view l.fn.values.items)
