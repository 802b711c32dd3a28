use Rattle.std.proofs.Common.{map, ap, ◌∙◌, slice_get, lit<}
use Rattle.keyed_tree.specs.View.{key_view}
use Rattle.archive_text.specs.Export.{key_line}
use Rattle.archive_text.proofs.Found.{read_fails}
use Rattle.archive_text.proofs.ReadKeys.{keys_done, keys_next, keys_on, keys_start}
use Rattle.archive_text.proofs.keys.read_keys.Goals as goal

pub loop-text-init : goal.loop-text-init
loop-text-init c =
    record {
      left = λ lines m rest other h. rw c.new-text.ensures.bytes (keys_start lines m rest _ h);
      within = c.requires;
    }

pub returns-in_err-line-clause-found : goal.returns-in_err-line-clause-found
returns-in_err-line-clause-found c = λ lines m rest other h. (
    let left = c.loop-text.invariant.left lines m rest other h in
    read_fails (map key_line left.left) m rest _ _ _ c.from_residual.result c.in_err-line.field-0.0 c.from_residual.ensures.1 left.lies c.in_err-line.ensures.found)

pub returns-then-not-has_word-clause-found : goal.returns-then-not-has_word-clause-found
returns-then-not-has_word-clause-found c = λ lines m rest other h.
    keys_done lines m rest _ _ _ _ (c.loop-text.invariant.left lines m rest other h) c.in_ok-line.ensures.found (c.has_word.ensures.no c.if-not-has_word.true)

pub loop-text-preserved : goal.loop-text-preserved
loop-text-preserved c =
    record {
      left = λ lines m rest other h. (
          let n = keys_next lines m rest _ _ _ _ (c.loop-text.invariant.left lines m rest other h) other c.in_ok-line.ensures.found (c.has_word.ensures.yes c.if-not-has_word.false) in
          let cell = ap (λ ks. slice_get (map key_view ks) 0) c.deref.ensures.value ∙ ap (λ ks. slice_get ks 0) n.cells in
          keys_on lines m rest _ _ _ n _ _ _ _ (c.text_at.ensures n.key cell) c.in_ok-push_str.ensures.bytes (c.in_ok-push.ensures.ascii (lit< tt)) c.in_ok-push.ensures.bytes);
      within = c.in_ok-line.ensures.within;
    }
