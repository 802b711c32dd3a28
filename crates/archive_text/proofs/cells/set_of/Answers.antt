use Rattle.std.proofs.Common.{◌∙◌, rules, lit<}
use Rattle.std.proofs.lemmas.Str.Pattern.{split_parts}
use Rattle.archive_text.proofs.Found.{hands_on}
use Rattle.archive_text.proofs.ReadSets.{set_start, next_fits, set_last, set_next, set_on}
use Rattle.archive_text.proofs.cells.set_of.Goals as goal

pub loop-first-init : goal.loop-first-init
loop-first-init c =
    record {
      utf8 = search rules;
      left = λ p ps s e. rw c.empty-set.ensures (set_start p ps c.args.text.now e);
    }

pub returns-in_err-put_pair : goal.returns-in_err-put_pair
returns-in_err-put_pair c = λ p ps s e. (
    let parts = split_parts 44 c.loop-first.left.now c.split_once.result c.split_once.ensures.cases (lit< tt) in
    let part = rw c.in-Some.is at parts in
    let left = c.loop-first.invariant.left p ps s e in
    let fits = next_fits _ _ _ s left in
    let next = set_next _ _ _ _ _ s left part.0 part.1 in
    hands_on _ _ c.from_residual.result c.in_err-put_pair.field-0.0 c.from_residual.ensures.1 (c.in_err-put_pair.ensures left.next fits.pair.from fits.pair.to next.first_is fits.may))

pub loop-first-preserved : goal.loop-first-preserved
loop-first-preserved c =
    let parts = split_parts 44 c.loop-first.left.now c.split_once.result c.split_once.ensures.cases (lit< tt) in
    let part = rw c.in-Some.is at parts in
    record {
      utf8 = search rules;
      left = λ p ps s e. (
          let left = c.loop-first.invariant.left p ps s e in
          let fits = next_fits _ _ _ s left in
          let next = set_next _ _ _ _ _ s left part.0 part.1 in
          set_on _ _ _ _ _ left next _ (c.in_ok-put_pair.ensures left.next fits.pair.from fits.pair.to next.first_is fits.may));
    }

pub returns-in_err-put_pair-2 : goal.returns-in_err-put_pair-2
returns-in_err-put_pair-2 c = λ p ps s e. (
    let parts = split_parts 44 c.loop-first.left.now c.split_once.result c.split_once.ensures.cases (lit< tt) in
    let left = c.loop-first.invariant.left p ps s e in
    let fits = next_fits _ _ _ s left in
    let last = set_last _ _ _ s left (rw c.in_default.is at parts) in
    hands_on _ _ c.from_residual-in_err-put_pair-2.result c.in_err-put_pair-2.field-0.0 c.from_residual-in_err-put_pair-2.ensures.1 (c.in_err-put_pair-2.ensures left.next fits.pair.from fits.pair.to last.0 fits.may))

pub returns : goal.returns
returns c = λ p ps s e. (
    let parts = split_parts 44 c.loop-first.left.now c.split_once.result c.split_once.ensures.cases (lit< tt) in
    let left = c.loop-first.invariant.left p ps s e in
    let fits = next_fits _ _ _ s left in
    let last = set_last _ _ _ s left (rw c.in_default.is at parts) in
    c.in_ok-put_pair-2.ensures left.next fits.pair.from fits.pair.to last.0 fits.may ∙ last.1)
