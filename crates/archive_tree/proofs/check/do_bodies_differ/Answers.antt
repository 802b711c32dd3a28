use Rattle.std.proofs.Common.{◌≡◌, ◌∙◌, Bool, true, false, not, cond, IsTrue, map, take, Bor, refl, ap, sym, arith}
use Rattle.std.specs.Ordering.{is_eq}
use Rattle.std.specs.BTreeSet.{contains}
use Rattle.std.proofs.lemmas.List.{take_all}
use Rattle.keyed_tree.specs.Data.{PlainKey}
use Rattle.keyed_tree.specs.Order.{key_cmp}
use Rattle.keyed_tree.specs.View.{key_view}
use Rattle.keyed_tree.specs.declared.label.KeyVal.{KeyVal}
use Rattle.archive_tree.specs.PartsTest.{do_differ}
use Rattle.archive_tree.specs.declared.node.Alt.{Alt}
use Rattle.archive_tree.specs.Summary.{summary_of}
use Rattle.archive_tree.proofs.Differ.{among, pair_cmp, same_pair, short_differ, differ_step, differ_stop, seen_step, bodies-view}
use Rattle.archive_tree.proofs.check.do_bodies_differ.Goals as goal

abbrev body : Alt → PlainKey
body a = key_view a.body

was_true : (a b : Bool) → a ≡ not b → a ≡ false → b ≡ true
was_true a true e d = refl
was_true a false e d = sym d ∙ e

was_false : (a b : Bool) → a ≡ not b → a ≡ true → b ≡ false
was_false a true e d = sym d ∙ e
was_false a false e d = refl

pub returns-then-alts-lt2 : goal.returns-then-alts-lt2
returns-then-alts-lt2 c = sym (short_differ c.args.alts.now (omega arith))

pub returns-then-not-branch : goal.returns-then-not-branch
returns-then-not-branch c =
    let l = c.loop-alt in
    let xs = c.args.alts.now in
    let x = c.alt-item.result in
    let key : Bor KeyVal = record { ref_ptr = c.args.alts.ref_ptr; now = x.body } in
    let number : c.summary_of.result ≡ summary_of (body x) = c.summary_of.ensures in
    let seen = ap (λ n. contains pair_cmp l.seen (n, key)) number ∙ l.invariant.seen key in
    let added = c.in_ok-insert.ensures.added in
    let told = c.if-not-branch.true in
    let again : among (body x) (map body (take l.alt-index xs)) ≡ true = was_true c.in_ok-insert.field-0 _ (added ∙ ap not seen) told in
    sym (ap do_differ (bodies-view xs) ∙ differ_stop body xs l.alt-index x (omega arith) c.alt-item.is again)

pub loop-alt-preserved : goal.loop-alt-preserved
loop-alt-preserved c =
    let l = c.loop-alt in
    let xs = c.args.alts.now in
    let x = c.alt-item.result in
    let key : Bor KeyVal = record { ref_ptr = c.args.alts.ref_ptr; now = x.body } in
    let number : c.summary_of.result ≡ summary_of (body x) = c.summary_of.ensures in
    let seen = ap (λ n. contains pair_cmp l.seen (n, key)) number ∙ l.invariant.seen key in
    let added = c.in_ok-insert.ensures.added in
    let told = c.if-not-branch.false in
    let updates = c.in_ok-insert.ensures.updates in
    let new : among (body x) (map body (take l.alt-index xs)) ≡ false = was_false c.in_ok-insert.field-0 _ (added ∙ ap not seen) told in
    record {
      differ = differ_step body xs l.alt-index x (omega arith) c.alt-item.is l.invariant.differ new;
      seen = λ b. (let v = key_view b.now in updates.0 (summary_of v, b) ∙ ap (λ z. cond z true (contains pair_cmp l.seen (summary_of v, b))) (same_pair summary_of c.summary_of.result (body x) v number) ∙ ap (λ z. cond (is_eq (key_cmp (body x) v)) true z) (l.invariant.seen b) ∙ sym (seen_step body xs l.alt-index x (omega arith) c.alt-item.is v));
    }

pub returns : goal.returns
returns c =
    let l = c.loop-alt in
    let xs = c.args.alts.now in
    let all : take l.alt-index xs ≡ xs = take_all l.alt-index xs (omega arith) in
    let end = l.invariant.differ in
    let done : IsTrue (do_differ (map body xs)) = (rw all at end) in
    sym (ap do_differ (bodies-view xs) ∙ done)
