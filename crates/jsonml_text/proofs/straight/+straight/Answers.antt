use Rattle.std.proofs.Common.{◌≡◌, ◌+◌, ◌-◌, ◌++◌, ◌∷◌, [], map, length, arith, refl, rules}
use Rattle.std.proofs.lemmas.Grind.{common_steps}
use Rattle.json.specs.Lex.{token}
use Rattle.json.specs.Token.{begin_array}
use Rattle.std.specs.Cow.{cow_str_bytes}
use Rattle.jsonml_tree.proofs.LentTrees.{lent_tree_view-Text, lent_tree_view-Leaf, lent_tree_view-Elem, lent_row_view-is}
use Rattle.jsonml_tree.specs.LentView.{only_text, lent_row_view}
use Rattle.jsonml_tree.specs.LentAttrs.{lent_attr_view}
use Rattle.jsonml_text.specs.Straight.{HasLexeme}
use Rattle.jsonml_text.proofs.Pushing.{ReadsTree-text, ReadsTree-element, ReadsContent-text, ReadsContent-parts, HasPushed-more, ReadsItems-end}
use Rattle.jsonml_text.proofs.straight.+straight.Goals as goal

pub read_tree-returns : goal.read_tree-returns
read_tree-returns t c =
    let string = c.in_ok-string.string in
    ReadsTree-text c.args.levels c.args.text.now c.args.at c.args.room.now.trees.items _ (cow_str_bytes string) c.in_ok-string.next (lent_tree_view-Text string) c.in_ok-string.ensures

pub read_element-returns-in-Some : goal.read_element-returns-in-Some
read_element-returns-in-Some t c =
    let tag = c.in_ok-tag.tag in
    let held = c.in-Some.held in
    let named = c.skip_blanks-named in
    let old = c.args.room.now.trees.items in
    let sign : HasLexeme c.args.text.now c.args.at (token begin_array) (c.args.at + 1) = search rules in
    ReadsTree-element c.args.levels c.args.text.now c.args.at named.result c.in_ok-tag.inside old old _ (cow_str_bytes tag) (only_text (cow_str_bytes held)) c.in-Some.next
    (omega arith) sign named.ensures.same (omega (arith, named.ensures.later)) c.in_ok-tag.ensures (ReadsContent-text (c.args.levels - 1) c.args.text.now c.in_ok-tag.inside old (cow_str_bytes held) c.in-Some.next c.in-Some.ensures) (lent_tree_view-Leaf tag held)

pub read_element-returns : goal.read_element-returns
read_element-returns t c =
    let tag = c.in_ok-tag.tag in
    let row = c.in_ok-row.row in
    let named = c.skip_blanks-named in
    let sign : HasLexeme c.args.text.now c.args.at (token begin_array) (c.args.at + 1) = search rules in
    ReadsTree-element c.args.levels c.args.text.now c.args.at named.result c.in_ok-tag.inside c.args.room.now.trees.items c.read_row.new.room.trees.items _ (cow_str_bytes tag) (lent_row_view row) c.in_ok-row.next
    (omega arith) sign named.ensures.same (omega (arith, named.ensures.later)) c.in_ok-tag.ensures c.in_ok-row.ensures (lent_tree_view-Elem tag row)

pub read_row-returns : goal.read_row-returns
read_row-returns t c =
    let attrs = c.in_ok-attrs in
    let items = c.in_ok-items in
    ReadsContent-parts c.args.levels c.args.text.now c.args.at attrs.begun c.args.room.now.trees.items c.read_items.new.room.trees.items items.items.items _ (map lent_attr_view attrs.attrs.items) items.next (lent_row_view-is _) attrs.ensures items.ensures

pub read_items-items-preserved : goal.read_items-items-preserved
read_items-items-preserved t c =
    let left = c.read_tree.new.room.trees.items in
    let item = c.in_ok-item.item in
    let waits : c.push.new.self.items ≡ left ++ item ∷ [] = search rules in
    HasPushed-more c.args.levels c.args.text.now c.args.at c.args.room.now.trees.items c.items.room.trees.items left c.push.new.self.items item c.items.end c.skip_blanks.result c.in_ok-item.next c.items.invariant (c.items-test.ensures refl)
    c.skip_blanks.ensures.same c.skip_blanks.ensures.later c.in_ok-item.ensures waits

pub read_items-returns : goal.read_items-returns
read_items-returns t c =
    let old = c.args.room.now.trees.items in
    let taken = c.in_ok-take_from in
    let next = c.skip_blanks-2 in
    let many : c.len-waiting.result ≡ length old = search rules in
    ReadsItems-end c.args.levels c.args.text.now c.args.at old c.items.room.trees.items c.take_from.new.self.trees.items taken.field-0.items c.len-waiting.result c.items.end next.result c.items.invariant (c.if-not-is_sign.ensures refl) next.ensures.same
    next.ensures.later next.ensures.within many taken.ensures.taken taken.ensures.left taken.ensures.few

pub read_element-returns-then-levels-eq0 : goal.read_element-returns-then-levels-eq0
read_element-returns-then-levels-eq0 t c = grind (arith, common_steps)

pub read_tree-returns-then-is_sign : goal.read_tree-returns-then-is_sign
read_tree-returns-then-is_sign t c = grind (arith, common_steps)

pub read_items-returns-then-not-is_sign : goal.read_items-returns-then-not-is_sign
read_items-returns-then-not-is_sign t c = grind (arith, common_steps)
