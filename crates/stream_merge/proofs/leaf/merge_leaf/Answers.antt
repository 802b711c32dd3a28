use Rattle.std.proofs.Common.{Some, ap, subst, ◌∙◌}
use Rattle.std.specs.Option.{option_map}
use Rattle.keyed_tree.specs.Data.{PlainKeyed}
use Rattle.keyed_tree.specs.LentView.{lent_val_view}
use Rattle.keyed_parts.specs.View.{kid_view}
use Rattle.record_cursor.specs.View.{PlainCursor}
use Rattle.record_writer.specs.declared.writer.Writer.{Writer}
use Rattle.stream_merge.specs.LeafMerged.{AltsMerged}
use Rattle.stream_merge.specs.Passes.{fault_of}
use Rattle.record_copy.specs.State.{State, state}
use Rattle.stream_merge.specs.View.{PlainInherited}
use Rattle.stream_merge.proofs.Alternatives.{leaf-merged, leaf-copied, leaf-damaged}
use Rattle.stream_merge.proofs.leaf.merge_leaf.Given.{Over}
use Rattle.stream_merge.proofs.leaf.merge_leaf.Goals as goal

abbrev at : (g : Over) → g.row.F.Denot → PlainCursor → Writer → State
at g = (let f = g.F.Folder in state f.files f.draft f.numbers f.faults)

pub returns-in-Body : goal.returns-in-Body
returns-in-Body g c =
    let i = c.in-Body in
    let m = c.merge_alts in
    let s = at g c.args.folder.now c.args.cursor.now c.args.writer.now in
    let t = at g m.new.folder m.new.cursor m.new.writer in
    leaf-merged {t = t} (ap (option_map kid_view) c.in-Some.is ∙ ap (λ (k : PlainKeyed). Some k) i.ensures) (subst (λ (own : PlainInherited). AltsMerged own (lent_val_view i.body) s t (fault_of m.result)) c.get-own.ensures m.ensures)

pub returns-in-Kids : goal.returns-in-Kids
returns-in-Kids g c = leaf-damaged (ap (option_map kid_view) c.in-Some.is ∙ ap (λ (k : PlainKeyed). Some k) c.in-Kids.ensures) (g.met.F.Folder.metered c.args.folder.now) c.requires.within

pub returns-in-None : goal.returns-in-None
returns-in-None g c =
    let t = at g c.copy_alts.new.folder c.copy_alts.new.cursor c.copy_alts.new.writer in
    leaf-copied {t = t} (ap (option_map kid_view) c.in-None.is) c.copy_alts.ensures
