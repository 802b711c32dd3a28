use Rattle.std.proofs.Common.{[], ◌∷◌, ◌++◌, Option, Some, Ok, Err, subst}
use Rattle.version_set.specs.View.{pairs_of}
use Rattle.keyed_tree.specs.LentView.{lent_val_view}
use Rattle.record_writer.specs.Data.{call_alt, call_end_leaf}
use Rattle.record_writer.specs.Walks.{alt_calls}
use Rattle.stream_merge.specs.Does.{Sent}
use Rattle.stream_merge.specs.Meets.{new_alts}
use Rattle.record_copy.specs.State.{state}
use Rattle.stream_merge.specs.declared.fault.MergeFault.{MergeFault}
use Rattle.stream_merge.proofs.Alternatives.{closes-found, closes-unsent, closes-new}
use Rattle.stream_merge.proofs.Handed.{sent-handed, called}
use Rattle.stream_merge.proofs.States.{call-sends}
use Rattle.stream_merge.proofs.leaf.close_leaf.Goals as goal

pub returns-then-found : goal.returns-then-found
returns-then-found g c = record {
  sends = λ c' within. (
      let f = g.F.Folder in
      let at = state f.files f.draft f.numbers f.faults in
      let b = lent_val_view c.args.body in
      let e = c.end_leaf.ensures in
      let end = call-sends f.files f.draft f.numbers f.faults c.args.folder.now c.end_leaf.new.folder c' c.args.writer.now c.end_leaf.new.self call_end_leaf c.end_leaf.result (g.met.F.Folder.metered c.args.folder.now) within e.folder e.after e.too_long in
      subst (λ (o : Option MergeFault). Sent (alt_calls (new_alts c.args.number b c.args.found) ++ call_end_leaf ∷ []) (at c.args.folder.now c' c.args.writer.now) (at c.end_leaf.new.folder c' c.end_leaf.new.self) o) (called c.end_leaf.result c.written.result c.written.ensures)
      (closes-found c.args.number b c.if-found.true end));
}

pub returns-in_err-begun : goal.returns-in_err-begun
returns-in_err-begun g c = record {
  sends = λ c' within. (
      let f = g.F.Folder in
      let b = lent_val_view c.args.body in
      let e = c.in_err-begun in
      let new = call-sends f.files f.draft f.numbers f.faults c.args.folder.now c.alt-begun.new.folder c' c.args.writer.now c.alt-begun.new.self (call_alt (Some (pairs_of c.single.result)) b) (Err e.field-0.0) (g.met.F.Folder.metered c.args.folder.now) within e.ensures.folder e.ensures.after e.ensures.too_long in
      sent-handed _ _ c.from_residual.ensures.1 _ _ _ (closes-unsent c.args.number b c.if-found.false c.single.ensures.pairs new));
}

pub returns : goal.returns
returns g c = record {
  sends = λ c' within. (
      let f = g.F.Folder in
      let at = state f.files f.draft f.numbers f.faults in
      let b = lent_val_view c.args.body in
      let a = c.in_ok-begun in
      let e = c.end_leaf-2.ensures in
      let new = call-sends f.files f.draft f.numbers f.faults c.args.folder.now c.alt-begun.new.folder c' c.args.writer.now c.alt-begun.new.self (call_alt (Some (pairs_of c.single.result)) b) (Ok a.field-0) (g.met.F.Folder.metered c.args.folder.now) within a.ensures.folder a.ensures.after a.ensures.too_long in
      let end = call-sends f.files f.draft f.numbers f.faults c.alt-begun.new.folder c.end_leaf-2.new.folder c' c.alt-begun.new.self c.end_leaf-2.new.self call_end_leaf c.end_leaf-2.result (g.met.F.Folder.metered c.alt-begun.new.folder) within e.folder e.after e.too_long in
      subst (λ (o : Option MergeFault). Sent (alt_calls (new_alts c.args.number b c.args.found) ++ call_end_leaf ∷ []) (at c.args.folder.now c' c.args.writer.now) (at c.end_leaf-2.new.folder c' c.end_leaf-2.new.self) o) (called c.end_leaf-2.result c.written-2.result c.written-2.ensures)
      (closes-new c.args.number b c.if-found.false c.single.ensures.pairs new end));
}
