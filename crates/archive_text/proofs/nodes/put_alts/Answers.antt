use Rattle.std.proofs.Common.{List, ℕ, rules, subst}
use Rattle.archive_tree.specs.View.{alt_view}
use Rattle.archive_tree.specs.declared.node.Alt.{Alt}
use Rattle.xa_outside.specs.Taken.{Takes, TakesPrefix}
use Rattle.xa_outside.specs.TakenLaws.{Takes-nil, Takes-piece, Puts-piece}
use Rattle.jsonml_lines.specs.Lines.{line_text}
use Rattle.archive_text.specs.Export.{alt_line}
use Rattle.archive_text.proofs.SinkCauses.{sink-then}
use Rattle.archive_text.proofs.nodes.put_alts.Goals as goal

abbrev piece : Alt → List ℕ
piece x = line_text (alt_line (alt_view x))

pub loop-alt-init : goal.loop-alt-init
loop-alt-init g c = record { bytes = Takes-nil _; later = search rules }

pub loop-alt-preserved : goal.loop-alt-preserved
loop-alt-preserved g c =
    record {
      bytes = Takes-piece piece _ _ _ c.args.alts.now c.loop-alt.alt-index c.alt-item.result (search rules) c.loop-alt.invariant.bytes
          (subst (λ (x : Alt). Takes (g.K.Sink.taken c.loop-alt.out) (g.K.Sink.taken c.put_alt.new.out) (piece x)) c.alt-item.is c.in_ok-put_alt.ensures.bytes);
      later = search rules;
    }

pub returns-in_err-put_alt-clause-bytes : goal.returns-in_err-put_alt-clause-bytes
returns-in_err-put_alt-clause-bytes g c = Puts-piece piece _ _ _ c.from_residual.result c.args.alts.now c.loop-alt.alt-index c.alt-item.result (search rules) (search rules) c.loop-alt.invariant.bytes
    (subst (λ (x : Alt). TakesPrefix (g.K.Sink.taken c.loop-alt.out) (g.K.Sink.taken c.put_alt.new.out) (piece x)) c.alt-item.is c.in_err-put_alt.ensures.bytes)

pub returns-in_err-put_alt-clause-cause : goal.returns-in_err-put_alt-clause-cause
returns-in_err-put_alt-clause-cause g c = sink-then _ _ _ c.loop-alt.invariant.later _ c.from_residual.result c.in_err-put_alt.ensures.cause c.from_residual.ensures.1
