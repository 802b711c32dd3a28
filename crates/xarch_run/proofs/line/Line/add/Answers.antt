use Rattle.std.proofs.Common.{◌≡◌, ◌++◌, ◌&&◌, take, sym, ap, ◌∙◌, arith}
use Rattle.std.proofs.lemmas.Grind.{common_steps}
use Rattle.xarch_run.specs.Lines.{is_blank}
use Rattle.xarch_run.proofs.LineLemmas.{shows-more}
use Rattle.xarch_run.proofs.line.Line.add.Goals as goal
use Rattle.xarch_run.proofs.line.Line.add.Goals.{then-self, else-self}

pub returns : goal.returns
returns c = λ bytes s.
    let old = c.args.self.now in
    let piece = c.args.piece.now in
    let grows : c.extend_from_slice.new.self.items ≡ old.bytes.items ++ take c.min.result piece = grind (arith, common_steps) in
    let blank : c.if-self.self ≡ (old.blank && is_blank piece) =
    elim c.if-self.branch [
      | then-self w ↦ w.self-is ∙ w.is_blank_piece-self.ensures ∙ ap (λ b. b && is_blank piece) (sym w.if-self.true)
      | else-self w ↦ w.self-is ∙ w.if-self.false ∙ ap (λ b. b && is_blank piece) (sym w.if-self.false)
    ] in
    shows-more old _ bytes piece c.min.result s (omega arith) (omega arith) grows blank
