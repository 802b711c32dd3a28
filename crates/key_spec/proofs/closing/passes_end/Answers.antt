use Rattle.std.proofs.Common.{arith}
use Rattle.std.proofs.lemmas.Grind.{common_steps}
use Rattle.std.proofs.Common.{◌≡◌, sym, ap, ◌∙◌, true}
use Rattle.std.proofs.lemmas.Bool.{or_left}
use Rattle.std.specs.BTreeSet.{contains_text}
use Rattle.key_spec.specs.Names.{slashed}
use Rattle.key_spec.specs.View.{names_view}
use Rattle.key_spec.proofs.closing.passes_end.Goals as goal

pub returns-then-has_text : goal.returns-then-has_text
returns-then-has_text c =
    let found : contains_text c.args.ends.now (slashed (names_view c.args.rule.now.context.items)) ≡ true =
    ap (contains_text c.args.ends.now) (sym c.requires.context) ∙ sym c.has_text.ensures ∙ c.if-has_text.true in
    sym (or_left _ _ found)

pub loop-path-preserved : goal.loop-path-preserved
loop-path-preserved c = grind (arith, common_steps)

pub returns-then-branch : goal.returns-then-branch
returns-then-branch c = grind (arith, common_steps)

pub returns : goal.returns
returns c = grind (arith, common_steps)

pub loop-path-init : goal.loop-path-init
loop-path-init c = grind (arith, common_steps)
