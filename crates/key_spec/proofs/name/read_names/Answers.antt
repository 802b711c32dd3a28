use Rattle.std.proofs.Common.{arith}
use Rattle.std.proofs.lemmas.Grind.{common_steps}
use Rattle.std.proofs.Common.{◌≡◌, ◌∙◌, sym, ap, subst, lit<, true, false, length, get_or, Some, None, eqb, rules}
use Rattle.std.proofs.lemmas.Bool.{cond-true, cond-false}
use Rattle.std.proofs.lemmas.List.Folds.{list_all_at}
use Rattle.std.proofs.lemmas.Iterator.Splits.{YieldsList-from_str_split}
use Rattle.std.proofs.lemmas.Iterator.Consumers.{YieldsList-turn, YieldsList-end}
use Rattle.std.specs.List.{slice_split, list_all}
use Rattle.key_spec.specs.Names.{is_name}
use Rattle.key_spec.proofs.name.read_names.Goals as goal

pub returns-then-not-is_name : goal.returns-then-not-is_name
returns-then-not-is_name c =
    let parts = slice_split (λ b. eqb b 47) c.args.text.now in
    let yields = YieldsList-from_str_split 47 c.args.text.now (lit< tt) (cc) (cc) (cc) in
    let turn = YieldsList-turn yields c.loop-part.yielded _ c.loop-part.yielded_by _ _ c.in-Some.part c.in-Some.is c.next.ensures.steps in
    let no : is_name (get_or parts (length c.loop-part.yielded) c.in-Some.part.now) ≡ false = sym (ap is_name turn.1) ∙ search rules in
    sym (cond-false (list_all is_name parts) (Some parts) None (list_all_at is_name parts _ _ turn.0 no))

pub returns : goal.returns
returns c =
    let parts = slice_split (λ b. eqb b 47) c.args.text.now in
    let yields = YieldsList-from_str_split 47 c.args.text.now (lit< tt) (cc) (cc) (cc) in
    let end = YieldsList-end yields c.loop-part.yielded _ c.loop-part.yielded_by _ _ c.in-None.is c.next.ensures.steps in
    let all : list_all is_name parts ≡ true = subst (λ xs. list_all is_name xs ≡ true) end.0 c.loop-part.invariant.names in
    ap (λ xs. Some xs) (c.loop-part.invariant.same ∙ end.0) ∙ sym (cond-true (list_all is_name parts) (Some parts) None all)

pub loop-part-preserved : goal.loop-part-preserved
loop-part-preserved c = grind (arith, common_steps)
