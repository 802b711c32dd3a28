use Rattle.jsonml_print.proofs.TreeWalk.{calls_may_come, calls_print}
use Rattle.jsonml_print.proofs.laws.calls_print_the_tree.Goals as goal

pub returns-clause-text : goal.returns-clause-text
returns-clause-text c = calls_print

pub returns-clause-may_come : goal.returns-clause-may_come
returns-clause-may_come c = calls_may_come
