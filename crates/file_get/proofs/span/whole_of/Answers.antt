use Rattle.file_get.proofs.span.whole_of.Goals as goal

pub returns-clause-is : goal.returns-clause-is
returns-clause-is c = λ i. record { at = c.tree_of-at.ensures.at i; limit = c.tree_of-at.ensures.limit i; position = 0; count = c.args.count }
