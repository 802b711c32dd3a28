use Rattle.std.proofs.Common.{List, ℕ, sym, ap, subst}
use Rattle.xarch_words.specs.Commands.{add}
use Rattle.xarch_words.specs.View.{note_view}
use Rattle.xarch_parts.specs.Ends.{fault_of}
use Rattle.xarch_meanings.specs.Performs.{Performs}
use Rattle.xarch_writes.proofs.add.run_add.Goals as goal

pub returns-in-Some-clause-performs : goal.returns-in-Some-clause-performs
returns-in-Some-clause-performs g c = λ t n.
    let f = g.F.Folder in
    subst (λ (l : List ℕ). Performs f.files f.draft f.numbers f.faults (add c.args.archive.now c.args.doc.now l) c.args.folder.now c.add_noted.new.folder t t n n (fault_of c.add_noted.result)) (sym (ap note_view c.in-Some.is)) (c.add_noted.ensures.performs t n)

pub returns-in-None-clause-performs : goal.returns-in-None-clause-performs
returns-in-None-clause-performs g c = λ t n.
    let f = g.F.Folder in
    subst (λ (l : List ℕ). Performs f.files f.draft f.numbers f.faults (add c.args.archive.now c.args.doc.now l) c.args.folder.now c.add_noted-in-None.new.folder t t n n (fault_of c.add_noted-in-None.result)) (sym (ap note_view c.in-None.is)) (c.add_noted-in-None.ensures.performs t n)
