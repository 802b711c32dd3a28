use Rattle.std.proofs.Common.{◌≡◌, ◌∙◌, ℕ, List, length, take, drop, Option, sym, ap, subst, rules}
use Rattle.record_cursor.proofs.Fills.{room-front}
use Rattle.record_cursor.specs.Steps.{OnlyReads}
use Rattle.record_cursor.specs.declared.fault.CursorFault.{CursorFault}
use Rattle.row_ends.specs.Expected.{IsFound}
use Rattle.row_ends.proofs.room.find.Goals as goal

pub returns-in-Ok-clause-told : goal.returns-in-Ok-clause-told
returns-in-Ok-clause-told g c = λ end bytes tells fits. (
    let expected = c.args.expected.now in
    let size = length expected in
    let there : take size c.deref.result.now ≡ take size (drop c.args.at bytes) =
    ap (take size) c.deref.ensures.value ∙ room-front size _ c.fill_first.new.room _ (search rules) (search rules) ∙ c.in-Ok.ensures.told end bytes tells fits in
    subst (λ (x : List ℕ). IsFound expected x c.compared.result) there c.compared.ensures.found)

pub returns-in-Ok-clause-reads : goal.returns-in-Ok-clause-reads
returns-in-Ok-clause-reads g c =
    let f = g.F.Folder in
    subst (λ (o : Option CursorFault). OnlyReads f.files f.draft f.faults c.args.folder.now c.fill_first.new.folder o) (sym c.compared.ensures.fault) c.in-Ok.ensures.reads
