use Rattle.std.proofs.lemmas.Grind.{common_steps}
use Rattle.std.proofs.Common.{◌≡◌, None, Some, drop, sym, ap, ◌∙◌, arith}
use Rattle.std.proofs.lemmas.List.{drop_all}
use Rattle.record_cursor.specs.Items.{finish}
use Rattle.xa_outside.specs.NumberLaws.{PullsAtMost-more}
use Rattle.record_cursor.specs.Next.{next_of, read_for, tail_at}
use Rattle.record_cursor.specs.Places.{finished}
use Rattle.record_cursor.specs.View.{place_view}
use Rattle.record_cursor.specs.declared.place.Place.{Place}
use Rattle.record_cursor.proofs.Fills.{front-length, damage-map}
use Rattle.record_cursor.proofs.Comes.{ends, ends-not, ended}
use Rattle.record_cursor.proofs.Pulled.{tail-most}
use Rattle.record_cursor.proofs.step.read_step.Goals as goal

pub returns-in-Ok-clause-told : goal.returns-in-Ok-clause-told
returns-in-Ok-clause-told g c = λ bytes tells. (
    let len = front-length (g.F.Folder.files c.args.folder.now) c.args.name.now bytes c.args.length tells in
    ap (λ (p : Place). next_of (place_view p) (drop c.args.at bytes)) c.in-Tail.is ∙ ends c.in-Tail.size (drop c.args.at bytes) (c.in-Ok.ensures.told bytes tells)
    ∙ ap (λ bs. Some (finish, (finished, bs))) (sym (drop_all c.args.length bytes (omega (arith, len)))))

pub returns-in-Err-clause-told : goal.returns-in-Err-clause-told
returns-in-Err-clause-told g c = λ bytes tells. (
    damage-map c.in-Err.fault (tail_at c.in-Tail.size (drop c.args.at bytes) ≡ None) (next_of (place_view c.args.place) (drop c.args.at bytes) ≡ None)
    (λ e. ap (λ (p : Place). next_of (place_view p) (drop c.args.at bytes)) c.in-Tail.is ∙ ends-not c.in-Tail.size (drop c.args.at bytes) e) (c.in-Err.ensures.told bytes tells))

pub returns-in-Finished-clause-told : goal.returns-in-Finished-clause-told
returns-in-Finished-clause-told g c = λ bytes tells. (
    ap (λ (p : Place). next_of (place_view p) (drop c.args.at bytes)) c.in-Finished.is ∙ ended (drop c.args.at bytes)
    ∙ ap (λ (p : Place). Some (finish, (place_view p, drop c.args.at bytes))) (sym c.in-Finished.is))

pub returns-in-Err-clause-only : goal.returns-in-Err-clause-only
returns-in-Err-clause-only g c = λ bytes rest i t tells e. (
    let numbers = g.F.Folder.numbers in
    PullsAtMost-more 8 (read_for (place_view c.args.place) i) (numbers c.args.folder.now) (numbers c.read_tail.new.folder)
    (tail-most (place_view c.args.place) t c.in-Tail.size (drop c.args.at bytes) rest i (ap place_view c.in-Tail.is) e) c.in-Err.ensures.few)

pub returns-in-Nodes-clause-spelled : goal.returns-in-Nodes-clause-spelled
returns-in-Nodes-clause-spelled g c = c.read_record.ensures.spelled

pub returns-in-Ok-clause-spelled : goal.returns-in-Ok-clause-spelled
returns-in-Ok-clause-spelled g c = λ bytes tells. tt

pub returns-in-Err-clause-spelled : goal.returns-in-Err-clause-spelled
returns-in-Err-clause-spelled g c = λ bytes tells. tt

pub returns-in-Finished-clause-spelled : goal.returns-in-Finished-clause-spelled
returns-in-Finished-clause-spelled g c = λ bytes tells. tt

pub returns-in-Nodes-clause-reads : goal.returns-in-Nodes-clause-reads
returns-in-Nodes-clause-reads g c = grind (arith, common_steps)

pub returns-in-Nodes-clause-pulls : goal.returns-in-Nodes-clause-pulls
returns-in-Nodes-clause-pulls g c = grind (arith, common_steps)

pub returns-in-Nodes-clause-leads : goal.returns-in-Nodes-clause-leads
returns-in-Nodes-clause-leads g c = grind (arith, common_steps)

pub returns-in-Nodes-clause-within : goal.returns-in-Nodes-clause-within
returns-in-Nodes-clause-within g c = grind (arith, common_steps)

pub returns-in-Nodes-clause-told : goal.returns-in-Nodes-clause-told
returns-in-Nodes-clause-told g c = grind (arith, common_steps)

pub returns-in-Nodes-clause-only : goal.returns-in-Nodes-clause-only
returns-in-Nodes-clause-only g c = grind (arith, common_steps)

pub returns-in-Nodes-clause-again : goal.returns-in-Nodes-clause-again
returns-in-Nodes-clause-again g c = grind (arith, common_steps)

pub returns-in-Ok-clause-reads : goal.returns-in-Ok-clause-reads
returns-in-Ok-clause-reads g c = grind (arith, common_steps)

pub returns-in-Ok-clause-pulls : goal.returns-in-Ok-clause-pulls
returns-in-Ok-clause-pulls g c = grind (arith, common_steps)

pub returns-in-Ok-clause-leads : goal.returns-in-Ok-clause-leads
returns-in-Ok-clause-leads g c = grind (arith, common_steps)

pub returns-in-Ok-clause-within : goal.returns-in-Ok-clause-within
returns-in-Ok-clause-within g c = grind (arith, common_steps)

pub returns-in-Ok-clause-only : goal.returns-in-Ok-clause-only
returns-in-Ok-clause-only g c = grind (arith, common_steps)

pub returns-in-Ok-clause-again : goal.returns-in-Ok-clause-again
returns-in-Ok-clause-again g c = grind (arith, common_steps)

pub returns-in-Err-clause-reads : goal.returns-in-Err-clause-reads
returns-in-Err-clause-reads g c = grind (arith, common_steps)

pub returns-in-Err-clause-pulls : goal.returns-in-Err-clause-pulls
returns-in-Err-clause-pulls g c = grind (arith, common_steps)

pub returns-in-Err-clause-leads : goal.returns-in-Err-clause-leads
returns-in-Err-clause-leads g c = grind (arith, common_steps)

pub returns-in-Err-clause-within : goal.returns-in-Err-clause-within
returns-in-Err-clause-within g c = grind (arith, common_steps)

pub returns-in-Err-clause-again : goal.returns-in-Err-clause-again
returns-in-Err-clause-again g c = grind (arith, common_steps)

pub returns-in-Finished-clause-reads : goal.returns-in-Finished-clause-reads
returns-in-Finished-clause-reads g c = grind (arith, common_steps)

pub returns-in-Finished-clause-pulls : goal.returns-in-Finished-clause-pulls
returns-in-Finished-clause-pulls g c = grind (arith, common_steps)

pub returns-in-Finished-clause-leads : goal.returns-in-Finished-clause-leads
returns-in-Finished-clause-leads g c = grind (arith, common_steps)

pub returns-in-Finished-clause-within : goal.returns-in-Finished-clause-within
returns-in-Finished-clause-within g c = grind (arith, common_steps)

pub returns-in-Finished-clause-only : goal.returns-in-Finished-clause-only
returns-in-Finished-clause-only g c = grind (arith, common_steps)

pub returns-in-Finished-clause-again : goal.returns-in-Finished-clause-again
returns-in-Finished-clause-again g c = grind (arith, common_steps)
