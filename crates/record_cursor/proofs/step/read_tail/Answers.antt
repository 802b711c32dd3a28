use Rattle.std.proofs.lemmas.Grind.{common_steps}
use Rattle.std.proofs.Common.{◌≡◌, None, drop, refl, sym, ◌∙◌, arith, length-drop}
use Rattle.std.specs.FinMap as map
use Rattle.std.proofs.lemmas.Slice.Eq.{bytes_eq-Decides}
use Rattle.xa_fields.specs.Spelling.{u64_bytes}
use Rattle.xa_outside.specs.Folder.{bytes_or_none}
use Rattle.record_cursor.specs.Next.{tail_at}
use Rattle.record_cursor.proofs.Fills.{front-length, filled-from, never-short, no-damage, tail-whole}
use Rattle.record_cursor.proofs.Comes.{tail-there, tail-other}
use Rattle.record_cursor.proofs.step.read_tail.Goals as goal

pub returns-in-Ok-clause-told : goal.returns-in-Ok-clause-told
returns-in-Ok-clause-told g c = λ bytes tells. (
    let told = g.F.Folder.files c.args.folder.now in
    let len = front-length told c.args.name.now bytes c.args.length tells in
    let read = filled-from told c.args.name.now bytes c.args.length c.args.at 8 c.fill_part.new.out tells (omega arith) (c.in-Ok.ensures.told tells.0 tells.1) in
    tail-there c.args.size (drop c.args.at bytes) c.fill_part.new.out c.is_tail.result read (omega (arith, len, length-drop c.args.at bytes)) c.is_tail.ensures c.if-is_tail.true)

pub returns-in-Ok-clause-whole : goal.returns-in-Ok-clause-whole
returns-in-Ok-clause-whole g c = λ files there. (
    let same : c.fill_part.new.out ≡ u64_bytes c.args.size = (bytes_eq-Decides c.fill_part.new.out (u64_bytes c.args.size)).0 (sym c.is_tail.ensures ∙ c.if-is_tail.true) in
    tail-whole c.fill_part.new.out (bytes_or_none (map.get files c.args.name.now)) (u64_bytes c.args.size) c.args.at c.args.length same refl (c.in-Ok.ensures.told files there) c.if-length-at-ne-TAIL.false)

pub returns-in-Ok-2-clause-told : goal.returns-in-Ok-2-clause-told
returns-in-Ok-2-clause-told g c = λ bytes tells. (
    let told = g.F.Folder.files c.args.folder.now in
    let len = front-length told c.args.name.now bytes c.args.length tells in
    let read = filled-from told c.args.name.now bytes c.args.length c.args.at 8 c.fill_part.new.out tells (omega arith) (c.in-Ok-2.ensures.told tells.0 tells.1) in
    tail-other c.args.size (drop c.args.at bytes) c.fill_part.new.out c.is_tail.result read (omega (arith, len, length-drop c.args.at bytes)) c.is_tail.ensures c.if-is_tail.false)

pub returns-in-Err-clause-told : goal.returns-in-Err-clause-told
returns-in-Err-clause-told g c = λ bytes tells. no-damage c.in-Err.fault (tail_at c.args.size (drop c.args.at bytes) ≡ None) (
    never-short (g.F.Folder.files c.args.folder.now) c.args.name.now bytes c.args.length c.args.at 8 c.in-Err.fault tells (omega arith) (c.in-Err.ensures.damage tells.0 tells.1))

pub returns-then-length-at-ne-TAIL-clause-reads : goal.returns-then-length-at-ne-TAIL-clause-reads
returns-then-length-at-ne-TAIL-clause-reads g c = grind (arith, common_steps)

pub returns-then-length-at-ne-TAIL-clause-pulls : goal.returns-then-length-at-ne-TAIL-clause-pulls
returns-then-length-at-ne-TAIL-clause-pulls g c = grind (arith, common_steps)

pub returns-then-length-at-ne-TAIL-clause-few : goal.returns-then-length-at-ne-TAIL-clause-few
returns-then-length-at-ne-TAIL-clause-few g c = grind (arith, common_steps)

pub returns-then-length-at-ne-TAIL-clause-end : goal.returns-then-length-at-ne-TAIL-clause-end
returns-then-length-at-ne-TAIL-clause-end g c = grind (arith, common_steps)

pub returns-then-length-at-ne-TAIL-clause-told : goal.returns-then-length-at-ne-TAIL-clause-told
returns-then-length-at-ne-TAIL-clause-told g c = grind (arith, common_steps)

pub returns-in-Ok-clause-reads : goal.returns-in-Ok-clause-reads
returns-in-Ok-clause-reads g c = grind (arith, common_steps)

pub returns-in-Ok-clause-numbers : goal.returns-in-Ok-clause-numbers
returns-in-Ok-clause-numbers g c = grind (arith, common_steps)

pub returns-in-Ok-clause-pulls : goal.returns-in-Ok-clause-pulls
returns-in-Ok-clause-pulls g c = grind (arith, common_steps)

pub returns-in-Ok-clause-few : goal.returns-in-Ok-clause-few
returns-in-Ok-clause-few g c = grind (arith, common_steps)

pub returns-in-Ok-clause-end : goal.returns-in-Ok-clause-end
returns-in-Ok-clause-end g c = grind (arith, common_steps)

pub returns-in-Ok-2-clause-reads : goal.returns-in-Ok-2-clause-reads
returns-in-Ok-2-clause-reads g c = grind (arith, common_steps)

pub returns-in-Ok-2-clause-numbers : goal.returns-in-Ok-2-clause-numbers
returns-in-Ok-2-clause-numbers g c = grind (arith, common_steps)

pub returns-in-Ok-2-clause-pulls : goal.returns-in-Ok-2-clause-pulls
returns-in-Ok-2-clause-pulls g c = grind (arith, common_steps)

pub returns-in-Ok-2-clause-few : goal.returns-in-Ok-2-clause-few
returns-in-Ok-2-clause-few g c = grind (arith, common_steps)

pub returns-in-Ok-2-clause-end : goal.returns-in-Ok-2-clause-end
returns-in-Ok-2-clause-end g c = grind (arith, common_steps)

pub returns-in-Err-clause-reads : goal.returns-in-Err-clause-reads
returns-in-Err-clause-reads g c = grind (arith, common_steps)

pub returns-in-Err-clause-numbers : goal.returns-in-Err-clause-numbers
returns-in-Err-clause-numbers g c = grind (arith, common_steps)

pub returns-in-Err-clause-pulls : goal.returns-in-Err-clause-pulls
returns-in-Err-clause-pulls g c = grind (arith, common_steps)

pub returns-in-Err-clause-few : goal.returns-in-Err-clause-few
returns-in-Err-clause-few g c = grind (arith, common_steps)

pub returns-in-Err-clause-end : goal.returns-in-Err-clause-end
returns-in-Err-clause-end g c = grind (arith, common_steps)
