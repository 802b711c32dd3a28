use Rattle.std.proofs.lemmas.Grind.{common_steps}
use Rattle.std.proofs.Common.{◌≡◌, None, length, take, ap, ◌∙◌, arith}
use Rattle.record_format.specs.Fronts.{header_at}
use Rattle.record_cursor.proofs.Fills.{front-length, filled-from, never-short, no-damage}
use Rattle.record_cursor.proofs.Headers.{no-header-few}
use Rattle.record_cursor.proofs.front.read_front.Goals as goal

pub returns-then-end-lt-FIELDS-clause-told : goal.returns-then-end-lt-FIELDS-clause-told
returns-then-end-lt-FIELDS-clause-told g c = λ bytes tells. (
    let len = front-length (g.F.Folder.files c.args.folder.now) c.args.name.now bytes c.args.end tells in
    no-header-few bytes (omega (arith, len, c.if-end-lt-FIELDS.true)))

pub returns-in-Ok-clause-told : goal.returns-in-Ok-clause-told
returns-in-Ok-clause-told g c = λ bytes tells. (
    let told = g.F.Folder.files c.args.folder.now in
    let ten = length c.args.front.now in
    let len = front-length told c.args.name.now bytes c.args.end tells in
    let read = filled-from told c.args.name.now bytes c.args.end 0 ten c.fill_part.new.out tells (omega (arith, c.requires, c.if-end-lt-FIELDS.false)) (c.in-Ok.ensures.told tells.0 tells.1) in
    c.header_length.ensures.told bytes len (read ∙ ap (λ n. take n bytes) c.requires))

pub returns-in-Err-clause-told : goal.returns-in-Err-clause-told
returns-in-Err-clause-told g c = λ bytes tells. no-damage c.in-Err.fault (header_at bytes ≡ None) (
    never-short (g.F.Folder.files c.args.folder.now) c.args.name.now bytes c.args.end 0 (length c.args.front.now) c.in-Err.fault tells (omega (arith, c.requires, c.if-end-lt-FIELDS.false)) (c.in-Err.ensures.damage tells.0 tells.1))

pub returns-then-end-lt-FIELDS-clause-reads : goal.returns-then-end-lt-FIELDS-clause-reads
returns-then-end-lt-FIELDS-clause-reads g c = grind (arith, common_steps)

pub returns-then-end-lt-FIELDS-clause-numbers : goal.returns-then-end-lt-FIELDS-clause-numbers
returns-then-end-lt-FIELDS-clause-numbers g c = grind (arith, common_steps)

pub returns-then-end-lt-FIELDS-clause-pulls : goal.returns-then-end-lt-FIELDS-clause-pulls
returns-then-end-lt-FIELDS-clause-pulls g c = grind (arith, common_steps)

pub returns-then-end-lt-FIELDS-clause-inside : goal.returns-then-end-lt-FIELDS-clause-inside
returns-then-end-lt-FIELDS-clause-inside g c = grind (arith, common_steps)

pub returns-then-end-lt-FIELDS-clause-within : goal.returns-then-end-lt-FIELDS-clause-within
returns-then-end-lt-FIELDS-clause-within g c = grind (arith, common_steps)

pub returns-in-Ok-clause-reads : goal.returns-in-Ok-clause-reads
returns-in-Ok-clause-reads g c = grind (arith, common_steps)

pub returns-in-Ok-clause-numbers : goal.returns-in-Ok-clause-numbers
returns-in-Ok-clause-numbers g c = grind (arith, common_steps)

pub returns-in-Ok-clause-pulls : goal.returns-in-Ok-clause-pulls
returns-in-Ok-clause-pulls g c = grind (arith, common_steps)

pub returns-in-Ok-clause-inside : goal.returns-in-Ok-clause-inside
returns-in-Ok-clause-inside g c = grind (arith, common_steps)

pub returns-in-Ok-clause-within : goal.returns-in-Ok-clause-within
returns-in-Ok-clause-within g c = grind (arith, common_steps)

pub returns-in-Err-clause-reads : goal.returns-in-Err-clause-reads
returns-in-Err-clause-reads g c = grind (arith, common_steps)

pub returns-in-Err-clause-numbers : goal.returns-in-Err-clause-numbers
returns-in-Err-clause-numbers g c = grind (arith, common_steps)

pub returns-in-Err-clause-pulls : goal.returns-in-Err-clause-pulls
returns-in-Err-clause-pulls g c = grind (arith, common_steps)

pub returns-in-Err-clause-inside : goal.returns-in-Err-clause-inside
returns-in-Err-clause-inside g c = grind (arith, common_steps)

pub returns-in-Err-clause-within : goal.returns-in-Err-clause-within
returns-in-Err-clause-within g c = grind (arith, common_steps)
