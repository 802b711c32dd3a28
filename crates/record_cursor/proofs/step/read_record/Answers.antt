use Rattle.std.proofs.lemmas.Grind.{common_steps}
use Rattle.std.proofs.Common.{◌≡◌, ◌+◌, ◌-◌, ◌≤◌, None, Option, length, drop, sym, ap, subst, ◌∙◌, arith, length-drop}
use Rattle.xa_outside.specs.Folder.{Files}
use Rattle.xa_outside.specs.Numbers.{Numbers, after_pull}
use Rattle.xa_outside.specs.NumberLaws.{after_pull-twice, PullsAtMost-of, PullsAtMost-more}
use Rattle.record_cursor.specs.Moves.{TellsFront}
use Rattle.record_cursor.specs.Next.{next_of, read_for}
use Rattle.record_cursor.specs.Steps.{read_item, body_read}
use Rattle.record_cursor.specs.View.{place_view}
use Rattle.record_cursor.proofs.Fills.{front-length, no-damage}
use Rattle.record_cursor.proofs.Comes.{comes-short, comes-long, comes-not, led, stepped}
use Rattle.record_cursor.proofs.Pulled.{next-least, framed-read, body_size-most, pulled-both}
use Rattle.record_cursor.proofs.SpelledLaws.{step-read-at}
use Rattle.record_cursor.proofs.step.read_record.Goals as goal

pub returns-then-length-at-clause-told : goal.returns-then-length-at-clause-told
returns-then-length-at-clause-told g c = λ bytes tells. (
    let len = front-length (g.F.Folder.files c.args.folder.now) c.args.name.now bytes c.args.length tells in
    comes-short (place_view c.args.place) (drop c.args.at bytes) c.requires.inside (omega (arith, len, length-drop c.args.at bytes, c.if-length-at.true)))

pub returns-in-Err-clause-told : goal.returns-in-Err-clause-told
returns-in-Err-clause-told g c = λ bytes tells. (
    no-damage c.in-Err.fault (next_of (place_view c.args.place) (drop c.args.at bytes) ≡ None)
    (c.in-Err.ensures.told c.args.length bytes tells (omega (arith, c.requires.within, c.if-length-at.false))))

pub returns-then-length-body-clause-told : goal.returns-then-length-body-clause-told
returns-then-length-body-clause-told g c = λ bytes tells. (
    let len = front-length (g.F.Folder.files c.args.folder.now) c.args.name.now bytes c.args.length tells in
    let frame = c.in-Ok.ensures.told c.args.length bytes tells (omega (arith, c.requires.within, c.if-length-at.false)) in
    comes-long (place_view c.args.place) (drop c.args.at bytes) c.in-Ok.frame.0 c.in-Ok.frame.1 c.requires.inside frame
    (omega (arith, len, length-drop 9 (drop c.args.at bytes), length-drop c.args.at bytes, c.if-length-body.true)))

pub returns-in_default-clause-told : goal.returns-in_default-clause-told
returns-in_default-clause-told g c = λ bytes tells. (
    let len = front-length (g.F.Folder.files c.args.folder.now) c.args.name.now bytes c.args.length tells in
    let frame = c.in-Ok.ensures.told c.args.length bytes tells (omega (arith, c.requires.within, c.if-length-at.false)) in
    comes-not (place_view c.args.place) (drop c.args.at bytes) c.in-Ok.frame.0 c.in-Ok.frame.1 c.requires.inside frame
    (omega (arith, len, length-drop 9 (drop c.args.at bytes), length-drop c.args.at bytes, c.if-length-body.false)) (sym c.in_default.ensures))

pub returns-in-Ok-read_body-clause-pulls : goal.returns-in-Ok-read_body-clause-pulls
returns-in-Ok-read_body-clause-pulls g c = (
    let numbers = g.F.Folder.numbers in
    pulled-both (c.args.length - c.args.at) c.in-Ok.frame.0 c.in-Ok.frame.1 (numbers c.args.folder.now) (numbers c.read_frame.new.folder) (numbers c.read_body.new.folder)
    (omega (arith, body_size-most c.in-Ok.frame.0 c.in-Ok.frame.1, c.requires.within, c.if-length-at.false, c.if-length-body.false)) c.in-Ok.ensures.numbers c.in-Ok-read_body.ensures.pulls)

pub returns-in-Ok-read_body-clause-only : goal.returns-in-Ok-read_body-clause-only
returns-in-Ok-read_body-clause-only g c = λ bytes rest i t tells e. (
    let numbers = g.F.Folder.numbers in
    let len = front-length (g.F.Folder.files c.args.folder.now) c.args.name.now bytes c.args.length tells in
    let within : c.args.at + 9 ≤ c.args.length = omega (arith, c.requires.within, c.if-length-at.false) in
    pulled-both (read_for (place_view c.args.place) i) c.in-Ok.frame.0 c.in-Ok.frame.1 (numbers c.args.folder.now) (numbers c.read_frame.new.folder) (numbers c.read_body.new.folder)
    (framed-read (place_view c.args.place) t (drop c.args.at bytes) rest c.in-Ok.frame.0 c.in-Ok.frame.1 i c.requires.inside (c.in-Ok.ensures.told c.args.length bytes tells within)
    (omega (arith, len, length-drop 9 (drop c.args.at bytes), length-drop c.args.at bytes, within, c.if-length-body.false)) e)
    c.in-Ok.ensures.numbers c.in-Ok-read_body.ensures.pulls)

pub returns-in-Err-read_body-clause-pulls : goal.returns-in-Err-read_body-clause-pulls
returns-in-Err-read_body-clause-pulls g c = (
    let numbers = g.F.Folder.numbers in
    pulled-both (c.args.length - c.args.at) c.in-Ok.frame.0 c.in-Ok.frame.1 (numbers c.args.folder.now) (numbers c.read_frame.new.folder) (numbers c.read_body.new.folder)
    (omega (arith, body_size-most c.in-Ok.frame.0 c.in-Ok.frame.1, c.requires.within, c.if-length-at.false, c.if-length-body.false)) c.in-Ok.ensures.numbers c.in-Err-read_body.ensures.pulls)

pub returns-in-Err-read_body-clause-only : goal.returns-in-Err-read_body-clause-only
returns-in-Err-read_body-clause-only g c = λ bytes rest i t tells e. (
    let numbers = g.F.Folder.numbers in
    let len = front-length (g.F.Folder.files c.args.folder.now) c.args.name.now bytes c.args.length tells in
    let within : c.args.at + 9 ≤ c.args.length = omega (arith, c.requires.within, c.if-length-at.false) in
    pulled-both (read_for (place_view c.args.place) i) c.in-Ok.frame.0 c.in-Ok.frame.1 (numbers c.args.folder.now) (numbers c.read_frame.new.folder) (numbers c.read_body.new.folder)
    (framed-read (place_view c.args.place) t (drop c.args.at bytes) rest c.in-Ok.frame.0 c.in-Ok.frame.1 i c.requires.inside (c.in-Ok.ensures.told c.args.length bytes tells within)
    (omega (arith, len, length-drop 9 (drop c.args.at bytes), length-drop c.args.at bytes, within, c.if-length-body.false)) e)
    c.in-Ok.ensures.numbers c.in-Err-read_body.ensures.pulls)

pub returns-then-length-body-clause-only : goal.returns-then-length-body-clause-only
returns-then-length-body-clause-only g c = λ bytes rest i t tells e. (
    let numbers = g.F.Folder.numbers in
    PullsAtMost-of (read_for (place_view c.args.place) i) 9 (numbers c.args.folder.now) (numbers c.read_frame.new.folder)
    (next-least (place_view c.args.place) t (drop c.args.at bytes) rest i c.requires.inside e) c.in-Ok.ensures.numbers)

pub returns-in_default-clause-only : goal.returns-in_default-clause-only
returns-in_default-clause-only g c = λ bytes rest i t tells e. (
    let numbers = g.F.Folder.numbers in
    PullsAtMost-of (read_for (place_view c.args.place) i) 9 (numbers c.args.folder.now) (numbers c.read_frame.new.folder)
    (next-least (place_view c.args.place) t (drop c.args.at bytes) rest i c.requires.inside e) c.in-Ok.ensures.numbers)

pub returns-in-Err-clause-only : goal.returns-in-Err-clause-only
returns-in-Err-clause-only g c = λ bytes rest i t tells e. (
    let numbers = g.F.Folder.numbers in
    PullsAtMost-more 9 (read_for (place_view c.args.place) i) (numbers c.args.folder.now) (numbers c.read_frame.new.folder)
    (next-least (place_view c.args.place) t (drop c.args.at bytes) rest i c.requires.inside e) c.in-Err.ensures.pulls)

pub returns-in-Ok-read_body-clause-told : goal.returns-in-Ok-read_body-clause-told
returns-in-Ok-read_body-clause-told g c = λ bytes tells. (
    let len = front-length (g.F.Folder.files c.args.folder.now) c.args.name.now bytes c.args.length tells in
    let within : c.args.at + 9 ≤ c.args.length = omega (arith, c.requires.within, c.if-length-at.false) in
    let fits : c.args.at + 9 + c.in-Ok.frame.1 ≤ c.args.length = omega (arith, within, c.if-length-body.false) in
    let later = subst (λ (t : Option Files). TellsFront t c.args.name.now c.args.length bytes) (sym c.in-Ok.ensures.reads.same_files) tells in
    stepped (place_view c.args.place) (place_view c.in-Some.place) bytes c.args.at c.in-Ok.frame.0 c.in-Ok.frame.1 (read_item c.in-Ok-read_body.read c.read_body.new.buffer)
    c.requires.inside (c.in-Ok.ensures.told c.args.length bytes tells within) (omega (arith, len, fits)) (sym c.in-Some.ensures) (c.in-Ok-read_body.ensures.told c.args.length bytes later fits))

pub returns-in-Err-read_body-clause-told : goal.returns-in-Err-read_body-clause-told
returns-in-Err-read_body-clause-told g c = λ bytes tells. (
    let within : c.args.at + 9 ≤ c.args.length = omega (arith, c.requires.within, c.if-length-at.false) in
    let fits : c.args.at + 9 + c.in-Ok.frame.1 ≤ c.args.length = omega (arith, within, c.if-length-body.false) in
    let later = subst (λ (t : Option Files). TellsFront t c.args.name.now c.args.length bytes) (sym c.in-Ok.ensures.reads.same_files) tells in
    no-damage c.in-Err-read_body.fault (next_of (place_view c.args.place) (drop c.args.at bytes) ≡ None) (c.in-Err-read_body.ensures.told c.args.length bytes later fits))

pub returns-in-Ok-read_body-clause-leads : goal.returns-in-Ok-read_body-clause-leads
returns-in-Ok-read_body-clause-leads g c = λ i is. (
    let before = g.F.Folder.numbers c.args.folder.now in
    let held = length c.read_body.new.buffer in
    let l = led (place_view c.args.place) (place_view c.in-Some.place) c.in-Ok.frame.0 c.in-Ok.frame.1 c.in-Ok-read_body.read held i c.requires.inside (sym c.in-Some.ensures) c.in-Ok-read_body.ensures.is is in
    record {
      may_come = l.may_come;
      moved = omega (arith, l.moved);
      pulled = c.in-Ok-read_body.ensures.numbers ∙ ap (λ (m : Numbers). after_pull m (body_read c.in-Ok-read_body.read held)) c.in-Ok.ensures.numbers
          ∙ after_pull-twice before 9 (body_read c.in-Ok-read_body.read held) ∙ ap (after_pull before) (sym l.pulled);
    })

pub returns-in-Ok-read_body-clause-spelled : goal.returns-in-Ok-read_body-clause-spelled
returns-in-Ok-read_body-clause-spelled g c = λ bytes tells. (
    let len = front-length (g.F.Folder.files c.args.folder.now) c.args.name.now bytes c.args.length tells in
    let within : c.args.at + 9 ≤ c.args.length = omega (arith, c.requires.within, c.if-length-at.false) in
    let fits : c.args.at + 9 + c.in-Ok.frame.1 ≤ c.args.length = omega (arith, within, c.if-length-body.false) in
    let later = subst (λ (t : Option Files). TellsFront t c.args.name.now c.args.length bytes) (sym c.in-Ok.ensures.reads.same_files) tells in
    step-read-at (place_view c.args.place) (place_view c.in-Some.place) bytes c.args.at c.in-Ok.frame.0 c.in-Ok.frame.1 c.in-Ok-read_body.read c.read_body.new.buffer
    (sym c.in-Some.ensures) (omega (arith, len, fits)) (c.in-Ok.ensures.spelled c.args.length bytes tells within) c.in-Ok-read_body.ensures.is (c.in-Ok-read_body.ensures.body c.args.length bytes later fits))

pub returns-then-length-at-clause-spelled : goal.returns-then-length-at-clause-spelled
returns-then-length-at-clause-spelled g c = λ bytes tells. tt

pub returns-in-Err-clause-spelled : goal.returns-in-Err-clause-spelled
returns-in-Err-clause-spelled g c = λ bytes tells. tt

pub returns-then-length-body-clause-spelled : goal.returns-then-length-body-clause-spelled
returns-then-length-body-clause-spelled g c = λ bytes tells. tt

pub returns-in_default-clause-spelled : goal.returns-in_default-clause-spelled
returns-in_default-clause-spelled g c = λ bytes tells. tt

pub returns-in-Err-read_body-clause-spelled : goal.returns-in-Err-read_body-clause-spelled
returns-in-Err-read_body-clause-spelled g c = λ bytes tells. tt

pub returns-then-length-at-clause-reads : goal.returns-then-length-at-clause-reads
returns-then-length-at-clause-reads g c = grind (arith, common_steps)

pub returns-then-length-at-clause-pulls : goal.returns-then-length-at-clause-pulls
returns-then-length-at-clause-pulls g c = grind (arith, common_steps)

pub returns-then-length-at-clause-leads : goal.returns-then-length-at-clause-leads
returns-then-length-at-clause-leads g c = grind (arith, common_steps)

pub returns-then-length-at-clause-within : goal.returns-then-length-at-clause-within
returns-then-length-at-clause-within g c = grind (arith, common_steps)

pub returns-then-length-at-clause-only : goal.returns-then-length-at-clause-only
returns-then-length-at-clause-only g c = grind (arith, common_steps)

pub returns-in-Err-clause-reads : goal.returns-in-Err-clause-reads
returns-in-Err-clause-reads g c = grind (arith, common_steps)

pub returns-in-Err-clause-pulls : goal.returns-in-Err-clause-pulls
returns-in-Err-clause-pulls g c = grind (arith, common_steps)

pub returns-in-Err-clause-leads : goal.returns-in-Err-clause-leads
returns-in-Err-clause-leads g c = grind (arith, common_steps)

pub returns-in-Err-clause-within : goal.returns-in-Err-clause-within
returns-in-Err-clause-within g c = grind (arith, common_steps)

pub returns-then-length-body-clause-reads : goal.returns-then-length-body-clause-reads
returns-then-length-body-clause-reads g c = grind (arith, common_steps)

pub returns-then-length-body-clause-pulls : goal.returns-then-length-body-clause-pulls
returns-then-length-body-clause-pulls g c = grind (arith, common_steps)

pub returns-then-length-body-clause-leads : goal.returns-then-length-body-clause-leads
returns-then-length-body-clause-leads g c = grind (arith, common_steps)

pub returns-then-length-body-clause-within : goal.returns-then-length-body-clause-within
returns-then-length-body-clause-within g c = grind (arith, common_steps)

pub returns-in_default-clause-reads : goal.returns-in_default-clause-reads
returns-in_default-clause-reads g c = grind (arith, common_steps)

pub returns-in_default-clause-pulls : goal.returns-in_default-clause-pulls
returns-in_default-clause-pulls g c = grind (arith, common_steps)

pub returns-in_default-clause-leads : goal.returns-in_default-clause-leads
returns-in_default-clause-leads g c = grind (arith, common_steps)

pub returns-in_default-clause-within : goal.returns-in_default-clause-within
returns-in_default-clause-within g c = grind (arith, common_steps)

pub returns-in-Ok-read_body-clause-reads : goal.returns-in-Ok-read_body-clause-reads
returns-in-Ok-read_body-clause-reads g c = grind (arith, common_steps)

pub returns-in-Ok-read_body-clause-within : goal.returns-in-Ok-read_body-clause-within
returns-in-Ok-read_body-clause-within g c = grind (arith, common_steps)

pub returns-in-Err-read_body-clause-reads : goal.returns-in-Err-read_body-clause-reads
returns-in-Err-read_body-clause-reads g c = grind (arith, common_steps)

pub returns-in-Err-read_body-clause-leads : goal.returns-in-Err-read_body-clause-leads
returns-in-Err-read_body-clause-leads g c = grind (arith, common_steps)

pub returns-in-Err-read_body-clause-within : goal.returns-in-Err-read_body-clause-within
returns-in-Err-read_body-clause-within g c = grind (arith, common_steps)
