use Rattle.std.proofs.Common.{ℕ, List, ◌∷◌, ◌++◌, drop, ap, ◌∙◌, drop-drop}
use Rattle.xa_fields.specs.Spelling.{u64_bytes}
use Rattle.record_cursor.proofs.Fills.{filled-from, never-short, frame-there, frame-of}
use Rattle.record_cursor.proofs.step.read_frame.Goals as goal

pub returns-in-Some-clause-told : goal.returns-in-Some-clause-told
returns-in-Some-clause-told g c = λ end bytes tells fits. (
    let frame = c.in-Some.frame in
    let told = g.F.Folder.files c.args.folder.now in
    let read = filled-from told c.args.name.now bytes end c.args.at 9 c.fill_part.new.out tells fits (c.in-Ok.ensures.told tells.0 tells.1) in
    frame-of (drop c.args.at bytes) frame.0 frame.1 c.in-Some.ensures.1 (frame-there (drop c.args.at bytes) c.fill_part.new.out frame.0 frame.1 read c.in-Some.ensures.0))

pub returns-in-Some-clause-spelled : goal.returns-in-Some-clause-spelled
returns-in-Some-clause-spelled g c = λ end bytes tells fits. (
    let frame = c.in-Some.frame in
    let told = g.F.Folder.files c.args.folder.now in
    let read = filled-from told c.args.name.now bytes end c.args.at 9 c.fill_part.new.out tells fits (c.in-Ok.ensures.told tells.0 tells.1) in
    frame-there (drop c.args.at bytes) c.fill_part.new.out frame.0 frame.1 read c.in-Some.ensures.0 ∙ ap (λ (z : List ℕ). frame.0 ∷ (u64_bytes frame.1 ++ z)) (drop-drop 9 c.args.at bytes))

pub returns-in-Err-clause-told : goal.returns-in-Err-clause-told
returns-in-Err-clause-told g c = λ end bytes tells fits. (
    never-short (g.F.Folder.files c.args.folder.now) c.args.name.now bytes end c.args.at 9 c.in-Err.fault tells fits (c.in-Err.ensures.damage tells.0 tells.1))
