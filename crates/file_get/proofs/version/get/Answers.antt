use Rattle.std.proofs.Common.{◌≡◌, ◌+◌, arith}
use Rattle.xa_outside.specs.NumberLaws.{PullsAtMost-more}
use Rattle.record_format.specs.Seen.{seen, steps_for}
use Rattle.file_get.specs.Searched.{bytes_read}
use Rattle.file_get.proofs.LessRead.{less-read}
use Rattle.file_get.proofs.Gets.{exactly-of, puts-of, undamaged-of}
use Rattle.keyed_print.specs.KeyedText.{keyed_text}
use Rattle.file_get.proofs.version.get.Goals as goal

pub returns-clause-judges : goal.returns-clause-judges
returns-clause-judges g c = c.write_version.ensures.judges

pub returns-clause-uncounted : goal.returns-clause-uncounted
returns-clause-uncounted g c = c.write_version.ensures.uncounted

pub returns-clause-short : goal.returns-clause-short
returns-clause-short g c = c.write_version.ensures.short

pub returns-clause-nothing : goal.returns-clause-nothing
returns-clause-nothing g c = c.write_version.ensures.nothing

pub returns-clause-text : goal.returns-clause-text
returns-clause-text g c = λ bytes rules vs k tells sound at_i. puts-of (g.O.Sink.taken c.args.out.now) (g.O.Sink.taken c.write_version.new.out) c.write_version.result (keyed_text k) (c.write_version.ensures.text bytes rules vs k tells sound at_i)

pub returns-clause-undamaged : goal.returns-clause-undamaged
returns-clause-undamaged g c = λ bytes rules vs tells sound. undamaged-of c.write_version.result (c.write_version.ensures.undamaged bytes rules vs tells sound)

pub returns-clause-gained : goal.returns-clause-gained
returns-clause-gained g c = c.write_version.ensures.gained

pub returns-clause-files : goal.returns-clause-files
returns-clause-files g c = c.write_version.ensures.same_files

pub returns-clause-draft : goal.returns-clause-draft
returns-clause-draft g c = c.write_version.ensures.same_draft

pub returns-clause-later : goal.returns-clause-later
returns-clause-later g c = c.write_version.ensures.later

pub returns-clause-out_later : goal.returns-clause-out_later
returns-clause-out_later g c = c.write_version.ensures.out_later

pub returns-clause-cause : goal.returns-clause-cause
returns-clause-cause g c = c.write_version.ensures.cause

pub returns-clause-pulls : goal.returns-clause-pulls
returns-clause-pulls g c = c.write_version.ensures.pulls

pub returns-clause-few : goal.returns-clause-few
returns-clause-few g c = λ bytes rules vs a tells sound is. (
    let few = c.write_version.ensures.few bytes rules vs a tells sound is in
    let less = less-read a c.args.version in
    let n = g.F.Folder.numbers in
    (λ here. PullsAtMost-more (22 + bytes_read a c.args.version) (22 + seen a c.args.version) (n c.args.folder.now) (n c.write_version.new.folder) (omega (arith, less)) (few.0 here), few.1))

pub returns-clause-halved : goal.returns-clause-halved
returns-clause-halved g c = λ bytes rules vs a tells sound is here. (c.write_version.ensures.few bytes rules vs a tells sound is).0 here

pub returns-clause-steps : goal.returns-clause-steps
returns-clause-steps g c = c.write_version.ensures.steps

pub returns-clause-exactly : goal.returns-clause-exactly
returns-clause-exactly g c = λ bytes rules vs a tells sound is. (
    exactly-of c.write_version.result (c.write_version.new.steps ≡ c.args.steps.now + steps_for a c.args.version)
    (c.write_version.ensures.exact bytes rules vs a tells sound is))
