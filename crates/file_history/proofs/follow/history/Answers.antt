use Rattle.std.proofs.Common.{◌≡◌, ◌+◌, ◌≤◌, ℕ, List, None, map, length, sym, ap, subst, ◌∙◌}
use Rattle.std.specs.Prelude.{◌≢◌}
use Rattle.std.specs.List.{range_with_len}
use Rattle.xa_outside.specs.Causes.{Rose}
use Rattle.version_set.specs.Members.{members, upto_pairs}
use Rattle.version_set.specs.View.{pairs_of}
use Rattle.version_set.specs.declared.set.VersionSet.{VersionSet}
use Rattle.keyed_tree.specs.View.{label_view}
use Rattle.record_cursor.specs.View.{header_view}
use Rattle.file_history.specs.Leads.{lead}
use Rattle.file_history.specs.declared.fault.HistFault.TheVariants.{Damage}
use Rattle.file_history.proofs.Finding.{found-some}
use Rattle.file_history.proofs.Following.{followed-some, followed-none, counted-along}
use Rattle.file_history.proofs.WholeFiles.{sound-file, sound-archive, sound-set, no-damage-of, failed-of}
use Rattle.file_history.proofs.follow.history.Goals as goal

pub returns-in-Ok-Some-clause-members : goal.returns-in-Ok-Some-clause-members
returns-in-Ok-Some-clause-members g c = λ bytes rules vs tells stands sound. (
    let h = header_view c.args.header.now in
    let told = g.F.Folder.files c.args.folder.now in
    let name = c.args.name.now in
    let path = map label_view c.args.path.now in
    let all = pairs_of c.upto-all.result in
    let s = sound-file told name bytes h rules vs c.requires tells stands sound in
    sound-set told name bytes h vs path (pairs_of c.in-Ok-Some.spot.set) all s (c.upto-all.ensures.members ∙ ap (range_with_len 1) s.versions)
    (followed-some bytes path all s.archive.kids c.in-Ok-Some.field-0 c.in-Ok-Some.spot c.in-Ok-Some.field-0-is (c.in-Ok-Some.ensures.told bytes s.archive s.file (c.upto-all.ensures.pairs ∙ ap upto_pairs s.versions))))

pub returns-in-Ok-None-clause-members : goal.returns-in-Ok-None-clause-members
returns-in-Ok-None-clause-members g c = λ bytes rules vs tells stands sound. (
    let h = header_view c.args.header.now in
    let told = g.F.Folder.files c.args.folder.now in
    let name = c.args.name.now in
    let path = map label_view c.args.path.now in
    let all = pairs_of c.upto-all.result in
    let s = sound-file told name bytes h rules vs c.requires tells stands sound in
    sound-set told name bytes h vs path (pairs_of c.empty.result) all s (c.upto-all.ensures.members ∙ ap (range_with_len 1) s.versions)
    (ap members c.empty.ensures ∙ followed-none bytes path all s.archive.kids c.in-Ok-None.field-0 c.in-Ok-None.field-0-is (c.in-Ok-None.ensures.told bytes s.archive s.file (c.upto-all.ensures.pairs ∙ ap upto_pairs s.versions))))

pub returns-in-Err-clause-undamaged : goal.returns-in-Err-clause-undamaged
returns-in-Err-clause-undamaged g c = λ bytes rules vs tells stands sound. (
    let h = header_view c.args.header.now in
    let told = g.F.Folder.files c.args.folder.now in
    let name = c.args.name.now in
    let path = map label_view c.args.path.now in
    let all = pairs_of c.upto-all.result in
    let s = sound-file told name bytes h rules vs c.requires tells stands sound in
    subst (λ e. e ≢ Damage) (sym c.from.ensures) (no-damage-of c.in-Err.fault (c.in-Err.ensures.told bytes s.archive s.file (c.upto-all.ensures.pairs ∙ ap upto_pairs s.versions))))

pub returns-in-Ok-Some-clause-few : goal.returns-in-Ok-Some-clause-few
returns-in-Ok-Some-clause-few g c = λ bytes rules vs a tells stands sound is. (
    let h = header_view c.args.header.now in
    let told = g.F.Folder.files c.args.folder.now in
    let name = c.args.name.now in
    let path = map label_view c.args.path.now in
    let all = pairs_of c.upto-all.result in
    let s = sound-file told name bytes h rules vs c.requires tells stands sound in
    let f = sound-archive told name bytes h vs a is s in
    c.in-Ok-Some.ensures.few bytes a f.0 (c.upto-all.ensures.pairs ∙ ap upto_pairs f.1))

pub returns-in-Ok-None-clause-few : goal.returns-in-Ok-None-clause-few
returns-in-Ok-None-clause-few g c = λ bytes rules vs a tells stands sound is. (
    let h = header_view c.args.header.now in
    let told = g.F.Folder.files c.args.folder.now in
    let name = c.args.name.now in
    let path = map label_view c.args.path.now in
    let all = pairs_of c.upto-all.result in
    let s = sound-file told name bytes h rules vs c.requires tells stands sound in
    let f = sound-archive told name bytes h vs a is s in
    c.in-Ok-None.ensures.few bytes a f.0 (c.upto-all.ensures.pairs ∙ ap upto_pairs f.1))

pub returns-in-Ok-Some-clause-steps : goal.returns-in-Ok-Some-clause-steps
returns-in-Ok-Some-clause-steps g c = λ bytes rules vs a tells stands sound is. (
    let h = header_view c.args.header.now in
    let told = g.F.Folder.files c.args.folder.now in
    let name = c.args.name.now in
    let path = map label_view c.args.path.now in
    let all = pairs_of c.upto-all.result in
    let s = sound-file told name bytes h rules vs c.requires tells stands sound in
    let f = sound-archive told name bytes h vs a is s in
    c.in-Ok-Some.ensures.steps bytes a f.0 (c.upto-all.ensures.pairs ∙ ap upto_pairs f.1))

pub returns-in-Ok-None-clause-steps : goal.returns-in-Ok-None-clause-steps
returns-in-Ok-None-clause-steps g c = λ bytes rules vs a tells stands sound is. (
    let h = header_view c.args.header.now in
    let told = g.F.Folder.files c.args.folder.now in
    let name = c.args.name.now in
    let path = map label_view c.args.path.now in
    let all = pairs_of c.upto-all.result in
    let s = sound-file told name bytes h rules vs c.requires tells stands sound in
    let f = sound-archive told name bytes h vs a is s in
    c.in-Ok-None.ensures.steps bytes a f.0 (c.upto-all.ensures.pairs ∙ ap upto_pairs f.1))

pub returns-in-Err-clause-few : goal.returns-in-Err-clause-few
returns-in-Err-clause-few g c = λ bytes rules vs a tells stands sound is. (
    let h = header_view c.args.header.now in
    let told = g.F.Folder.files c.args.folder.now in
    let name = c.args.name.now in
    let path = map label_view c.args.path.now in
    let all = pairs_of c.upto-all.result in
    let s = sound-file told name bytes h rules vs c.requires tells stands sound in
    let f = sound-archive told name bytes h vs a is s in
    c.in-Err.ensures.few bytes a f.0 (c.upto-all.ensures.pairs ∙ ap upto_pairs f.1))

pub returns-in-Err-clause-steps : goal.returns-in-Err-clause-steps
returns-in-Err-clause-steps g c = λ bytes rules vs a tells stands sound is. (
    let h = header_view c.args.header.now in
    let told = g.F.Folder.files c.args.folder.now in
    let name = c.args.name.now in
    let path = map label_view c.args.path.now in
    let all = pairs_of c.upto-all.result in
    let s = sound-file told name bytes h rules vs c.requires tells stands sound in
    let f = sound-archive told name bytes h vs a is s in
    c.in-Err.ensures.steps bytes a f.0 (c.upto-all.ensures.pairs ∙ ap upto_pairs f.1))

pub returns-in-Err-clause-cause : goal.returns-in-Err-clause-cause
returns-in-Err-clause-cause g c = failed-of VersionSet c.in-Err.fault c.from.result (Rose (g.F.Folder.faults c.args.folder.now) (g.F.Folder.faults c.search.new.folder)) c.from.ensures c.in-Err.ensures.reads.cause

pub returns-in-Ok-Some-clause-counted : goal.returns-in-Ok-Some-clause-counted
returns-in-Ok-Some-clause-counted g c = λ bytes rules vs a tells stands sound is some. found-some c.in-Ok-Some.field-0 c.in-Ok-Some.spot (c.args.steps.now + length c.args.path.now ≤ c.search.new.steps) c.in-Ok-Some.field-0-is c.in-Ok-Some.ensures.counted

pub returns-in-Ok-None-clause-counted : goal.returns-in-Ok-None-clause-counted
returns-in-Ok-None-clause-counted g c = λ bytes rules vs a tells stands sound is some. (
    let h = header_view c.args.header.now in
    let told = g.F.Folder.files c.args.folder.now in
    let name = c.args.name.now in
    let path = map label_view c.args.path.now in
    let all = pairs_of c.upto-all.result in
    let s = sound-file told name bytes h rules vs c.requires tells stands sound in
    let f = sound-archive told name bytes h vs a is s in
    let first : all ≡ upto_pairs a.n = c.upto-all.ensures.pairs ∙ ap upto_pairs f.1 in
    let leads = subst (λ (set : List (ℕ × ℕ)). lead path None set a.kids ≢ None) (sym first) some in
    counted-along bytes path all a.kids c.in-Ok-None.field-0 (c.args.steps.now + length c.args.path.now ≤ c.search.new.steps) (c.in-Ok-None.ensures.told bytes a f.0 first) c.in-Ok-None.ensures.counted leads)

pub returns-in-Ok-Some-clause-exactly : goal.returns-in-Ok-Some-clause-exactly
returns-in-Ok-Some-clause-exactly g c = λ bytes rules vs a tells stands sound is. (
    let h = header_view c.args.header.now in
    let told = g.F.Folder.files c.args.folder.now in
    let name = c.args.name.now in
    let path = map label_view c.args.path.now in
    let all = pairs_of c.upto-all.result in
    let s = sound-file told name bytes h rules vs c.requires tells stands sound in
    let f = sound-archive told name bytes h vs a is s in
    c.in-Ok-Some.ensures.exactly bytes a f.0 (c.upto-all.ensures.pairs ∙ ap upto_pairs f.1))

pub returns-in-Ok-None-clause-exactly : goal.returns-in-Ok-None-clause-exactly
returns-in-Ok-None-clause-exactly g c = λ bytes rules vs a tells stands sound is. (
    let h = header_view c.args.header.now in
    let told = g.F.Folder.files c.args.folder.now in
    let name = c.args.name.now in
    let path = map label_view c.args.path.now in
    let all = pairs_of c.upto-all.result in
    let s = sound-file told name bytes h rules vs c.requires tells stands sound in
    let f = sound-archive told name bytes h vs a is s in
    c.in-Ok-None.ensures.exactly bytes a f.0 (c.upto-all.ensures.pairs ∙ ap upto_pairs f.1))
