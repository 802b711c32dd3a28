use Rattle.std.proofs.Common.{◌≡◌, ◌+◌, ◌≤◌, ℕ, List, Option, None, map, length, sym, ap, subst, ◌∙◌}
use Rattle.std.specs.Prelude.{◌≢◌}
use Rattle.xa_outside.specs.Causes.{Rose}
use Rattle.version_set.specs.Members.{upto_pairs}
use Rattle.version_set.specs.View.{pairs_of}
use Rattle.keyed_tree.specs.View.{label_view}
use Rattle.record_cursor.specs.View.{header_view}
use Rattle.file_history.specs.Leads.{lead, IsLeafOf}
use Rattle.file_history.specs.declared.leaf.LeafAt.{LeafAt}
use Rattle.file_history.specs.declared.fault.HistFault.TheVariants.{Damage}
use Rattle.file_history.proofs.Following.{leaf-followed, counted-along}
use Rattle.file_history.proofs.WholeFiles.{sound-file, sound-archive, no-damage-of, failed-of}
use Rattle.file_history.proofs.leaf.find_leaf.Goals as goal

pub returns-in-Ok-clause-found : goal.returns-in-Ok-clause-found
returns-in-Ok-clause-found g c = λ bytes rules vs a tells stands sound is. (
    let h = header_view c.args.header.now in
    let told = g.F.Folder.files c.args.folder.now in
    let name = c.args.name.now in
    let path = map label_view c.args.path.now in
    let all = pairs_of c.upto-all.result in
    let s = sound-file told name bytes h rules vs c.requires tells stands sound in
    let f = sound-archive told name bytes h vs a is s in
    let first : all ≡ upto_pairs a.n = c.upto-all.ensures.pairs ∙ ap upto_pairs f.1 in
    subst (λ (set : List (ℕ × ℕ)). IsLeafOf bytes (lead path None set a.kids) c.leaf_in.result) first
    (leaf-followed bytes path all a.kids c.in-Ok.spot c.leaf_in.result c.leaf_in.ensures (c.in-Ok.ensures.told bytes a f.0 first)))

pub returns-in-Err-clause-undamaged : goal.returns-in-Err-clause-undamaged
returns-in-Err-clause-undamaged g c = λ bytes rules vs tells stands sound. (
    let h = header_view c.args.header.now in
    let told = g.F.Folder.files c.args.folder.now in
    let name = c.args.name.now in
    let path = map label_view c.args.path.now in
    let all = pairs_of c.upto-all.result in
    let s = sound-file told name bytes h rules vs c.requires tells stands sound in
    subst (λ e. e ≢ Damage) (sym c.from.ensures) (no-damage-of c.in-Err.fault (c.in-Err.ensures.told bytes s.archive s.file (c.upto-all.ensures.pairs ∙ ap upto_pairs s.versions))))

pub returns-in-Ok-clause-few : goal.returns-in-Ok-clause-few
returns-in-Ok-clause-few g c = λ bytes rules vs a tells stands sound is. (
    let h = header_view c.args.header.now in
    let told = g.F.Folder.files c.args.folder.now in
    let name = c.args.name.now in
    let path = map label_view c.args.path.now in
    let all = pairs_of c.upto-all.result in
    let s = sound-file told name bytes h rules vs c.requires tells stands sound in
    let f = sound-archive told name bytes h vs a is s in
    c.in-Ok.ensures.few bytes a f.0 (c.upto-all.ensures.pairs ∙ ap upto_pairs f.1))

pub returns-in-Ok-clause-steps : goal.returns-in-Ok-clause-steps
returns-in-Ok-clause-steps g c = λ bytes rules vs a tells stands sound is. (
    let h = header_view c.args.header.now in
    let told = g.F.Folder.files c.args.folder.now in
    let name = c.args.name.now in
    let path = map label_view c.args.path.now in
    let all = pairs_of c.upto-all.result in
    let s = sound-file told name bytes h rules vs c.requires tells stands sound in
    let f = sound-archive told name bytes h vs a is s in
    c.in-Ok.ensures.steps bytes a f.0 (c.upto-all.ensures.pairs ∙ ap upto_pairs f.1))

pub returns-in-Err-clause-few : goal.returns-in-Err-clause-few
returns-in-Err-clause-few g c = λ bytes rules vs a tells stands sound is. (
    let h = header_view c.args.header.now in
    let told = g.F.Folder.files c.args.folder.now in
    let name = c.args.name.now in
    let path = map label_view c.args.path.now in
    let all = pairs_of c.upto-all.result in
    let s = sound-file told name bytes h rules vs c.requires tells stands sound in
    let f = sound-archive told name bytes h vs a is s in
    c.in-Err.ensures.few bytes a f.0 (c.upto-all.ensures.pairs ∙ ap upto_pairs f.1))

pub returns-in-Err-clause-steps : goal.returns-in-Err-clause-steps
returns-in-Err-clause-steps g c = λ bytes rules vs a tells stands sound is. (
    let h = header_view c.args.header.now in
    let told = g.F.Folder.files c.args.folder.now in
    let name = c.args.name.now in
    let path = map label_view c.args.path.now in
    let all = pairs_of c.upto-all.result in
    let s = sound-file told name bytes h rules vs c.requires tells stands sound in
    let f = sound-archive told name bytes h vs a is s in
    c.in-Err.ensures.steps bytes a f.0 (c.upto-all.ensures.pairs ∙ ap upto_pairs f.1))

pub returns-in-Err-clause-cause : goal.returns-in-Err-clause-cause
returns-in-Err-clause-cause g c = failed-of (Option LeafAt) c.in-Err.fault c.from.result (Rose (g.F.Folder.faults c.args.folder.now) (g.F.Folder.faults c.search.new.folder)) c.from.ensures c.in-Err.ensures.reads.cause

pub returns-in-Ok-clause-counted : goal.returns-in-Ok-clause-counted
returns-in-Ok-clause-counted g c = λ bytes rules vs a tells stands sound is some. (
    let h = header_view c.args.header.now in
    let told = g.F.Folder.files c.args.folder.now in
    let name = c.args.name.now in
    let path = map label_view c.args.path.now in
    let all = pairs_of c.upto-all.result in
    let s = sound-file told name bytes h rules vs c.requires tells stands sound in
    let f = sound-archive told name bytes h vs a is s in
    let first : all ≡ upto_pairs a.n = c.upto-all.ensures.pairs ∙ ap upto_pairs f.1 in
    let leads = subst (λ (set : List (ℕ × ℕ)). lead path None set a.kids ≢ None) (sym first) some in
    counted-along bytes path all a.kids c.in-Ok.spot (c.args.steps.now + length c.args.path.now ≤ c.search.new.steps) (c.in-Ok.ensures.told bytes a f.0 first) c.in-Ok.ensures.counted leads)

pub returns-in-Ok-clause-exactly : goal.returns-in-Ok-clause-exactly
returns-in-Ok-clause-exactly g c = λ bytes rules vs a tells stands sound is. (
    let h = header_view c.args.header.now in
    let told = g.F.Folder.files c.args.folder.now in
    let name = c.args.name.now in
    let path = map label_view c.args.path.now in
    let all = pairs_of c.upto-all.result in
    let s = sound-file told name bytes h rules vs c.requires tells stands sound in
    let f = sound-archive told name bytes h vs a is s in
    c.in-Ok.ensures.exactly bytes a f.0 (c.upto-all.ensures.pairs ∙ ap upto_pairs f.1))
