use Rattle.std.proofs.Common.{◌+◌, ◌<◌, map, drop, refl, ap, subst, ◌∙◌, arith, ℕ, Ok, None, Option}
use Rattle.version_set.specs.View.{pairs_of}
use Rattle.keyed_tree.specs.View.{label_view}
use Rattle.archive_tree.specs.Data.{nodes_list}
use Rattle.archive_tree.specs.Seek.{node_with}
use Rattle.file_rows.specs.View.{row_view}
use Rattle.file_rows.specs.declared.places.Row.{Row}
use Rattle.file_history.specs.Pulled.{PullsBut}
use Rattle.file_history.specs.Parts.{IsFoundIn}
use Rattle.file_history.specs.View.{span_of, span_in, left_found}
use Rattle.file_history.specs.declared.open.Found.{Found}
use Rattle.file_history.proofs.Finding.{found-some}
use Rattle.file_history.proofs.InRows.{row-later}
use Rattle.file_history.proofs.Following.{ends, ends-leaf, ends-none, goes-on, few-all, few-row, steps-all, steps-row, exact-leaf, exact-none, exact-end, reached-row, rest-is, rest-none, onto-of, none-of, found-left}
use Rattle.file_history.proofs.Pulls.{but-all, but-trans, reads-trans}
use Rattle.file_history.proofs.follow.follow.Goals as goal

pub returns-in-None-clause-told : goal.returns-in-None-clause-told
returns-in-None-clause-told g c = λ bytes ks h. (
    let files = g.F.Folder.files c.args.folder.now in
    let name = c.args.name.now in
    let path = map label_view c.args.path.now in
    let first = pairs_of c.args.parent in
    let l = c.loop-label in
    let a = g.F.Folder.numbers c.args.folder.now in
    let b = g.F.Folder.numbers l.folder in
    let m = c.args.steps.now in
    let n = l.steps in
    let r = l.invariant.told bytes ks h in
    let w = label_view c.label-item.result in
    let rest = map label_view (drop l.label-index c.args.path.now) in
    let more = map label_view (drop (l.label-index + 1) c.args.path.now) in
    let e = rest-is label_view c.args.path.now l.label-index c.label-item.result (omega (arith, c.loop-label-test.true)) c.label-item.is in
    ends-leaf files name bytes path first ks l.depth l.here l.leaf (pairs_of l.set) w rest more a b m n e c.in-None.is r)

pub returns-in-None-clause-few : goal.returns-in-None-clause-few
returns-in-None-clause-few g c = λ bytes ks h. (
    let files = g.F.Folder.files c.args.folder.now in
    let name = c.args.name.now in
    let path = map label_view c.args.path.now in
    let first = pairs_of c.args.parent in
    let l = c.loop-label in
    let a = g.F.Folder.numbers c.args.folder.now in
    let b = g.F.Folder.numbers l.folder in
    let m = c.args.steps.now in
    let n = l.steps in
    let r = l.invariant.told bytes ks h in
    let w = label_view c.label-item.result in
    let rest = map label_view (drop l.label-index c.args.path.now) in
    let more = map label_view (drop (l.label-index + 1) c.args.path.now) in
    let e = rest-is label_view c.args.path.now l.label-index c.label-item.result (omega (arith, c.loop-label-test.true)) c.label-item.is in
    few-all files name bytes path first ks l.depth l.here l.leaf (pairs_of l.set) rest a b m n r)

pub returns-in-None-clause-steps : goal.returns-in-None-clause-steps
returns-in-None-clause-steps g c = λ bytes ks h. (
    let files = g.F.Folder.files c.args.folder.now in
    let name = c.args.name.now in
    let path = map label_view c.args.path.now in
    let first = pairs_of c.args.parent in
    let l = c.loop-label in
    let a = g.F.Folder.numbers c.args.folder.now in
    let b = g.F.Folder.numbers l.folder in
    let m = c.args.steps.now in
    let n = l.steps in
    let r = l.invariant.told bytes ks h in
    let w = label_view c.label-item.result in
    let rest = map label_view (drop l.label-index c.args.path.now) in
    let more = map label_view (drop (l.label-index + 1) c.args.path.now) in
    let e = rest-is label_view c.args.path.now l.label-index c.label-item.result (omega (arith, c.loop-label-test.true)) c.label-item.is in
    steps-all files name bytes path first ks l.depth l.here l.leaf (pairs_of l.set) rest a b m n r)

pub returns-in-Err-clause-pulls : goal.returns-in-Err-clause-pulls
returns-in-Err-clause-pulls g c =
    let l = c.loop-label in
    let room = ap (λ (o : Option Row). span_in o) c.in-Some.is in
    but-all (span_of c.args.row) 0 (g.F.Folder.numbers c.args.folder.now) (g.F.Folder.numbers c.find.new.folder)
    (but-trans (span_of c.args.row) (span_of c.in-Some.inside) 0 (g.F.Folder.numbers c.args.folder.now) (g.F.Folder.numbers l.folder) (g.F.Folder.numbers c.find.new.folder)
    (subst (λ (x : ℕ). PullsBut (span_of c.args.row) x (g.F.Folder.numbers c.args.folder.now) (g.F.Folder.numbers l.folder)) room l.invariant.pulls) c.in-Err.ensures.pulls)

pub returns-in-Err-clause-told : goal.returns-in-Err-clause-told
returns-in-Err-clause-told g c = λ bytes ks h. (
    let files = g.F.Folder.files c.args.folder.now in
    let name = c.args.name.now in
    let path = map label_view c.args.path.now in
    let first = pairs_of c.args.parent in
    let l = c.loop-label in
    let a = g.F.Folder.numbers c.args.folder.now in
    let b = g.F.Folder.numbers l.folder in
    let m = c.args.steps.now in
    let n = l.steps in
    let r = l.invariant.told bytes ks h in
    let w = label_view c.label-item.result in
    let rest = map label_view (drop l.label-index c.args.path.now) in
    let more = map label_view (drop (l.label-index + 1) c.args.path.now) in
    let e = rest-is label_view c.args.path.now l.label-index c.label-item.result (omega (arith, c.loop-label-test.true)) c.label-item.is in
    let d = g.F.Folder.numbers c.find.new.folder in
    let o = c.find.new.steps in
    let at = row-later files (g.F.Folder.files l.folder) name bytes l.depth (row_view c.in-Some.inside) (pairs_of l.set) r.ks l.invariant.reads.same_files
    (reached-row files name bytes path first ks l.depth l.here l.leaf c.in-Some.inside (pairs_of l.set) rest a b m n c.in-Some.is r) in
    c.in-Err.ensures.told bytes (pairs_of l.set) r.ks at)

pub returns-in-Err-clause-few : goal.returns-in-Err-clause-few
returns-in-Err-clause-few g c = λ bytes ks h. (
    let files = g.F.Folder.files c.args.folder.now in
    let name = c.args.name.now in
    let path = map label_view c.args.path.now in
    let first = pairs_of c.args.parent in
    let l = c.loop-label in
    let a = g.F.Folder.numbers c.args.folder.now in
    let b = g.F.Folder.numbers l.folder in
    let m = c.args.steps.now in
    let n = l.steps in
    let r = l.invariant.told bytes ks h in
    let w = label_view c.label-item.result in
    let rest = map label_view (drop l.label-index c.args.path.now) in
    let more = map label_view (drop (l.label-index + 1) c.args.path.now) in
    let e = rest-is label_view c.args.path.now l.label-index c.label-item.result (omega (arith, c.loop-label-test.true)) c.label-item.is in
    let d = g.F.Folder.numbers c.find.new.folder in
    let o = c.find.new.steps in
    let at = row-later files (g.F.Folder.files l.folder) name bytes l.depth (row_view c.in-Some.inside) (pairs_of l.set) r.ks l.invariant.reads.same_files
    (reached-row files name bytes path first ks l.depth l.here l.leaf c.in-Some.inside (pairs_of l.set) rest a b m n c.in-Some.is r) in
    few-row files name bytes path first ks l.depth l.here l.leaf (pairs_of l.set) w rest more a b d m n e r (c.in-Err.ensures.few bytes (pairs_of l.set) r.ks at))

pub returns-in-Err-clause-steps : goal.returns-in-Err-clause-steps
returns-in-Err-clause-steps g c = λ bytes ks h. (
    let files = g.F.Folder.files c.args.folder.now in
    let name = c.args.name.now in
    let path = map label_view c.args.path.now in
    let first = pairs_of c.args.parent in
    let l = c.loop-label in
    let a = g.F.Folder.numbers c.args.folder.now in
    let b = g.F.Folder.numbers l.folder in
    let m = c.args.steps.now in
    let n = l.steps in
    let r = l.invariant.told bytes ks h in
    let w = label_view c.label-item.result in
    let rest = map label_view (drop l.label-index c.args.path.now) in
    let more = map label_view (drop (l.label-index + 1) c.args.path.now) in
    let e = rest-is label_view c.args.path.now l.label-index c.label-item.result (omega (arith, c.loop-label-test.true)) c.label-item.is in
    let d = g.F.Folder.numbers c.find.new.folder in
    let o = c.find.new.steps in
    let at = row-later files (g.F.Folder.files l.folder) name bytes l.depth (row_view c.in-Some.inside) (pairs_of l.set) r.ks l.invariant.reads.same_files
    (reached-row files name bytes path first ks l.depth l.here l.leaf c.in-Some.inside (pairs_of l.set) rest a b m n c.in-Some.is r) in
    steps-row files name bytes path first ks l.depth l.here l.leaf (pairs_of l.set) w rest more a b m n o e r (c.in-Err.ensures.steps bytes (pairs_of l.set) r.ks at))

pub returns-in-None-answer-clause-pulls : goal.returns-in-None-answer-clause-pulls
returns-in-None-answer-clause-pulls g c =
    let l = c.loop-label in
    let room = ap (λ (o : Option Row). span_in o) c.in-Some.is in
    but-all (span_of c.args.row) (left_found (Ok c.in-Ok.answer)) (g.F.Folder.numbers c.args.folder.now) (g.F.Folder.numbers c.find.new.folder)
    (but-trans (span_of c.args.row) (span_of c.in-Some.inside) (left_found (Ok c.in-Ok.answer)) (g.F.Folder.numbers c.args.folder.now) (g.F.Folder.numbers l.folder) (g.F.Folder.numbers c.find.new.folder)
    (subst (λ (x : ℕ). PullsBut (span_of c.args.row) x (g.F.Folder.numbers c.args.folder.now) (g.F.Folder.numbers l.folder)) room l.invariant.pulls) c.in-Ok.ensures.pulls)

pub returns-in-None-answer-clause-told : goal.returns-in-None-answer-clause-told
returns-in-None-answer-clause-told g c = λ bytes ks h. (
    let files = g.F.Folder.files c.args.folder.now in
    let name = c.args.name.now in
    let path = map label_view c.args.path.now in
    let first = pairs_of c.args.parent in
    let l = c.loop-label in
    let a = g.F.Folder.numbers c.args.folder.now in
    let b = g.F.Folder.numbers l.folder in
    let m = c.args.steps.now in
    let n = l.steps in
    let r = l.invariant.told bytes ks h in
    let w = label_view c.label-item.result in
    let rest = map label_view (drop l.label-index c.args.path.now) in
    let more = map label_view (drop (l.label-index + 1) c.args.path.now) in
    let e = rest-is label_view c.args.path.now l.label-index c.label-item.result (omega (arith, c.loop-label-test.true)) c.label-item.is in
    let d = g.F.Folder.numbers c.find.new.folder in
    let o = c.find.new.steps in
    let at = row-later files (g.F.Folder.files l.folder) name bytes l.depth (row_view c.in-Some.inside) (pairs_of l.set) r.ks l.invariant.reads.same_files
    (reached-row files name bytes path first ks l.depth l.here l.leaf c.in-Some.inside (pairs_of l.set) rest a b m n c.in-Some.is r) in
    let found = subst (λ (x : Option Found). IsFoundIn bytes (pairs_of l.set) (node_with w (nodes_list r.ks)) x) c.in-None-answer.is (c.in-Ok.ensures.told bytes (pairs_of l.set) r.ks at) in
    ends-none files name bytes path first ks l.depth l.here l.leaf (pairs_of l.set) w rest more a b m n e r (none-of bytes (pairs_of l.set) (node_with w (nodes_list r.ks)) found))

pub returns-in-None-answer-clause-few : goal.returns-in-None-answer-clause-few
returns-in-None-answer-clause-few g c = λ bytes ks h. (
    let files = g.F.Folder.files c.args.folder.now in
    let name = c.args.name.now in
    let path = map label_view c.args.path.now in
    let first = pairs_of c.args.parent in
    let l = c.loop-label in
    let a = g.F.Folder.numbers c.args.folder.now in
    let b = g.F.Folder.numbers l.folder in
    let m = c.args.steps.now in
    let n = l.steps in
    let r = l.invariant.told bytes ks h in
    let w = label_view c.label-item.result in
    let rest = map label_view (drop l.label-index c.args.path.now) in
    let more = map label_view (drop (l.label-index + 1) c.args.path.now) in
    let e = rest-is label_view c.args.path.now l.label-index c.label-item.result (omega (arith, c.loop-label-test.true)) c.label-item.is in
    let d = g.F.Folder.numbers c.find.new.folder in
    let o = c.find.new.steps in
    let at = row-later files (g.F.Folder.files l.folder) name bytes l.depth (row_view c.in-Some.inside) (pairs_of l.set) r.ks l.invariant.reads.same_files
    (reached-row files name bytes path first ks l.depth l.here l.leaf c.in-Some.inside (pairs_of l.set) rest a b m n c.in-Some.is r) in
    few-row files name bytes path first ks l.depth l.here l.leaf (pairs_of l.set) w rest more a b d m n e r (c.in-Ok.ensures.few bytes (pairs_of l.set) r.ks at))

pub returns-in-None-answer-clause-steps : goal.returns-in-None-answer-clause-steps
returns-in-None-answer-clause-steps g c = λ bytes ks h. (
    let files = g.F.Folder.files c.args.folder.now in
    let name = c.args.name.now in
    let path = map label_view c.args.path.now in
    let first = pairs_of c.args.parent in
    let l = c.loop-label in
    let a = g.F.Folder.numbers c.args.folder.now in
    let b = g.F.Folder.numbers l.folder in
    let m = c.args.steps.now in
    let n = l.steps in
    let r = l.invariant.told bytes ks h in
    let w = label_view c.label-item.result in
    let rest = map label_view (drop l.label-index c.args.path.now) in
    let more = map label_view (drop (l.label-index + 1) c.args.path.now) in
    let e = rest-is label_view c.args.path.now l.label-index c.label-item.result (omega (arith, c.loop-label-test.true)) c.label-item.is in
    let d = g.F.Folder.numbers c.find.new.folder in
    let o = c.find.new.steps in
    let at = row-later files (g.F.Folder.files l.folder) name bytes l.depth (row_view c.in-Some.inside) (pairs_of l.set) r.ks l.invariant.reads.same_files
    (reached-row files name bytes path first ks l.depth l.here l.leaf c.in-Some.inside (pairs_of l.set) rest a b m n c.in-Some.is r) in
    steps-row files name bytes path first ks l.depth l.here l.leaf (pairs_of l.set) w rest more a b m n o e r (c.in-Ok.ensures.steps bytes (pairs_of l.set) r.ks at))

pub returns-clause-told : goal.returns-clause-told
returns-clause-told g c = λ bytes ks h. (
    let files = g.F.Folder.files c.args.folder.now in
    let name = c.args.name.now in
    let path = map label_view c.args.path.now in
    let first = pairs_of c.args.parent in
    let l = c.loop-label in
    let a = g.F.Folder.numbers c.args.folder.now in
    let b = g.F.Folder.numbers l.folder in
    let m = c.args.steps.now in
    let n = l.steps in
    let r = l.invariant.told bytes ks h in
    let rest = map label_view (drop l.label-index c.args.path.now) in
    ends files name bytes path first ks l.depth l.here l.leaf (pairs_of l.set) rest a b m n (rest-none label_view c.args.path.now l.label-index (omega (arith, c.loop-label-test.false))) r)

pub returns-clause-few : goal.returns-clause-few
returns-clause-few g c = λ bytes ks h. (
    let files = g.F.Folder.files c.args.folder.now in
    let name = c.args.name.now in
    let path = map label_view c.args.path.now in
    let first = pairs_of c.args.parent in
    let l = c.loop-label in
    let a = g.F.Folder.numbers c.args.folder.now in
    let b = g.F.Folder.numbers l.folder in
    let m = c.args.steps.now in
    let n = l.steps in
    let r = l.invariant.told bytes ks h in
    let rest = map label_view (drop l.label-index c.args.path.now) in
    few-all files name bytes path first ks l.depth l.here l.leaf (pairs_of l.set) rest a b m n r)

pub returns-clause-steps : goal.returns-clause-steps
returns-clause-steps g c = λ bytes ks h. (
    let files = g.F.Folder.files c.args.folder.now in
    let name = c.args.name.now in
    let path = map label_view c.args.path.now in
    let first = pairs_of c.args.parent in
    let l = c.loop-label in
    let a = g.F.Folder.numbers c.args.folder.now in
    let b = g.F.Folder.numbers l.folder in
    let m = c.args.steps.now in
    let n = l.steps in
    let r = l.invariant.told bytes ks h in
    let rest = map label_view (drop l.label-index c.args.path.now) in
    steps-all files name bytes path first ks l.depth l.here l.leaf (pairs_of l.set) rest a b m n r)

pub loop-label-preserved : goal.loop-label-preserved
loop-label-preserved g c =
    let l = c.loop-label in
    let room = ap (λ (o : Option Row). span_in o) c.in-Some.is in
    let f = c.in-Some-answer.found in
    record {
      name = c.in-Ok.ensures.name ∙ l.invariant.name;
      counted = (let more = found-some c.in-Ok.answer f (l.steps < c.find.new.steps) c.in-Some-answer.is c.in-Ok.ensures.counted in let before = l.invariant.counted in omega (arith, before, more));
      reads = reads-trans g.F.Folder.files g.F.Folder.draft g.F.Folder.faults c.args.folder.now l.folder c.find.new.folder None None l.invariant.reads c.in-Ok.ensures.reads;
      pulls = but-trans (span_of c.args.row) (span_of c.in-Some.inside) (span_in f.row) (g.F.Folder.numbers c.args.folder.now) (g.F.Folder.numbers l.folder) (g.F.Folder.numbers c.find.new.folder)
          (subst (λ (x : ℕ). PullsBut (span_of c.args.row) x (g.F.Folder.numbers c.args.folder.now) (g.F.Folder.numbers l.folder)) room l.invariant.pulls)
          (found-left (span_of c.in-Some.inside) c.in-Ok.answer f (g.F.Folder.numbers l.folder) (g.F.Folder.numbers c.find.new.folder) c.in-Some-answer.is c.in-Ok.ensures.pulls);
      told = λ bytes ks h. (
          let files = g.F.Folder.files c.args.folder.now in
          let name = c.args.name.now in
          let path = map label_view c.args.path.now in
          let first = pairs_of c.args.parent in
          let a = g.F.Folder.numbers c.args.folder.now in
          let b = g.F.Folder.numbers l.folder in
          let m = c.args.steps.now in
          let n = l.steps in
          let r = l.invariant.told bytes ks h in
          let w = label_view c.label-item.result in
          let rest = map label_view (drop l.label-index c.args.path.now) in
          let more = map label_view (drop (l.label-index + 1) c.args.path.now) in
          let e = rest-is label_view c.args.path.now l.label-index c.label-item.result (omega (arith, c.loop-label-test.true)) c.label-item.is in
          let d = g.F.Folder.numbers c.find.new.folder in
          let o = c.find.new.steps in
          let at = row-later files (g.F.Folder.files l.folder) name bytes l.depth (row_view c.in-Some.inside) (pairs_of l.set) r.ks l.invariant.reads.same_files
          (reached-row files name bytes path first ks l.depth l.here l.leaf c.in-Some.inside (pairs_of l.set) rest a b m n c.in-Some.is r) in
          let found = subst (λ (x : Option Found). IsFoundIn bytes (pairs_of l.set) (node_with w (nodes_list r.ks)) x) c.in-Some-answer.is (c.in-Ok.ensures.told bytes (pairs_of l.set) r.ks at) in
          goes-on files name bytes path first ks l.depth c.one_deeper-depth.result l.here l.leaf c.in-Some.inside (pairs_of l.set) (pairs_of c.inherited-set.result) w rest more a b d m n o f c.one_deeper-depth.ensures e c.in-Some.is r
          (onto-of w r.ks bytes (pairs_of l.set) f (node_with w (nodes_list r.ks)) refl found) c.inherited-set.ensures (c.in-Ok.ensures.few bytes (pairs_of l.set) r.ks at) (c.in-Ok.ensures.steps bytes (pairs_of l.set) r.ks at) (c.in-Ok.ensures.exactly bytes (pairs_of l.set) r.ks at));
    }

pub returns-clause-counted : goal.returns-clause-counted
returns-clause-counted g c =
    let counted = c.loop-label.invariant.counted in
    let end = c.loop-label-test.false in
    omega (arith, counted, end)

pub returns-in-None-clause-exactly : goal.returns-in-None-clause-exactly
returns-in-None-clause-exactly g c = λ bytes ks h. (
    let files = g.F.Folder.files c.args.folder.now in
    let name = c.args.name.now in
    let path = map label_view c.args.path.now in
    let first = pairs_of c.args.parent in
    let l = c.loop-label in
    let a = g.F.Folder.numbers c.args.folder.now in
    let b = g.F.Folder.numbers l.folder in
    let m = c.args.steps.now in
    let n = l.steps in
    let r = l.invariant.told bytes ks h in
    let w = label_view c.label-item.result in
    let rest = map label_view (drop l.label-index c.args.path.now) in
    let more = map label_view (drop (l.label-index + 1) c.args.path.now) in
    let e = rest-is label_view c.args.path.now l.label-index c.label-item.result (omega (arith, c.loop-label-test.true)) c.label-item.is in
    exact-leaf files name bytes path first ks l.depth l.here l.leaf (pairs_of l.set) w rest more a b m n e c.in-None.is r)

pub returns-in-None-answer-clause-exactly : goal.returns-in-None-answer-clause-exactly
returns-in-None-answer-clause-exactly g c = λ bytes ks h. (
    let files = g.F.Folder.files c.args.folder.now in
    let name = c.args.name.now in
    let path = map label_view c.args.path.now in
    let first = pairs_of c.args.parent in
    let l = c.loop-label in
    let a = g.F.Folder.numbers c.args.folder.now in
    let b = g.F.Folder.numbers l.folder in
    let m = c.args.steps.now in
    let n = l.steps in
    let r = l.invariant.told bytes ks h in
    let w = label_view c.label-item.result in
    let rest = map label_view (drop l.label-index c.args.path.now) in
    let more = map label_view (drop (l.label-index + 1) c.args.path.now) in
    let e = rest-is label_view c.args.path.now l.label-index c.label-item.result (omega (arith, c.loop-label-test.true)) c.label-item.is in
    let d = g.F.Folder.numbers c.find.new.folder in
    let o = c.find.new.steps in
    let at = row-later files (g.F.Folder.files l.folder) name bytes l.depth (row_view c.in-Some.inside) (pairs_of l.set) r.ks l.invariant.reads.same_files
    (reached-row files name bytes path first ks l.depth l.here l.leaf c.in-Some.inside (pairs_of l.set) rest a b m n c.in-Some.is r) in
    let found = subst (λ (x : Option Found). IsFoundIn bytes (pairs_of l.set) (node_with w (nodes_list r.ks)) x) c.in-None-answer.is (c.in-Ok.ensures.told bytes (pairs_of l.set) r.ks at) in
    exact-none files name bytes path first ks l.depth l.here l.leaf (pairs_of l.set) w rest more a b m n o e r (none-of bytes (pairs_of l.set) (node_with w (nodes_list r.ks)) found) (c.in-Ok.ensures.exactly bytes (pairs_of l.set) r.ks at))

pub returns-clause-exactly : goal.returns-clause-exactly
returns-clause-exactly g c = λ bytes ks h. (
    let files = g.F.Folder.files c.args.folder.now in
    let name = c.args.name.now in
    let path = map label_view c.args.path.now in
    let first = pairs_of c.args.parent in
    let l = c.loop-label in
    let a = g.F.Folder.numbers c.args.folder.now in
    let b = g.F.Folder.numbers l.folder in
    let m = c.args.steps.now in
    let n = l.steps in
    let r = l.invariant.told bytes ks h in
    let rest = map label_view (drop l.label-index c.args.path.now) in
    exact-end files name bytes path first ks l.depth l.here l.leaf (pairs_of l.set) rest a b m n (rest-none label_view c.args.path.now l.label-index (omega (arith, c.loop-label-test.false))) r)
