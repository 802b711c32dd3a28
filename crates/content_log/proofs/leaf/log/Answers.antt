use Rattle.std.proofs.Common.{◌≡◌, ◌≢◌, ◌+◌, ◌-◌, ◌≤◌, ℕ, List, [], map, length, Option, sym, subst, arith}
use Rattle.version_set.specs.View.{pairs_of}
use Rattle.keyed_tree.specs.View.{label_view}
use Rattle.xa_outside.specs.Folder.{Files}
use Rattle.xa_outside.specs.NumberLaws.{PullsAtMost-more, PullsAtMost-trans}
use Rattle.xa_outside.specs.Taken.{Takes}
use Rattle.xa_outside.specs.TakenLaws.{Takes-nil, TakesPrefix-none}
use Rattle.record_cursor.specs.Moves.{TellsFront}
use Rattle.record_cursor.specs.View.{header_view}
use Rattle.record_format.specs.Probed.{probed}
use Rattle.file_history.specs.Halving.{probes_along}
use Rattle.file_history.specs.Leads.{node_along}
use Rattle.content_log.specs.Told.{fault_of}
use Rattle.content_log.specs.Text.{last_name, log_text}
use Rattle.content_log.specs.Written.{Prefixed, leaf_bytes}
use Rattle.content_log.specs.declared.fault.LogFault.{LogFault}
use Rattle.content_log.specs.declared.fault.LogFault.TheVariants.{Damage}
use Rattle.content_log.proofs.Logs.{on-ok, leaf-found, none-logged, nothing-told, leaf-told, log-alone, log-text, log-none, pulls-both, puts-of, undamaged-of, search-undamaged}
use Rattle.content_log.proofs.leaf.log.Goals as goal

pub returns-in-Ok-Some-clause-lines : goal.returns-in-Ok-Some-clause-lines
returns-in-Ok-Some-clause-lines g c = λ bytes rules vs tells stands sound. (
    let a = sound.file.archive in
    let path = map label_view c.args.path.now in
    let i = c.in-Ok-Some in
    let size = (header_view c.args.header.now).length in
    let f = leaf-found bytes (node_along a path) i.field-0 i.leaf i.field-0-is (i.ensures.found bytes rules vs a tells stands sound sound.file.is) in
    let there = subst (λ (t : Option Files). TellsFront t c.args.name.now size bytes) (sym i.ensures.files) tells in
    let shows = c.write_leaf.ensures.shows bytes f.parent f.l f.s f.xs (log-alone vs a path sound.file.is bytes i.leaf f) there f.laid in
    let before = g.O.Sink.taken c.args.out.now in
    let now = g.O.Sink.taken c.write_leaf.new.out in
    puts-of before now c.write_leaf.result (log_text vs path)
    (subst (Prefixed before now (fault_of c.write_leaf.result)) (sym (log-text vs a path sound.file.is bytes c.tag_of.result.now i.leaf f c.tag_of.ensures)) shows.bytes))

pub returns-in-Ok-Some-clause-undamaged : goal.returns-in-Ok-Some-clause-undamaged
returns-in-Ok-Some-clause-undamaged g c = λ bytes rules vs tells stands sound. (
    let a = sound.file.archive in
    let path = map label_view c.args.path.now in
    let i = c.in-Ok-Some in
    let size = (header_view c.args.header.now).length in
    let f = leaf-found bytes (node_along a path) i.field-0 i.leaf i.field-0-is (i.ensures.found bytes rules vs a tells stands sound sound.file.is) in
    let there = subst (λ (t : Option Files). TellsFront t c.args.name.now size bytes) (sym i.ensures.files) tells in
    let shows = c.write_leaf.ensures.shows bytes f.parent f.l f.s f.xs (log-alone vs a path sound.file.is bytes i.leaf f) there f.laid in
    undamaged-of c.write_leaf.result shows.sound)

pub returns-in-Ok-Some-clause-few : goal.returns-in-Ok-Some-clause-few
returns-in-Ok-Some-clause-few g c = λ bytes rules vs a tells stands sound is. (
    let path = map label_view c.args.path.now in
    let i = c.in-Ok-Some in
    let size = (header_view c.args.header.now).length in
    let f = leaf-found bytes (node_along a path) i.field-0 i.leaf i.field-0-is (i.ensures.found bytes rules vs a tells stands sound is) in
    let there = subst (λ (t : Option Files). TellsFront t c.args.name.now size bytes) (sym i.ensures.files) tells in
    let shows = c.write_leaf.ensures.shows bytes f.parent f.l f.s f.xs (log-alone vs a path is bytes i.leaf f) there f.laid in
    pulls-both vs a path is bytes i.leaf f (8 + probed a path) (g.F.Folder.numbers c.args.folder.now) (g.F.Folder.numbers c.find_leaf.new.folder) (g.F.Folder.numbers c.write_leaf.new.folder) (i.ensures.few bytes rules vs a tells stands sound is) shows.pulls)

pub returns-in-Ok-None-clause-lines : goal.returns-in-Ok-None-clause-lines
returns-in-Ok-None-clause-lines g c = λ bytes rules vs tells stands sound. (
    let a = sound.file.archive in
    let path = map label_view c.args.path.now in
    let i = c.in-Ok-None in
    let before = g.O.Sink.taken c.args.out.now in
    let none = none-logged bytes (node_along a path) i.field-0 i.field-0-is (i.ensures.found bytes rules vs a tells stands sound sound.file.is) in
    subst (λ (text : List ℕ). Takes before before text) (sym (log-none vs a path sound.file.is none)) (Takes-nil before))

pub returns-in-Ok-None-clause-gained : goal.returns-in-Ok-None-clause-gained
returns-in-Ok-None-clause-gained g c = ([], Takes-nil (g.O.Sink.taken c.args.out.now))

pub returns-in-Ok-None-clause-few : goal.returns-in-Ok-None-clause-few
returns-in-Ok-None-clause-few g c = λ bytes rules vs a tells stands sound is. (
    let path = map label_view c.args.path.now in
    PullsAtMost-more (8 + probed a path) (8 + probed a path + leaf_bytes (node_along a path)) (g.F.Folder.numbers c.args.folder.now) (g.F.Folder.numbers c.find_leaf.new.folder) (omega arith) (c.in-Ok-None.ensures.few bytes rules vs a tells stands sound is))

pub returns-in-Err-clause-lines : goal.returns-in-Err-clause-lines
returns-in-Err-clause-lines g c = λ bytes rules vs tells stands sound. TakesPrefix-none (g.O.Sink.taken c.args.out.now) (log_text vs (map label_view c.args.path.now))

pub returns-in-Err-clause-undamaged : goal.returns-in-Err-clause-undamaged
returns-in-Err-clause-undamaged g c = λ bytes rules vs tells stands sound. (
    subst (λ (e : LogFault). e ≢ Damage) (sym c.from.ensures) (search-undamaged c.in-Err.fault (c.in-Err.ensures.undamaged bytes rules vs tells stands sound)))

pub returns-in-Err-clause-gained : goal.returns-in-Err-clause-gained
returns-in-Err-clause-gained g c = ([], Takes-nil (g.O.Sink.taken c.args.out.now))

pub returns-in-Err-clause-few : goal.returns-in-Err-clause-few
returns-in-Err-clause-few g c = λ bytes rules vs a tells stands sound is. (
    let path = map label_view c.args.path.now in
    PullsAtMost-more (8 + probed a path) (8 + probed a path + leaf_bytes (node_along a path)) (g.F.Folder.numbers c.args.folder.now) (g.F.Folder.numbers c.find_leaf.new.folder) (omega arith) (c.in-Err.ensures.few bytes rules vs a tells stands sound is))

pub returns-in-Ok-Some-clause-pulls : goal.returns-in-Ok-Some-clause-pulls
returns-in-Ok-Some-clause-pulls g c =
    let h = header_view c.args.header.now in
    PullsAtMost-trans (h.length - h.first) h.length (g.F.Folder.numbers c.args.folder.now) (g.F.Folder.numbers c.find_leaf.new.folder) (g.F.Folder.numbers c.write_leaf.new.folder) c.in-Ok-Some.ensures.pulls c.write_leaf.ensures.walks.pulls

pub returns-in-Ok-None-clause-pulls : goal.returns-in-Ok-None-clause-pulls
returns-in-Ok-None-clause-pulls g c =
    let h = header_view c.args.header.now in
    PullsAtMost-more (h.length - h.first) (h.length - h.first + h.length) (g.F.Folder.numbers c.args.folder.now) (g.F.Folder.numbers c.find_leaf.new.folder) (omega arith) c.in-Ok-None.ensures.pulls

pub returns-in-Err-clause-pulls : goal.returns-in-Err-clause-pulls
returns-in-Err-clause-pulls g c =
    let h = header_view c.args.header.now in
    PullsAtMost-more (h.length - h.first) (h.length - h.first + h.length) (g.F.Folder.numbers c.args.folder.now) (g.F.Folder.numbers c.find_leaf.new.folder) (omega arith) c.in-Err.ensures.pulls

pub returns-in-Ok-Some-clause-counted : goal.returns-in-Ok-Some-clause-counted
returns-in-Ok-Some-clause-counted g c = λ bytes rules vs a tells stands sound is some. on-ok c.write_leaf.result (c.args.steps.now + length c.args.path.now ≤ c.find_leaf.new.steps) (c.in-Ok-Some.ensures.counted bytes rules vs a tells stands sound is some)

pub returns-in-Ok-Some-clause-exactly : goal.returns-in-Ok-Some-clause-exactly
returns-in-Ok-Some-clause-exactly g c = λ bytes rules vs a tells stands sound is. (
    on-ok c.write_leaf.result (c.find_leaf.new.steps ≡ c.args.steps.now + probes_along a (map label_view c.args.path.now))
    (c.in-Ok-Some.ensures.exactly bytes rules vs a tells stands sound is))

pub returns-in-Ok-Some-clause-told_once : goal.returns-in-Ok-Some-clause-told_once
returns-in-Ok-Some-clause-told_once g c =
    leaf-told c.tag_of.result.now (last_name (map label_view c.args.path.now)) (pairs_of c.in-Ok-Some.leaf.set) (header_view c.args.header.now).length (g.O.Sink.taken c.args.out.now) (g.O.Sink.taken c.write_leaf.new.out) c.tag_of.ensures c.write_leaf.ensures.told

pub returns-in-Ok-None-clause-told_once : goal.returns-in-Ok-None-clause-told_once
returns-in-Ok-None-clause-told_once g c = nothing-told (last_name (map label_view c.args.path.now)) (header_view c.args.header.now).length (g.O.Sink.taken c.args.out.now)

pub returns-in-Err-clause-told_once : goal.returns-in-Err-clause-told_once
returns-in-Err-clause-told_once g c = nothing-told (last_name (map label_view c.args.path.now)) (header_view c.args.header.now).length (g.O.Sink.taken c.args.out.now)
