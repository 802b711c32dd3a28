use Rattle.std.proofs.Common.{◌∷◌, [], arith}
use Rattle.std.specs.Option.{option_map}
use Rattle.keyed_parts.specs.View.{kid_view, kids_view}
use Rattle.archive_tree.specs.View.{stamp_view}
use Rattle.version_set.specs.View.{pairs_of}
use Rattle.nested_merge.specs.Merged.{below}
use Rattle.record_parts.specs.ShownViews.{shown_label, shown_stamp}
use Rattle.stream_merge.specs.Meets.{call_of, rest_of}
use Rattle.record_copy.specs.State.{State, state}
use Rattle.stream_merge.specs.View.{inherited_view, own_view}
use Rattle.stream_merge.proofs.Besides.{has-kid, begun-is, kids-fail, stamp-fails, node-sent-beside}
use Rattle.stream_merge.proofs.Handed.{sent-handed}
use Rattle.stream_merge.proofs.Puts.{nowhere, row-sent}
use Rattle.stream_merge.proofs.beside.begin_beside.Goals as goal

pub returns-in_err-kid-clause-begins : goal.returns-in_err-kid-clause-begins
returns-in_err-kid-clause-begins g c = λ c' within. (
    let f = g.F.Folder in
    let at = state f.files f.draft f.numbers f.faults in
    let s : State = at c.args.folder.now c' c.args.writer.now in
    let t : State = at c.put_below.new.folder c' c.put_below.new.writer in
    let e = c.in_err-kid in
    kids-fail c.args.kind (inherited_view c.args.from.now) (shown_label c.args.label) (shown_stamp c.args.stamp) (kids_view c.args.kids) s t c.from_residual.result e.field-0.0 c.from_residual.ensures.1 (e.ensures.puts c' within))

pub returns-in_err-stamp-clause-begins : goal.returns-in_err-stamp-clause-begins
returns-in_err-stamp-clause-begins g c = λ c' within. (
    let f = g.F.Folder in
    let at = state f.files f.draft f.numbers f.faults in
    let s : State = at c.args.folder.now c' c.args.writer.now in
    let t : State = at c.put_below.new.folder c' c.put_below.new.writer in
    let e = c.in_err-stamp in
    let r = c.from_residual-in_err-stamp in
    stamp-fails c.args.kind (inherited_view c.args.from.now) (shown_label c.args.label) (shown_stamp c.args.stamp) (kids_view c.args.kids) s t r.result e.field-0.0 r.ensures.1 (g.met.F.Folder.metered c.put_below.new.folder) e.ensures.inside e.ensures.damage
    (c.in_ok-kid.ensures.puts c' within))

pub begin_node-began-requires : goal.begin_node-began-requires
begin_node-began-requires g c =
    let f = g.F.Folder in
    let at = state f.files f.draft f.numbers f.faults in
    let h = inherited_view c.args.from.now in
    let put = c.in_ok-kid.ensures.puts nowhere (omega arith) in
    let rests = row-sent (at c.args.folder.now nowhere c.args.writer.now) (at c.put_below.new.folder nowhere c.put_below.new.writer) h.now (rest_of h.number h.before (below (shown_label c.args.label) (kids_view c.args.kids))) c.requires.no_leaf
    (record { appended = put.appended; sends = put.sends; stops = tt }) in
    record { no_leaf = rests.no_leaf; shaped = tt }

pub returns-in_err-began-clause-begins : goal.returns-in_err-began-clause-begins
returns-in_err-began-clause-begins g c = λ c' within. (
    let f = g.F.Folder in
    let at = state f.files f.draft f.numbers f.faults in
    let s : State = at c.args.folder.now c' c.args.writer.now in
    let t : State = at c.put_below.new.folder c' c.put_below.new.writer in
    let u : State = at c.begin_node-began.new.folder c' c.begin_node-began.new.writer in
    let k = c.in_ok-kid in
    let n = c.in_ok-stamp in
    let r = c.from_residual-in_err-began in
    let call = call_of c.args.kind (shown_label c.args.label) (stamp_view n.stamp) (pairs_of c.get.result.now.now) ∷ [] in
    let has = has-kid kid_view k.kid _ c.is_some.result k.ensures.kid c.is_some.ensures in
    node-sent-beside c.args.kind (inherited_view c.args.from.now) (shown_label c.args.label) (shown_stamp c.args.stamp) (kids_view c.args.kids) s t r.result u c.is_some.result (stamp_view n.stamp) (own_view n.own) (inherited_view c.get.result.now) has n.ensures.stamp n.ensures.own c.get.ensures n.ensures.no_shorter c.bytes-spelled.ensures.fits c.requires.no_leaf (k.ensures.puts c' within) (sent-handed r.result c.in_err-began.field-0.0 r.ensures.1 call t u (c.in_err-began.ensures.sends c' within)))

pub returns-clause-begins : goal.returns-clause-begins
returns-clause-begins g c = λ c' within. (
    let f = g.F.Folder in
    let at = state f.files f.draft f.numbers f.faults in
    let s : State = at c.args.folder.now c' c.args.writer.now in
    let t : State = at c.put_below.new.folder c' c.put_below.new.writer in
    let u : State = at c.begin_node-began.new.folder c' c.begin_node-began.new.writer in
    let k = c.in_ok-kid in
    let n = c.in_ok-stamp in
    let has = has-kid kid_view k.kid _ c.is_some.result k.ensures.kid c.is_some.ensures in
    node-sent-beside c.args.kind (inherited_view c.args.from.now) (shown_label c.args.label) (shown_stamp c.args.stamp) (kids_view c.args.kids) s t _ u c.is_some.result (stamp_view n.stamp) (own_view n.own) (inherited_view c.get.result.now) has n.ensures.stamp n.ensures.own c.get.ensures n.ensures.no_shorter c.bytes-spelled.ensures.fits c.requires.no_leaf (k.ensures.puts c' within) (c.in_ok-began.ensures.sends c' within))

pub returns-clause-begun : goal.returns-clause-begun
returns-clause-begun g c =
    let k = c.in_ok-kid in
    let n = c.in_ok-stamp in
    begun-is (inherited_view c.args.from.now) (shown_label c.args.label) (shown_stamp c.args.stamp) (kids_view c.args.kids) (option_map kid_view k.kid) (kids_view k.rest) (own_view n.own) c.is_some.result k.ensures.kid k.ensures.rest (has-kid kid_view k.kid _ c.is_some.result k.ensures.kid c.is_some.ensures) n.ensures.own
