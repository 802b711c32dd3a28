use Rattle.std.proofs.Common.{◌+◌, [], ◌∷◌, ◌++◌, map, take, drop, Ok, Err, sym, ap, ◌∙◌, append_assoc}
use Rattle.archive_tree.specs.View.{stamp_view}
use Rattle.record_format.specs.Shapes.{IsShapedAlt}
use Rattle.record_writer.specs.Data.{PlainWriter, call_alt, call_end_leaf}
use Rattle.record_writer.specs.Given.{given_body}
use Rattle.record_writer.specs.View.{writer_view}
use Rattle.record_writer.proofs.WalkLaws.{alts-keep}
use Rattle.spelled_archive.specs.View.{alt_view}
use Rattle.archive_rekey.specs.Drafted.{Called}
use Rattle.archive_rekey.proofs.Calling.{at-err, called-as, called-fault, called-none, called-one, called-then}
use Rattle.archive_rekey.proofs.WrittenRows.{all-made, and-others, both-alts, calls_of_alts, each-at, one-more}
use Rattle.archive_rekey.proofs.write.write_alts.Goals as goal

pub loop-alt-init : goal.loop-alt-init
loop-alt-init g c = called-none c.args.folder.now (writer_view c.args.writer.now) tt (g.met.F.Folder.metered c.args.folder.now)

pub given-requires : goal.given-requires
given-requires g c = (each-at IsShapedAlt alt_view c.args.alts.now c.loop-alt.alt-index c.alt-item.result c.requires.shaped c.loop-alt-test.true c.alt-item.is).1

pub alt-requires-clause-leaf : goal.alt-requires-clause-leaf
alt-requires-clause-leaf g c = λ none.
    let l = c.loop-alt in
    c.requires.leaf (sym (alts-keep (writer_view c.args.writer.now) (map alt_view (take l.alt-index c.args.alts.now))).0 ∙ ap (λ (w : PlainWriter). w.leaf) (sym l.invariant.holds) ∙ none)

pub end_leaf-requires : goal.end_leaf-requires
end_leaf-requires g c = record {
  leaf = λ none.
      let l = c.loop-alt in
      c.requires.leaf (sym (alts-keep (writer_view c.args.writer.now) (map alt_view (take l.alt-index c.args.alts.now))).0 ∙ ap (λ (w : PlainWriter). w.leaf) (sym l.invariant.holds) ∙ none);
}

pub loop-alt-preserved : goal.loop-alt-preserved
loop-alt-preserved g c =
    let l = c.loop-alt in
    let x = c.alt-item in
    let e = c.in_ok-alt.ensures in
    let v = writer_view l.writer in
    let w = writer_view c.alt.new.self in
    let call = call_alt (stamp_view x.result.stamp) (given_body c.given.result) in
    let one = called-one call l.folder c.alt.new.folder v w (Ok tt) (g.met.F.Folder.metered l.folder) e.folder e.after e.too_long in
    let so = called-as (call ∷ []) (calls_of_alts (x.result ∷ [])) l.folder c.alt.new.folder v w (Ok tt) (ap (λ b. call_alt (stamp_view x.result.stamp) b ∷ []) (sym c.given.ensures.is)) one in
    called-as (calls_of_alts (take l.alt-index c.args.alts.now) ++ calls_of_alts (x.result ∷ [])) _ c.args.folder.now c.alt.new.folder (writer_view c.args.writer.now) w (Ok tt)
    (one-more calls_of_alts both-alts l.alt-index c.args.alts.now x.result c.loop-alt-test.true x.is)
    (called-then (calls_of_alts (take l.alt-index c.args.alts.now)) (calls_of_alts (x.result ∷ [])) c.args.folder.now l.folder c.alt.new.folder (writer_view c.args.writer.now) v w tt (Ok tt) l.invariant so)

pub returns-in_err-alt : goal.returns-in_err-alt
returns-in_err-alt g c =
    let f = g.F.Folder in
    let l = c.loop-alt in
    let x = c.alt-item in
    let e = c.in_err-alt.ensures in
    let u = writer_view c.args.writer.now in
    let v = writer_view l.writer in
    let w = writer_view c.alt.new.self in
    let fault = c.in_err-alt.field-0.0 in
    let call = call_alt (stamp_view x.result.stamp) (given_body c.given.result) in
    let done = calls_of_alts (take l.alt-index c.args.alts.now) in
    let now = calls_of_alts (x.result ∷ []) in
    let rest = calls_of_alts (drop (l.alt-index + 1) c.args.alts.now) ++ call_end_leaf ∷ [] in
    let one = called-one {T = Unit} call l.folder c.alt.new.folder v w (Err fault) (g.met.F.Folder.metered l.folder) e.folder tt e.too_long in
    let so = called-as (call ∷ []) now l.folder c.alt.new.folder v w (Err fault) (ap (λ b. call_alt (stamp_view x.result.stamp) b ∷ []) (sym c.given.ensures.is)) one in
    let both = called-then done now c.args.folder.now l.folder c.alt.new.folder u v w tt (Err fault) l.invariant so in
    at-err c.from_residual.result fault c.from_residual.ensures.1 (λ r. Called f.files f.draft f.numbers f.faults (calls_of_alts c.args.alts.now ++ call_end_leaf ∷ []) c.args.folder.now c.alt.new.folder u w r)
    (called-as ((done ++ now) ++ rest) _ c.args.folder.now c.alt.new.folder u w (Err fault)
    (ap (λ cs. cs ++ call_end_leaf ∷ []) (and-others calls_of_alts both-alts l.alt-index c.args.alts.now x.result c.loop-alt-test.true x.is) ∙ append_assoc (done ++ now) (calls_of_alts (drop (l.alt-index + 1) c.args.alts.now)) (call_end_leaf ∷ []))
    (called-fault (done ++ now) rest c.args.folder.now c.alt.new.folder u w w fault both))

pub returns : goal.returns
returns g c =
    let l = c.loop-alt in
    let e = c.end_leaf.ensures in
    let u = writer_view c.args.writer.now in
    let v = writer_view l.writer in
    let w = writer_view c.end_leaf.new.self in
    let done = called-as _ (calls_of_alts c.args.alts.now) c.args.folder.now l.folder u v (Ok tt) (sym (all-made calls_of_alts both-alts l.alt-index c.args.alts.now c.loop-alt-test.false)) l.invariant in
    called-then (calls_of_alts c.args.alts.now) (call_end_leaf ∷ []) c.args.folder.now l.folder c.end_leaf.new.folder u v w tt c.end_leaf.result done
    (called-one call_end_leaf l.folder c.end_leaf.new.folder v w c.end_leaf.result (g.met.F.Folder.metered l.folder) e.folder e.after e.too_long)
