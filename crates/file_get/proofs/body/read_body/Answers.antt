use Rattle.std.proofs.Common.{rules, Some, ◌≡◌, ◌+◌, ◌-◌, arith}
use Rattle.xa_outside.specs.NumberLaws.{PullsAtMost-none, PullsAtMost-more, PullsAtMost-trans}
use Rattle.keyed_tree.specs.Data.{PlainKey}
use Rattle.file_get.specs.LeafBodies.{body_view}
use Rattle.record_cursor.specs.Steps.{Filled}
use Rattle.file_get.proofs.Bodies.{starts, fails, passes, found}
use Rattle.file_get.proofs.body.read_body.Goals as goal

pub loop-alternative-init : goal.loop-alternative-init
loop-alternative-init g c =
    let a = c.args in
    let f = g.F.Folder.files a.folder.now in
    let n = g.F.Folder.numbers a.folder.now in
    record {
      ordered = c.requires;
      onward = omega arith;
      reads = search rules;
      pulls = PullsAtMost-none _ n (g.met.F.Folder.metered a.folder.now);
      told = λ last bytes more set xs h. starts a.ask.now.version f a.ask.now.name.now bytes last a.at a.end set xs more n n n h (g.met.F.Folder.metered a.folder.now);
    }

pub loop-alternative-preserved : goal.loop-alternative-preserved
loop-alternative-preserved g c =
    let a = c.args in
    let l = c.loop-alternative in
    let n = g.F.Folder.numbers in
    let inv = l.invariant in
    let read = c.in-Ok.ensures in
    let f = c.in-Ok.alternative in
    let w = read.within in
    let only = read.reads in
    record {
      ordered = w.2;
      onward = omega (arith, inv.onward, w.0, w.1);
      reads = search rules;
      pulls = PullsAtMost-more ((l.at - a.at) + (f.body - l.at)) (f.end - a.at) (n a.folder.now) (n c.read_alternative.new.folder) (omega (arith, inv.onward, w.0, w.1))
          (PullsAtMost-trans (l.at - a.at) (f.body - l.at) (n a.folder.now) (n l.folder) (n c.read_alternative.new.folder) inv.pulls read.most);
      told = λ last bytes more set xs h. passes a.ask.now.version (g.F.Folder.files l.folder) a.ask.now.name.now bytes last l.at a.end set xs more (n a.folder.now) (n l.folder) (n c.read_alternative.new.folder)
          f (g.F.Folder.files c.read_alternative.new.folder) only.same_files (inv.told last bytes more set xs h) read.told c.if-alternative.false;
    }

pub returns-in-Err-clause-pulls : goal.returns-in-Err-clause-pulls
returns-in-Err-clause-pulls g c =
    let a = c.args in
    let l = c.loop-alternative in
    let n = g.F.Folder.numbers in
    let inv = l.invariant in
    let read = c.in-Err.ensures in
    PullsAtMost-more ((l.at - a.at) + (a.end - l.at)) (a.end - a.at) (n a.folder.now) (n c.read_alternative.new.folder) (omega (arith, inv.onward, inv.ordered))
    (PullsAtMost-trans (l.at - a.at) (a.end - l.at) (n a.folder.now) (n l.folder) (n c.read_alternative.new.folder) inv.pulls read.pulls)

pub returns-in-Err-clause-told : goal.returns-in-Err-clause-told
returns-in-Err-clause-told g c = λ last bytes more set xs h. (
    let a = c.args in
    let l = c.loop-alternative in
    let n = g.F.Folder.numbers in
    fails a.ask.now.version (g.F.Folder.files l.folder) a.ask.now.name.now bytes last l.at a.end set xs more (n a.folder.now) (n l.folder) (n c.read_alternative.new.folder) c.in-Err.fault (l.invariant.told last bytes more set xs h) c.in-Err.ensures.told)

pub returns-then-alternative-clause-pulls : goal.returns-then-alternative-clause-pulls
returns-then-alternative-clause-pulls g c =
    let a = c.args in
    let l = c.loop-alternative in
    let n = g.F.Folder.numbers in
    let inv = l.invariant in
    let read = c.in-Ok.ensures in
    let f = c.in-Ok.alternative in
    let w = read.within in
    PullsAtMost-more ((l.at - a.at) + ((f.body - l.at) + (f.end - f.body))) (a.end - a.at) (n a.folder.now) (n c.read_value.new.folder) (omega (arith, inv.onward, w.0, w.1, w.2))
    (PullsAtMost-trans (l.at - a.at) ((f.body - l.at) + (f.end - f.body)) (n a.folder.now) (n l.folder) (n c.read_value.new.folder) inv.pulls
    (PullsAtMost-trans (f.body - l.at) (f.end - f.body) (n l.folder) (n c.read_alternative.new.folder) (n c.read_value.new.folder)
    read.most c.read_value.ensures.pulls))

pub returns-then-alternative-clause-told : goal.returns-then-alternative-clause-told
returns-then-alternative-clause-told g c = λ last bytes more set xs h. (
    let a = c.args in
    let l = c.loop-alternative in
    let n = g.F.Folder.numbers in
    let read = c.in-Ok.ensures in
    let f = c.in-Ok.alternative in
    let w = read.within in
    let only = read.reads in
    found a.ask.now.version (g.F.Folder.files l.folder) a.ask.now.name.now bytes last l.at a.end set xs more (n a.folder.now) (n l.folder) (n c.read_alternative.new.folder)
    f (g.F.Folder.files c.read_alternative.new.folder) (n c.read_value.new.folder) (λ (b : PlainKey). Filled c.read_value.result (λ v. body_view v ≡ Some b)) only.same_files (l.invariant.told last bytes more set xs h) read.told c.if-alternative.true w.2 c.read_value.ensures.told c.read_value.ensures.pulls)
