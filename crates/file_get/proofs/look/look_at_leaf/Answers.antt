use Rattle.std.proofs.Common.{sym, subst}
use Rattle.file_get.specs.Looked.{LookIs}
use Rattle.file_get.proofs.SetLooks.{seen-is, seen-pulls, set-seen, set-unseen, set-pulls}
use Rattle.file_get.proofs.look.look_at_leaf.Goals as goal

pub returns-in-Ok-clause-told : goal.returns-in-Ok-clause-told
returns-in-Ok-clause-told g c = λ bytes end row parent front ks behind x. (
    let f = g.F.Folder in
    let a = c.args in
    let i = a.ask.now.version in (
      subst (LookIs i bytes row parent front ks behind) (sym c.sight_of.ensures) (set-seen i (f.files a.folder.now) a.ask.now.name.now bytes end row a.span parent front ks behind x c.requires.one c.in-Ok.has c.in-Ok.ensures.told),
      set-pulls i (f.files a.folder.now) a.ask.now.name.now bytes end row a.span parent front ks behind x c.requires.one (f.numbers a.folder.now) (f.numbers c.read_leaf.new.folder) c.in-Ok.ensures.few,
    ))

pub returns-in-Err-clause-told : goal.returns-in-Err-clause-told
returns-in-Err-clause-told g c = λ bytes end row parent front ks behind x. (
    let f = g.F.Folder in
    let a = c.args in
    let i = a.ask.now.version in (
      set-unseen i (f.files a.folder.now) a.ask.now.name.now bytes end row a.span parent front ks behind x c.requires.one c.in-Err.fault c.in-Err.ensures.told,
      set-pulls i (f.files a.folder.now) a.ask.now.name.now bytes end row a.span parent front ks behind x c.requires.one (f.numbers a.folder.now) (f.numbers c.read_leaf.new.folder) c.in-Err.ensures.few,
    ))

pub returns-in-Ok-clause-is : goal.returns-in-Ok-clause-is
returns-in-Ok-clause-is g c = seen-is c.args.span c.in-Ok.has c.sight_of.result c.sight_of.ensures c.requires.one

pub returns-in-Ok-clause-pulls : goal.returns-in-Ok-clause-pulls
returns-in-Ok-clause-pulls g c = seen-pulls c.args.span c.in-Ok.has c.sight_of.result c.sight_of.ensures (g.F.Folder.numbers c.args.folder.now) (g.F.Folder.numbers c.read_leaf.new.folder) c.in-Ok.ensures.pulls
