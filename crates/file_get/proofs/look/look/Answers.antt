use Rattle.std.proofs.Common.{◌<◌, ℕ, length, sym, subst, arith}
use Rattle.timestamp_tree.specs.Data.{top}
use Rattle.xa_outside.specs.Numbers.{PullsAtMost}
use Rattle.file_get.specs.Looked.{left_bytes, tree_over}
use Rattle.file_get.proofs.Looking.{node-told, node-of, own-inner}
use Rattle.file_get.proofs.look.look.Goals as goal

pub returns-in-Ok-clause-told : goal.returns-in-Ok-clause-told
returns-in-Ok-clause-told g c = λ bytes end row parent front ks behind x. (
    let f = g.F.Folder in
    let a = c.args in
    let n = c.in-Ok in
    let t = tree_over parent ks in
    let count = x.part.count in
    let many : 1 < length ks = omega (arith, count, c.requires.some, c.if-span-eq1.false) in
    let there = node-told (f.files a.folder.now) a.ask.now.name.now bytes end row a.span parent front ks behind c.requires.short x in
    let read = n.ensures.told end (left_bytes t) bytes (top t) there in (
      c.judge.ensures.told a.ask.now.version bytes row parent front ks behind x.part x.sets (node-of a.ask.now.version parent ks n.probe read.0),
      subst (λ (m : ℕ). PullsAtMost m (f.numbers a.folder.now) (f.numbers c.read_node.new.folder)) (sym (own-inner parent ks many x.sets)) read.1,
    ))

pub returns-in-Err-clause-told : goal.returns-in-Err-clause-told
returns-in-Err-clause-told g c = λ bytes end row parent front ks behind x. (
    let f = g.F.Folder in
    let a = c.args in
    let t = tree_over parent ks in
    let count = x.part.count in
    let many : 1 < length ks = omega (arith, count, c.requires.some, c.if-span-eq1.false) in
    let there = node-told (f.files a.folder.now) a.ask.now.name.now bytes end row a.span parent front ks behind c.requires.short x in
    let read = c.in-Err.ensures.told end (left_bytes t) bytes (top t) there in
    (read.0, subst (λ (m : ℕ). PullsAtMost m (f.numbers a.folder.now) (f.numbers c.read_node.new.folder)) (sym (own-inner parent ks many x.sets)) read.1))
