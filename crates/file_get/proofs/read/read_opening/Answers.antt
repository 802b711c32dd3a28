use Rattle.std.proofs.Common.{◌≡◌, ◌+◌, ◌≤◌, length, take, ap, ◌∙◌, arith}
use Rattle.xa_outside.specs.NumberLaws.{PullsAtMost-more}
use Rattle.record_format.specs.Spelling.{rec_bytes}
use Rattle.record_cursor.specs.Items.{item_of}
use Rattle.record_cursor.specs.MoveLaws.{front-less}
use Rattle.record_cursor.specs.Next.{read_for, size_of}
use Rattle.record_cursor.specs.Places.{among_nodes}
use Rattle.record_cursor.specs.View.{shown_item}
use Rattle.file_get.specs.Inside.{opening_rec}
use Rattle.file_get.proofs.Openings.{opening-leads, opening-comes, given-is, never-none, opening-is}
use Rattle.file_get.proofs.read.read_opening.Goals as goal

pub returns-in-Ok-clause-told : goal.returns-in-Ok-clause-told
returns-in-Ok-clause-told g c = λ end bytes more k tells within stands ends is leaf. (
    let a = c.args in
    let law = c.records_give_their_items.ensures in
    let r = opening_rec k in
    let e = c.in-Ok.ensures in
    let leads = opening-leads k in
    let comes = opening-comes bytes more a.child.first a.child.end k leads.0 stands ends (law.next (among_nodes 0) leads.0 r more is leads.1) in
    let front = front-less (g.F.Folder.files a.folder.now) a.ask.now.name.now bytes end a.child.end tells within in
    let same : shown_item c.in-Ok.item ≡ item_of r = given-is _ _ _ _ _ (e.told (take a.child.end bytes) front) comes in
    let size : size_of (among_nodes 0) (item_of r) ≡ length (rec_bytes r) = law.size (among_nodes 0) r in
    let read : read_for (among_nodes 0) (item_of r) ≤ size_of (among_nodes 0) (item_of r) = law.within (among_nodes 0) (item_of r) in (
      opening-is c.opening_of.result _ c.ok_or.result k c.in-Ok.behind a.child.first c.ok_or.ensures.value (c.opening_of.ensures.told k same leaf) c.opening_of.ensures.behind
          (e.behind ∙ ap (λ i. a.child.first + size_of (among_nodes 0) i) same ∙ ap (λ n. a.child.first + n) size),
      PullsAtMost-more (read_for (among_nodes 0) (item_of r)) (length (rec_bytes r)) (g.F.Folder.numbers a.folder.now) (g.F.Folder.numbers c.read_opening.new.folder) (omega (arith, size, read)) (e.only (take a.child.end bytes) more (item_of r) front comes),
    ))

pub returns-in-Err-clause-told : goal.returns-in-Err-clause-told
returns-in-Err-clause-told g c = λ end bytes more k tells within stands ends is leaf. (
    let a = c.args in
    let law = c.records_give_their_items.ensures in
    let r = opening_rec k in
    let e = c.in-Err.ensures in
    let leads = opening-leads k in
    let comes = opening-comes bytes more a.child.first a.child.end k leads.0 stands ends (law.next (among_nodes 0) leads.0 r more is leads.1) in
    let front = front-less (g.F.Folder.files a.folder.now) a.ask.now.name.now bytes end a.child.end tells within in
    let size : size_of (among_nodes 0) (item_of r) ≡ length (rec_bytes r) = law.size (among_nodes 0) r in
    let read : read_for (among_nodes 0) (item_of r) ≤ size_of (among_nodes 0) (item_of r) = law.within (among_nodes 0) (item_of r) in (
      never-none c.in-Err.fault _ (item_of r, more) comes (e.told (take a.child.end bytes) front),
      PullsAtMost-more (read_for (among_nodes 0) (item_of r)) (length (rec_bytes r)) (g.F.Folder.numbers a.folder.now) (g.F.Folder.numbers c.read_opening.new.folder) (omega (arith, size, read)) (e.only (take a.child.end bytes) more (item_of r) front comes),
    ))
