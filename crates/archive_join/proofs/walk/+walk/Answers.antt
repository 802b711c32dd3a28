use Rattle.std.proofs.Common.{rules, ◌≡◌, ℕ, ◌<◌, ◌*◌, ◌+◌, ◌-◌, Option, Some, None, Ok, Err, Bool, true, false, refl, sym, ap, subst, ◌∙◌, arith}
use Rattle.std.specs.Option.{option_map}
use Rattle.std.specs.declared.cmp.Ordering.TheVariants.{Less, Equal, Greater}
use Rattle.archive_tree.specs.View.{stamp_view}
use Rattle.record_copy.specs.Faults as copy
use Rattle.record_copy.specs.Parts.{head_view}
use Rattle.record_copy.specs.Passes.{IsOpen}
use Rattle.record_copy.specs.declared.kind.Kind.{Kind}
use Rattle.record_copy.specs.declared.kind.Kind.TheVariants.{Inner}
use Rattle.record_copy.proofs.Passing.{at-err}
use Rattle.record_copy.proofs.Running.{written, called, call-sends}
use Rattle.record_cursor.specs.View.{PlainCursor}
use Rattle.record_writer.specs.Data.{call_end_inner}
use Rattle.record_writer.specs.View.{writer_view}
use Rattle.record_writer.specs.declared.writer.Writer.{Writer}
use Rattle.version_set.specs.View.{pairs_of}
use Rattle.archive_join.specs.Faults.{fault_of, of_side}
use Rattle.archive_join.specs.Heads.{PassedAlone, one_of, turn, two_of}
use Rattle.archive_join.specs.State.{State, state, with_first}
use Rattle.archive_join.specs.Walked.{InsideJoined, InnerJoined, NodeJoined, PairJoined, RowJoined, TurnJoined}
use Rattle.archive_join.specs.declared.fault.JoinFault.{JoinFault}
use Rattle.archive_join.specs.declared.fault.JoinFault.TheVariants.{Memory}
use Rattle.archive_join.proofs.Running.{side-fault}
use Rattle.archive_join.proofs.JoinNodes.{PairPut, inner-closed, inner-fault, node-joined, node-memory, node-open, node-stopped, pair-fault, pair-put, put-joined, put-stopped}
use Rattle.archive_join.proofs.JoinWalking.{moreover, rest-done, rest-fault, row-stopped, rows-on, rows-start, side-none, turn-both, turn-first, turn-none, turn-second}
use Rattle.archive_join.proofs.Turning.{all_first, all_second, equal_first, equal_second, no_turn, some_turn}
use Rattle.archive_join.proofs.walk.+walk.Given.{Over}
use Rattle.archive_join.proofs.walk.+walk.Goals.{join_pair-in-Some-Some+in_ok-join_node, join_pair-in-Some+in-None-1, join_pair-in-None-1}
use Rattle.archive_join.proofs.walk.+walk.Goals as goal

abbrev at : (g : Over) → g.row.F.Denot → PlainCursor → PlainCursor → Writer → State
at g = (let f = g.F.Folder in state f.files f.draft f.numbers f.faults)

-- ---- the inside of a node

pub join_begun-returns-in_err-join_row-in-Inner : goal.join_begun-returns-in_err-join_row-in-Inner
join_begun-returns-in_err-join_row-in-Inner g t c =
    let n = c.args.sides.now.two.by in
    let own = c.args.own.now in
    let p = pairs_of own.one in
    let q = pairs_of own.two in
    let both = pairs_of own.both in
    let s = at g c.args.folder.now c.args.left.now c.args.right.now c.args.writer.now in
    let m = at g c.join_row.new.folder c.join_row.new.left c.join_row.new.right c.join_row.new.writer in
    let e = c.in_err-join_row-in-Inner in
    subst (λ (k : Kind). InsideJoined k n p q both s m (fault_of c.from_residual.result)) (sym c.in-Inner.is)
    (at-err c.from_residual.result e.field-0.0 c.from_residual.ensures.1 (λ r. InnerJoined n p q both s m (fault_of r)) (inner-fault n p q both s m e.field-0.0 e.ensures))

pub join_begun-returns-in_ok-join_row-in-Inner : goal.join_begun-returns-in_ok-join_row-in-Inner
join_begun-returns-in_ok-join_row-in-Inner g t c =
    let f = g.F.Folder in
    let n = c.args.sides.now.two.by in
    let own = c.args.own.now in
    let p = pairs_of own.one in
    let q = pairs_of own.two in
    let both = pairs_of own.both in
    let s = at g c.args.folder.now c.args.left.now c.args.right.now c.args.writer.now in
    let m = at g c.join_row.new.folder c.join_row.new.left c.join_row.new.right c.join_row.new.writer in
    let u = at g c.end_inner.new.folder c.join_row.new.left c.join_row.new.right c.end_inner.new.self in
    let row : RowJoined n p q both s m None = c.in_ok-join_row-in-Inner.ensures in
    let run = row.run in
    let passes = run.passes in
    let left = passes.first in
    let right = passes.second in
    let e = c.end_inner.ensures in
    let stands : IsOpen Inner s.writer = subst (λ (k : Kind). IsOpen k s.writer) c.in-Inner.is c.requires.stands in
    let sent = call-sends f.files f.draft f.numbers f.faults c.join_row.new.folder c.end_inner.new.folder c.join_row.new.left c.join_row.new.writer c.end_inner.new.self call_end_inner c.end_inner.result (g.met.F.Folder.metered c.join_row.new.folder) left.within e.folder e.after e.too_long in
    let same : option_map (of_side false) (written c.end_inner.result) ≡ fault_of c.of_side.result = ap (option_map (of_side false)) (called c.end_inner.result c.written.result c.written.ensures) ∙ sym (side-fault false c.written.result c.of_side.result c.of_side.ensures) in
    subst (λ (k : Kind). InsideJoined k n p q both s u (fault_of c.of_side.result)) (sym c.in-Inner.is)
    (subst (λ (o : Option JoinFault). InnerJoined n p q both s u o) same (inner-closed n p q both s m u stands.1 row right.within refl (written c.end_inner.result) sent))

-- ---- a node that both have

pub join_node-returns-in_err-stamp : goal.join_node-returns-in_err-stamp
join_node-returns-in_err-stamp g t c =
    let n = c.args.sides.now.two.by in
    let sets = c.args.sets.now in
    let p = pairs_of sets.one in
    let q = pairs_of sets.two in
    let both = pairs_of sets.both in
    let one = head_view c.args.one.now in
    let two = head_view c.args.two.now in
    let s = at g c.args.folder.now c.args.left.now c.args.right.now c.args.writer.now in
    let r = c.from_residual in
    at-err r.result Memory r.ensures.1 (λ d. NodeJoined n p q both one two s s (fault_of d)) (node-memory n p q both one two s (g.met.F.Folder.metered c.args.folder.now) c.requires.left c.requires.right)

pub join_node-returns-in_err-own : goal.join_node-returns-in_err-own
join_node-returns-in_err-own g t c =
    let n = c.args.sides.now.two.by in
    let sets = c.args.sets.now in
    let p = pairs_of sets.one in
    let q = pairs_of sets.two in
    let both = pairs_of sets.both in
    let one = head_view c.args.one.now in
    let two = head_view c.args.two.now in
    let s = at g c.args.folder.now c.args.left.now c.args.right.now c.args.writer.now in
    let r = c.from_residual-in_err-own in
    at-err r.result Memory r.ensures.1 (λ d. NodeJoined n p q both one two s s (fault_of d)) (node-memory n p q both one two s (g.met.F.Folder.metered c.args.folder.now) c.requires.left c.requires.right)

pub join_node-returns-in_err-of_side : goal.join_node-returns-in_err-of_side
join_node-returns-in_err-of_side g t c =
    let n = c.args.sides.now.two.by in
    let sets = c.args.sets.now in
    let p = pairs_of sets.one in
    let q = pairs_of sets.two in
    let both = pairs_of sets.both in
    let one = head_view c.args.one.now in
    let two = head_view c.args.two.now in
    let s = at g c.args.folder.now c.args.left.now c.args.right.now c.args.writer.now in
    let m = at g c.begin_node.new.folder c.args.left.now c.args.right.now c.begin_node.new.writer in
    let stamp = c.in_ok-stamp in
    let own = c.in_ok-own in
    let e = c.in_err-of_side in
    let r = c.from_residual-in_err-of_side in
    at-err r.result e.field-0.0 r.ensures.1 (λ d. NodeJoined n p q both one two s m (fault_of d))
    (node-stopped n p q both one two sets.whole c.requires.kind (stamp_view stamp.stamp) (pairs_of own.own.one) (pairs_of own.own.two) (pairs_of own.own.both) stamp.ensures own.ensures.one own.ensures.two own.ensures.both s m c.requires.right refl
    (copy.fault_of c.begin_node.result) e.field-0.0 (side-fault false c.begin_node.result (Err e.field-0.0) e.ensures) (c.begin_node.ensures c.args.left.now c.requires.left))

pub join_node-join_begun-requires : goal.join_node-join_begun-requires
join_node-join_begun-requires g t c κs within =
    let sets = c.args.sets.now in
    let left = c.args.left.now in
    let right = c.args.right.now in
    let one = head_view c.args.one.now in
    let two = head_view c.args.two.now in
    let s = at g c.args.folder.now left right c.args.writer.now in
    let m = at g c.begin_node.new.folder left right c.begin_node.new.writer in
    let stamp = c.in_ok-stamp in
    let own = c.in_ok-own in
    let none = side-none false (copy.fault_of c.begin_node.result) (side-fault false c.begin_node.result (Ok c.in_ok-of_side.field-0) c.in_ok-of_side.ensures) in
    let less : 5 * ((left.length - left.at) + (right.length - right.at)) + 1 < t = omega (arith, c.decreases) in
    let stands = node-open c.args.sides.now.two.by (pairs_of sets.one) (pairs_of sets.two) (pairs_of sets.both) one two sets.whole c.requires.kind (stamp_view stamp.stamp) (pairs_of own.own.one) (pairs_of own.own.two) (pairs_of own.own.both) stamp.ensures own.ensures.one own.ensures.two own.ensures.both s m c.requires.right refl
    (copy.fault_of c.begin_node.result) none (c.begin_node.ensures left c.requires.left) c.requires.no_leaf in
    (less, (within, (c.requires.left, (c.requires.right, stands))))

pub join_node-returns : goal.join_node-returns
join_node-returns g t c =
    let n = c.args.sides.now.two.by in
    let sets = c.args.sets.now in
    let p = pairs_of sets.one in
    let q = pairs_of sets.two in
    let both = pairs_of sets.both in
    let one = head_view c.args.one.now in
    let two = head_view c.args.two.now in
    let s = at g c.args.folder.now c.args.left.now c.args.right.now c.args.writer.now in
    let m = at g c.begin_node.new.folder c.args.left.now c.args.right.now c.begin_node.new.writer in
    let u = at g c.join_begun.new.folder c.join_begun.new.left c.join_begun.new.right c.join_begun.new.writer in
    let stamp = c.in_ok-stamp in
    let own = c.in_ok-own in
    let none = side-none false (copy.fault_of c.begin_node.result) (side-fault false c.begin_node.result (Ok c.in_ok-of_side.field-0) c.in_ok-of_side.ensures) in
    node-joined n p q both one two sets.whole c.requires.kind (stamp_view stamp.stamp) (pairs_of own.own.one) (pairs_of own.own.two) (pairs_of own.own.both) stamp.ensures own.ensures.one own.ensures.two own.ensures.both s m c.requires.right refl
    (copy.fault_of c.begin_node.result) none (c.begin_node.ensures c.args.left.now c.requires.left) u (fault_of c.join_begun.result) c.join_begun.ensures

-- ---- the node that both have next

pub join_pair-returns-in_err-join_node : goal.join_pair-returns-in_err-join_node
join_pair-returns-in_err-join_node g t c =
    let n = c.args.sides.now.two.by in
    let sets = c.args.sets.now in
    let p = pairs_of sets.one in
    let q = pairs_of sets.two in
    let both = pairs_of sets.both in
    let one = one_of c.args.heads.now in
    let two = two_of c.args.heads.now in
    let s = at g c.args.folder.now c.args.left.now c.args.right.now c.args.writer.now in
    let new = c.join_node.new in
    let m = at g new.folder new.left new.right new.writer in
    let i = c.in-Some-Some in
    let e = c.in_err-join_node in
    at-err c.from_residual.result e.field-0.0 c.from_residual.ensures.1 (λ r. PairJoined n p q both one two one two s m (fault_of r))
    (pair-fault n p q both one two (head_view i.one) (head_view i.two) (ap (option_map head_view) i.is-0) (ap (option_map head_view) i.is-1) s m e.field-0.0 e.ensures)

pub join_pair-returns-in_err-heads : goal.join_pair-returns-in_err-heads
join_pair-returns-in_err-heads g t c =
    let n = c.args.sides.now.two.by in
    let sets = c.args.sets.now in
    let p = pairs_of sets.one in
    let q = pairs_of sets.two in
    let both = pairs_of sets.both in
    let one = one_of c.args.heads.now in
    let two = two_of c.args.heads.now in
    let s = at g c.args.folder.now c.args.left.now c.args.right.now c.args.writer.now in
    let b = c.match-heads in
    let m = at g b.folder b.left b.right b.writer in
    let put : PairPut n p q both one two s m = elim c.match-heads.branch [
      | join_pair-in-Some-Some+in_ok-join_node w ↦ (
          let i = w.in-Some-Some in
          let new = w.join_node.new in
          let x = w.folder-is in
          let y = w.left-is in
          let z = w.right-is in
          let v = w.writer-is in
          pair-put n p q both one two (head_view i.one) (head_view i.two) s (at g new.folder new.left new.right new.writer) m (ap (option_map head_view) i.is-0) (ap (option_map head_view) i.is-1) (λ k. at g (x k) (y k) (z k) (v k)) w.in_ok-join_node.ensures)
      | join_pair-in-Some+in-None-1 w ↦ (let none : c.args.heads.now.two ≡ None = search rules in absurd (equal_second one two c.requires.pair (ap (option_map head_view) none)))
      | join_pair-in-None-1 w ↦ (let none : c.args.heads.now.one ≡ None = search rules in absurd (equal_first one two c.requires.pair (ap (option_map head_view) none)))
    ] in
    let same : b.heads ≡ c.args.heads.now = elim c.match-heads.branch [
      | join_pair-in-Some-Some+in_ok-join_node w ↦ w.heads-is
      | join_pair-in-Some+in-None-1 w ↦ w.heads-is
      | join_pair-in-None-1 w ↦ w.heads-is
    ] in
    let new = c.read_heads.new in
    let u = at g new.folder new.left new.right b.writer in
    let e = c.in_err-heads in
    let r = c.from_residual-in_err-heads in
    at-err r.result e.field-0.0 r.ensures.1 (λ d. PairJoined n p q both one two (one_of b.heads) (two_of b.heads) s u (fault_of d))
    (put-stopped n p q both one two s m u refl put (one_of b.heads) (two_of b.heads) e.field-0.0 (ap one_of same) (ap two_of same) (e.ensures (writer_view b.writer)))

pub join_pair-returns : goal.join_pair-returns
join_pair-returns g t c =
    let n = c.args.sides.now.two.by in
    let sets = c.args.sets.now in
    let p = pairs_of sets.one in
    let q = pairs_of sets.two in
    let both = pairs_of sets.both in
    let one = one_of c.args.heads.now in
    let two = two_of c.args.heads.now in
    let s = at g c.args.folder.now c.args.left.now c.args.right.now c.args.writer.now in
    let b = c.match-heads in
    let m = at g b.folder b.left b.right b.writer in
    let put : PairPut n p q both one two s m = elim c.match-heads.branch [
      | join_pair-in-Some-Some+in_ok-join_node w ↦ (
          let i = w.in-Some-Some in
          let new = w.join_node.new in
          let x = w.folder-is in
          let y = w.left-is in
          let z = w.right-is in
          let v = w.writer-is in
          pair-put n p q both one two (head_view i.one) (head_view i.two) s (at g new.folder new.left new.right new.writer) m (ap (option_map head_view) i.is-0) (ap (option_map head_view) i.is-1) (λ k. at g (x k) (y k) (z k) (v k)) w.in_ok-join_node.ensures)
      | join_pair-in-Some+in-None-1 w ↦ (let none : c.args.heads.now.two ≡ None = search rules in absurd (equal_second one two c.requires.pair (ap (option_map head_view) none)))
      | join_pair-in-None-1 w ↦ (let none : c.args.heads.now.one ≡ None = search rules in absurd (equal_first one two c.requires.pair (ap (option_map head_view) none)))
    ] in
    let new = c.read_heads.new in
    let u = at g new.folder new.left new.right b.writer in
    put-joined n p q both one two s m u refl put c.in_ok-heads.field-0 (c.in_ok-heads.ensures (writer_view b.writer))

-- ---- a row

pub join_row-returns-in_err-heads : goal.join_row-returns-in_err-heads
join_row-returns-in_err-heads g t c =
    let n = c.args.sides.now.two.by in
    let sets = c.args.sets.now in
    let p = pairs_of sets.one in
    let q = pairs_of sets.two in
    let both = pairs_of sets.both in
    let s = at g c.args.folder.now c.args.left.now c.args.right.now c.args.writer.now in
    let m = at g c.read_heads.new.folder c.read_heads.new.left c.read_heads.new.right c.args.writer.now in
    let e = c.in_err-heads in
    at-err c.from_residual.result e.field-0.0 c.from_residual.ensures.1 (λ r. RowJoined n p q both s m (fault_of r)) (row-stopped n p q both s m refl e.field-0.0 (e.ensures (writer_view c.args.writer.now)))

pub join_row-loop-heads-init : goal.join_row-loop-heads-init
join_row-loop-heads-init g t c =
    let sets = c.args.sets.now in
    let s = at g c.args.folder.now c.args.left.now c.args.right.now c.args.writer.now in
    let m = at g c.read_heads.new.folder c.read_heads.new.left c.read_heads.new.right c.args.writer.now in
    rows-start c.args.sides.now.two.by (pairs_of sets.one) (pairs_of sets.two) (pairs_of sets.both) s m c.in_ok-heads.heads refl c.requires.no_leaf (c.in_ok-heads.ensures (writer_view c.args.writer.now))

pub join_row-returns-in_err-join_turn : goal.join_row-returns-in_err-join_turn
join_row-returns-in_err-join_turn g t c =
    let n = c.args.sides.now.two.by in
    let sets = c.args.sets.now in
    let p = pairs_of sets.one in
    let q = pairs_of sets.two in
    let both = pairs_of sets.both in
    let s = at g c.args.folder.now c.args.left.now c.args.right.now c.args.writer.now in
    let l = c.loop-heads in
    let new = c.join_turn.new in
    let m = at g l.folder l.left l.right l.writer in
    let u = at g new.folder new.left new.right new.writer in
    let e = c.in_err-join_turn in
    at-err c.from_residual-in_err-join_turn.result e.field-0.0 c.from_residual-in_err-join_turn.ensures.1 (λ r. RowJoined n p q both s u (fault_of r))
    (l.invariant.rest u (Some e.field-0.0) (rest-fault n p q both (one_of l.heads) (two_of l.heads) (one_of new.heads) (two_of new.heads) m u e.field-0.0 e.ensures))

pub join_row-loop-heads-preserved : goal.join_row-loop-heads-preserved
join_row-loop-heads-preserved g t c =
    let n = c.args.sides.now.two.by in
    let sets = c.args.sets.now in
    let p = pairs_of sets.one in
    let q = pairs_of sets.two in
    let both = pairs_of sets.both in
    let s = at g c.args.folder.now c.args.left.now c.args.right.now c.args.writer.now in
    let l = c.loop-heads in
    let new = c.join_turn.new in
    let m = at g l.folder l.left l.right l.writer in
    let u = at g new.folder new.left new.right new.writer in
    rows-on n p q both s m u (one_of l.heads) (two_of l.heads) (one_of new.heads) (two_of new.heads) l.invariant
    (subst (λ (more : Bool). TurnJoined n p q both (one_of l.heads) (two_of l.heads) (one_of new.heads) (two_of new.heads) m u (Ok more)) c.if-branch.true c.in_ok-join_turn.ensures)

pub join_row-returns : goal.join_row-returns
join_row-returns g t c =
    let n = c.args.sides.now.two.by in
    let sets = c.args.sets.now in
    let p = pairs_of sets.one in
    let q = pairs_of sets.two in
    let both = pairs_of sets.both in
    let l = c.loop-heads in
    let new = c.join_turn.new in
    let m = at g l.folder l.left l.right l.writer in
    let u = at g new.folder new.left new.right new.writer in
    l.invariant.rest u None (rest-done n p q both (one_of l.heads) (two_of l.heads) (one_of new.heads) (two_of new.heads) m u
    (subst (λ (more : Bool). TurnJoined n p q both (one_of l.heads) (two_of l.heads) (one_of new.heads) (two_of new.heads) m u (Ok more)) c.if-branch.false c.in_ok-join_turn.ensures))

-- ---- a turn

pub join_turn-returns-in-None : goal.join_turn-returns-in-None
join_turn-returns-in-None g t c =
    let n = c.args.sides.now.two.by in
    let sets = c.args.sets.now in
    let p = pairs_of sets.one in
    let q = pairs_of sets.two in
    let both = pairs_of sets.both in
    let one = one_of c.args.heads.now in
    let two = two_of c.args.heads.now in
    let s = at g c.args.folder.now c.args.left.now c.args.right.now c.args.writer.now in
    turn-none n p q both one two s (g.met.F.Folder.metered c.args.folder.now) c.requires.left c.requires.right c.requires.no_leaf (no_turn one two c.next_of.result c.next_of.ensures c.in-None.is)

pub join_turn-returns-in_err-of_side-in-Some-Less : goal.join_turn-returns-in_err-of_side-in-Some-Less
join_turn-returns-in_err-of_side-in-Some-Less g t c =
    let n = c.args.sides.now.two.by in
    let sets = c.args.sets.now in
    let p = pairs_of sets.one in
    let q = pairs_of sets.two in
    let both = pairs_of sets.both in
    let one = one_of c.args.heads.now in
    let two = two_of c.args.heads.now in
    let s = at g c.args.folder.now c.args.left.now c.args.right.now c.args.writer.now in
    let z = c.pass_alone-passed in
    let new = z.new in
    let now = option_map head_view new.head in
    let u = at g new.folder new.cursor c.args.right.now new.writer in
    let less : turn one two ≡ Some Less = some_turn one two c.next_of.result c.in-Some-Less.field-0 Less c.next_of.ensures c.in-Some-Less.is c.in-Some-Less.field-0-is in
    let passed = subst (λ (k : ℕ). PassedAlone k p q one now (with_first s) (with_first u) (copy.fault_of z.result)) c.args.sides.now.first z.ensures in
    let e = c.in_err-of_side-in-Some-Less in
    let r = c.from_residual in
    at-err r.result e.field-0.0 r.ensures.1 (λ d. TurnJoined n p q both one two now two s u d)
    (subst (λ (o : Option JoinFault). TurnJoined n p q both one two now two s u (moreover o)) (sym (side-fault false z.result (Err e.field-0.0) e.ensures))
    (turn-first n p q both one two now s u c.requires.right refl (all_first p q both sets.one.canonical sets.whole) less (copy.fault_of z.result) passed))

pub join_turn-returns-in_ok-of_side-in-Some-Less : goal.join_turn-returns-in_ok-of_side-in-Some-Less
join_turn-returns-in_ok-of_side-in-Some-Less g t c =
    let n = c.args.sides.now.two.by in
    let sets = c.args.sets.now in
    let p = pairs_of sets.one in
    let q = pairs_of sets.two in
    let both = pairs_of sets.both in
    let one = one_of c.args.heads.now in
    let two = two_of c.args.heads.now in
    let s = at g c.args.folder.now c.args.left.now c.args.right.now c.args.writer.now in
    let z = c.pass_alone-passed in
    let new = z.new in
    let now = option_map head_view new.head in
    let u = at g new.folder new.cursor c.args.right.now new.writer in
    let less : turn one two ≡ Some Less = some_turn one two c.next_of.result c.in-Some-Less.field-0 Less c.next_of.ensures c.in-Some-Less.is c.in-Some-Less.field-0-is in
    let passed = subst (λ (k : ℕ). PassedAlone k p q one now (with_first s) (with_first u) (copy.fault_of z.result)) c.args.sides.now.first z.ensures in
    let e = c.in_ok-of_side-in-Some-Less in
    subst (λ (o : Option JoinFault). TurnJoined n p q both one two now two s u (moreover o)) (sym (side-fault false z.result (Ok e.field-0) e.ensures))
    (turn-first n p q both one two now s u c.requires.right refl (all_first p q both sets.one.canonical sets.whole) less (copy.fault_of z.result) passed)

pub join_turn-returns-in_err-of_side-in-Some-Greater : goal.join_turn-returns-in_err-of_side-in-Some-Greater
join_turn-returns-in_err-of_side-in-Some-Greater g t c =
    let n = c.args.sides.now.two.by in
    let sets = c.args.sets.now in
    let p = pairs_of sets.one in
    let q = pairs_of sets.two in
    let both = pairs_of sets.both in
    let one = one_of c.args.heads.now in
    let two = two_of c.args.heads.now in
    let s = at g c.args.folder.now c.args.left.now c.args.right.now c.args.writer.now in
    let z = c.pass_alone-passed-in-Some-Greater in
    let new = z.new in
    let now = option_map head_view new.head in
    let u = at g new.folder c.args.left.now new.cursor new.writer in
    let greater : turn one two ≡ Some Greater = some_turn one two c.next_of.result c.in-Some-Greater.field-0 Greater c.next_of.ensures c.in-Some-Greater.is c.in-Some-Greater.field-0-is in
    let e = c.in_err-of_side-in-Some-Greater in
    let r = c.from_residual-in_err-of_side-in-Some-Greater in
    at-err r.result e.field-0.0 r.ensures.1 (λ d. TurnJoined n p q both one two one now s u d)
    (subst (λ (o : Option JoinFault). TurnJoined n p q both one two one now s u (moreover o)) (sym (side-fault true z.result (Err e.field-0.0) e.ensures))
    (turn-second n p q both one two now s u c.requires.left refl (all_second p q both sets.two.canonical sets.whole) greater (copy.fault_of z.result) z.ensures))

pub join_turn-returns-in_ok-of_side-in-Some-Greater : goal.join_turn-returns-in_ok-of_side-in-Some-Greater
join_turn-returns-in_ok-of_side-in-Some-Greater g t c =
    let n = c.args.sides.now.two.by in
    let sets = c.args.sets.now in
    let p = pairs_of sets.one in
    let q = pairs_of sets.two in
    let both = pairs_of sets.both in
    let one = one_of c.args.heads.now in
    let two = two_of c.args.heads.now in
    let s = at g c.args.folder.now c.args.left.now c.args.right.now c.args.writer.now in
    let z = c.pass_alone-passed-in-Some-Greater in
    let new = z.new in
    let now = option_map head_view new.head in
    let u = at g new.folder c.args.left.now new.cursor new.writer in
    let greater : turn one two ≡ Some Greater = some_turn one two c.next_of.result c.in-Some-Greater.field-0 Greater c.next_of.ensures c.in-Some-Greater.is c.in-Some-Greater.field-0-is in
    let e = c.in_ok-of_side-in-Some-Greater in
    subst (λ (o : Option JoinFault). TurnJoined n p q both one two one now s u (moreover o)) (sym (side-fault true z.result (Ok e.field-0) e.ensures))
    (turn-second n p q both one two now s u c.requires.left refl (all_second p q both sets.two.canonical sets.whole) greater (copy.fault_of z.result) z.ensures)

pub join_turn-returns-in_err-join_pair-in-Some-Equal : goal.join_turn-returns-in_err-join_pair-in-Some-Equal
join_turn-returns-in_err-join_pair-in-Some-Equal g t c =
    let n = c.args.sides.now.two.by in
    let sets = c.args.sets.now in
    let p = pairs_of sets.one in
    let q = pairs_of sets.two in
    let both = pairs_of sets.both in
    let one = one_of c.args.heads.now in
    let two = two_of c.args.heads.now in
    let s = at g c.args.folder.now c.args.left.now c.args.right.now c.args.writer.now in
    let new = c.join_pair.new in
    let u = at g new.folder new.left new.right new.writer in
    let equal : turn one two ≡ Some Equal = some_turn one two c.next_of.result c.in-Some-Equal.field-0 Equal c.next_of.ensures c.in-Some-Equal.is c.in-Some-Equal.field-0-is in
    let e = c.in_err-join_pair-in-Some-Equal in
    let r = c.from_residual-in_err-join_pair-in-Some-Equal in
    at-err r.result e.field-0.0 r.ensures.1 (λ d. TurnJoined n p q both one two (one_of new.heads) (two_of new.heads) s u d)
    (turn-both n p q both one two (one_of new.heads) (two_of new.heads) s u equal (Some e.field-0.0) e.ensures)

pub join_turn-returns-in_ok-join_pair-in-Some-Equal : goal.join_turn-returns-in_ok-join_pair-in-Some-Equal
join_turn-returns-in_ok-join_pair-in-Some-Equal g t c =
    let n = c.args.sides.now.two.by in
    let sets = c.args.sets.now in
    let p = pairs_of sets.one in
    let q = pairs_of sets.two in
    let both = pairs_of sets.both in
    let one = one_of c.args.heads.now in
    let two = two_of c.args.heads.now in
    let s = at g c.args.folder.now c.args.left.now c.args.right.now c.args.writer.now in
    let new = c.join_pair.new in
    let u = at g new.folder new.left new.right new.writer in
    let equal : turn one two ≡ Some Equal = some_turn one two c.next_of.result c.in-Some-Equal.field-0 Equal c.next_of.ensures c.in-Some-Equal.is c.in-Some-Equal.field-0-is in
    turn-both n p q both one two (one_of new.heads) (two_of new.heads) s u equal None c.in_ok-join_pair-in-Some-Equal.ensures
