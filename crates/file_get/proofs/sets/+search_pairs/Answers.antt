use Rattle.std.proofs.Common.{◌≡◌, ℕ, length, Option, ◌+◌, ◌-◌, ◌*◌, ◌/◌, ◌<◌, ◌≤◌, sym, subst, arith}
use Rattle.xa_outside.specs.Folder.{Files}
use Rattle.xa_outside.specs.Numbers.{PullsAtMost}
use Rattle.xa_outside.specs.NumberLaws.{PullsAtMost-more, PullsAtMost-trans}
use Rattle.record_cursor.specs.Moves.{TellsFront}
use Rattle.record_cursor.specs.Steps.{Filled}
use Rattle.file_get.specs.Searched.{searched}
use Rattle.file_get.proofs.SetSearch.{searched-few, searched-more, half-of, has-before, has-behind, has-within}
use Rattle.file_get.proofs.sets.+search_pairs.Goals as goal

pub returns-then-count-le-FEW-clause-pulls : goal.returns-then-count-le-FEW-clause-pulls
returns-then-count-le-FEW-clause-pulls g t c =
    let n = g.F.Folder.numbers in
    subst (λ (k : ℕ). PullsAtMost (8 * k) (n c.args.folder.now) (n c.read_few.new.folder)) (sym (searched-few c.args.count (omega (arith, c.if-count-le-FEW.true)))) c.read_few.ensures.pulls

pub returns-in-Err-clause-pulls : goal.returns-in-Err-clause-pulls
returns-in-Err-clause-pulls g t c =
    let n = g.F.Folder.numbers in
    let more = searched-more c.args.count (omega (arith, c.if-count-le-FEW.false)) in
    PullsAtMost-more 8 (8 * searched c.args.count) (n c.args.folder.now) (n c.read_pair.new.folder) (omega (arith, more)) c.in-Err.ensures.pulls

pub returns-in-Err-clause-told : goal.returns-in-Err-clause-told
returns-in-Err-clause-told g t c = λ last bytes s tells fits stands long set. (
    let told = g.F.Folder.files c.args.folder.now in
    let later = g.F.Folder.files c.read_pair.new.folder in
    let name = c.args.ask.now.name.now in
    let count = c.args.count in
    let h = half-of bytes c.args.at s (count / 2) (omega (arith, long, c.if-count-le-FEW.false)) stands set in
    c.in-Err.ensures.told last bytes h.p tells (omega (arith, fits, c.if-count-le-FEW.false)) h.stands h.first h.ordered h.last)

pub returns-then-ask-from-clause-pulls : goal.returns-then-ask-from-clause-pulls
returns-then-ask-from-clause-pulls g t c =
    let n = g.F.Folder.numbers in
    let more = searched-more c.args.count (omega (arith, c.if-count-le-FEW.false)) in
    PullsAtMost-more (8 + 8 * searched (c.args.count / 2)) (8 * searched c.args.count) (n c.args.folder.now) (n c.search_pairs.new.folder) (omega (arith, more))
    (PullsAtMost-trans 8 (8 * searched (c.args.count / 2)) (n c.args.folder.now) (n c.read_pair.new.folder) (n c.search_pairs.new.folder) c.in-Ok.ensures.pulls c.search_pairs.ensures.pulls)

pub returns-then-ask-from-clause-told : goal.returns-then-ask-from-clause-told
returns-then-ask-from-clause-told g t c = λ last bytes s tells fits stands long set. (
    let told = g.F.Folder.files c.args.folder.now in
    let later = g.F.Folder.files c.read_pair.new.folder in
    let name = c.args.ask.now.name.now in
    let count = c.args.count in
    let h = half-of bytes c.args.at s (count / 2) (omega (arith, long, c.if-count-le-FEW.false)) stands set in
    let pair = c.in-Ok.ensures.told last bytes h.p tells (omega (arith, fits, c.if-count-le-FEW.false)) h.stands h.first h.ordered h.last in
    let less : c.args.ask.now.version < h.p.0 = subst (λ (q : ℕ × ℕ). c.args.ask.now.version < q.0) pair c.if-ask-from.true in
    let on = subst (λ (f : Option Files). TellsFront f name last bytes) (sym c.in-Ok.ensures.reads.same_files) tells in
    subst (λ b. Filled c.search_pairs.result (λ x. x ≡ b)) (has-before bytes c.args.at s (count / 2) set h c.args.ask.now.version less)
    (c.search_pairs.ensures.told last bytes h.left on (omega (arith, fits)) h.left_stands h.left_count h.left_set))

pub returns-then-ask-to-clause-pulls : goal.returns-then-ask-to-clause-pulls
returns-then-ask-to-clause-pulls g t c =
    let n = g.F.Folder.numbers in
    let more = searched-more c.args.count (omega (arith, c.if-count-le-FEW.false)) in
    PullsAtMost-more 8 (8 * searched c.args.count) (n c.args.folder.now) (n c.read_pair.new.folder) (omega (arith, more)) c.in-Ok.ensures.pulls

pub returns-then-ask-to-clause-told : goal.returns-then-ask-to-clause-told
returns-then-ask-to-clause-told g t c = λ last bytes s tells fits stands long set. (
    let told = g.F.Folder.files c.args.folder.now in
    let later = g.F.Folder.files c.read_pair.new.folder in
    let name = c.args.ask.now.name.now in
    let count = c.args.count in
    let h = half-of bytes c.args.at s (count / 2) (omega (arith, long, c.if-count-le-FEW.false)) stands set in
    let pair = c.in-Ok.ensures.told last bytes h.p tells (omega (arith, fits, c.if-count-le-FEW.false)) h.stands h.first h.ordered h.last in
    let low : h.p.0 ≤ c.args.ask.now.version = subst (λ (q : ℕ × ℕ). q.0 ≤ c.args.ask.now.version) pair c.if-ask-from.false in
    let high : c.args.ask.now.version ≤ h.p.1 = subst (λ (q : ℕ × ℕ). c.args.ask.now.version ≤ q.1) pair c.if-ask-to.true in
    has-within bytes c.args.at s (count / 2) set h c.args.ask.now.version low high)

pub returns-clause-pulls : goal.returns-clause-pulls
returns-clause-pulls g t c =
    let n = g.F.Folder.numbers in
    let rest = c.args.count - c.args.count / 2 - 1 in
    let more = searched-more c.args.count (omega (arith, c.if-count-le-FEW.false)) in
    PullsAtMost-more (8 + 8 * searched rest) (8 * searched c.args.count) (n c.args.folder.now) (n c.search_pairs-2.new.folder) (omega (arith, more))
    (PullsAtMost-trans 8 (8 * searched rest) (n c.args.folder.now) (n c.read_pair.new.folder) (n c.search_pairs-2.new.folder) c.in-Ok.ensures.pulls c.search_pairs-2.ensures.pulls)

pub returns-clause-told : goal.returns-clause-told
returns-clause-told g t c = λ last bytes s tells fits stands long set. (
    let told = g.F.Folder.files c.args.folder.now in
    let later = g.F.Folder.files c.read_pair.new.folder in
    let name = c.args.ask.now.name.now in
    let count = c.args.count in
    let h = half-of bytes c.args.at s (count / 2) (omega (arith, long, c.if-count-le-FEW.false)) stands set in
    let pair = c.in-Ok.ensures.told last bytes h.p tells (omega (arith, fits, c.if-count-le-FEW.false)) h.stands h.first h.ordered h.last in
    let more : h.p.1 < c.args.ask.now.version = subst (λ (q : ℕ × ℕ). q.1 < c.args.ask.now.version) pair c.if-ask-to.false in
    let on = subst (λ (f : Option Files). TellsFront f name last bytes) (sym c.in-Ok.ensures.reads.same_files) tells in
    subst (λ b. Filled c.search_pairs-2.result (λ x. x ≡ b)) (has-behind bytes c.args.at s (count / 2) set h c.args.ask.now.version more)
    (c.search_pairs-2.ensures.told last bytes h.right on (omega (arith, fits, c.if-count-le-FEW.false)) h.right_stands (subst (λ (m : ℕ). m - count / 2 - 1 ≡ length h.right) (sym long) h.right_count) h.right_set))
