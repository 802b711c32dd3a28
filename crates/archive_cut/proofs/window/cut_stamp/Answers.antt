use Rattle.std.proofs.Common.{◌≡◌, ℕ, List, Some, None, true≢false, sym, ap, refl, ◌∙◌}
use Rattle.std.specs.Option.{option_map}
use Rattle.version_set.specs.View.{pairs_of}
use Rattle.archive_tree.specs.Data.{Stamp}
use Rattle.archive_tree.specs.View.{stamp_view}
use Rattle.archive_cut.specs.Sliced.{cut_set}
use Rattle.archive_cut.specs.Windows.{set_left}
use Rattle.archive_cut.proofs.Sets.{none_is, same_is, other_is}
use Rattle.archive_cut.proofs.window.cut_stamp.Goals.{then-count-eq0, else-count-eq0}
use Rattle.archive_cut.proofs.window.cut_stamp.Goals as goal

inherited : (i j : ℕ) (now : List (ℕ × ℕ)) (s : Stamp) → s ≡ None → set_left i j now s ≡ now
inherited i j now s e = ap (set_left i j now) e

stored : (i j : ℕ) (now t left : List (ℕ × ℕ)) (s : Stamp) → s ≡ Some t → left ≡ cut_set i j t → set_left i j now s ≡ left
stored i j now t left s e is = ap (set_left i j now) e ∙ sym is

pub returns-in-None : goal.returns-in-None
returns-in-None c =
    let w = c.args.window.now in
    let now = pairs_of c.args.now.now in
    let s = stamp_view c.args.stamp.now in
    let same = inherited w.first w.last now s (ap stamp_view c.in-None.is) in
    let n = c.args.now.now in
    elim c.if-count-eq0.branch [
      | then-count-eq0 b ↦ ap (λ z. option_map stamp_view z) b.result-is ∙ sym (none_is w.first w.last now s now same n.canonical (sym c.count.ensures ∙ b.if-count-eq0.true))
      | else-count-eq0 b ↦ ap (λ z. option_map stamp_view z) b.result-is ∙ sym (same_is w.first w.last now s now same n.canonical (λ e. b.if-count-eq0.false (c.count.ensures ∙ e)) refl)
    ]

pub returns-then-count-eq0-2 : goal.returns-then-count-eq0-2
returns-then-count-eq0-2 c =
    let w = c.args.window.now in
    let now = pairs_of c.args.now.now in
    let s = stamp_view c.args.stamp.now in
    let l = c.in_ok-left-in-Some in
    let same = stored w.first w.last now (pairs_of c.in-Some.set) (pairs_of l.left) s (ap stamp_view c.in-Some.is) l.ensures in
    let n = l.left in
    sym (none_is w.first w.last now s (pairs_of l.left) same n.canonical (sym c.count-2.ensures ∙ c.if-count-eq0-2.true))

pub returns-then-same : goal.returns-then-same
returns-then-same c =
    let w = c.args.window.now in
    let now = pairs_of c.args.now.now in
    let s = stamp_view c.args.stamp.now in
    let l = c.in_ok-left-in-Some in
    let same = stored w.first w.last now (pairs_of c.in-Some.set) (pairs_of l.left) s (ap stamp_view c.in-Some.is) l.ensures in
    let n = l.left in
    sym (same_is w.first w.last now s (pairs_of l.left) same n.canonical (λ e. c.if-count-eq0-2.false (c.count-2.ensures ∙ e)) (c.same.ensures.pairs.0 c.if-same.true))

pub returns : goal.returns
returns c =
    let w = c.args.window.now in
    let now = pairs_of c.args.now.now in
    let s = stamp_view c.args.stamp.now in
    let l = c.in_ok-left-in-Some in
    let same = stored w.first w.last now (pairs_of c.in-Some.set) (pairs_of l.left) s (ap stamp_view c.in-Some.is) l.ensures in
    let n = l.left in
    let p = c.args.now.now in
    sym (other_is w.first w.last now s (pairs_of l.left) same n.canonical (λ e. c.if-count-eq0-2.false (c.count-2.ensures ∙ e)) (λ e. true≢false (sym (c.same.ensures.pairs.1 e) ∙ c.if-same.false)) p.canonical)
