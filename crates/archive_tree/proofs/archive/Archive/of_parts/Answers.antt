use Rattle.std.proofs.Common.{◌≡◌, ◌∙◌, ℕ, List, Bool, true, false, refl, ap, sym, true≢false}
use Rattle.archive_tree.specs.Data.{PlainArchive}
use Rattle.archive_tree.specs.PartsTest.{is_archive}
use Rattle.archive_tree.specs.View.{nodes_view}
use Rattle.archive_tree.specs.declared.node.ANode.{ANode}
use Rattle.archive_tree.proofs.Necessary.{necessary}
use Rattle.archive_tree.proofs.Rebuilt.{sufficient}
use Rattle.archive_tree.proofs.Tells.{archive_tells}
use Rattle.archive_tree.proofs.archive.Archive.of_parts.Goals as goal

told : (n : ℕ) (ks js : List ANode) (b v : Bool) → js ≡ ks → b ≡ is_archive (record { n = n; kids = nodes_view js }) → b ≡ v → is_archive (record { n = n; kids = nodes_view ks }) ≡ v
told n ks js b v e f g = ap (λ z. is_archive (record { n = n; kids = nodes_view z })) (sym e) ∙ sym f ∙ g

pub invariant_of-result : goal.invariant_of-result
invariant_of-result c =
    let a : PlainArchive = record { n = c.args.n; kids = nodes_view c.args.kids.items } in
    let passed = told c.args.n c.args.kids.items _ _ true c.deref.ensures.value c.in_ok-are_archive_parts.ensures c.if-branch.true in
    record { stands = ∣ sufficient a ((archive_tells a).0 passed) ∣₁; well_formed = c.requires }

pub returns-then-branch-clause-conditions : goal.returns-then-branch-clause-conditions
returns-then-branch-clause-conditions c =
    let a : PlainArchive = record { n = c.args.n; kids = nodes_view c.args.kids.items } in
    let passed = told c.args.n c.args.kids.items _ _ true c.deref.ensures.value c.in_ok-are_archive_parts.ensures c.if-branch.true in
    (λ h. (archive_tells a).0 passed, λ h. refl)

pub returns-else-branch-clause-none : goal.returns-else-branch-clause-none
returns-else-branch-clause-none c = λ vs h.
    let a : PlainArchive = record { n = c.args.n; kids = nodes_view c.args.kids.items } in
    let failed = told c.args.n c.args.kids.items _ _ false c.deref.ensures.value c.in_ok-are_archive_parts.ensures c.if-branch.false in
    true≢false (sym ((archive_tells a).1 (necessary vs a h)) ∙ failed)

pub returns-else-branch-clause-conditions : goal.returns-else-branch-clause-conditions
returns-else-branch-clause-conditions c =
    let a : PlainArchive = record { n = c.args.n; kids = nodes_view c.args.kids.items } in
    let failed = told c.args.n c.args.kids.items _ _ false c.deref.ensures.value c.in_ok-are_archive_parts.ensures c.if-branch.false in
    (λ h. absurd (true≢false (sym h)), λ h. absurd (true≢false (sym ((archive_tells a).1 h) ∙ failed)))
