use Rattle.std.proofs.Common.{◌≡◌, ◌∙◌, ℕ, List, length, ap, sym, subst}
use Rattle.keyed_tree.specs.Data.{PlainKeyed}
use Rattle.key_spec.specs.Data.{PlainRule}
use Rattle.key_spec.specs.View.{spec_view}
use Rattle.archive_tree.specs.ArchiveView.{archive_view}
use Rattle.archive_tree.specs.Data.{PlainArchive}
use Rattle.archive_tree.specs.Stands.{ArchiveOf}
use Rattle.spelled_archive.specs.ArchiveView.{spelled_archive_view}
use Rattle.version_runs.specs.Runs.{AreStarts, versions_at}
use Rattle.version_runs.specs.Spread.{spread}
use Rattle.archive_rekey.specs.Progress.{Reaches}
use Rattle.archive_rekey.specs.Rekeyed.{IsArchiveUnder}
use Rattle.archive_rekey.proofs.RunVersions.{are-starts, reaches-runs, reaches-spread, spread-keyed}
use Rattle.archive_rekey.proofs.versions.rekey_spelled.Goals as goal

-- the same starts, as they are lent
runs-reached : (rules : List PlainRule) (ps qs : List ℕ) (vs : List PlainKeyed) (b : PlainArchive) → qs ≡ ps → Reaches rules (versions_at qs vs) (length qs) b → Reaches rules (versions_at ps vs) (length ps) b
runs-reached rules ps qs vs b e r = subst (λ (z : List ℕ). Reaches rules (versions_at z vs) (length z) b) e r

spread-at : (ps qs : List ℕ) (m n : ℕ) (a b : PlainArchive) → b ≡ spread qs m a → qs ≡ ps → m ≡ n → b ≡ spread ps n a
spread-at ps qs m n a b is e f = is ∙ ap (λ (z : List ℕ). spread z m a) e ∙ ap (λ (k : ℕ). spread ps k a) f

pub spread_archive-requires-clause-starts : goal.spread_archive-requires-clause-starts
spread_archive-requires-clause-starts c =
    let starts = c.in_ok-starts.starts.items in
    let at : AreStarts starts c.n-last.result = subst (AreStarts starts) (sym c.n-last.ensures) (are-starts starts (archive_view c.args.old.now) c.in_ok-starts.ensures) in
    subst (λ (z : List ℕ). AreStarts z c.n-last.result) (sym c.deref-2.ensures.value) at

pub spread_archive-requires-clause-count : goal.spread_archive-requires-clause-count
spread_archive-requires-clause-count c =
    let rules = spec_view c.args.spec.now in
    let starts = c.in_ok-starts.starts.items in
    let old = archive_view c.args.old.now in
    let made = spelled_archive_view c.in_ok-archive.archive in
    let kept = c.archives_stand_for_one_list.ensures.told old c.args.old.now.stands in
    let reached = runs-reached rules starts c.deref.result.now kept.versions made c.deref.ensures.value (c.in_ok-archive.ensures.archive kept.versions kept.is) in
    ap length c.deref-2.ensures.value ∙ reaches-runs rules starts kept.versions old made kept.is c.in_ok-starts.ensures reached

pub returns-in-Ok-clause-archive : goal.returns-in-Ok-clause-archive
returns-in-Ok-clause-archive c = λ vs is. (
    let rules = spec_view c.args.spec.now in
    let starts = c.in_ok-starts.starts.items in
    let old = archive_view c.args.old.now in
    let made = spelled_archive_view c.in_ok-archive.archive in
    let reached = runs-reached rules starts c.deref.result.now vs made c.deref.ensures.value (c.in_ok-archive.ensures.archive vs is) in
    let at = spread-at starts c.deref-2.result.now c.n-last.result old.n made (spelled_archive_view c.in-Ok.archive) c.in-Ok.ensures c.deref-2.ensures.value c.n-last.ensures in
    subst (IsArchiveUnder rules vs) (sym at) (reaches-spread rules starts vs old made is c.in_ok-starts.ensures reached))

pub returns-in-Ok-clause-count : goal.returns-in-Ok-clause-count
returns-in-Ok-clause-count c = ap (λ (a : PlainArchive). a.n) c.in-Ok.ensures ∙ c.n-last.ensures

pub returns-in-Ok-clause-keyed : goal.returns-in-Ok-clause-keyed
returns-in-Ok-clause-keyed c = λ us h. (
    let rules = spec_view c.args.spec.now in
    let starts = c.in_ok-starts.starts.items in
    let old = archive_view c.args.old.now in
    let made = spelled_archive_view c.in_ok-archive.archive in
    let kept = c.archives_stand_for_one_list.ensures.told old c.args.old.now.stands in
    let reached = runs-reached rules starts c.deref.result.now kept.versions made c.deref.ensures.value (c.in_ok-archive.ensures.archive kept.versions kept.is) in
    let at = spread-at starts c.deref-2.result.now c.n-last.result old.n made (spelled_archive_view c.in-Ok.archive) c.in-Ok.ensures c.deref-2.ensures.value c.n-last.ensures in
    spread-keyed c.archives_stand_for_one_list.ensures.one_list rules starts kept.versions old made kept.is c.in_ok-starts.ensures reached us (subst (ArchiveOf us) at h))
