-- Archives of one version of each run.
use Rattle.std.proofs.Common.{◌≡◌, ℕ, ◌≤◌, true, List, length, sym, ap, subst, ◌∙◌, arith}
use Rattle.std.specs.List.{range_with_len}
use Rattle.version_set.specs.Members.{has}
use Rattle.keyed_tree.specs.Data.{PlainKeyed}
use Rattle.archive_tree.specs.Data.{PlainArchive}
use Rattle.archive_tree.specs.Stands.{ArchiveOf, version_of}
use Rattle.archive_tree.proofs.Necessary.{necessary}
use Rattle.archive_tree.proofs.Numbers.{Has-has, has_range}
use Rattle.archive_tree.proofs.Rebuilt.{sufficient}
use Rattle.archive_tree.proofs.Versions.{version_item}
use Rattle.version_runs.specs.Runs.{AreStarts, run_of, start_of, starts_of, versions_at}
use Rattle.version_runs.specs.Spread.{spread, spread_list, AreNodesWithin}
use Rattle.version_runs.proofs.Lists.{first_version, first_versions, same_versions, spread_length, spread_version}
use Rattle.version_runs.proofs.Parts.{archive_well, archive_within}
use Rattle.version_runs.proofs.Readings.{root_read}
use Rattle.version_runs.proofs.RunLemmas.{run_within, some_run, start_in}
use Rattle.version_runs.proofs.SameRun.{cut_same, root_same}
use Rattle.version_runs.proofs.StartLemmas.{AreStarts-starts_of, cut_is_start}

in_range : (n i : ℕ) → 1 ≤ i → i ≤ n → has (range_with_len 1 n) i ≡ true
in_range n i some most = Has-has (range_with_len 1 n) i (has_range 1 n i some (omega (arith, most)))

pub sets_within : (us : List PlainKeyed) (a : PlainArchive) → ArchiveOf us a → AreNodesWithin a.n a.kids
sets_within us a h = archive_within a (necessary us a h)

-- an archive of one version of each run, spread, is that of all versions
pub spread_archive : (ps : List ℕ) (n : ℕ) (us : List PlainKeyed) (a : PlainArchive) → AreStarts ps n → length ps ≡ a.n → ArchiveOf us a → ArchiveOf (spread_list ps n us) (spread ps n a)
spread_archive ps n us a st e h =
    let kept = sufficient (spread ps n a) (archive_well ps n st a e (necessary us a h)) in
    let count : length kept.versions ≡ n = kept.is.count in
    let size : length us ≡ length ps = h.count ∙ sym e in
    let within : AreNodesWithin (length ps) a.kids = subst (λ c. AreNodesWithin c a.kids) (sym e) (sets_within us a h) in
    let same : kept.versions ≡ spread_list ps n us = same_versions kept.versions (spread_list ps n us) (count ∙ sym (spread_length ps n st us size)) (λ i some most. (
    let least = some_run ps n st i some (omega (arith, most, count)) in
    let last = run_within ps i in
    let there = in_range n i some (omega (arith, most, count)) in
    let run = in_range a.n (run_of ps i) least (omega (arith, last, e)) in
    sym (version_item kept.versions (spread ps n a) kept.is i)
    ∙ root_read ps n st i (omega (arith, most, count)) a.kids (range_with_len 1 a.n) (range_with_len 1 n) within (there ∙ sym run)
    ∙ version_item us a h (run_of ps i)
    ∙ sym (spread_version ps n st us i some (omega (arith, most, count))))) in
    subst (λ vs. ArchiveOf vs (spread ps n a)) same kept.is

-- a version is the first one of its run
pub run_same : (vs : List PlainKeyed) (a : PlainArchive) (i : ℕ) → ArchiveOf vs a → 1 ≤ i → i ≤ a.n → version_of vs i ≡ version_of vs (start_of (starts_of a) a.n (run_of (starts_of a) i))
run_same vs a i h some most =
    let ps = starts_of a in
    let st = AreStarts-starts_of a in
    let first = start_in ps a.n st (run_of ps i) (some_run ps a.n st i some most) (run_within ps i) in
    sym (version_item vs a h i)
    ∙ root_same i (start_of ps a.n (run_of ps i)) a.kids (range_with_len 1 a.n) (λ x m. cut_same ps a.n st i x some most (cut_is_start a x m))
    (in_range a.n i some most ∙ sym (in_range a.n (start_of ps a.n (run_of ps i)) first.0 first.1))
    ∙ version_item vs a h (start_of ps a.n (run_of ps i))

-- the first version of each run, spread, is all versions
pub runs_equal : (vs : List PlainKeyed) (a : PlainArchive) → ArchiveOf vs a → spread_list (starts_of a) a.n (versions_at (starts_of a) vs) ≡ vs
runs_equal vs a h =
    let ps = starts_of a in
    let count : length vs ≡ a.n = h.count in
    let st = AreStarts-starts_of a in
    let own : AreStarts ps (length vs) = subst (AreStarts ps) (sym count) st in
    let ws = versions_at ps vs in
    let size = spread_length ps a.n st ws (first_versions ps vs own) in
    same_versions (spread_list ps a.n ws) vs (size ∙ sym count) (λ i some most. (
    let high : i ≤ a.n = omega (arith, most, size) in
    let least = some_run ps a.n st i some high in
    spread_version ps a.n st ws i some high
    ∙ first_version ps vs own (run_of ps i) least (run_within ps i)
    ∙ ap (λ n. version_of vs (start_of ps n (run_of ps i))) count
    ∙ sym (run_same vs a i h some high)))
