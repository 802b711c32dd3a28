-- The first versions of an archive's runs under other keys, and what follows for all versions.
use Rattle.std.proofs.Common.{◌≡◌, ◌<◌, ◌≤◌, ◌+◌, ◌-◌, ℕ, zero, suc, List, [], ◌∷◌, ◌++◌, length, get_or, replicate, take, Some, refl, sym, ap, subst, ◌∙◌, arith, inl, inr}
use Rattle.std.proofs.lemmas.Bool.{cases_lt}
use Rattle.std.proofs.lemmas.List.{get_or_default, take_all}
use Rattle.std.specs.List.{AllByRecursion}
use Rattle.std.specs.Option.{option_map}
use Rattle.jsonml_tree.specs.Data.{PlainTree}
use Rattle.keyed_tree.specs.Data.{PlainKeyed}
use Rattle.keyed_tree.specs.Plain.{plain}
use Rattle.key_spec.specs.Data.{PlainRule}
use Rattle.key_rules.specs.Faults.{PlainKeyFault}
use Rattle.key_rules.specs.Satisfies.{Satisfies}
use Rattle.key_annotate.specs.Stands.{Stands}
use Rattle.archive_tree.specs.Data.{PlainArchive}
use Rattle.archive_tree.specs.Stands.{ArchiveOf, head_or, version_of}
use Rattle.version_runs.specs.Runs.{AreStarts, run_of, start_of, starts_of, versions_at}
use Rattle.version_runs.specs.Spread.{spread, spread_list}
use Rattle.version_runs.proofs.Archives.{runs_equal, spread_archive}
use Rattle.version_runs.proofs.Lists.{first_version, first_versions, spread_version}
use Rattle.version_runs.proofs.RunLemmas.{begins, start_in}
use Rattle.version_runs.proofs.StartLemmas.{AreStarts-starts_of}
use Rattle.archive_file.specs.KeyedBy.{AreKeyedBy, IsKeyedBy}
use Rattle.archive_rekey.specs.Progress.{IsFaultOf, Reaches}
use Rattle.archive_rekey.specs.Rekeyed.{AreRekeyed, IsArchiveUnder, IsFirstBad}
use Rattle.archive_rekey.proofs.Rekeyings.{first-bad, reaches-count}

-- ---- starts

pub are-starts : (ps : List ℕ) (a : PlainArchive) → ps ≡ starts_of a → AreStarts ps a.n
are-starts ps a e = subst (λ qs. AreStarts qs a.n) (sym e) (AreStarts-starts_of a)

pub own-starts : (ps : List ℕ) (vs : List PlainKeyed) (a : PlainArchive) → ArchiveOf vs a → ps ≡ starts_of a → AreStarts ps (length vs)
own-starts ps vs a is e = subst (AreStarts ps) (sym is.count) (are-starts ps a e)

pub count-runs : (ps : List ℕ) (vs : List PlainKeyed) (a : PlainArchive) → ArchiveOf vs a → ps ≡ starts_of a → length (versions_at ps vs) ≡ length ps
count-runs ps vs a is e = first_versions ps vs (own-starts ps vs a is e)

at-start : (ps : List ℕ) (n j d : ℕ) → j < length ps → start_of ps n (j + 1) ≡ get_or ps j d
at-start ps n j d lt = (let e : j + 1 - 1 ≡ j = omega arith in ap (λ k. get_or ps k (n + 1)) e ∙ get_or_default ps j (n + 1) d lt)

pub start-between : (ps : List ℕ) (n j d : ℕ) → AreStarts ps n → j < length ps → (1 ≤ get_or ps j d) × (get_or ps j d ≤ n)
start-between ps n j d st lt =
    let at = at-start ps n j d lt in
    let both = start_in ps n st (j + 1) (omega arith) (omega (arith, lt)) in
    let low = both.0 in
    let high = both.1 in
    (omega (arith, low, at), omega (arith, high, at))

-- the first version of a run is that of its first number
pub run-version : (ps : List ℕ) (vs : List PlainKeyed) (a : PlainArchive) (j d : ℕ) → ArchiveOf vs a → ps ≡ starts_of a → j < length ps → version_of (versions_at ps vs) (j + 1) ≡ version_of vs (get_or ps j d)
run-version ps vs a j d is e lt = first_version ps vs (own-starts ps vs a is e) (j + 1) (omega arith) (omega (arith, lt)) ∙ ap (version_of vs) (at-start ps (length vs) j d lt)

-- ---- spread lists

block : (rules : List PlainRule) (k : ℕ) (v u : PlainKeyed) (vs us : List PlainKeyed) → Stands rules (plain v) u → AreRekeyed rules vs us → AreRekeyed rules (replicate k v ++ vs) (replicate k u ++ us)
block rules zero v u vs us s h = h
block rules (suc k) v u vs us s h = (s, block rules k v u vs us s h)

rekeyed-spread : (rules : List PlainRule) (n : ℕ) (ps : List ℕ) (ws us : List PlainKeyed) → AreRekeyed rules ws us → AreRekeyed rules (spread_list ps n ws) (spread_list ps n us)
rekeyed-spread rules n [] ws us h = tt
rekeyed-spread rules n (p ∷ ps) [] [] h = tt
rekeyed-spread rules n (p ∷ ps) [] (u ∷ us) h = absurd h
rekeyed-spread rules n (p ∷ ps) (w ∷ ws) [] h = absurd h
rekeyed-spread rules n (p ∷ ps) (w ∷ ws) (u ∷ us) h = block rules (head_or (n + 1) ps - p) w u (spread_list ps n ws) (spread_list ps n us) h.0 (rekeyed-spread rules n ps ws us h.1)

all-block : (P : PlainKeyed → Type 0) (k : ℕ) (u : PlainKeyed) (us : List PlainKeyed) → P u → AllByRecursion P us → AllByRecursion P (replicate k u ++ us)
all-block P zero u us p h = h
all-block P (suc k) u us p h = (p, all-block P k u us p h)

all-spread : (P : PlainKeyed → Type 0) (n : ℕ) (ps : List ℕ) (us : List PlainKeyed) → AllByRecursion P us → AllByRecursion P (spread_list ps n us)
all-spread P n [] us h = tt
all-spread P n (p ∷ ps) [] h = tt
all-spread P n (p ∷ ps) (u ∷ us) h = all-block P (head_or (n + 1) ps - p) u (spread_list ps n us) h.0 (all-spread P n ps us h.1)

-- ---- all versions

-- so many runs are in the archive
pub reaches-runs : (rules : List PlainRule) (ps : List ℕ) (vs : List PlainKeyed) (a b : PlainArchive) → ArchiveOf vs a → ps ≡ starts_of a → Reaches rules (versions_at ps vs) (length ps) b → length ps ≡ b.n
reaches-runs rules ps vs a b is e r = (let size = count-runs ps vs a is e in sym (reaches-count rules (versions_at ps vs) (length ps) b (omega (arith, size)) r))

-- spread, it is that of all versions
pub reaches-spread : (rules : List PlainRule) (ps : List ℕ) (vs : List PlainKeyed) (a b : PlainArchive) → ArchiveOf vs a → ps ≡ starts_of a → Reaches rules (versions_at ps vs) (length ps) b → IsArchiveUnder rules vs (spread ps a.n b)
reaches-spread rules ps vs a b is e r =
    let size = count-runs ps vs a is e in
    let all : take (length ps) (versions_at ps vs) ≡ versions_at ps vs = take_all (length ps) (versions_at ps vs) (omega (arith, size)) in
    let runs : spread_list ps a.n (versions_at ps vs) ≡ vs = subst (λ qs. spread_list qs a.n (versions_at qs vs) ≡ vs) (sym e) (runs_equal vs a is) in
    let are : AreRekeyed rules (versions_at ps vs) r.versions = subst (λ ws. AreRekeyed rules ws r.versions) all r.are in
    record {
      versions = spread_list ps a.n r.versions;
      are = subst (λ ws. AreRekeyed rules ws (spread_list ps a.n r.versions)) runs (rekeyed-spread rules a.n ps (versions_at ps vs) r.versions are);
      archive = spread_archive ps a.n r.versions b (are-starts ps a e) (reaches-runs rules ps vs a b is e r) r.archive;
    }

pub spread-keyed : ((vs us : List PlainKeyed) (a : PlainArchive) → ArchiveOf vs a → ArchiveOf us a → vs ≡ us) → (rules : List PlainRule) (ps : List ℕ) (vs : List PlainKeyed) (a b : PlainArchive) → ArchiveOf vs a → ps ≡ starts_of a
    → Reaches rules (versions_at ps vs) (length ps) b → (us : List PlainKeyed) → ArchiveOf us (spread ps a.n b) → AreKeyedBy rules us
spread-keyed one_list rules ps vs a b is e r us h =
    let archive = spread_archive ps a.n r.versions b (are-starts ps a e) (reaches-runs rules ps vs a b is e r) r.archive in
    subst (AreKeyedBy rules) (one_list (spread_list ps a.n r.versions) us (spread ps a.n b) archive h) (all-spread (IsKeyedBy rules) a.n ps r.versions r.keyed)

-- ---- the first bad one

-- the first bad run makes its first number that of the first bad version
pub first-bad-run : (rules : List PlainRule) (ps : List ℕ) (vs : List PlainKeyed) (a : PlainArchive) (j d : ℕ) (f : PlainKeyFault) → ArchiveOf vs a → ps ≡ starts_of a → j < length ps → IsFirstBad rules (versions_at ps vs) (j + 1) f → IsFirstBad rules vs (get_or ps j d) f
first-bad-run rules ps vs a j d f is e lt h =
    let st = are-starts ps a e in
    let at = at-start ps a.n j d lt in
    let most = (start-between ps a.n j d st lt).1 in
    let runs : spread_list ps a.n (versions_at ps vs) ≡ vs = subst (λ qs. spread_list qs a.n (versions_at qs vs) ≡ vs) (sym e) (runs_equal vs a is) in
    record {
      here = record {
        version = h.here.version;
        is = sym (run-version ps vs a j d is e lt) ∙ h.here.is;
        bad = h.here.bad;
        fault = h.here.fault;
      };
      before = λ i v low there. earlier i v st at most runs low there;
    }
  where
    earlier : (i : ℕ) (v : PlainKeyed) → AreStarts ps a.n → start_of ps a.n (j + 1) ≡ get_or ps j d → get_or ps j d ≤ a.n → spread_list ps a.n (versions_at ps vs) ≡ vs → i < get_or ps j d → version_of vs i ≡ Some v → Satisfies rules (plain v)
    earlier zero v st at most runs low there = cc
    earlier (suc i) v st at most runs low there =
        let less : run_of ps (suc i) < j + 1 = elim (cases_lt (run_of ps (suc i)) (j + 1)) [
          | inl lt ↦ lt
          | inr le ↦ absurd (let from = begins ps a.n st (suc i) (j + 1) (omega arith) le in omega (arith, from, at, low))
        ] in
        let own : version_of (versions_at ps vs) (run_of ps (suc i)) ≡ version_of vs (suc i) = sym (spread_version ps a.n st (versions_at ps vs) (suc i) (omega arith) (omega (arith, low, most))) ∙ ap (λ ws. version_of ws (suc i)) runs in
        h.before (run_of ps (suc i)) v less (own ∙ there)

-- a fault of the document of a run is that of the first bad version
pub bad-run : (rules : List PlainRule) (ps : List ℕ) (vs : List PlainKeyed) (a : PlainArchive) (j number : ℕ) (b : PlainArchive) (t : PlainTree) (x : ℕ × PlainKeyFault) → ArchiveOf vs a → ps ≡ starts_of a → j < length ps → number ≡ get_or ps j 0
    → Reaches rules (versions_at ps vs) j b → option_map plain (version_of (versions_at ps vs) (j + 1)) ≡ Some t → IsFaultOf rules number t x → IsFirstBad rules vs x.0 x.1
bad-run rules ps vs a j number b t x is e lt at r spelled h =
    let own : IsFaultOf rules (j + 1) t (j + 1, x.1) = record { number = refl; bad = h.bad; fault = h.fault } in
    let run = first-bad rules (versions_at ps vs) j b t (j + 1, x.1) r spelled own in
    subst (λ i. IsFirstBad rules vs i x.1) (sym (h.number ∙ at)) (first-bad-run rules ps vs a j 0 x.1 is e lt run)
