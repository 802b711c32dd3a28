-- The archive of generated documents, one after another.
use Rattle.std.proofs.Common.{◌≡◌, ℕ, ◌+◌, ◌<◌, ◌≤◌, List, [], ◌∷◌, ◌++◌, length, Result, Ok, Err, IfOk, sym, ap, ◌∙◌, subst, arith}
use Rattle.std.proofs.lemmas.List.FromFn.{length-map-range_with_len, map-range_with_len_more}
use Rattle.jsonml_tree.specs.Data.{PlainTree, tree_depth}
use Rattle.jsonml_tree.specs.Fits.{IsElement}
use Rattle.jsonml_tree.specs.WellFormed.{IsWellFormed}
use Rattle.jsonml_tree.specs.declared.limits.TheConstants.{GREATEST_DEPTH}
use Rattle.key_annotate.specs.Annotated.{keyed_tree}
use Rattle.key_annotate.specs.Stands.{Stands}
use Rattle.key_spec.specs.Data.{PlainRule}
use Rattle.keyed_tree.specs.Data.{PlainKeyed}
use Rattle.keyed_tree.specs.Lists.{Has}
use Rattle.keyed_tree.specs.View.{keyed_view}
use Rattle.keyed_tree.specs.declared.keyed.Keyed.{Keyed}
use Rattle.archive_tree.specs.Data.{PlainArchive}
use Rattle.keyed_tree.specs.Alike.{AllAlike}
use Rattle.archive_tree.specs.Stands.{ArchiveOf}
use Rattle.xarch_words.specs.declared.limits.TheConstants.{DEMO}
use Rattle.record_parts.specs.declared.limits.TheConstants.{MOST_VERSIONS}
use Rattle.nested_merge.specs.Alike.{AlikeAll}
use Rattle.archive_file.specs.KeyedBy.{IsKeyedBy, AreKeyedBy}
use Rattle.xarch_gen.specs.Company.{company_rules}
use Rattle.xarch_gen.specs.Sample.{sample_of}
use Rattle.xarch_meanings.specs.Demo.{IsSampleArchive, sample_tree, samples}
use Rattle.xarch_writes.proofs.Merging.{all_behind, has_front, has_last}

samples-more : (seed n : ℕ) → samples seed (n + 1) ≡ samples seed n ++ sample_tree seed (n + 1) ∷ []
samples-more seed n = map-range_with_len_more (sample_tree seed) 1 n (n + 1) (omega arith)

-- an archive of no documents
pub sampled_none : (seed : ℕ) (a : PlainArchive) → ArchiveOf [] a → IsSampleArchive seed 0 a
sampled_none seed a h = record { archive = h; keyed = tt }

-- the keyed tree of a document
module _ (rules : List PlainRule) (t : PlainTree) (k : PlainKeyed) (same : rules ≡ company_rules) (stands : Stands rules t k) where
  pub tree_is : (seed n : ℕ) → t ≡ sample_of seed n → k ≡ sample_tree seed n
  tree_is seed n is = stands.tree ∙ ap (λ r. keyed_tree r t) same ∙ ap (keyed_tree company_rules) is

  pub keyed_by : IsElement t → IsWellFormed t → tree_depth t ≤ GREATEST_DEPTH → IsKeyedBy company_rules k
  keyed_by element formed shallow = subst (λ r. IsKeyedBy r k) same (record { document = t; element = element; well_formed = formed; shallow = shallow; satisfies = stands.satisfies; stands = stands.keyed })

-- what holds of a part holds of the whole that ends with it
pub of_tree : {E : Type 0} (r : Result Keyed E) (P Q : PlainKeyed → Type 0) → ((k : PlainKeyed) → P k → Q k) → IfOk r (λ k. P (keyed_view k)) → IfOk r (λ k. Q (keyed_view k))
of_tree (Ok k) P Q h p = h (keyed_view k) p
of_tree (Err e) P Q h p = tt

-- what the keyed tree of the next document is
module _ (seed n : ℕ) (k : PlainKeyed) (tree : k ≡ sample_tree seed (n + 1)) (keyed : IsKeyedBy company_rules k) where
  with_next : samples seed n ++ k ∷ [] ≡ samples seed (n + 1)
  with_next = ap (λ (j : PlainKeyed). samples seed n ++ j ∷ []) tree ∙ sym (samples-more seed n)

  module _ (a : PlainArchive) (sampled : IsSampleArchive seed n a) where
    all_keyed : AreKeyedBy company_rules (samples seed n ++ k ∷ [])
    all_keyed = all_behind (IsKeyedBy company_rules) (samples seed n) k sampled.keyed keyed

    -- there is room for it
    pub room : n < DEMO → a.n < 4294967295
    room few =
        let count : length (samples seed n) ≡ a.n = sampled.archive.count in
        let many : length (samples seed n) ≡ n = length-map-range_with_len (sample_tree seed) 1 n in
        omega (arith, count, many)

    -- it goes with the documents before it
    pub alike : ((vs us : List PlainKeyed) (a : PlainArchive) → ArchiveOf vs a → ArchiveOf us a → vs ≡ us) → ((rules : List PlainRule) (vs : List PlainKeyed) → AreKeyedBy rules vs → AllAlike vs)
        → (vs : List PlainKeyed) → ArchiveOf vs a → AlikeAll vs k
    alike one_list keyed_alike vs h v m =
        let one : vs ≡ samples seed n = one_list vs (samples seed n) a h sampled.archive in
        let there : Has v (samples seed n) = subst (Has v) one m in
        keyed_alike company_rules (samples seed n ++ k ∷ []) all_keyed v k (has_front (samples seed n) k v there) (has_last (samples seed n) k)

    -- and comes behind them
    pub sampled_next : (b : PlainArchive) → ((vs : List PlainKeyed) → ArchiveOf vs a → ArchiveOf (vs ++ k ∷ []) b) → IsSampleArchive seed (n + 1) b
    sampled_next b merged = record {
      archive = subst (λ vs. ArchiveOf vs b) with_next (merged (samples seed n) sampled.archive);
      keyed = subst (AreKeyedBy company_rules) with_next all_keyed;
    }

-- ---- the archive of all documents

pub few_versions : (seed count : ℕ) (a : PlainArchive) → IsSampleArchive seed count a → count ≤ DEMO → a.n ≤ MOST_VERSIONS
few_versions seed count a sampled few =
    let versions : length (samples seed count) ≡ a.n = sampled.archive.count in
    let many : length (samples seed count) ≡ count = length-map-range_with_len (sample_tree seed) 1 count in
    omega (arith, versions, many)

pub only_keyed : ((vs us : List PlainKeyed) (a : PlainArchive) → ArchiveOf vs a → ArchiveOf us a → vs ≡ us)
    → (rules : List PlainRule) (seed count : ℕ) (a : PlainArchive) → rules ≡ company_rules → IsSampleArchive seed count a → (vs : List PlainKeyed) → ArchiveOf vs a → AreKeyedBy rules vs
only_keyed one_list rules seed count a same sampled vs h =
    let one : samples seed count ≡ vs = one_list (samples seed count) vs a sampled.archive h in
    subst (λ r. AreKeyedBy r vs) (sym same) (subst (AreKeyedBy company_rules) one sampled.keyed)
