-- What the records of a file are counted to.
use Rattle.std.proofs.Common.{◌≡◌, ℕ, ◌+◌, List, [], ◌∷◌, length, refl, ap, ◌∙◌, arith}
use Rattle.std.specs.Prelude.{fold, sum_by, max}
use Rattle.std.proofs.lemmas.List.Sums.{sum_by-cons}
use Rattle.version_set.specs.Members.{upto_pairs}
use Rattle.key_spec.specs.Data.{PlainRule}
use Rattle.archive_tree.specs.Data.{PlainArchive}
use Rattle.record_format.specs.Data.{PlainRec}
use Rattle.record_format.specs.Files.{header_bytes, file_records, file_bytes}
use Rattle.archive_stats.specs.Counts.{PlainCounts, weight, counts}
use Rattle.archive_stats.specs.Tally.{inner_in, leaves_in, alternatives_in, stamps_in, counted, tallied, before_records}
use Rattle.record_cursor.specs.Items.{item_of}
use Rattle.archive_stats.proofs.Weights.{read-weight}
use Rattle.archive_stats.proofs.Sums.{of_item, inner-sum, leaves-sum, alternatives-sum, stamps-sum}

-- the counts with the sums of what each record adds
abbrev pub summed : PlainCounts → List PlainRec → PlainCounts
summed c rs =
    record {
      versions = c.versions;
      inner = c.inner + sum_by (of_item inner_in) rs;
      leaves = c.leaves + sum_by (of_item leaves_in) rs;
      alternatives = c.alternatives + sum_by (of_item alternatives_in) rs;
      stamps = c.stamps + sum_by (of_item stamps_in) rs;
      largest = fold (λ most r. max most (weight r)) c.largest rs;
      bytes = c.bytes;
    }

-- equal in each number
pub same-counts : (c d : PlainCounts) → c.versions ≡ d.versions → c.inner ≡ d.inner → c.leaves ≡ d.leaves → c.alternatives ≡ d.alternatives → c.stamps ≡ d.stamps → c.largest ≡ d.largest → c.bytes ≡ d.bytes → c ≡ d
same-counts c d v i l a s m b = λ j. record { versions = v j; inner = i j; leaves = l j; alternatives = a j; stamps = s j; largest = m j; bytes = b j }

tallied-sums : (c : PlainCounts) (rs : List PlainRec) → tallied c rs ≡ summed c rs
tallied-sums c [] = same-counts c (summed c []) refl (omega arith) (omega arith) (omega arith) (omega arith) refl refl
tallied-sums c (r ∷ rs) =
    tallied-sums (counted c (item_of r)) rs
    ∙ same-counts (summed (counted c (item_of r)) rs) (summed c (r ∷ rs)) refl
    (omega (arith, sum_by-cons (of_item inner_in) r rs))
    (omega (arith, sum_by-cons (of_item leaves_in) r rs))
    (omega (arith, sum_by-cons (of_item alternatives_in) r rs))
    (omega (arith, sum_by-cons (of_item stamps_in) r rs))
    (ap (λ (n : ℕ). fold (λ most x. max most (weight x)) (max c.largest n) rs) (read-weight r)) refl

-- the records of a file make its counts
pub file-counts : (rules : List PlainRule) (a : PlainArchive) → tallied (before_records a.n (length (header_bytes rules a.n)) (length (file_bytes rules a))) (file_records a) ≡ counts rules a
unfolding counts
file-counts rules a =
    let start = before_records a.n (length (header_bytes rules a.n)) (length (file_bytes rules a)) in
    let all = upto_pairs a.n in
    tallied-sums start (file_records a)
    ∙ same-counts (summed start (file_records a)) (counts rules a) refl
    (omega (arith, inner-sum all a.kids))
    (omega (arith, leaves-sum all a.kids))
    (omega (arith, alternatives-sum all a.kids))
    (omega (arith, stamps-sum all a.kids))
    refl refl
