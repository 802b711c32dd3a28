-- A leaf whose end was written is closed, and what stands around it is as before.
use Rattle.std.proofs.Common.{◌≡◌, ℕ, ◌+◌, List, [], ◌∷◌, ◌++◌, length, Option, Some, None, refl, sym, subst, ◌∙◌}
use Rattle.archive_tree.specs.Data.{PlainAlt}
use Rattle.record_writer.specs.Data.{PlainWriter, OpenLeaf, call_end_leaf}
use Rattle.record_writer.specs.Calls.{appended, after, after_all, leaf_ended}
use Rattle.record_writer.specs.Walks.{alt_calls}
use Rattle.record_writer.proofs.WalkLaws.{after-append, alts-keep}
use Rattle.record_copy.specs.Passes.{Rests}

pub ended-rests : (v : PlainWriter) (o : Option OpenLeaf) (at : ℕ) → v.leaf ≡ o → Rests v (leaf_ended v o at)
ended-rests v None at e = record { no_leaf = e; inners = refl }
ended-rests v (Some l) at e = record { no_leaf = refl; inners = refl }

-- behind the end of the leaf
pub closes-leaf : (v w : PlainWriter) (xs : List PlainAlt) → w ≡ after_all v (alt_calls xs ++ call_end_leaf ∷ []) → Rests v w
closes-leaf v w xs is =
    let u = after_all v (alt_calls xs) in
    let kept = alts-keep v xs in
    let ended = ended-rests u u.leaf (u.written + length (appended u call_end_leaf)) refl in
    let same : w ≡ after u call_end_leaf = is ∙ after-append v (alt_calls xs) (call_end_leaf ∷ []) in
    subst (Rests v) (sym same) (record { no_leaf = ended.no_leaf; inners = ended.inners ∙ kept.1 })
