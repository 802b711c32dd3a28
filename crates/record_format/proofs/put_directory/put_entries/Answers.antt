use Rattle.std.proofs.lemmas.Grind.{common_steps}
use Rattle.std.proofs.Common.{rules, ◌≡◌, ◌<◌, ◌∷◌, ◌++◌, map, ℕ, suc, ◌+◌, List, length, drop, get_or, sym, ap, ◌∙◌, append_assoc, drop-cons, arith}
use Rattle.std.specs.List.{flat_map}
use Rattle.record_format.specs.View.{entry_view}
use Rattle.record_format.specs.Spelling.{entry_bytes}
use Rattle.record_format.specs.declared.rec.Entry.{Entry}
use Rattle.xa_fields.proofs.Combinators.{grows_on}
use Rattle.record_format.proofs.put_directory.put_entries.Goals as goal

one_more : (o p q : List ℕ) (xs : List Entry) (i : ℕ) (d : Entry) → i < length xs → q ≡ p ++ entry_bytes (entry_view (get_or xs i d)) → p ++ flat_map entry_bytes (map entry_view (drop i xs)) ≡ o → q ++ flat_map entry_bytes (map entry_view (drop (i + 1) xs)) ≡ o
one_more o p q xs i d lt e h =
    let next : i + 1 ≡ suc i = omega arith in
    let cons : drop i xs ≡ get_or xs i d ∷ drop (i + 1) xs = drop-cons xs i d lt ∙ ap (λ (k : ℕ). get_or xs i d ∷ drop k xs) (sym next) in
    ap (λ (x : List ℕ). x ++ flat_map entry_bytes (map entry_view (drop (i + 1) xs))) e ∙ append_assoc p (entry_bytes (entry_view (get_or xs i d))) (flat_map entry_bytes (map entry_view (drop (i + 1) xs)))
    ∙ ap (λ (ys : List Entry). p ++ flat_map entry_bytes (map entry_view ys)) (sym cons) ∙ h

pub loop-entry-preserved : goal.loop-entry-preserved
loop-entry-preserved c =
    record {
      wrote = one_more _ _ _ c.args.entries.now c.loop-entry.entry-index (record { start = 0; length = 0; dir = 0 }) c.loop-entry-test.true (search rules) c.loop-entry.invariant.wrote;
      grows = grows_on _ _ _ c.loop-entry.invariant.grows c.put_entry.ensures.grows;
    }

pub returns-in_err-put_entry-clause-grows : goal.returns-in_err-put_entry-clause-grows
returns-in_err-put_entry-clause-grows c = grows_on _ _ _ c.loop-entry.invariant.grows c.put_entry.ensures.grows

pub returns-clause-ok : goal.returns-clause-ok
returns-clause-ok c = grind (arith, common_steps)
