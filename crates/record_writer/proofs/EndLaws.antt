-- The record that closes a row, planned and spelled.
use Rattle.std.proofs.Common.{◌≡◌, ℕ, suc, ◌+◌, ◌*◌, ◌<◌, ◌≤◌, List, [], ◌∷◌, ◌++◌, map, drop, get_or, length, refl, sym, ap, ◌∙◌, append_assoc, append-nil, drop-cons, arith}
use Rattle.std.specs.List.{flat_map}
use Rattle.std.proofs.lemmas.List.{length-append, length-map}
use Rattle.version_set.specs.declared.set.VersionSet.{VersionSet}
use Rattle.timestamp_tree.specs.Bytes.{tree_bytes}
use Rattle.timestamp_tree.specs.Tree.{tree_of}
use Rattle.record_format.specs.Data.{PlainDir, PlainEntry, end_rec}
use Rattle.record_format.specs.Spelling.{entry_bytes, sets_bytes, rec_bytes}
use Rattle.record_format.specs.View.{entry_view}
use Rattle.record_format.specs.declared.rec.Entry.{Entry}
use Rattle.record_writer.specs.Ends.{Laid}
use Rattle.record_writer.specs.Places.{set_at}
use Rattle.record_writer.specs.Plans.{Planned, spelled}
use Rattle.record_writer.specs.declared.plan.Plan.{Plan}
use Rattle.record_writer.specs.declared.plan.TreeNode.{TreeNode}
use Rattle.record_writer.specs.declared.rows.Row.{Row}
use Rattle.record_writer.proofs.PlaceLaws.{sets-grown}

sets-some : (ss : List (List (ℕ × ℕ))) → 1 ≤ length ss → sets_bytes ss ≡ tree_bytes (tree_of ss)
sets-some [] h = absurd (omega arith)
sets-some (s ∷ ss) h = refl

-- the sets of a row's children
abbrev pub row_sets : Row → List (List (ℕ × ℕ))
row_sets r = map (set_at r.sets.items) r.places.items

pub laid : (old new : Row) (before nodes : List TreeNode) (plan : Plan) → new.start ≡ old.start → new.entries ≡ old.entries → new.places ≡ old.places → before ≡ [] → 1 ≤ length old.places.items
    → Planned old.sets.items new.sets.items before nodes (tree_of (row_sets old)) plan → Laid old new nodes × (plan.size ≡ length (sets_bytes (row_sets old)))
laid old new before nodes plan start entries places none some h =
    let few = length-map old.places.items (set_at old.sets.items) in
    let bytes : sets_bytes (row_sets old) ≡ tree_bytes (tree_of (row_sets old)) = sets-some (row_sets old) (omega (arith, few, some)) in
    let sets : row_sets new ≡ row_sets old = ap (λ ps. map (set_at new.sets.items) ps.items) places ∙ ap (λ (xs : List VersionSet). map (set_at xs) old.places.items) h.more.1 ∙ sets-grown old.sets.items h.more.0 old.places.items old.known in (
      record {
        row = λ i. record { start = start i; dir = record { entries = map entry_view (entries i).items; sets = sets i } };
        known = h.known;
        tree = h.nodes ∙ ap (λ bs. tree_bytes (tree_of (row_sets old)) ++ bs) (ap (spelled old.sets.items) none) ∙ append-nil (tree_bytes (tree_of (row_sets old))) ∙ sym bytes;
      },
      h.size ∙ ap length (sym bytes),
    )

entries-size : (es : List PlainEntry) → length (flat_map entry_bytes es) ≡ 24 * length es
entries-size [] = refl
entries-size (e ∷ es) = (let others = entries-size es in let one = length-append (entry_bytes e) (flat_map entry_bytes es) in omega (arith, one, others))

pub end-size : (d : PlainDir) (n : ℕ) → n ≡ length (sets_bytes d.sets) → length (rec_bytes (end_rec d)) ≡ 13 + 24 * length d.entries + n
end-size d n h = omega (arith, h, entries-size d.entries, length-append (flat_map entry_bytes d.entries) (sets_bytes d.sets))

pub entry-written : (o p q : List ℕ) (xs : List Entry) (i : ℕ) (d : Entry) → i < length xs → q ≡ p ++ entry_bytes (entry_view (get_or xs i d)) → p ++ flat_map entry_bytes (map entry_view (drop i xs)) ≡ o → q ++ flat_map entry_bytes (map entry_view (drop (i + 1) xs)) ≡ o
entry-written o p q xs i d lt e h =
    let next : i + 1 ≡ suc i = omega arith in
    let cons : drop i xs ≡ get_or xs i d ∷ drop (i + 1) xs = drop-cons xs i d lt ∙ ap (λ (k : ℕ). get_or xs i d ∷ drop k xs) (sym next) in
    ap (λ (x : List ℕ). x ++ flat_map entry_bytes (map entry_view (drop (i + 1) xs))) e ∙ append_assoc p (entry_bytes (entry_view (get_or xs i d))) (flat_map entry_bytes (map entry_view (drop (i + 1) xs)))
    ∙ ap (λ (ys : List Entry). p ++ flat_map entry_bytes (map entry_view ys)) (sym cons) ∙ h
