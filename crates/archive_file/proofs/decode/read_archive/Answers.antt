use Rattle.std.proofs.Common.{◌≡◌, ℕ, List, length, leb, true≢false, sym, ap, ◌∙◌, subst, drop}
use Rattle.std.specs.Prelude.{bytes_eq}
use Rattle.std.proofs.lemmas.Bool.{le-leb, leb-true}
use Rattle.std.proofs.lemmas.Slice.Eq.{bytes_eq-Decides}
use Rattle.jsonml_tree.specs.declared.limits.TheConstants.{GREATEST_DEPTH}
use Rattle.key_spec.specs.Data.{PlainRule}
use Rattle.key_spec.specs.View.{spec_view}
use Rattle.keyed_tree.specs.Data.{PlainKeyed}
use Rattle.keyed_tree.proofs.Kids.{both}
use Rattle.version_set.specs.Members.{upto_pairs}
use Rattle.version_set.specs.View.{pairs_of}
use Rattle.archive_tree.specs.Stands.{ArchiveOf}
use Rattle.archive_tree.specs.View.{nodes_view}
use Rattle.record_parts.specs.Bounds.{IsSet}
use Rattle.record_format.specs.Files.{tail_bytes, longest}
use Rattle.record_format.specs.Nodes.{dir_of, node_pieces}
use Rattle.record_format.specs.Spelling.{dir_bytes}
use Rattle.xa_fields.specs.Spelling.{u64_bytes}
use Rattle.archive_file.specs.Laid.{RowAt}
use Rattle.archive_file.specs.Sound.{SoundAs}
use Rattle.archive_file.proofs.FileLaws.{upto-set}
use Rattle.archive_file.proofs.GoesLaws.{both-hold}
use Rattle.archive_file.proofs.LaidLaws.{finds-handed, fails-handed}
use Rattle.archive_file.proofs.SoundLaws.{Header, row-well, sound-row, sound-reads, sound-has-header, sound-archive, sound-tail, sound-short, read-file}
use Rattle.archive_file.proofs.decode.read_archive.Goals as goal

-- the row of a sound archive, under the set of all versions
row-there : (rules : List PlainRule) (vs : List PlainKeyed) (bytes : List ℕ) (s : SoundAs rules vs bytes) (found : List PlainRule) (n : ℕ) (now : List ℕ) (set : List (ℕ × ℕ)) → Header rules vs bytes s found n now → set ≡ upto_pairs n
    → RowAt set s.file.archive.kids (tail_bytes s.file.archive) GREATEST_DEPTH now
row-there rules vs bytes s found n now set h own =
    subst (λ (z : List (ℕ × ℕ)). RowAt z s.file.archive.kids (tail_bytes s.file.archive) GREATEST_DEPTH now) (ap upto_pairs (sym h.count) ∙ sym own) (sound-row rules vs bytes s now h.now_is)

pub read_row-requires : goal.read_row-requires
read_row-requires c = subst IsSet (sym c.upto-all.ensures.pairs) (upto-set c.in_ok-spec.n c.in_ok-spec.ensures.few)

pub of_parts-requires : goal.of_parts-requires
of_parts-requires c = row-well (pairs_of c.upto-all.result) (nodes_view c.in_ok-kids.kids.items) c.in_ok-kids.ensures.lie.records

pub returns-in_err-spec-clause-found : goal.returns-in_err-spec-clause-found
returns-in_err-spec-clause-found c = λ rules vs s.
    finds-handed _ c.from_residual.result c.in_err-spec.field-0.0 c.from_residual.ensures.1 c.in_err-spec.ensures.damage (sound-has-header rules vs c.args.bytes.now s)

pub returns-in_err-kids-clause-found : goal.returns-in_err-kids-clause-found
returns-in_err-kids-clause-found c = λ rules vs s. (
    let a = s.file.archive in
    let bytes = c.args.bytes.now in
    let now = drop c.in_ok-spec.at bytes in
    let h = sound-reads rules vs bytes s (spec_view c.in_ok-spec.spec) c.in_ok-spec.n now c.in_ok-spec.ensures.found in
    let row = row-there rules vs bytes s (spec_view c.in_ok-spec.spec) c.in_ok-spec.n now (pairs_of c.upto-all.result) h c.upto-all.ensures.pairs in
    fails-handed _ _ c.from_residual-in_err-kids.result c.in_err-kids.field-0.0 c.from_residual-in_err-kids.ensures.1 (c.in_err-kids.ensures.found a.kids (tail_bytes a) row))

pub returns-then-not-is_closed-clause-found : goal.returns-then-not-is_closed-clause-found
returns-then-not-is_closed-clause-found c = λ rules vs s. (
    let a = s.file.archive in
    let bytes = c.args.bytes.now in
    let n = c.in_ok-spec.n in
    let kids = c.in_ok-kids in
    let now = drop c.in_ok-spec.at bytes in
    let ks = nodes_view kids.kids.items in
    let h = sound-reads rules vs bytes s (spec_view c.in_ok-spec.spec) n now c.in_ok-spec.ensures.found in
    let row = kids.ensures.found a.kids (tail_bytes a) (row-there rules vs bytes s (spec_view c.in_ok-spec.spec) n now (pairs_of c.upto-all.result) h c.upto-all.ensures.pairs) in
    let dirs = kids.ensures.dir ∙ ap (λ (z : List (ℕ × ℕ)). length (dir_bytes (dir_of (node_pieces z ks)))) c.upto-all.ensures.pairs in
    let tail = sound-tail rules vs bytes s n ks (drop kids.end bytes) kids.dir h.count row.0 row.1 dirs in
    let whole = both-hold (leb (length bytes) longest) (bytes_eq (drop kids.end bytes) (u64_bytes kids.dir)) (le-leb _ _ (sound-short rules vs bytes s)) ((bytes_eq-Decides (drop kids.end bytes) (u64_bytes kids.dir)).1 tail) in
    absurd (true≢false (sym whole ∙ sym c.is_closed.ensures ∙ c.if-not-is_closed.true)))

pub returns-in-Some-clause-found : goal.returns-in-Some-clause-found
returns-in-Some-clause-found c = λ rules vs s. (
    let a = s.file.archive in
    let bytes = c.args.bytes.now in
    let now = drop c.in_ok-spec.at bytes in
    let h = sound-reads rules vs bytes s (spec_view c.in_ok-spec.spec) c.in_ok-spec.n now c.in_ok-spec.ensures.found in
    let row = c.in_ok-kids.ensures.found a.kids (tail_bytes a) (row-there rules vs bytes s (spec_view c.in_ok-spec.spec) c.in_ok-spec.n now (pairs_of c.upto-all.result) h c.upto-all.ensures.pairs) in
    let parts = rw c.in-Some.is at c.in_ok-archive.ensures.parts in
    (h.specification, subst (ArchiveOf vs) (sym parts) (sound-archive rules vs bytes s c.in_ok-spec.n (nodes_view c.in_ok-kids.kids.items) h.count row.0)))

pub returns-in-Some-clause-file : goal.returns-in-Some-clause-file
returns-in-Some-clause-file c =
    let bytes = c.args.bytes.now in
    let n = c.in_ok-spec.n in
    let kids = c.in_ok-kids in
    let now = drop c.in_ok-spec.at bytes in
    let rest = drop kids.end bytes in
    let ks = nodes_view kids.kids.items in
    let own = c.upto-all.ensures.pairs in
    let row = subst (λ (z : List (ℕ × ℕ)). RowAt z ks rest GREATEST_DEPTH now) own kids.ensures.lie in
    let dirs = kids.ensures.dir ∙ ap (λ (z : List (ℕ × ℕ)). length (dir_bytes (dir_of (node_pieces z ks)))) own in
    let two = both (leb (length bytes) longest) (bytes_eq rest (u64_bytes kids.dir)) (sym c.is_closed.ensures ∙ c.if-not-is_closed.false) in
    let parts = rw c.in-Some.is at c.in_ok-archive.ensures.parts in
    read-file (spec_view c.in_ok-spec.spec) n ks rest now bytes kids.dir GREATEST_DEPTH c.in_ok-spec.ensures.spelled c.in_ok-spec.ensures.few row ((bytes_eq-Decides rest (u64_bytes kids.dir)).0 two.1) dirs (leb-true _ _ two.0) _ parts

pub returns-in-None-clause-found : goal.returns-in-None-clause-found
returns-in-None-clause-found c = λ rules vs s. (
    let a = s.file.archive in
    let bytes = c.args.bytes.now in
    let now = drop c.in_ok-spec.at bytes in
    let h = sound-reads rules vs bytes s (spec_view c.in_ok-spec.spec) c.in_ok-spec.n now c.in_ok-spec.ensures.found in
    let row = c.in_ok-kids.ensures.found a.kids (tail_bytes a) (row-there rules vs bytes s (spec_view c.in_ok-spec.spec) c.in_ok-spec.n now (pairs_of c.upto-all.result) h c.upto-all.ensures.pairs) in
    let none = rw c.in-None.is at c.in_ok-archive.ensures.none in
    none vs (sound-archive rules vs bytes s c.in_ok-spec.n (nodes_view c.in_ok-kids.kids.items) h.count row.0))
