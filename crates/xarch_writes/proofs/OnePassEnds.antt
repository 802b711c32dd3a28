-- What `add` pulls and drafts over a sound archive.
use Rattle.std.proofs.Common.{◌≡◌, ℕ, ◌+◌, ◌-◌, ◌≤◌, ◌<◌, ◌^◌, List, [], ◌∷◌, ◌++◌, length, drop, Option, Some, None, Result, Ok, Err, sym, ap, ◌∙◌, subst, arith, length-drop}
use Rattle.std.specs.Prelude.{max}
use Rattle.std.specs.List.{flat_map, fold}
use Rattle.std.proofs.lemmas.List.{length-append}
use Rattle.key_spec.specs.Canonical.{canonical}
use Rattle.key_spec.specs.Closed.{closed}
use Rattle.key_spec.specs.Data.{PlainRule}
use Rattle.archive_tree.specs.Data.{PlainArchive}
use Rattle.archive_tree.specs.Stands.{ArchiveOf}
use Rattle.xa_outside.specs.Folder.{Files, bytes_or_none}
use Rattle.xa_outside.specs.Numbers.{Numbers, PullsAtMost, PullsAndDrafts, after_begin}
use Rattle.record_cursor.specs.View.{PlainHeader, IsHeader}
use Rattle.version_notes.specs.Notes.{notes_part}
use Rattle.version_notes.specs.Parts.{parts_behind, parts_in}
use Rattle.version_notes.specs.declared.parts.Parts.{Parts}
use Rattle.noted_file.specs.Contents.{Contents}
use Rattle.noted_file.specs.Full.{FullAs}
use Rattle.record_format.specs.Data.{PlainRec}
use Rattle.record_format.specs.Files.{HasFile, header_bytes, file_bytes, file_records, tail_bytes, largest, weight}
use Rattle.record_format.specs.Fronts.{header_at}
use Rattle.record_format.specs.Spelling.{rec_bytes}
use Rattle.xarch_parts.specs.Archives.{ArchiveIs, IsFrontOf}
use Rattle.xarch_parts.specs.CoreLaws.{core-same}
use Rattle.xarch_parts.specs.Noted.{AreWithin, notes_bytes}
use Rattle.std.specs.Result.{IsErrAnd}
use Rattle.xarch_words.specs.Refusal.{document, PlainFault, folder_fault}
use Rattle.xarch_words.specs.View.{fault_view}
use Rattle.xarch_words.specs.declared.fault.Fault.{Fault}
use Rattle.xarch_words.specs.declared.limits.TheConstants.{DOCUMENT}
use Rattle.xarch_parts.specs.Ends.{fault_of}
use Rattle.xarch_parts.specs.Inputs.{length_in, size_in}
use Rattle.xarch_meanings.specs.Add.{document_size, OnePass, or_zero}
use Rattle.xarch_meanings.specs.History.{front_size}
use Rattle.xarch_writes.specs.Added.{most_ahead}

-- a length that a document may have is what is read of it
pub size-of : (files : Files) (doc : List ℕ) (n : ℕ) → length_in files doc document DOCUMENT ≡ Ok n → n ≡ document_size files doc
size-of files doc n e = sym (ap or_zero e)

-- the folder failed
pub failed-so : (r : Result Unit Fault) (f : Fault) → IsErrAnd r (λ g. g ≡ f) → fault_view f ≡ folder_fault → fault_of r ≡ Some folder_fault
failed-so (Ok u) f h e = absurd h
failed-so (Err g) f h e = ap (λ (z : Fault). Some (fault_view z)) h ∙ ap (λ (v : PlainFault). Some v) e

abbrev rest-of : Option ((List PlainRule × ℕ) × List ℕ) → List ℕ
rest-of None = []
rest-of (Some x) = x.1

-- the greatest is no less than what it is begun with
fold-least : (rs : List PlainRec) (n : ℕ) → n ≤ fold (λ most r. max most (weight r)) n rs
fold-least [] n = omega arith
fold-least (r ∷ rs) n = (let more = fold-least rs (max n (weight r)) in omega (arith, more))

-- of the bytes behind the one and behind the other there are as many
one-first : (n m : ℕ) (core : List ℕ) (x y : List PlainRule × ℕ) → ◌≡◌ {A = Option ((List PlainRule × ℕ) × List ℕ)} (Some (x, drop n core)) (Some (y, drop m core)) → n ≤ length core → m ≤ length core → n ≡ m
one-first n m core x y same fits within =
    let lengths : length (drop n core) ≡ length (drop m core) = ap (λ (o : Option ((List PlainRule × ℕ) × List ℕ)). length (rest-of o)) same in
    omega (arith, lengths, length-drop n core, length-drop m core, fits, within)

module _ (stands : (rules : List PlainRule) (a : PlainArchive) → closed (canonical rules) ≡ Ok rules → HasFile rules a → header_at (file_bytes rules a) ≡ Some ((rules, a.n), drop (length (header_bytes rules a.n)) (file_bytes rules a)))
    (has_parts : (c : Contents) (bytes : List ℕ) (full : FullAs c bytes) → parts_in bytes ≡ Some (parts_behind full.core c.notes))
    (files : Files) (archive doc : List ℕ) (c : Contents) (is : ArchiveIs files archive c) where
  size-is : size_in (Some files) archive ≡ length is.bytes
  size-is = ap (λ o. length (bytes_or_none o)) is.there

  core-within : length is.full.core ≤ size_in (Some files) archive
  core-within = (let size = size-is in let all = ap length is.full.spelled in omega (arith, size, all, length-append is.full.core (notes_part c.notes)))

  front-within : front_size c.rules c.versions ≤ length is.full.core
  front-within =
      let f = is.full.is.file in
      let count : length c.versions ≡ f.archive.n = f.is.count in
      let same : front_size c.rules c.versions ≡ length (header_bytes c.rules f.archive.n) = ap (λ n. length (header_bytes c.rules n)) count in
      let s = ap length f.spelled in
      let b = length-append (header_bytes c.rules f.archive.n) (flat_map rec_bytes (file_records f.archive) ++ tail_bytes f.archive) in
      omega (arith, same, s, b)

  -- the header that was read is the one that stands there
  first-is : (h : PlainHeader) → IsHeader h → IsFrontOf files archive h → h.first ≡ front_size c.rules c.versions
  first-is h header front =
      let f = is.full.is.file in
      let core = is.full.core in
      let one : (h.length ≡ length core) × (front.core ≡ core) = core-same has_parts files archive c is h.length front.core front.of in
      let count : length c.versions ≡ f.archive.n = f.is.count in
      let head = length (header_bytes c.rules f.archive.n) in
      let at : header_at core ≡ Some ((c.rules, f.archive.n), drop head core) = ap header_at f.spelled ∙ stands c.rules f.archive is.full.is.specification f.has ∙ ap (λ z. Some ((c.rules, f.archive.n), drop head z)) (sym f.spelled) in
      let here : header_at core ≡ Some ((h.rules, h.versions), drop h.first core) = subst (λ z. header_at z ≡ Some ((h.rules, h.versions), drop h.first z)) one.1 front.is in
      let within = header.within in
      let long : h.length ≡ length core = one.0 in
      let fits = front-within in
      let heads : front_size c.rules c.versions ≡ head = ap (λ n. length (header_bytes c.rules n)) count in
      one-first h.first head core (h.rules, h.versions) (c.rules, f.archive.n) (sym here ∙ at) (omega (arith, within, long)) (omega (arith, fits, heads)) ∙ sym heads

  module _ (a : PlainArchive) (of : ArchiveOf c.versions a) where
    front-least : front_size c.rules c.versions ≤ largest c.rules a
    front-least =
        let count : length c.versions ≡ a.n = of.count in
        let same : front_size c.rules c.versions ≡ length (header_bytes c.rules a.n) = ap (λ n. length (header_bytes c.rules n)) count in
        let more = fold-least (file_records a) (length (header_bytes c.rules a.n)) in
        omega (arith, same, more)

    -- it was read from alone
    pub one_pass-read : (x y : Numbers) → y.since < 2 ^ 64 - 1 → PullsAtMost (16 + front_size c.rules c.versions + document_size files doc) (after_begin x) y → OnePass files archive doc c.rules a x y
    one_pass-read x y small p =
        let n = p.within in
        let pulled = ap (λ (m : Numbers). m.pulled) p.pulled in
        let since = ap (λ (m : Numbers). m.since) p.pulled in
        let gap = ap (λ (m : Numbers). m.gap) p.pulled in
        let fits = front-within in
        let within = core-within in
        let least = front-least in
        record {
          begun_first = omega (arith, small, pulled, since);
          once = omega (arith, n, since, within, fits);
          close = omega (arith, n, gap, least);
        }

    -- and then it was gone over
    pub one_pass-merged : (h : PlainHeader) (parts : Parts) (x y z : Numbers) → IsHeader h → IsFrontOf files archive h → h.length ≡ parts.core → AreWithin (size_in (Some files) archive) parts
        → z.since < 2 ^ 64 - 1 → PullsAtMost (16 + front_size c.rules c.versions + document_size files doc) (after_begin x) y → PullsAndDrafts (h.length - h.first + notes_bytes parts.notes) y z
        → z.gap ≤ max y.gap (most_ahead h c.rules a y) → OnePass files archive doc c.rules a x z
    one_pass-merged h parts x y z header front long fit small p q gap-is =
        let n = p.within in
        let m = q.within in
        let pulled = ap (λ (m : Numbers). m.pulled) p.pulled in
        let since = ap (λ (m : Numbers). m.since) p.pulled in
        let drafted = ap (λ (m : Numbers). m.drafted) p.pulled in
        let gap = ap (λ (m : Numbers). m.gap) p.pulled in
        let pulled2 = q.pulled in
        let since2 = q.since in
        let first = first-is h header front in
        let within = header.within in
        let all = fit.within in
        let least = front-least in
        let count : length c.versions ≡ a.n = of.count in
        let heads : front_size c.rules c.versions ≡ length (header_bytes c.rules a.n) = ap (λ n. length (header_bytes c.rules n)) count in
        record {
          begun_first = omega (arith, small, pulled, since, pulled2, since2);
          once = omega (arith, n, m, since, since2, first, within, long, all);
          close = omega (arith, n, since, drafted, gap, gap-is, least, heads, first);
        }
