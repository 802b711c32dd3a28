-- The file of some versions of a sound archive.
use Rattle.std.proofs.Common.{cond, ◌==◌, ◌≡◌, ◌↔◌, ◌≢◌, ℕ, ◌+◌, ◌-◌, ◌≤◌, List, [], ◌∷◌, ◌++◌, length, take, Option, Some, None, Result, Ok, Err, refl, sym, ap, subst, ◌∙◌, arith}
use Rattle.std.specs.Option.{option_map}
use Rattle.jsonml_text.specs.Texts.{AreTexts}
use Rattle.key_spec.specs.Canonical.{canonical}
use Rattle.key_spec.specs.Data.{PlainRule}
use Rattle.keyed_tree.specs.Data.{PlainKeyed}
use Rattle.keyed_tree.specs.Plain.{plain}
use Rattle.version_set.specs.Members.{upto_pairs}
use Rattle.xa_outside.specs.Causes.{Rose}
use Rattle.xa_outside.specs.Folder.{Files}
use Rattle.xa_outside.specs.Numbers.{Numbers, IsMeter, PullsAndDrafts}
use Rattle.xa_outside.specs.NumberLaws.{PullsAndDrafts-more, PullsAndDrafts-trans, PullsAndDrafts-none, PullsAndDrafts-of_draft}
use Rattle.archive_tree.specs.Data.{PlainArchive}
use Rattle.archive_tree.specs.Stands.{ArchiveOf}
use Rattle.archive_tree.proofs.OneArchive.{one_archive}
use Rattle.record_parts.specs.Bounds.{most}
use Rattle.record_format.specs.Files.{header_bytes, file_bytes, HasFile, FileOf}
use Rattle.record_format.specs.Nodes.{dir_of, node_pieces}
use Rattle.record_format.specs.Spelling.{dir_bytes}
use Rattle.archive_file.specs.KeyedBy.{IsKeyedBy, AreKeyedBy}
use Rattle.archive_file.specs.Sound.{SoundAs}
use Rattle.archive_file.proofs.ShapedArchives.{archive-shaped, sound-texts}
use Rattle.record_cursor.specs.Items.{end_item, finish}
use Rattle.record_cursor.specs.Moves.{TellsFront, Comes, IsHeaderOf}
use Rattle.record_cursor.specs.Places.{among_nodes}
use Rattle.record_cursor.specs.View.{PlainHeader, PlainCursor}
use Rattle.record_writer.specs.Data.{PlainWriter, WriterCall, call_finish}
use Rattle.record_writer.specs.Calls.{started, all_appended, after_all, Fits, AllFit}
use Rattle.record_writer.specs.Faults.{Gains, Appends}
use Rattle.record_writer.specs.Faults as faults
use Rattle.record_writer.specs.declared.fault.WriteFault.{WriteFault}
use Rattle.record_writer.specs.declared.fault.WriteFault.TheVariants as writer
use Rattle.record_writer.specs.View.{writer_view}
use Rattle.record_writer.specs.Walks.{row_calls, walk_of}
use Rattle.record_writer.specs.declared.writer.Writer.{Writer}
use Rattle.record_writer.proofs.FitLaws.{walk-fits-exactly, fit-both}
use Rattle.record_writer.proofs.WalkLaws.{walk-spells}
use Rattle.record_copy.specs.Faults.{IfFolder, IfLong, IfWhole, of_writer}
use Rattle.record_copy.specs.declared.fault.CopyFault.{CopyFault}
use Rattle.record_copy.specs.declared.fault.CopyFault.TheVariants.{Damage, TooLong, Folder, Memory}
use Rattle.record_copy.proofs.Passing.{lengthens-then, lengthens-none, cause-then}
use Rattle.record_copy.proofs.Running.{short-none}
use Rattle.record_cursor.specs.NodeItems.{row_items}
use Rattle.archive_cut.specs.Short.{IsLeftOf}
use Rattle.archive_cut.specs.Sliced.{cut_set, sliced_row, sliced, items}
use Rattle.archive_cut.specs.Walked.{AreApart}
use Rattle.archive_cut.specs.Whole.{Called, Slices, NodesCut, VersionsCut}
use Rattle.archive_cut.proofs.Coming.{Heads, sound-heads, comes-all}
use Rattle.archive_cut.proofs.Slices.{archive_cut, archive-apart, all_items, root-left}
use Rattle.record_cursor.proofs.NodeItems.{items-are}
use Rattle.record_copy.proofs.FewBytes.{upto-few}

-- ---- where the file is told

module _ (h : PlainHeader) (rules : List PlainRule) (vs : List PlainKeyed) (bytes : List ℕ) (is : IsHeaderOf h bytes) (s : SoundAs rules vs bytes) (i j : ℕ) (from : 1 ≤ i) (order : i ≤ j) (high : j ≤ h.versions) where
  abbrev old : PlainArchive
  old = s.file.archive

  abbrev new : PlainArchive
  new = sliced i j old

  heads : Heads h rules old
  heads = sound-heads h rules vs bytes s is

  below : j ≤ old.n
  below = (let e = heads in let count = e.count in omega (arith, count, high))

  stands : ArchiveOf (items i j vs) new
  stands = archive_cut vs old i j s.file.is from order below

  many : new.n ≤ most
  many = (let few = s.few in let count = s.file.is.count in let b = below in omega (arith, few, count, b))

  keyed : AreKeyedBy rules (items i j vs)
  keyed = all_items (IsKeyedBy rules) i j vs s.keyed

  exactly : HasFile rules new ↔ AllFit (started rules new.n) (walk_of new)
  exactly = walk-fits-exactly rules new s.file.has.text (archive-shaped rules (items i j vs) new (canonical rules, s.specification) keyed (all_items (λ v. AreTexts (plain v)) i j vs (sound-texts rules vs bytes s)) stands many)

  sound : AllFit (started rules new.n) (walk_of new) → SoundAs rules (items i j vs) (file_bytes rules new)
  sound fit = record {
    specification = s.specification;
    keyed = keyed;
    few = (let count = stands.count in let m = many in omega (arith, count, m));
    file = record { archive = new; is = stands; has = exactly.1 fit; spelled = refl };
  }

  none : ¬ AllFit (started rules new.n) (walk_of new) → (file : List ℕ) → ¬ FileOf rules (items i j vs) file
  none over file f = over (exactly.0 (subst (HasFile rules) (one_archive (items i j vs) f.archive new f.is stands) f.has))

  abbrev calls : List WriterCall
  calls = row_calls (cut_set i j (upto_pairs h.versions)) (sliced_row i j (upto_pairs h.versions) old.kids) ++ call_finish ∷ []

  walks : calls ≡ walk_of new
  walks =
      let e = heads in
      ap (λ n. row_calls (cut_set i j (upto_pairs n)) (sliced_row i j (upto_pairs n) old.kids) ++ call_finish ∷ []) e.count
      ∙ ap (λ q. row_calls q (sliced_row i j (upto_pairs old.n) old.kids) ++ call_finish ∷ []) (root-left i j old.n from order below)

  begun : (v : PlainWriter) → v ≡ started h.rules (j + 1 - i) → v ≡ started rules new.n
  begun v e = (let d = heads in e ∙ ap (λ rs. started rs (j + 1 - i)) d.rules_are)

  pub slices-by : (v : PlainWriter) (made : List WriterCall) (next : WriterCall) (z : List ℕ) (e : Option CopyFault) → v ≡ started h.rules (j + 1 - i) → Called calls made next e → AllFit v made → IfLong e (¬ Fits (after_all v made) next) → IfWhole e (z ≡ all_appended v made)
      → Slices (header_bytes h.rules (j + 1 - i) ++ z) rules i j vs e
  slices-by v made next z None at called fit over same =
      let d = heads in
      let w = begun v at in
      let all : made ≡ walk_of new = called ∙ walks in
      let file : header_bytes h.rules (j + 1 - i) ++ z ≡ file_bytes rules new = (λ x. header_bytes (d.rules_are x) (j + 1 - i) ++ (same ∙ (λ y. all_appended (w y) (all y))) x) ∙ walk-spells rules new in
      subst (SoundAs rules (items i j vs)) (sym file) (sound (subst (λ (u : PlainWriter). AllFit u (walk_of new)) w (subst (AllFit v) all fit)))
  slices-by v made next z (Some TooLong) at called fit over same = none (λ all. (
      let w = begun v at in
      let whole : AllFit v (made ++ next ∷ called.0) = subst (AllFit v) (sym walks ∙ called.1) (subst (λ (u : PlainWriter). AllFit u (walk_of new)) (sym w) all) in
      over ((fit-both v made (next ∷ called.0)).0 whole).1.0))
  slices-by v made next z (Some Damage) at called fit over same = called
  slices-by v made next z (Some Folder) at called fit over same = tt
  slices-by v made next z (Some Memory) at called fit over same = tt

-- ---- whatever the file is

module _ {S : Type 0} (files : S → Option Files) (draft : S → Option (List ℕ)) (numbers : S → Numbers) (count : S → ℕ) (h : PlainHeader) (i j : ℕ) (from : 1 ≤ i) (order : i ≤ j) (high : j ≤ h.versions) (old mid new : S) (c : PlainCursor) (w : Writer) where
  -- a writer began, and then the nodes were appended
  pub versions-then : {T : Type 0} (v : T) (e : Option CopyFault) → IsMeter (numbers old) → Appends files draft numbers count old mid (header_bytes h.rules (j + 1 - i)) (Ok v) → writer_view w ≡ started h.rules (j + 1 - i)
      → c.length ≡ h.length → c.standing ≡ among_nodes 0 → c.at ≡ h.first → NodesCut files draft numbers count i j (upto_pairs h.versions) mid new c w e → VersionsCut files draft numbers count h i j old new c e
  versions-then v e meter did begins length_is standing at nodes =
      let gains = did.gains in
      let head = header_bytes h.rules (j + 1 - i) in
      let reads = nodes.reads in
      let first = did.later in
      let second = reads.later in
      let most : c.length - c.at ≡ h.length - h.first = (λ x. length_is x - at x) in
      let few = ap (λ (n : ℕ). n) most in
      record {
        appended = head ++ nodes.bytes;
        reads = record {
          same_files = reads.same_files ∙ did.same_files;
          lengthens = lengthens-then (draft old) (draft mid) (draft new) head nodes.bytes gains.draft reads.lengthens;
          later = omega (arith, first, second);
          cause = cause-then (count old) (count mid) (count new) e first second reads.cause;
          pulls = PullsAndDrafts-more (0 + (c.length - c.at)) (h.length - h.first) (numbers old) (numbers new) (omega (arith, few))
              (PullsAndDrafts-trans 0 (c.length - c.at) (numbers old) (numbers mid) (numbers new) (PullsAndDrafts-of_draft 0 (length head) (numbers old) (numbers mid) meter gains.numbers) reads.pulls);
        };
        made = nodes.made;
        next = nodes.next;
        spelled = spelled-by e nodes.same;
        fit = subst (λ (v : PlainWriter). AllFit v nodes.made) begins nodes.fit;
        over = over-by e nodes.over;
        short = λ b file. nodes.short b (omega (arith, file, length_is)) (let u = upto-few h.versions in omega (arith, file, u));
        slices = λ bytes rules vs tells is s. (
            let a = s.file.archive in
            let d = sound-heads h rules vs bytes s is in
            let told = subst (λ (o : Option Files). TellsFront o c.name c.length bytes) (sym did.same_files) tells in
            let comes = subst (Comes (files mid) c) (items-are a) (comes-all h rules vs bytes is s (files mid) c told standing at) in
            let apart = archive-apart vs a i j s.file.is in
            let m = length (dir_bytes (dir_of (node_pieces (upto_pairs a.n) a.kids))) in
            let here = subst (λ n. Comes (files mid) c (row_items (upto_pairs n) a.kids ++ end_item m ∷ finish ∷ [])) (sym d.count) comes in
            let differ = subst (λ n. AreApart i j (upto_pairs n) a.kids) (sym d.count) apart in
            slices-by h rules vs bytes is s i j from order high (writer_view w) nodes.made nodes.next nodes.bytes e begins (nodes.nodes a.kids m here differ) nodes.fit nodes.over nodes.same);
      }
    where
      spelled-by : (e : Option CopyFault) → IfWhole e (nodes.bytes ≡ all_appended (writer_view w) nodes.made) → IfLong e (header_bytes h.rules (j + 1 - i) ++ nodes.bytes ≡ header_bytes h.rules (j + 1 - i) ++ all_appended (started h.rules (j + 1 - i)) nodes.made)
      spelled-by None x = tt
      spelled-by (Some TooLong) x = ap (λ z. header_bytes h.rules (j + 1 - i) ++ z) (x ∙ ap (λ v. all_appended v nodes.made) begins)
      spelled-by (Some Damage) x = tt
      spelled-by (Some Folder) x = tt
      spelled-by (Some Memory) x = tt

      over-by : (e : Option CopyFault) → IfLong e (¬ Fits (after_all (writer_view w) nodes.made) nodes.next) → IfLong e (¬ Fits (after_all (started h.rules (j + 1 - i)) nodes.made) nodes.next)
      over-by None x = tt
      over-by (Some TooLong) x = subst (λ v. ¬ Fits (after_all v nodes.made) nodes.next) begins x
      over-by (Some Damage) x = tt
      over-by (Some Folder) x = tt
      over-by (Some Memory) x = tt

-- ---- the header was not appended

record Unbegun (before now : Option (List ℕ)) (x y : Numbers) : Type 0 where
  bytes : List ℕ
  lengthens : now ≡ option_map (λ (d : List ℕ). d ++ bytes) before
  counts : PullsAndDrafts 0 x y

unbegun-none : (before now : Option (List ℕ)) (x y : Numbers) → IsMeter x → now ≡ before → y ≡ x → Unbegun before now x y
unbegun-none before now x y meter same is = record { bytes = []; lengthens = lengthens-none before now same; counts = subst (λ (m : Numbers). PullsAndDrafts 0 x m) (sym is) (PullsAndDrafts-none 0 x meter) }

unbegun-in : (T : Type 0) (before now : Option (List ℕ)) (x y : Numbers) (bytes : List ℕ) (e : WriteFault) → IsMeter x → Gains {T = T} before now x y bytes (Err e) → Unbegun before now x y
unbegun-in T before now x y bytes writer.TooLong meter h = unbegun-none before now x y meter h.0 h.1
unbegun-in T before now x y bytes writer.Memory meter h = unbegun-none before now x y meter h.0 h.1
unbegun-in T before now x y bytes writer.Folder meter h =
    let d = h.drafts in
    record { bytes = take h.count bytes; lengthens = d.draft; counts = PullsAndDrafts-of_draft 0 (length (take h.count bytes)) x y meter d.numbers }

cause-writer : (T : Type 0) (e : WriteFault) (P : Type 0) → faults.IfFolder {T = T} (Err e) P → IfFolder (Some (of_writer e)) P
cause-writer T writer.TooLong P h = tt
cause-writer T writer.Folder P h = h
cause-writer T writer.Memory P h = tt

not-long : {T : Type 0} (e : WriteFault) (P : Type 0) → ◌≢◌ {A = Result T WriteFault} (Err e) (Err writer.TooLong) → IfLong (Some (of_writer e)) P
not-long writer.TooLong P h = absurd (h refl)
not-long writer.Folder P h = tt
not-long writer.Memory P h = tt

no-slices : {T : Type 0} (x : List ℕ) (rules : List PlainRule) (i j : ℕ) (vs : List PlainKeyed) (e : WriteFault) → ◌≢◌ {A = Result T WriteFault} (Err e) (Err writer.TooLong) → Slices x rules i j vs (Some (of_writer e))
no-slices x rules i j vs writer.TooLong h = absurd (h refl)
no-slices x rules i j vs writer.Folder h = tt
no-slices x rules i j vs writer.Memory h = tt

no-call : {T : Type 0} (e : WriteFault) → ◌≢◌ {A = Result T WriteFault} (Err e) (Err writer.TooLong) → Some (of_writer e) ≢ Some TooLong
no-call writer.TooLong h = absurd (h refl)
no-call writer.Folder h = λ d. absurd cc
no-call writer.Memory h = λ d. absurd cc

pub versions-unbegun : {S T : Type 0} (files : S → Option Files) (draft : S → Option (List ℕ)) (numbers : S → Numbers) (count : S → ℕ) (h : PlainHeader) (i j : ℕ) (old new : S) (c : PlainCursor) (bytes : List ℕ) (e : WriteFault)
    → IsMeter (numbers old) → Appends {T = T} files draft numbers count old new bytes (Err e) → ◌≢◌ {A = Result T WriteFault} (Err e) (Err writer.TooLong) → VersionsCut files draft numbers count h i j old new c (Some (of_writer e))
versions-unbegun {T = T} files draft numbers count h i j old new c bytes e meter did fits =
    let begun = unbegun-in T (draft old) (draft new) (numbers old) (numbers new) bytes e meter did.gains in
    record {
      appended = begun.bytes;
      reads = record {
        same_files = did.same_files;
        lengthens = begun.lengthens;
        later = did.later;
        cause = cause-writer T e (Rose (count old) (count new)) did.cause;
        pulls = PullsAndDrafts-more 0 (h.length - h.first) (numbers old) (numbers new) (omega arith) begun.counts;
      };
      made = [];
      next = call_finish;
      spelled = not-long {T = T} e _ fits;
      fit = tt;
      over = not-long {T = T} e _ fits;
      short = λ b file. short-none (IsLeftOf b i j) b call_finish (Some (of_writer e)) (no-call {T = T} e fits);
      slices = λ front rules vs tells is sound. no-slices {T = T} begun.bytes rules i j vs e fits;
    }
