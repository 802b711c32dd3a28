-- The counts of the file of an archive.
use Rattle.std.proofs.Common.{◌≡◌, ℕ, ◌+◌, ◌-◌, ◌≤◌, List, ◌++◌, length, drop, cond, true, leb, take, take_all, Option, Some, None, Result, Ok, Err, refl, sym, ap, subst, ◌∙◌, arith}
use Rattle.std.specs.FinMap as finite
use Rattle.std.specs.Prelude.{IfOk}
use Rattle.std.specs.List.{flat_map}
use Rattle.std.specs.Option.{option_map}
use Rattle.std.proofs.lemmas.Bool.Decides.{nat_tests}
use Rattle.std.proofs.lemmas.Cmp.{nat_list_cmp_total}
use Rattle.std.proofs.lemmas.List.{drop_at, length-append, length-drop}
use Rattle.std.proofs.lemmas.Map.Text.{is_eq-slice_cmp}
use Rattle.std.proofs.lemmas.Slice.Eq.{bytes_eq-Decides}
use Rattle.xa_fields.proofs.Fields.{some_is}
use Rattle.xa_outside.specs.Causes.{Rose}
use Rattle.xa_outside.specs.Folder.{Files, bytes_or_none, front, front_of}
use Rattle.xa_outside.specs.Numbers.{PullsAtMost, after_pull, numbers_none}
use Rattle.xa_outside.specs.InMemory.{SureState}
use Rattle.xa_outside.specs.NumberLaws.{PullsAtMost-of, PullsAtMost-more, PullsAtMost-trans}
use Rattle.key_spec.specs.Data.{PlainRule}
use Rattle.keyed_tree.specs.Data.{PlainKeyed}
use Rattle.archive_tree.specs.Data.{PlainArchive}
use Rattle.archive_tree.specs.Stands.{ArchiveOf}
use Rattle.archive_tree.proofs.OneArchive.{one_archive}
use Rattle.archive_file.specs.Faults.{IfTooLong}
use Rattle.archive_file.specs.Sound.{SoundAs}
use Rattle.archive_file.specs.declared.fault.EncodeFault.{EncodeFault}
use Rattle.archive_file.specs.declared.fault.EncodeFault.TheVariants.{TooLong}
use Rattle.archive_file.proofs.SoundLaws.{versions-nested}
use Rattle.record_format.specs.Files.{header_bytes, file_records, tail_bytes, file_bytes, HasFile}
use Rattle.record_format.specs.Fronts.{header_at}
use Rattle.record_format.specs.Spelling.{rec_bytes}
use Rattle.record_format.proofs.HeaderLaws.{header_again}
use Rattle.record_cursor.specs.Faults as cursor
use Rattle.record_cursor.specs.Moves.{TellsFront, TellsHeader}
use Rattle.record_cursor.specs.Places.{among_nodes, finished}
use Rattle.record_cursor.specs.Steps.{fault_of, Filled}
use Rattle.record_cursor.specs.View.{PlainCursor, PlainHeader, header_view}
use Rattle.record_cursor.specs.declared.fault.CursorFault.{CursorFault}
use Rattle.record_cursor.specs.declared.fault.CursorFault.TheVariants as fault
use Rattle.record_cursor.specs.declared.header.Header.{Header}
use Rattle.record_cursor.proofs.Fills.{front-length, damage-map}
use Rattle.record_cursor.proofs.ItemLaws.{comes-first}
use Rattle.archive_stats.specs.Counted.{Seen, RecordsCome, read_by, RecordsCounted, IsFileOf, FileCounted}
use Rattle.archive_stats.specs.Counts.{PlainCounts, counts, end_bodies}
use Rattle.archive_stats.specs.Tally.{tallied, before_records, FitIn}
use Rattle.archive_stats.specs.View.{counts_view, of_cursor, IfDamage, IfFolder}
use Rattle.archive_stats.specs.declared.counts.Counts.{Counts}
use Rattle.archive_stats.specs.declared.fault.StatsFault.{StatsFault}
use Rattle.archive_stats.proofs.Coming.{cause-later}
use Rattle.archive_stats.proofs.Tallies.{file-counts}
use Rattle.archive_stats.proofs.Weights.{file-read}

-- ---- the header of a file

-- what stands in front of an archive's file
header-there : (bytes : List ℕ) (rules : List PlainRule) (a : PlainArchive) → IsFileOf rules a bytes → header_at bytes ≡ Some ((rules, a.n), flat_map rec_bytes (file_records a) ++ tail_bytes a)
header-there bytes rules a f =
    let has = f.has in
    ap header_at f.spelled ∙ header_again rules a.n (flat_map rec_bytes (file_records a) ++ tail_bytes a) f.specification has.text has.count

file-length : (bytes : List ℕ) (rules : List PlainRule) (a : PlainArchive) → IsFileOf rules a bytes → length bytes ≡ length (header_bytes rules a.n) + length (flat_map rec_bytes (file_records a) ++ tail_bytes a)
file-length bytes rules a f = ap length f.spelled ∙ length-append (header_bytes rules a.n) (flat_map rec_bytes (file_records a) ++ tail_bytes a)

behind-header : (bytes : List ℕ) (rules : List PlainRule) (a : PlainArchive) → IsFileOf rules a bytes → flat_map rec_bytes (file_records a) ++ tail_bytes a ≡ drop (length (header_bytes rules a.n)) bytes
behind-header bytes rules a f =
    let rest = flat_map rec_bytes (file_records a) ++ tail_bytes a in
    sym (ap (drop (length (header_bytes rules a.n))) f.spelled ∙ drop_at (header_bytes rules a.n) rest (length (header_bytes rules a.n)) refl)

-- the header that was read, and where its records begin
pub record Headed (name : List ℕ) (size : ℕ) (h : Header) (s m : Seen) : Type 0 where
  pub files : m.files ≡ s.files
  pub draft : m.draft ≡ s.draft
  pub numbers : m.numbers ≡ after_pull s.numbers (header_view h).first
  pub later : s.faults ≤ m.faults
  pub within : (header_view h).first ≤ (header_view h).length
  pub long : (header_view h).length ≡ size
  pub told : (bytes : List ℕ) → TellsFront s.files name size bytes → TellsHeader (Ok h) (Some bytes)

-- of an archive's file
record Begins (h : PlainHeader) (rules : List PlainRule) (a : PlainArchive) : Type 0 where
  first : h.first ≡ length (header_bytes rules a.n)
  versions : h.versions ≡ a.n

module _ (name : List ℕ) (size : ℕ) (h : Header) (s m : Seen) (k : Headed name size h s m) where
  begins : (bytes : List ℕ) (rules : List PlainRule) (a : PlainArchive) → TellsFront s.files name size bytes → IsFileOf rules a bytes → Begins (header_view h) rules a
  begins bytes rules a tells f =
      let v = header_view h in
      let stands : header_at bytes ≡ Some ((v.rules, v.versions), drop v.first bytes) = k.told bytes tells in
      let rest = flat_map rec_bytes (file_records a) ++ tail_bytes a in
      let same = some_is ((v.rules, v.versions), drop v.first bytes) ((rules, a.n), rest) (sym stands ∙ header-there bytes rules a f) in
      let left : length (drop v.first bytes) ≡ length rest = ap (λ (x : (List PlainRule × ℕ) × List ℕ). length x.1) same in
      let within = k.within in
      record {
        first = omega (arith, file-length bytes rules a f, left, within, length-drop v.first bytes, front-length s.files name bytes size tells, k.long);
        versions = ap (λ (x : (List PlainRule × ℕ) × List ℕ). x.0.1) same;
      }

  header-few : (bytes : List ℕ) (rules : List PlainRule) (a : PlainArchive) → TellsFront s.files name size bytes → IsFileOf rules a bytes → (header_view h).first + read_by (file_records a) ≡ size - end_bodies a
  header-few bytes rules a tells f =
      let b = begins bytes rules a tells f in
      let len : length (file_bytes rules a) ≡ size = sym (ap length f.spelled) ∙ front-length s.files name bytes size tells in
      omega (arith, b.first, file-read rules a, len)

  module _ (c : PlainCursor) (is : c ≡ record { name = name; length = (header_view h).length; standing = among_nodes 0; at = (header_view h).first }) where
    records-come : (bytes : List ℕ) (rules : List PlainRule) (a : PlainArchive) → TellsFront s.files name size bytes → IsFileOf rules a bytes → RecordsCome m.files c (file_records a)
    records-come bytes rules a tells f =
        let b = begins bytes rules a tells f in
        let long : c.length ≡ size = ap (λ (x : PlainCursor). x.length) is ∙ k.long in
        let front : front_of tells.0 name c.length ≡ Some (file_bytes rules a) = ap (front_of tells.0 name) long ∙ tells.2 ∙ ap Some f.spelled in
        subst (λ (o : Option Files). RecordsCome o c (file_records a)) (sym (k.files ∙ tells.1))
        (comes-first tells.0 name rules a c f.has f.nested front (ap (λ (x : PlainCursor). x.name) is) (ap (λ (x : PlainCursor). x.standing) is) (ap (λ (x : PlainCursor). x.at) is ∙ b.first))

    filled-as : (r : Result Counts CursorFault) (x y : PlainCounts) → x ≡ y → Filled r (λ e. counts_view e ≡ x) → Filled r (λ e. counts_view e ≡ y)
    filled-as (Ok e) x y same f = f ∙ same
    filled-as (Err e) x y same f = f

    not-short : (r : Result Counts CursorFault) (file : List ℕ) → front size file ≡ None → IfOk r (λ e. size ≤ length file) → IfOk r (λ e. ⊥)
    not-short (Ok e) file none long = (let all : leb size (length file) ≡ true = grind (arith, nat_tests) in let there : front size file ≡ Some (take size file) = rw all refl in absurd cc)
    not-short (Err e) file none long = tt

    -- the records behind the header are counted
    pub file-counted : (t : Seen) (r : Result Counts CursorFault) (before : PlainCounts) → before ≡ before_records (header_view h).versions (header_view h).first (header_view h).length → RecordsCounted before c m t r → FileCounted name size s t r
    file-counted t r before start n =
        let v = header_view h in
        let rest = n.reads in
        let within = k.within in
        let at = ap (λ (x : PlainCursor). x.at) is in
        let end = ap (λ (x : PlainCursor). x.length) is in
        let pulled = PullsAtMost-of v.first v.first s.numbers m.numbers (omega arith) k.numbers in
        record {
          reads = record {
            same_files = rest.same_files ∙ k.files;
            same_draft = rest.same_draft ∙ k.draft;
            later = (let a = k.later in let b = rest.later in omega (arith, a, b));
            cause = cause-later s.faults m.faults t.faults (fault_of r) k.later rest.cause;
            pulls = PullsAtMost-more (v.first + (c.length - c.at)) size s.numbers t.numbers (omega (arith, at, end, within, k.long)) (PullsAtMost-trans v.first (c.length - c.at) s.numbers m.numbers t.numbers pulled rest.pulls);
          };
          counts = λ bytes rules a tells f. (
              let b = begins bytes rules a tells f in
              let len : v.length ≡ length (file_bytes rules a) = k.long ∙ sym (front-length s.files name bytes size tells) ∙ ap length f.spelled in
              let same : before ≡ before_records a.n (length (header_bytes rules a.n)) (length (file_bytes rules a)) = start ∙ (λ i. before_records (b.versions i) (b.first i) (len i)) in
              filled-as r (tallied before (file_records a)) (counts rules a) (ap (λ (x : PlainCounts). tallied x (file_records a)) same ∙ file-counts rules a) (n.counts (file_records a) (records-come bytes rules a tells f)));
          few = λ bytes rules a tells f. subst (λ (x : ℕ). PullsAtMost x s.numbers t.numbers) (header-few bytes rules a tells f)
              (PullsAtMost-trans v.first (read_by (file_records a)) s.numbers m.numbers t.numbers pulled (n.few (file_records a) (records-come bytes rules a tells f)));
          short = λ files told none. not-short r (bytes_or_none (finite.get files name)) none
              (subst (λ (x : PlainCursor). IfOk r (λ e. x.length ≤ length (bytes_or_none (finite.get files x.name)))) (is ∙ ap (λ (n : ℕ). record { name = name; length = n; standing = among_nodes 0; at = v.first }) k.long) (n.whole files (k.files ∙ told) (λ e. going (ap (λ (x : PlainCursor). x.standing) (sym is) ∙ e))));
        }
      where
        going : among_nodes 0 ≡ finished → ⊥
        going e = cc

  -- no memory for a cursor
  pub no-cursor : FileCounted name size s m (Err fault.Memory)
  no-cursor =
      let v = header_view h in
      let within = k.within in
      record {
        reads = record { same_files = k.files; same_draft = k.draft; later = k.later; cause = tt; pulls = PullsAtMost-of size v.first s.numbers m.numbers (omega (arith, within, k.long)) k.numbers };
        counts = λ bytes rules a tells f. tt;
        few = λ bytes rules a tells f. PullsAtMost-of (size - end_bodies a) v.first s.numbers m.numbers (let e = header-few bytes rules a tells f in omega (arith, e)) k.numbers;
        short = λ files told none. tt;
      }

-- there is no header
pub no-header : (name : List ℕ) (size : ℕ) (s t : Seen) (e : CursorFault) → t.files ≡ s.files → t.draft ≡ s.draft → PullsAtMost size s.numbers t.numbers → s.faults ≤ t.faults → cursor.IfFolder e (Rose s.faults t.faults)
    → ((bytes : List ℕ) → TellsFront s.files name size bytes → TellsHeader (Err e) (Some bytes))
    → ((bytes : List ℕ) (rules : List PlainRule) (n first : ℕ) → TellsFront s.files name size bytes → header_at bytes ≡ Some ((rules, n), drop first bytes) → first ≤ size → PullsAtMost first s.numbers t.numbers)
    → FileCounted name size s t (Err e)
no-header name size s t e files draft pulls later cause told only = record {
  reads = record { same_files = files; same_draft = draft; later = later; cause = cause; pulls = pulls };
  counts = λ bytes rules a tells f. damage-map e (header_at bytes ≡ None) ⊥ (λ none. (let there = header-there bytes rules a f in absurd cc)) (told bytes tells);
  few = λ bytes rules a tells f. (
      let head = length (header_bytes rules a.n) in
      let len : length (file_bytes rules a) ≡ size = sym (ap length f.spelled) ∙ front-length s.files name bytes size tells in
      let read = file-read rules a in
      PullsAtMost-more head (size - end_bodies a) s.numbers t.numbers (omega (arith, read, len))
      (only bytes rules a.n head tells (header-there bytes rules a f ∙ ap (λ bs. Some ((rules, a.n), bs)) (behind-header bytes rules a f)) (omega (arith, read, len))));
  short = λ files told none. tt;
}

-- nothing is counted before the records
pub none-fit : (n versions header bytes : ℕ) → FitIn n (before_records versions header bytes)
none-fit n versions header bytes = record { inner = omega arith; leaves = omega arith; alternatives = omega arith; stamps = omega arith }

-- ---- sound archives

pub sound-file : (rules : List PlainRule) (vs : List PlainKeyed) (a : PlainArchive) (bytes : List ℕ) → SoundAs rules vs bytes → ArchiveOf vs a → IsFileOf rules a bytes
sound-file rules vs a bytes s is =
    let f = s.file in
    let same : f.archive ≡ a = one_archive vs f.archive a f.is is in
    record { specification = s.specification; has = subst (HasFile rules) same f.has; nested = versions-nested rules vs bytes a s is; spelled = f.spelled ∙ ap (file_bytes rules) same }

pub damage-of : (e : CursorFault) (f : StatsFault) (P : Type 0) → f ≡ of_cursor e → cursor.IfDamage e P → IfDamage f P
damage-of fault.Damage f P is h = subst (λ (x : StatsFault). IfDamage x P) (sym is) h
damage-of fault.Folder f P is h = subst (λ (x : StatsFault). IfDamage x P) (sym is) tt
damage-of fault.Memory f P is h = subst (λ (x : StatsFault). IfDamage x P) (sym is) tt

pub folder-of : (e : CursorFault) (f : StatsFault) (P : Type 0) → f ≡ of_cursor e → cursor.IfFolder e P → IfFolder f P
folder-of fault.Damage f P is h = subst (λ (x : StatsFault). IfFolder x P) (sym is) tt
folder-of fault.Folder f P is h = subst (λ (x : StatsFault). IfFolder x P) (sym is) h
folder-of fault.Memory f P is h = subst (λ (x : StatsFault). IfFolder x P) (sym is) tt

-- a file that is counted gives no damage where it is sound
pub unsound : (name bytes : List ℕ) (size : ℕ) (s t : Seen) (e : CursorFault) → TellsFront s.files name size bytes → FileCounted name size s t (Err e) → cursor.IfDamage e ((rules : List PlainRule) (vs : List PlainKeyed) → ¬ SoundAs rules vs bytes)
unsound name bytes size s t fault.Damage tells h = λ rules vs sound. h.counts bytes rules sound.file.archive tells (sound-file rules vs sound.file.archive bytes sound sound.file.is)
unsound name bytes size s t fault.Folder tells h = tt
unsound name bytes size s t fault.Memory tells h = tt

-- ---- an archive in memory

pub too-long : (e : EncodeFault) (P : Type 0) → e ≡ TooLong → IfTooLong e P → P
too-long e P is h = subst (λ (f : EncodeFault). IfTooLong f P) is h

-- a file that was put into a folder
put-there : (files : Files) (name bytes : List ℕ) → finite.get (finite.insert files name bytes) name ≡ Some bytes
put-there files name bytes =
    finite.get-insert nat_list_cmp_total files name bytes name ∙ ap (λ b. cond b (Some bytes) (finite.get files name)) (is_eq-slice_cmp name name ∙ (bytes_eq-Decides name name).1 refl)

front-all : (bytes : List ℕ) → front (length bytes) bytes ≡ Some bytes
front-all bytes = (let all : leb (length bytes) (length bytes) ≡ true = grind (arith, nat_tests) in rw all (ap Some (take_all (length bytes) bytes (omega arith))))

alone-front : (files : Files) (name bytes : List ℕ) (n : ℕ) → n ≡ length bytes → front_of (finite.insert files name bytes) name n ≡ Some bytes
alone-front files name bytes n long = ap (λ o. front n (bytes_or_none o)) (put-there files name bytes) ∙ ap (λ k. front k bytes) long ∙ front-all bytes

pub alone-tells : (none one : SureState) (name bytes : List ℕ) (n : ℕ) → none ≡ record { files = Some finite.empty; numbers = numbers_none } → one ≡ record { files = option_map (λ (fs : Files). finite.insert fs name bytes) none.files; numbers = none.numbers } → n ≡ length bytes
    → TellsFront one.files name n bytes
alone-tells none one name bytes n empty put long = (
  finite.insert finite.empty name bytes,
  ap (λ (s : SureState). s.files) put ∙ ap (λ (s : SureState). option_map (λ (fs : Files). finite.insert fs name bytes) s.files) empty,
  alone-front finite.empty name bytes n long,
)
