-- Writing a version, as far as a sound archive goes.
use Rattle.std.proofs.Common.{◌≡◌, ◌≢◌, ℕ, zero, suc, ◌+◌, ◌-◌, ◌<◌, ◌≤◌, List, [], ◌∷◌, ◌++◌, length, drop, Option, Some, None, Result, Ok, Err, IfErr, IfOk, OnOk, slice_get, refl, sym, ap, subst, ◌∙◌, arith}
use Rattle.std.specs.List.{flat_map}
use Rattle.std.proofs.lemmas.List.{length-append, drop_at}
use Rattle.key_spec.specs.Data.{PlainRule}
use Rattle.keyed_tree.specs.Data.{PlainKeyed}
use Rattle.keyed_print.specs.KeyedText.{keyed_text}
use Rattle.archive_tree.specs.Data.{PlainArchive}
use Rattle.archive_tree.specs.Stands.{ArchiveOf, version_of}
use Rattle.archive_tree.proofs.OneArchive.{one_archive}
use Rattle.archive_file.specs.Sound.{SoundAs}
use Rattle.archive_file.proofs.FrontLaws.{sound-fixed}
use Rattle.xa_fields.proofs.Fields.{some_is}
use Rattle.xa_outside.specs.Folder.{Files, front, front_of}
use Rattle.xa_outside.specs.Numbers.{Numbers, PullsAtMost}
use Rattle.xa_outside.specs.NumberLaws.{PullsAtMost-more, PullsAtMost-trans}
use Rattle.xa_outside.specs.Taken.{Taken, Puts}
use Rattle.xa_outside.specs.TakenLaws.{TakesNone-refl, TakesPrefix-none}
use Rattle.jsonml_print.specs.Pen.{fresh}
use Rattle.record_format.specs.Files.{header_bytes, file_records, root_pieces, tail_bytes}
use Rattle.record_format.specs.Fronts.{fixed, header_at}
use Rattle.file_get.specs.Searched.{bytes_read}
use Rattle.record_format.specs.Spelling.{rec_bytes}
use Rattle.record_format.proofs.HeaderLaws.{header_again}
use Rattle.record_cursor.specs.Faults.{IfDamage}
use Rattle.record_cursor.specs.Moves.{TellsFront}
use Rattle.record_cursor.specs.Steps.{HasText}
use Rattle.record_cursor.specs.Steps as cursor
use Rattle.record_cursor.specs.declared.fault.CursorFault.{CursorFault}
use Rattle.record_cursor.specs.declared.fault.CursorFault.TheVariants as fault
use Rattle.record_cursor.proofs.Headers.{header-first}
use Rattle.file_rows.proofs.Children.{row_in}
use Rattle.file_rows.proofs.Fields.{has-front}
use Rattle.file_get.specs.Told.{IsBehind, IsSound, Judges, Unless, fault_of, is_version, of_cursor}
use Rattle.file_get.specs.State.{State, state}
use Rattle.file_get.specs.Walks.{Prefixed}
use Rattle.file_get.specs.Roots.{RootTold, TextPut}
use Rattle.file_get.specs.Written.{Few, IsUncounted, Written}
use Rattle.file_get.specs.declared.fault.GetFault.{GetFault}
use Rattle.file_get.specs.declared.fault.GetFault.TheVariants.{NoVersion, Damage, Folder, Out, Memory}
use Rattle.file_get.proofs.Wholes.{root_told}
use Rattle.file_get.proofs.States.{refused-unread}
use Rattle.file_get.proofs.States as states

-- ---- what is answered

judged-unread : (o : Option ℕ) (i : ℕ) (e : CursorFault) → IfDamage e (o ≡ None) → Judges i o (Some (of_cursor e))
judged-unread None i fault.Damage h = tt
judged-unread None i fault.Folder h = tt
judged-unread None i fault.Memory h = tt
judged-unread (Some n) i fault.Damage h = absurd cc
judged-unread (Some n) i fault.Folder h = tt
judged-unread (Some n) i fault.Memory h = tt

judged-put : (n i : ℕ) (e : Option GetFault) → is_version i n → IsBehind e → Judges i (Some n) e
judged-put n i None h b = h
judged-put n i (Some (NoVersion m)) h b = absurd b
judged-put n i (Some Damage) h b = h
judged-put n i (Some Folder) h b = tt
judged-put n i (Some Out) h b = h
judged-put n i (Some Memory) h b = tt

sound-unread : (o : Option ℕ) (n : ℕ) (e : CursorFault) → o ≡ Some n → IfDamage e (o ≡ None) → IsSound (Some (of_cursor e))
sound-unread o n fault.Damage s h = absurd cc
sound-unread o n fault.Folder s h = tt
sound-unread o n fault.Memory s h = tt

pub undamaged-of : {T : Type 0} (r : Result T GetFault) → IsSound (fault_of r) → IfErr r (λ e. e ≢ Damage)
undamaged-of (Ok x) h = tt
undamaged-of (Err Damage) h = absurd h
undamaged-of (Err (NoVersion n)) h = λ e. cc
undamaged-of (Err Folder) h = λ e. cc
undamaged-of (Err Out) h = λ e. cc
undamaged-of (Err Memory) h = λ e. cc

pub exactly-of : {T : Type 0} (r : Result T GetFault) (P : Type 0) → Unless (fault_of r) P → OnOk r P
exactly-of (Ok x) P h = h
exactly-of (Err e) P h = tt

pub puts-of : {T : Type 0} (s t : Taken) (r : Result T GetFault) (text : List ℕ) → Prefixed s t (fault_of r) text → Puts s t r text
puts-of s t (Ok x) text h = h
puts-of s t (Err e) text h = h

-- a file that has so many bytes has a front of so many
pub none-long : {T : Type 0} (r : Result T CursorFault) (file : List ℕ) (n : ℕ) → OnOk r (n ≤ length file) → front n file ≡ None → IfOk r (λ x. ⊥)
none-long (Ok x) file n h none = has-front file n h none
none-long (Err e) file n h none = tt

-- ---- sound archives

there : (vs : List PlainKeyed) (j : ℕ) → j < length vs → (k : PlainKeyed) × (slice_get vs j ≡ Some k)
there [] j h = absurd (omega (arith, h))
there (k ∷ vs) zero h = (k, refl)
there (k ∷ vs) (suc j) h = there vs j (omega (arith, h))

version-there : (vs : List PlainKeyed) (i : ℕ) → is_version i (length vs) → (k : PlainKeyed) × (version_of vs i ≡ Some k)
version-there vs zero h = (let x = h.0 in absurd (omega (arith, x)))
version-there vs (suc j) h = there vs j (let x = h.1 in omega (arith, x))

-- the header's length
first-is : (bytes : List ℕ) (rules : List PlainRule) (vs : List PlainKeyed) (a : PlainArchive) (first : ℕ) → SoundAs rules vs bytes → ArchiveOf vs a → HasText bytes first → first ≡ length (header_bytes rules a.n)
first-is bytes rules vs a first s is text =
    let b = s.file.archive in
    let head = header_bytes rules b.n in
    let rest = flat_map rec_bytes (file_records b) ++ tail_bytes b in
    let behind : drop (length head) bytes ≡ rest = ap (drop (length head)) s.file.spelled ∙ drop_at head rest (length head) refl in
    let read : header_at bytes ≡ Some ((rules, b.n), rest) = ap header_at s.file.spelled ∙ header_again rules b.n rest s.specification s.file.has.text s.file.has.count in
    let all : length bytes ≡ length head + length rest = ap length s.file.spelled ∙ length-append head rest in
    header-first bytes (rules, b.n) (length head) first (read ∙ ap (λ (y : List ℕ). Some ((rules, b.n), y)) (sym behind)) (omega (arith, all)) text
    ∙ ap (λ (c : PlainArchive). length (header_bytes rules c.n)) (one_archive vs b a s.file.is is)

-- ---- the three ends

module _ {S O : Type 0} (files : S → Option Files) (draft : S → Option (List ℕ)) (numbers : S → Numbers) (faults : S → ℕ) (taken : O → Taken) (out_faults : O → ℕ) (i : ℕ) (name : List ℕ) (size : ℕ) where
  abbrev pub at : S → O → ℕ → State
  at a o n = state files draft numbers faults taken out_faults a o fresh n

  -- a file that is told has so many bytes
  abbrev IsLong : S → Type 0
  IsLong a = (fs : Files) → files a ≡ Some fs → front_of fs name size ≡ None → ⊥

  few-of : (i : ℕ) (c : PlainArchive) (s t : State) → PullsAtMost 22 s.numbers t.numbers → Few i c s t
  few-of i c s t h = (λ is. PullsAtMost-more 22 (22 + bytes_read c i) s.numbers t.numbers (omega arith) h, λ not. h)

  rose : (a b d : ℕ) (e : Option CursorFault) → a ≤ b → cursor.IsCause b d e → cursor.IsCause a d e
  rose a b d None le h = tt
  rose a b d (Some fault.Damage) le h = tt
  rose a b d (Some fault.Folder) le h = omega (arith, le, h)
  rose a b d (Some fault.Memory) le h = tt

  -- the header was read, and then the last byte, or not
  pub reads-both : (a b d : S) (e : Option CursorFault) → cursor.OnlyReads files draft faults a b None → cursor.OnlyReads files draft faults b d e → cursor.OnlyReads files draft faults a d e
  reads-both a b d e h g = record {
    same_files = g.same_files ∙ h.same_files;
    same_draft = g.same_draft ∙ h.same_draft;
    later = (let x = h.later in let y = g.later in omega (arith, x, y));
    cause = rose (faults a) (faults b) (faults d) e h.later g.cause;
  }

  pub both-few : (a b d : S) → PullsAtMost 14 (numbers a) (numbers b) → PullsAtMost 1 (numbers b) (numbers d) → PullsAtMost 22 (numbers a) (numbers d)
  both-few a b d h g = PullsAtMost-more 15 22 (numbers a) (numbers d) (omega arith) (PullsAtMost-trans 14 1 (numbers a) (numbers b) (numbers d) h g)

  pub both-inside : (a b d : S) (first : ℕ) → (14 ≤ first) × (first ≤ size) → PullsAtMost 14 (numbers a) (numbers b) → PullsAtMost (size - first) (numbers b) (numbers d) → PullsAtMost size (numbers a) (numbers d)
  both-inside a b d first fits h g = (
      let least = fits.0 in
      let most = fits.1 in
      PullsAtMost-more (14 + (size - first)) size (numbers a) (numbers d) (omega (arith, least, most)) (PullsAtMost-trans 14 (size - first) (numbers a) (numbers b) (numbers d) h g))

  -- the header was not read, or not the last byte of a file without that version
  pub unread : (a b : S) (x : O) (m : ℕ) (e : CursorFault) → cursor.OnlyReads files draft faults a b (Some e) → PullsAtMost 22 (numbers a) (numbers b) → PullsAtMost size (numbers a) (numbers b)
      → ((bytes : List ℕ) → TellsFront (files a) name size bytes → IfDamage e (fixed bytes ≡ None)) → Written i name size (at a x m) (at b x m) (Some (of_cursor e))
  unread a b x m e reads pulls inside told = (
      let w = states.reads files draft numbers faults taken out_faults a b x fresh m m (Some e) size reads inside in
      record {
        same_files = w.same_files;
        same_draft = w.same_draft;
        later = w.later;
        out_later = w.out_later;
        cause = w.cause;
        pulls = inside;
        gained = w.gained;
        nothing = λ n f. TakesNone-refl (taken x);
        short = λ fs told none. refused-unread e;
        judges = λ bytes tells. judged-unread (fixed bytes) i e (told bytes tells);
        uncounted = λ bytes tells f. TakesNone-refl (taken x);
        undamaged = λ bytes rules vs tells s. sound-unread (fixed bytes) (length vs) e (sound-fixed rules vs bytes s) (told bytes tells);
        text = λ bytes rules vs k tells s is. TakesPrefix-none (taken x) (keyed_text k);
        few = λ bytes rules vs c tells s is. few-of i c (at a x m) (at b x m) pulls;
        steps = λ bytes rules vs c tells s is. omega arith;
        exact = λ bytes rules vs c tells s is. tt;
      })

  -- the archive has no such version
  pub missing : (a b : S) (x : O) (m v : ℕ) → cursor.OnlyReads files draft faults a b None → PullsAtMost 22 (numbers a) (numbers b) → PullsAtMost size (numbers a) (numbers b)
      → IsLong a → ((bytes : List ℕ) → TellsFront (files a) name size bytes → fixed bytes ≡ Some v) → (is_version i v → ⊥) → Written i name size (at a x m) (at b x m) (Some (NoVersion v))
  missing a b x m v reads pulls inside long told none = (
      let w = states.reads files draft numbers faults taken out_faults a b x fresh m m None size reads inside in
      record {
        same_files = w.same_files;
        same_draft = w.same_draft;
        later = w.later;
        out_later = w.out_later;
        cause = tt;
        pulls = inside;
        gained = w.gained;
        nothing = λ n f. TakesNone-refl (taken x);
        short = λ fs there few. absurd (long fs there few);
        judges = λ bytes tells. subst (λ (o : Option ℕ). Judges i o (Some (NoVersion v))) (sym (told bytes tells)) (refl, none);
        uncounted = λ bytes tells f. TakesNone-refl (taken x);
        undamaged = λ bytes rules vs tells s. tt;
        text = λ bytes rules vs k tells s is. TakesPrefix-none (taken x) (keyed_text k);
        few = λ bytes rules vs c tells s is. few-of i c (at a x m) (at b x m) pulls;
        steps = λ bytes rules vs c tells s is. omega arith;
        exact = λ bytes rules vs c tells s is. tt;
      })

  -- a fault that is behind the header
  not-missing : (e : Option GetFault) (n : ℕ) → IsBehind e → e ≡ Some (NoVersion n) → ⊥
  not-missing e n h is = subst IsBehind is h

  record Header (a : S) (v first : ℕ) : Type 0 where
    within : (14 ≤ first) × (first ≤ size)
    told : (bytes : List ℕ) → TellsFront (files a) name size bytes → fixed bytes ≡ Some v
    text : (bytes : List ℕ) → TellsFront (files a) name size bytes → HasText bytes first
    is : is_version i v

  told-root : (a b : S) (v first : ℕ) → files b ≡ files a → Header a v first → (bytes : List ℕ) (rules : List PlainRule) (vs : List PlainKeyed) (c : PlainArchive) (k : PlainKeyed) → TellsFront (files a) name size bytes → SoundAs rules vs bytes → ArchiveOf vs c
      → version_of vs i ≡ Some k → RootTold i (files b) name bytes size first (row_in first (root_pieces c)) c k
  told-root a b v first same h bytes rules vs c k tells s is at_i =
      root_told i (files b) name bytes size first rules vs c k (subst (λ (t : Option Files). TellsFront t name size bytes) (sym same) tells) s is at_i (first-is bytes rules vs c first s is (h.text bytes tells))

  counts : (a : S) (v first : ℕ) → Header a v first → (bytes : List ℕ) (rules : List PlainRule) (vs : List PlainKeyed) → TellsFront (files a) name size bytes → SoundAs rules vs bytes → v ≡ length vs
  counts a v first h bytes rules vs tells s = some_is v (length vs) (sym (h.told bytes tells) ∙ sound-fixed rules vs bytes s)

  has-version : (a : S) (v first : ℕ) → Header a v first → (bytes : List ℕ) (rules : List PlainRule) (vs : List PlainKeyed) → TellsFront (files a) name size bytes → SoundAs rules vs bytes → (k : PlainKeyed) × (version_of vs i ≡ Some k)
  has-version a v first h bytes rules vs tells s = version-there vs i (subst (is_version i) (counts a v first h bytes rules vs tells s) h.is)

  few-put : (a b d : S) (x y : O) (m n v first : ℕ) (c : PlainArchive) → PullsAtMost 14 (numbers a) (numbers b) → PullsAtMost (8 + bytes_read c i) (numbers b) (numbers d) → v ≡ c.n → is_version i v → Few i c (at a x m) (at d y n)
  few-put a b d x y m n v first c pulls more count is = (
    λ here. PullsAtMost-more (14 + (8 + bytes_read c i)) (22 + bytes_read c i) (numbers a) (numbers d) (omega arith) (PullsAtMost-trans 14 (8 + bytes_read c i) (numbers a) (numbers b) (numbers d) pulls more),
    λ none. absurd (none (subst (is_version i) count is)),
  )

  -- the version was written, or not to its end
  pub written : (a b d : S) (x y : O) (m n v first : ℕ) (e : Option GetFault) → cursor.OnlyReads files draft faults a b None → PullsAtMost 14 (numbers a) (numbers b) → (14 ≤ first) × (first ≤ size)
      → PullsAtMost first (numbers a) (numbers b)
      → ((bytes : List ℕ) → TellsFront (files a) name size bytes → fixed bytes ≡ Some v) → ((bytes : List ℕ) → TellsFront (files a) name size bytes → HasText bytes first) → is_version i v
      → TextPut i name size first (at b x m) (at d y n) e → Written i name size (at a x m) (at d y n) e
  written a b d x y m n v first e reads pulls within upto told text is put = (
      let h : Header a v first = record { within = within; told = told; text = text; is = is } in
      let r = states.reads files draft numbers faults taken out_faults a b x fresh m m None first reads upto in
      let w = states.walks-then (at a x m) (at b x m) (at d y n) e first (size - first) size (let le = within.1 in omega (arith, le)) r put.walks in
      let same : files b ≡ files a = r.same_files in
      record {
        same_files = w.same_files;
        same_draft = w.same_draft;
        later = w.later;
        out_later = w.out_later;
        cause = w.cause;
        pulls = w.pulls;
        gained = w.gained;
        nothing = λ j f. absurd (not-missing e j w.behind f);
        short = λ fs there few. put.short fs (same ∙ there) few;
        judges = λ bytes tells. subst (λ (o : Option ℕ). Judges i o e) (sym (told bytes tells)) (judged-put v i e is w.behind);
        uncounted = λ bytes tells f. absurd (subst (IsUncounted i) (told bytes tells) f is);
        undamaged = λ bytes rules vs tells s. (let k = has-version a v first h bytes rules vs tells s in let c = s.file.archive in (put.sound bytes (row_in first (root_pieces c)) c k.0 (told-root a b v first same h bytes rules vs c k.0 tells s s.file.is k.1)).0);
        text = λ bytes rules vs k tells s at_i. (let c = s.file.archive in (put.sound bytes (row_in first (root_pieces c)) c k (told-root a b v first same h bytes rules vs c k tells s s.file.is at_i)).1);
        few = λ bytes rules vs c tells s is_c. (let k = has-version a v first h bytes rules vs tells s in few-put a b d x y m n v first c pulls (put.sound bytes (row_in first (root_pieces c)) c k.0 (told-root a b v first same h bytes rules vs c k.0 tells s is_c k.1)).2 (counts a v first h bytes rules vs tells s ∙ is_c.count) is);
        steps = λ bytes rules vs c tells s is_c. (let k = has-version a v first h bytes rules vs tells s in (put.sound bytes (row_in first (root_pieces c)) c k.0 (told-root a b v first same h bytes rules vs c k.0 tells s is_c k.1)).3);
        exact = λ bytes rules vs c tells s is_c. (let k = has-version a v first h bytes rules vs tells s in (put.sound bytes (row_in first (root_pieces c)) c k.0 (told-root a b v first same h bytes rules vs c k.0 tells s is_c k.1)).4);
      })
