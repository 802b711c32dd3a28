-- What is appended to a draft, and notes that are pushed one after another.
use Rattle.std.proofs.Common.{◌≡◌, ℕ, zero, suc, ◌+◌, ◌≤◌, ◌<◌, Bool, true, false, not, map, take, get_or, String, Global, string_bytes, IsTrue, length-take, List, [], ◌∷◌, ◌++◌, length, Option, Some, None, option_map, Result, Ok, Err, refl, sym, ap, ◌∙◌, subst, append-nil, append_assoc, arith}
use Rattle.std.specs.List.{AllByRecursion}
use Rattle.std.specs.Result.{IsErrAnd, OnOk}
use Rattle.std.proofs.Math.Seq.{take-length}
use Rattle.std.proofs.lemmas.List.{length-map, get_or-map, take_more}
use Rattle.xa_outside.specs.Causes.{HasCause, Rose}
use Rattle.xa_outside.specs.Folder.{Files}
use Rattle.xa_outside.specs.Numbers.{Numbers, IsMeter}
use Rattle.version_notes.specs.Notes.{IsNote, are_empty, is_note, most, notes_part}
use Rattle.version_notes.specs.Writer.{Appends, PlainWriter, after, after_all, all_appended, appended, fresh, last_appended}
use Rattle.xarch_words.specs.Refusal.{PlainFault, folder_fault}
use Rattle.xarch_parts.specs.Archives.{IsDrafted}
use Rattle.xarch_parts.specs.EndLaws.{IsOfFolder-inside}
use Rattle.xarch_parts.specs.Ends.{IsInside, IsOfFolder}
use Rattle.xarch_parts.specs.FolderLaws.{writes-drafted, writes-none, writes-then}
use Rattle.xarch_parts.specs.Folders.{WritesOnly}

-- ---- writers

pub after-more : (w : PlainWriter) (done : List (List ℕ)) (note : List ℕ) → after_all w (done ++ note ∷ []) ≡ after (after_all w done) note
after-more w [] note = refl
after-more w (x ∷ xs) note = after-more (after w x) xs note

pub appended-more : (w : PlainWriter) (done : List (List ℕ)) (note : List ℕ) → all_appended w (done ++ note ∷ []) ≡ all_appended w done ++ appended (after_all w done) note
appended-more w [] note = append-nil (appended w note)
appended-more w (x ∷ xs) note = ap (λ (l : List ℕ). appended w x ++ l) (appended-more (after w x) xs note) ∙ sym (append_assoc (appended w x) (all_appended (after w x) xs) (appended (after_all (after w x) xs) note))

pub at-once-after : (w : PlainWriter) (notes : List (List ℕ)) → (after_all w notes).at_once ≡ w.at_once
at-once-after w [] = refl
at-once-after w (x ∷ xs) = at-once-after (after w x) xs

-- ---- drafts

pub gained-none : (d : Option (List ℕ)) → d ≡ option_map (λ x. x ++ []) d
gained-none None = refl
gained-none (Some x) = ap (λ (l : List ℕ). Some l) (sym (append-nil x))

pub gained-more : (a b c : Option (List ℕ)) (x y : List ℕ) → b ≡ option_map (λ d. d ++ x) a → c ≡ option_map (λ d. d ++ y) b → c ≡ option_map (λ d. d ++ (x ++ y)) a
gained-more a b c x y first second = second ∙ ap (option_map (λ d. d ++ y)) first ∙ twice a
  where
    twice : (d : Option (List ℕ)) → option_map (λ (l : List ℕ). l ++ y) (option_map (λ (l : List ℕ). l ++ x) d) ≡ option_map (λ (l : List ℕ). l ++ (x ++ y)) d
    twice None = refl
    twice (Some d) = ap (λ (l : List ℕ). Some l) (append_assoc d x y)

-- a draft that bytes were appended to
pub drafted-more : (d e : Option (List ℕ)) (x y : List ℕ) → IsDrafted d x → e ≡ option_map (λ b. b ++ y) d → IsDrafted e (x ++ y)
drafted-more None e x y is grown told there = (let wrong : None ≡ Some told = sym grown ∙ there in absurd cc)
drafted-more (Some b) e x y is grown told there = (let same : Some (b ++ y) ≡ Some told = sym grown ∙ there in let one : b ++ y ≡ told = cc in sym one ∙ ap (λ (l : List ℕ). l ++ y) (is b refl))

-- ---- causes

pub of-folder : (a b : ℕ) (v : PlainFault) → v ≡ folder_fault → Rose a b → IsOfFolder a b (Some v)
unfolding IsOfFolder
of-folder a b v is rose = subst (λ (z : PlainFault). IsOfFolder a b (Some z)) (sym is) rose

inside-none : IsInside None
unfolding IsInside
inside-none = tt

pub no-fault : (a b : ℕ) → IsOfFolder a b None
no-fault a b = IsOfFolder-inside a b None inside-none

-- ---- notes that were pushed to a writer

-- These notes were pushed to a writer that was fresh.
pub record Pushed {S : Type 0} (files : S → Option Files) (draft : S → Option (List ℕ)) (numbers : S → Numbers) (faults : S → ℕ) (old new : S) (noted : Bool) (w : PlainWriter) (done : List (List ℕ)) : Type 0 where
  pub writer : w ≡ after_all (fresh noted) done
  pub writes : WritesOnly files draft numbers old new None
  pub same_files : files new ≡ files old
  pub gained : draft new ≡ option_map (λ d. d ++ all_appended (fresh noted) done) (draft old)
  pub later : faults old ≤ faults new

module _ {S : Type 0} {files : S → Option Files} {draft : S → Option (List ℕ)} {numbers : S → Numbers} {faults : S → ℕ} where
  -- where the folder is only written to
  pub writes-appends : {T E : Type 0} (a b : S) (bytes : List ℕ) (r : Result T E) (v : Option PlainFault) → Appends files draft numbers faults a b bytes r → WritesOnly files draft numbers a b v
  writes-appends a b bytes (Ok u) v p = writes-drafted a b v bytes p.same_files p.gains
  writes-appends a b bytes (Err e) v p = writes-drafted a b v (take p.gains.count bytes) p.same_files p.gains.drafts

  pub pushed-none : (s : S) (noted : Bool) (w : PlainWriter) → w ≡ fresh noted → IsMeter (numbers s) → Pushed files draft numbers faults s s noted w []
  pushed-none s noted w is meter = record { writer = is; writes = writes-none s None meter; same_files = refl; gained = gained-none (draft s); later = omega arith }

  module _ (old mid new : S) (noted : Bool) (w : PlainWriter) (done : List (List ℕ)) (h : Pushed files draft numbers faults old mid noted w done) where
    -- another was pushed, or the folder failed
    pub pushed-writes : {T E : Type 0} (bytes : List ℕ) (r : Result T E) → Appends files draft numbers faults mid new bytes r → WritesOnly files draft numbers old new None
    pushed-writes bytes r p = writes-then old mid new None h.writes h.same_files (writes-appends mid new bytes r None p)

    pub pushed-next : {T E : Type 0} (note : List ℕ) (v : PlainWriter) (u : T) → Appends {E = E} files draft numbers faults mid new (appended w note) (Ok u) → v ≡ after w note → Pushed files draft numbers faults old new noted v (done ++ note ∷ [])
    pushed-next note v u p is =
        let first = h.later in
        let last = p.cause.later in
        record {
          writer = is ∙ ap (λ (x : PlainWriter). after x note) h.writer ∙ sym (after-more (fresh noted) done note);
          writes = pushed-writes (appended w note) (Ok u) p;
          same_files = p.same_files ∙ h.same_files;
          gained = gained-more (draft old) (draft mid) (draft new) _ _ h.gained p.gains.draft
              ∙ ap (λ (l : List ℕ). option_map (λ d. d ++ l) (draft old)) (ap (λ (x : PlainWriter). all_appended (fresh noted) done ++ appended x note) h.writer ∙ sym (appended-more (fresh noted) done note));
          later = omega (arith, first, last);
        }

    -- the folder fails only where its count rose
    pub pushed-cause : {T E : Type 0} (bytes : List ℕ) (r : Result T E) → Appends files draft numbers faults mid new bytes r → HasCause (faults old) (faults new) r
    pushed-cause bytes (Ok u) p = (let first = h.later in let last = p.cause.later in record { later = omega (arith, first, last); failed = tt })
    pushed-cause bytes (Err e) p = (let first = h.later in let last = p.cause.later in let rose = p.cause.failed in record { later = omega (arith, first, last); failed = omega (arith, first, rose) })

    -- all were pushed, and closed
    pub pushed-all : {T E : Type 0} (notes : List (List ℕ)) (r : Result T E) → done ≡ notes → all_appended (fresh noted) notes ++ last_appended (after_all (fresh noted) notes) ≡ notes_part notes → Appends files draft numbers faults mid new (last_appended w) r
        → OnOk r (draft new ≡ option_map (λ d. d ++ notes_part notes) (draft old))
    pushed-all notes (Ok u) all part p =
        gained-more (draft old) (draft mid) (draft new) _ _ h.gained p.gains.draft
        ∙ ap (λ (l : List ℕ). option_map (λ d. d ++ l) (draft old))
        (ap (λ (x : PlainWriter). all_appended (fresh noted) done ++ last_appended x) h.writer ∙ ap (λ (l : List (List ℕ)). all_appended (fresh noted) l ++ last_appended (after_all (fresh noted) l)) all ∙ part)
    pushed-all notes (Err e) all part p = tt

-- ---- the note that is pushed

name-at : (notes : List (String Global)) (i : ℕ) (t : String Global) (bytes : List ℕ) → i < length notes → t ≡ get_or notes i t → bytes ≡ string_bytes t → bytes ≡ get_or (map string_bytes notes) i []
name-at notes i t bytes within is e = e ∙ ap string_bytes is ∙ sym (get_or-map string_bytes notes i t [] within)

each-at : (notes : List (List ℕ)) (i : ℕ) → AllByRecursion IsNote notes → i < length notes → IsNote (get_or notes i [])
each-at [] i h within = absurd (omega (arith, within))
each-at (x ∷ xs) zero h within = h.0
each-at (x ∷ xs) (suc i) h within = each-at xs i h.1 (omega (arith, within))

module _ (notes : List (String Global)) (i : ℕ) (t : String Global) (bytes : List ℕ) (within : i < length notes) (is : t ≡ get_or notes i t) (e : bytes ≡ string_bytes t) where
  inside : i < length (map string_bytes notes)
  inside = (let many = length-map notes string_bytes in omega (arith, within, many))

  pub pushed-is-note : AllByRecursion IsNote (map string_bytes notes) → IsTrue (is_note bytes)
  pushed-is-note each = subst (λ (l : List ℕ). IsTrue (is_note l)) (sym (name-at notes i t bytes within is e)) (each-at (map string_bytes notes) i each inside).1

  pub one-more : take (i + 1) (map string_bytes notes) ≡ take i (map string_bytes notes) ++ bytes ∷ []
  one-more = take_more (map string_bytes notes) i [] inside ∙ ap (λ (l : List ℕ). take i (map string_bytes notes) ++ l ∷ []) (sym (name-at notes i t bytes within is e))

pub pushed-few : (w : PlainWriter) (noted : Bool) (i : ℕ) (notes : List (String Global)) → ((at_once : Bool) (notes : List (List ℕ)) → (after_all (fresh at_once) notes).pushed ≡ length notes) → w ≡ after_all (fresh noted) (take i (map string_bytes notes)) → i < length notes → length (map string_bytes notes) ≤ most → w.pushed < most
pushed-few w noted i notes pushed is within few =
    let is' = ap (λ (x : PlainWriter). x.pushed) is ∙ pushed noted (take i (map string_bytes notes)) in
    let long = length-take i (map string_bytes notes) in
    let many = length-map notes string_bytes in
    omega (arith, is', long, many, within, few)

-- all of them, where some is not empty if it is said so
pub closes : (w : PlainWriter) (noted : Bool) (notes : List (List ℕ)) → ((at_once : Bool) (notes : List (List ℕ)) → (after_all (fresh at_once) notes).used ≡ not (are_empty notes)) → w ≡ after_all (fresh noted) notes → (noted ≡ true → are_empty notes ≡ false) → w.at_once ≡ true → w.used ≡ true
closes w noted notes used is some once =
    let began : noted ≡ true = sym (at-once-after (fresh noted) notes) ∙ ap (λ (x : PlainWriter). x.at_once) (sym is) ∙ once in
    ap (λ (x : PlainWriter). x.used) is ∙ used noted notes ∙ ap not (some began)

pub all-taken : (notes : List (String Global)) (i : ℕ) → i ≡ length notes → take i (map string_bytes notes) ≡ map string_bytes notes
all-taken notes i is = ap (λ (n : ℕ). take n (map string_bytes notes)) (is ∙ sym (length-map notes string_bytes)) ∙ take-length (map string_bytes notes)

-- a call failed as a part of it did
pub cause-passed : {T U E : Type 0} (a b : ℕ) (r : Result T E) (e : E) → IsErrAnd r (λ d. d ≡ e) → HasCause {T = U} {E = E} a b (Err e) → HasCause a b r
cause-passed a b (Ok x) e h p = absurd h
cause-passed a b (Err d) e h p = record { later = p.later; failed = p.failed }
