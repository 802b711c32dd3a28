-- How the parts of `add` lead to its end.
use Rattle.std.proofs.Common.{◌≡◌, ◌≢◌, inl, inr, ℕ, ◌<◌, ◌≤◌, nat_lt, true, List, [], ◌∷◌, ◌++◌, length, Option, Some, None, Result, Ok, Err, refl, sym, ap, ◌∙◌, subst, arith}
use Rattle.std.proofs.lemmas.Bool.{lt-ltb}
use Rattle.std.specs.FinMap as map
use Rattle.xa_outside.specs.Folder.{Files}
use Rattle.xa_outside.specs.Taken.{Taken}
use Rattle.jsonml_tree.specs.Data.{PlainTree}
use Rattle.key_spec.specs.Data.{PlainRule}
use Rattle.keyed_tree.specs.Data.{PlainKeyed}
use Rattle.key_spec.specs.Canonical.{canonical}
use Rattle.key_spec.specs.Closed.{closed}
use Rattle.record_cursor.specs.View.{PlainHeader}
use Rattle.record_format.specs.Files.{FileOf}
use Rattle.record_format.specs.Fronts.{header}
use Rattle.record_format.specs.declared.limits.TheConstants.{LONGEST}
use Rattle.version_notes.specs.Parts.{parts_behind, parts_in}
use Rattle.noted_file.specs.Contents.{Contents, with_version}
use Rattle.noted_file.specs.Full.{FullAs}
use Rattle.xarch_words.specs.Commands.{add}
use Rattle.xarch_words.specs.Refusal.{archive, document, versions, Refusal, no_file, damaged, limit, PlainFault, refused, folder_fault, out_fault, in_fault, memory}
use Rattle.xarch_words.specs.declared.limits.TheConstants.{DOCUMENT}
use Rattle.xarch_meanings.specs.Add.{add_input, add_read, added, AddsTo, MayAdd, room_behind, text_behind, text_read, tree_of, with_tree}
use Rattle.xarch_writes.specs.Added.{AddEnds, IsNotAdded, TreeEnds}
use Rattle.xarch_parts.specs.Archives.{ArchiveIs, GoesOn, Stores, short_note}
use Rattle.xarch_parts.specs.CoreLaws.{front-sound}
use Rattle.xarch_parts.specs.Inputs.{file_of, length_in, read_in}
use Rattle.xarch_parts.specs.Outcome.{Outcome, and_then, or_refuse}
use Rattle.xarch_parts.specs.Readings.{document_of, front_in, keyed_of}
use Rattle.xarch_parts.specs.Allowed.{MayEnd}
use Rattle.xarch_parts.specs.AllowedLaws.{MayEnd-did, MayEnd-more, MayEnd-stopped, defined_refused}
use Rattle.xa_outside.specs.TakenLaws.{Takes-nil}
use Rattle.xarch_meanings.specs.Meanings.{MayBe}
use Rattle.xarch_meanings.specs.Over.{MayOver}
use Rattle.record_parts.specs.declared.limits.TheConstants.{MOST_VERSIONS}

-- ---- the rules of the archive and the keyed tree of the document

abbrev pub beside : List PlainRule × ℕ → Result PlainKeyed Refusal → Result ((List PlainRule × ℕ) × PlainKeyed) Refusal
beside h x = and_then x (λ k. Ok (h, k))

beside-refused : (h : List PlainRule × ℕ) (x : Result PlainKeyed Refusal) (q : Refusal) → beside h x ≡ Err q → x ≡ Err q
beside-refused h (Ok k) q e = absurd cc
beside-refused h (Err r) q e = let same : r ≡ q = cc in ap (λ s. Err s) same

beside-given : (h g : List PlainRule × ℕ) (x : Result PlainKeyed Refusal) (k : PlainKeyed) → beside h x ≡ Ok (g, k) → (h ≡ g) × (x ≡ Ok k)
beside-given h g (Ok j) k e = let same : (h, j) ≡ (g, k) = cc in (ap (λ (p : (List PlainRule × ℕ) × PlainKeyed). p.0) same, ap (λ (p : (List PlainRule × ℕ) × PlainKeyed). Ok p.1) same)
beside-given h g (Err r) k e = absurd cc

abbrev with_room : (List PlainRule × ℕ) × PlainKeyed → Result ((List PlainRule × ℕ) × PlainKeyed) Refusal
with_room p = and_then (room_behind p.0.1) (λ _. Ok p)

room-last : (h : List PlainRule × ℕ) (k : PlainKeyed) (w : Result Unit Refusal) → and_then w (λ _. Ok (h, k)) ≡ beside h (and_then w (λ _. Ok k))
room-last h k (Ok u) = refl
room-last h k (Err e) = refl

-- the document behind a header, and room for it
tree-room : (h : List PlainRule × ℕ) (x : Result PlainKeyed Refusal) → and_then (and_then x (λ k. Ok (h, k))) with_room ≡ beside h (and_then x (λ k. and_then (room_behind h.1) (λ _. Ok k)))
tree-room h (Err e) = refl
tree-room h (Ok k) = room-last h k (room_behind h.1)

document-room : (h : List PlainRule × ℕ) (y : Result PlainTree Refusal)
    → and_then (and_then (and_then y (keyed_of h.0)) (λ k. Ok (h, k))) with_room ≡ beside h (and_then y (λ t. and_then (keyed_of h.0 t) (λ k. and_then (room_behind h.1) (λ _. Ok k))))
document-room h (Err e) = refl
document-room h (Ok t) = tree-room h (keyed_of h.0 t)

abbrev with_text : Result (List ℕ) Refusal → List PlainRule × ℕ → Result ((List PlainRule × ℕ) × List ℕ) Refusal
with_text b h = and_then b (λ bytes. Ok (h, bytes))

behind-room : (h : List PlainRule × ℕ) (x : Result ℕ Refusal) (b : Result (List ℕ) Refusal)
    → and_then (and_then (and_then x (λ _. with_text b h)) with_tree) with_room ≡ beside h (and_then x (λ _. and_then (and_then b document_of) (λ t. and_then (keyed_of h.0 t) (λ k. and_then (room_behind h.1) (λ _. Ok k)))))
behind-room h (Err e) b = refl
behind-room h (Ok n) (Err e) = refl
behind-room h (Ok n) (Ok bytes) = document-room h (document_of bytes)

-- ---- what may come

-- From what is known of all archive files with notes: where their parts stand, and the header in front.
module _ (has_parts : (c : Contents) (bytes : List ℕ) (full : FullAs c bytes) → parts_in bytes ≡ Some (parts_behind full.core c.notes))
    (fronted : (rules : List PlainRule) (vs : List PlainKeyed) (bytes : List ℕ) → closed (canonical rules) ≡ Ok rules → FileOf rules vs bytes → header bytes ≡ Some (rules, length vs))
    (files : Files) (name doc note : List ℕ) where
  -- what may come of a note that is short enough
  abbrev Over : Result Outcome Refusal → Type 0
  Over r = MayOver files name (GoesOn (add_input files name doc) (λ _. MayAdd files name)) (AddsTo files name doc note) r

  over-may : short_note note ≡ Ok tt → (r : Result Outcome Refusal) → Over r → MayBe files (add name doc note) r
  over-may short r h = subst (λ x. GoesOn x (λ _. MayOver files name (GoesOn (add_input files name doc) (λ _. MayAdd files name)) (AddsTo files name doc note)) r) (sym short) h

  -- the note is too long
  pub may_refuse_note : (q : Refusal) → short_note note ≡ Err q → MayBe files (add name doc note) (Err q)
  may_refuse_note q long = subst (λ x. GoesOn x (λ _. MayOver files name (GoesOn (add_input files name doc) (λ _. MayAdd files name)) (AddsTo files name doc note)) (Err q)) (sym long) refl

  -- over a sound archive the document is read by its rules
  input_sound : (c : Contents) (a : ArchiveIs files name c) → add_input files name doc ≡ beside (c.rules, length c.versions) (added files doc c.rules (length c.versions))
  input_sound c a =
      let h : List PlainRule × ℕ = (c.rules, length c.versions) in
      let front = front-sound has_parts files name c a fronted in
      ap (λ o. and_then (and_then (and_then (and_then (or_refuse o (no_file name)) (λ bytes. Ok (length bytes))) (λ _.
      and_then (length_in files doc document DOCUMENT) (λ _.
      and_then (read_in files name (front_in name)) (text_behind files doc)))) with_tree) with_room) a.there
      ∙ ap (λ x. and_then (and_then (and_then (length_in files doc document DOCUMENT) (λ _. and_then x (text_behind files doc))) with_tree) with_room) front
      ∙ behind-room h (length_in files doc document DOCUMENT) (file_of files doc)

  -- a refusal before the records are looked at
  may_refuse_input : (q : Refusal) → add_input files name doc ≡ Err q → Over (Err q)
  may_refuse_input q e = record {
    whatever = subst (λ x. GoesOn x (λ _. MayAdd files name) (Err q)) (sym e) refl;
    sound = λ c a.
        let none = beside-refused (c.rules, length c.versions) (added files doc c.rules (length c.versions)) q (sym (input_sound c a) ∙ e) in
        subst (λ x. GoesOn x (λ k. Stores files name (with_version c k note)) (Err q)) (sym none) refl;
  }

  may_refuse_early : (q : Refusal) → add_read files name doc ≡ Err q → Over (Err q)
  may_refuse_early q e = may_refuse_input q (ap (λ x. and_then x with_room) e)

  pub may_refuse_text : short_note note ≡ Ok tt → (q : Refusal) → text_read files name doc ≡ Err q → MayBe files (add name doc note) (Err q)
  may_refuse_text short q e = over-may short (Err q) (may_refuse_early q (ap (λ x. and_then x with_tree) e))

  module _ (h : PlainHeader) (k : PlainKeyed) (read : add_read files name doc ≡ Ok ((h.rules, h.versions), k)) where
    -- there is no room
    may_refuse_room : h.versions ≡ MOST_VERSIONS → Over (Err (limit versions MOST_VERSIONS))
    may_refuse_room full =
        let none : room_behind h.versions ≡ Err (limit versions MOST_VERSIONS) = ap room_behind full in
        may_refuse_input (limit versions MOST_VERSIONS) (ap (λ x. and_then x with_room) read ∙ ap (λ w. and_then w (λ _. Ok ((h.rules, h.versions), k))) none)

    module _ (room : h.versions < MOST_VERSIONS) where
      input : add_input files name doc ≡ Ok ((h.rules, h.versions), k)
      input =
          let some : room_behind h.versions ≡ Ok tt = (let fits : nat_lt h.versions MOST_VERSIONS ≡ true = lt-ltb h.versions MOST_VERSIONS room in rw fits refl) in
          ap (λ x. and_then x with_room) read ∙ ap (λ w. and_then w (λ _. Ok ((h.rules, h.versions), k))) some

      given : (c : Contents) (a : ArchiveIs files name c) → added files doc c.rules (length c.versions) ≡ Ok k
      given c a = (beside-given (c.rules, length c.versions) (h.rules, h.versions) (added files doc c.rules (length c.versions)) k (sym (input_sound c a) ∙ input)).1

      -- the new file comes
      may_replace : (new : List ℕ) → ((c : Contents) → ArchiveIs files name c → FullAs (with_version c k note) new)
          → Over (Ok (record { files = map.insert files name new; output = [] }))
      may_replace new full =
          let r : Result Outcome Refusal = Ok (record { files = map.insert files name new; output = [] }) in
          record {
            whatever = subst (λ x. GoesOn x (λ _. MayAdd files name) r) (sym input) (inr (inr (record { bytes = new; is = refl })));
            sound = λ c a.
                subst (λ x. GoesOn x (λ k. Stores files name (with_version c k note)) r) (sym (given c a)) (inl (record { bytes = new; full = full c a; is = refl }));
          }

      may_be_damaged : ((c : Contents) → ¬ ArchiveIs files name c) → Over (Err (damaged name))
      may_be_damaged none = record {
        whatever = subst (λ x. GoesOn x (λ _. MayAdd files name) (Err (damaged name))) (sym input) (inl refl);
        sound = λ c a. absurd (none c a);
      }

      may_be_long : ((c : Contents) → ArchiveIs files name c → (bytes : List ℕ) → ¬ FileOf c.rules (c.versions ++ k ∷ []) bytes) → Over (Err (limit archive LONGEST))
      may_be_long none =
          let r : Result Outcome Refusal = Err (limit archive LONGEST) in
          record {
            whatever = subst (λ x. GoesOn x (λ _. MayAdd files name) r) (sym input) (inr (inl refl));
            sound = λ c a.
                subst (λ x. GoesOn x (λ k. Stores files name (with_version c k note)) r) (sym (given c a)) (inr (record { none = none c a; is = refl }));
          }

    below : h.versions ≤ MOST_VERSIONS → h.versions ≢ MOST_VERSIONS → h.versions < MOST_VERSIONS
    below few not = omega (arith, few, not)

    may-refused : (q : Refusal) → h.versions ≤ MOST_VERSIONS → IsNotAdded files name h k q → Over (Err q)
    may-refused q few (inl full) = subst (λ z. Over (Err z)) (sym full.1) (may_refuse_room full.0)
    may-refused q few (inr (not, inl d)) = subst (λ z. Over (Err z)) (sym d.0) (may_be_damaged (below few not) d.1)
    may-refused q few (inr (not, inr l)) = subst (λ z. Over (Err z)) (sym l.0) (may_be_long (below few not) l.1)

    -- with what the merge ends, the command may end
    may-merged : (after : Option Files) (t : Taken) (ended : Option PlainFault) → h.versions ≤ MOST_VERSIONS → AddEnds files name h k note after ended → MayEnd Over ended after t t
    may-merged after t None few ends =
        let r = ends.1 in
        MayEnd-did Over (record { files = map.insert files name r.bytes; output = [] }) after t t (may_replace (below few ends.0) r.bytes r.full) r.tells (Takes-nil t)
    may-merged after t (Some (refused q)) few ends = MayEnd-stopped Over (refused q) after t (λ p e. (let same : q ≡ p = cc in subst (λ z. Over (Err z)) same (may-refused q few ends)))
    may-merged after t (Some folder_fault) few ends = MayEnd-stopped Over folder_fault after t (λ q e. absurd cc)
    may-merged after t (Some out_fault) few ends = MayEnd-stopped Over out_fault after t (λ q e. absurd cc)
    may-merged after t (Some in_fault) few ends = MayEnd-stopped Over in_fault after t (λ q e. absurd cc)
    may-merged after t (Some memory) few ends = MayEnd-stopped Over memory after t (λ q e. absurd cc)

  -- with what the document and its merge end, the command may end
  pub may-ended : short_note note ≡ Ok tt → (h : PlainHeader) (text : List ℕ) → text_read files name doc ≡ Ok ((h.rules, h.versions), text) → (after : Option Files) (t : Taken) (ended : Option PlainFault) → h.versions ≤ MOST_VERSIONS
      → TreeEnds files name h (tree_of h.rules text) note after ended → MayEnd (MayBe files (add name doc note)) ended after t t
  may-ended short h text read after t ended few ends =
      MayEnd-more Over (MayBe files (add name doc note)) (over-may short) ended after t t (by-tree (tree_of h.rules text) ended (ap (λ x. and_then x with_tree) read) ends)
    where
      by-tree : (x : Result PlainKeyed Refusal) (ended : Option PlainFault) → add_read files name doc ≡ beside (h.rules, h.versions) x → TreeEnds files name h x note after ended → MayEnd Over ended after t t
      by-tree (Ok k) ended is ends = may-merged h k is after t ended few ends
      by-tree (Err q) None is ends = absurd ends
      by-tree (Err q) (Some f) is ends = MayEnd-stopped Over f after t (λ p e. may_refuse_early p (is ∙ ap (beside (h.rules, h.versions)) (defined_refused {A = PlainKeyed} (Err q) f p ends e)))
