-- How a command leads to its end that follows a path.
use Rattle.std.proofs.Common.{◌≡◌, inl, inr, ℕ, List, length, Some, Result, Ok, Err, refl, sym, ap, ◌∙◌, subst}
use Rattle.xa_outside.specs.Folder.{Files}
use Rattle.key_spec.specs.Canonical.{canonical}
use Rattle.key_spec.specs.Closed.{closed}
use Rattle.key_spec.specs.Data.{PlainRule}
use Rattle.keyed_tree.specs.Data.{PlainLabel, PlainKeyed}
use Rattle.record_format.specs.Files.{FileOf}
use Rattle.record_format.specs.Fronts.{header}
use Rattle.version_notes.specs.Parts.{parts_behind, parts_in}
use Rattle.noted_file.specs.Contents.{Contents}
use Rattle.noted_file.specs.Full.{FullAs}
use Rattle.xarch_words.specs.Refusal.{Refusal, damaged}
use Rattle.xarch_parts.specs.Archives.{ArchiveIs, GoesOn}
use Rattle.xarch_parts.specs.CoreLaws.{front-sound}
use Rattle.xarch_parts.specs.Inputs.{read_in}
use Rattle.xarch_parts.specs.Outcome.{Outcome, and_then}
use Rattle.xarch_parts.specs.Readings.{front_in}
use Rattle.xarch_meanings.specs.Over.{MayOver, MayWrite}

abbrev pub beside : List PlainRule × ℕ → Result (List PlainLabel) Refusal → Result ((List PlainRule × ℕ) × List PlainLabel) Refusal
beside h x = and_then x (λ ls. Ok (h, ls))

beside-refused : (h : List PlainRule × ℕ) (x : Result (List PlainLabel) Refusal) (q : Refusal) → beside h x ≡ Err q → x ≡ Err q
beside-refused h (Ok ls) q e = absurd cc
beside-refused h (Err r) q e = let same : r ≡ q = cc in ap (λ s. Err s) same

beside-given : (h g : List PlainRule × ℕ) (x : Result (List PlainLabel) Refusal) (ls : List PlainLabel) → beside h x ≡ Ok (g, ls) → x ≡ Ok ls
beside-given h g (Ok ks) ls e = let same : (h, ks) ≡ (g, ls) = cc in ap (λ (p : (List PlainRule × ℕ) × List PlainLabel). Ok p.1) same
beside-given h g (Err r) ls e = absurd cc

-- The labels that the path spells under some rules, or why it spells none; and what is written of them.
module _ (files : Files) (name : List ℕ) (spelled : List PlainRule → Result (List PlainLabel) Refusal) (text : List PlainKeyed → List PlainLabel → List ℕ) where
  -- the rules and the number of versions of the archive and the labels of the path, or the first refusal
  abbrev path_input : Result ((List PlainRule × ℕ) × List PlainLabel) Refusal
  path_input = and_then (read_in files name (front_in name)) (λ h. beside h (spelled h.0))

  abbrev outcome_over : List PlainRule → List PlainKeyed → Result Outcome Refusal
  outcome_over rules vs = and_then (spelled rules) (λ labels. Ok (record { files = files; output = text vs labels }))

  abbrev MayTell : Result Outcome Refusal → Type 0
  MayTell r = MayOver files name (GoesOn path_input (λ _. MayWrite files name)) (λ c s. s ≡ outcome_over c.rules c.versions) r

  -- From what is known of all archive files: their header stands in front; and of all with notes: where their parts stand.
  module _ (has_parts : (c : Contents) (bytes : List ℕ) (full : FullAs c bytes) → parts_in bytes ≡ Some (parts_behind full.core c.notes))
      (fronted : (rules : List PlainRule) (vs : List PlainKeyed) (bytes : List ℕ) → closed (canonical rules) ≡ Ok rules → FileOf rules vs bytes → header bytes ≡ Some (rules, length vs)) where
    -- over a sound archive the path is read by its rules
    input-sound : (c : Contents) → ArchiveIs files name c → path_input ≡ beside (c.rules, length c.versions) (spelled c.rules)
    input-sound c a = ap (λ x. and_then x (λ (h : List PlainRule × ℕ). beside h (spelled h.0))) (front-sound has_parts files name c a fronted)

    -- a refusal before the records are looked at
    pub path-refused : (q : Refusal) → path_input ≡ Err q → MayTell (Err q)
    path-refused q e = record {
      whatever = subst (λ x. GoesOn x (λ _. MayWrite files name) (Err q)) (sym e) refl;
      sound = λ c a. (
          let none = beside-refused (c.rules, length c.versions) (spelled c.rules) q (sym (input-sound c a) ∙ e) in
          sym (ap (λ x. and_then x (λ labels. Ok (record { files = files; output = text c.versions labels }))) none));
    }

    module _ (h : List PlainRule × ℕ) (labels : List PlainLabel) (input : path_input ≡ Ok (h, labels)) where
      pub path-given : (c : Contents) → ArchiveIs files name c → spelled c.rules ≡ Ok labels
      path-given c a = beside-given (c.rules, length c.versions) h (spelled c.rules) labels (sym (input-sound c a) ∙ input)

      -- something is written, and of a sound archive what is defined
      pub path-written : (output : List ℕ) → ((c : Contents) → ArchiveIs files name c → output ≡ text c.versions labels)
          → MayTell (Ok (record { files = files; output = output }))
      path-written output told =
          let r : Result Outcome Refusal = Ok (record { files = files; output = output }) in
          record {
            whatever = subst (λ x. GoesOn x (λ _. MayWrite files name) r) (sym input) (inr (record { output = output; is = refl }));
            sound = λ c a. (
                ap (λ (o : List ℕ). Ok (record { files = files; output = o })) (told c a)
                ∙ sym (ap (λ x. and_then x (λ labels. Ok (record { files = files; output = text c.versions labels }))) (path-given c a)));
          }

      -- the archive is damaged
      pub path-damaged : (q : Refusal) → q ≡ damaged name → ((c : Contents) → ¬ ArchiveIs files name c) → MayTell (Err q)
      path-damaged q e none = record {
        whatever = subst (λ x. GoesOn x (λ _. MayWrite files name) (Err q)) (sym input) (inl (ap (λ s. Err s) e));
        sound = λ c a. absurd (none c a);
      }
