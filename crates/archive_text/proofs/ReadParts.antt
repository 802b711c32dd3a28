-- Where the parts of a text lie.
use Rattle.std.proofs.Common.{◌≡◌, ◌≢◌, ℕ, ◌≤◌, List, [], ◌∷◌, ◌++◌, length, map, get_or, codes, Ok, refl, sym, ap, ◌∙◌, subst}
use Rattle.key_spec.specs.Data.{PlainRule}
use Rattle.key_spec.specs.Canonical.{canonical}
use Rattle.key_spec.specs.Closed.{closed}
use Rattle.archive_tree.specs.Data.{PlainArchive}
use Rattle.jsonml_lines.specs.Lines.{PlainLine}
use Rattle.archive_text.specs.Texts.{text_lines}
use Rattle.archive_text.specs.Export.{key_line, note_lines, end_line, nodes_lines}
use Rattle.archive_text.specs.Reading.{AreLines, ArePartsOf, rejoined}
use Rattle.archive_text.proofs.Found.{begun, moved}
use Rattle.archive_text.proofs.OneText.{first_kind, last_kind, notes_kind, canonical_again}

-- lines the first of which has another word
pub record BeginElse (word : List ℕ) (ls : List PlainLine) : Type 0 where
  pub first : PlainLine
  pub others : List PlainLine
  pub is : ls ≡ first ∷ others
  pub other : first.word ≢ word

abbrev pub last_lines : PlainArchive → List PlainLine
last_lines a = nodes_lines a.kids ++ end_line ∷ []

abbrev pub later_lines : PlainArchive → List (List ℕ) → List PlainLine
later_lines a notes = note_lines 1 notes ++ last_lines a

abbrev pub key_lines : List PlainRule → List PlainLine
key_lines rules = map key_line (text_lines (canonical rules))

begin_else : (word : List ℕ) (d : ℕ) → get_or word 0 0 ≡ d → (xs : List PlainLine) (x : PlainLine) (ys : List PlainLine) → (first_kind (xs ++ x ∷ ys) ≡ d → ⊥) → BeginElse word (xs ++ x ∷ ys)
begin_else word d is xs x ys h =
    let b = begun xs x ys in
    record { first = b.first; others = b.others; is = b.is; other = λ e. h (ap first_kind b.is ∙ ap (λ w. get_or w 0 0) e ∙ is) }

pub behind_notes : (a : PlainArchive) → BeginElse (codes "note") (last_lines a)
behind_notes a = begin_else (codes "note") 110 refl (nodes_lines a.kids) end_line [] (last_kind a.kids 110 refl refl refl)

pub behind_keys : (a : PlainArchive) (notes : List (List ℕ)) → BeginElse (codes "key") (later_lines a notes)
behind_keys a notes =
    let last = behind_notes a in
    let kind = notes_kind 1 notes (last_lines a) (last_kind a.kids 107 refl refl refl) in
    let own = begin_else (codes "key") 107 refl (note_lines 1 notes) last.first last.others (λ e. kind (ap (λ ls. first_kind (note_lines 1 notes ++ ls)) last.is ∙ e)) in
    record { first = own.first; others = own.others; is = ap (λ ls. note_lines 1 notes ++ ls) last.is ∙ own.is; other = own.other }

-- ---- the specification

pub rules_again : (rules : List PlainRule) (a : PlainArchive) (notes : List (List ℕ)) (bytes : List ℕ) → ArePartsOf rules a notes bytes → closed (rejoined (text_lines (canonical rules))) ≡ Ok rules
rules_again rules a notes bytes p = ap closed (canonical_again rules) ∙ p.specification

pub short_again : (rules : List PlainRule) (a : PlainArchive) (notes : List (List ℕ)) (bytes : List ℕ) → ArePartsOf rules a notes bytes → length (rejoined (text_lines (canonical rules))) ≤ 1048576
short_again rules a notes bytes p = subst (λ (t : List ℕ). length t ≤ 1048576) (sym (canonical_again rules)) p.short

-- ---- what lies behind a part that was read

pub keys_lie : (rules : List PlainRule) (a : PlainArchive) (notes : List (List ℕ)) (now : List ℕ) → AreLines (key_lines rules ++ later_lines a notes) now → AreLines (key_lines rules ++ (behind_keys a notes).first ∷ (behind_keys a notes).others) now
keys_lie rules a notes now h = moved _ _ now (ap (λ ls. key_lines rules ++ ls) (behind_keys a notes).is) h

pub notes_lie : (a : PlainArchive) (notes : List (List ℕ)) (now : List ℕ) → AreLines ((behind_keys a notes).first ∷ (behind_keys a notes).others) now → AreLines (note_lines 1 notes ++ (behind_notes a).first ∷ (behind_notes a).others) now
notes_lie a notes now h = moved _ _ now (sym (behind_keys a notes).is ∙ ap (λ ls. note_lines 1 notes ++ ls) (behind_notes a).is) h

pub nodes_lie : (a : PlainArchive) (now : List ℕ) → AreLines ((behind_notes a).first ∷ (behind_notes a).others) now → AreLines (last_lines a) now
nodes_lie a now h = moved _ _ now (sym (behind_notes a).is) h
