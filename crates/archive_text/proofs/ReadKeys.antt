-- How the keys of a text are read line by line.
use Rattle.std.proofs.Common.{◌≡◌, ◌≢◌, ℕ, List, [], ◌∷◌, ◌++◌, map, codes, refl, sym, ap, ◌∙◌, subst, append_assoc, append-nil}
use Rattle.jsonml_lines.specs.Lines.{PlainLine}
use Rattle.archive_text.specs.Export.{text_cell, key_line}
use Rattle.archive_text.specs.Reading.{AreLines, rejoined}
use Rattle.archive_text.proofs.Found.{Tells, read}
use Rattle.archive_text.proofs.OneNode.{head}

-- what is left of the keys, where the text of the others was read
pub record KeysLeft (lines : List (List ℕ)) (l : PlainLine) (rest : List PlainLine) (text now : List ℕ) : Type 0 where
  pub left : List (List ℕ)
  pub split : rejoined lines ≡ text ++ rejoined left
  pub lies : AreLines (map key_line left ++ l ∷ rest) now

pub keys_start : (lines : List (List ℕ)) (l : PlainLine) (rest : List PlainLine) (now : List ℕ) → AreLines (map key_line lines ++ l ∷ rest) now → KeysLeft lines l rest [] now
keys_start lines l rest now h = record { left = lines; split = refl; lies = h }

-- no key is left where the line is none
done_at : (lines : List (List ℕ)) (l : PlainLine) (rest : List PlainLine) (text now : List ℕ) (line : PlainLine) (more : List PlainLine) (left : List (List ℕ)) → rejoined lines ≡ text ++ rejoined left → AreLines (map key_line left ++ l ∷ rest) now
    → map key_line left ++ l ∷ rest ≡ line ∷ more → line.word ≢ codes "key" → (text ≡ rejoined lines) × AreLines (l ∷ rest) now
done_at lines l rest text now line more [] split lies is other = (sym (split ∙ append-nil text), lies)
done_at lines l rest text now line more (k ∷ ks) split lies is other = absurd (other (ap (λ (x : PlainLine). x.word) (sym (head (key_line k) line (map key_line ks ++ l ∷ rest) more is).0)))

pub keys_done : (lines : List (List ℕ)) (l : PlainLine) (rest : List PlainLine) (text now : List ℕ) (line : PlainLine) (after : List ℕ) → KeysLeft lines l rest text now → Tells now line after → line.word ≢ codes "key"
    → (text ≡ rejoined lines) × AreLines (l ∷ rest) now
keys_done lines l rest text now line after h tells other =
    let r = read (map key_line h.left) l rest now line after h.lies tells in done_at lines l rest text now line r.others h.left h.split h.lies r.is other

-- the next key
pub record KeyNext (lines : List (List ℕ)) (l : PlainLine) (rest : List PlainLine) (text : List ℕ) (line : PlainLine) (after : List ℕ) : Type 0 where
  pub key : List ℕ
  pub cells : line.cells ≡ text_cell key ∷ []
  pub on : KeysLeft lines l rest ((text ++ key) ++ 10 ∷ []) after

next_at : (lines : List (List ℕ)) (l : PlainLine) (rest : List PlainLine) (text : List ℕ) (line : PlainLine) (more : List PlainLine) (after : List ℕ) (left : List (List ℕ)) → rejoined lines ≡ text ++ rejoined left → l.word ≢ codes "key"
    → map key_line left ++ l ∷ rest ≡ line ∷ more → line.word ≡ codes "key" → AreLines more after → KeyNext lines l rest text line after
next_at lines l rest text line more after [] split other is own lies = absurd (other (ap (λ (x : PlainLine). x.word) (head l line rest more is).0 ∙ own))
next_at lines l rest text line more after (k ∷ ks) split other is own lies =
    let parts = head (key_line k) line (map key_line ks ++ l ∷ rest) more is in
    record {
      key = k;
      cells = ap (λ (x : PlainLine). x.cells) (sym parts.0);
      on = record {
        left = ks;
        split = split ∙ ap (λ t. text ++ t) (append_assoc k (10 ∷ []) (rejoined ks)) ∙ sym (append_assoc text k (10 ∷ rejoined ks)) ∙ sym (append_assoc (text ++ k) (10 ∷ []) (rejoined ks));
        lies = subst (λ (ls : List PlainLine). AreLines ls after) (sym parts.1) lies;
      };
    }

pub keys_next : (lines : List (List ℕ)) (l : PlainLine) (rest : List PlainLine) (text now : List ℕ) (line : PlainLine) (after : List ℕ) → KeysLeft lines l rest text now → l.word ≢ codes "key" → Tells now line after → line.word ≡ codes "key"
    → KeyNext lines l rest text line after
keys_next lines l rest text now line after h other tells own =
    let r = read (map key_line h.left) l rest now line after h.lies tells in next_at lines l rest text line r.others after h.left h.split other r.is own r.lines

pub keys_on : (lines : List (List ℕ)) (l : PlainLine) (rest : List PlainLine) (text : List ℕ) (line : PlainLine) (after : List ℕ) (n : KeyNext lines l rest text line after) (s mid feed new : List ℕ) → s ≡ n.key → mid ≡ text ++ s → feed ≡ 10 ∷ [] → new ≡ mid ++ feed → KeysLeft lines l rest new after
keys_on lines l rest text line after n s mid feed new e f g h =
    let whole : new ≡ (text ++ n.key) ++ 10 ∷ [] = h ∙ ap (λ t. mid ++ t) g ∙ ap (λ t. t ++ 10 ∷ []) (f ∙ ap (λ t. text ++ t) e) in
    subst (λ (t : List ℕ). KeysLeft lines l rest t after) (sym whole) n.on
