-- How the bytes of a batch are cut into lines, line by line.
use Rattle.std.proofs.Common.{◌≡◌, ℕ, ◌==◌, ◌||◌, List, [], ◌∷◌, ◌++◌, Bool, true, false, cond, not, refl, sym, ap, ◌∙◌, append_assoc, append-nil}
use Rattle.std.proofs.lemmas.List.Elements.{filter-append}
use Rattle.xarch_run.specs.Lines.{is_blank, has_line_feed, in_front_ended, cut, cut_ended, without_blanks, lines_of, ended_lines_of}
use Rattle.archive_text.specs.Texts.{in_front}

neither : (p q : Bool) → (p || q) ≡ false → (p ≡ false) × (q ≡ false)
neither true q e = cc
neither false q e = (refl, e)

-- ---- one line in front

cut-line : (l x : List ℕ) → has_line_feed l ≡ false → cut (l ++ 10 ∷ x) ≡ l ∷ cut x
cut-line [] x none = refl
cut-line (b ∷ l) x none =
    let parts = neither (b == 10) (has_line_feed l) none in
    ap (λ t. cond t ([] ∷ cut (l ++ 10 ∷ x)) (in_front b (cut (l ++ 10 ∷ x)))) parts.0 ∙ ap (in_front b) (cut-line l x parts.1)

cut_ended-line : (l x : List ℕ) → has_line_feed l ≡ false → cut_ended (l ++ 10 ∷ x) ≡ l ∷ cut_ended x
cut_ended-line [] x none = refl
cut_ended-line (b ∷ l) x none =
    let parts = neither (b == 10) (has_line_feed l) none in
    ap (λ t. cond t ([] ∷ cut_ended (l ++ 10 ∷ x)) (in_front_ended b (cut_ended (l ++ 10 ∷ x)))) parts.0 ∙ ap (in_front_ended b) (cut_ended-line l x parts.1)

-- ---- a rest without an LF

cut-rest : (b : ℕ) (l : List ℕ) → has_line_feed (b ∷ l) ≡ false → cut (b ∷ l) ≡ (b ∷ l) ∷ []
cut-rest b [] none =
    let parts = neither (b == 10) false none in
    ap (λ t. cond t ([] ∷ []) ((b ∷ []) ∷ [])) parts.0
cut-rest b (c ∷ l) none =
    let parts = neither (b == 10) (has_line_feed (c ∷ l)) none in
    ap (λ t. cond t ([] ∷ cut (c ∷ l)) (in_front b (cut (c ∷ l)))) parts.0 ∙ ap (in_front b) (cut-rest c l parts.1)

lines-rest : (l : List ℕ) → has_line_feed l ≡ false → lines_of l ≡ without_blanks (l ∷ [])
lines-rest [] none = refl
lines-rest (b ∷ l) none = ap without_blanks (cut-rest b l none)

cut_ended-rest : (l : List ℕ) → has_line_feed l ≡ false → cut_ended l ≡ []
cut_ended-rest [] none = refl
cut_ended-rest (b ∷ l) none =
    let parts = neither (b == 10) (has_line_feed l) none in
    ap (λ t. cond t ([] ∷ cut_ended l) (in_front_ended b (cut_ended l))) parts.0 ∙ ap (in_front_ended b) (cut_ended-rest l parts.1)

-- ---- bytes that end with an LF, or are none

-- they hold these lines, whatever comes behind them
pub record Cuts (bytes : List ℕ) (lines : List (List ℕ)) : Type 0 where
  pub all : (behind : List ℕ) → lines_of (bytes ++ behind) ≡ lines ++ lines_of behind
  pub ended : (behind : List ℕ) → ended_lines_of (bytes ++ behind) ≡ lines ++ ended_lines_of behind

pub Cuts-none : Cuts [] []
Cuts-none = record { all = λ behind. refl; ended = λ behind. refl }

regroup : (d l x : List ℕ) → (d ++ (l ++ 10 ∷ [])) ++ x ≡ d ++ (l ++ 10 ∷ x)
regroup d l x = append_assoc d (l ++ 10 ∷ []) x ∙ ap (λ y. d ++ y) (append_assoc l (10 ∷ []) x)

-- the line is one of them where it is not blank
behind_lines : (ls more : List (List ℕ)) (l : List ℕ) → ls ++ without_blanks (l ∷ more) ≡ (ls ++ without_blanks (l ∷ [])) ++ without_blanks more
behind_lines ls more l =
    ap (λ y. ls ++ y) (filter-append (λ (m : List ℕ). not (is_blank m)) (l ∷ []) more) ∙ sym (append_assoc ls (without_blanks (l ∷ [])) (without_blanks more))

pub Cuts-line : (d l : List ℕ) (ls : List (List ℕ)) → has_line_feed l ≡ false → Cuts d ls → Cuts (d ++ (l ++ 10 ∷ [])) (ls ++ without_blanks (l ∷ []))
Cuts-line d l ls none before =
    record {
      all = λ x. ap lines_of (regroup d l x) ∙ before.all (l ++ 10 ∷ x) ∙ ap (λ y. ls ++ without_blanks y) (cut-line l x none) ∙ behind_lines ls (cut x) l;
      ended = λ x. ap ended_lines_of (regroup d l x) ∙ before.ended (l ++ 10 ∷ x) ∙ ap (λ y. ls ++ without_blanks y) (cut_ended-line l x none) ∙ behind_lines ls (cut_ended x) l;
    }

-- the line behind the last LF is one of them where it is not blank
pub Cuts-last : (d l : List ℕ) (ls : List (List ℕ)) → has_line_feed l ≡ false → Cuts d ls → lines_of (d ++ l) ≡ ls ++ without_blanks (l ∷ [])
Cuts-last d l ls none before = before.all l ∙ ap (λ y. ls ++ y) (lines-rest l none)

-- what stands behind the last LF is no line that an LF ends
pub Cuts-ended : (d l : List ℕ) (ls : List (List ℕ)) → has_line_feed l ≡ false → Cuts d ls → ended_lines_of (d ++ l) ≡ ls
Cuts-ended d l ls none before = before.ended l ∙ ap (λ y. ls ++ without_blanks y) (cut_ended-rest l none) ∙ append-nil ls

pub without_blanks-blank : (l : List ℕ) → is_blank l ≡ true → without_blanks (l ∷ []) ≡ []
without_blanks-blank l e = ap (λ t. cond (not t) (l ∷ []) []) e

pub without_blanks-other : (l : List ℕ) → is_blank l ≡ false → without_blanks (l ∷ []) ≡ l ∷ []
without_blanks-other l e = ap (λ t. cond (not t) (l ∷ []) []) e
