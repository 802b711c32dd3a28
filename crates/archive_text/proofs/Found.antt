-- What is found when a fault is handed on, and lists of lines that begin with one.
use Rattle.std.proofs.Common.{◌≡◌, ℕ, List, [], ◌∷◌, ◌++◌, Result, Ok, Err, refl, sym, ap, ◌∙◌, subst}
use Rattle.std.specs.Result.{IsErrAnd}
use Rattle.jsonml_lines.specs.Lines.{PlainLine}
use Rattle.archive_tree.specs.Data.{PlainNodes, PlainArchive}
use Rattle.archive_text.specs.Reading.{AreLines, Finds}
use Rattle.archive_text.specs.declared.fault.ReadFault.{ReadFault}
use Rattle.archive_text.specs.declared.fault.ReadFault.TheVariants.{Bad, Memory}

-- what a fault says that is handed on
pub hands_on : {X Y : Type 0} (P : X → Type 0) (Q : Y → Type 0) (r : Result X ReadFault) (e : ReadFault) → IsErrAnd r (λ d. d ≡ e) → Finds {X = Y} (Err e) Q → Finds r P
hands_on P Q (Ok x) e h g = absurd h
hands_on P Q (Err Bad) Bad h g = g
hands_on P Q (Err Bad) Memory h g = absurd cc
hands_on P Q (Err Memory) e h g = tt

-- want of memory says nothing
pub no_memory : {X : Type 0} (P : X → Type 0) (r : Result X ReadFault) → IsErrAnd r (λ d. d ≡ Memory) → Finds r P
no_memory P (Ok x) h = absurd h
no_memory P (Err Bad) h = absurd cc
no_memory P (Err Memory) h = tt

-- a list with an element in it, as its first and the others
pub record Begun {X : Type 0} (xs : List X) : Type 0 where
  pub first : X
  pub others : List X
  pub is : xs ≡ first ∷ others

pub begun : {X : Type 0} (xs : List X) (x : X) (ys : List X) → Begun (xs ++ x ∷ ys)
begun [] x ys = record { first = x; others = ys; is = refl }
begun (w ∷ ws) x ys = record { first = w; others = ws ++ x ∷ ys; is = refl }

-- what a call that reads a line says of it
abbrev pub Tells : List ℕ → PlainLine → List ℕ → Type 0
Tells now line after = (l : PlainLine) (ls : List PlainLine) → AreLines (l ∷ ls) now → (line ≡ l) × AreLines ls after

-- the line that was read is the first, and the others lie behind it
pub record Read (ls : List PlainLine) (line : PlainLine) (after : List ℕ) : Type 0 where
  pub others : List PlainLine
  pub is : ls ≡ line ∷ others
  pub lines : AreLines others after

pub read : (xs : List PlainLine) (x : PlainLine) (ys : List PlainLine) (now : List ℕ) (line : PlainLine) (after : List ℕ) → AreLines (xs ++ x ∷ ys) now → Tells now line after → Read (xs ++ x ∷ ys) line after
read xs x ys now line after h tells =
    let b = begun xs x ys in
    let told = tells b.first b.others (subst (λ (ls : List PlainLine). AreLines ls now) b.is h) in
    record { others = b.others; is = b.is ∙ ap (λ l. l ∷ b.others) (sym told.0); lines = told.1 }

-- where no line was read, one lies there
pub read_fails : {X Y : Type 0} (xs : List PlainLine) (x : PlainLine) (ys : List PlainLine) (now : List ℕ) (P : X → Type 0) (Q : PlainLine → List PlainLine → Y → Type 0) (r : Result X ReadFault) (e : ReadFault) → IsErrAnd r (λ d. d ≡ e) → AreLines (xs ++ x ∷ ys) now
    → ((l : PlainLine) (ls : List PlainLine) → AreLines (l ∷ ls) now → Finds {X = Y} (Err e) (Q l ls)) → Finds r P
read_fails xs x ys now P Q r e h lies found =
    let b = begun xs x ys in
    hands_on P (Q b.first b.others) r e h (found b.first b.others (subst (λ (ls : List PlainLine). AreLines ls now) b.is lies))

-- ---- results that are known

pub ok_is : {X E : Type 0} (r : Result X E) (x y : X) → r ≡ Ok x → r ≡ Ok y → x ≡ y
ok_is r x y e f = cc

pub not_err : {X E : Type 0} (r : Result X E) (e : E) (x : X) → r ≡ Err e → r ≡ Ok x → ⊥
not_err r e x g f = cc

pub moved : (ls ms : List PlainLine) (now : List ℕ) → ls ≡ ms → AreLines ls now → AreLines ms now
moved ls ms now e h = subst (λ (xs : List PlainLine). AreLines xs now) e h

pub same_archive : (a : PlainArchive) (n : ℕ) (ks : PlainNodes) → n ≡ a.n → ks ≡ a.kids → record { n = n; kids = ks } ≡ a
same_archive a n ks e f = λ i. record { n = e i; kids = f i }
