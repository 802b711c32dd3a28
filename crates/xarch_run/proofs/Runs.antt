-- Runs of lines, one behind another.
use Rattle.std.proofs.Common.{◌≡◌, ℕ, ◌≤◌, List, [], ◌∷◌, ◌++◌, take, Option, Some, None, refl, sym, ap, ◌∙◌, subst, arith, append_assoc, append-nil}
use Rattle.std.specs.List.{concat}
use Rattle.std.proofs.lemmas.Grind.{flat_map-append}
use Rattle.std.proofs.lemmas.List.{map-append}
use Rattle.std.proofs.lemmas.List.Folds.{concat-append}
use Rattle.xa_outside.specs.Causes.{Rose}
use Rattle.xa_outside.specs.Folder.{Files}
use Rattle.xa_outside.specs.Taken.{Taken, Takes, TakesNone, TakesPrefix}
use Rattle.xa_outside.specs.CauseLaws.{Rose-later}
use Rattle.xa_outside.specs.TakenLaws.{Takes-after_none, Takes-nil, Takes-trans, TakesNone-refl, TakesNone-trans}
use Rattle.xarch_parts.specs.Outcome.{Step}
use Rattle.xarch_meanings.specs.Ran.{Says}
use Rattle.xarch_run.specs.Steps.{AllAnswer, AllMakeNone, AreSteps, IfTold, IsStep, LinesLead, StepsAre, files_after, lines_said, outs, turn_text}
use Rattle.xarch_run.specs.Lines.{lines_of}
use Rattle.xarch_run.specs.Batch.{AreRead, Gains, RunsOver, SaysEach, Stops, StoppedAt, scene}

-- ---- steps

pub StepsAre-append : (f : Files) (ls ms : List (List ℕ)) (ss ts : List Step) → StepsAre f ls ss → StepsAre (files_after f ss) ms ts → StepsAre f (ls ++ ms) (ss ++ ts)
StepsAre-append f [] ms [] ts p q = q
StepsAre-append f [] ms (s ∷ ss) ts p q = absurd p
StepsAre-append f (l ∷ ls) ms [] ts p q = absurd p
StepsAre-append f (l ∷ ls) ms (s ∷ ss) ts p q = (p.0, StepsAre-append s.files ls ms ss ts p.1 q)

pub files_after-append : (f : Files) (ss ts : List Step) → files_after f (ss ++ ts) ≡ files_after (files_after f ss) ts
files_after-append f [] ts = refl
files_after-append f (s ∷ ss) ts = files_after-append s.files ss ts

AllAnswer-append : (ls ms : List (List ℕ)) (ss ts : List Step) → AllAnswer ls ss → AllAnswer ms ts → AllAnswer (ls ++ ms) (ss ++ ts)
AllAnswer-append [] ms [] ts p q = q
AllAnswer-append [] ms (s ∷ ss) ts p q = absurd p
AllAnswer-append (l ∷ ls) ms [] ts p q = absurd p
AllAnswer-append (l ∷ ls) ms (s ∷ ss) ts p q = (p.0, AllAnswer-append ls ms ss ts p.1 q)

pub LinesLead-append : (f g h : Files) (ls ms : List (List ℕ)) (ss ts : List Step) → LinesLead f ls ss g → LinesLead g ms ts h → LinesLead f (ls ++ ms) (ss ++ ts) h
LinesLead-append f g h ls ms ss ts p q =
    record {
      are = StepsAre-append f ls ms ss ts p.are (subst (λ (u : Files). StepsAre u ms ts) p.files q.are);
      files = q.files ∙ ap (λ (u : Files). files_after u ts) p.files ∙ sym (files_after-append f ss ts);
    }

AllMakeNone-split : (ls ms : List (List ℕ)) (ss ts : List Step) → AllAnswer ls ss → AllMakeNone (ls ++ ms) (ss ++ ts) → AllMakeNone ls ss × AllMakeNone ms ts
AllMakeNone-split [] ms [] ts p h = (tt, h)
AllMakeNone-split [] ms (s ∷ ss) ts p h = absurd p
AllMakeNone-split (l ∷ ls) ms [] ts p h = absurd p
AllMakeNone-split (l ∷ ls) ms (s ∷ ss) ts p h = (let rest = AllMakeNone-split ls ms ss ts p.1 h.1 in ((h.0, rest.0), rest.1))

-- files that are told now were told before
pub record ToldBefore (before : Option Files) : Type 0 where
  pub files : Files
  pub is : before ≡ Some files

pub told-before : (a b : Option Files) (g : Files) → (a ≡ None → b ≡ None) → b ≡ Some g → ToldBefore a
told-before None b g untold told = let none : b ≡ None = untold refl in cc
told-before (Some f) b g untold told = record { files = f; is = refl }

-- what holds of two parts holds of both
pub IfTold-trans : (P Q R : Files → Files → Type 0) (f g h : Option Files) → (g ≡ None → h ≡ None) → ((a b c : Files) → P a b → Q b c → R a c) → IfTold f g P → IfTold g h Q → IfTold f h R
IfTold-trans P Q R f g h untold both p q = λ a c before now.
    let mid = told-before g h c untold now in
    both a mid.files c (p a mid.files before mid.is) (q mid.files c mid.is now)

-- no step was taken
pub AreSteps-none : (f g : Option Files) → g ≡ f → AreSteps f g [] []
AreSteps-none f g same = record { answers = tt; leads = λ a b p q. (let files : Some b ≡ Some a = sym q ∙ same ∙ p in record { are = tt; files = cc }); kept = λ _. same }

pub AreSteps-one : (f g : Option Files) (l : List ℕ) (s : Step) → IsStep f g l s → IfTold f g (λ a b. b ≡ s.files) → AreSteps f g (l ∷ []) (s ∷ [])
AreSteps-one f g l s step left = record { answers = (step.answers, tt); leads = λ a b p q. record { are = (step.may a b p q, tt); files = left a b p q }; kept = λ h. step.kept h.0 }

pub AreSteps-append : (f g h : Option Files) (ls ms : List (List ℕ)) (ss ts : List Step) → (g ≡ None → h ≡ None) → AreSteps f g ls ss → AreSteps g h ms ts → AreSteps f h (ls ++ ms) (ss ++ ts)
AreSteps-append f g h ls ms ss ts untold p q =
    record {
      answers = AllAnswer-append ls ms ss ts p.answers q.answers;
      leads =
          IfTold-trans (λ a b. LinesLead a ls ss b) (λ b c. LinesLead b ms ts c) (λ a c. LinesLead a (ls ++ ms) (ss ++ ts) c) f g h untold
          (λ a b c first second. LinesLead-append a b c ls ms ss ts first second) p.leads q.leads;
      kept = λ h. (let both = AllMakeNone-split ls ms ss ts p.answers h in q.kept both.1 ∙ p.kept both.0);
    }

-- ---- what is gained

calm-first : (x y z : ℕ) → x ≤ y → y ≤ z → ¬ Rose x z → ¬ Rose x y
calm-first x y z p q h = λ rose. h (Rose-later x x y z (omega arith) rose q)

calm-second : (x y z : ℕ) → x ≤ y → y ≤ z → ¬ Rose x z → ¬ Rose y z
calm-second x y z p q h = λ rose. h (Rose-later x y z z p rose (omega arith))

-- a prefix of one line was said
SaysEach-one : (a b : Taken) (x : List ℕ) → TakesPrefix a b x → SaysEach a b (x ∷ [])
SaysEach-one a b x p = record { between = b; first = p; rest = TakesNone-refl b }

SaysEach-after : (a b c : Taken) (xs : List (List ℕ)) → TakesNone a b → SaysEach b c xs → SaysEach a c xs
SaysEach-after a b c [] p q = TakesNone-trans a b c p q
SaysEach-after a b c (x ∷ xs) p q = record {
  between = q.between;
  first = record { count = q.first.count; takes = Takes-after_none a b q.between (take q.first.count x) p q.first.takes };
  rest = q.rest;
}

SaysEach-append : (a b c : Taken) (xs ys : List (List ℕ)) → SaysEach a b xs → SaysEach b c ys → SaysEach a c (xs ++ ys)
SaysEach-append a b c [] ys p q = SaysEach-after a b c ys p q
SaysEach-append a b c (x ∷ xs) ys p q = record { between = p.between; first = p.first; rest = SaysEach-append p.between b c xs ys p.rest q }

-- one call behind another, whatever files they saw
pub Gains-trans : (f g h i j k : Option Files) (o p q e r t : Taken) (x y z : ℕ) (a b : List ℕ) (c d : List (List ℕ)) → x ≤ y → y ≤ z
    → Gains (scene f g o p e r x y) a c → Gains (scene h i p q r t y z) b d → Gains (scene j k o q e t x z) (a ++ b) (c ++ d)
Gains-trans f g h i j k o p q e r t x y z a b c d first second before now =
    record {
      output = Takes-trans o p q a b before.output now.output;
      line = λ calm. subst (Takes e t) (sym (concat-append c d)) (Takes-trans e r t (concat c) (concat d) (before.line (calm-first x y z first second calm)) (now.line (calm-second x y z first second calm)));
      pieces = SaysEach-append e r t c d before.pieces now.pieces;
    }

-- this was written, and a line said
pub Gains-one : (f g : Option Files) (o p e r : Taken) (x y : ℕ) (a d : List ℕ) → Takes o p a → Says e r x y d → Gains (scene f g o p e r x y) a (d ∷ [])
Gains-one f g o p e r x y a d output says =
    record { output = output; line = λ calm. subst (Takes e r) (sym (append-nil d)) (says.whole calm); pieces = SaysEach-one e r d says.prefix }

-- ---- runs

-- no line was run
pub RunsOver-none : (f g : Option Files) (o e : Taken) (x : ℕ) → g ≡ f → RunsOver (scene f g o o e e x x) [] []
RunsOver-none f g o e x same = record { steps = []; are = AreSteps-none f g same; gains = record { output = Takes-nil o; line = λ calm. Takes-nil e; pieces = TakesNone-refl e } }

outs-both : (ss ts : List Step) → outs ss ++ outs ts ≡ outs (ss ++ ts)
outs-both ss ts = sym (flat_map-append turn_text ss ts)

said-both : (ss ts : List Step) (d : List (List ℕ)) → (lines_said ss ++ []) ++ (lines_said ts ++ d) ≡ lines_said (ss ++ ts) ++ d
said-both ss ts d =
    ap (λ l. l ++ (lines_said ts ++ d)) (append-nil (lines_said ss)) ∙ sym (append_assoc (lines_said ss) (lines_said ts) d)
    ∙ ap (λ l. l ++ d) (sym (map-append (λ (s : Step). s.line) ss ts))

-- the lines of one run, and those of a run behind it
pub RunsOver-trans : (f g h : Option Files) (o p q e r t : Taken) (x y z : ℕ) (ls ms d : List (List ℕ)) → x ≤ y → y ≤ z → (g ≡ None → h ≡ None)
    → RunsOver (scene f g o p e r x y) ls [] → RunsOver (scene g h p q r t y z) ms d → RunsOver (scene f h o q e t x z) (ls ++ ms) d
RunsOver-trans f g h o p q e r t x y z ls ms d first second untold before now =
    let ss = before.steps in
    let ts = now.steps in
    let gains = Gains-trans f g g h f h o p q e r t x y z (outs ss) (outs ts) (lines_said ss ++ []) (lines_said ts ++ d) first second before.gains now.gains in
    record {
      steps = ss ++ ts;
      are = AreSteps-append f g h ls ms ss ts untold before.are now.are;
      gains =
          subst (λ (l : List ℕ). Gains (scene f h o q e t x z) l (lines_said (ss ++ ts) ++ d)) (outs-both ss ts)
          (subst (λ (l : List (List ℕ)). Gains (scene f h o q e t x z) (outs ss ++ outs ts) l) (said-both ss ts d) gains);
    }

-- a line was said behind a run
pub RunsOver-said : (f g : Option Files) (o p e r t : Taken) (x y z : ℕ) (ls : List (List ℕ)) (d : List ℕ) → x ≤ y → y ≤ z
    → RunsOver (scene f g o p e r x y) ls [] → Says r t y z d → RunsOver (scene f g o p e t x z) ls (d ∷ [])
RunsOver-said f g o p e r t x y z ls d first second before says =
    subst (λ (l : List (List ℕ)). RunsOver (scene f g o p e t x z) l (d ∷ [])) (append-nil ls)
    (RunsOver-trans f g g o p p e r t x y z ls [] (d ∷ []) first second (λ none. none) before (record { steps = []; are = AreSteps-none g g refl; gains = Gains-one g g p p r t y z [] d (Takes-nil p) says }))

-- the run of one line
pub RunsOver-one : (f g : Option Files) (o p e r : Taken) (x y : ℕ) (l : List ℕ) (s : Step) → IsStep f g l s → IfTold f g (λ a b. b ≡ s.files) → Takes o p (turn_text s) → Says e r x y s.line
    → RunsOver (scene f g o p e r x y) (l ∷ []) []
RunsOver-one f g o p e r x y l s may files output said =
    record {
      steps = s ∷ [];
      are = AreSteps-one f g l s may files;
      gains = Gains-one f g o p e r x y (outs (s ∷ [])) s.line (subst (Takes o p) (sym (append-nil (turn_text s))) output) said;
    }

-- a line ended the batch behind a run
pub StoppedAt-after : (f g h : Option Files) (o p q e r t : Taken) (x y z : ℕ) (bytes : List ℕ) (ls behind : List (List ℕ)) (l : List ℕ) (answer : ℕ) (written : List ℕ) (spoken : List (List ℕ)) → x ≤ y → y ≤ z → (g ≡ None → h ≡ None)
    → lines_of bytes ≡ ls ++ l ∷ behind → AreRead bytes ls → AreRead bytes (ls ++ l ∷ [])
    → RunsOver (scene f g o p e r x y) ls [] → Stops g h l answer written spoken → Gains (scene g h p q r t y z) written spoken → StoppedAt (scene f h o q e t x z) bytes answer
StoppedAt-after f g h o p q e r t x y z bytes ls behind l answer written spoken first second untold is earlier read before stops gains =
    let ss = before.steps in
    record {
      lines = ls;
      steps = ss;
      line = l;
      behind = behind;
      is = is;
      first = earlier;
      read = read;
      between = g;
      untold = untold;
      are = before.are;
      written = written;
      spoken = spoken;
      stops = stops;
      gains =
          subst (λ (m : List (List ℕ)). Gains (scene f h o q e t x z) (outs ss ++ written) (m ++ spoken)) (append-nil (lines_said ss))
          (Gains-trans f g g h f h o p q e r t x y z (outs ss) written (lines_said ss ++ []) spoken first second before.gains gains);
    }
