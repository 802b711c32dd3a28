-- How far a batch has come, and how it ends from there.
use Rattle.std.proofs.Common.{◌≡◌, inl, inr, ℕ, ◌+◌, ◌<◌, ◌≤◌, List, [], ◌∷◌, ◌++◌, length, Bool, true, false, Option, None, Some, Ok, Err, refl, sym, ap, ◌∙◌, subst, arith, append_assoc, append-nil, length-append}
use Rattle.std.specs.Io.KnownBytes.{Consumes, IsAtEnd}
use Rattle.std.proofs.KnownBytes.{Consumes-trans}
use Rattle.xa_outside.specs.Folder.{Files}
use Rattle.xa_outside.specs.Taken.{Taken}
use Rattle.xarch_words.specs.Lines.{fault_line}
use Rattle.xarch_words.specs.Refusal.{batch, limit, refused, in_fault, memory}
use Rattle.xarch_words.specs.declared.limits.TheConstants.{BATCH}
use Rattle.xarch_meanings.specs.Ran.{Says}
use Rattle.xarch_run.specs.Batch.{AreRead, BatchEnds, RunsOver, scene}
use Rattle.xarch_run.specs.Feed.{ahead, budget}
use Rattle.xarch_run.specs.Lines.{ended_lines_of, is_blank, lines_of, without_blanks}
use Rattle.xarch_run.specs.Shown.{Shows}
use Rattle.xarch_run.specs.Taking.{TakesLine, TakesEnded, TakesLast, FailsIn, EndsIn}
use Rattle.xarch_run.specs.Turns.{LineRuns, NoWords}
use Rattle.xarch_run.specs.declared.lines.Lines.{Lines}
use Rattle.xarch_run.proofs.Cuts.{Cuts, Cuts-none, Cuts-line, Cuts-last, Cuts-ended, without_blanks-other}
use Rattle.xarch_run.proofs.Runs.{AreSteps-none, RunsOver-none, RunsOver-trans, RunsOver-said, StoppedAt-after}

-- ---- what was read

pub consumed-all : (bytes d : List ℕ) (rest : Option (List ℕ)) → Consumes (Some bytes) rest d → IsAtEnd rest → (bytes ≡ d) × (rest ≡ Some [])
consumed-all bytes d None p e = absurd p
consumed-all bytes d (Some y) p e = (p ∙ ap (λ l. d ++ l) e ∙ append-nil d, ap Some e)

-- what is left behind told bytes
record Left (bytes d : List ℕ) (rest : Option (List ℕ)) : Type 0 where
  behind : List ℕ
  told : rest ≡ Some behind
  is : bytes ≡ d ++ behind

left_of : (bytes d : List ℕ) (rest : Option (List ℕ)) → Consumes (Some bytes) rest d → Left bytes d rest
left_of bytes d None p = absurd p
left_of bytes d (Some y) p = record { behind = y; told = refl; is = p }

-- So many bytes were passed, and so many may still come.
pub record Passed (bytes : List ℕ) (ahead_now : Option (List ℕ)) (budget_now : ℕ) : Type 0 where
  pub front : List ℕ
  pub consumed : Consumes (Some bytes) ahead_now front
  pub counted : length front + budget_now ≡ BATCH

counted_on : (d l : List ℕ) (a b : ℕ) → length d + a ≡ BATCH → length l + 1 + b ≡ a → length (d ++ (l ++ 10 ∷ [])) + b ≡ BATCH
counted_on d l a b p q = omega (arith, length-append d (l ++ 10 ∷ []), length-append l (10 ∷ []))

-- there is a byte more than there may be
pub past-limit : (bytes : List ℕ) (before : Lines) (old new : Option (List ℕ)) → Passed bytes (ahead before.feed old) (budget before.feed) → EndsIn before old new → BATCH < length bytes
past-limit bytes before old new p k =
    let read = p.front ++ (k.bytes ++ k.byte ∷ []) in
    let left = left_of bytes read new (Consumes-trans (Some bytes) (ahead before.feed old) new p.front (k.bytes ++ k.byte ∷ []) p.consumed k.consumed) in
    let size : length bytes ≡ length read + length left.behind = ap length left.is ∙ length-append read left.behind in
    let total = p.counted in
    let same = k.counted in
    omega (arith, size, total, same, length-append p.front (k.bytes ++ k.byte ∷ []), length-append k.bytes (k.byte ∷ []))

-- what was read of a line behind them is no more than may come
pub few_behind : (d l : List ℕ) (b : ℕ) → length d + b ≡ BATCH → length l ≤ b → length (d ++ l) ≤ BATCH
few_behind d l b p q = omega (arith, length-append d l, p, q)

few_before : (d : List ℕ) (b : ℕ) → length d + b ≡ BATCH → length d ≤ BATCH
few_before d b p = omega (arith, p)

-- the lines that an LF ends in what was passed
ended_of : (d : List ℕ) (ls : List (List ℕ)) → Cuts d ls → ls ≡ ended_lines_of d
ended_of d ls cuts = sym (append-nil ls) ∙ sym (cuts.ended []) ∙ ap ended_lines_of (append-nil d)

pub read-ended : (bytes d : List ℕ) (ls : List (List ℕ)) (a : Option (List ℕ)) (b : ℕ) → Cuts d ls → Consumes (Some bytes) a d → length d + b ≡ BATCH → AreRead bytes ls
read-ended bytes d ls a b cuts consumed counted =
    let left = left_of bytes d a consumed in
    record { front = d; behind = left.behind; is = left.is; few = few_before d b counted; among = inl (ended_of d ls cuts) }

-- ---- how far it has come

-- The lines that end among the bytes that were passed were run.
pub record Gone (f g : Option Files) (o p e r : Taken) (x y : ℕ) (bytes : List ℕ) (ahead_now : Option (List ℕ)) (budget_now : ℕ) : Type 0 where
  pub front : List ℕ
  pub lines : List (List ℕ)
  pub cuts : Cuts front lines
  pub consumed : Consumes (Some bytes) ahead_now front
  pub counted : length front + budget_now ≡ BATCH
  pub over : RunsOver (scene f g o p e r x y) lines []

-- the bytes that were passed
pub Gone-passed : (f g : Option Files) (o p e r : Taken) (x y : ℕ) (bytes : List ℕ) (a : Option (List ℕ)) (b : ℕ) → Gone f g o p e r x y bytes a b → Passed bytes a b
Gone-passed f g o p e r x y bytes a b gone = record { front = gone.front; consumed = gone.consumed; counted = gone.counted }

pub Gone-none : (f : Option Files) (o e : Taken) (x : ℕ) (bytes : List ℕ) (a : Option (List ℕ)) (b : ℕ) → a ≡ Some bytes → b ≡ BATCH → Gone f f o o e e x x bytes a b
Gone-none f o e x bytes a b is full =
    record {
      front = [];
      lines = [];
      cuts = Cuts-none;
      consumed = subst (λ (u : Option (List ℕ)). Consumes (Some bytes) u []) (sym is) refl;
      counted = omega (arith, full);
      over = RunsOver-none f f o e x refl;
    }

-- one more line was run, which an LF ended
pub Gone-line : (f g h : Option Files) (o p q e r t : Taken) (x y z : ℕ) (bytes : List ℕ) (before now : Lines) (old new : Option (List ℕ)) → x ≤ y → y ≤ z → (g ≡ None → h ≡ None)
    → Gone f g o p e r x y bytes (ahead before.feed old) (budget before.feed) → (k : TakesEnded before now old new)
    → RunsOver (scene g h p q r t y z) (without_blanks (k.bytes ∷ [])) [] → Gone f h o q e t x z bytes (ahead now.feed new) (budget now.feed)
Gone-line f g h o p q e r t x y z bytes before now old new first second untold gone k run =
    record {
      front = gone.front ++ (k.bytes ++ 10 ∷ []);
      lines = gone.lines ++ without_blanks (k.bytes ∷ []);
      cuts = Cuts-line gone.front k.bytes gone.lines k.one gone.cuts;
      consumed = Consumes-trans (Some bytes) (ahead before.feed old) (ahead now.feed new) gone.front (k.bytes ++ 10 ∷ []) gone.consumed k.consumed;
      counted = counted_on gone.front k.bytes (budget before.feed) (budget now.feed) gone.counted k.counted;
      over = RunsOver-trans f g h o p q e r t x y z gone.lines (without_blanks (k.bytes ∷ [])) [] first second untold gone.over run;
    }

-- ---- ends

-- the line behind the last LF was run
pub ends-all : (f g h : Option Files) (o p q e r t : Taken) (x y z : ℕ) (bytes : List ℕ) (before now : Lines) (old new : Option (List ℕ)) → x ≤ y → y ≤ z → (g ≡ None → h ≡ None)
    → Gone f g o p e r x y bytes (ahead before.feed old) (budget before.feed) → (k : TakesLast before now old new)
    → RunsOver (scene g h p q r t y z) (without_blanks (k.bytes ∷ [])) [] → BatchEnds (scene f h o q e t x z) bytes new 0
ends-all f g h o p q e r t x y z bytes before now old new first second untold gone k run =
    let whole = consumed-all bytes (gone.front ++ k.bytes) new (Consumes-trans (Some bytes) (ahead before.feed old) new gone.front k.bytes gone.consumed k.consumed) k.ends in
    let lines : gone.lines ++ without_blanks (k.bytes ∷ []) ≡ lines_of bytes = sym (Cuts-last gone.front k.bytes gone.lines k.one gone.cuts) ∙ ap lines_of (sym whole.0) in
    inl (record {
      status = refl;
      over =
          subst (λ (l : List (List ℕ)). RunsOver (scene f h o q e t x z) l []) lines
          (RunsOver-trans f g h o p q e r t x y z gone.lines (without_blanks (k.bytes ∷ [])) [] first second untold gone.over run);
      all = whole.1;
      few = subst (λ (l : List ℕ). length l ≤ BATCH) (sym whole.0) (few_behind gone.front k.bytes (budget before.feed) gone.counted k.counted);
    })

pub ends-failed : (f g : Option Files) (o p e r t : Taken) (x y z : ℕ) (bytes : List ℕ) (before : Lines) (old new : Option (List ℕ)) → x ≤ y → y ≤ z
    → Gone f g o p e r x y bytes (ahead before.feed old) (budget before.feed) → FailsIn before old new
    → Says r t y z (fault_line in_fault) → BatchEnds (scene f g o p e t x z) bytes new 15
ends-failed f g o p e r t x y z bytes before old new first second gone k says =
    inr (inr (inl (record {
      status = refl;
      front = gone.front ++ k.bytes;
      consumed = Consumes-trans (Some bytes) (ahead before.feed old) new gone.front k.bytes gone.consumed k.consumed;
      few = few_behind gone.front k.bytes (budget before.feed) gone.counted k.counted;
      over =
          subst (λ (l : List (List ℕ)). RunsOver (scene f g o p e t x z) l (fault_line in_fault ∷ [])) (sym (Cuts-ended gone.front k.bytes gone.lines k.one gone.cuts))
          (RunsOver-said f g o p e r t x y z gone.lines (fault_line in_fault) first second gone.over says);
    })))

pub ends-past : (f g : Option Files) (o p e r t : Taken) (x y z : ℕ) (bytes : List ℕ) (before : Lines) (old new : Option (List ℕ)) → x ≤ y → y ≤ z
    → Gone f g o p e r x y bytes (ahead before.feed old) (budget before.feed) → EndsIn before old new
    → Says r t y z (fault_line (refused (limit batch BATCH))) → BatchEnds (scene f g o p e t x z) bytes new 12
ends-past f g o p e r t x y z bytes before old new first second gone k says =
    let d = gone.front in
    let l = k.bytes in
    let left = left_of bytes (d ++ (l ++ k.byte ∷ [])) new (Consumes-trans (Some bytes) (ahead before.feed old) new d (l ++ k.byte ∷ []) gone.consumed k.consumed) in
    let y = left.behind in
    inr (inl (record {
      status = refl;
      front = d ++ l;
      behind = k.byte ∷ y;
      is = left.is ∙ append_assoc d (l ++ k.byte ∷ []) y ∙ ap (λ m. d ++ m) (append_assoc l (k.byte ∷ []) y) ∙ sym (append_assoc d l (k.byte ∷ y));
      full = let total : length d + budget before.feed ≡ BATCH = gone.counted in let same : length l ≡ budget before.feed = k.counted in length-append d l ∙ ap (λ n. length d + n) same ∙ total;
      more = omega arith;
      over =
          subst (λ (m : List (List ℕ)). RunsOver (scene f g o p e t x z) m (fault_line (refused (limit batch BATCH)) ∷ [])) (sym (Cuts-ended d l gone.lines k.one gone.cuts))
          (RunsOver-said f g o p e r t x _ z gone.lines (fault_line (refused (limit batch BATCH))) first second gone.over says);
    }))

pub ends-memory : (f g : Option Files) (o p e r t : Taken) (x y z : ℕ) (bytes : List ℕ) (a new : Option (List ℕ)) (b : ℕ) → x ≤ y → y ≤ z
    → Gone f g o p e r x y bytes a b → Says r t y z (fault_line memory) → BatchEnds (scene f g o p e t x z) bytes new 16
ends-memory f g o p e r t x y z bytes a new b first second gone says =
    let left = left_of bytes gone.front a gone.consumed in
    inr (inr (inr (inl (record {
      status = refl;
      lines = gone.lines;
      behind = lines_of left.behind;
      is = ap lines_of left.is ∙ gone.cuts.all left.behind;
      read = read-ended bytes gone.front gone.lines a b gone.cuts gone.consumed gone.counted;
      over = RunsOver-said f g o p e r t x y z gone.lines (fault_line memory) first second gone.over says;
    }))))

-- ---- a line that ended the batch

-- the line that was taken
abbrev pub line_bytes : (b : Bool) (before now : Lines) (old new : Option (List ℕ)) → TakesLine before now old new (Ok b) → List ℕ
line_bytes true before now old new k = k.bytes
line_bytes false before now old new k = k.bytes

abbrev pub line_shows : (b : Bool) (before now : Lines) (old new : Option (List ℕ)) (k : TakesLine before now old new (Ok b)) → Shows now.line (line_bytes b before now old new k)
line_shows true before now old new k = k.shows
line_shows false before now old new k = k.shows

-- where it stands among the lines
record Stands (bytes : List ℕ) (ls : List (List ℕ)) (l : List ℕ) : Type 0 where
  behind : List (List ℕ)
  is : lines_of bytes ≡ ls ++ l ∷ behind
  read : AreRead bytes (ls ++ l ∷ [])

stands : (b : Bool) (bytes d : List ℕ) (ls : List (List ℕ)) (before now : Lines) (old new : Option (List ℕ)) (k : TakesLine before now old new (Ok b))
    → Cuts d ls → Consumes (Some bytes) (ahead before.feed old) d → length d + budget before.feed ≡ BATCH → is_blank (line_bytes b before now old new k) ≡ false → Stands bytes ls (line_bytes b before now old new k)
stands true bytes d ls before now old new k cuts consumed counted other =
    let read = Consumes-trans (Some bytes) (ahead before.feed old) (ahead now.feed new) d (k.bytes ++ 10 ∷ []) consumed k.consumed in
    let left = left_of bytes (d ++ (k.bytes ++ 10 ∷ [])) (ahead now.feed new) read in
    let next = Cuts-line d k.bytes ls k.one cuts in
    record {
      behind = lines_of left.behind;
      is = ap lines_of left.is ∙ next.all left.behind ∙ ap (λ m. (ls ++ m) ++ lines_of left.behind) (without_blanks-other k.bytes other) ∙ append_assoc ls (k.bytes ∷ []) (lines_of left.behind);
      read =
          subst (λ (m : List (List ℕ)). AreRead bytes (ls ++ m)) (without_blanks-other k.bytes other)
          (read-ended bytes (d ++ (k.bytes ++ 10 ∷ [])) (ls ++ without_blanks (k.bytes ∷ [])) (ahead now.feed new) (budget now.feed) next read (counted_on d k.bytes (budget before.feed) (budget now.feed) counted k.counted));
    }
stands false bytes d ls before now old new k cuts consumed counted other =
    let whole = consumed-all bytes (d ++ k.bytes) new (Consumes-trans (Some bytes) (ahead before.feed old) new d k.bytes consumed k.consumed) k.ends in
    record {
      behind = [];
      is = ap lines_of whole.0 ∙ Cuts-last d k.bytes ls k.one cuts ∙ ap (λ m. ls ++ m) (without_blanks-other k.bytes other);
      read = record {
        front = d ++ k.bytes;
        behind = [];
        is = whole.0 ∙ sym (append-nil (d ++ k.bytes));
        few = few_behind d k.bytes (budget before.feed) counted k.counted;
        among = inr (refl, sym (Cuts-last d k.bytes ls k.one cuts ∙ ap (λ m. ls ++ m) (without_blanks-other k.bytes other)));
      };
    }

no_words : (f g h : Option Files) (o p q e r t : Taken) (x y z : ℕ) (bytes : List ℕ) (ls behind : List (List ℕ)) (new : Option (List ℕ)) (answer : ℕ) → x ≤ y → y ≤ z → (g ≡ None → h ≡ None)
    → lines_of bytes ≡ ls ++ behind → AreRead bytes ls → RunsOver (scene f g o p e r x y) ls [] → NoWords (scene g h p q r t y z) answer → BatchEnds (scene f h o q e t x z) bytes new answer
no_words f g h o p q e r t x y z bytes ls behind new answer first second untold is read over k =
    inr (inr (inr (inl (record {
      status = k.status;
      lines = ls;
      behind = behind;
      is = is;
      read = read;
      over =
          subst (λ (l : List (List ℕ)). RunsOver (scene f h o q e t x z) l (fault_line memory ∷ [])) (append-nil ls)
          (RunsOver-trans f g h o p q e r t x y z ls [] (fault_line memory ∷ []) first second untold over (record { steps = []; are = AreSteps-none g h k.files; gains = k.gains }));
    }))))

pub ends-at : (b : Bool) (f g h : Option Files) (o p q e r t : Taken) (x y z : ℕ) (bytes : List ℕ) (before now : Lines) (old new : Option (List ℕ)) (answer : ℕ) → x ≤ y → y ≤ z → (g ≡ None → h ≡ None)
    → Gone f g o p e r x y bytes (ahead before.feed old) (budget before.feed) → (k : TakesLine before now old new (Ok b))
    → LineRuns (scene g h p q r t y z) (line_bytes b before now old new k) (Err answer) → BatchEnds (scene f h o q e t x z) bytes new answer
ends-at b f g h o p q e r t x y z bytes before now old new answer first second untold gone k run =
    let at = stands b bytes gone.front gone.lines before now old new k gone.cuts gone.consumed gone.counted run.0 in
    let earlier = read-ended bytes gone.front gone.lines (ahead before.feed old) (budget before.feed) gone.cuts gone.consumed gone.counted in
    elim (run.1) as (λ _. BatchEnds (scene f h o q e t x z) bytes new answer) [
      | inl none ↦ no_words f g h o p q e r t x y z bytes gone.lines (line_bytes b before now old new k ∷ at.behind) new answer first second untold at.is earlier gone.over none
      | inr stop ↦
          inr (inr (inr (inr (StoppedAt-after f g h o p q e r t x y z bytes gone.lines at.behind (line_bytes b before now old new k) answer stop.written stop.spoken first second untold at.is earlier at.read gone.over stop.stops stop.gains))))
    ]
