-- A batch ran the first of its lines, and all of them where it answered 0.
use Rattle.std.proofs.Common.{◌≡◌, ◌≢◌, inl, inr, ℕ, ◌≤◌, Bool, true, false, cond, not, List, [], ◌∷◌, ◌++◌, length, map, Option, Some, None, refl, sym, ap, ◌∙◌, subst, append-nil, arith}
use Rattle.std.specs.Io.KnownBytes.{Consumes}
use Rattle.std.proofs.lemmas.List.Elements.{filter-append}
use Rattle.xa_outside.specs.Folder.{Files}
use Rattle.xarch_words.specs.Commands.{batch, command_of}
use Rattle.xarch_words.specs.Lines.{fault_status}
use Rattle.xarch_words.specs.Refusal.{PlainFault}
use Rattle.xarch_words.specs.declared.limits.TheConstants.{BATCH}
use Rattle.xarch_parts.specs.Outcome.{Step}
use Rattle.xarch_run.specs.Batch.{AreRead, BatchEnds, EndsTheBatch, RunsOver, Scene, Stops}
use Rattle.xarch_run.specs.Calls.{Call, DidCommands}
use Rattle.xarch_run.specs.Lines.{cut, cut_ended, in_front_ended, is_blank, is_line_feed, lines_of, ended_lines_of, without_blanks}
use Rattle.xarch_run.specs.Steps.{LinesLead, line_command}
use Rattle.xarch_run.proofs.Runs.{LinesLead-append, told-before}
use Rattle.archive_text.specs.Texts.{in_front}

-- ---- the lines of the front of an input come first among its lines

record ComesFirst (front all : List (List ℕ)) : Type 0 where
  pub behind : List (List ℕ)
  pub is : all ≡ front ++ behind

first-longer : (b : ℕ) (ls all : List (List ℕ)) → ComesFirst ls all → ComesFirst (in_front_ended b ls) (in_front b all)
first-longer b [] all f = record { behind = in_front b all; is = refl }
first-longer b (l ∷ ls) all f = record { behind = f.behind; is = ap (in_front b) f.is }

first-cut : (t : Bool) (b : ℕ) (ls all : List (List ℕ)) → ComesFirst ls all → ComesFirst (cond t ([] ∷ ls) (in_front_ended b ls)) (cond t ([] ∷ all) (in_front b all))
first-cut true b ls all f = record { behind = f.behind; is = ap (λ (x : List (List ℕ)). [] ∷ x) f.is }
first-cut false b ls all f = first-longer b ls all f

cut-first : (front behind : List ℕ) → ComesFirst (cut_ended front) (cut (front ++ behind))
cut-first [] behind = record { behind = cut behind; is = refl }
cut-first (b ∷ bs) behind = first-cut (is_line_feed b) b (cut_ended bs) (cut (bs ++ behind)) (cut-first bs behind)

ended-first : (front behind : List ℕ) → ComesFirst (ended_lines_of front) (lines_of (front ++ behind))
ended-first front behind =
    let f = cut-first front behind in
    record { behind = without_blanks f.behind; is = ap without_blanks f.is ∙ filter-append (λ (l : List ℕ). not (is_blank l)) (cut_ended front) f.behind }

-- ---- each end

-- the lines of a front that is not too long
ended-read : (bytes front behind : List ℕ) → bytes ≡ front ++ behind → length front ≤ BATCH → AreRead bytes (ended_lines_of front)
ended-read bytes front behind is few = record { front = front; behind = behind; is = is; few = few; among = inl refl }

-- and of all bytes
whole-read : (bytes : List ℕ) → length bytes ≤ BATCH → AreRead bytes (lines_of bytes)
whole-read bytes few = record { front = bytes; behind = []; is = sym (append-nil bytes); few = few; among = inr (refl, refl) }

-- The first lines took these steps, and all of them where the answer is 0.
record RunsFirst (before now : Files) (bytes : List ℕ) (answer : ℕ) : Type 0 where
  lines : List (List ℕ)
  steps : List Step
  behind : List (List ℕ)
  first : lines_of bytes ≡ lines ++ behind
  all : answer ≡ 0 → behind ≡ []
  read : AreRead bytes lines
  leads : LinesLead before lines steps now

over-first : (w : Scene) (before now : Files) (bytes : List ℕ) (answer : ℕ) (ls spoken : List (List ℕ)) → w.files_before ≡ Some before → w.files_now ≡ Some now
    → RunsOver w ls spoken → ComesFirst ls (lines_of bytes) → AreRead bytes ls → answer ≢ 0 → RunsFirst before now bytes answer
over-first w before now bytes answer ls spoken told after over f read other =
    record { lines = ls; steps = over.steps; behind = f.behind; first = f.is; all = λ zero. absurd (other zero); read = read; leads = over.are.leads before now told after }

module _ (before between now : Files) (bytes : List ℕ) (answer : ℕ) (lines : List (List ℕ)) (steps : List Step) (line : List ℕ) (behind : List (List ℕ)) (is : lines_of bytes ≡ lines ++ line ∷ behind)
    (first : AreRead bytes lines) (read : AreRead bytes (lines ++ line ∷ [])) (leads : LinesLead before lines steps between) where
  -- the line that ended the batch changed no file
  before-it : answer ≢ 0 → now ≡ between → RunsFirst before now bytes answer
  before-it other kept = record { lines = lines; steps = steps; behind = line ∷ behind; first = is; all = λ zero. absurd (other zero); read = first; leads = subst (LinesLead before lines steps) (sym kept) leads }

  one-more : (ls : List (List ℕ)) → ls ++ line ∷ behind ≡ (ls ++ line ∷ []) ++ behind
  one-more [] = refl
  one-more (l ∷ ls) = ap (λ (x : List (List ℕ)). l ∷ x) (one-more ls)

  ends-other : (fault : PlainFault) → EndsTheBatch fault → answer ≡ fault_status fault → answer ≢ 0
  ends-other fault (inl e) is zero = let at : answer ≡ 13 = is ∙ ap fault_status e in omega (arith, at, zero)
  ends-other fault (inr e) is zero = let at : answer ≡ 16 = is ∙ ap fault_status e in omega (arith, at, zero)

  no-output : answer ≡ 14 → answer ≢ 0
  no-output is zero = omega (arith, is, zero)

  same-told : (f g : Option Files) → f ≡ Some between → g ≡ Some now → g ≡ f → now ≡ between
  same-told f g told after same = (let both : Some now ≡ Some between = sym after ∙ same ∙ told in cc)

  stops-first : (f g : Option Files) (written : List ℕ) (spoken : List (List ℕ)) → f ≡ Some between → g ≡ Some now → Stops f g line answer written spoken → RunsFirst before now bytes answer
  stops-first f g written spoken told after (inl k) = before-it (ends-other k.fault k.kind k.status) (same-told f g told after k.files_kept)
  stops-first f g written spoken told after (inr (inl k)) = before-it (no-output k.status) (same-told f g told after k.files_kept)
  stops-first f g written spoken told after (inr (inr (inl k))) = record {
    lines = lines ++ line ∷ [];
    steps = steps ++ k.step ∷ [];
    behind = behind;
    first = is ∙ one-more lines;
    all = λ zero. absurd (no-output k.status zero);
    read = read;
    leads = LinesLead-append before between now lines (line ∷ []) steps (k.step ∷ []) leads (record { are = (k.may.may between now told after, tt); files = k.files_now between now told after });
  }
  stops-first f g written spoken told after (inr (inr (inr k))) = before-it (no-output k.status) (same-told f g told after k.files_kept)

read-first : (bytes : List ℕ) (rest : Option (List ℕ)) (front : List ℕ) → length front ≤ BATCH → Consumes (Some bytes) rest front → ComesFirst (ended_lines_of front) (lines_of bytes) × AreRead bytes (ended_lines_of front)
read-first bytes None front few h = absurd h
read-first bytes (Some left) front few h = (let f = ended-first front left in (record { behind = f.behind; is = ap lines_of h ∙ f.is }, ended-read bytes front left h few))

ends-first : (w : Scene) (before now : Files) (bytes : List ℕ) (rest : Option (List ℕ)) (answer : ℕ) → w.files_before ≡ Some before → w.files_now ≡ Some now → BatchEnds w bytes rest answer → RunsFirst before now bytes answer
ends-first w before now bytes rest answer told after (inl e) =
    record { lines = lines_of bytes; steps = e.over.steps; behind = []; first = sym (append-nil (lines_of bytes)); all = λ _. refl; read = whole-read bytes e.few; leads = e.over.are.leads before now told after }
ends-first w before now bytes rest answer told after (inr (inl e)) =
    let f = ended-first e.front e.behind in
    let is = e.status in
    let full = e.full in
    over-first w before now bytes answer (ended_lines_of e.front) _ told after e.over (record { behind = f.behind; is = ap lines_of e.is ∙ f.is }) (ended-read bytes e.front e.behind e.is (omega (arith, full))) (λ zero. omega (arith, is, zero))
ends-first w before now bytes rest answer told after (inr (inr (inl e))) =
    let is = e.status in
    let f = read-first bytes rest e.front e.few e.consumed in
    over-first w before now bytes answer (ended_lines_of e.front) _ told after e.over f.0 f.1 (λ zero. omega (arith, is, zero))
ends-first w before now bytes rest answer told after (inr (inr (inr (inl e)))) =
    let is = e.status in
    over-first w before now bytes answer e.lines _ told after e.over (record { behind = e.behind; is = e.is }) e.read (λ zero. omega (arith, is, zero))
ends-first w before now bytes rest answer told after (inr (inr (inr (inr e)))) =
    let mid = told-before e.between w.files_now now e.untold after in
    stops-first before mid.files now bytes answer e.lines e.steps e.line e.behind e.is e.first e.read (e.are.leads before mid.files told mid.is) e.between w.files_now e.written e.spoken mid.is after e.stops

pub batch-did : (w : Scene) (files now : Files) (call : Call) (rest : Option (List ℕ)) → w.files_before ≡ Some files → w.files_now ≡ Some now → command_of call.words ≡ Some batch → BatchEnds w call.input rest call.answer
    → DidCommands files call now
batch-did w files now call rest told after many ends =
    let k = ends-first w files now call.input rest call.answer told after ends in
    record {
      commands = map line_command k.lines;
      steps = k.steps;
      did = inr (inr (record { many = many; lines = k.lines; behind = k.behind; first = k.first; all = k.all; read = k.read; leads = k.leads; command = refl }));
    }
