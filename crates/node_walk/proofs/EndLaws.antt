-- What a judged END says.
use Rattle.std.proofs.Common.{◌≡◌, ℕ, ◌+◌, ◌-◌, ◌^◌, ◌<◌, ◌≤◌, Bool, true, false, IsTrue, List, take, drop, Result, Ok, Err, refl, sym, subst, ◌∙◌, true≢false, arith}
use Rattle.std.specs.Prelude.{bytes_eq}
use Rattle.std.specs.Result.{OnOk, IfErr}
use Rattle.std.proofs.lemmas.Slice.Eq.{bytes_eq-Decides}
use Rattle.xa_outside.specs.Numbers.{IsMeter, PullsAtMost}
use Rattle.xa_outside.specs.NumberLaws.{PullsAtMost-none}
use Rattle.record_format.specs.Spelling.{dir_bytes}
use Rattle.record_cursor.specs.Faults.{IfDamage}
use Rattle.record_cursor.specs.Moves.{TellsFront}
use Rattle.record_cursor.specs.Steps.{fault_of, IsCause, Filled}
use Rattle.record_cursor.specs.declared.fault.CursorFault.{CursorFault}
use Rattle.record_cursor.specs.declared.fault.CursorFault.TheVariants.{Damage}
use Rattle.row_ends.specs.Kids.{PlainKids, dir_in}
use Rattle.node_judge.specs.Rows.{PlainFrame, is_met_all}
use Rattle.node_walk.specs.Seen.{Seen, Told}
use Rattle.node_walk.specs.Walked.{EndJudged, end_body}

-- another END is damage
abbrev pub verdict : Result Bool CursorFault → Result (Unit {0}) CursorFault
verdict (Ok true) = Ok tt
verdict (Ok false) = Err Damage
verdict (Err e) = Err e

cause-of : (a b : ℕ) (r : Result Bool CursorFault) → IsCause a b (fault_of r) → IsCause a b (fault_of (verdict r))
cause-of a b (Ok true) h = tt
cause-of a b (Ok false) h = tt
cause-of a b (Err e) h = h

lies-of : (r : Result Bool CursorFault) (x y : List ℕ) → Filled r (λ b. b ≡ bytes_eq x y) → OnOk (verdict r) (x ≡ y)
lies-of (Ok true) x y f = (bytes_eq-Decides x y).0 (sym f)
lies-of (Ok false) x y f = tt
lies-of (Err e) x y f = tt

harmless : (r : Result Bool CursorFault) (x y : List ℕ) → Filled r (λ b. b ≡ bytes_eq x y) → x ≡ y → IfErr (verdict r) (λ e. IfDamage e ⊥)
harmless (Ok true) x y f e = tt
harmless (Ok false) x y f e = absurd (true≢false (sym (f ∙ (bytes_eq-Decides x y).1 e)))
harmless (Err g) x y f e = f

module _ (f : PlainFrame) (kids : PlainKids) (n : ℕ) (s : Seen) (short : s.cursor.at < 2 ^ 64) where
  -- something is waited for yet
  pub unmet : false ≡ is_met_all f → IsMeter s.numbers → EndJudged f kids n s s (Err Damage)
  unmet not meter = record {
    same_files = refl;
    same_draft = refl;
    later = omega arith;
    cause = tt;
    pulls = PullsAtMost-none n s.numbers meter;
    short = short;
    met = tt;
    lies = λ bytes there. tt;
    undamaged = λ bytes there met is. true≢false (sym met ∙ sym not);
  }

  module _ (at : ℕ) (name : List ℕ) (t : Seen) (named : name ≡ s.cursor.name) (place : at ≡ s.cursor.at - n) (fits : n ≤ s.cursor.at) (within : s.cursor.at ≤ s.cursor.length) (met : true ≡ is_met_all f) (set : List (ℕ × ℕ)) (own : set ≡ f.set) where
    met-where : (r : Result Bool CursorFault) → OnOk (verdict r) (IsTrue (is_met_all f))
    met-where (Ok true) = sym met
    met-where (Ok false) = tt
    met-where (Err e) = tt

    pub judged : (r : Result Bool CursorFault) → t.files ≡ s.files → t.draft ≡ s.draft → s.faults ≤ t.faults → IsCause s.faults t.faults (fault_of r) → PullsAtMost n s.numbers t.numbers
        → ((end : ℕ) (bytes : List ℕ) → TellsFront s.files name end bytes → at + n ≤ end → Filled r (λ b. b ≡ bytes_eq (dir_bytes (dir_in set kids)) (take n (drop at bytes)))) → EndJudged f kids n s t (verdict r)
    judged r files draft later cause pulls told = record {
      same_files = files;
      same_draft = draft;
      later = later;
      cause = cause-of s.faults t.faults r cause;
      pulls = pulls;
      short = short;
      met = met-where r;
      lies = λ bytes there. lies-of r (dir_bytes (dir_in f.set kids)) (end_body s n bytes) (answer bytes there);
      undamaged = λ bytes there all is. harmless r (dir_bytes (dir_in f.set kids)) (end_body s n bytes) (answer bytes there) is;
    }
      where
        answer : (bytes : List ℕ) → Told s bytes → Filled r (λ b. b ≡ bytes_eq (dir_bytes (dir_in f.set kids)) (end_body s n bytes))
        answer bytes there =
            subst (λ (x : List (ℕ × ℕ)). Filled r (λ b. b ≡ bytes_eq (dir_bytes (dir_in x kids)) (end_body s n bytes))) own
            (subst (λ (a : ℕ). Filled r (λ b. b ≡ bytes_eq (dir_bytes (dir_in set kids)) (take n (drop a bytes)))) place
            (told s.cursor.length bytes (subst (λ (m : List ℕ). TellsFront s.files m s.cursor.length bytes) (sym named) there) (omega (arith, place, fits, within))))
