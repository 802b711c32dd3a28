-- A buffer in front of a sink.
use Rattle.std.proofs.Common.{◌≡◌, ℕ, ◌+◌, ◌≤◌, List, [], ◌++◌, length, take, drop, Result, Ok, Err, refl, sym, ap, ◌∙◌, subst, arith, append-nil, take-append-drop, drop-drop, length-drop, length-take-le}
use lib.Seq.{drop-append-le}
use borrow.Rule.Slice.PartMut.{put_mid}
use Rattle.std.proofs.lemmas.Slice.{take-put_mid}
use Rattle.std.specs.Io.KnownBytes.{Appends, append_known}
use Rattle.std.proofs.KnownBytes.{append_known-moved, append_known-grown, append_known-passed, append_known-kept, Keeps-refl}
use Rattle.xa_outside.specs.Taken.{Taken, Takes, TakesNone, Writes}
use Rattle.xa_outside.specs.TakenLaws.{StaysBehind-refl, Grows-refl, Grows-from_keeps}
use Rattle.xa_outside.specs.Buffered.{taken_before}

-- ---- the bytes that wait

pub waiting-dropped : (s e n : ℕ) (xs : List ℕ) → drop (s + n) (take e xs) ≡ drop n (drop s (take e xs))
waiting-dropped s e n xs = sym (drop-drop n s (take e xs))

pub waiting-added : (s e k : ℕ) (xs ys : List ℕ) → s ≤ e → e ≤ length xs → drop s (take (e + length ys) (put_mid e k xs ys)) ≡ drop s (take e xs) ++ ys
waiting-added s e k xs ys ordered within =
    let fits : s ≤ length (take e xs) = omega (arith, length-take-le e xs within) in
    ap (drop s) (take-put_mid e k xs ys (e + length ys) refl within) ∙ drop-append-le s (take e xs) ys fits

pub waiting-none : (k e : ℕ) (xs : List ℕ) → e ≤ length xs → drop k (take e xs) ≡ [] → e ≤ k
waiting-none k e xs within none =
    let left : length (drop k (take e xs)) ≡ 0 = ap length none in
    omega (arith, length-drop k (take e xs), length-take-le e xs within)

-- ---- writes

-- the sink behind took the front of what waits
pub TakesNone-passed : (name : ℕ) (t u : Taken) (waiting left : List ℕ) (n : ℕ) → left ≡ drop n waiting → Takes t u (take n waiting) → TakesNone (taken_before name t waiting) (taken_before name u left)
TakesNone-passed name t u waiting left n rest p =
    record {
      bytes = append_known-moved t.bytes u.bytes (take n waiting) left waiting p.bytes (sym (take-append-drop n waiting) ∙ ap (λ l. take n waiting ++ l) (sym rest));
      behind = (refl, (take n waiting, p.bytes), p.behind);
    }

-- bytes wait behind those that did
pub Takes-held : (name : ℕ) (t : Taken) (waiting more piece : List ℕ) → more ≡ waiting ++ piece → Takes (taken_before name t waiting) (taken_before name t more) piece
Takes-held name t waiting more piece e =
    record {
      bytes = append_known-grown (append_known t.bytes waiting) t.bytes waiting more piece (Keeps-refl _) e;
      behind = (refl, Grows-refl t.bytes, StaysBehind-refl t.behind);
    }

-- a write goes straight on where nothing waits
pub Writes-passed : {E : Type 0} (name : ℕ) (t u : Taken) (waiting : List ℕ) (r : Result ℕ E) (piece : List ℕ) → waiting ≡ [] → Writes t u r piece → Writes (taken_before name t waiting) (taken_before name u waiting) r piece
Writes-passed name t u waiting (Ok n) piece none p =
    record {
      bytes =
          subst (Appends _ _) (append-nil (take n piece)) (append_known-passed (append_known t.bytes waiting) t.bytes u.bytes waiting waiting (take n piece) [] (Keeps-refl _) none p.bytes (sym (append-nil waiting)));
      behind = (refl, (take n piece, p.bytes), p.behind);
    }
Writes-passed name t u waiting (Err e) piece none p =
    record { bytes = append_known-kept t.bytes u.bytes waiting p.bytes; behind = (refl, Grows-from_keeps t.bytes u.bytes p.bytes, p.behind) }
