-- What a buffer in front of a sink has that sink take, once the buffer is gone.
use Rattle.std.proofs.Common.{◌≡◌, ℕ, ◌≤◌, List, [], ◌++◌, length, take, Option, None, Some, Result, Ok, Err, OnOk, sym, ap, ◌∙◌, subst, arith, append-nil, append_assoc, length-append}
use lib.Seq.{take-append_seam}
use Rattle.std.proofs.lemmas.List.{append_cancel_left, take-take, length-take}
use Rattle.std.specs.Result.{IsErr}
use Rattle.std.specs.Io.KnownBytes.{Appends, append_known}
use Rattle.xa_outside.specs.Taken.{Taken, Takes, TakesNone, TakesPrefix, Puts}
use Rattle.xa_outside.specs.TakenLaws.{Takes-kept, TakesPrefix-all}
use Rattle.xa_outside.specs.Buffered.{taken_before, buffered_taken, waiting_bytes}
use Rattle.xa_outside.specs.declared.buffered.Buffered.{Buffered}

front_in : (more last piece : List ℕ) (n : ℕ) → more ++ last ≡ take n piece → more ≡ take (length more) piece
front_in more last piece n e =
    let short : length more ≤ n = omega (arith, ap length e, length-append more last, length-take n piece) in
    sym (take-append_seam more last) ∙ ap (take (length more)) e ∙ take-take (length more) n piece short

gained : (a b : Option (List ℕ)) (first last more piece : List ℕ) (n : ℕ) → first ≡ [] → Appends a b more → Appends (append_known a first) (append_known b last) (take n piece) → (k : ℕ) × Appends a b (take k piece)
gained None b first last more piece n none p q = (0, tt)
gained (Some x) None first last more piece n none p q = absurd p
gained (Some x) (Some y) first last more piece n none p q =
    let whole : x ++ (more ++ last) ≡ x ++ take n piece = sym (append_assoc x more last) ∙ ap (λ l. l ++ last) (sym p) ∙ q ∙ ap (λ l. l ++ take n piece) (ap (λ l. x ++ l) none ∙ append-nil x) in
    (length more, p ∙ ap (λ l. x ++ l) (front_in more last piece n (append_cancel_left x (more ++ last) (take n piece) whole)))

all_in : (a b : Option (List ℕ)) (first last more piece : List ℕ) → first ≡ [] → last ≡ [] → Appends a b more → Appends (append_known a first) (append_known b last) piece → Appends a b piece
all_in None b first last more piece none empty p q = tt
all_in (Some x) None first last more piece none empty p q = absurd p
all_in (Some x) (Some y) first last more piece none empty p q = sym (ap (λ l. y ++ l) empty ∙ append-nil y) ∙ q ∙ ap (λ l. l ++ piece) (ap (λ l. x ++ l) none ∙ append-nil x)

-- what the sink behind gained is a prefix of what the buffer took, if nothing waited at first
pub TakesPrefix-through : (n m : ℕ) (t u : Taken) (first last piece : List ℕ) → first ≡ [] → TakesPrefix (taken_before n t first) (taken_before m u last) piece → TakesPrefix t u piece
TakesPrefix-through n m t u first last piece none p =
    let more = p.takes.behind.1 in
    let front = gained t.bytes u.bytes first last more.0 piece p.count none more.1 p.takes.bytes in
    record { count = front.0; takes = record { bytes = front.1; behind = p.takes.behind.2 } }

-- and it is all of that, if nothing waits at the end
pub Takes-through : (n m : ℕ) (t u : Taken) (first last piece : List ℕ) → first ≡ [] → last ≡ [] → Takes (taken_before n t first) (taken_before m u last) piece → Takes t u piece
Takes-through n m t u first last piece none empty p = record { bytes = all_in t.bytes u.bytes first last p.behind.1.0 piece none empty p.behind.1.1 p.bytes; behind = p.behind.2 }

module _ {O T E : Type 0} (taken : O → Taken) (made used : Buffered O) (first last : O) where
  -- a buffer that is given up after a failure: the sink behind has taken a prefix
  pub Puts-unflushed : (r : Result T E) (piece : List ℕ) → IsErr r → made.out.now ≡ first → waiting_bytes made ≡ [] → TakesPrefix (buffered_taken taken made) (buffered_taken taken used) piece → last ≡ used.out.now
      → Puts (taken first) (taken last) r piece
  Puts-unflushed (Ok v) piece err same none p is = cc
  Puts-unflushed (Err e) piece err same none p is =
      subst (λ t. TakesPrefix t (taken last) piece) (ap taken same) (subst (λ u. TakesPrefix (taken made.out.now) u piece) (ap taken (sym is)) (TakesPrefix-through _ _ _ _ (waiting_bytes made) (waiting_bytes used) piece none p))

  -- a buffer that has taken the whole piece and is flushed
  pub Puts-flushed : (flushed : Buffered O) (r : Result T E) (piece : List ℕ) → made.out.now ≡ first → waiting_bytes made ≡ [] → Takes (buffered_taken taken made) (buffered_taken taken used) piece
      → TakesNone (buffered_taken taken used) (buffered_taken taken flushed) → OnOk r (waiting_bytes flushed ≡ []) → last ≡ flushed.out.now → Puts (taken first) (taken last) r piece
  Puts-flushed flushed (Ok v) piece same none p q empty is =
      subst (λ t. Takes t (taken last) piece) (ap taken same) (subst (λ u. Takes (taken made.out.now) u piece) (ap taken (sym is)) (Takes-through _ _ _ _ (waiting_bytes made) (waiting_bytes flushed) piece none empty (Takes-kept _ _ _ piece p q)))
  Puts-flushed flushed (Err e) piece same none p q empty is =
      subst (λ t. TakesPrefix t (taken last) piece) (ap taken same) (subst (λ u. TakesPrefix (taken made.out.now) u piece) (ap taken (sym is)) (TakesPrefix-through _ _ _ _ (waiting_bytes made) (waiting_bytes flushed) piece none (TakesPrefix-all _ _ piece (Takes-kept _ _ _ piece p q))))
