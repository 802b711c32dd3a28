-- What writing held alternatives goes along.
use Rattle.std.proofs.Common.{◌≡◌, ◌≢◌, ℕ, zero, suc, ◌+◌, ◌≤◌, ◌<◌, List, [], ◌∷◌, ◌++◌, map, length, take, drop, get_or, Option, Some, None, refl, sym, ap, subst, ◌∙◌, append_assoc, arith, add-one}
use Rattle.std.proofs.lemmas.List.{map-append}
use Rattle.archive_tree.specs.Data.{PlainAlt}
use Rattle.record_cursor.specs.Places.{among_nodes}
use Rattle.record_cursor.specs.View.{PlainCursor}
use Rattle.record_writer.specs.Calls.{after_all}
use Rattle.record_writer.specs.Data.{PlainWriter, WriterCall, call_end_leaf}
use Rattle.record_writer.specs.Walks.{alt_calls}
use Rattle.record_writer.proofs.WalkLaws.{alts-keep}
use Rattle.record_copy.specs.Runs.{Sent}
use Rattle.record_copy.specs.State.{State}
use Rattle.record_copy.specs.declared.fault.CopyFault.{CopyFault}
use Rattle.record_copy.proofs.Running.{sent-then, sent-fault, sent-as}
use Rattle.archive_cut.specs.Held.{held_view, alt_call}
use Rattle.archive_cut.specs.declared.held.Held.{Held}

-- a cursor of which nothing is asked
abbrev pub nowhere : PlainCursor
nowhere = record { name = []; length = 0; standing = among_nodes 0; at = 0 }

take-next : {X : Type 0} (k : ℕ) (xs : List X) (x : X) → k < length xs → x ≡ get_or xs k x → take (suc k) xs ≡ take k xs ++ x ∷ []
take-next zero [] x low at = absurd (omega arith)
take-next zero (y ∷ ys) x low at = ap (λ z. z ∷ []) (sym at)
take-next (suc k) [] x low at = absurd (omega arith)
take-next (suc k) (y ∷ ys) x low at = ap (λ z. y ∷ z) (take-next k ys x (omega arith) at)

front : {X : Type 0} (k : ℕ) (xs : List X) (x : X) → k < length xs → x ≡ get_or xs k x → xs ≡ take k xs ++ x ∷ drop (suc k) xs
front zero [] x low at = absurd (omega arith)
front zero (y ∷ ys) x low at = ap (λ z. z ∷ ys) (sym at)
front (suc k) [] x low at = absurd (omega arith)
front (suc k) (y ∷ ys) x low at = ap (λ z. y ∷ z) (front k ys x (omega arith) at)

take-whole : {X : Type 0} (k : ℕ) (xs : List X) → length xs ≤ k → take k xs ≡ xs
take-whole zero [] h = refl
take-whole (suc k) [] h = refl
take-whole zero (y ∷ ys) h = absurd (omega arith)
take-whole (suc k) (y ∷ ys) h = ap (λ z. y ∷ z) (take-whole k ys (omega arith))

abbrev calls : List Held → List WriterCall
calls hs = alt_calls (map held_view hs)

calls-append : (xs ys : List Held) → calls (xs ++ ys) ≡ calls xs ++ calls ys
calls-append xs ys = ap (map (λ (x : PlainAlt). alt_call x)) (map-append held_view xs ys) ∙ map-append _ (map held_view xs) (map held_view ys)

pub put-next : (k : ℕ) (hs : List Held) (h : Held) (s t u : State) → k < length hs → h ≡ get_or hs k h → Sent (calls (take k hs)) s t None → Sent (alt_call (held_view h) ∷ []) t u None → Sent (calls (take (k + 1) hs)) s u None
put-next k hs h s t u low at done sent =
    let is : calls (take (k + 1) hs) ≡ calls (take k hs) ++ alt_call (held_view h) ∷ [] = ap (λ n. calls (take n hs)) (add-one k) ∙ ap calls (take-next k hs h low at) ∙ calls-append (take k hs) (h ∷ []) in
    sent-as s u None _ _ is (sent-then s t u None (calls (take k hs)) (alt_call (held_view h) ∷ []) done sent)

pub put-fault : (k : ℕ) (hs : List Held) (h : Held) (s t u : State) (f : CopyFault) → k < length hs → h ≡ get_or hs k h → Sent (calls (take k hs)) s t None → Sent (alt_call (held_view h) ∷ []) t u (Some f) → Sent (calls hs ++ call_end_leaf ∷ []) s u (Some f)
put-fault k hs h s t u f low at done sent =
    let rest = calls (drop (suc k) hs) ++ call_end_leaf ∷ [] in
    let is : calls hs ++ call_end_leaf ∷ [] ≡ (calls (take k hs) ++ alt_call (held_view h) ∷ []) ++ rest =
    ap (λ z. z ++ call_end_leaf ∷ []) (ap calls (front k hs h low at) ∙ calls-append (take k hs) (h ∷ drop (suc k) hs))
    ∙ append_assoc (calls (take k hs)) (alt_call (held_view h) ∷ calls (drop (suc k) hs)) (call_end_leaf ∷ [])
    ∙ sym (append_assoc (calls (take k hs)) (alt_call (held_view h) ∷ []) rest) in
    sent-as s u (Some f) _ _ is (sent-fault s u f (calls (take k hs) ++ alt_call (held_view h) ∷ []) rest (sent-then s t u (Some f) (calls (take k hs)) (alt_call (held_view h) ∷ []) done sent))

pub put-end : (k : ℕ) (hs : List Held) (s t u : State) (e : Option CopyFault) → length hs ≤ k → Sent (calls (take k hs)) s t None → Sent (call_end_leaf ∷ []) t u e → Sent (calls hs ++ call_end_leaf ∷ []) s u e
put-end k hs s t u e high done sent =
    sent-then s t u e (calls hs) (call_end_leaf ∷ []) (subst (λ z. Sent (calls z) s t None) (take-whole k hs high) done) sent

-- the leaf stands begun as before
pub leaf-stands : (hs : List Held) (s t : State) → Sent (calls hs) s t None → s.writer.leaf ≢ None → t.writer.leaf ≢ None
leaf-stands hs s t sent leaf none =
    let run = sent.run in
    let is : t.writer ≡ after_all s.writer (calls hs) = run.writer ∙ ap (after_all s.writer) sent.part in
    leaf (sym (alts-keep s.writer (map held_view hs)).0 ∙ ap (λ (w : PlainWriter). w.leaf) (sym is) ∙ none)
