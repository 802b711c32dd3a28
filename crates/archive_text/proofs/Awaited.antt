-- What has come of the bytes that are awaited.
use Rattle.std.proofs.Common.{◌≡◌, ◌≢◌, ◌↔◌, ℕ, ◌+◌, ◌-◌, ◌≤◌, ◌==◌, false, true, Bool, IsTrue, List, [], ◌∷◌, ◌++◌, length, take, drop, slice_get, Option, Some, None, is_some, option_to_list, refl, sym, ap, ◌∙◌, arith, append-nil, append_assoc, length-append, length-take, take-append-drop}
use Rattle.std.specs.Option.{ForSome, ForNone}
use Rattle.std.specs.List.{starts_with}
use Rattle.std.proofs.lemmas.Bool.Decides.{Decides-eqb}
use Rattle.std.proofs.lemmas.Slice.Eq.{starts_is}
use Rattle.std.proofs.Math.Seq.{take-append_seam, take-length}
use Rattle.xa_outside.specs.Taken.{StaysBehind, Takes, TakesPrefix}
use Rattle.xa_outside.specs.Causes.{Rose}
use Rattle.xa_outside.proofs.Fronts.{take-rest}
use Rattle.archive_text.specs.Faults.{IfSink}
use Rattle.archive_text.specs.declared.fault.TextFault.{TextFault}
use Rattle.archive_text.specs.declared.fault.TextFault.TheVariants.{Sink, Memory}
use Rattle.archive_text.specs.Expected.{awaited, came, expected_taken, failures_of, waits}
use Rattle.archive_text.specs.declared.expected.Expected.{Expected}

none_is : (o : Option ℕ) → is_some o ≡ false → o ≡ None
none_is None e = refl
none_is (Some x) e = absurd (cc)

-- a piece that stands in front of what is left
pub took : (bs piece : List ℕ) (done : ℕ) (odd : Option ℕ) (r : Bool) → is_some odd ≡ false → done ≤ length bs → r ≡ true → r ≡ starts_with (λ x y. x == y) (take (length bs - done) (drop done bs)) piece
    → take (done + length piece) bs ++ option_to_list odd ≡ (take done bs ++ option_to_list odd) ++ take (length piece) piece
took bs piece done odd r none within t found =
    let s = take (length bs - done) (drop done bs) in
    let front : take (length piece) s ≡ piece = ap (take (length piece)) ((starts_is Decides-eqb s piece r found).0 t) ∙ take-append_seam piece (drop (length piece) s) in
    let bare : (l : List ℕ) → l ++ option_to_list odd ≡ l = λ l. ap (λ o. l ++ option_to_list o) (none_is odd none) ∙ append-nil l in
    bare (take (done + length piece) bs) ∙ sym (take-rest done (length piece) bs within) ∙ ap (λ l. take done bs ++ l) (front ∙ sym (take-length piece)) ∙ ap (λ l. l ++ take (length piece) piece) (sym (bare (take done bs)))

-- what stands at the front of a piece, taken anew by its length
pub cut_again : (n : ℕ) (piece : List ℕ) → take (length (take n piece)) piece ≡ take n piece
cut_again n piece = ap (take (length (take n piece))) (sym (take-append-drop n piece)) ∙ take-append_seam (take n piece) (drop n piece)

-- ---- what is awaited stays

none_more : (bytes more : List ℕ) → length (bytes ++ more) ≡ length bytes → more ≡ []
none_more bytes [] e = refl
none_more bytes (b ∷ more) e = absurd (omega (arith, e, length-append bytes (b ∷ more)))

pub stays_as : (old now : List ℕ) → now ≡ old → StaysBehind (waits old) (waits now)
stays_as old now e = (ap length e, ([], e ∙ sym (append-nil old)), tt)

stays : (old now : List ℕ) → StaysBehind (waits old) (waits now) → now ≡ old
stays old now p =
    let more = p.1.0 in
    let is : now ≡ old ++ more = p.1.1 in
    is ∙ ap (λ l. old ++ l) (none_more old more (sym (ap length is) ∙ p.0)) ∙ append-nil old

-- ---- whether a text is what is awaited

pub is_whole_text : (old now : Expected) (bytes text : List ℕ) (r : Bool) → awaited old ≡ bytes → came old ≡ [] → Takes (expected_taken old) (expected_taken now) text → (IsTrue r ↔ (came now ≡ awaited now)) → IsTrue r ↔ (bytes ≡ text)
is_whole_text old now bytes text r awaits nothing p whole =
    let all : came now ≡ text = p.bytes ∙ ap (λ l. l ++ text) nothing in
    let same : awaited now ≡ bytes = stays (awaited old) (awaited now) p.behind ∙ awaits in
    ((λ t. sym same ∙ sym (whole.0 t) ∙ all), λ e. whole.1 (all ∙ sym e ∙ sym same))

at_end : (xs : List ℕ) (b : ℕ) (rest : List ℕ) → slice_get (xs ++ b ∷ rest) (length xs) ≡ Some b
at_end [] b rest = refl
at_end (x ∷ xs) b rest = at_end xs b rest

differs_at : (bs text : List ℕ) (done count : ℕ) (odd : Option ℕ) (failures : ℕ) → done ≤ length bs → ForSome odd (λ b. slice_get bs done ≢ Some b) → ForNone odd (failures ≡ 0) → 1 ≤ failures
    → take done bs ++ option_to_list odd ≡ take count text → bs ≡ text → ⊥
differs_at bs text done count None failures within differs in_vain failed front e = let none = in_vain refl in absurd (omega (arith, none, failed))
differs_at bs text done count (Some b) failures within differs in_vain failed front e =
    let rest = drop count text in
    let whole : bs ≡ take done bs ++ b ∷ rest = e ∙ sym (take-append-drop count text) ∙ ap (λ l. l ++ rest) (sym front) ∙ append_assoc (take done bs) (b ∷ []) rest in
    let size : done ≡ length (take done bs) = omega (arith, within, length-take done bs) in
    differs b refl (ap (λ l. slice_get l done) whole ∙ ap (slice_get (take done bs ++ b ∷ rest)) size ∙ at_end (take done bs) b rest)

pub is_other_text : (old now : Expected) (bytes text : List ℕ) → awaited old ≡ bytes → came old ≡ [] → 1 ≤ failures_of now → TakesPrefix (expected_taken old) (expected_taken now) text → bytes ≡ text → ⊥
is_other_text old now bytes text awaits nothing failed p e =
    let front : came now ≡ take p.count text = p.takes.bytes ∙ ap (λ l. l ++ take p.count text) nothing in
    differs_at now.bytes.now text now.done p.count now.odd now.failures now.within now.differs now.in_vain failed front (stays (awaited old) (awaited now) p.takes.behind ∙ awaits ∙ e)

-- the sink told of as failing
pub failed_once : (f : TextFault) (a b : ℕ) → f ≡ Sink → a ≡ 0 → IfSink f (Rose a b) → 1 ≤ b
failed_once Sink a b is e rose = omega (arith, e, rose)
failed_once Memory a b is e rose = absurd (cc)
