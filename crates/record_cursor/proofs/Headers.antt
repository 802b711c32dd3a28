-- A header is read from its own bytes alone.
use Rattle.std.proofs.Common.{◌≡◌, ℕ, ◌+◌, ◌-◌, ◌<◌, ◌≤◌, ◌^◌, Bool, true, false, cond, ltb, leb, List, [], ◌++◌, length, take, drop, Option, Some, None, Result, Ok, Err, refl, sym, ap, subst, ◌∙◌, append_assoc, arith, length-take-le, length-drop, drop-drop}
use Rattle.std.specs.Option.{option_map}
use Rattle.std.specs.Prelude.{bytes_eq}
use Rattle.std.specs.Int.{w32, from_be_bytes}
use Rattle.std.proofs.lemmas.Bool.{le-ltb, ltb-false}
use Rattle.std.proofs.lemmas.List.{append-nil, drop_all, drop-take, length-take, take-append-drop}
use Rattle.std.proofs.lemmas.Slice.Eq.{bytes_eq-Decides}
use Rattle.std.proofs.Math.Seq.{take-add}
use Rattle.key_spec.specs.Data.{PlainRule, PlainSpecFault}
use Rattle.key_spec.specs.Canonical.{canonical, spelled_by}
use Rattle.key_spec.specs.Closed.{closed}
use Rattle.xa_fields.specs.Reading.{Reader, ◌>>=◌, number_at, both_at, only_at}
use Rattle.xa_fields.specs.Laws.{IsBytes}
use Rattle.xa_fields.specs.Spelling.{u32_bytes, text_bytes}
use Rattle.xa_fields.proofs.Fields.{IsBytes-drop, u32_reads}
use Rattle.xa_fields.specs.FieldLaws.{bind_some, guard_some, number-there, some_is}
use Rattle.xa_outside.specs.Numbers.{Numbers, PullsAtMost}
use Rattle.xa_outside.specs.NumberLaws.{PullsAtMost-more, PullsAtMost-trans}
use Rattle.record_parts.specs.Bounds.{most}
use Rattle.record_format.specs.Files.{magic, header_bytes}
use Rattle.record_format.specs.Fronts.{bytes_at, front_at, header_at, header}
use Rattle.record_cursor.specs.Steps.{HasText}
use Rattle.record_cursor.proofs.Fills.{take-front}

-- ---- numbers

-- a number that is read
record NumberAt (bytes : List ℕ) (x : ℕ × List ℕ) : Type 0 where
  fits : 4 ≤ length bytes
  is : (from_be_bytes w32 (take 4 bytes), drop 4 bytes) ≡ x

number-is : (bytes : List ℕ) (x : ℕ × List ℕ) → number_at w32 bytes ≡ Some x → NumberAt bytes x
number-is bytes x e =
    let g = guard_some (ltb (length bytes) 4) (Some (from_be_bytes w32 (take 4 bytes), drop 4 bytes)) x e in
    record { fits = ltb-false _ _ g.0; is = some_is (from_be_bytes w32 (take 4 bytes), drop 4 bytes) x g.1 }

-- and is read of the front of the bytes as well
number-front : (bytes : List ℕ) (k : ℕ) → 4 + k ≤ length bytes → number_at w32 (take (4 + k) bytes) ≡ Some (from_be_bytes w32 (take 4 bytes), take k (drop 4 bytes))
number-front bytes k fits =
    let len : length (take (4 + k) bytes) ≡ 4 + k = length-take-le _ _ fits in
    number-there w32 (take (4 + k) bytes) (omega (arith, len))
    ∙ (λ i. Some (from_be_bytes w32 (take-front 4 k bytes fits i), drop-take 4 k bytes i))

-- ---- fields

-- a text of this length
bytes-there : (bytes : List ℕ) (text : ℕ) (rest : List ℕ) → number_at w32 bytes ≡ Some (text, rest) → text ≤ length rest → bytes_at bytes ≡ Some (take text rest, drop text rest)
unfolding bytes_at
bytes-there bytes text rest e fits = (let long : ltb (length rest) text ≡ false = le-ltb _ _ fits in rw (e, long) refl)

abbrev count_at : Reader ℕ
count_at = only_at (λ n. leb n most) (number_at w32)

abbrev with_text : List ℕ → ℕ × List ℕ → Option ((List ℕ × ℕ) × List ℕ)
with_text text c = Some ((text, c.0), c.1)

passed-text : (b : Bool) (text rest : List ℕ) (n : ℕ) → (cond b (Some (n, rest)) None >>= with_text text) ≡ cond b (Some ((text, n), rest)) None
passed-text true text rest n = refl
passed-text false text rest n = refl

-- the text and the number of versions behind it
both-there : (bytes text more rest : List ℕ) (n : ℕ) → bytes_at bytes ≡ Some (text, more) → number_at w32 more ≡ Some (n, rest) → both_at bytes_at count_at bytes ≡ cond (leb n most) (Some ((text, n), rest)) None
unfolding both_at only_at
both-there bytes text more rest n e f = rw (e, f) (passed-text (leb n most) text rest n)

-- the fields behind the magic, and those of the front of the bytes
record Fields (d : List ℕ) (text : ℕ) : Type 0 where
  whole : both_at bytes_at count_at d ≡ cond (leb (from_be_bytes w32 (take 4 (drop text (drop 4 d)))) most) (Some ((take text (drop 4 d), from_be_bytes w32 (take 4 (drop text (drop 4 d)))), drop 4 (drop text (drop 4 d)))) None
  front : both_at bytes_at count_at (take (4 + (text + 4)) d) ≡ cond (leb (from_be_bytes w32 (take 4 (drop text (drop 4 d)))) most) (Some ((take text (drop 4 d), from_be_bytes w32 (take 4 (drop text (drop 4 d)))), [])) None

fields : (d : List ℕ) (text : ℕ) → from_be_bytes w32 (take 4 d) ≡ text → 8 + text ≤ length d → Fields d text
fields d text is fits =
    let more = drop 4 d in
    let behind = drop text more in
    let n = from_be_bytes w32 (take 4 behind) in
    let room : text + 4 ≤ length more = omega (arith, length-drop 4 d) in
    let last : 4 ≤ length behind = omega (arith, length-drop 4 d, length-drop text more) in
    let here : number_at w32 d ≡ Some (text, more) = number-there w32 d (omega arith) ∙ ap (λ (k : ℕ). Some (k, more)) is in
    let there : number_at w32 (take (4 + (text + 4)) d) ≡ Some (text, take (text + 4) more) = number-front d (text + 4) (omega arith) ∙ ap (λ (k : ℕ). Some (k, take (text + 4) more)) is in
    let len : length (take (text + 4) more) ≡ text + 4 = length-take-le _ _ room in
    let short : bytes_at (take (4 + (text + 4)) d) ≡ Some (take text more, take 4 behind) =
    bytes-there (take (4 + (text + 4)) d) text (take (text + 4) more) there (omega (arith, len)) ∙ (λ i. Some (take-front text 4 more room i, drop-take text 4 more i)) in
    record {
      whole = both-there d (take text more) behind (drop 4 behind) n (bytes-there d text more here (omega arith)) (number-there w32 behind last);
      front = both-there (take (4 + (text + 4)) d) (take text more) (take 4 behind) [] n short (number-front behind 0 (omega arith));
    }

-- ---- headers

abbrev with_rules : ℕ × List ℕ → List PlainRule → Option ((List PlainRule × ℕ) × List ℕ)
with_rules c rules = Some ((rules, c.0), c.1)

abbrev with_spec : (List ℕ × ℕ) × List ℕ → Option ((List PlainRule × ℕ) × List ℕ)
with_spec f = spelled_by f.0.0 (closed f.0.0) >>= with_rules (f.0.1, f.1)

abbrev before : List ℕ → (List PlainRule × ℕ) × List ℕ → (List PlainRule × ℕ) × List ℕ
before rest x = (x.0, rest)

same-rules : (o : Option (List PlainRule)) (n : ℕ) (rest : List ℕ) → (o >>= with_rules (n, rest)) ≡ option_map (before rest) (o >>= with_rules (n, []))
same-rules (Some rules) n rest = refl
same-rules None n rest = refl

-- the front of the bytes, as far as the header, gives the same header
same-front : (m b : Bool) (text rest : List ℕ) (n : ℕ)
    → (cond m (cond b (Some ((text, n), rest)) None) None >>= with_spec) ≡ option_map (before rest) (cond m (cond b (Some ((text, n), [])) None) None >>= with_spec)
same-front true true text rest n = same-rules (spelled_by text (closed text)) n rest
same-front true false text rest n = refl
same-front false b text rest n = refl

pub header-front : (bytes : List ℕ) (first : ℕ) → HasText bytes first → first ≤ length bytes → header_at bytes ≡ option_map (before (drop first bytes)) (header_at (take first bytes))
unfolding header_at front_at
header-front bytes first h fits =
    let text = h.text in
    let d = drop 6 bytes in
    let long : first ≡ 14 + text = h.length in
    let read = number-is d (text, drop 10 bytes) h.stands in
    let is : from_be_bytes w32 (take 4 d) ≡ text = ap (λ (x : ℕ × List ℕ). x.0) read.is in
    let f = fields d text is (omega (arith, length-drop 6 bytes)) in
    let apart : first ≡ 6 + (8 + text) = omega arith in
    let magic_front : take 6 (take first bytes) ≡ take 6 bytes = ap (λ (k : ℕ). take 6 (take k bytes)) apart ∙ take-front 6 (8 + text) bytes (omega arith) in
    let fields_front : drop 6 (take first bytes) ≡ take (4 + (text + 4)) d = ap (λ (k : ℕ). drop 6 (take k bytes)) (long ∙ omega arith) ∙ drop-take 6 (4 + (text + 4)) bytes in
    let behind : drop 4 (drop text (drop 4 d)) ≡ drop first bytes =
    ap (drop 4) (drop-drop text 4 d) ∙ drop-drop 4 (4 + text) d ∙ drop-drop (4 + text + 4) 6 bytes ∙ ap (λ (k : ℕ). drop k bytes) (omega (arith, long)) in
    rw (magic_front, fields_front, f.whole, f.front, sym behind)
    (same-front (bytes_eq (take 6 bytes) magic) (leb (from_be_bytes w32 (take 4 (drop text (drop 4 d)))) most) (take text (drop 4 d)) (drop 4 (drop text (drop 4 d))) (from_be_bytes w32 (take 4 (drop text (drop 4 d)))))

-- what a header takes
pub record Header (bytes : List ℕ) (x : (List PlainRule × ℕ) × List ℕ) : Type 0 where
  pub text : ℕ
  pub stands : number_at w32 (drop 6 bytes) ≡ Some (text, drop 10 bytes)
  pub within : 14 + text ≤ length bytes
  pub marked : take 6 bytes ≡ magic
  pub counted : number_at w32 (drop (10 + text) bytes) ≡ Some (x.0.1, x.1)
  pub behind : x.1 ≡ drop (14 + text) bytes
  pub spelled : spelled_by (take text (drop 10 bytes)) (closed (take text (drop 10 bytes))) ≡ Some x.0.0

passed : {A : Type 0} (b : Bool) (r : Option A) (y : A) → cond b r None ≡ Some y → (b ≡ true) × (r ≡ Some y)
passed true r y e = (refl, e)
passed false r y e = absurd cc

-- the bytes of a text, with what stands behind it
record TextAt (d : List ℕ) (x : List ℕ × List ℕ) : Type 0 where
  text : ℕ
  stands : number_at w32 d ≡ Some (text, drop 4 d)
  within : 4 + text ≤ length d
  is : (take text (drop 4 d), drop text (drop 4 d)) ≡ x

text-is : (d : List ℕ) (x : List ℕ × List ℕ) → bytes_at d ≡ Some x → TextAt d x
unfolding bytes_at
text-is d x e =
    let a = bind_some (number_at w32 d) (λ n. cond (ltb (length n.1) n.0) None (Some (take n.0 n.1, drop n.0 n.1))) x e in
    let n = number-is d a.0 a.1 in
    let g = guard_some (ltb (length a.0.1) a.0.0) (Some (take a.0.0 a.0.1, drop a.0.0 a.0.1)) x a.2 in
    let rest : a.0.1 ≡ drop 4 d = sym (ap (λ (y : ℕ × List ℕ). y.1) n.is) in
    let fits : a.0.0 ≤ length a.0.1 = ltb-false _ _ g.0 in
    let room : 4 ≤ length d = n.fits in
    record {
      text = a.0.0;
      stands = a.1 ∙ ap (λ (y : List ℕ). Some (a.0.0, y)) rest;
      within = omega (arith, ap length rest, length-drop 4 d);
      is = (λ i. (take a.0.0 (sym rest i), drop a.0.0 (sym rest i))) ∙ some_is (take a.0.0 a.0.1, drop a.0.0 a.0.1) x g.1;
    }

-- the number of versions, and the bytes behind it
same-count : (b : ℕ × List ℕ) (text : List ℕ) (f : (List ℕ × ℕ) × List ℕ) (rules : List PlainRule) (x : (List PlainRule × ℕ) × List ℕ) → ((text, b.0), b.1) ≡ f → ((rules, f.0.1), f.1) ≡ x → b ≡ (x.0.1, x.1)
same-count b text f rules x p q = ap (λ (y : (List ℕ × ℕ) × List ℕ). (y.0.1, y.1)) p ∙ ap (λ (y : (List PlainRule × ℕ) × List ℕ). (y.0.1, y.1)) q

count-there : (bytes more : List ℕ) (at : ℕ) (c b : ℕ × List ℕ) (x : (List PlainRule × ℕ) × List ℕ) → more ≡ drop at bytes → number_at w32 more ≡ Some c → c ≡ b → b ≡ (x.0.1, x.1) → number_at w32 (drop at bytes) ≡ Some (x.0.1, x.1)
count-there bytes more at c b x e read last own = ap (number_at w32) (sym e) ∙ read ∙ ap (λ (y : ℕ × List ℕ). Some y) (last ∙ own)

pub header-is : (bytes : List ℕ) (x : (List PlainRule × ℕ) × List ℕ) → header_at bytes ≡ Some x → Header bytes x
unfolding header_at front_at both_at only_at
header-is bytes x e =
    let d = drop 6 bytes in
    let front = cond (bytes_eq (take 6 bytes) magic) (bytes_at d >>= λ a. (number_at w32 a.1 >>= λ n. cond (leb n.0 most) (Some n) None) >>= λ b. Some ((a.0, b.0), b.1)) None in
    let f = bind_some front (λ f. spelled_by f.0.0 (closed f.0.0) >>= λ rules. Some ((rules, f.0.1), f.1)) x e in
    let s = bind_some (spelled_by f.0.0.0 (closed f.0.0.0)) (λ rules. Some ((rules, f.0.0.1), f.0.1)) x f.2 in
    let inner = passed (bytes_eq (take 6 bytes) magic) (bytes_at d >>= λ a. (number_at w32 a.1 >>= λ n. cond (leb n.0 most) (Some n) None) >>= λ b. Some ((a.0, b.0), b.1)) f.0 f.1 in
    let a = bind_some (bytes_at d) (λ a. (number_at w32 a.1 >>= λ n. cond (leb n.0 most) (Some n) None) >>= λ b. Some ((a.0, b.0), b.1)) f.0 inner.1 in
    let t = text-is d a.0 a.1 in
    let b = bind_some (number_at w32 a.0.1 >>= λ n. cond (leb n.0 most) (Some n) None) (λ b. Some ((a.0.0, b.0), b.1)) f.0 a.2 in
    let c = bind_some (number_at w32 a.0.1) (λ n. cond (leb n.0 most) (Some n) None) b.0 b.1 in
    let n = number-is a.0.1 c.0 c.1 in
    let last : c.0 ≡ b.0 = some_is c.0 b.0 (passed (leb c.0.0 most) (Some c.0) b.0 c.2).1 in
    let text : f.0.0.0 ≡ take t.text (drop 10 bytes) = ap (λ (y : (List ℕ × ℕ) × List ℕ). y.0.0) (sym (some_is ((a.0.0, b.0.0), b.0.1) f.0 b.2)) ∙ ap (λ (y : List ℕ × List ℕ). y.0) (sym t.is) ∙ ap (take t.text) (drop-drop 4 6 bytes) in
    let more : a.0.1 ≡ drop t.text (drop 4 d) = ap (λ (y : List ℕ × List ℕ). y.1) (sym t.is) in
    let ten : drop t.text (drop 4 d) ≡ drop (10 + t.text) bytes = ap (drop t.text) (drop-drop 4 6 bytes) ∙ drop-drop t.text 10 bytes in
    let own = same-count b.0 a.0.0 f.0 s.0 x (some_is ((a.0.0, b.0.0), b.0.1) f.0 b.2) (some_is ((s.0, f.0.0.1), f.0.1) x s.2) in
    let behind : x.1 ≡ drop 4 a.0.1 =
    ap (λ (y : (List PlainRule × ℕ) × List ℕ). y.1) (sym (some_is ((s.0, f.0.0.1), f.0.1) x s.2)) ∙ ap (λ (y : (List ℕ × ℕ) × List ℕ). y.1) (sym (some_is ((a.0.0, b.0.0), b.0.1) f.0 b.2))
    ∙ ap (λ (y : ℕ × List ℕ). y.1) (sym last) ∙ ap (λ (y : ℕ × List ℕ). y.1) (sym n.is) in
    let room : 4 ≤ length a.0.1 = n.fits in
    let within : 4 + t.text ≤ length d = t.within in
    record {
      text = t.text;
      stands = t.stands ∙ ap (λ (y : List ℕ). Some (t.text, y)) (drop-drop 4 6 bytes);
      within = omega (arith, ap length more, length-drop t.text (drop 4 d), length-drop 4 d, length-drop 6 bytes);
      marked = (bytes_eq-Decides (take 6 bytes) magic).0 inner.0;
      counted = count-there bytes a.0.1 (10 + t.text) c.0 b.0 x (more ∙ ten) c.1 last own;
      behind = behind ∙ ap (drop 4) more ∙ ap (drop 4) (drop-drop t.text 4 d) ∙ drop-drop 4 (4 + t.text) d ∙ drop-drop (4 + t.text + 4) 6 bytes ∙ ap (λ (k : ℕ). drop k bytes) (omega arith);
      spelled = ap (λ (y : List ℕ). spelled_by y (closed y)) (sym text) ∙ s.1 ∙ ap (λ (y : (List PlainRule × ℕ) × List ℕ). Some y.0.0) (some_is ((s.0, f.0.0.1), f.0.1) x s.2);
    }

-- ---- what is read of a header is spelled by the bytes

own-text : (text : List ℕ) (answer : Result (List PlainRule) PlainSpecFault) (rules : List PlainRule) → spelled_by text answer ≡ Some rules → canonical rules ≡ text
own-text text (Err f) rules e = absurd cc
own-text text (Ok others) rules e =
    let two = passed (bytes_eq (canonical others) text) (Some others) rules e in
    ap canonical (sym (some_is others rules two.1)) ∙ (bytes_eq-Decides (canonical others) text).0 two.0

header-spelled : (bytes : List ℕ) (x : (List PlainRule × ℕ) × List ℕ) → IsBytes bytes → header_at bytes ≡ Some x → (bytes ≡ header_bytes x.0.0 x.0.1 ++ x.1) × (length (canonical x.0.0) < 2 ^ 32)
header-spelled bytes x fits e =
    let h = header-is bytes x e in
    let n = x.0.1 in
    let text = take h.text (drop 10 bytes) in
    let behind = drop (10 + h.text) bytes in
    let within = h.within in
    let size = u32_reads.takes (drop 6 bytes) (h.text, drop 10 bytes) (IsBytes-drop 6 bytes fits) h.stands in
    let count = u32_reads.takes behind (n, x.1) (IsBytes-drop (10 + h.text) bytes fits) h.counted in
    let len : length text ≡ h.text = length-take-le h.text (drop 10 bytes) (omega (arith, within, length-drop 10 bytes)) in
    let own : canonical x.0.0 ≡ text = own-text text (closed text) x.0.0 h.spelled in
    let fields : drop 6 bytes ≡ u32_bytes (length text) ++ (text ++ (u32_bytes n ++ x.1)) =
    size.takes.parts ∙ ap (λ (z : List ℕ). u32_bytes h.text ++ z) (sym (take-append-drop h.text (drop 10 bytes)) ∙ ap (λ (z : List ℕ). text ++ z) (drop-drop h.text 10 bytes ∙ count.takes.parts))
    ∙ ap (λ (k : ℕ). u32_bytes k ++ (text ++ (u32_bytes n ++ x.1))) (sym len) in
    let joined : u32_bytes (length text) ++ (text ++ (u32_bytes n ++ x.1)) ≡ (text_bytes text ++ u32_bytes n) ++ x.1 =
    sym (append_assoc (u32_bytes (length text)) text (u32_bytes n ++ x.1)) ∙ sym (append_assoc (text_bytes text) (u32_bytes n) x.1) in (
      sym (take-append-drop 6 bytes) ∙ (λ i. h.marked i ++ (fields ∙ joined) i) ∙ sym (append_assoc magic (text_bytes text ++ u32_bytes n) x.1) ∙ ap (λ (z : List ℕ). (magic ++ (text_bytes z ++ u32_bytes n)) ++ x.1) (sym own),
      subst (λ (z : List ℕ). length z < 2 ^ 32) (sym own) (omega (arith, len, size.fits)),
    )

-- ---- bytes without a header

none-of : {X : Type 0} (o : Option X) → ((x : X) → o ≡ Some x → ⊥) → o ≡ None
none-of (Some x) h = absurd (h x refl)
none-of None h = refl

pub no-header-few : (bytes : List ℕ) → length bytes < 14 → header_at bytes ≡ None
no-header-few bytes few = none-of (header_at bytes) (λ x e. (let h = header-is bytes x e in let within = h.within in omega arith))

-- the length of the text stands in the front
pub text-of : (bytes front behind : List ℕ) (text : ℕ) → front ≡ take 10 bytes → length front ≡ 10 → Some (text, behind) ≡ number_at w32 (drop 6 front) → number_at w32 (drop 6 bytes) ≡ Some (text, drop 10 bytes)
text-of bytes front behind text is len e =
    let room : 10 ≤ length bytes = omega (arith, len, ap length is, length-take 10 bytes) in
    let four : drop 6 front ≡ take 4 (drop 6 bytes) = ap (drop 6) is ∙ drop-take 6 4 bytes in
    let more : 4 ≤ length (drop 6 bytes) = omega (arith, length-drop 6 bytes) in
    let n = from_be_bytes w32 (take 4 (drop 6 bytes)) in
    let same : text ≡ n = ap (λ (x : ℕ × List ℕ). x.0) (some_is (text, behind) (n, []) (e ∙ ap (number_at w32) four ∙ number-front (drop 6 bytes) 0 more)) in
    number-there w32 (drop 6 bytes) more ∙ (λ i. Some (sym same i, drop-drop 4 6 bytes i))

same-text : (bytes : List ℕ) (text other : ℕ) → number_at w32 (drop 6 bytes) ≡ Some (text, drop 10 bytes) → number_at w32 (drop 6 bytes) ≡ Some (other, drop 10 bytes) → text ≡ other
same-text bytes text other e f = ap (λ (x : ℕ × List ℕ). x.0) (some_is (text, drop 10 bytes) (other, drop 10 bytes) (sym e ∙ f))

pub no-header-long : (bytes : List ℕ) (text : ℕ) → number_at w32 (drop 6 bytes) ≡ Some (text, drop 10 bytes) → length bytes < 14 + text → header_at bytes ≡ None
no-header-long bytes text e long = none-of (header_at bytes) (λ x f. (let h = header-is bytes x f in let within = h.within in omega (arith, same-text bytes text h.text e h.stands)))

pub no-header-text : (bytes : List ℕ) (text : ℕ) → number_at w32 (drop 6 bytes) ≡ Some (text, drop 10 bytes) → 14 + text ≤ length bytes → ((t : List ℕ) → length t ≡ text → spelled_by t (closed t) ≡ None) → header_at bytes ≡ None
no-header-text bytes text e fits none = none-of (header_at bytes) (λ x f. (
    let h = header-is bytes x f in
    let same = same-text bytes text h.text e h.stands in
    let len : length (take h.text (drop 10 bytes)) ≡ text = length-take-le h.text (drop 10 bytes) (omega (arith, length-drop 10 bytes, same)) ∙ sym same in
    no-some (spelled_by (take h.text (drop 10 bytes)) (closed (take h.text (drop 10 bytes)))) x.0.0 (none (take h.text (drop 10 bytes)) len) h.spelled))
  where
    no-some : (o : Option (List PlainRule)) (r : List PlainRule) → o ≡ None → o ≡ Some r → ⊥
    no-some (Some y) r p q = cc
    no-some None r p q = cc

-- ---- the length of a header

pub header-least : (bytes : List ℕ) (x : List PlainRule × ℕ) (first : ℕ) → header_at bytes ≡ Some (x, drop first bytes) → first ≤ length bytes → 14 ≤ first
header-least bytes x first e fits = (
    let h = header-is bytes (x, drop first bytes) e in
    let within = h.within in
    omega (arith, ap length h.behind, length-drop first bytes, length-drop (14 + h.text) bytes))

pub header-first : (bytes : List ℕ) (x : List PlainRule × ℕ) (first size : ℕ) → header_at bytes ≡ Some (x, drop first bytes) → first ≤ length bytes → HasText bytes size → size ≡ first
header-first bytes x first size e fits text = (
    let h = header-is bytes (x, drop first bytes) e in
    let within = h.within in
    omega (arith, text.length, same-text bytes text.text h.text text.stands h.stands, ap length h.behind, length-drop first bytes, length-drop (14 + h.text) bytes))

-- ---- what is read of the front

read-some : (o : Option ((List PlainRule × ℕ) × List ℕ)) (x : List PlainRule × ℕ) (rest : List ℕ) → option_map (λ y. y.0) o ≡ Some x → option_map (before rest) o ≡ Some (x, rest)
read-some (Some y) x rest e = ap (λ (z : List PlainRule × ℕ). Some (z, rest)) (some_is y.0 x e)
read-some None x rest e = absurd cc

read-none : (o : Option ((List PlainRule × ℕ) × List ℕ)) (rest : List ℕ) → option_map (λ y. y.0) o ≡ None → option_map (before rest) o ≡ None
read-none (Some y) rest e = absurd cc
read-none None rest e = refl

pub header-told : (bytes read : List ℕ) (first : ℕ) (x : List PlainRule × ℕ) → HasText bytes first → first ≤ length bytes → read ≡ take first bytes → header read ≡ Some x → header_at bytes ≡ Some (x, drop first bytes)
header-told bytes read first x h fits is e = header-front bytes first h fits ∙ read-some (header_at (take first bytes)) x (drop first bytes) (ap header (sym is) ∙ e)

pub header-missing : (bytes read : List ℕ) (first : ℕ) → HasText bytes first → first ≤ length bytes → read ≡ take first bytes → header read ≡ None → header_at bytes ≡ None
header-missing bytes read first h fits is e = header-front bytes first h fits ∙ read-none (header_at (take first bytes)) (drop first bytes) (ap header (sym is) ∙ e)

-- nothing is left of the front behind a header
header-all : (bytes : List ℕ) (first : ℕ) (x : List PlainRule × ℕ) (rest : List ℕ) → HasText bytes first → first ≤ length bytes → header_at (take first bytes) ≡ Some (x, rest) → rest ≡ []
header-all bytes first x rest t fits e =
    let h = header-is (take first bytes) (x, rest) e in
    let d = drop 6 bytes in
    let long : first ≡ 14 + t.text = t.length in
    let len : length (take first bytes) ≡ first = length-take-le first bytes fits in
    let apart : drop 6 (take first bytes) ≡ take (4 + (4 + t.text)) d = ap (λ (k : ℕ). drop 6 (take k bytes)) (long ∙ omega arith) ∙ drop-take 6 (4 + (4 + t.text)) bytes in
    let there = number-is d (t.text, drop 10 bytes) t.stands in
    let here = number-front d (4 + t.text) (omega (arith, length-drop 6 bytes)) in
    let same : h.text ≡ from_be_bytes w32 (take 4 d) = ap (λ (y : ℕ × List ℕ). y.0) (some_is (h.text, drop 10 (take first bytes)) (from_be_bytes w32 (take 4 d), take (4 + t.text) (drop 4 d)) (sym h.stands ∙ ap (number_at w32) apart ∙ here)) in
    let is : from_be_bytes w32 (take 4 d) ≡ t.text = ap (λ (y : ℕ × List ℕ). y.0) there.is in
    h.behind ∙ drop_all (14 + h.text) (take first bytes) (omega (arith, len, same, is))

read-header : (read : List ℕ) (x : List PlainRule × ℕ) → header read ≡ Some x → (rest : List ℕ) × (header_at read ≡ Some (x, rest))
read-header read x e = found (header_at read) e
  where
    found : (o : Option ((List PlainRule × ℕ) × List ℕ)) → option_map (λ y. y.0) o ≡ Some x → (rest : List ℕ) × (o ≡ Some (x, rest))
    found (Some y) e = (y.1, ap (λ (z : List PlainRule × ℕ). Some (z, y.1)) (some_is y.0 x e))
    found None e = absurd cc

-- the bytes of which the front was read
pub stored-spelled : (bytes read : List ℕ) (first : ℕ) (x : List PlainRule × ℕ) → HasText bytes first → first ≤ length bytes → read ≡ take first bytes → IsBytes read → header read ≡ Some x → (bytes ≡ header_bytes x.0 x.1 ++ drop first bytes) × (length (canonical x.0) < 2 ^ 32)
stored-spelled bytes read first x t fits is own e =
    let r = read-header read x e in
    let there = header-spelled read (x, r.0) own r.1 in
    let none : r.0 ≡ [] = header-all bytes first x r.0 t fits (ap header_at (sym is) ∙ r.1) in
    let front : take first bytes ≡ header_bytes x.0 x.1 = sym is ∙ there.0 ∙ ap (λ (z : List ℕ). header_bytes x.0 x.1 ++ z) none ∙ append-nil (header_bytes x.0 x.1) in
    (sym (take-append-drop first bytes) ∙ ap (λ (z : List ℕ). z ++ drop first bytes) front, there.1)

-- the front and the rest of a header
pub joined : (bytes front rest : List ℕ) (first : ℕ) → front ≡ take 10 bytes → rest ≡ take (first - 10) (drop 10 bytes) → 10 ≤ first → front ++ rest ≡ take first bytes
joined bytes front rest first f r le = (λ i. f i ++ r i) ∙ sym (take-add 10 (first - 10) bytes) ∙ ap (λ (n : ℕ). take n bytes) (omega arith)

-- ---- the bytes that are pulled

pub pulled-all : (first limit : ℕ) (a b d : Numbers) → 14 ≤ first → first ≤ limit → PullsAtMost 10 a b → PullsAtMost (first - 10) b d → PullsAtMost limit a d
pulled-all first limit a b d some fits p q = PullsAtMost-more (10 + (first - 10)) limit a d (omega arith) (PullsAtMost-trans 10 (first - 10) a b d p q)
