-- What is read of labels, sets and timestamps is spelled so, and what is spelled so is read.
use Rattle.std.proofs.Common.{◌≡◌, ◌≢◌, ℕ, zero, suc, ◌+◌, ◌^◌, ◌<◌, ◌≤◌, ◌*◌, max, ◌&&◌, ◌==◌, Bool, true, false, cond, leb, IsTrue, List, [], ◌∷◌, ◌++◌, length, Some, None, refl, ap, subst, ◌∙◌, append_assoc, arith}
use Rattle.std.specs.List.{AllByRecursion}
use Rattle.std.specs.Int.{w32}
use Rattle.std.proofs.lemmas.Bool.{leb-true, le-leb}
use Rattle.version_set.specs.Pairs.{IsFrom}
use Rattle.keyed_tree.specs.Data.{PlainName, attr, tag, PlainLabel, name_bytes}
use Rattle.archive_tree.specs.Data.{Stamp}
use Rattle.xa_fields.specs.Spelling.{u32_bytes, text_bytes, list_bytes, IsText}
use Rattle.xa_fields.specs.Reading.{◌>>=◌, number_at, text_at, list_at}
use Rattle.xa_fields.specs.Laws.{IsBytes, Read, Reads}
use Rattle.xa_fields.proofs.Fields.{bind_some, some_is, Takes-then, Takes-none, u32_reads, text_reads}
use Rattle.xa_fields.proofs.Combinators.{list_reads, both_reads}
use Rattle.timestamp_tree.specs.Bytes.{pair_bytes, set_bytes}
use Rattle.record_parts.specs.Spelling.{value_bytes, name_spelling, label_bytes, stamp_bytes}
use Rattle.record_parts.specs.Bounds.{IsValue, IsLabel, IsSet, IsStamp, most}
use Rattle.record_parts.specs.Reading.{value_at, name_of, name_at, label_at, stamp_of, stamp_at}
use Rattle.timestamp_tree.specs.Reading.{pair_at, next_pair, set_at}
use Rattle.record_parts.specs.Readers.{Kind, behind_kind, reads_as, not_zero}
use Rattle.xa_fields.proofs.Chains.{on_some, follows, IsChain, chained_reads}
use Rattle.record_parts.specs.Values.{value_reads}

-- ---- labels

abbrev IsName : PlainName → Type 0
IsName n = IsText (name_bytes n)

name_kind : (k : ℕ) (rest : List ℕ) (x : PlainName × List ℕ) → IsBytes rest → name_of k rest ≡ Some x → Kind name_spelling IsName k rest x
unfolding name_of
name_kind zero rest x fits e =
    let b = bind_some (text_at rest) (λ s. Some (attr s.0, s.1)) x e in
    let t = text_reads.takes rest b.0 fits b.1 in
    subst (λ (y : PlainName × List ℕ). Kind name_spelling IsName 0 rest y) (some_is (attr b.0.0, b.0.1) x b.2) (record { front = text_bytes b.0.0; spelled = refl; takes = t.takes; fits = t.fits })
name_kind (suc zero) rest x fits e =
    let b = bind_some (text_at rest) (λ s. Some (tag s.0, s.1)) x e in
    let t = text_reads.takes rest b.0 fits b.1 in
    subst (λ (y : PlainName × List ℕ). Kind name_spelling IsName 1 rest y) (some_is (tag b.0.0, b.0.1) x b.2) (record { front = text_bytes b.0.0; spelled = refl; takes = t.takes; fits = t.fits })
name_kind (suc (suc k)) rest x fits e = absurd cc

name_read : (bytes : List ℕ) (x : PlainName × List ℕ) → IsBytes bytes → name_at bytes ≡ Some x → Read name_spelling IsName bytes x
unfolding name_at
name_read = behind_kind name_of name_spelling IsName name_kind

name_again : (n : PlainName) (rest : List ℕ) → IsName n → name_at (name_spelling n ++ rest) ≡ Some (n, rest)
unfolding name_at name_of
name_again (attr s) rest h = rw (text_reads.again s rest h) refl
name_again (tag s) rest h = rw (text_reads.again s rest h) refl

pub name_reads : Reads name_at name_spelling IsName
name_reads = record { takes = name_read; again = name_again }

label_read : (bytes : List ℕ) (x : PlainLabel × List ℕ) → IsBytes bytes → label_at bytes ≡ Some x → Read label_bytes IsLabel bytes x
unfolding label_at
label_read bytes x fits e =
    let a = bind_some (name_at bytes) (λ name. list_at value_at name.1 >>= λ keys. Some (record { name = name.0; keys = keys.0 }, keys.1)) x e in
    let b = bind_some (list_at value_at a.0.1) (λ keys. Some (record { name = a.0.0; keys = keys.0 }, keys.1)) x a.2 in
    let s = name_reads.takes bytes a.0 fits a.1 in
    let t = (list_reads value_at value_bytes IsValue value_reads).takes a.0.1 b.0 s.takes.rest_fits b.1 in
    let made : PlainLabel × List ℕ = (record { name = a.0.0; keys = b.0.0 }, b.0.1) in
    subst (λ (y : PlainLabel × List ℕ). Read label_bytes IsLabel bytes y) (some_is made x b.2) (record {
      takes = Takes-then bytes (name_spelling a.0.0) a.0.1 (list_bytes value_bytes b.0.0) b.0.1 s.takes t.takes;
      fits = record { name = s.fits; few = t.fits.few; keys = t.fits.each };
    })

label_again : (l : PlainLabel) (rest : List ℕ) → IsLabel l → label_at (label_bytes l ++ rest) ≡ Some (l, rest)
unfolding label_at
label_again l rest h =
    let first = name_reads.again l.name (list_bytes value_bytes l.keys ++ rest) h.name in
    let second = (list_reads value_at value_bytes IsValue value_reads).again l.keys rest (record { few = h.few; each = h.keys }) in
    ap label_at (append_assoc (name_spelling l.name) (list_bytes value_bytes l.keys) rest) ∙ rw (first, second) refl

pub label_reads : Reads label_at label_bytes IsLabel
label_reads = record { takes = label_read; again = label_again }

-- ---- sets

-- two numbers of four bytes
abbrev pub IsPair : ℕ × ℕ → Type 0
IsPair p = (p.0 < 2 ^ 32) × (p.1 < 2 ^ 32)

pub pair_reads : Reads pair_at pair_bytes IsPair
pair_reads = both_reads (number_at w32) (number_at w32) u32_bytes u32_bytes (λ n. n < 2 ^ 32) (λ n. n < 2 ^ 32) u32_reads u32_reads

-- the intervals begin at low or later, and their numbers are within the greatest
abbrev pub IsSetFrom : ℕ → List (ℕ × ℕ) → Type 0
IsSetFrom low ps = IsFrom low ps × AllByRecursion (λ p. p.1 ≤ most) ps

three : (a b c : Bool) → (a && b && c) ≡ true → (a ≡ true) × (b ≡ true) × (c ≡ true)
three true true true e = (refl, refl, refl)
three true true false e = absurd cc
three true false c e = absurd cc
three false b c e = absurd cc

may_follow : (low : ℕ) (p : ℕ × ℕ) (ps : List (ℕ × ℕ)) (b : Bool) → (leb low p.0 && leb p.0 p.1 && leb p.1 most) ≡ b → on_some (cond b (Some (p.1 + 2)) None) (λ t. follows (next_pair most) t ps) ≡ true
    → (low ≤ p.0) × (p.0 ≤ p.1) × (p.1 ≤ most) × IsTrue (follows (next_pair most) (p.1 + 2) ps)
may_follow low p ps true e h = (let t = three (leb low p.0) (leb p.0 p.1) (leb p.1 most) e in (leb-true low p.0 t.0, leb-true p.0 p.1 t.1, leb-true p.1 most t.2, h))
may_follow low p ps false e h = absurd cc

pub follows_set : (low : ℕ) (ps : List (ℕ × ℕ)) → IsTrue (follows (next_pair most) low ps) → IsSetFrom low ps
follows_set low [] h = (tt, tt)
follows_set low (p ∷ ps) h =
    let t = may_follow low p ps (leb low p.0 && leb p.0 p.1 && leb p.1 most) refl h in
    let rest = follows_set (p.1 + 2) ps t.3 in
    ((t.0, t.1, rest.0), (t.2, rest.1))

pub set_follows : (low : ℕ) (ps : List (ℕ × ℕ)) → IsSetFrom low ps → IsTrue (follows (next_pair most) low ps)
set_follows low [] h = refl
set_follows low (p ∷ ps) h =
    let a = le-leb low p.0 h.0.0 in
    let b = le-leb p.0 p.1 h.0.1 in
    let c = le-leb p.1 most h.1.0 in
    let rest = set_follows (p.1 + 2) ps (h.0.2, h.1.1) in
    rw (a, b, c) rest

-- a set leaves out a number behind each interval
few_pairs : (low : ℕ) (ps : List (ℕ × ℕ)) → IsSetFrom low ps → low + 2 * length ps ≤ max low (most + 2)
few_pairs low [] h = omega arith
few_pairs low (p ∷ ps) h =
    let a : low ≤ p.0 = h.0.0 in
    let b : p.0 ≤ p.1 = h.0.1 in
    let c : p.1 ≤ most = h.1.0 in
    omega (arith, few_pairs (p.1 + 2) ps (h.0.2, h.1.1))

each_pair : (low : ℕ) (ps : List (ℕ × ℕ)) → IsSetFrom low ps → AllByRecursion IsPair ps
each_pair low [] h = tt
each_pair low (p ∷ ps) h = (let b : p.0 ≤ p.1 = h.0.1 in let c : p.1 ≤ most = h.1.0 in ((omega arith, omega arith), each_pair (p.1 + 2) ps (h.0.2, h.1.1)))

pub set_reads : Reads (set_at most) set_bytes IsSet
set_reads = reads_as (set_at most) set_bytes set_bytes (IsChain IsPair (next_pair most) 1) IsSet (λ s. refl)
    (λ s h. (let f = follows_set 1 s h.follow in record { canonical = f.0; within = f.1 }))
    (λ s h. record { few = omega (arith, few_pairs 1 s (h.canonical, h.within)); each = each_pair 1 s (h.canonical, h.within); follow = set_follows 1 s (h.canonical, h.within) })
    (chained_reads pair_at (next_pair most) 1 pair_bytes IsPair pair_reads)

-- ---- timestamps

some_if : {A : Type 0} (b : Bool) (x y : A) → b ≡ false → cond b None (Some x) ≡ Some y → x ≡ y
some_if true x y f e = absurd cc
some_if false x y f e = some_is x y e

some_pairs : (s : List (ℕ × ℕ)) (x y : Stamp × List ℕ) → cond (length s == 0) None (Some x) ≡ Some y → (s ≢ []) × (x ≡ y)
some_pairs [] x y e = absurd cc
some_pairs (p ∷ s) x y e = (λ f. absurd cc, some_if (suc (length s) == 0) x y (not_zero (suc (length s)) (omega arith)) e)

stamp_kind : (k : ℕ) (rest : List ℕ) (x : Stamp × List ℕ) → IsBytes rest → stamp_of k rest ≡ Some x → Kind stamp_bytes IsStamp k rest x
unfolding stamp_of
stamp_kind zero rest x fits e =
    subst (λ (y : Stamp × List ℕ). Kind stamp_bytes IsStamp 0 rest y) (some_is (None, rest) x e) (record { front = []; spelled = refl; takes = Takes-none rest fits; fits = tt })
stamp_kind (suc zero) rest x fits e =
    let b = bind_some (set_at most rest) (λ s. cond (length s.0 == 0) None (Some (Some s.0, s.1))) x e in
    let t = set_reads.takes rest b.0 fits b.1 in
    let g = some_pairs b.0.0 (Some b.0.0, b.0.1) x b.2 in
    subst (λ (y : Stamp × List ℕ). Kind stamp_bytes IsStamp 1 rest y) g.1 (record { front = set_bytes b.0.0; spelled = refl; takes = t.takes; fits = (t.fits, g.0) })
stamp_kind (suc (suc k)) rest x fits e = absurd cc

stamp_read : (bytes : List ℕ) (x : Stamp × List ℕ) → IsBytes bytes → stamp_at bytes ≡ Some x → Read stamp_bytes IsStamp bytes x
unfolding stamp_at
stamp_read = behind_kind stamp_of stamp_bytes IsStamp stamp_kind

not_empty : (s : List (ℕ × ℕ)) → s ≢ [] → (length s == 0) ≡ false
not_empty [] h = absurd (h refl)
not_empty (p ∷ s) h = not_zero (suc (length s)) (omega arith)

stamp_again : (s : Stamp) (rest : List ℕ) → IsStamp s → stamp_at (stamp_bytes s ++ rest) ≡ Some (s, rest)
unfolding stamp_at stamp_of
stamp_again None rest h = refl
stamp_again (Some s) rest h = (let some = not_empty s h.1 in rw (set_reads.again s rest h.0, some) refl)

pub stamp_reads : Reads stamp_at stamp_bytes IsStamp
stamp_reads = record { takes = stamp_read; again = stamp_again }
