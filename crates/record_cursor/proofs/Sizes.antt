-- What is read has as many bytes as it is spelled with. Files may tell numbers that are no bytes; it holds of them as well.
use Rattle.std.proofs.Common.{◌≡◌, ℕ, zero, suc, ◌+◌, ◌^◌, ◌==◌, pos, negsuc, true, false, cond, ltb, ◌||◌, not, List, [], ◌∷◌, ◌++◌, length, take, drop, Option, Some, None, refl, ap, subst, arith}
use Rattle.std.specs.Int.{w32, w64, from_be_bytes}
use Rattle.std.specs.List.{flat_map}
use Rattle.std.specs.Str.{is_utf8}
use Rattle.std.proofs.lemmas.Bool.{ltb-false, eqb-true}
use Rattle.std.proofs.lemmas.List.{length-append, length-take, length-drop}
use Rattle.jsonml_tree.specs.Data.{null, boolean, whole, string, PlainAttr, PlainTree, text, element, PlainContent, content, trees_of, list_of}
use Rattle.keyed_tree.specs.Data.{attr, tag, scalar, inside, PlainLabel}
use Rattle.xa_fields.specs.Spelling.{u32_bytes, u64_bytes, text_bytes, list_bytes}
use Rattle.xa_fields.specs.Reading.{Reader, ◌>>=◌, byte_at, number_at, text_at, many_at, list_at, chain_at, chained_at, both_at}
use Rattle.xa_fields.specs.Reading as all
use Rattle.xa_fields.proofs.Fields.{bind_some, guard_some, some_is}
use Rattle.timestamp_tree.specs.Reading.{pair_at, next_pair, set_at}
use Rattle.timestamp_tree.specs.Bytes.{pair_bytes, set_bytes}
use Rattle.record_parts.specs.Bounds.{deepest, most}
use Rattle.record_parts.specs.Reading.{scalar_of, scalar_at, attr_at, next_attr, attrs_at, content_by, item_of, item_by, content_below, item_at, content_at, value_of, value_at, name_of, name_at, label_at, stamp_of, stamp_at}
use Rattle.record_parts.specs.Spelling.{scalar_bytes, attr_bytes, item_bytes, content_bytes, items_bytes, value_bytes, name_spelling, label_bytes, stamp_bytes}
use Rattle.xa_fields.specs.FieldLaws.{passed_some}

-- what is read, and what is left, are all of the bytes
abbrev HasSize : {A : Type 0} → (A → List ℕ) → ℕ → A × List ℕ → Type 0
HasSize spell n x = n ≡ length (spell x.0) + length x.1

abbrev Sized : {A : Type 0} → Reader A → (A → List ℕ) → Type 0
Sized {A} read spell = (bytes : List ℕ) (x : A × List ℕ) → read bytes ≡ Some x → HasSize spell (length bytes) x

-- what is read is what was made
read-is : {A : Type 0} (spell : A → List ℕ) (n : ℕ) (made x : A × List ℕ) → ◌≡◌ {A = Option (A × List ℕ)} (Some made) (Some x) → HasSize spell n made → HasSize spell n x
read-is spell n made x e = subst (HasSize spell n) (some_is made x e)

-- ---- numbers and texts

u32-sized : Sized (number_at w32) u32_bytes
u32-sized bytes x e =
    let read : ℕ × List ℕ = (from_be_bytes w32 (take 4 bytes), drop 4 bytes) in
    let g = guard_some (ltb (length bytes) 4) (Some read) x e in
    read-is u32_bytes (length bytes) read x g.1 (omega (arith, ltb-false _ _ g.0, length-drop 4 bytes))

u64-sized : Sized (number_at w64) u64_bytes
u64-sized bytes x e =
    let read : ℕ × List ℕ = (from_be_bytes w64 (take 8 bytes), drop 8 bytes) in
    let g = guard_some (ltb (length bytes) 8) (Some read) x e in
    read-is u64_bytes (length bytes) read x g.1 (omega (arith, ltb-false _ _ g.0, length-drop 8 bytes))

text-sized : Sized text_at text_bytes
unfolding text_at
text-sized bytes x e =
    let n = bind_some (number_at w32 bytes) (λ n. cond (ltb (length n.1) n.0 || not (is_utf8 (take n.0 n.1))) None (Some (take n.0 n.1, drop n.0 n.1))) x e in
    let read : List ℕ × List ℕ = (take n.0.0 n.0.1, drop n.0.0 n.0.1) in
    let g = guard_some (ltb (length n.0.1) n.0.0 || not (is_utf8 (take n.0.0 n.0.1))) (Some read) x n.2 in
    read-is text_bytes (length bytes) read x g.1 (omega (arith, u32-sized bytes n.0 n.1, length-take n.0.0 n.0.1, length-drop n.0.0 n.0.1))

-- ---- readers that are made of readers

-- what a reader behind the byte of a kind gives
abbrev Kinded : {A : Type 0} → (ℕ → Reader A) → (A → List ℕ) → Type 0
Kinded {A} of spell = (k : ℕ) (rest : List ℕ) (x : A × List ℕ) → of k rest ≡ Some x → HasSize spell (suc (length rest)) x

kind-sized : {A : Type 0} (of : ℕ → Reader A) (spell : A → List ℕ) → Kinded of spell → Sized (λ bytes. byte_at bytes >>= λ k. of k.0 k.1) spell
kind-sized of spell h [] x e = absurd cc
kind-sized of spell h (b ∷ rest) x e = h b rest x e

many-sized : {A : Type 0} (one : Reader A) (spell : A → List ℕ) → Sized one spell → (n : ℕ) → Sized (many_at one n) (flat_map spell)
unfolding many_at
many-sized {A} one spell h zero bytes x e = read-is (flat_map spell) (length bytes) ([], bytes) x e (omega arith)
many-sized {A} one spell h (suc n) bytes x e =
    let a = bind_some (one bytes) (λ first. many_at one n first.1 >>= λ others. Some (first.0 ∷ others.0, others.1)) x e in
    let b = bind_some (many_at one n a.0.1) (λ others. Some (a.0.0 ∷ others.0, others.1)) x a.2 in
    let made : List A × List ℕ = (a.0.0 ∷ b.0.0, b.0.1) in
    read-is (flat_map spell) (length bytes) made x b.2
    (omega (arith, h bytes a.0 a.1, many-sized one spell h n a.0.1 b.0 b.1, length-append (spell a.0.0) (flat_map spell b.0.0)))

list-sized : {A : Type 0} (one : Reader A) (spell : A → List ℕ) → Sized one spell → Sized (list_at one) (list_bytes spell)
unfolding list_at
list-sized one spell h bytes x e =
    let n = bind_some (number_at w32 bytes) (λ n. many_at one n.0 n.1) x e in
    omega (arith, u32-sized bytes n.0 n.1, many-sized one spell h n.0.0 n.0.1 x n.2)

chain-sized : {A S : Type 0} (one : Reader A) (next : S → A → Option S) (spell : A → List ℕ) → Sized one spell → (s : S) (n : ℕ) → Sized (chain_at one next s n) (flat_map spell)
unfolding chain_at
chain-sized {A} one next spell h s zero bytes x e = read-is (flat_map spell) (length bytes) ([], bytes) x e (omega arith)
chain-sized {A} one next spell h s (suc n) bytes x e =
    let a = bind_some (one bytes) (λ first. next s first.0 >>= λ t. chain_at one next t n first.1 >>= λ others. Some (first.0 ∷ others.0, others.1)) x e in
    let t = bind_some (next s a.0.0) (λ t. chain_at one next t n a.0.1 >>= λ others. Some (a.0.0 ∷ others.0, others.1)) x a.2 in
    let b = bind_some (chain_at one next t.0 n a.0.1) (λ others. Some (a.0.0 ∷ others.0, others.1)) x t.2 in
    let made : List A × List ℕ = (a.0.0 ∷ b.0.0, b.0.1) in
    read-is (flat_map spell) (length bytes) made x b.2
    (omega (arith, h bytes a.0 a.1, chain-sized one next spell h t.0 n a.0.1 b.0 b.1, length-append (spell a.0.0) (flat_map spell b.0.0)))

chained-sized : {A S : Type 0} (one : Reader A) (next : S → A → Option S) (s : S) (spell : A → List ℕ) → Sized one spell → Sized (chained_at one next s) (list_bytes spell)
unfolding chained_at
chained-sized one next s spell h bytes x e =
    let n = bind_some (number_at w32 bytes) (λ n. chain_at one next s n.0 n.1) x e in
    omega (arith, u32-sized bytes n.0 n.1, chain-sized one next spell h s n.0.0 n.0.1 x n.2)

both-sized : {A B : Type 0} (first : Reader A) (second : Reader B) (spell : A → List ℕ) (write : B → List ℕ) → Sized first spell → Sized second write → Sized (both_at first second) (λ p. spell p.0 ++ write p.1)
unfolding both_at
both-sized {A} {B} first second spell write g h bytes x e =
    let a = bind_some (first bytes) (λ a. second a.1 >>= λ b. Some ((a.0, b.0), b.1)) x e in
    let b = bind_some (second a.0.1) (λ b. Some ((a.0.0, b.0), b.1)) x a.2 in
    let made : (A × B) × List ℕ = ((a.0.0, b.0.0), b.0.1) in
    read-is (λ (p : A × B). spell p.0 ++ write p.1) (length bytes) made x b.2
    (omega (arith, g bytes a.0 a.1, h a.0.1 b.0 b.1, length-append (spell a.0.0) (write b.0.0)))

-- the value that all of the bytes are
pub whole-sized : {A : Type 0} (read : Reader A) (spell : A → List ℕ) → Sized read spell → (bytes : List ℕ) (a : A) → all.whole read bytes ≡ Some a → length bytes ≡ length (spell a)
unfolding all.whole
whole-sized {A} read spell h bytes a e =
    let r = bind_some (read bytes) (λ r. cond (length r.1 == 0) (Some r.0) None) a e in
    let p = passed_some (length r.0.1 == 0) r.0.0 a r.2 in
    subst (λ (b : A). length bytes ≡ length (spell b)) p.1 (omega (arith, h bytes r.0 r.1, eqb-true (length r.0.1) 0 p.0))

-- ---- values

scalar-kinded : Kinded scalar_of scalar_bytes
unfolding scalar_of
scalar-kinded zero rest x e = read-is scalar_bytes (suc (length rest)) (null, rest) x e (omega arith)
scalar-kinded (suc zero) rest x e = read-is scalar_bytes (suc (length rest)) (boolean false, rest) x e (omega arith)
scalar-kinded (suc (suc zero)) rest x e = read-is scalar_bytes (suc (length rest)) (boolean true, rest) x e (omega arith)
scalar-kinded (suc (suc (suc zero))) rest x e =
    let n = bind_some (number_at w64 rest) (λ n. Some (whole (pos n.0), n.1)) x e in
    read-is scalar_bytes (suc (length rest)) (whole (pos n.0.0), n.0.1) x n.2 (omega (arith, u64-sized rest n.0 n.1))
scalar-kinded (suc (suc (suc (suc zero)))) rest x e =
    let n = bind_some (number_at w64 rest) (λ n. cond (ltb n.0 (2 ^ 63)) (Some (whole (negsuc n.0), n.1)) None) x e in
    let p = passed_some (ltb n.0.0 (2 ^ 63)) (whole (negsuc n.0.0), n.0.1) x n.2 in
    subst (HasSize scalar_bytes (suc (length rest))) p.1 (omega (arith, u64-sized rest n.0 n.1))
scalar-kinded (suc (suc (suc (suc (suc zero))))) rest x e =
    let s = bind_some (text_at rest) (λ s. Some (string s.0, s.1)) x e in
    read-is scalar_bytes (suc (length rest)) (string s.0.0, s.0.1) x s.2 (omega (arith, text-sized rest s.0 s.1))
scalar-kinded (suc (suc (suc (suc (suc (suc k)))))) rest x e = absurd cc

scalar-sized : Sized scalar_at scalar_bytes
unfolding scalar_at
scalar-sized = kind-sized scalar_of scalar_bytes scalar-kinded

attr-sized : Sized attr_at attr_bytes
unfolding attr_at
attr-sized bytes x e =
    let a = bind_some (text_at bytes) (λ name. scalar_at name.1 >>= λ value. Some (record { name = name.0; value = value.0 }, value.1)) x e in
    let b = bind_some (scalar_at a.0.1) (λ value. Some (record { name = a.0.0; value = value.0 }, value.1)) x a.2 in
    let made : PlainAttr × List ℕ = (record { name = a.0.0; value = b.0.0 }, b.0.1) in
    read-is attr_bytes (length bytes) made x b.2
    (omega (arith, text-sized bytes a.0 a.1, scalar-sized a.0.1 b.0 b.1, length-append (text_bytes a.0.0) (scalar_bytes b.0.0)))

items-spelled : (ts : List PlainTree) → items_bytes (trees_of ts) ≡ flat_map item_bytes ts
items-spelled [] = refl
items-spelled (t ∷ ts) = ap (λ (bytes : List ℕ). item_bytes t ++ bytes) (items-spelled ts)

items-size : (ts : List PlainTree) → length (items_bytes (trees_of ts)) ≡ length (flat_map item_bytes ts)
items-size ts = ap length (items-spelled ts)

content-sized : (one : Reader PlainTree) → Sized one item_bytes → Sized (content_by one) content_bytes
unfolding content_by
content-sized one h bytes x e =
    let a = bind_some (attrs_at bytes) (λ attrs. list_at one attrs.1 >>= λ items. Some (content attrs.0 (trees_of items.0), items.1)) x e in
    let b = bind_some (list_at one a.0.1) (λ items. Some (content a.0.0 (trees_of items.0), items.1)) x a.2 in
    let attrs = list_bytes attr_bytes a.0.0 in
    let items = items_bytes (trees_of b.0.0) in
    let made : PlainContent × List ℕ = (content a.0.0 (trees_of b.0.0), b.0.1) in
    read-is content_bytes (length bytes) made x b.2
    (omega (arith, chained-sized attr_at next_attr None attr_bytes attr-sized bytes a.0 a.1, list-sized one item_bytes h a.0.1 b.0 b.1, items-size b.0.0, length-append attrs (u32_bytes (length (list_of (trees_of b.0.0))) ++ items)))

item-kinded : (inner : Reader PlainContent) → Sized inner content_bytes → Kinded (item_of inner) item_bytes
unfolding item_of
item-kinded inner h zero rest x e =
    let s = bind_some (text_at rest) (λ s. Some (text s.0, s.1)) x e in
    read-is item_bytes (suc (length rest)) (text s.0.0, s.0.1) x s.2 (omega (arith, text-sized rest s.0 s.1))
item-kinded inner h (suc zero) rest x e =
    let a = bind_some (text_at rest) (λ t. inner t.1 >>= λ c. Some (element t.0 c.0, c.1)) x e in
    let b = bind_some (inner a.0.1) (λ c. Some (element a.0.0 c.0, c.1)) x a.2 in
    read-is item_bytes (suc (length rest)) (element a.0.0 b.0.0, b.0.1) x b.2
    (omega (arith, text-sized rest a.0 a.1, h a.0.1 b.0 b.1, length-append (text_bytes a.0.0) (content_bytes b.0.0)))
item-kinded inner h (suc (suc k)) rest x e = absurd cc

item-sized : (inner : Reader PlainContent) → Sized inner content_bytes → Sized (item_by inner) item_bytes
item-sized inner h = kind-sized (item_of inner) item_bytes (item-kinded inner h)

below-sized : (limit : ℕ) → Sized (content_below limit) content_bytes
unfolding content_below
below-sized zero bytes x e = absurd cc
below-sized (suc d) bytes x e = content-sized (item_by (content_below d)) (item-sized (content_below d) (below-sized d)) bytes x e

value-kinded : Kinded value_of value_bytes
unfolding value_of
value-kinded zero rest x e =
    let s = bind_some (scalar_at rest) (λ s. Some (scalar s.0, s.1)) x e in
    read-is value_bytes (suc (length rest)) (scalar s.0.0, s.0.1) x s.2 (omega (arith, scalar-sized rest s.0 s.1))
value-kinded (suc zero) rest x e =
    let c = bind_some (content_at deepest rest) (λ c. Some (inside c.0, c.1)) x e in
    read-is value_bytes (suc (length rest)) (inside c.0.0, c.0.1) x c.2
    (omega (arith, content-sized (item_at deepest) (item-sized (content_below deepest) (below-sized deepest)) rest c.0 c.1))
value-kinded (suc (suc k)) rest x e = absurd cc

value-sized : Sized value_at value_bytes
unfolding value_at
value-sized = kind-sized value_of value_bytes value-kinded

-- ---- labels and timestamps

name-kinded : Kinded name_of name_spelling
unfolding name_of
name-kinded zero rest x e =
    let s = bind_some (text_at rest) (λ s. Some (attr s.0, s.1)) x e in
    read-is name_spelling (suc (length rest)) (attr s.0.0, s.0.1) x s.2 (omega (arith, text-sized rest s.0 s.1))
name-kinded (suc zero) rest x e =
    let s = bind_some (text_at rest) (λ s. Some (tag s.0, s.1)) x e in
    read-is name_spelling (suc (length rest)) (tag s.0.0, s.0.1) x s.2 (omega (arith, text-sized rest s.0 s.1))
name-kinded (suc (suc k)) rest x e = absurd cc

name-sized : Sized name_at name_spelling
unfolding name_at
name-sized = kind-sized name_of name_spelling name-kinded

label-sized : Sized label_at label_bytes
unfolding label_at
label-sized bytes x e =
    let a = bind_some (name_at bytes) (λ name. list_at value_at name.1 >>= λ keys. Some (record { name = name.0; keys = keys.0 }, keys.1)) x e in
    let b = bind_some (list_at value_at a.0.1) (λ keys. Some (record { name = a.0.0; keys = keys.0 }, keys.1)) x a.2 in
    let made : PlainLabel × List ℕ = (record { name = a.0.0; keys = b.0.0 }, b.0.1) in
    read-is label_bytes (length bytes) made x b.2
    (omega (arith, name-sized bytes a.0 a.1, list-sized value_at value_bytes value-sized a.0.1 b.0 b.1, length-append (name_spelling a.0.0) (list_bytes value_bytes b.0.0)))

set-sized : Sized (set_at most) set_bytes
set-sized = chained-sized pair_at (next_pair most) 1 pair_bytes (both-sized (number_at w32) (number_at w32) u32_bytes u32_bytes u32-sized u32-sized)

stamp-kinded : Kinded stamp_of stamp_bytes
unfolding stamp_of
stamp-kinded zero rest x e = read-is stamp_bytes (suc (length rest)) (None, rest) x e (omega arith)
stamp-kinded (suc zero) rest x e =
    let s = bind_some (set_at most rest) (λ s. cond (length s.0 == 0) None (Some (Some s.0, s.1))) x e in
    let g = guard_some (length s.0.0 == 0) (Some (Some s.0.0, s.0.1)) x s.2 in
    read-is stamp_bytes (suc (length rest)) (Some s.0.0, s.0.1) x g.1 (omega (arith, set-sized rest s.0 s.1))
stamp-kinded (suc (suc k)) rest x e = absurd cc

stamp-sized : Sized stamp_at stamp_bytes
unfolding stamp_at
stamp-sized = kind-sized stamp_of stamp_bytes stamp-kinded

-- ---- bodies

pub opening-sized : Sized (both_at label_at stamp_at) (λ p. label_bytes p.0 ++ stamp_bytes p.1)
opening-sized = both-sized label_at stamp_at label_bytes stamp_bytes label-sized stamp-sized

pub alternative-sized : Sized (both_at stamp_at value_at) (λ p. stamp_bytes p.0 ++ value_bytes p.1)
alternative-sized = both-sized stamp_at value_at stamp_bytes value_bytes stamp-sized value-sized
