-- Key values and bodies out of their bytes.
use Rattle.std.proofs.Common.{◌≡◌, ℕ, zero, suc, ◌+◌, ◌*◌, ◌-◌, ◌<◌, ◌≤◌, max, List, ◌++◌, length, take, drop, Option, Some, sym, ap, ◌∙◌, length-drop, drop-drop, arith}
use Rattle.std.specs.Int.{w32}
use Rattle.std.specs.List.{flat_map}
use Rattle.std.proofs.lemmas.List.{length-append}
use Rattle.xa_fields.specs.Laws.{IsBytes}
use Rattle.xa_fields.specs.Spelling.{u32_bytes, text_bytes, list_bytes}
use Rattle.xa_fields.specs.Reading.{◌>>=◌, byte_at, number_at, text_at, list_at, many_at, whole}
use Rattle.xa_fields.proofs.Fields.{bind_some, some_is, IsBytes-drop}
use Rattle.jsonml_tree.specs.Data.{PlainScalar, PlainTree, text, element, PlainContent, content, PlainTrees, no_trees, tree, list_of, tree_depth, content_depth, trees_depth}
use Rattle.keyed_tree.specs.Data.{PlainKey, scalar, inside, PlainLabel, PlainName, attr, tag}
use Rattle.keyed_tree.specs.Plain.{content_of}
use Rattle.record_parts.specs.Behind.{behind}
use Rattle.record_parts.specs.Bounds.{IsValue}
use Rattle.record_parts.specs.Reading.{name_of, name_at, label_at, scalar_at, value_of, value_at}
use Rattle.record_parts.specs.Spelling.{attr_bytes, item_bytes, items_bytes, content_bytes, value_bytes}
use Rattle.record_parts.specs.Values.{value_reads}
use Rattle.record_parts.proofs.Local.{alone, passed}

-- ---- where a value ends

value-some : (k : PlainKey) → 0 < length (value_bytes k)
value-some (scalar s) = omega arith
value-some (inside c) = omega arith

-- a value behind the byte of its kind
value-kind : (bytes : List ℕ) (kind : ℕ) (rest : List ℕ) → Some (kind, rest) ≡ byte_at bytes → value_at bytes ≡ value_of kind rest
unfolding value_at
value-kind bytes kind rest e = ap (λ (o : Option (ℕ × List ℕ)). o >>= λ k. value_of k.0 k.1) (sym e)

scalar-behind : (bytes rest : List ℕ) (s : PlainScalar) → Some (s, rest) ≡ scalar_at bytes → behind (value_of 0 bytes) ≡ Some rest
unfolding value_of
scalar-behind bytes rest s e = ap (λ (o : Option (PlainScalar × List ℕ)). behind (o >>= λ s. Some (scalar s.0, s.1))) (sym e)

-- a scalar ends where it is read to
pub scalar-ends : (bytes : List ℕ) (kind : ℕ) (one two : List ℕ) (s : PlainScalar) → kind ≡ 0 → Some (kind, one) ≡ byte_at bytes → Some (s, two) ≡ scalar_at one → behind (value_at bytes) ≡ Some two
scalar-ends bytes kind one two s is e f = ap behind (value-kind bytes kind one e) ∙ ap (λ (k : ℕ). behind (value_of k one)) is ∙ scalar-behind one two s f

module _ (bytes : List ℕ) (at : ℕ) (fits : IsBytes bytes) where
  -- its end is behind its front
  pub forward : (end : ℕ) → end ≤ length bytes → behind (value_at (drop at bytes)) ≡ Some (drop end bytes) → at ≤ end
  forward end within e =
      let a = passed (value_at (drop at bytes)) (drop end bytes) (sym e) in
      let t = value_reads.takes (drop at bytes) (a.0, drop end bytes) (IsBytes-drop at bytes fits) a.1 in
      let parts = ap length t.takes.parts ∙ length-append (value_bytes a.0) (drop end bytes) in
      omega (arith, parts, value-some a.0, length-drop at bytes, length-drop end bytes, within)

  -- the bytes from its front to its end are the value
  pub value-between : (end : ℕ) → at ≤ end → behind (value_at (drop at bytes)) ≡ Some (drop end bytes) → (k : PlainKey) × (value_at (drop at bytes) ≡ Some (k, drop end bytes)) × (whole value_at (take (end - at) (drop at bytes)) ≡ Some k)
  value-between end order e =
      let a = passed (value_at (drop at bytes)) (drop end bytes) (sym e) in
      let sum : at + (end - at) ≡ end = omega (arith, order) in
      let same : drop (end - at) (drop at bytes) ≡ drop end bytes = drop-drop (end - at) at bytes ∙ ap (λ (n : ℕ). drop n bytes) sum in (
        a.0,
        a.1,
        alone value_at value_bytes IsValue value_reads (drop at bytes) (end - at) a.0 (IsBytes-drop at bytes fits) (a.1 ∙ ap (λ (r : List ℕ). Some (a.0, r)) (sym same)),
      )

-- ---- the key values of a label

name-text : (kind : ℕ) (one : List ℕ) (x : PlainName × List ℕ) → name_of kind one ≡ Some x → (t : List ℕ) × (text_at one ≡ Some (t, x.1))
unfolding name_of
name-text zero one x e = (let b = bind_some (text_at one) (λ s. Some (attr s.0, s.1)) x e in (b.0.0, b.1 ∙ ap (λ (r : List ℕ). Some (b.0.0, r)) (ap (λ (y : PlainName × List ℕ). y.1) (some_is (attr b.0.0, b.0.1) x b.2))))
name-text (suc zero) one x e = (let b = bind_some (text_at one) (λ s. Some (tag s.0, s.1)) x e in (b.0.0, b.1 ∙ ap (λ (r : List ℕ). Some (b.0.0, r)) (ap (λ (y : PlainName × List ℕ). y.1) (some_is (tag b.0.0, b.0.1) x b.2))))
name-text (suc (suc k)) one x e = absurd cc

-- they stand behind its name and their number
pub keys-there : (bytes : List ℕ) (l : PlainLabel) (rest : List ℕ) → label_at bytes ≡ Some (l, rest) → (kind : ℕ) (one : List ℕ) → Some (kind, one) ≡ byte_at bytes → (t two : List ℕ) → Some (t, two) ≡ text_at one → (n : ℕ) (three : List ℕ) → Some (n, three) ≡ number_at w32 two
    → many_at value_at n three ≡ Some (l.keys, rest)
unfolding label_at name_at list_at
keys-there bytes l rest e kind one kind_is t two text_is n three number_is =
    let a = bind_some (byte_at bytes >>= λ k. name_of k.0 k.1) (λ x. (number_at w32 x.1 >>= λ n. many_at value_at n.0 n.1) >>= λ ks. Some (record { name = x.0; keys = ks.0 }, ks.1)) (l, rest) e in
    let b = bind_some (byte_at bytes) (λ k. name_of k.0 k.1) a.0 a.1 in
    let first : (kind, one) ≡ b.0 = some_is (kind, one) b.0 (kind_is ∙ b.1) in
    let c = name-text b.0.0 b.0.1 a.0 b.2 in
    let second : two ≡ a.0.1 = ap (λ (x : List ℕ × List ℕ). x.1) (some_is (t, two) (c.0, a.0.1) (text_is ∙ ap text_at (ap (λ (x : ℕ × List ℕ). x.1) first) ∙ c.1)) in
    let d = bind_some (number_at w32 a.0.1 >>= λ n. many_at value_at n.0 n.1) (λ ks. Some (record { name = a.0.0; keys = ks.0 }, ks.1)) (l, rest) a.2 in
    let m = bind_some (number_at w32 a.0.1) (λ n. many_at value_at n.0 n.1) d.0 d.1 in
    let third : (n, three) ≡ m.0 = some_is (n, three) m.0 (number_is ∙ ap (number_at w32) second ∙ m.1) in
    let whole_is : (record { name = a.0.0; keys = d.0.0 }, d.0.1) ≡ (l, rest) = some_is (record { name = a.0.0; keys = d.0.0 }, d.0.1) (l, rest) d.2 in
    (λ i. many_at value_at (third i).0 (third i).1) ∙ m.2 ∙ (λ i. Some ((whole_is i).0.keys, (whole_is i).1))

-- ---- a level takes at least thirteen bytes

max-within : (a b : ℕ) → max a b ≤ a + b
max-within a b = omega arith

text-long : (t : List ℕ) → 4 ≤ length (text_bytes t)
text-long t = omega (arith, length-append (u32_bytes (length t)) t)

mutual
  item-long : (t : PlainTree) → 13 * tree_depth t ≤ length (item_bytes t)
  item-long (text s) = omega arith
  item-long (element t c) = omega (arith, content-long c, text-long t, length-append (text_bytes t) (content_bytes c))

  content-long : (c : PlainContent) → 13 * content_depth c + 8 ≤ length (content_bytes c)
  content-long (content xs ts) =
      let count = u32_bytes (length xs) in
      let behind = u32_bytes (length (list_of ts)) ++ items_bytes ts in
      omega (arith, items-long ts, length-append (list_bytes attr_bytes xs) behind, length-append count (flat_map attr_bytes xs), length-append (u32_bytes (length (list_of ts))) (items_bytes ts))

  items-long : (ts : PlainTrees) → 13 * trees_depth ts ≤ length (items_bytes ts)
  items-long no_trees = omega arith
  items-long (tree t ts) = omega (arith, item-long t, items-long ts, max-within (tree_depth t) (trees_depth ts), length-append (item_bytes t) (items_bytes ts))

-- fewer bytes than so many levels take hold fewer levels
pub short-shallow : (k : PlainKey) (bytes : List ℕ) (left : ℕ) → bytes ≡ value_bytes k → length bytes < 13 * left → content_depth (content_of k) < left
short-shallow (scalar s) bytes left e short = omega (arith, short)
short-shallow (inside c) bytes left e short = omega (arith, content-long c, ap length e, short)
