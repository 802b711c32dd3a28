-- Whether a body is right in its leaf, out of its bytes.
use Rattle.std.proofs.Common.{◌≡◌, ℕ, suc, ◌+◌, ◌*◌, ◌-◌, ◌<◌, ◌≤◌, Bool, true, false, ◌&&◌, ◌↔◌, IsTrue, List, [], ◌∷◌, ◌++◌, length, drop, Option, Some, None, refl, sym, ap, subst, ◌∙◌, true≢false, arith}
use Rattle.std.specs.Prelude.{nat_lt, nat_le, bytes_eq}
use Rattle.std.specs.Int.{w32}
use Rattle.std.specs.Ordering.{is_eq}
use Rattle.std.proofs.lemmas.Bool.Decides.{nat_tests}
use Rattle.xa_fields.specs.Reading.{◌>>=◌, number_at, chain_at, chained_at}
use Rattle.xa_fields.specs.Spelling.{u32_bytes, list_bytes}
use Rattle.xa_fields.proofs.Fields.{bind_some, some_is}
use Rattle.jsonml_tree.specs.Data.{PlainAttr, PlainContent, content, no_trees, list_of, content_depth}
use Rattle.keyed_tree.specs.Data.{PlainKey, scalar, inside}
use Rattle.keyed_tree.specs.Laws.{key_cmp-is_eq}
use Rattle.keyed_tree.specs.Order.{key_cmp}
use Rattle.keyed_tree.specs.Plain.{content_of}
use Rattle.keyed_tree.specs.Proper.{is_content}
use Rattle.archive_file.specs.NodeFits.{ends_in}
use Rattle.record_parts.specs.Bounds.{IsValue, deepest}
use Rattle.record_parts.specs.Reading.{attr_at, next_attr, attrs_at}
use Rattle.record_parts.specs.Shapes.{IsShapedValue}
use Rattle.record_parts.specs.Spelling.{attr_bytes, items_bytes, value_bytes}
use Rattle.record_parts.specs.Values.{attrs_reads}
use Rattle.node_judge.proofs.Values.{short-shallow}

-- ---- equal values

same-true : (r b : Bool) → (IsTrue r → IsTrue b) → (IsTrue b → IsTrue r) → r ≡ b
same-true true b f g = sym (f refl)
same-true false true f g = g refl
same-true false false f g = refl

-- what tells equality is the order's answer
pub same-is : (r : Bool) (a b : PlainKey) → IsTrue r ↔ (a ≡ b) → r ≡ is_eq (key_cmp a b)
same-is r a b h = same-true r (is_eq (key_cmp a b)) (λ t. (key_cmp-is_eq a b).1 (h.0 t)) (λ t. h.1 ((key_cmp-is_eq a b).0 t))

pub same-turned : (r : Bool) (a b : PlainKey) → IsTrue r ↔ (a ≡ b) → r ≡ is_eq (key_cmp b a)
same-turned r a b h = same-is r b a (λ t. sym (h.0 t), λ e. h.1 (sym e))

-- ---- attributes

-- one of the attributes has the value
abbrev pub has_value : List ℕ → PlainKey → List PlainAttr → Bool
has_value name v xs = ends_in (Some name) v (inside (content xs no_trees))

pub value-first : (name : List ℕ) (v : PlainKey) (a : PlainAttr) (xs : List PlainAttr) → bytes_eq a.name name ≡ true → has_value name v (a ∷ xs) ≡ is_eq (key_cmp (scalar a.value) v)
value-first name v a xs e = rw e refl

pub value-later : (name : List ℕ) (v : PlainKey) (a : PlainAttr) (xs : List PlainAttr) → bytes_eq a.name name ≡ false → has_value name v (a ∷ xs) ≡ has_value name v xs
value-later name v a xs e = rw e refl

-- The attributes that are left stand there, and one of them has the value where one of all has it.
pub record AttrsLeft (name : List ℕ) (v : PlainKey) (xs : List PlainAttr) (rest : List ℕ) (n : ℕ) (now : List ℕ) : Type 0 where
  pub before : Option (List ℕ)
  pub left : List PlainAttr
  pub chain : chain_at attr_at next_attr before n now ≡ Some (left, rest)
  pub same : has_value name v xs ≡ has_value name v left

module _ (name : List ℕ) (v : PlainKey) (xs : List PlainAttr) (rest : List ℕ) where
  pub attrs-begin : (n m : ℕ) → m ≡ n → (now : List ℕ) → chain_at attr_at next_attr None n now ≡ Some (xs, rest) → AttrsLeft name v xs rest m now
  attrs-begin n m is now e = record { before = None; left = xs; chain = ap (λ (k : ℕ). chain_at attr_at next_attr None k now) is ∙ e; same = refl }

  -- what stands first of those that are left
  first-left : (before : Option (List ℕ)) (n : ℕ) (now : List ℕ) (left : List PlainAttr) → chain_at attr_at next_attr before (suc n) now ≡ Some (left, rest)
      → (a : PlainAttr) × (after : List ℕ) × (attr_at now ≡ Some (a, after)) × (t : Option (List ℕ)) × (others : List PlainAttr) × (chain_at attr_at next_attr t n after ≡ Some (others, rest)) × (left ≡ a ∷ others)
  unfolding chain_at
  first-left before n now left e =
      let a = bind_some (attr_at now) (λ first. next_attr before first.0 >>= λ t. chain_at attr_at next_attr t n first.1 >>= λ others. Some (first.0 ∷ others.0, others.1)) (left, rest) e in
      let t = bind_some (next_attr before a.0.0) (λ t. chain_at attr_at next_attr t n a.0.1 >>= λ others. Some (a.0.0 ∷ others.0, others.1)) (left, rest) a.2 in
      let b = bind_some (chain_at attr_at next_attr t.0 n a.0.1) (λ others. Some (a.0.0 ∷ others.0, others.1)) (left, rest) t.2 in
      let made : (a.0.0 ∷ b.0.0, b.0.1) ≡ (left, rest) = some_is (a.0.0 ∷ b.0.0, b.0.1) (left, rest) b.2 in
      (a.0.0, a.0.1, a.1, t.0, b.0.0, b.1 ∙ (λ i. Some (b.0.0, (made i).1)), sym (λ i. (made i).0))

  module _ (count i : ℕ) (less : i < count) (now : List ℕ) (k : AttrsLeft name v xs rest (count - i) now) where
    first-now : (a : PlainAttr) × (after : List ℕ) × (attr_at now ≡ Some (a, after)) × (t : Option (List ℕ)) × (others : List PlainAttr) × (chain_at attr_at next_attr t (count - (i + 1)) after ≡ Some (others, rest)) × (k.left ≡ a ∷ others)
    first-now =
        let n : count - i ≡ suc (count - (i + 1)) = omega (arith, less) in
        first-left k.before (count - (i + 1)) now k.left (ap (λ (m : ℕ). chain_at attr_at next_attr k.before m now) (sym n) ∙ k.chain)

    pub attrs-none : None ≡ attr_at now → ⊥
    attrs-none e = (let f = first-now in absurd (no_some (e ∙ f.2)))
      where
        no_some : {X : Type 0} {x : X} → None ≡ Some x → ⊥
        no_some e = absurd cc

    module _ (a : PlainAttr) (after : List ℕ) (is : Some (a, after) ≡ attr_at now) where
      first-same : ◌≡◌ {A = PlainAttr × List ℕ} (a, after) (first-now.0, first-now.1)
      first-same = some_is (a, after) (first-now.0, first-now.1) (is ∙ first-now.2)

      -- it has another name
      pub attrs-on : bytes_eq a.name name ≡ false → AttrsLeft name v xs rest (count - (i + 1)) after
      attrs-on other =
          let f = first-now in
          record {
            before = f.3;
            left = f.4;
            chain = ap (λ (x : PlainAttr × List ℕ). chain_at attr_at next_attr f.3 (count - (i + 1)) x.1) first-same ∙ f.5;
            same = k.same ∙ ap (has_value name v) (f.6 ∙ ap (λ (x : PlainAttr × List ℕ). x.0 ∷ f.4) (sym first-same)) ∙ value-later name v a f.4 other;
          }

      -- it has the name
      pub attrs-found : bytes_eq a.name name ≡ true → is_eq (key_cmp (scalar a.value) v) ≡ has_value name v xs
      attrs-found named =
          let f = first-now in
          sym (k.same ∙ ap (has_value name v) (f.6 ∙ ap (λ (x : PlainAttr × List ℕ). x.0 ∷ f.4) (sym first-same)) ∙ value-first name v a f.4 named)

  pub attrs-end : (count i : ℕ) → count ≤ i → (now : List ℕ) → AttrsLeft name v xs rest (count - i) now → false ≡ has_value name v xs
  unfolding chain_at
  attrs-end count i le now k =
      let n : count - i ≡ 0 = omega (arith, le) in
      let none : ([], now) ≡ (k.left, rest) = some_is ([], now) (k.left, rest) (ap (λ (m : ℕ). chain_at attr_at next_attr k.before m now) (sym n) ∙ k.chain) in
      sym (k.same ∙ ap (λ (x : List PlainAttr × List ℕ). has_value name v x.0) (sym none))

-- ---- the attributes of a content

attrs-of : (xs : List PlainAttr) (more bytes : List ℕ) → drop 1 bytes ≡ list_bytes attr_bytes xs ++ more → attrs_at (list_bytes attr_bytes xs ++ more) ≡ Some (xs, more) → (o : Option (ℕ × List ℕ)) → o ≡ number_at w32 (drop 1 bytes) → (o >>= λ n. chain_at attr_at next_attr None n.0 n.1) ≡ Some (xs, more)
unfolding chained_at
attrs-of xs more bytes e again o is = ap (λ (p : Option (ℕ × List ℕ)). p >>= λ n. chain_at attr_at next_attr None n.0 n.1) is ∙ ap attrs_at e ∙ again

-- they stand behind its kind and their number
attrs-there : (k : PlainKey) (bytes : List ℕ) → is_content k ≡ true → IsValue k → bytes ≡ value_bytes k → (o : Option (ℕ × List ℕ)) → o ≡ number_at w32 (drop 1 bytes)
    → (xs : List PlainAttr) × (more : List ℕ) × ((o >>= λ n. chain_at attr_at next_attr None n.0 n.1) ≡ Some (xs, more)) × ((name : List ℕ) (v : PlainKey) → has_value name v xs ≡ ends_in (Some name) v k)
attrs-there (scalar s) bytes is value e o number = absurd (true≢false (sym is))
attrs-there (inside (content xs ts)) bytes is value e o number =
    let more = u32_bytes (length (list_of ts)) ++ items_bytes ts in
    (xs, more, attrs-of xs more bytes (ap (drop 1) e) (attrs_reads.again xs more value.inside.0) o number, λ name v. refl)

pub attribute-told : (k : PlainKey) (bytes : List ℕ) → is_content k ≡ true → IsValue k → bytes ≡ value_bytes k → (n : ℕ) (after : List ℕ) → Some (n, after) ≡ number_at w32 (drop 1 bytes) → (name : List ℕ) (v : PlainKey) (r : Bool)
    → ((xs : List PlainAttr) (rest : List ℕ) → chain_at attr_at next_attr None n after ≡ Some (xs, rest) → r ≡ has_value name v xs) → r ≡ ends_in (Some name) v k
attribute-told k bytes is value e n after number name v r told =
    let a = attrs-there k bytes is value e (Some (n, after)) number in
    told a.0 a.1 a.2 ∙ a.3 name v

pub attributes-counted : (k : PlainKey) (bytes : List ℕ) → is_content k ≡ true → IsValue k → bytes ≡ value_bytes k → None ≡ number_at w32 (drop 1 bytes) → ⊥
attributes-counted k bytes is value e number = (let a = attrs-there k bytes is value e None number in absurd (no_some a.2))
  where
    no_some : {X : Type 0} {x : X} → None ≡ Some x → ⊥
    no_some e = absurd cc

-- ---- depth

pub short-within : (k : PlainKey) (bytes : List ℕ) (left : ℕ) → is_content k ≡ true → bytes ≡ value_bytes k → length bytes < 13 * left → true ≡ (is_content k && nat_lt (content_depth (content_of k)) left)
short-within k bytes left is e short = (let less = short-shallow k bytes left e short in let test : nat_lt (content_depth (content_of k)) left ≡ true = grind (arith, nat_tests) in sym ((λ i. is i && test i)))

pub content-within : (k : PlainKey) (c : PlainContent) (left n : ℕ) → inside c ≡ k → n ≡ content_depth c + 1 → nat_le n left ≡ (is_content k && nat_lt (content_depth (content_of k)) left)
content-within k c left n is e = ap (λ (m : ℕ). nat_le m left) e ∙ lower (content_depth c) ∙ ap (λ (x : PlainKey). is_content x && nat_lt (content_depth (content_of x)) left) is
  where
    lower : (d : ℕ) → nat_le (d + 1) left ≡ nat_lt d left
    lower d = grind (arith, nat_tests)

pub shaped-depth : (k : PlainKey) (c : PlainContent) → inside c ≡ k → IsShapedValue k → content_depth c ≤ deepest
shaped-depth k c is shaped = (subst IsShapedValue (sym is) shaped).1

pub scalar-within : (k : PlainKey) (left : ℕ) → is_content k ≡ false → false ≡ (is_content k && nat_lt (content_depth (content_of k)) left)
scalar-within k left is = sym (ap (λ (b : Bool). b && nat_lt (content_depth (content_of k)) left) is)
