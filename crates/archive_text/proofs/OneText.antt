-- Archives with the same lines are the same.
use Rattle.std.proofs.Common.{◌≡◌, ℕ, ◌+◌, ◌<◌, ◌==◌, cond, Bool, true, false, List, [], ◌∷◌, ◌++◌, length, map, get_or, inl, inr, refl, sym, ap, ap₂, ◌∙◌, arith, append_assoc, append-nil, length-append}
use Rattle.std.proofs.lemmas.Bool.{eqb-false}
use Rattle.std.proofs.lemmas.Bool.Decides.{eqb_tells}
use Rattle.std.proofs.lemmas.Grind.{flat_map-append}
use Rattle.key_spec.specs.Data.{PlainRule}
use Rattle.key_spec.specs.Canonical.{canonical, rule_text}
use Rattle.archive_tree.specs.Data.{inner_node, leaf_node, PlainNodes, no_nodes, node, PlainArchive}
use Rattle.jsonml_lines.specs.Lines.{PlainLine, line_text}
use Rattle.archive_text.specs.Texts.{in_front, text_lines}
use Rattle.archive_text.specs.Reading.{all_lines, rejoined}
use Rattle.archive_text.specs.Export.{text_cell, number_cell, count_line, key_line, note_line, note_lines, end_line, nodes_lines, lines_text, export_text}
use Rattle.archive_text.proofs.OneNode.{head}

pub text_is : (rules : List PlainRule) (a : PlainArchive) (notes : List (List ℕ)) → export_text rules a notes ≡ lines_text (all_lines rules a notes)
text_is rules a notes =
    let keys = map key_line (text_lines (canonical rules)) in
    let last : lines_text (nodes_lines a.kids) ++ line_text end_line ≡ lines_text (nodes_lines a.kids ++ end_line ∷ []) =
    ap (λ l. lines_text (nodes_lines a.kids) ++ l) (sym (append-nil (line_text end_line))) ∙ sym (flat_map-append line_text (nodes_lines a.kids) (end_line ∷ [])) in
    let behind : lines_text (note_lines 1 notes) ++ (lines_text (nodes_lines a.kids) ++ line_text end_line) ≡ lines_text (note_lines 1 notes ++ (nodes_lines a.kids ++ end_line ∷ [])) =
    ap (λ l. lines_text (note_lines 1 notes) ++ l) last ∙ sym (flat_map-append line_text (note_lines 1 notes) (nodes_lines a.kids ++ end_line ∷ [])) in
    ap (λ l. line_text (count_line a.n) ++ (lines_text keys ++ l)) behind ∙ ap (λ l. line_text (count_line a.n) ++ l) (sym (flat_map-append line_text keys (note_lines 1 notes ++ (nodes_lines a.kids ++ end_line ∷ []))))

-- ---- which line comes first

abbrev pub first_kind : List PlainLine → ℕ
first_kind [] = 0
first_kind (l ∷ ls) = get_or l.word 0 0

pub last_kind : (ks : PlainNodes) (d : ℕ) → (d == 101) ≡ false → (d == 111) ≡ false → (d == 108) ≡ false → first_kind (nodes_lines ks ++ end_line ∷ []) ≡ d → ⊥
last_kind no_nodes d e f g is = eqb-false d 101 e (sym is)
last_kind (node (inner_node l s ks) js) d e f g is = eqb-false d 111 f (sym is)
last_kind (node (leaf_node l s xs) js) d e f g is = eqb-false d 108 g (sym is)

either_kind : (b : Bool) (l : PlainLine) (ls rest : List PlainLine) → (first_kind (ls ++ rest) ≡ 107 → ⊥) → (get_or l.word 0 0 ≡ 107 → ⊥) → first_kind (cond b ls (l ∷ ls) ++ rest) ≡ 107 → ⊥
either_kind true l ls rest f g = f
either_kind false l ls rest f g = g

pub notes_kind : (i : ℕ) (notes : List (List ℕ)) (rest : List PlainLine) → (first_kind rest ≡ 107 → ⊥) → first_kind (note_lines i notes ++ rest) ≡ 107 → ⊥
notes_kind i [] rest f = f
notes_kind i (note ∷ notes) rest f = either_kind (length note == 0) (note_line i note) (note_lines (i + 1) notes) rest (notes_kind (i + 1) notes rest f) (λ e. eqb-false 110 107 refl e)

-- ---- keys

key_is : (l m : List ℕ) → key_line l ≡ key_line m → l ≡ m
key_is l m e = let cells : text_cell l ∷ [] ≡ text_cell m ∷ [] = ap (λ (x : PlainLine). x.cells) e in let same : text_cell l ≡ text_cell m = cc in cc

keys_one : (ls ms : List (List ℕ)) (r s : List PlainLine) → (first_kind r ≡ 107 → ⊥) → (first_kind s ≡ 107 → ⊥) → map key_line ls ++ r ≡ map key_line ms ++ s → (ls ≡ ms) × (r ≡ s)
keys_one [] [] r s f g e = (refl, e)
keys_one [] (m ∷ ms) r s f g e = absurd (f (ap first_kind e))
keys_one (l ∷ ls) [] r s f g e = absurd (g (ap first_kind (sym e)))
keys_one (l ∷ ls) (m ∷ ms) r s f g e =
    let parts = head (key_line l) (key_line m) (map key_line ls ++ r) (map key_line ms ++ s) e in
    let rest = keys_one ls ms r s f g parts.1 in
    (ap₂ (λ a b. a ∷ b) (key_is l m parts.0) rest.0, rest.1)

-- ---- notes

number_is : (i j : ℕ) → number_cell i ≡ number_cell j → i ≡ j
number_is i j e = cc

note_is : (i j : ℕ) (n m : List ℕ) → note_line i n ≡ note_line j m → (i ≡ j) × (n ≡ m)
note_is i j n m e =
    let cells : number_cell i ∷ text_cell n ∷ [] ≡ number_cell j ∷ text_cell m ∷ [] = ap (λ (x : PlainLine). x.cells) e in
    let one : number_cell i ≡ number_cell j = cc in
    let two : text_cell n ≡ text_cell m = cc in
    let same : n ≡ m = cc in
    (number_is i j one, same)

pub empty : (n : List ℕ) → length n ≡ 0 → n ≡ []
empty [] e = refl
empty (b ∷ bs) e = absurd (omega arith)

pub without : (i : ℕ) (n : List ℕ) (ns : List (List ℕ)) → (length n == 0) ≡ true → note_lines i (n ∷ ns) ≡ note_lines (i + 1) ns
without i n ns e = ap (λ c. cond c (note_lines (i + 1) ns) (note_line i n ∷ note_lines (i + 1) ns)) e

pub with_note : (i : ℕ) (n : List ℕ) (ns : List (List ℕ)) → (length n == 0) ≡ false → note_lines i (n ∷ ns) ≡ note_line i n ∷ note_lines (i + 1) ns
with_note i n ns e = ap (λ c. cond c (note_lines (i + 1) ns) (note_line i n ∷ note_lines (i + 1) ns)) e

-- a later note does not come first
later : (i j : ℕ) (m : List ℕ) (ns : List (List ℕ)) (r rest : List PlainLine) → i < j → (first_kind r ≡ 110 → ⊥) → note_lines j ns ++ r ≡ note_line i m ∷ rest → ⊥
later i j m [] r rest h f e = f (ap first_kind e)
later i j m (n ∷ ns) r rest h f e =
    elim (eqb_tells (length n) 0) [
      | inl p ↦ later i (j + 1) m ns r rest (omega arith) f (ap (λ l. l ++ r) (sym (without j n ns p.0)) ∙ e)
      | inr p ↦ (
          let parts = head (note_line j n) (note_line i m) (note_lines (j + 1) ns ++ r) rest (ap (λ l. l ++ r) (sym (with_note j n ns p.0)) ∙ e) in
          let same = (note_is j i n m parts.0).0 in absurd (omega arith))
    ]

notes_one : (i : ℕ) (ns ms : List (List ℕ)) (r s : List PlainLine) → length ns ≡ length ms → (first_kind r ≡ 110 → ⊥) → (first_kind s ≡ 110 → ⊥) → note_lines i ns ++ r ≡ note_lines i ms ++ s → (ns ≡ ms) × (r ≡ s)
notes_one i [] [] r s long f g e = (refl, e)
notes_one i [] (m ∷ ms) r s long f g e = absurd (omega arith)
notes_one i (n ∷ ns) [] r s long f g e = absurd (omega arith)
notes_one i (n ∷ ns) (m ∷ ms) r s long f g e =
    elim (eqb_tells (length n) 0) [
      | inl p ↦ elim (eqb_tells (length m) 0) [
        | inl q ↦ (
            let rest = notes_one (i + 1) ns ms r s (omega arith) f g (ap (λ l. l ++ r) (sym (without i n ns p.0)) ∙ e ∙ ap (λ l. l ++ s) (without i m ms q.0)) in
            (ap₂ (λ a b. a ∷ b) (empty n p.1 ∙ sym (empty m q.1)) rest.0, rest.1))
        | inr q ↦ absurd (later i (i + 1) m ns r (note_lines (i + 1) ms ++ s) (omega arith) f (ap (λ l. l ++ r) (sym (without i n ns p.0)) ∙ e ∙ ap (λ l. l ++ s) (with_note i m ms q.0)))
      ]
      | inr p ↦ elim (eqb_tells (length m) 0) [
        | inl q ↦ absurd (later i (i + 1) n ms s (note_lines (i + 1) ns ++ r) (omega arith) g (ap (λ l. l ++ s) (sym (without i m ms q.0)) ∙ sym e ∙ ap (λ l. l ++ r) (with_note i n ns p.0)))
        | inr q ↦ (
            let parts = head (note_line i n) (note_line i m) (note_lines (i + 1) ns ++ r) (note_lines (i + 1) ms ++ s) (ap (λ l. l ++ r) (sym (with_note i n ns p.0)) ∙ e ∙ ap (λ l. l ++ s) (with_note i m ms q.0)) in
            let rest = notes_one (i + 1) ns ms r s (omega arith) f g parts.1 in
            (ap₂ (λ a b. a ∷ b) (note_is i i n m parts.0).1 rest.0, rest.1))
      ]
    ]

-- ---- the lines of a canonical text

front_again : (b : ℕ) (ls : List (List ℕ)) (xs : List ℕ) → rejoined ls ≡ xs → 0 < length xs → rejoined (in_front b ls) ≡ b ∷ xs
front_again b [] xs e h = absurd (omega (arith, ap length e))
front_again b (l ∷ ls) xs e h = ap (λ x. b ∷ x) e

some : (bs rest : List ℕ) → 0 < length (bs ++ 10 ∷ rest)
some bs rest = omega (arith, length-append bs (10 ∷ rest))

line_again : (xs rest : List ℕ) → rejoined (text_lines rest) ≡ rest → rejoined (text_lines (xs ++ 10 ∷ rest)) ≡ xs ++ 10 ∷ rest
line_again [] rest e = ap (λ l. 10 ∷ l) e
line_again (b ∷ bs) rest e =
    let next = line_again bs rest e in
    let t = text_lines (bs ++ 10 ∷ rest) in
    elim (eqb_tells b 10) [
      | inl p ↦ ap (λ c. rejoined (cond c ([] ∷ t) (in_front b t))) p.0 ∙ ap₂ (λ a l. a ∷ l) (sym p.1) next
      | inr p ↦ ap (λ c. rejoined (cond c ([] ∷ t) (in_front b t))) p.0 ∙ front_again b t (bs ++ 10 ∷ rest) next (some bs rest)
    ]

pub canonical_again : (rules : List PlainRule) → rejoined (text_lines (canonical rules)) ≡ canonical rules
unfolding canonical
canonical_again [] = refl
canonical_again (r ∷ rules) =
    ap (λ l. rejoined (text_lines l)) (append_assoc (rule_text r) (10 ∷ []) (canonical rules)) ∙ line_again (rule_text r) (canonical rules) (canonical_again rules) ∙ sym (append_assoc (rule_text r) (10 ∷ []) (canonical rules))

-- ---- the whole

count_is : (n m : ℕ) → count_line n ≡ count_line m → n ≡ m
count_is n m e = let cells : number_cell n ∷ [] ≡ number_cell m ∷ [] = ap (λ (x : PlainLine). x.cells) e in let same : number_cell n ≡ number_cell m = cc in number_is n m same

pub record Same (rules others : List PlainRule) (a b : PlainArchive) (notes more : List (List ℕ)) : Type 0 where
  pub count : a.n ≡ b.n
  pub text : canonical rules ≡ canonical others
  pub notes_are : notes ≡ more
  pub lines : nodes_lines a.kids ++ end_line ∷ [] ≡ nodes_lines b.kids ++ end_line ∷ []

pub same_parts : (rules others : List PlainRule) (a b : PlainArchive) (notes more : List (List ℕ)) → length notes ≡ a.n → length more ≡ b.n → all_lines rules a notes ≡ all_lines others b more → Same rules others a b notes more
same_parts rules others a b notes more h k e =
    let r = nodes_lines a.kids ++ end_line ∷ [] in
    let s = nodes_lines b.kids ++ end_line ∷ [] in
    let xs = text_lines (canonical rules) in
    let ys = text_lines (canonical others) in
    let first = head (count_line a.n) (count_line b.n) (map key_line xs ++ (note_lines 1 notes ++ r)) (map key_line ys ++ (note_lines 1 more ++ s)) e in
    let count = count_is a.n b.n first.0 in
    let keys = keys_one xs ys (note_lines 1 notes ++ r) (note_lines 1 more ++ s) (notes_kind 1 notes r (last_kind a.kids 107 refl refl refl)) (notes_kind 1 more s (last_kind b.kids 107 refl refl refl)) first.1 in
    let noted = notes_one 1 notes more r s (h ∙ count ∙ sym k) (last_kind a.kids 110 refl refl refl) (last_kind b.kids 110 refl refl refl) keys.1 in
    record {
      count = count;
      text = sym (canonical_again rules) ∙ ap rejoined keys.0 ∙ canonical_again others;
      notes_are = noted.0;
      lines = noted.1;
    }
