-- A row is right exactly where its kids are opened one after another, each is right inside, and nothing is waited for at its end.
use Rattle.std.proofs.Common.{◌≡◌, ◌-◌, ◌==◌, Bool, true, false, cond, ◌&&◌, IsTrue, List, [], ◌∷◌, ◌++◌, length, filter, ℕ, Option, Some, None, is_some, refl, ap, sym, ◌∙◌, true≢false, arith}
use Rattle.std.specs.Prelude.{suc, is_none, nat_lt, ◌||◌, if◌then◌else◌}
use Rattle.std.proofs.lemmas.Bool.Decides.{nat_tests}
use Rattle.std.specs.List.{AllByRecursion, list_all, cons_option, range_with_len}
use Rattle.std.specs.Option.{unwrap_or}
use Rattle.std.specs.Ordering.{is_eq}
use Rattle.std.specs.declared.cmp.Ordering.TheVariants.{Less}
use Rattle.jsonml_tree.specs.declared.limits.TheConstants.{GREATEST_DEPTH}
use Rattle.keyed_tree.specs.Data.{PlainLabel}
use Rattle.keyed_tree.specs.Laws.{label_cmp-is_eq}
use Rattle.keyed_tree.specs.Order.{label_cmp}
use Rattle.keyed_tree.specs.Plain.{name_bytes}
use Rattle.keyed_tree.specs.Proper.{is_tag, has_no_keys}
use Rattle.key_spec.specs.Data.{PlainRule}
use Rattle.key_spec.specs.Rules.{is_frontier, below}
use Rattle.version_set.specs.Members.{members, upto_pairs}
use Rattle.version_set.proofs.Sets.{members-upto_pairs}
use Rattle.archive_tree.specs.Data.{Stamp, eff, PlainAlt, PlainNode, inner_node, leaf_node, PlainNodes, no_nodes, node, node_label, PlainArchive}
use Rattle.archive_tree.specs.Parts.{node_sets}
use Rattle.archive_tree.specs.PartsTest.{is_stamp_well, are_alts_well, are_parts}
use Rattle.archive_tree.specs.Seek.{rise_from, rise}
use Rattle.archive_tree.specs.Stands.{labels}
use Rattle.archive_tree.proofs.Histories.{rise-all}
use Rattle.archive_file.specs.NodeFits.{attr_label, bare_label}
use Rattle.node_judge.specs.Awaited.{Awaited, leads, equals, handed, all_handed, is_met, own, awaits}
use Rattle.node_judge.specs.InPlace.{is_below_root, is_kind_right, is_opening_sound, is_body_sound, is_sound_in, are_sound_in, is_sound_archive}
use Rattle.node_judge.specs.Rows.{PlainFrame, root_frame, is_above, row_below, behind_kid, is_next, goes_on, rise_behind, is_row_sound}
use Rattle.node_judge.proofs.Rows.{is-step}

-- ---- truth values

none_some : {X : Type 0} (o : Option X) → is_none o ≡ true → is_some o ≡ false
none_some None h = refl
none_some (Some x) h = absurd (true≢false (sym h))

-- where the first holds the others are equal
under : (a : Bool) {b c : Bool} → (IsTrue a → b ≡ c) → (a && b) ≡ (a && c)
under true h = h refl
under false h = refl

-- ---- one label alone is handed a thing

handed-one : (l m : PlainLabel) (w : Awaited) → IsTrue (is_some (handed l w)) → IsTrue (is_some (handed m w)) → l ≡ m
handed-one l m (leads (t ∷ ts) at v) h g = is-step (bare_label t) (leads ts at v) l h ∙ sym (is-step (bare_label t) (leads ts at v) m g)
handed-one l m (leads [] (Some name) v) h g = is-step (attr_label name) (equals v) l h ∙ sym (is-step (attr_label name) (equals v) m g)
handed-one l m (leads [] None v) h g = absurd (true≢false (sym h))
handed-one l m (equals v) h g = absurd (true≢false (sym h))

-- a label below another is handed nothing that the other is
not-both : (l m : PlainLabel) → label_cmp l m ≡ Less → (w : Awaited) → IsTrue (is_some (handed l w)) → handed m w ≡ None
not-both l m below w h = elim (handed m w) as (λ o. handed m w ≡ o → o ≡ None) [
  | None ↦ λ e. refl
  | Some x ↦ λ e. absurd (less-differ l m below (handed-one l m w h (ap (λ o. is_some o) e)))
] refl
  where
    less-differ : (l m : PlainLabel) → label_cmp l m ≡ Less → l ≡ m → ⊥
    less-differ l m b e = true≢false (sym (label-eq e) ∙ ap is_eq b)
      where
        label-eq : l ≡ m → is_eq (label_cmp l m) ≡ true
        label-eq e = (label_cmp-is_eq l m).1 e

module _ (l : PlainLabel) where
  -- what is waited for behind the label
  abbrev left-of : List Awaited → List Awaited
  left-of ws = filter (λ w. is_none (handed l w)) ws

  module _ (m : PlainLabel) (above : label_cmp l m ≡ Less) where
    handed-left : (ws : List Awaited) → all_handed m (left-of ws) ≡ all_handed m ws
    handed-left [] = refl
    handed-left (w ∷ ws) = elim (handed l w) as (λ o. handed l w ≡ o → all_handed m (cond (is_none o) (w ∷ left-of ws) (left-of ws)) ≡ all_handed m (w ∷ ws)) [
      | None ↦ λ e. ap (cons_option (handed m w)) (handed-left ws)
      | Some x ↦ λ e. handed-left ws ∙ sym (ap (λ o. cons_option o (all_handed m ws)) (not-both l m above w (ap (λ o. is_some o) e)))
    ] refl

    none-left : (ws : List Awaited) → list_all (λ w. is_none (handed m w)) (left-of ws) ≡ list_all (λ w. is_none (handed m w)) ws
    none-left [] = refl
    none-left (w ∷ ws) = elim (handed l w) as (λ o. handed l w ≡ o → list_all (λ w. is_none (handed m w)) (cond (is_none o) (w ∷ left-of ws) (left-of ws)) ≡ list_all (λ w. is_none (handed m w)) (w ∷ ws)) [
      | None ↦ λ e. ap (λ b. is_none (handed m w) && b) (none-left ws)
      | Some x ↦ λ e. none-left ws ∙ sym (ap (λ o. is_none o && list_all (λ w. is_none (handed m w)) ws) (not-both l m above w (ap (λ o. is_some o) e)))
    ] refl

  -- what this label met is met no more
  met-left : (ls : List PlainLabel) (ws : List Awaited) → list_all (is_met ls) (left-of ws) ≡ list_all (is_met (l ∷ ls)) ws
  met-left ls [] = refl
  met-left ls (w ∷ ws) = elim (handed l w) as (λ o. list_all (is_met ls) (cond (is_none o) (w ∷ left-of ws) (left-of ws)) ≡ ((is_some o || is_met ls w) && list_all (is_met (l ∷ ls)) ws)) [
    | None ↦ ap (λ b. is_met ls w && b) (met-left ls ws)
    | Some x ↦ met-left ls ws
  ]

  module _ (rules : List PlainRule) (path : List (List ℕ)) (ns : List ℕ) (left : ℕ) (ws : List Awaited) where
    -- the parts of a node that do not go by what its parent waits for
    abbrev kind : Bool → PlainLabel → Bool
    kind is_leaf m =
        if is_tag m.name
        then nat_lt 0 left && is_some (own rules path m) && is_kind_right is_leaf (is_frontier rules (below path (name_bytes m.name)))
        else is_leaf && has_no_keys m.keys && is_below_root path

    abbrev owned : PlainLabel → List Awaited
    owned m = if is_tag m.name then unwrap_or (own rules path m) [] else []

    sound-left : (k : PlainNode) → label_cmp l (node_label k) ≡ Less → is_sound_in rules path ns left (left-of ws) k ≡ is_sound_in rules path ns left ws k
    sound-left (leaf_node m s xs) above =
        let none = none-left m above ws in
        let waits = handed-left m above ws in
        (λ i. is_stamp_well s ns && (is_none s || none i) && kind true m && are_alts_well (eff s ns) xs && list_all (λ (x : PlainAlt). is_body_sound left (owned m ++ waits i) m x.body) xs)
    sound-left (inner_node m s ks) above =
        let none = none-left m above ws in
        let waits = handed-left m above ws in
        (λ i. is_stamp_well s ns && (is_none s || none i) && kind false m && rise (labels ks) && list_all (is_met (labels ks)) (owned m ++ waits i)
        && are_sound_in rules (below path (name_bytes m.name)) (eff s ns) (left - 1) (owned m ++ waits i) ks)

    row-left : (ks : PlainNodes) → AllByRecursion (λ m. label_cmp l m ≡ Less) (labels ks) → are_sound_in rules path ns left (left-of ws) ks ≡ are_sound_in rules path ns left ws ks
    row-left no_nodes above = refl
    row-left (node k ks) above = (λ i. sound-left k above.0 i && row-left ks above.1 i)

-- ---- one kid after another

alts-apart : (a o w b : Bool) → ((a && o) && (w && b)) ≡ (a && ((o && w) && b))
alts-apart true true w b = refl
alts-apart true false w b = refl
alts-apart false o w b = refl

inner-apart : (a o r n m : Bool) → ((a && o) && ((r && n) && m)) ≡ (a && (((o && r) && m) && n))
inner-apart true true true true true = refl
inner-apart true true true true false = refl
inner-apart true true true false true = refl
inner-apart true true true false false = refl
inner-apart true true false n m = refl
inner-apart true false r n m = refl
inner-apart false o r n m = refl

kid-apart : (a s r n m : Bool) → ((a && s) && ((r && n) && m)) ≡ (((a && r) && (s && n)) && m)
kid-apart true true true n m = refl
kid-apart true true false n m = refl
kid-apart true false true n m = refl
kid-apart true false false n m = refl
kid-apart false s r n m = refl

eff-is : (s : Stamp) (ps : List (ℕ × ℕ)) → members (unwrap_or s ps) ≡ eff s (members ps)
eff-is None ps = refl
eff-is (Some t) ps = refl

none-met : (ws : List Awaited) → (length ws == 0) ≡ list_all (is_met []) ws
none-met [] = refl
none-met (w ∷ ws) = not-none (length ws)
  where
    not-none : (n : ℕ) → (suc n == 0) ≡ false
    not-none n = grind (arith, nat_tests)

rise-none : (last : Option PlainLabel) → true ≡ rise_behind last []
rise-none None = refl
rise-none (Some l) = refl

rise-next : (last : Option PlainLabel) (l : PlainLabel) (ls : List PlainLabel) → (is_above last l && rise_from l ls) ≡ rise_behind last (l ∷ ls)
rise-next None l ls = refl
rise-next (Some m) l ls = refl

mutual
  next-is : (f : PlainFrame) (k : PlainNode) → is_next f k ≡ (is_above f.last (node_label k) && is_sound_in f.rules f.path (members f.set) f.left f.waits k)
  next-is f (leaf_node l s xs) =
      let a = is_above f.last l in
      let o = is_opening_sound f.rules f.path (members f.set) f.left f.waits true l s in
      let b = list_all (λ (x : PlainAlt). is_body_sound f.left (awaits f.rules f.path f.waits l) l x.body) xs in
      ap (λ ns. (a && o) && (are_alts_well ns xs && b)) (eff-is s f.set) ∙ alts-apart a o (are_alts_well (eff s (members f.set)) xs) b
  next-is f (inner_node l s ks) =
      let a = is_above f.last l in
      let o = is_opening_sound f.rules f.path (members f.set) f.left f.waits false l s in
      let ws = awaits f.rules f.path f.waits l in
      let r = rise (labels ks) in
      let m = list_all (is_met (labels ks)) ws in
      ap (λ b. (a && o) && b) (goes-is (row_below f l s) ks)
      ∙ ap (λ ns. (a && o) && ((r && are_sound_in f.rules (below f.path (name_bytes l.name)) ns (f.left - 1) ws ks) && m)) (eff-is s f.set)
      ∙ inner-apart a o r (are_sound_in f.rules (below f.path (name_bytes l.name)) (eff s (members f.set)) (f.left - 1) ws ks) m

  pub goes-is : (f : PlainFrame) (ks : PlainNodes) → goes_on f ks ≡ is_row_sound f ks
  goes-is f no_nodes = none-met f.waits ∙ ap (λ b. (b && true) && list_all (is_met []) f.waits) (rise-none f.last)
  goes-is f (node k ks) =
      let l = node_label k in
      let a = is_above f.last l in
      let s = is_sound_in f.rules f.path (members f.set) f.left f.waits k in
      let r = rise_from l (labels ks) in
      let n = are_sound_in f.rules f.path (members f.set) f.left f.waits ks in
      let m = list_all (is_met (l ∷ labels ks)) f.waits in
      let rest : goes_on (behind_kid f l) ks ≡ ((r && n) && m) =
      goes-is (behind_kid f l) ks
      ∙ ap (λ b. b && list_all (is_met (labels ks)) (left-of l f.waits)) (under r (λ h. row-left l f.rules f.path (members f.set) f.left f.waits ks (rise-all (l ∷ labels ks) h).0))
      ∙ ap (λ b. (r && n) && b) (met-left l (labels ks) f.waits) in
      (λ i. next-is f k i && rest i) ∙ kid-apart a s r n m ∙ ap (λ b. (b && (s && n)) && m) (rise-next f.last l (labels ks))

-- the row of the virtual root
pub archive-goes : (rules : List PlainRule) (a : PlainArchive)
    → is_sound_archive rules a ≡ (goes_on (root_frame rules (upto_pairs a.n) GREATEST_DEPTH) a.kids && are_parts (range_with_len 1 a.n) (node_sets (range_with_len 1 a.n) a.kids))
archive-goes rules a =
    let r = rise (labels a.kids) in
    let p = are_parts (range_with_len 1 a.n) (node_sets (range_with_len 1 a.n) a.kids) in
    let row : goes_on (root_frame rules (upto_pairs a.n) GREATEST_DEPTH) a.kids ≡ (r && are_sound_in rules [] (range_with_len 1 a.n) GREATEST_DEPTH [] a.kids) =
    goes-is (root_frame rules (upto_pairs a.n) GREATEST_DEPTH) a.kids
    ∙ ap (λ ns. (r && are_sound_in rules [] ns GREATEST_DEPTH [] a.kids) && true) (members-upto_pairs a.n)
    ∙ and_true (r && are_sound_in rules [] (range_with_len 1 a.n) GREATEST_DEPTH [] a.kids) in
    ap (λ b. b && p) (sym row)
  where
    and_true : (b : Bool) → (b && true) ≡ b
    and_true true = refl
    and_true false = refl
