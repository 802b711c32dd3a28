-- A node is right in its place exactly where it is well, fits the rules, is not too deep, and keeps what its parent waits for.
use Rattle.std.proofs.Common.{◌≡◌, ◌≢◌, ◌-◌, Bool, true, false, cond, not, ◌&&◌, IsTrue, List, [], ◌∷◌, ◌++◌, ℕ, is_some, refl, ap, sym, ◌∙◌, arith, true≢false}
use Rattle.std.specs.Prelude.{nat_lt, ◌||◌, if◌then◌else◌}
use Rattle.std.proofs.lemmas.Bool.{and_parts, and_from}
use Rattle.std.proofs.lemmas.Bool.Decides.{nat_tests}
use Rattle.std.proofs.lemmas.List.Folds.{list_all-append}
use Rattle.std.specs.List.{list_all, range_with_len}
use Rattle.std.specs.Option.{unwrap_or}
use Rattle.jsonml_tree.specs.Data.{content_depth}
use Rattle.jsonml_tree.specs.declared.limits.TheConstants.{GREATEST_DEPTH}
use Rattle.keyed_tree.specs.Data.{attr, tag, PlainKey, PlainLabel}
use Rattle.keyed_tree.specs.Lists.{Has}
use Rattle.keyed_tree.specs.Plain.{content_of}
use Rattle.keyed_tree.specs.Proper.{is_tag, has_no_keys, is_scalar, is_content}
use Rattle.key_spec.specs.Data.{PlainRule}
use Rattle.key_spec.specs.Rules.{rule_of, is_frontier, below}
use Rattle.archive_tree.specs.Data.{Stamp, eff, PlainAlt, PlainNode, inner_node, leaf_node, PlainNodes, no_nodes, node, node_label, nodes_list, PlainArchive}
use Rattle.archive_tree.specs.Parts.{node_sets}
use Rattle.archive_tree.specs.PartsTest.{is_stamp_well, are_alts_well, are_parts, is_node_well, are_nodes_well, are_elements, is_archive}
use Rattle.archive_tree.specs.Seek.{rise}
use Rattle.archive_tree.specs.Stands.{labels}
use Rattle.archive_tree.proofs.Counts.{all_tells, tells_all}
use Rattle.archive_tree.proofs.Tells.{bools, stamp_tells}
use Rattle.archive_file.specs.NodeFits.{node_has_keys, nodes_fit, kid_fits, is_shallow, are_shallow, is_archive_keyed}
use Rattle.node_judge.specs.Awaited.{Awaited, leads, equals, all_handed, is_met, body_meets, holds_at, keeps, own, awaits}
use Rattle.node_judge.specs.InPlace.{is_below_root, is_opening_sound, is_body_sound, is_sound_in, are_sound_in, is_placed, is_sound_archive}
use Rattle.node_judge.proofs.Keys.{all_hold, inherits, keys-are, kept-are}
use Rattle.node_judge.proofs.Rows.{kids-hold}

-- ---- bodies of a leaf, and what it waits for

-- for each of these each of those, and the other way about
swapped : {X Y : Type 0} (p : X → Y → Bool) (xs : List X) (ys : List Y) → IsTrue (list_all (λ x. list_all (p x) ys) xs) → IsTrue (list_all (λ y. list_all (λ x. p x y) xs) ys)
swapped p xs ys h =
    tells_all (λ y. list_all (λ x. p x y) xs) ys (λ y j. tells_all (λ x. p x y) xs (λ x i. all_tells (p x) ys (all_tells (λ x. list_all (p x) ys) xs h x i) y j))

-- a set that is not empty is not divided into no alternatives
some-alts : (s : Stamp) (ns : List ℕ) (xs : List PlainAlt) → IsTrue (is_stamp_well s ns) → IsTrue (are_alts_well (eff s ns) xs) → xs ≢ []
some-alts s ns (x ∷ xs) h g = λ e. cc
some-alts s ns [] h g = absurd (none (eff s ns) ((stamp_tells s ns).0 h).some g)
  where
    none : (ms : List ℕ) → ms ≢ [] → IsTrue (are_alts_well ms []) → ⊥
    none [] some e = some refl
    none (m ∷ ms) some e = true≢false (sym e)

-- a leaf has what its bodies have
leaf-holds : (w : Awaited) (l : PlainLabel) (s : Stamp) (xs : List PlainAlt) → xs ≢ [] → holds_at w (leaf_node l s xs) ≡ list_all (λ (x : PlainAlt). body_meets x.body w) xs
leaf-holds (leads [] at v) l s xs some = refl
leaf-holds (leads (t ∷ ts) at v) l s [] some = absurd (some refl)
leaf-holds (leads (t ∷ ts) at v) l s (x ∷ xs) some = refl
leaf-holds (equals v) l s xs some = refl

module _ (l : PlainLabel) (s : Stamp) (xs : List PlainAlt) (some : xs ≢ []) where
  bodies-hold : (ws : List Awaited) → IsTrue (list_all (λ (x : PlainAlt). list_all (body_meets x.body) ws) xs) → IsTrue (all_hold (leaf_node l s xs) ws)
  bodies-hold ws h =
      let each = swapped (λ (x : PlainAlt) w. body_meets x.body w) xs ws h in
      tells_all (λ w. holds_at w (leaf_node l s xs)) ws (λ w i. leaf-holds w l s xs some ∙ all_tells (λ w. list_all (λ (x : PlainAlt). body_meets x.body w) xs) ws each w i)

  hold-bodies : (ws : List Awaited) → IsTrue (all_hold (leaf_node l s xs) ws) → IsTrue (list_all (λ (x : PlainAlt). list_all (body_meets x.body) ws) xs)
  hold-bodies ws h = swapped (λ w (x : PlainAlt). body_meets x.body w) ws xs
      (tells_all (λ w. list_all (λ (x : PlainAlt). body_meets x.body w) xs) ws (λ w i. sym (leaf-holds w l s xs some) ∙ all_tells (λ w. holds_at w (leaf_node l s xs)) ws h w i))

-- ---- kids of an inner node, and what it waits for

module _ (l : PlainLabel) (s : Stamp) (ks : PlainNodes) (up : IsTrue (rise (labels ks))) where
  -- each kid keeps of each thing what it is handed
  abbrev kids-keep : List Awaited → Bool
  kids-keep ws = list_all (λ k. list_all (keeps k) ws) (nodes_list ks)

  met-hold : (ws : List Awaited) → IsTrue (list_all (is_met (labels ks)) ws) → IsTrue (kids-keep ws) → IsTrue (all_hold (inner_node l s ks) ws)
  met-hold ws h g =
      let each = swapped (λ k w. keeps k w) (nodes_list ks) ws g in
      tells_all (λ w. holds_at w (inner_node l s ks)) ws (λ w i. kids-hold w l s ks up ∙ and_from (is_met (labels ks) w) (list_all (λ k. keeps k w) (nodes_list ks))
      (all_tells (is_met (labels ks)) ws h w i) (all_tells (λ w. list_all (λ k. keeps k w) (nodes_list ks)) ws each w i))

  hold-parts : (ws : List Awaited) → IsTrue (all_hold (inner_node l s ks) ws) → (w : Awaited) → Has w ws → IsTrue (is_met (labels ks) w) × IsTrue (list_all (λ k. keeps k w) (nodes_list ks))
  hold-parts ws h w i = and_parts (is_met (labels ks) w) (list_all (λ k. keeps k w) (nodes_list ks)) (sym (kids-hold w l s ks up) ∙ all_tells (λ w. holds_at w (inner_node l s ks)) ws h w i)

  hold-met : (ws : List Awaited) → IsTrue (all_hold (inner_node l s ks) ws) → IsTrue (list_all (is_met (labels ks)) ws)
  hold-met ws h = tells_all (is_met (labels ks)) ws (λ w i. (hold-parts ws h w i).0)

  hold-keep : (ws : List Awaited) → IsTrue (all_hold (inner_node l s ks) ws) → IsTrue (kids-keep ws)
  hold-keep ws h = swapped (λ w k. keeps k w) ws (nodes_list ks) (tells_all (λ w. list_all (λ k. keeps k w) (nodes_list ks)) ws (λ w i. (hold-parts ws h w i).1))

-- ---- one node

-- what is said of a node as one of a row, in an archive that is well and keyed
record IsPlaced (rules : List PlainRule) (path : List (List ℕ)) (ns : List ℕ) (left : ℕ) (ws : List Awaited) (k : PlainNode) : Type 0 where
  well : IsTrue (is_node_well k ns)
  fits : IsTrue (kid_fits rules path k)
  placed : IsTrue (if is_tag (node_label k).name then is_shallow left k else is_below_root path)
  kept : IsTrue (list_all (keeps k) ws)

-- and of the row
record ArePlaced (rules : List PlainRule) (path : List (List ℕ)) (ns : List ℕ) (left : ℕ) (ws : List Awaited) (ks : PlainNodes) : Type 0 where
  well : IsTrue (are_nodes_well ks ns)
  fit : IsTrue (nodes_fit rules path ks)
  placed : IsTrue (list_all (λ k. if is_tag (node_label k).name then is_shallow left k else is_below_root path) (nodes_list ks))
  kept : IsTrue (list_all (λ k. list_all (keeps k) ws) (nodes_list ks))

mixed : (b s r a e : Bool) → (cond b s r && (a && (r || e))) ≡ ((cond b s true && a) && (r || (b && e)))
mixed true true r a e = refl
mixed true false r a e = refl
mixed false s true a e = refl
mixed false s false true e = refl
mixed false s false false e = refl

-- no row of attributes is at the root
row-placed : (path : List (List ℕ)) (left : ℕ) (ks : PlainNodes)
    → list_all (λ k. if is_tag (node_label k).name then is_shallow left k else is_below_root path) (nodes_list ks) ≡ (are_shallow left ks && (is_below_root path || are_elements ks))
row-placed path left no_nodes = elim (is_below_root path) as (λ b. true ≡ (b || true)) [ true ↦ refl | false ↦ refl ]
row-placed path left (node k ks) =
    let b = is_tag (node_label k).name in
    ap (λ c. cond b (is_shallow left k) (is_below_root path) && c) (row-placed path left ks) ∙ mixed b (is_shallow left k) (is_below_root path) (are_shallow left ks) (are_elements ks)

below-root : (path : List (List ℕ)) (t : List ℕ) → is_below_root (below path t) ≡ true
below-root [] t = refl
below-root (u ∷ path) t = refl

shallow-row : (path : List (List ℕ)) (t : List ℕ) (left : ℕ) (ks : PlainNodes) → list_all (λ k. if is_tag (node_label k).name then is_shallow left k else is_below_root (below path t)) (nodes_list ks) ≡ are_shallow left ks
shallow-row path t left ks =
    row-placed (below path t) left ks ∙ ap (λ b. are_shallow left ks && (b || are_elements ks)) (below-root path t) ∙ and_true (are_shallow left ks)
  where
    and_true : (b : Bool) → (b && true) ≡ b
    and_true true = refl
    and_true false = refl

-- a test of two things passes at each where both do
both-pass : {X : Type 0} (p q : X → Bool) (xs : List X) → IsTrue (list_all (λ x. p x && q x) xs) → IsTrue (list_all p xs) × IsTrue (list_all q xs)
both-pass p q xs h = (
  tells_all p xs (λ x i. (and_parts (p x) (q x) (all_tells (λ x. p x && q x) xs h x i)).0),
  tells_all q xs (λ x i. (and_parts (p x) (q x) (all_tells (λ x. p x && q x) xs h x i)).1),
)

pass-both : {X : Type 0} (p q : X → Bool) (xs : List X) → IsTrue (list_all p xs) → IsTrue (list_all q xs) → IsTrue (list_all (λ x. p x && q x) xs)
pass-both p q xs h g = tells_all (λ x. p x && q x) xs (λ x i. and_from (p x) (q x) (all_tells p xs h x i) (all_tells q xs g x i))

has-room : (xs : List PlainAlt) (left : ℕ) → xs ≢ [] → IsTrue (list_all (λ (x : PlainAlt). nat_lt (content_depth (content_of x.body)) left) xs) → IsTrue (nat_lt 0 left)
has-room [] left some h = absurd (some refl)
has-room (x ∷ xs) left some h = positive (content_depth (content_of x.body)) left (and_parts (nat_lt (content_depth (content_of x.body)) left) (list_all (λ (x : PlainAlt). nat_lt (content_depth (content_of x.body)) left) xs) h).0
  where
    positive : (m n : ℕ) → IsTrue (nat_lt m n) → IsTrue (nat_lt 0 n)
    positive m n h = grind (arith, nat_tests)

-- what a node waits for, its own and what it is handed
module _ (k : PlainNode) (us vs : List Awaited) where
  hold-both : IsTrue (all_hold k (us ++ vs)) → IsTrue (all_hold k us) × IsTrue (all_hold k vs)
  hold-both h = and_parts (all_hold k us) (all_hold k vs) (sym (list_all-append (λ w. holds_at w k) us vs) ∙ h)

  both-hold : IsTrue (all_hold k us) → IsTrue (all_hold k vs) → IsTrue (all_hold k (us ++ vs))
  both-hold h g = list_all-append (λ w. holds_at w k) us vs ∙ and_from (all_hold k us) (all_hold k vs) h g

module _ (rules : List PlainRule) (path : List (List ℕ)) (ns : List ℕ) (left : ℕ) (ws : List Awaited) (s : Stamp) where
  -- ---- a leaf

  module _ (keys : List PlainKey) (xs : List PlainAlt) where
    tag-placed : (t : List ℕ) → IsTrue (is_sound_in rules path ns left ws (leaf_node (record { name = tag t; keys = keys }) s xs)) → IsPlaced rules path ns left ws (leaf_node (record { name = tag t; keys = keys }) s xs)
    tag-placed t h =
        let l : PlainLabel = record { name = tag t; keys = keys } in
        let k : PlainNode = leaf_node l s xs in
        let own_ = unwrap_or (own rules path l) [] in
        let frontier = is_frontier rules (below path t) in
        let has_depth = λ (x : PlainAlt). nat_lt (content_depth (content_of x.body)) left in
        let meets = λ (x : PlainAlt). list_all (body_meets x.body) (awaits rules path ws l) in
        let two = and_parts (is_opening_sound rules path ns left ws true l s && are_alts_well (eff s ns) xs) (list_all (λ (x : PlainAlt). is_body_sound left (awaits rules path ws l) l x.body) xs) h in
        let begun = and_parts (is_opening_sound rules path ns left ws true l s) (are_alts_well (eff s ns) xs) two.0 in
        let first = and_parts (is_stamp_well s ns && inherits k ws) (nat_lt 0 left && is_some (own rules path l) && frontier) begun.0 in
        let stamp = and_parts (is_stamp_well s ns) (inherits k ws) first.0 in
        let kind = and_parts (nat_lt 0 left && is_some (own rules path l)) frontier first.1 in
        let some = and_parts (nat_lt 0 left) (is_some (own rules path l)) kind.0 in
        let each = both-pass (λ (x : PlainAlt). is_content x.body && has_depth x) meets xs two.1 in
        let body = both-pass (λ (x : PlainAlt). is_content x.body) has_depth xs each.0 in
        let alts = some-alts s ns xs stamp.0 begun.1 in
        let hold = hold-both k own_ (all_handed l ws) (bodies-hold l s xs alts (awaits rules path ws l) each.1) in
        let has = keys-are rules path l k ∙ and_from (is_some (own rules path l)) (all_hold k own_) some.1 hold.0 in
        record {
          well = and_from (is_stamp_well s ns) (are_alts_well (eff s ns) xs) stamp.0 begun.1;
          fits = and_from (node_has_keys (rule_of rules path t) keys k) (frontier && list_all (λ (x : PlainAlt). is_content x.body) xs) has
              (and_from frontier (list_all (λ (x : PlainAlt). is_content x.body) xs) kind.1 body.0);
          placed = body.1;
          kept = kept-are k ws ∙ and_from (inherits k ws) (all_hold k (all_handed l ws)) stamp.1 hold.1;
        }

    placed-tag : (t : List ℕ) → IsPlaced rules path ns left ws (leaf_node (record { name = tag t; keys = keys }) s xs) → IsTrue (is_sound_in rules path ns left ws (leaf_node (record { name = tag t; keys = keys }) s xs))
    placed-tag t h =
        let l : PlainLabel = record { name = tag t; keys = keys } in
        let k : PlainNode = leaf_node l s xs in
        let own_ = unwrap_or (own rules path l) [] in
        let frontier = is_frontier rules (below path t) in
        let contents = list_all (λ (x : PlainAlt). is_content x.body) xs in
        let has_depth = λ (x : PlainAlt). nat_lt (content_depth (content_of x.body)) left in
        let meets = λ (x : PlainAlt). list_all (body_meets x.body) (awaits rules path ws l) in
        let well = and_parts (is_stamp_well s ns) (are_alts_well (eff s ns) xs) h.well in
        let alts = some-alts s ns xs well.0 well.1 in
        let fit = and_parts (node_has_keys (rule_of rules path t) keys k) (frontier && contents) h.fits in
        let kind = and_parts frontier contents fit.1 in
        let has = and_parts (is_some (own rules path l)) (all_hold k own_) (sym (keys-are rules path l k) ∙ fit.0) in
        let kept = and_parts (inherits k ws) (all_hold k (all_handed l ws)) (sym (kept-are k ws) ∙ h.kept) in
        let room = has-room xs left alts h.placed in
        let bodies = pass-both (λ (x : PlainAlt). is_content x.body && has_depth x) meets xs (pass-both (λ (x : PlainAlt). is_content x.body) has_depth xs kind.1 h.placed)
        (hold-bodies l s xs alts (awaits rules path ws l) (both-hold k own_ (all_handed l ws) has.1 kept.1)) in
        and_from (is_opening_sound rules path ns left ws true l s && are_alts_well (eff s ns) xs) (list_all (λ (x : PlainAlt). is_body_sound left (awaits rules path ws l) l x.body) xs)
        (and_from (is_opening_sound rules path ns left ws true l s) (are_alts_well (eff s ns) xs)
        (and_from (is_stamp_well s ns && inherits k ws) (nat_lt 0 left && is_some (own rules path l) && frontier) (and_from (is_stamp_well s ns) (inherits k ws) well.0 kept.0)
        (and_from (nat_lt 0 left && is_some (own rules path l)) frontier (and_from (nat_lt 0 left) (is_some (own rules path l)) room has.0) kind.0)) well.1) bodies

    attr-placed : (t : List ℕ) → IsTrue (is_sound_in rules path ns left ws (leaf_node (record { name = attr t; keys = keys }) s xs)) → IsPlaced rules path ns left ws (leaf_node (record { name = attr t; keys = keys }) s xs)
    attr-placed t h =
        let l : PlainLabel = record { name = attr t; keys = keys } in
        let k : PlainNode = leaf_node l s xs in
        let meets = λ (x : PlainAlt). list_all (body_meets x.body) (all_handed l ws) in
        let two = and_parts (is_opening_sound rules path ns left ws true l s && are_alts_well (eff s ns) xs) (list_all (λ (x : PlainAlt). is_body_sound left (awaits rules path ws l) l x.body) xs) h in
        let begun = and_parts (is_opening_sound rules path ns left ws true l s) (are_alts_well (eff s ns) xs) two.0 in
        let first = and_parts (is_stamp_well s ns && inherits k ws) (has_no_keys keys && is_below_root path) begun.0 in
        let stamp = and_parts (is_stamp_well s ns) (inherits k ws) first.0 in
        let kind = and_parts (has_no_keys keys) (is_below_root path) first.1 in
        let each = both-pass (λ (x : PlainAlt). is_scalar x.body) meets xs two.1 in
        let hold = bodies-hold l s xs (some-alts s ns xs stamp.0 begun.1) (all_handed l ws) each.1 in
        record {
          well = and_from (is_stamp_well s ns) (are_alts_well (eff s ns) xs) stamp.0 begun.1;
          fits = and_from (has_no_keys keys) (list_all (λ (x : PlainAlt). is_scalar x.body) xs) kind.0 each.0;
          placed = kind.1;
          kept = kept-are k ws ∙ and_from (inherits k ws) (all_hold k (all_handed l ws)) stamp.1 hold;
        }

    placed-attr : (t : List ℕ) → IsPlaced rules path ns left ws (leaf_node (record { name = attr t; keys = keys }) s xs) → IsTrue (is_sound_in rules path ns left ws (leaf_node (record { name = attr t; keys = keys }) s xs))
    placed-attr t h =
        let l : PlainLabel = record { name = attr t; keys = keys } in
        let k : PlainNode = leaf_node l s xs in
        let scalars = list_all (λ (x : PlainAlt). is_scalar x.body) xs in
        let meets = λ (x : PlainAlt). list_all (body_meets x.body) (all_handed l ws) in
        let well = and_parts (is_stamp_well s ns) (are_alts_well (eff s ns) xs) h.well in
        let fit = and_parts (has_no_keys keys) scalars h.fits in
        let kept = and_parts (inherits k ws) (all_hold k (all_handed l ws)) (sym (kept-are k ws) ∙ h.kept) in
        let bodies = pass-both (λ (x : PlainAlt). is_scalar x.body) meets xs fit.1 (hold-bodies l s xs (some-alts s ns xs well.0 well.1) (all_handed l ws) kept.1) in
        and_from (is_opening_sound rules path ns left ws true l s && are_alts_well (eff s ns) xs) (list_all (λ (x : PlainAlt). is_body_sound left (awaits rules path ws l) l x.body) xs)
        (and_from (is_opening_sound rules path ns left ws true l s) (are_alts_well (eff s ns) xs)
        (and_from (is_stamp_well s ns && inherits k ws) (has_no_keys keys && is_below_root path) (and_from (is_stamp_well s ns) (inherits k ws) well.0 kept.0)
        (and_from (has_no_keys keys) (is_below_root path) fit.0 h.placed)) well.1) bodies

  leaf-placed : (l : PlainLabel) (xs : List PlainAlt) → IsTrue (is_sound_in rules path ns left ws (leaf_node l s xs)) → IsPlaced rules path ns left ws (leaf_node l s xs)
  leaf-placed l xs = elim l.name as (λ n. IsTrue (is_sound_in rules path ns left ws (leaf_node (record { name = n; keys = l.keys }) s xs)) → IsPlaced rules path ns left ws (leaf_node (record { name = n; keys = l.keys }) s xs)) [
    | attr t ↦ attr-placed l.keys xs t
    | tag t ↦ tag-placed l.keys xs t
  ]

  placed-leaf : (l : PlainLabel) (xs : List PlainAlt) → IsPlaced rules path ns left ws (leaf_node l s xs) → IsTrue (is_sound_in rules path ns left ws (leaf_node l s xs))
  placed-leaf l xs = elim l.name as (λ n. IsPlaced rules path ns left ws (leaf_node (record { name = n; keys = l.keys }) s xs) → IsTrue (is_sound_in rules path ns left ws (leaf_node (record { name = n; keys = l.keys }) s xs))) [
    | attr t ↦ placed-attr l.keys xs t
    | tag t ↦ placed-tag l.keys xs t
  ]

  -- ---- an inner node

  module _ (keys : List PlainKey) (t : List ℕ) (ks : PlainNodes) where
    abbrev label : PlainLabel
    label = record { name = tag t; keys = keys }

    abbrev this : PlainNode
    this = inner_node label s ks

    -- what it waits for
    abbrev all : List Awaited
    all = awaits rules path ws label

    abbrev mine : List Awaited
    mine = unwrap_or (own rules path label) []

    abbrev frontier : Bool
    frontier = is_frontier rules (below path t)

    abbrev opening : Bool
    opening = is_opening_sound rules path ns left ws false label s

    abbrev kids : Bool
    kids = are_sound_in rules (below path t) (eff s ns) (left - 1) all ks

    inner-placed : IsTrue (is_sound_in rules path ns left ws this) → (IsTrue kids → ArePlaced rules (below path t) (eff s ns) (left - 1) all ks) → IsPlaced rules path ns left ws this
    inner-placed h row =
        let three = and_parts (opening && rise (labels ks) && list_all (is_met (labels ks)) all) kids h in
        let two = and_parts (opening && rise (labels ks)) (list_all (is_met (labels ks)) all) three.0 in
        let begun = and_parts opening (rise (labels ks)) two.0 in
        let first = and_parts (is_stamp_well s ns && inherits this ws) (nat_lt 0 left && is_some (own rules path label) && not frontier) begun.0 in
        let stamp = and_parts (is_stamp_well s ns) (inherits this ws) first.0 in
        let kind = and_parts (nat_lt 0 left && is_some (own rules path label)) (not frontier) first.1 in
        let some = and_parts (nat_lt 0 left) (is_some (own rules path label)) kind.0 in
        let below_ = row three.1 in
        let hold = hold-both this mine (all_handed label ws) (met-hold label s ks begun.1 all two.1 below_.kept) in
        let has = keys-are rules path label this ∙ and_from (is_some (own rules path label)) (all_hold this mine) some.1 hold.0 in
        record {
          well = and_from (is_stamp_well s ns && rise (labels ks)) (are_nodes_well ks (eff s ns)) (and_from (is_stamp_well s ns) (rise (labels ks)) stamp.0 begun.1) below_.well;
          fits = and_from (node_has_keys (rule_of rules path t) keys this) (not frontier && nodes_fit rules (below path t) ks) has (and_from (not frontier) (nodes_fit rules (below path t) ks) kind.1 below_.fit);
          placed = and_from (nat_lt 0 left) (are_shallow (left - 1) ks) some.0 (sym (shallow-row path t (left - 1) ks) ∙ below_.placed);
          kept = kept-are this ws ∙ and_from (inherits this ws) (all_hold this (all_handed label ws)) stamp.1 hold.1;
        }

    placed-inner : IsPlaced rules path ns left ws this → (ArePlaced rules (below path t) (eff s ns) (left - 1) all ks → IsTrue kids) → IsTrue (is_sound_in rules path ns left ws this)
    placed-inner h row =
        let well = and_parts (is_stamp_well s ns && rise (labels ks)) (are_nodes_well ks (eff s ns)) h.well in
        let stamp = and_parts (is_stamp_well s ns) (rise (labels ks)) well.0 in
        let fit = and_parts (node_has_keys (rule_of rules path t) keys this) (not frontier && nodes_fit rules (below path t) ks) h.fits in
        let kind = and_parts (not frontier) (nodes_fit rules (below path t) ks) fit.1 in
        let has = and_parts (is_some (own rules path label)) (all_hold this mine) (sym (keys-are rules path label this) ∙ fit.0) in
        let kept = and_parts (inherits this ws) (all_hold this (all_handed label ws)) (sym (kept-are this ws) ∙ h.kept) in
        let room = and_parts (nat_lt 0 left) (are_shallow (left - 1) ks) h.placed in
        let hold = both-hold this mine (all_handed label ws) has.1 kept.1 in
        let below_ = row (record {
          well = well.1;
          fit = kind.1;
          placed = shallow-row path t (left - 1) ks ∙ room.1;
          kept = hold-keep label s ks stamp.1 all hold;
        }) in
        and_from (opening && rise (labels ks) && list_all (is_met (labels ks)) all) kids
        (and_from (opening && rise (labels ks)) (list_all (is_met (labels ks)) all) (and_from opening (rise (labels ks))
        (and_from (is_stamp_well s ns && inherits this ws) (nat_lt 0 left && is_some (own rules path label) && not frontier) (and_from (is_stamp_well s ns) (inherits this ws) stamp.0 kept.0)
        (and_from (nat_lt 0 left && is_some (own rules path label)) (not frontier) (and_from (nat_lt 0 left) (is_some (own rules path label)) room.0 has.0) kind.0)) stamp.1)
        (hold-met label s ks stamp.1 all hold)) below_

  -- no inner node is an attribute's
  no-attr : (keys : List PlainKey) (t : List ℕ) (ks : PlainNodes) → ¬ (IsTrue (is_sound_in rules path ns left ws (inner_node (record { name = attr t; keys = keys }) s ks)))
  no-attr keys t ks h =
      let l : PlainLabel = record { name = attr t; keys = keys } in
      let three = and_parts (is_opening_sound rules path ns left ws false l s && rise (labels ks) && list_all (is_met (labels ks)) (awaits rules path ws l))
      (are_sound_in rules (below path t) (eff s ns) (left - 1) (awaits rules path ws l) ks) h in
      let two = and_parts (is_opening_sound rules path ns left ws false l s && rise (labels ks)) (list_all (is_met (labels ks)) (awaits rules path ws l)) three.0 in
      let begun = and_parts (is_opening_sound rules path ns left ws false l s) (rise (labels ks)) two.0 in
      let first = and_parts (is_stamp_well s ns && inherits (inner_node l s ks) ws) false begun.0 in
      true≢false (sym first.1)

-- ---- all nodes

mutual
  node-placed : (rules : List PlainRule) (path : List (List ℕ)) (ns : List ℕ) (left : ℕ) (ws : List Awaited) (k : PlainNode) → IsTrue (is_sound_in rules path ns left ws k) → IsPlaced rules path ns left ws k
  node-placed rules path ns left ws (leaf_node l s xs) h = leaf-placed rules path ns left ws s l xs h
  node-placed rules path ns left ws (inner_node l s ks) h =
      elim l.name as (λ n. IsTrue (is_sound_in rules path ns left ws (inner_node (record { name = n; keys = l.keys }) s ks)) → IsPlaced rules path ns left ws (inner_node (record { name = n; keys = l.keys }) s ks)) [
        | attr t ↦ λ g. absurd (no-attr rules path ns left ws s l.keys t ks g)
        | tag t ↦ λ g. inner-placed rules path ns left ws s l.keys t ks g (λ e. nodes-placed rules (below path t) (eff s ns) (left - 1) (awaits rules path ws (record { name = tag t; keys = l.keys })) ks e)
      ] h

  nodes-placed : (rules : List PlainRule) (path : List (List ℕ)) (ns : List ℕ) (left : ℕ) (ws : List Awaited) (ks : PlainNodes) → IsTrue (are_sound_in rules path ns left ws ks) → ArePlaced rules path ns left ws ks
  nodes-placed rules path ns left ws no_nodes h = record { well = refl; fit = refl; placed = refl; kept = refl }
  nodes-placed rules path ns left ws (node k ks) h =
      let two = and_parts (is_sound_in rules path ns left ws k) (are_sound_in rules path ns left ws ks) h in
      let first = node-placed rules path ns left ws k two.0 in
      let rest = nodes-placed rules path ns left ws ks two.1 in
      record {
        well = and_from (is_node_well k ns) (are_nodes_well ks ns) first.well rest.well;
        fit = and_from (kid_fits rules path k) (nodes_fit rules path ks) first.fits rest.fit;
        placed = and_from (cond (is_tag (node_label k).name) (is_shallow left k) (is_below_root path)) (list_all (λ k. if is_tag (node_label k).name then is_shallow left k else is_below_root path) (nodes_list ks)) first.placed rest.placed;
        kept = and_from (list_all (keeps k) ws) (list_all (λ k. list_all (keeps k) ws) (nodes_list ks)) first.kept rest.kept;
      }

mutual
  placed-node : (rules : List PlainRule) (path : List (List ℕ)) (ns : List ℕ) (left : ℕ) (ws : List Awaited) (k : PlainNode) → IsPlaced rules path ns left ws k → IsTrue (is_sound_in rules path ns left ws k)
  placed-node rules path ns left ws (leaf_node l s xs) h = placed-leaf rules path ns left ws s l xs h
  placed-node rules path ns left ws (inner_node l s ks) h =
      elim l.name as (λ n. IsPlaced rules path ns left ws (inner_node (record { name = n; keys = l.keys }) s ks) → IsTrue (is_sound_in rules path ns left ws (inner_node (record { name = n; keys = l.keys }) s ks))) [
        | attr t ↦ λ g. absurd (true≢false (sym g.fits))
        | tag t ↦ λ g. placed-inner rules path ns left ws s l.keys t ks g (λ e. placed-nodes rules (below path t) (eff s ns) (left - 1) (awaits rules path ws (record { name = tag t; keys = l.keys })) ks e)
      ] h

  placed-nodes : (rules : List PlainRule) (path : List (List ℕ)) (ns : List ℕ) (left : ℕ) (ws : List Awaited) (ks : PlainNodes) → ArePlaced rules path ns left ws ks → IsTrue (are_sound_in rules path ns left ws ks)
  placed-nodes rules path ns left ws no_nodes h = refl
  placed-nodes rules path ns left ws (node k ks) h =
      let well = and_parts (is_node_well k ns) (are_nodes_well ks ns) h.well in
      let fit = and_parts (kid_fits rules path k) (nodes_fit rules path ks) h.fit in
      let placed = and_parts (cond (is_tag (node_label k).name) (is_shallow left k) (is_below_root path)) (list_all (λ k. if is_tag (node_label k).name then is_shallow left k else is_below_root path) (nodes_list ks)) h.placed in
      let kept = and_parts (list_all (keeps k) ws) (list_all (λ k. list_all (keeps k) ws) (nodes_list ks)) h.kept in
      and_from (is_sound_in rules path ns left ws k) (are_sound_in rules path ns left ws ks)
      (placed-node rules path ns left ws k (record { well = well.0; fits = fit.0; placed = placed.0; kept = kept.0 }))
      (placed-nodes rules path ns left ws ks (record { well = well.1; fit = fit.1; placed = placed.1; kept = kept.1 }))

-- the law of one node
pub node-law : (rules : List PlainRule) (path : List (List ℕ)) (ns : List ℕ) (left : ℕ) (ws : List Awaited) (k : PlainNode) → is_sound_in rules path ns left ws k ≡ is_placed rules path ns left ws k
node-law rules path ns left ws k =
    let w = is_node_well k ns in
    let f = kid_fits rules path k in
    let p = cond (is_tag (node_label k).name) (is_shallow left k) (is_below_root path) in
    let e = list_all (keeps k) ws in
    bools (is_sound_in rules path ns left ws k) (w && f && p && e)
    (λ h. (let n = node-placed rules path ns left ws k h in and_from (w && f && p) e (and_from (w && f) p (and_from w f n.well n.fits) n.placed) n.kept))
    (λ h. (
    let three = and_parts (w && f && p) e h in
    let two = and_parts (w && f) p three.0 in
    let one = and_parts w f two.0 in
    placed-node rules path ns left ws k (record { well = one.0; fits = one.1; placed = two.1; kept = three.1 })))

-- ---- an archive

-- the root waits for nothing
none-kept : (ks : PlainNodes) → list_all (λ k. list_all (keeps k) []) (nodes_list ks) ≡ true
none-kept no_nodes = refl
none-kept (node k ks) = none-kept ks

pub archive-law : (rules : List PlainRule) (a : PlainArchive) → is_sound_archive rules a ≡ (is_archive a && is_archive_keyed rules a)
archive-law rules a =
    let ns = range_with_len 1 a.n in
    let r = rise (labels a.kids) in
    let e = are_elements a.kids in
    let w = are_nodes_well a.kids ns in
    let p = are_parts ns (node_sets ns a.kids) in
    let d = are_shallow GREATEST_DEPTH a.kids in
    let f = nodes_fit rules [] a.kids in
    let all = are_sound_in rules [] ns GREATEST_DEPTH [] a.kids in
    bools (r && all && p) ((r && e && w && p) && (d && f))
    (λ h. (
    let two = and_parts (r && all) p h in
    let one = and_parts r all two.0 in
    let n = nodes-placed rules [] ns GREATEST_DEPTH [] a.kids one.1 in
    let deep = and_parts d e (sym (row-placed [] GREATEST_DEPTH a.kids) ∙ n.placed) in
    and_from (r && e && w && p) (d && f) (and_from (r && e && w) p (and_from (r && e) w (and_from r e one.0 deep.1) n.well) two.1) (and_from d f deep.0 n.fit)))
    (λ h. (
    let both = and_parts (r && e && w && p) (d && f) h in
    let three = and_parts (r && e && w) p both.0 in
    let two = and_parts (r && e) w three.0 in
    let one = and_parts r e two.0 in
    let keyed = and_parts d f both.1 in
    and_from (r && all) p (and_from r all one.0 (placed-nodes rules [] ns GREATEST_DEPTH [] a.kids
    (record { well = two.1; fit = keyed.1; placed = row-placed [] GREATEST_DEPTH a.kids ∙ and_from d e keyed.0 one.1; kept = none-kept a.kids }))) three.1))
