-- How the nodes of a text are read line by line.
use Rattle.std.proofs.Common.{◌≡◌, ◌≢◌, ℕ, ◌-◌, ◌<◌, ◌≤◌, ◌&&◌, ltb, true, IsTrue, List, [], ◌∷◌, ◌++◌, length, map, take, drop, get_or, slice_get, Some, codes, refl, sym, ap, ◌∙◌, subst, arith, append_assoc, append-nil, length-append}
use Rattle.std.proofs.lemmas.List.{map-append}
use Rattle.std.specs.List.{AllByRecursion}
use Rattle.std.proofs.lemmas.Bool.{and_parts, and_from, eqb-false, ltb-true}
use Rattle.keyed_tree.specs.Data.{PlainKey}
use Rattle.keyed_tree.specs.View.{key_view}
use Rattle.keyed_tree.specs.declared.label.KeyVal.{KeyVal}
use Rattle.keyed_tree.specs.WellFormed.{is_key_well_formed, are_keys_well_formed}
use Rattle.archive_tree.specs.Data.{PlainAlt, PlainNode, inner_node, leaf_node, PlainNodes, no_nodes, node, nodes_from, nodes_list, node_label, node_stamp}
use Rattle.archive_tree.specs.View.{alt_view, node_view, nodes_view}
use Rattle.archive_tree.specs.declared.node.Alt.{Alt}
use Rattle.archive_tree.specs.declared.node.ANode.{ANode}
use Rattle.archive_tree.specs.WellFormed.{are_alts_well_formed, is_node_well_formed, are_nodes_well_formed}
use Rattle.record_parts.specs.Bounds.{IsStamp}
use Rattle.record_format.specs.Shapes.{IsShapedAlt}
use Rattle.record_format.specs.Nested.{is_nested, are_nested}
use Rattle.jsonml_lines.specs.Lines.{PlainLine}
use Rattle.archive_text.specs.Export.{text_cell, stamp_text, name_text, open_line, leaf_line, alt_line, end_line, node_lines, nodes_lines}
use Rattle.archive_text.specs.Names.{IsNamed}
use Rattle.archive_text.specs.Reading.{AreLines, IsReadable, AreReadable}
use Rattle.archive_text.proofs.Found.{Tells, read}
use Rattle.archive_text.proofs.OneNode.{head, ended}

-- ---- alternatives

-- what is left of the alternatives
pub record AltsLeft (xs : List PlainAlt) (rest : List PlainLine) (done : List PlainAlt) (now : List ℕ) : Type 0 where
  pub left : List PlainAlt
  pub split : xs ≡ done ++ left
  pub shaped : AllByRecursion IsShapedAlt left
  pub lies : AreLines (map alt_line left ++ end_line ∷ rest) now

pub alts_start : (xs : List PlainAlt) (rest : List PlainLine) (now : List ℕ) → AllByRecursion IsShapedAlt xs → AreLines (map alt_line xs ++ end_line ∷ rest) now → AltsLeft xs rest [] now
alts_start xs rest now g h = record { left = xs; split = refl; shaped = g; lies = h }

alts_end_at : (xs : List PlainAlt) (rest : List PlainLine) (done left : List PlainAlt) (line : PlainLine) (more : List PlainLine) (after : List ℕ) → xs ≡ done ++ left → map alt_line left ++ end_line ∷ rest ≡ line ∷ more → AreLines more after → line.word ≢ codes "alt"
    → (done ≡ xs) × AreLines rest after
alts_end_at xs rest done [] line more after split is lies other = (sym (split ∙ append-nil done), subst (λ (ls : List PlainLine). AreLines ls after) (sym (head end_line line rest more is).1) lies)
alts_end_at xs rest done (a ∷ left) line more after split is lies other = absurd (other (ap (λ (x : PlainLine). x.word) (sym (head (alt_line a) line (map alt_line left ++ end_line ∷ rest) more is).0)))

pub alts_end : (xs : List PlainAlt) (rest : List PlainLine) (done : List PlainAlt) (now : List ℕ) (line : PlainLine) (after : List ℕ) → AltsLeft xs rest done now → Tells now line after → line.word ≢ codes "alt" → (done ≡ xs) × AreLines rest after
alts_end xs rest done now line after h tells other =
    let r = read (map alt_line h.left) end_line rest now line after h.lies tells in alts_end_at xs rest done h.left line r.others after h.split r.is r.lines other

-- the next alternative
pub record AltNext (xs : List PlainAlt) (rest : List PlainLine) (done : List PlainAlt) (line : PlainLine) (after : List ℕ) : Type 0 where
  pub alt : PlainAlt
  pub shaped : IsShapedAlt alt
  pub cells : line.cells ≡ text_cell (stamp_text alt.stamp) ∷ alt.body ∷ []
  pub on : AltsLeft xs rest (done ++ alt ∷ []) after

alts_next_at : (xs : List PlainAlt) (rest : List PlainLine) (done left : List PlainAlt) (line : PlainLine) (more : List PlainLine) (after : List ℕ) → xs ≡ done ++ left → AllByRecursion IsShapedAlt left → map alt_line left ++ end_line ∷ rest ≡ line ∷ more → AreLines more after
    → line.word ≡ codes "alt" → AltNext xs rest done line after
alts_next_at xs rest done [] line more after split shaped is lies own =
    absurd (eqb-false 101 97 refl (ap (λ w. get_or w 0 0) (ap (λ (x : PlainLine). x.word) (head end_line line rest more is).0 ∙ own)))
alts_next_at xs rest done (a ∷ left) line more after split shaped is lies own =
    let parts = head (alt_line a) line (map alt_line left ++ end_line ∷ rest) more is in
    record {
      alt = a;
      shaped = shaped.0;
      cells = ap (λ (x : PlainLine). x.cells) (sym parts.0);
      on = record {
        left = left;
        split = split ∙ sym (append_assoc done (a ∷ []) left);
        shaped = shaped.1;
        lies = subst (λ (ls : List PlainLine). AreLines ls after) (sym parts.1) lies;
      };
    }

pub alts_next : (xs : List PlainAlt) (rest : List PlainLine) (done : List PlainAlt) (now : List ℕ) (line : PlainLine) (after : List ℕ) → AltsLeft xs rest done now → Tells now line after → line.word ≡ codes "alt" → AltNext xs rest done line after
alts_next xs rest done now line after h tells own =
    let r = read (map alt_line h.left) end_line rest now line after h.lies tells in alts_next_at xs rest done h.left line r.others after h.split h.shaped r.is r.lines own

-- ---- the parts of a node

pub first_part : (depth : ℕ) (k : PlainNode) (ks : PlainNodes) → AreReadable depth (node k ks) → IsReadable depth k
first_part depth k ks h = record { shaped = h.shaped.0; named = h.named.0; nested = (and_parts (is_nested depth k) (are_nested depth ks) h.nested).0 }

other_parts : (depth : ℕ) (k : PlainNode) (ks : PlainNodes) → AreReadable depth (node k ks) → AreReadable depth ks
other_parts depth k ks h = record { shaped = h.shaped.1; named = h.named.1; nested = (and_parts (is_nested depth k) (are_nested depth ks) h.nested).1 }

-- what the first line of a node tells
pub record Named (k : PlainNode) (line : PlainLine) : Type 0 where
  pub named : IsNamed (node_label k).name
  pub stamp : IsStamp (node_stamp k)
  pub cells : line.cells ≡ text_cell (stamp_text (node_stamp k)) ∷ text_cell (name_text (node_label k).name) ∷ (node_label k).keys

pub node_begun_at : (depth : ℕ) (k : PlainNode) (line : PlainLine) (ls rest : List PlainLine) → IsReadable depth k → line ∷ ls ≡ node_lines k ++ rest → Named k line
node_begun_at depth (inner_node l s ks) line ls rest h is =
    record { named = h.named.0; stamp = h.shaped.1; cells = ap (λ (x : PlainLine). x.cells) (head line (open_line l s) ls ((nodes_lines ks ++ end_line ∷ []) ++ rest) is).0 }
node_begun_at depth (leaf_node l s xs) line ls rest h is =
    record { named = h.named; stamp = h.shaped.1; cells = ap (λ (x : PlainLine). x.cells) (head line (leaf_line l s) ls ((map alt_line xs ++ end_line ∷ []) ++ rest) is).0 }

pub record LeafAt (k : PlainNode) (ls rest : List PlainLine) : Type 0 where
  pub alts : List PlainAlt
  pub is : k ≡ leaf_node (node_label k) (node_stamp k) alts
  pub shaped : AllByRecursion IsShapedAlt alts
  pub lines : ls ≡ map alt_line alts ++ end_line ∷ rest

pub leaf_at : (depth : ℕ) (k : PlainNode) (line : PlainLine) (ls rest : List PlainLine) → IsReadable depth k → line ∷ ls ≡ node_lines k ++ rest → line.word ≡ codes "leaf" → LeafAt k ls rest
leaf_at depth (inner_node l s ks) line ls rest h is own =
    absurd (eqb-false 108 111 refl (ap (λ w. get_or w 0 0) (sym own ∙ ap (λ (x : PlainLine). x.word) (head line (open_line l s) ls ((nodes_lines ks ++ end_line ∷ []) ++ rest) is).0)))
leaf_at depth (leaf_node l s xs) line ls rest h is own =
    record { alts = xs; is = refl; shaped = h.shaped.2; lines = (head line (leaf_line l s) ls ((map alt_line xs ++ end_line ∷ []) ++ rest) is).1 ∙ ended (map alt_line xs) rest }

pub record InnerAt (depth : ℕ) (k : PlainNode) (ls rest : List PlainLine) : Type 0 where
  pub kids : PlainNodes
  pub is : k ≡ inner_node (node_label k) (node_stamp k) kids
  pub some : 0 < depth
  pub good : AreReadable (depth - 1) kids
  pub lines : ls ≡ nodes_lines kids ++ end_line ∷ rest

pub inner_at : (depth : ℕ) (k : PlainNode) (line : PlainLine) (ls rest : List PlainLine) → IsReadable depth k → line ∷ ls ≡ node_lines k ++ rest → line.word ≢ codes "leaf" → InnerAt depth k ls rest
inner_at depth (leaf_node l s xs) line ls rest h is other = absurd (other (ap (λ (x : PlainLine). x.word) (head line (leaf_line l s) ls ((map alt_line xs ++ end_line ∷ []) ++ rest) is).0))
inner_at depth (inner_node l s ks) line ls rest h is other =
    let nested = and_parts (ltb 0 depth) (are_nested (depth - 1) ks) h.nested in
    record {
      kids = ks;
      is = refl;
      some = ltb-true 0 depth nested.0;
      good = record { shaped = h.shaped.2; named = h.named.1; nested = nested.1 };
      lines = (head line (open_line l s) ls ((nodes_lines ks ++ end_line ∷ []) ++ rest) is).1 ∙ ended (nodes_lines ks) rest;
    }

-- ---- rows

pub listed : (ks : PlainNodes) → nodes_from (nodes_list ks) ≡ ks
listed no_nodes = refl
listed (node k ks) = ap (node k) (listed ks)

-- what is left of the nodes
pub record RowLeft (ks : PlainNodes) (rest : List PlainLine) (depth : ℕ) (done : List PlainNode) (now : List ℕ) : Type 0 where
  pub left : PlainNodes
  pub split : ks ≡ nodes_from (done ++ nodes_list left)
  pub good : AreReadable depth left
  pub lies : AreLines (nodes_lines left ++ end_line ∷ rest) now

pub row_start : (ks : PlainNodes) (rest : List PlainLine) (depth : ℕ) (now : List ℕ) → AreReadable depth ks → AreLines (nodes_lines ks ++ end_line ∷ rest) now → RowLeft ks rest depth [] now
row_start ks rest depth now g h = record { left = ks; split = sym (listed ks); good = g; lies = h }

first_word : (k : PlainNode) (line : PlainLine) (ls rest : List PlainLine) → line ∷ ls ≡ node_lines k ++ rest → line.word ≢ codes "end"
first_word (inner_node l s ks) line ls rest is own =
    eqb-false 101 111 refl (ap (λ w. get_or w 0 0) (sym own ∙ ap (λ (x : PlainLine). x.word) (head line (open_line l s) ls ((nodes_lines ks ++ end_line ∷ []) ++ rest) is).0))
first_word (leaf_node l s xs) line ls rest is own =
    eqb-false 101 108 refl (ap (λ w. get_or w 0 0) (sym own ∙ ap (λ (x : PlainLine). x.word) (head line (leaf_line l s) ls ((map alt_line xs ++ end_line ∷ []) ++ rest) is).0))

row_end_at : (ks : PlainNodes) (rest : List PlainLine) (done : List PlainNode) (left : PlainNodes) (line : PlainLine) (more : List PlainLine) (after : List ℕ) → ks ≡ nodes_from (done ++ nodes_list left) → nodes_lines left ++ end_line ∷ rest ≡ line ∷ more → AreLines more after
    → line.word ≡ codes "end" → (nodes_from done ≡ ks) × AreLines rest after
row_end_at ks rest done no_nodes line more after split is lies own =
    (sym (split ∙ ap nodes_from (append-nil done)), subst (λ (ls : List PlainLine). AreLines ls after) (sym (head end_line line rest more is).1) lies)
row_end_at ks rest done (node k js) line more after split is lies own =
    absurd (first_word k line more (nodes_lines js ++ end_line ∷ rest) (sym is ∙ append_assoc (node_lines k) (nodes_lines js) (end_line ∷ rest)) own)

pub row_end : (ks : PlainNodes) (rest : List PlainLine) (depth : ℕ) (done : List PlainNode) (now : List ℕ) (line : PlainLine) (after : List ℕ) → RowLeft ks rest depth done now → Tells now line after → line.word ≡ codes "end"
    → (nodes_from done ≡ ks) × AreLines rest after
row_end ks rest depth done now line after h tells own =
    let r = read (nodes_lines h.left) end_line rest now line after h.lies tells in row_end_at ks rest done h.left line r.others after h.split r.is r.lines own

-- the next node
pub record NodeNext (ks : PlainNodes) (rest : List PlainLine) (depth : ℕ) (done : List PlainNode) (line : PlainLine) (after : List ℕ) : Type 0 where
  pub first : PlainNode
  pub others : PlainNodes
  pub behind : List PlainLine
  pub good : IsReadable depth first
  pub is : line ∷ behind ≡ node_lines first ++ (nodes_lines others ++ end_line ∷ rest)
  pub lines : AreLines behind after
  pub left : AreReadable depth others
  pub split : ks ≡ nodes_from ((done ++ first ∷ []) ++ nodes_list others)

row_next_at : (ks : PlainNodes) (rest : List PlainLine) (depth : ℕ) (done : List PlainNode) (left : PlainNodes) (line : PlainLine) (more : List PlainLine) (after : List ℕ) → ks ≡ nodes_from (done ++ nodes_list left) → AreReadable depth left
    → nodes_lines left ++ end_line ∷ rest ≡ line ∷ more → AreLines more after → line.word ≢ codes "end" → NodeNext ks rest depth done line after
row_next_at ks rest depth done no_nodes line more after split good is lies other = absurd (other (ap (λ (x : PlainLine). x.word) (sym (head end_line line rest more is).0)))
row_next_at ks rest depth done (node k js) line more after split good is lies other =
    record {
      first = k;
      others = js;
      behind = more;
      good = first_part depth k js good;
      is = sym is ∙ append_assoc (node_lines k) (nodes_lines js) (end_line ∷ rest);
      lines = lies;
      left = other_parts depth k js good;
      split = split ∙ ap nodes_from (sym (append_assoc done (k ∷ []) (nodes_list js)));
    }

pub row_next : (ks : PlainNodes) (rest : List PlainLine) (depth : ℕ) (done : List PlainNode) (now : List ℕ) (line : PlainLine) (after : List ℕ) → RowLeft ks rest depth done now → Tells now line after → line.word ≢ codes "end" → NodeNext ks rest depth done line after
row_next ks rest depth done now line after h tells other =
    let r = read (nodes_lines h.left) end_line rest now line after h.lies tells in row_next_at ks rest depth done h.left line r.others after h.split h.good r.is r.lines other

-- and what is left behind it
pub row_on : (ks : PlainNodes) (rest : List PlainLine) (depth : ℕ) (done : List PlainNode) (line : PlainLine) (after : List ℕ) (n : NodeNext ks rest depth done line after) (k : PlainNode) (end : List ℕ) → k ≡ n.first → AreLines (nodes_lines n.others ++ end_line ∷ rest) end
    → RowLeft ks rest depth (done ++ k ∷ []) end
row_on ks rest depth done line after n k end e h =
    record { left = n.others; split = n.split ∙ ap (λ j. nodes_from ((done ++ j ∷ []) ++ nodes_list n.others)) (sym e); good = n.left; lies = h }

-- ---- what is well formed

pub keys_behind : (a b : PlainKey) (ks : List PlainKey) → IsTrue (are_keys_well_formed (a ∷ b ∷ ks)) → IsTrue (are_keys_well_formed ks)
keys_behind a b ks h = (and_parts (is_key_well_formed b) (are_keys_well_formed ks) (and_parts (is_key_well_formed a) (is_key_well_formed b && are_keys_well_formed ks) h).1).1

pub last_key_well : (front : List PlainKey) (k : PlainKey) → IsTrue (are_keys_well_formed (front ++ k ∷ [])) → IsTrue (is_key_well_formed k)
last_key_well [] k h = (and_parts (is_key_well_formed k) true h).0
last_key_well (j ∷ js) k h = last_key_well js k (and_parts (is_key_well_formed j) (are_keys_well_formed (js ++ k ∷ [])) h).1

pub alts_more : (xs : List PlainAlt) (x : PlainAlt) → IsTrue (are_alts_well_formed xs) → IsTrue (is_key_well_formed x.body) → IsTrue (are_alts_well_formed (xs ++ x ∷ []))
alts_more [] x h k = and_from (is_key_well_formed x.body) true k refl
alts_more (y ∷ ys) x h k = let both = and_parts (is_key_well_formed y.body) (are_alts_well_formed ys) h in and_from (is_key_well_formed y.body) (are_alts_well_formed (ys ++ x ∷ [])) both.0 (alts_more ys x both.1 k)

pub nodes_more : (ks : List PlainNode) (k : PlainNode) → IsTrue (are_nodes_well_formed (nodes_from ks)) → IsTrue (is_node_well_formed k) → IsTrue (are_nodes_well_formed (nodes_from (ks ++ k ∷ [])))
nodes_more [] k h g = and_from (is_node_well_formed k) true g refl
nodes_more (j ∷ js) k h g =
    let both = and_parts (is_node_well_formed j) (are_nodes_well_formed (nodes_from js)) h in and_from (is_node_well_formed j) (are_nodes_well_formed (nodes_from (js ++ k ∷ []))) both.0 (nodes_more js k both.1 g)

-- ---- the cells of a line in memory

-- the first two of the cells, and those behind them
pub first_two : (items : List KeyVal) (a b : PlainKey) (ks : List PlainKey) → map key_view items ≡ a ∷ b ∷ ks
    → (slice_get (map key_view (take 2 items)) 0 ≡ Some a) × (slice_get (map key_view (take 2 items)) 1 ≡ Some b) × (map key_view (drop 2 items) ≡ ks)
first_two [] a b ks e = absurd cc
first_two (x ∷ []) a b ks e = absurd (omega (arith, ap length e))
first_two (x ∷ y ∷ zs) a b ks e =
    let one : key_view x ≡ a = cc in
    let two : key_view y ≡ b = cc in
    let rest : map key_view zs ≡ ks = cc in
    (ap (λ k. Some k) one, ap (λ k. Some k) two, rest)

pub well_behind : (items : List KeyVal) → 2 ≤ length items → IsTrue (are_keys_well_formed (map key_view items)) → IsTrue (are_keys_well_formed (map key_view (drop 2 items)))
well_behind [] long h = absurd (omega arith)
well_behind (x ∷ []) long h = absurd (omega arith)
well_behind (x ∷ y ∷ zs) long h = keys_behind (key_view x) (key_view y) (map key_view zs) h

two_last : (xs : List PlainKey) (x a b : PlainKey) → xs ++ x ∷ [] ≡ a ∷ b ∷ [] → x ≡ b
two_last [] x a b e = absurd (omega (arith, ap length e))
two_last (y ∷ []) x a b e = cc
two_last (y ∷ z ∷ zs) x a b e = absurd (omega (arith, ap length e, length-append zs (x ∷ [])))

pub last_is : (items rest : List KeyVal) (r : KeyVal) (a b : PlainKey) → items ≡ rest ++ r ∷ [] → map key_view items ≡ a ∷ b ∷ [] → key_view r ≡ b
last_is items rest r a b e f = two_last (map key_view rest) (key_view r) a b (sym (map-append key_view rest (r ∷ [])) ∙ ap (map key_view) (sym e) ∙ f)

pub last_well : (items rest : List KeyVal) (r : KeyVal) → items ≡ rest ++ r ∷ [] → IsTrue (are_keys_well_formed (map key_view items)) → IsTrue (is_key_well_formed (key_view r))
last_well items rest r e h = last_key_well (map key_view rest) (key_view r) (subst (λ (ks : List PlainKey). IsTrue (are_keys_well_formed ks)) (ap (map key_view) e ∙ map-append key_view rest (r ∷ [])) h)

-- ---- what was pushed

pub alts_pushed : (xs : List PlainAlt) (rest : List PlainLine) (done new : List Alt) (a : Alt) (b : PlainAlt) (after : List ℕ) → AltsLeft xs rest (map alt_view done ++ b ∷ []) after → alt_view a ≡ b → new ≡ done ++ a ∷ [] → AltsLeft xs rest (map alt_view new) after
alts_pushed xs rest done new a b after h e f =
    subst (λ (d : List PlainAlt). AltsLeft xs rest d after) (sym (ap (map alt_view) f ∙ map-append alt_view done (a ∷ []) ∙ ap (λ x. map alt_view done ++ x ∷ []) e)) h

pub alts_well : (done new : List Alt) (a : Alt) → new ≡ done ++ a ∷ [] → IsTrue (are_alts_well_formed (map alt_view done)) → IsTrue (is_key_well_formed (key_view a.body)) → IsTrue (are_alts_well_formed (map alt_view new))
alts_well done new a e h k =
    subst (λ (xs : List PlainAlt). IsTrue (are_alts_well_formed xs)) (sym (ap (map alt_view) e ∙ map-append alt_view done (a ∷ []))) (alts_more (map alt_view done) (alt_view a) h k)

pub row_pushed : (ks : PlainNodes) (rest : List PlainLine) (depth : ℕ) (done new : List ANode) (k : ANode) (after : List ℕ) → RowLeft ks rest depth (map node_view done ++ node_view k ∷ []) after → new ≡ done ++ k ∷ [] → RowLeft ks rest depth (map node_view new) after
row_pushed ks rest depth done new k after h e = subst (λ (d : List PlainNode). RowLeft ks rest depth d after) (sym (ap (map node_view) e ∙ map-append node_view done (k ∷ []))) h

pub nodes_well : (done new : List ANode) (k : ANode) → new ≡ done ++ k ∷ [] → IsTrue (are_nodes_well_formed (nodes_view done)) → IsTrue (is_node_well_formed (node_view k)) → IsTrue (are_nodes_well_formed (nodes_view new))
nodes_well done new k e h g =
    subst (λ (ks : List PlainNode). IsTrue (are_nodes_well_formed (nodes_from ks))) (sym (ap (map node_view) e ∙ map-append node_view done (k ∷ []))) (nodes_more (map node_view done) (node_view k) h g)
