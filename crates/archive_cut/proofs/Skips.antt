-- What passing over nodes goes along.
use Rattle.std.proofs.Common.{◌≡◌, ◌≢◌, ℕ, ◌≤◌, ◌<◌, List, [], ◌∷◌, ◌++◌, Option, Some, None, Result, Ok, Err, Bool, true, false, true≢false, refl, sym, ap, subst, ◌∙◌, append_assoc, arith}
use Rattle.std.specs.Option.{option_map}
use Rattle.keyed_tree.specs.Data.{PlainKey, PlainLabel}
use Rattle.archive_tree.specs.Data.{Stamp, PlainAlt, PlainNode, inner_node, leaf_node, PlainNodes, no_nodes, node}
use Rattle.record_format.specs.Nodes.{set_in}
use Rattle.record_parts.specs.declared.views.LabelView.{LabelView}
use Rattle.record_parts.specs.declared.views.BodyView.{BodyView}
use Rattle.record_parts.specs.declared.views.StampView.{StampView}
use Rattle.record_cursor.specs.Items.{PlainItem, inner_item, leaf_item, alt_item, leaf_end_item, end_item}
use Rattle.record_cursor.specs.Moves.{Comes}
use Rattle.record_cursor.specs.Next.{size_of}
use Rattle.record_cursor.specs.View.{shown_item}
use Rattle.record_cursor.specs.declared.fault.CursorFault.{CursorFault}
use Rattle.record_cursor.specs.declared.fault.CursorFault.TheVariants.{Damage, Folder, Memory}
use Rattle.record_cursor.specs.declared.item.Item.{Item}
use Rattle.record_cursor.specs.declared.item.Item.TheVariants.{Inner, Leaf, Alt, LeafEnd, End, Finish}
use Rattle.record_copy.specs.Faults.{of_cursor}
use Rattle.record_copy.specs.Passes.{Passes}
use Rattle.record_copy.specs.State.{State}
use Rattle.record_copy.specs.declared.fault.CopyFault.TheVariants as cut
use Rattle.record_copy.proofs.Passing.{passes-then, Nexts, Stays, gave, gave-stop, failed, given}
use Rattle.record_cursor.specs.NodeItems.{alt_items, node_items, row_items, end_of}
use Rattle.archive_cut.specs.Skipped.{Follows, RowSkipped, AltsSkipped, ChildSkipped}
use Rattle.record_copy.proofs.ItemKinds.{not-alt, first, not-first}

-- ---- items that are no others

pub not-leaf_end : (item : Item) → item ≢ LeafEnd → shown_item item ≢ leaf_end_item
not-leaf_end (Alt s b) h = λ e. absurd cc
not-leaf_end (Inner l s) h = λ e. absurd cc
not-leaf_end (Leaf l s) h = λ e. absurd cc
not-leaf_end LeafEnd h = absurd (h refl)
not-leaf_end (End n) h = λ e. absurd cc
not-leaf_end Finish h = λ e. absurd cc

pub not-inner : (item : Item) → ((l : LabelView) (s : StampView) → item ≢ Inner l s) → (l : PlainLabel) (st : Stamp) → shown_item item ≢ inner_item l st
not-inner (Alt s b) h l st = λ e. absurd cc
not-inner (Inner m s) h l st = absurd (h m s refl)
not-inner (Leaf m s) h l st = λ e. absurd cc
not-inner LeafEnd h l st = λ e. absurd cc
not-inner (End n) h l st = λ e. absurd cc
not-inner Finish h l st = λ e. absurd cc

pub not-leaf : (item : Item) → ((l : LabelView) (s : StampView) → item ≢ Leaf l s) → (l : PlainLabel) (st : Stamp) → shown_item item ≢ leaf_item l st
not-leaf (Alt s b) h l st = λ e. absurd cc
not-leaf (Inner m s) h l st = λ e. absurd cc
not-leaf (Leaf m s) h l st = absurd (h m s refl)
not-leaf LeafEnd h l st = λ e. absurd cc
not-leaf (End n) h l st = λ e. absurd cc
not-leaf Finish h l st = λ e. absurd cc

pub not-end : (item : Item) → ((n : ℕ) → item ≢ End n) → (m : ℕ) → shown_item item ≢ end_item m
not-end (Alt s b) h m = λ e. absurd cc
not-end (Inner l s) h m = λ e. absurd cc
not-end (Leaf l s) h m = λ e. absurd cc
not-end LeafEnd h m = λ e. absurd cc
not-end (End n) h m = absurd (h n refl)
not-end Finish h m = λ e. absurd cc

-- ---- the first of some items

pub follows-failed : (i : PlainItem) (is next : List PlainItem) (s t : State) (e : CursorFault) → Stays s t e → Comes s.files s.cursor (i ∷ is) → Follows next t (Some e)
follows-failed i is next s t Damage stays comes = stays.undamaged i is comes
follows-failed i is next s t Folder stays comes = tt
follows-failed i is next s t Memory stays comes = tt

-- ---- alternatives

-- of the alternatives that came, some come yet
pub record AltsYet (xs : List PlainAlt) (behind : List PlainItem) (t : State) : Type 0 where
  pub yet : List PlainAlt
  pub comes : Comes t.files t.cursor (alt_items yet ++ leaf_end_item ∷ behind)

pub record AltsOn (s t : State) : Type 0 where
  pub passes : Passes [] s t None
  pub come : (xs : List PlainAlt) (behind : List PlainItem) → Comes s.files s.cursor (alt_items xs ++ leaf_end_item ∷ behind) → AltsYet xs behind t

pub skip-start : (s : State) → Passes [] s s None → AltsOn s s
skip-start s h = record { passes = h; come = λ xs behind comes. record { yet = xs; comes = comes } }

alt-yet : (st : Stamp) (b : PlainKey) (xs ys : List PlainAlt) (behind : List PlainItem) (s t : State) (item : Item) → shown_item item ≡ alt_item st b → Nexts s t item → Comes s.files s.cursor (alt_items ys ++ leaf_end_item ∷ behind) → AltsYet xs behind t
alt-yet st b xs [] behind s t item shown read comes =
    let k = given leaf_end_item behind s t item read comes in
    let same : alt_item st b ≡ leaf_end_item = sym shown ∙ k.0 in
    absurd cc
alt-yet st b xs (y ∷ ys) behind s t item shown read comes =
    let k = given (alt_item y.stamp y.body) (alt_items ys ++ leaf_end_item ∷ behind) s t item read comes in
    record { yet = ys; comes = k.1 }

pub skip-on : (r s t : State) (item : Item) (st : Stamp) (b : PlainKey) → shown_item item ≡ alt_item st b → AltsOn r s → Nexts s t item → AltsOn r t
skip-on r s t item st b shown on read = record {
  passes = passes-then [] [] r s t None on.passes (gave s t item read);
  come = λ xs behind comes. (let yet = on.come xs behind comes in alt-yet st b xs yet.yet behind s t item shown read yet.comes);
}

ended : (ys : List PlainAlt) (behind : List PlainItem) (s t : State) (item : Item) → shown_item item ≡ leaf_end_item → Nexts s t item → Comes s.files s.cursor (alt_items ys ++ leaf_end_item ∷ behind) → Comes t.files t.cursor behind
ended [] behind s t item shown read comes = (given leaf_end_item behind s t item read comes).1
ended (y ∷ ys) behind s t item shown read comes =
    let k = given (alt_item y.stamp y.body) (alt_items ys ++ leaf_end_item ∷ behind) s t item read comes in
    let same : leaf_end_item ≡ alt_item y.stamp y.body = sym shown ∙ k.0 in
    absurd cc

pub skip-ended : (r s t : State) (item : Item) → shown_item item ≡ leaf_end_item → AltsOn r s → Nexts s t item → AltsSkipped r t None
skip-ended r s t item shown on read = record {
  passes = passes-then [] [] r s t None on.passes (gave s t item read);
  alternatives = λ xs behind comes. (let yet = on.come xs behind comes in ended yet.yet behind s t item shown read yet.comes);
}

alts-stop : (ys : List PlainAlt) (behind next : List PlainItem) (s t : State) (e : CursorFault) → Stays s t e → Comes s.files s.cursor (alt_items ys ++ leaf_end_item ∷ behind) → Follows next t (Some e)
alts-stop [] behind next s t e stays comes = follows-failed leaf_end_item behind next s t e stays comes
alts-stop (y ∷ ys) behind next s t e stays comes = follows-failed (alt_item y.stamp y.body) (alt_items ys ++ leaf_end_item ∷ behind) next s t e stays comes

pub skip-failed : (r s t : State) (e : CursorFault) → AltsOn r s → Stays s t e → AltsSkipped r t (Some e)
skip-failed r s t e on stays =
    let passes = on.passes in
    record {
      passes = passes-then [] [] r s t (Some (of_cursor e)) passes (failed s t e passes.within stays);
      alternatives = λ xs behind comes. (let yet = on.come xs behind comes in alts-stop yet.yet behind behind s t e stays yet.comes);
    }

pub no-alt : (ys : List PlainAlt) (behind : List PlainItem) (s t : State) (item : Item) → ((st : StampView) (b : BodyView) → item ≢ Alt st b) → item ≢ LeafEnd → Nexts s t item → ¬ (Comes s.files s.cursor (alt_items ys ++ leaf_end_item ∷ behind))
no-alt [] behind s t item alts end read comes = not-leaf_end item end (given leaf_end_item behind s t item read comes).0
no-alt (y ∷ ys) behind s t item alts end read comes = not-alt item alts y.stamp y.body (given (alt_item y.stamp y.body) (alt_items ys ++ leaf_end_item ∷ behind) s t item read comes).0

pub skip-damage : (r s t : State) (item : Item) → ((st : StampView) (b : BodyView) → item ≢ Alt st b) → item ≢ LeafEnd → AltsOn r s → Nexts s t item → AltsSkipped r t (Some Damage)
skip-damage r s t item alts end on read = record {
  passes = passes-then [] [] r s t (Some cut.Damage) on.passes (gave-stop s t item cut.Damage (λ e. absurd cc) read);
  alternatives = λ xs behind comes. (let yet = on.come xs behind comes in no-alt yet.yet behind s t item alts end read yet.comes);
}

-- ---- nodes

abbrev pub behind_first : List (ℕ × ℕ) → PlainNode → List PlainItem
behind_first q (inner_node l st ks) = row_items (set_in st q) ks ++ end_of (set_in st q) ks ∷ []
behind_first q (leaf_node l st xs) = alt_items xs ++ leaf_end_item ∷ []

pub opens : (q : List (ℕ × ℕ)) (k : PlainNode) (next : List PlainItem) → node_items q k ++ next ≡ first k ∷ (behind_first q k ++ next)
opens q (inner_node l st ks) next = refl
opens q (leaf_node l st xs) next = refl

pub node-given : (q : List (ℕ × ℕ)) (k : PlainNode) (next : List PlainItem) (s t : State) (item : Item) → Nexts s t item → Comes s.files s.cursor (node_items q k ++ next) → (shown_item item ≡ first k) × Comes t.files t.cursor (behind_first q k ++ next)
node-given q k next s t item read comes = given (first k) (behind_first q k ++ next) s t item read (subst (λ (is : List PlainItem). Comes s.files s.cursor is) (opens q k next) comes)

pub no-node : (item : Item) → ((l : LabelView) (s : StampView) → item ≢ Inner l s) → ((l : LabelView) (s : StampView) → item ≢ Leaf l s) → (k : PlainNode) → shown_item item ≢ first k
no-node item inner leaf (inner_node l st ks) = not-inner item inner l st
no-node item inner leaf (leaf_node l st xs) = not-leaf item leaf l st

-- the cursor is behind it
pub moves-on : (s t : State) (item : Item) → Nexts s t item → 9 ≤ size_of s.cursor.standing (shown_item item) → s.cursor.at < t.cursor.at
moves-on s t item read long = (let goes = read.goes in let moved = goes.moved in omega (arith, moved, long))

pub child-failed : (s t : State) (e : CursorFault) → s.cursor.at ≤ s.cursor.length → Stays s t e → ChildSkipped s t (Err e)
child-failed s t e within stays = record {
  passes = failed s t e within stays;
  onward = tt;
  node_skipped = λ q k next comes. (tt, follows-failed (first k) (behind_first q k ++ next) next s t e stays (subst (λ (is : List PlainItem). Comes s.files s.cursor is) (opens q k next) comes));
  end_taken = λ n next comes. (tt, follows-failed (end_item n) next next s t e stays comes);
}

pub child-ended : (s t : State) (item : Item) (m : ℕ) → shown_item item ≡ end_item m → Nexts s t item → ChildSkipped s t (Ok false)
child-ended s t item m shown read = record {
  passes = gave s t item read;
  onward = moves-on s t item read (let e = ap (size_of s.cursor.standing) shown in omega (arith, e));
  node_skipped = λ q k next comes. absurd (not-first k m (sym shown ∙ (node-given q k next s t item read comes).0));
  end_taken = λ n next comes. (refl, (given (end_item n) next s t item read comes).1);
}

pub child-damage : (s t : State) (item : Item) → ((l : LabelView) (st : StampView) → item ≢ Inner l st) → ((l : LabelView) (st : StampView) → item ≢ Leaf l st) → ((n : ℕ) → item ≢ End n) → Nexts s t item → ChildSkipped s t (Err Damage)
child-damage s t item inner leaf end read = record {
  passes = gave-stop s t item cut.Damage (λ e. absurd cc) read;
  onward = tt;
  node_skipped = λ q k next comes. absurd (no-node item inner leaf k (node-given q k next s t item read comes).0);
  end_taken = λ n next comes. absurd (not-end item end n (given (end_item n) next s t item read comes).0);
}

-- what is behind an opening was passed over
abbrev pub moreover : Option CursorFault → Result Bool CursorFault
moreover None = Ok true
moreover (Some e) = Err e

abbrev pub Behind : State → State → Option CursorFault → PlainItem → Type 0
Behind t u e shown = (q : List (ℕ × ℕ)) (k : PlainNode) (next : List PlainItem) → shown ≡ first k → Comes t.files t.cursor (behind_first q k ++ next) → Follows next u e

child-then : (s t u : State) (item : Item) (e : Option CursorFault) → ((n : ℕ) → shown_item item ≢ end_item n) → 9 ≤ size_of s.cursor.standing (shown_item item) → Nexts s t item → Passes [] t u (option_map of_cursor e) → Behind t u e (shown_item item) → ChildSkipped s u (moreover e)
child-then s t u item None not long read passes skipped = record {
  passes = passes-then [] [] s t u None (gave s t item read) passes;
  onward = (let here = moves-on s t item read long in let on = passes.onward in omega (arith, here, on));
  node_skipped = λ q k next comes. (let k' = node-given q k next s t item read comes in (refl, skipped q k next k'.0 k'.1));
  end_taken = λ n next comes. absurd (not n (given (end_item n) next s t item read comes).0);
}
child-then s t u item (Some f) not long read passes skipped = record {
  passes = passes-then [] [] s t u (Some (of_cursor f)) (gave s t item read) passes;
  onward = tt;
  node_skipped = λ q k next comes. (let k' = node-given q k next s t item read comes in (tt, skipped q k next k'.0 k'.1));
  end_taken = λ n next comes. absurd (not n (given (end_item n) next s t item read comes).0);
}

pub row-behind : (t u : State) (e : Option CursorFault) (l : PlainLabel) (st : Stamp) → RowSkipped t u e → Behind t u e (inner_item l st)
row-behind t u e l st h q (inner_node m z ks) next same comes = h.row (set_in z q) ks _ next (subst (λ (is : List PlainItem). Comes t.files t.cursor is) (append_assoc (row_items (set_in z q) ks) (end_of (set_in z q) ks ∷ []) next) comes)
row-behind t u e l st h q (leaf_node m z xs) next same comes = absurd cc

pub alts-behind : (t u : State) (e : Option CursorFault) (l : PlainLabel) (st : Stamp) → AltsSkipped t u e → Behind t u e (leaf_item l st)
alts-behind t u e l st h q (leaf_node m z xs) next same comes = h.alternatives xs next (subst (λ (is : List PlainItem). Comes t.files t.cursor is) (append_assoc (alt_items xs) (leaf_end_item ∷ []) next) comes)
alts-behind t u e l st h q (inner_node m z ks) next same comes = absurd cc

pub child-inner : (s t u : State) (item : Item) (e : Option CursorFault) (l : PlainLabel) (st : Stamp) → shown_item item ≡ inner_item l st → Nexts s t item → RowSkipped t u e → ChildSkipped s u (moreover e)
child-inner s t u item e l st shown read h =
    child-then s t u item e (λ n d. (let x : inner_item l st ≡ end_item n = sym shown ∙ d in absurd cc)) (let z = ap (size_of s.cursor.standing) shown in omega (arith, z)) read h.passes (subst (Behind t u e) (sym shown) (row-behind t u e l st h))

pub child-leaf : (s t u : State) (item : Item) (e : Option CursorFault) (l : PlainLabel) (st : Stamp) → shown_item item ≡ leaf_item l st → Nexts s t item → AltsSkipped t u e → ChildSkipped s u (moreover e)
child-leaf s t u item e l st shown read h =
    child-then s t u item e (λ n d. (let x : leaf_item l st ≡ end_item n = sym shown ∙ d in absurd cc)) (let z = ap (size_of s.cursor.standing) shown in omega (arith, z)) read h.passes (subst (Behind t u e) (sym shown) (alts-behind t u e l st h))

-- ---- a row

module _ (s t : State) where
  row-then : (u : State) (e : Option CursorFault) → ChildSkipped s t (Ok true) → RowSkipped t u e → RowSkipped s u e
  row-then u e h g = record { passes = passes-then [] [] s t u (option_map of_cursor e) h.passes g.passes; row = nodes }
    where
      nodes : (q : List (ℕ × ℕ)) (ks : PlainNodes) (n : ℕ) (next : List PlainItem) → Comes s.files s.cursor (row_items q ks ++ end_item n ∷ next) → Follows next u e
      nodes q no_nodes n next comes = absurd (true≢false (h.end_taken n next comes).0)
      nodes q (node k ks) n next comes =
          g.row q ks n next (h.node_skipped q k (row_items q ks ++ end_item n ∷ next) (subst (λ (is : List PlainItem). Comes s.files s.cursor is) (append_assoc (node_items q k) (row_items q ks) (end_item n ∷ next)) comes)).1

  pub row-done : ChildSkipped s t (Ok false) → RowSkipped s t None
  row-done h = record { passes = h.passes; row = none }
    where
      none : (q : List (ℕ × ℕ)) (ks : PlainNodes) (n : ℕ) (next : List PlainItem) → Comes s.files s.cursor (row_items q ks ++ end_item n ∷ next) → Comes t.files t.cursor next
      none q no_nodes n next comes = (h.end_taken n next comes).1
      none q (node k ks) n next comes =
          absurd (true≢false (sym (h.node_skipped q k (row_items q ks ++ end_item n ∷ next) (subst (λ (is : List PlainItem). Comes s.files s.cursor is) (append_assoc (node_items q k) (row_items q ks) (end_item n ∷ next)) comes)).0))

  pub row-fault : (f : CursorFault) → ChildSkipped s t (Err f) → RowSkipped s t (Some f)
  row-fault f h = record { passes = h.passes; row = stops }
    where
      still : (f : CursorFault) (a b : List PlainItem) → Follows a t (Some f) → Follows b t (Some f)
      still Damage a b g = g
      still Folder a b g = tt
      still Memory a b g = tt

      stops : (q : List (ℕ × ℕ)) (ks : PlainNodes) (n : ℕ) (next : List PlainItem) → Comes s.files s.cursor (row_items q ks ++ end_item n ∷ next) → Follows next t (Some f)
      stops q no_nodes n next comes = (h.end_taken n next comes).1
      stops q (node k ks) n next comes =
          still f (row_items q ks ++ end_item n ∷ next) next (h.node_skipped q k (row_items q ks ++ end_item n ∷ next) (subst (λ (is : List PlainItem). Comes s.files s.cursor is) (append_assoc (node_items q k) (row_items q ks) (end_item n ∷ next)) comes)).1

-- what is passed over from here on is passed over from the first node on
pub record RowOn (s t : State) : Type 0 where
  pub same_length : t.cursor.length ≡ s.cursor.length
  pub onward : s.cursor.at ≤ t.cursor.at
  pub within : t.cursor.at ≤ t.cursor.length
  pub rest : (u : State) (e : Option CursorFault) → RowSkipped t u e → RowSkipped s u e

pub row-start : (s : State) → s.cursor.at ≤ s.cursor.length → RowOn s s
row-start s within = record { same_length = refl; onward = omega arith; within = within; rest = λ u e h. h }

pub row-on : (s t u : State) → RowOn s t → ChildSkipped t u (Ok true) → RowOn s u
row-on s t u on h =
    let passes = h.passes in
    record {
      same_length = passes.same_length ∙ on.same_length;
      onward = (let a = on.onward in let b = passes.onward in omega (arith, a, b));
      within = passes.within;
      rest = λ v e g. on.rest v e (row-then t u v e h g);
    }
