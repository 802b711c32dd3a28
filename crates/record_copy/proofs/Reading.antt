-- What reading a record goes along.
use Rattle.std.proofs.Common.{◌≡◌, ◌≢◌, ℕ, ◌+◌, ◌≤◌, ◌<◌, List, ◌∷◌, Some, None, Ok, Err, refl, sym, ap, subst, ◌∙◌, arith}
use Rattle.std.specs.Option.{option_map}
use Rattle.keyed_tree.specs.Data.{PlainKey, PlainLabel}
use Rattle.archive_tree.specs.Data.{Stamp, PlainAlt}
use Rattle.record_parts.specs.Shapes.{FitsLabel, FitsValue}
use Rattle.record_parts.specs.declared.views.BodyView.{BodyView}
use Rattle.record_parts.specs.declared.views.LabelView.{LabelView}
use Rattle.record_parts.specs.declared.views.StampView.{StampView}
use Rattle.record_cursor.specs.Faults as cursor
use Rattle.record_cursor.specs.Items.{PlainItem, alt_item, leaf_end_item, end_item, finish}
use Rattle.record_cursor.specs.Next.{size_of}
use Rattle.record_cursor.specs.View.{shown_item}
use Rattle.record_cursor.specs.declared.fault.CursorFault.{CursorFault}
use Rattle.record_cursor.specs.declared.fault.CursorFault.TheVariants as read
use Rattle.record_cursor.specs.declared.item.Item.{Item}
use Rattle.record_cursor.specs.declared.item.Item.TheVariants as the_item
use Rattle.record_copy.specs.Faults.{IfLong, of_cursor}
use Rattle.record_copy.specs.Parts.{PlainHead, alternative_view, head_view, opening, opening_of}
use Rattle.record_copy.specs.Raised.{raised_stamp}
use Rattle.record_copy.specs.Reads.{Shows, IsShortHead, IsShortAlternative, HeadRead, AlternativeRead, FinishRead}
use Rattle.record_copy.specs.Seen.{Coming, seen}
use Rattle.record_copy.specs.Short.{IsRaisedOf}
use Rattle.record_copy.specs.State.{State}
use Rattle.record_copy.specs.declared.kind.Kind.{Kind}
use Rattle.record_copy.specs.declared.kind.Kind.TheVariants.{Inner, Leaf}
use Rattle.record_copy.specs.declared.fault.CopyFault.TheVariants.{Damage, Memory}
use Rattle.record_copy.specs.declared.parts.Alternative.{Alternative}
use Rattle.record_copy.specs.declared.parts.Head.{Head}
use Rattle.record_copy.proofs.FewBytes.{opening-long, alternative-long, opening-parts, alternative-parts, raised-few}
use Rattle.record_copy.proofs.Passing.{Nexts, Stays, gave, gave-stop, failed, arrived, undamaged}

-- ---- items that are no others

not-opening : (n : ℕ) (item : Item) → ((l : LabelView) (s : StampView) → item ≢ the_item.Inner l s) → ((l : LabelView) (s : StampView) → item ≢ the_item.Leaf l s) → (kind : Kind) (l : PlainLabel) (s : Stamp) → seen n (shown_item item) ≢ opening_of kind l s
not-opening n (the_item.Inner m z) inner leaf kind l s = absurd (inner m z refl)
not-opening n (the_item.Leaf m z) inner leaf kind l s = absurd (leaf m z refl)
not-opening n (the_item.Alt z b) inner leaf Inner l s = λ e. absurd cc
not-opening n (the_item.Alt z b) inner leaf Leaf l s = λ e. absurd cc
not-opening n the_item.LeafEnd inner leaf Inner l s = λ e. absurd cc
not-opening n the_item.LeafEnd inner leaf Leaf l s = λ e. absurd cc
not-opening n (the_item.End m) inner leaf Inner l s = λ e. absurd cc
not-opening n (the_item.End m) inner leaf Leaf l s = λ e. absurd cc
not-opening n the_item.Finish inner leaf Inner l s = λ e. absurd cc
not-opening n the_item.Finish inner leaf Leaf l s = λ e. absurd cc

not-end : (n : ℕ) (item : Item) → ((m : ℕ) → item ≢ the_item.End m) → seen n (shown_item item) ≢ end_item 0
not-end n (the_item.Inner l s) h = λ e. absurd cc
not-end n (the_item.Leaf l s) h = λ e. absurd cc
not-end n (the_item.Alt s b) h = λ e. absurd cc
not-end n the_item.LeafEnd h = λ e. absurd cc
not-end n (the_item.End m) h = absurd (h m refl)
not-end n the_item.Finish h = λ e. absurd cc

not-alternative : (n : ℕ) (item : Item) → ((s : StampView) (b : BodyView) → item ≢ the_item.Alt s b) → (s : Stamp) (b : PlainKey) → seen n (shown_item item) ≢ alt_item s b
not-alternative n (the_item.Inner l z) h s b = λ e. absurd cc
not-alternative n (the_item.Leaf l z) h s b = λ e. absurd cc
not-alternative n (the_item.Alt z d) h s b = absurd (h z d refl)
not-alternative n the_item.LeafEnd h s b = λ e. absurd cc
not-alternative n (the_item.End m) h s b = λ e. absurd cc
not-alternative n the_item.Finish h s b = λ e. absurd cc

not-leaf_end : (n : ℕ) (item : Item) → item ≢ the_item.LeafEnd → seen n (shown_item item) ≢ leaf_end_item
not-leaf_end n (the_item.Inner l s) h = λ e. absurd cc
not-leaf_end n (the_item.Leaf l s) h = λ e. absurd cc
not-leaf_end n (the_item.Alt s b) h = λ e. absurd cc
not-leaf_end n the_item.LeafEnd h = absurd (h refl)
not-leaf_end n (the_item.End m) h = λ e. absurd cc
not-leaf_end n the_item.Finish h = λ e. absurd cc

end-opening : (kind : Kind) (l : PlainLabel) (s : Stamp) (m : ℕ) → opening_of kind l s ≢ end_item m
end-opening Inner l s m = λ e. absurd cc
end-opening Leaf l s m = λ e. absurd cc

pub opening-seen : (n : ℕ) (kind : Kind) (l : PlainLabel) (s : Stamp) → seen n (opening_of kind l s) ≡ opening_of kind l (raised_stamp n s)
opening-seen n Inner l s = refl
opening-seen n Leaf l s = refl

openings : (k m : Kind) (l p : PlainLabel) (s z : Stamp) → opening_of k l s ≡ opening_of m p z → ◌≡◌ {A = PlainHead} (record { kind = k; label = l; stamp = s }) (record { kind = m; label = p; stamp = z })
openings Inner Inner l p s z e = (let labels : l ≡ p = cc in let stamps : s ≡ z = cc in λ i. record { kind = Inner; label = labels i; stamp = stamps i })
openings Leaf Leaf l p s z e = (let labels : l ≡ p = cc in let stamps : s ≡ z = cc in λ i. record { kind = Leaf; label = labels i; stamp = stamps i })
openings Inner Leaf l p s z e = absurd cc
openings Leaf Inner l p s z e = absurd cc

-- ---- faults

shows-fault : {T U : Type 0} (n : ℕ) (view : T → U) (u : U) (next : List PlainItem) (t : State) (e : CursorFault) → cursor.IfDamage e ⊥ → Shows n view u next t (Err (of_cursor e))
shows-fault n view u next t read.Damage h = h
shows-fault n view u next t read.Folder h = tt
shows-fault n view u next t read.Memory h = tt

pub not-long-cursor : (e : CursorFault) → IfLong (Some (of_cursor e)) ⊥
not-long-cursor read.Damage = tt
not-long-cursor read.Folder = tt
not-long-cursor read.Memory = tt

-- ---- the cursor moves on

moves : (s t : State) (item : Item) → Nexts s t item → 9 ≤ size_of s.cursor.standing (shown_item item) → s.cursor.at < t.cursor.at
moves s t item read long = (let goes = read.goes in let moved = goes.moved in omega (arith, moved, long))

pub within-file : (s t : State) (item : Item) (b : ℕ) → Nexts s t item → s.cursor.length + 12 ≤ b → size_of s.cursor.standing (shown_item item) ≤ b
within-file s t item b read file =
    let goes = read.goes in
    let moved = goes.moved in
    let within = goes.within in
    let long = goes.same_length in
    omega (arith, moved, within, long, file)

-- ---- nodes

-- an item that opens a node was given
pub record Opener (kind : Kind) (s t : State) : Type 0 where
  pub item : Item
  pub label : PlainLabel
  pub stamp : Stamp
  pub shown : shown_item item ≡ opening_of kind label stamp
  pub read : Nexts s t item

module _ (n : ℕ) (s t : State) where
  pub head-failed : (e : CursorFault) → s.cursor.at ≤ s.cursor.length → Stays s t e → HeadRead n s t (Err (of_cursor e))
  head-failed e within stays = record {
    passes = failed s t e within stays;
    not_long = not-long-cursor e;
    onward = tt;
    short = λ b file. tt;
    node = λ h next coming. shows-fault n (option_map head_view) (Some h) next t e (undamaged n (opening h) next s t e stays coming);
    ended = λ next coming. shows-fault n (option_map head_view) None next t e (undamaged n (end_item 0) next s t e stays coming);
  }

  pub head-ended : (item : Item) (m : ℕ) → shown_item item ≡ end_item m → Nexts s t item → HeadRead n s t (Ok None)
  head-ended item m shown read = record {
    passes = gave s t item read;
    not_long = tt;
    onward = moves s t item read (let e = ap (size_of s.cursor.standing) shown in omega (arith, e));
    short = λ b file. tt;
    node = λ h next coming. absurd (end-opening h.kind h.label h.stamp 0 (sym (arrived n (opening h) next s t item read coming).0 ∙ ap (seen n) shown));
    ended = λ next coming. (refl, (arrived n (end_item 0) next s t item read coming).1);
  }

  pub head-damage : (item : Item) → ((l : LabelView) (z : StampView) → item ≢ the_item.Inner l z) → ((l : LabelView) (z : StampView) → item ≢ the_item.Leaf l z) → ((m : ℕ) → item ≢ the_item.End m) → Nexts s t item → HeadRead n s t (Err Damage)
  head-damage item inner leaf end read = record {
    passes = gave-stop s t item Damage (λ e. absurd cc) read;
    not_long = tt;
    onward = tt;
    short = λ b file. tt;
    node = λ h next coming. not-opening n item inner leaf h.kind h.label h.stamp (arrived n (opening h) next s t item read coming).0;
    ended = λ next coming. not-end n item end (arrived n (end_item 0) next s t item read coming).0;
  }

  module _ (kind : Kind) (o : Opener kind s t) where
    head-came : (h : PlainHead) (next : List PlainItem) → Coming n s.files s.cursor (opening h ∷ next) → ◌≡◌ {A = PlainHead} (record { kind = kind; label = o.label; stamp = raised_stamp n o.stamp }) h × Coming n t.files t.cursor next
    head-came h next coming =
        let came = arrived n (opening h) next s t o.item o.read coming in
        (openings kind h.kind o.label h.label (raised_stamp n o.stamp) h.stamp (sym (opening-seen n kind o.label o.stamp) ∙ ap (seen n) (sym o.shown) ∙ came.0), came.1)

    no-end : (next : List PlainItem) → ¬ (Coming n s.files s.cursor (end_item 0 ∷ next))
    no-end next coming = end-opening kind o.label (raised_stamp n o.stamp) 0 (sym (opening-seen n kind o.label o.stamp) ∙ ap (seen n) (sym o.shown) ∙ (arrived n (end_item 0) next s t o.item o.read coming).0)

    -- it was given, but memory fails
    pub head-memory : HeadRead n s t (Err Memory)
    head-memory = record {
      passes = gave-stop s t o.item Memory (λ e. absurd cc) o.read;
      not_long = tt;
      onward = tt;
      short = λ b file. tt;
      node = λ h next coming. tt;
      ended = λ next coming. tt;
    }

    pub head-read : (head : Head) → head_view head ≡ record { kind = kind; label = o.label; stamp = raised_stamp n o.stamp } → FitsLabel o.label → HeadRead n s t (Ok (Some head))
    head-read head is fits = record {
      passes = gave s t o.item o.read;
      not_long = tt;
      onward = moves s t o.item o.read (subst (λ (i : PlainItem). 9 ≤ size_of s.cursor.standing i) (sym o.shown) (opening-long kind s.cursor.standing o.label o.stamp));
      short = λ b file. (
          let parts = opening-parts b kind s.cursor.standing o.label o.stamp (subst (λ (i : PlainItem). size_of s.cursor.standing i ≤ b) o.shown (within-file s t o.item b o.read file)) in
          subst (λ (h : PlainHead). IsShortHead (IsRaisedOf b n) b h) (sym is) (record { label = (fits, parts.0); stamp = raised-few b n o.stamp parts.1 }));
      node = λ h next coming. (let came = head-came h next coming in (ap Some (is ∙ came.0), came.1));
      ended = λ next coming. absurd (no-end next coming);
    }

-- ---- alternatives

-- an item that is one was given
pub record Alternate (s t : State) : Type 0 where
  pub item : Item
  pub stamp : Stamp
  pub body : PlainKey
  pub shown : shown_item item ≡ alt_item stamp body
  pub read : Nexts s t item

alternatives : (s z : Stamp) (b d : PlainKey) → alt_item s b ≡ alt_item z d → ◌≡◌ {A = PlainAlt} (record { stamp = s; body = b }) (record { stamp = z; body = d })
alternatives s z b d e = (let stamps : s ≡ z = cc in let bodies : b ≡ d = cc in λ i. record { stamp = stamps i; body = bodies i })

module _ (n : ℕ) (s t : State) where
  pub alternative-failed : (e : CursorFault) → s.cursor.at ≤ s.cursor.length → Stays s t e → AlternativeRead n s t (Err (of_cursor e))
  alternative-failed e within stays = record {
    passes = failed s t e within stays;
    not_long = not-long-cursor e;
    onward = tt;
    short = λ b file. tt;
    one = λ a next coming. shows-fault n (option_map alternative_view) (Some a) next t e (undamaged n (alt_item a.stamp a.body) next s t e stays coming);
    ended = λ next coming. shows-fault n (option_map alternative_view) None next t e (undamaged n leaf_end_item next s t e stays coming);
  }

  pub alternative-ended : (item : Item) → shown_item item ≡ leaf_end_item → Nexts s t item → AlternativeRead n s t (Ok None)
  alternative-ended item shown read = record {
    passes = gave s t item read;
    not_long = tt;
    onward = moves s t item read (let e = ap (size_of s.cursor.standing) shown in omega (arith, e));
    short = λ b file. tt;
    one = λ a next coming. absurd (no-alternative a next (sym (ap (seen n) shown) ∙ (arrived n (alt_item a.stamp a.body) next s t item read coming).0));
    ended = λ next coming. (refl, (arrived n leaf_end_item next s t item read coming).1);
  }
    where
      no-alternative : (a : PlainAlt) (next : List PlainItem) → leaf_end_item ≢ alt_item a.stamp a.body
      no-alternative a next = λ e. absurd cc

  pub alternative-damage : (item : Item) → ((z : StampView) (b : BodyView) → item ≢ the_item.Alt z b) → item ≢ the_item.LeafEnd → Nexts s t item → AlternativeRead n s t (Err Damage)
  alternative-damage item alternative end read = record {
    passes = gave-stop s t item Damage (λ e. absurd cc) read;
    not_long = tt;
    onward = tt;
    short = λ b file. tt;
    one = λ a next coming. not-alternative n item alternative a.stamp a.body (arrived n (alt_item a.stamp a.body) next s t item read coming).0;
    ended = λ next coming. not-leaf_end n item end (arrived n leaf_end_item next s t item read coming).0;
  }

  module _ (o : Alternate s t) where
    alternative-came : (a : PlainAlt) (next : List PlainItem) → Coming n s.files s.cursor (alt_item a.stamp a.body ∷ next) → ◌≡◌ {A = PlainAlt} (record { stamp = raised_stamp n o.stamp; body = o.body }) a × Coming n t.files t.cursor next
    alternative-came a next coming =
        let came = arrived n (alt_item a.stamp a.body) next s t o.item o.read coming in
        (alternatives (raised_stamp n o.stamp) a.stamp o.body a.body (ap (seen n) (sym o.shown) ∙ came.0), came.1)

    no-leaf_end : (next : List PlainItem) → ¬ (Coming n s.files s.cursor (leaf_end_item ∷ next))
    no-leaf_end next coming = (let e : alt_item (raised_stamp n o.stamp) o.body ≡ leaf_end_item = ap (seen n) (sym o.shown) ∙ (arrived n leaf_end_item next s t o.item o.read coming).0 in absurd cc)

    pub alternative-memory : AlternativeRead n s t (Err Memory)
    alternative-memory = record {
      passes = gave-stop s t o.item Memory (λ e. absurd cc) o.read;
      not_long = tt;
      onward = tt;
      short = λ b file. tt;
      one = λ a next coming. tt;
      ended = λ next coming. tt;
    }

    pub alternative-read : (alternative : Alternative) → alternative_view alternative ≡ record { stamp = raised_stamp n o.stamp; body = o.body } → FitsValue o.body → AlternativeRead n s t (Ok (Some alternative))
    alternative-read alternative is fits = record {
      passes = gave s t o.item o.read;
      not_long = tt;
      onward = moves s t o.item o.read (subst (λ (i : PlainItem). 9 ≤ size_of s.cursor.standing i) (sym o.shown) (alternative-long o.stamp o.body));
      short = λ b file. (
          let parts = alternative-parts b o.stamp o.body (subst (λ (i : PlainItem). size_of s.cursor.standing i ≤ b) o.shown (within-file s t o.item b o.read file)) in
          subst (λ (a : PlainAlt). IsShortAlternative (IsRaisedOf b n) b a) (sym is) (record { body = (fits, parts.1); stamp = raised-few b n o.stamp parts.0 }));
      one = λ a next coming. (let came = alternative-came a next coming in (ap Some (is ∙ came.0), came.1));
      ended = λ next coming. absurd (no-leaf_end next coming);
    }

-- ---- the end of the file

not-finish : (n : ℕ) (item : Item) → item ≢ the_item.Finish → seen n (shown_item item) ≢ finish
not-finish n (the_item.Inner l s) h = λ e. absurd cc
not-finish n (the_item.Leaf l s) h = λ e. absurd cc
not-finish n (the_item.Alt s b) h = λ e. absurd cc
not-finish n the_item.LeafEnd h = λ e. absurd cc
not-finish n (the_item.End m) h = λ e. absurd cc
not-finish n the_item.Finish h = absurd (h refl)

module _ (n : ℕ) (s t : State) where
  pub finish-failed : (e : CursorFault) → s.cursor.at ≤ s.cursor.length → Stays s t e → FinishRead n s t (Err (of_cursor e))
  finish-failed e within stays = record {
    passes = failed s t e within stays;
    not_long = not-long-cursor e;
    ended = λ next coming. shows-fault n (λ (x : Unit {0}). x) tt next t e (undamaged n finish next s t e stays coming);
  }

  pub finish-read : (item : Item) → shown_item item ≡ finish → Nexts s t item → FinishRead n s t (Ok tt)
  finish-read item shown read = record {
    passes = gave s t item read;
    not_long = tt;
    ended = λ next coming. (refl, (arrived n finish next s t item read coming).1);
  }

  pub finish-damage : (item : Item) → item ≢ the_item.Finish → Nexts s t item → FinishRead n s t (Err Damage)
  finish-damage item not read = record {
    passes = gave-stop s t item Damage (λ e. absurd cc) read;
    not_long = tt;
    ended = λ next coming. not-finish n item not (arrived n finish next s t item read coming).0;
  }
