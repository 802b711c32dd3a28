-- What was read of what comes next in a row.
use Rattle.std.proofs.Common.{◌≡◌, ◌≢◌, ℕ, Option, None, Result, Ok, Err, refl, sym, subst}
use Rattle.std.specs.Result.{IfErr, IfOk}
use Rattle.keyed_tree.specs.Data.{PlainLabel}
use Rattle.record_cursor.specs.Faults.{IfDamage, IfFolder}
use Rattle.record_cursor.specs.Items.{PlainItem, inner_item, leaf_item, alt_item, leaf_end_item, end_item, finish}
use Rattle.record_cursor.specs.Next.{next_of}
use Rattle.record_cursor.specs.Places.{among_nodes}
use Rattle.record_cursor.specs.View.{shown_item}
use Rattle.record_cursor.specs.declared.fault.CursorFault.{CursorFault}
use Rattle.record_cursor.specs.declared.item.Item.{Item}
use Rattle.record_cursor.specs.declared.item.Item.TheVariants as the_item
use Rattle.record_parts.specs.declared.views.LabelView.{LabelView}
use Rattle.record_parts.specs.declared.views.StampView.{StampView}
use Rattle.node_walk.specs.Next.{next_view, HasLabel, HasStamp, IsBesides}
use Rattle.node_walk.specs.Places.{depth_of, IsAmongNodes}
use Rattle.node_walk.specs.Seen.{Seen, at_hand}
use Rattle.node_walk.specs.Walked.{Given, NextRead}
use Rattle.node_walk.specs.declared.next.Next.{Next}
use Rattle.node_walk.proofs.Leaves.{leads-nowhere}
use Rattle.node_walk.proofs.Steps.{Gave, Missed, gave-reads, gave-given, among-is, reads-stop, damage-map}

-- what else there is
pub besides : (i : Item) → ((l : LabelView) (a : StampView) → i ≢ the_item.Inner l a) → ((l : LabelView) (a : StampView) → i ≢ the_item.Leaf l a) → ((n : ℕ) → i ≢ the_item.End n) → IsBesides (shown_item i)
besides (the_item.Inner l a) inner leaf end = absurd (inner l a refl)
besides (the_item.Leaf l a) inner leaf end = absurd (leaf l a refl)
besides (the_item.Alt a b) inner leaf end = tt
besides the_item.LeafEnd inner leaf end = tt
besides (the_item.End n) inner leaf end = absurd (end n refl)
besides the_item.Finish inner leaf end = tt

-- such an item is not given in a row
not-besides : (s t : Seen) (i : PlainItem) → IsAmongNodes s.cursor.standing → Given s t i → IsBesides i → ⊥
not-besides s t (inner_item l a) among g h = h
not-besides s t (leaf_item l a) among g h = h
not-besides s t (alt_item a b) among g h = leads-nowhere s t (alt_item a b) (among_nodes (depth_of s.cursor.standing)) (among-is s.cursor.standing among) refl g
not-besides s t leaf_end_item among g h = leads-nowhere s t leaf_end_item (among_nodes (depth_of s.cursor.standing)) (among-is s.cursor.standing among) refl g
not-besides s t (end_item n) among g h = h
not-besides s t finish among g h = leads-nowhere s t finish (among_nodes (depth_of s.cursor.standing)) (among-is s.cursor.standing among) refl g

-- an item was given, and owned or not
pub next-read : (l : Option PlainLabel) (s t : Seen) (item : Item) → IsAmongNodes s.cursor.standing → Gave s t item → (r : Result Next CursorFault) → IfOk r (λ n. next_view l n ≡ shown_item item) → IfOk r (HasLabel l) → IfOk r HasStamp → IfErr r (λ e. IfFolder e ⊥)
    → IfErr r (λ e. IfDamage e (IsBesides (shown_item item))) → NextRead l s t r
next-read l s t item among g (Ok n) is labelled stamped inside damage = record {
  reads = gave-reads s t item g;
  given = subst (Given s t) (sym is) (gave-given s t item g);
  labelled = labelled;
  stamped = stamped;
  damage = λ bytes told. tt;
}
next-read l s t item among g (Err e) is labelled stamped inside damage = record {
  reads = reads-stop s t e inside (gave-reads s t item g);
  given = tt;
  labelled = tt;
  stamped = tt;
  damage = λ bytes told. damage-map e (IsBesides (shown_item item)) (next_of s.cursor.standing (at_hand s bytes) ≡ None) (λ besides. absurd (not-besides s t (shown_item item) among (gave-given s t item g) besides)) damage;
}

-- none was given
pub next-missed : (l : Option PlainLabel) (s t : Seen) (e : CursorFault) → Missed s t e → NextRead l s t (Err e)
next-missed l s t e m = record { reads = m.reads; given = tt; labelled = tt; stamped = tt; damage = m.damage }
