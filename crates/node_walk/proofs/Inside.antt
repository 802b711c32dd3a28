-- What is inside a node, behind the record that opens it.
use Rattle.std.proofs.Common.{◌≡◌, ℕ, Bool, true, false, cond, IsTrue, List, Some, None, Result, Ok, Err, refl, sym, subst, ◌∙◌, true≢false}
use Rattle.std.specs.Option.{unwrap_or}
use Rattle.std.proofs.lemmas.Bool.{and_parts}
use Rattle.keyed_tree.specs.Data.{PlainLabel}
use Rattle.archive_tree.specs.Data.{Stamp, PlainAlt, PlainNodes, inner_node, leaf_node}
use Rattle.archive_file.specs.Laid.{RowAt}
use Rattle.archive_file.proofs.PutLaws.{set_in-is}
use Rattle.record_parts.specs.Bounds.{IsSet, IsStamp}
use Rattle.record_cursor.specs.declared.fault.CursorFault.{CursorFault}
use Rattle.record_cursor.specs.declared.fault.CursorFault.TheVariants.{Damage, Memory}
use Rattle.node_judge.specs.Rows.{PlainFrame, PlainLeaf, may_open, row_below, leaf_of, inner_opened, leaf_opened, are_alts_of, is_next, goes_on}
use Rattle.row_ends.specs.Kids.{PlainKids}
use Rattle.node_walk.specs.Places.{left_of}
use Rattle.node_walk.specs.Seen.{Seen, at_hand, Reads}
use Rattle.node_walk.specs.Walked.{AlternativesJudged, LeafJudged, RowJudged, InnerJudged}
use Rattle.node_walk.proofs.Steps.{reads-stop}

-- the set of a row that was opened has an encoding
set-below : (a : Stamp) (set : List (ℕ × ℕ)) → IsStamp a → IsSet set → IsSet (unwrap_or a set)
set-below None set stamp is = is
set-below (Some t) set stamp is = stamp.0

-- what was opened, and whether it may be
opened-some : {X : Type 0} (b : Bool) (x y : X) → Some y ≡ cond b (Some x) None → (b ≡ true) × (y ≡ x)
opened-some true x y e = (refl, cc)
opened-some false x y e = absurd cc

opened-none : {X : Type 0} (b : Bool) (x : X) → None ≡ cond b (Some x) None → b ≡ false
opened-none true x e = absurd cc
opened-none false x e = refl

pub opened-set : (f g : PlainFrame) (l : PlainLabel) (a : Stamp) → Some g ≡ inner_opened f l a → IsStamp a → IsSet f.set → IsSet g.set
opened-set f g l a opened stamp is = (let two = opened-some (may_open f false l a) (row_below f l a) g opened in subst (λ (z : PlainFrame). IsSet z.set) (sym two.1) (set-below a f.set stamp is))

module _ (f : PlainFrame) (l : PlainLabel) (a : Stamp) (s t : Seen) where
  -- ---- a leaf

  leaf-right : (xs : List PlainAlt) → IsTrue (is_next f (leaf_node l a xs)) → IsTrue (may_open f true l a) × IsTrue (are_alts_of (leaf_of f l a) xs)
  leaf-right xs h = and_parts (may_open f true l a) (are_alts_of (leaf_of f l a) xs) h

  judged-leaf : IsTrue (may_open f true l a) → (r : Result (Unit {0}) CursorFault) → AlternativesJudged (leaf_of f l a) s t r → LeafJudged f l a s t r
  judged-leaf may (Ok x) j = record { reads = j.reads; opened = may; behind = j.behind; lies = j.lies; found = λ bytes told xs rest lies right. tt }
  judged-leaf may (Err e) j = record { reads = j.reads; opened = tt; behind = tt; lies = λ bytes told. tt; found = λ bytes told xs rest lies right. j.found bytes told xs rest lies (leaf-right xs right).1 }

  pub leaf-judged : (h : PlainLeaf) → Some h ≡ leaf_opened f l a → (r : Result (Unit {0}) CursorFault) → AlternativesJudged h s t r → LeafJudged f l a s t r
  leaf-judged h opened r j =
      let two = opened-some (may_open f true l a) (leaf_of f l a) h opened in
      judged-leaf two.0 r (subst (λ (z : PlainLeaf). AlternativesJudged z s t r) two.1 j)

  -- ---- an inner node

  inner-right : (ks : PlainNodes) → IsTrue (is_next f (inner_node l a ks)) → IsTrue (may_open f false l a) × IsTrue (goes_on (row_below f l a) ks)
  inner-right ks h = and_parts (may_open f false l a) (goes_on (row_below f l a) ks) h

  judged-inner : IsTrue (may_open f false l a) → (kids : PlainKids) (r : Result ℕ CursorFault) → RowJudged (row_below f l a) kids s t r → InnerJudged f l a s t r
  judged-inner may kids (Ok n) j = record { reads = j.reads; opened = may; behind = j.behind; lies = λ bytes told. (kids, j.lies bytes told); found = λ bytes told ks rest lies right. tt }
  judged-inner may kids (Err e) j = record {
    reads = j.reads;
    opened = tt;
    behind = tt;
    lies = λ bytes told. tt;
    found = λ bytes told ks rest lies right. j.found bytes told ks rest
        (subst (λ (set : List (ℕ × ℕ)). RowAt set ks rest (left_of s) (at_hand s bytes)) (sym (set_in-is a f.set)) lies) (inner-right ks right).1;
  }

  pub inner-judged : (g : PlainFrame) → Some g ≡ inner_opened f l a → (kids : PlainKids) (r : Result ℕ CursorFault) → RowJudged g kids s t r → InnerJudged f l a s t r
  inner-judged g opened kids r j =
      let two = opened-some (may_open f false l a) (row_below f l a) g opened in
      judged-inner two.0 kids r (subst (λ (z : PlainFrame). RowJudged z kids s t r) two.1 j)

module _ (f : PlainFrame) (l : PlainLabel) (a : Stamp) (s : Seen) (reads : Reads s s None) where
  -- it may not come next
  pub leaf-refused : None ≡ leaf_opened f l a → LeafJudged f l a s s (Err Damage)
  leaf-refused none = record {
    reads = reads-stop s s Damage tt reads;
    opened = tt;
    behind = tt;
    lies = λ bytes told. tt;
    found = λ bytes told xs rest lies right. true≢false (sym (leaf-right f l a s s xs right).0 ∙ opened-none (may_open f true l a) (leaf_of f l a) none);
  }

  pub inner-refused : None ≡ inner_opened f l a → InnerJudged f l a s s (Err Damage)
  inner-refused none = record {
    reads = reads-stop s s Damage tt reads;
    opened = tt;
    behind = tt;
    lies = λ bytes told. tt;
    found = λ bytes told ks rest lies right. true≢false (sym (inner-right f l a s s ks right).0 ∙ opened-none (may_open f false l a) (row_below f l a) none);
  }

  -- there is no memory
  pub leaf-memory : LeafJudged f l a s s (Err Memory)
  leaf-memory = record { reads = reads-stop s s Memory tt reads; opened = tt; behind = tt; lies = λ bytes told. tt; found = λ bytes told xs rest lies right. tt }

  pub inner-memory : InnerJudged f l a s s (Err Memory)
  inner-memory = record { reads = reads-stop s s Memory tt reads; opened = tt; behind = tt; lies = λ bytes told. tt; found = λ bytes told ks rest lies right. tt }
