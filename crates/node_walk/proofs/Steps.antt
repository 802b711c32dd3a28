-- One step of a walk after another.
use Rattle.std.proofs.Common.{◌≡◌, ◌≢◌, ℕ, ◌+◌, ◌-◌, ◌≤◌, List, drop, Option, Some, None, Result, Ok, Err, refl, sym, ap, subst, ◌∙◌, arith}
use Rattle.std.specs.Result.{IsErrAnd}
use Rattle.xa_outside.specs.Causes.{Rose}
use Rattle.xa_outside.specs.Folder.{Files}
use Rattle.xa_outside.specs.Numbers.{IsMeter, PullsAtMost, after_pull}
use Rattle.xa_outside.specs.NumberLaws.{PullsAtMost-none, PullsAtMost-of, PullsAtMost-more, PullsAtMost-trans}
use Rattle.record_cursor.specs.Faults.{IfDamage, IfFolder}
use Rattle.record_cursor.specs.Items.{PlainItem, finish}
use Rattle.record_cursor.specs.Moves.{TellsFront, Goes, Moves}
use Rattle.record_cursor.specs.Next.{next_of, size_of, read_for}
use Rattle.record_cursor.specs.Places.{Standing, among_nodes, in_leaf, behind_root, finished}
use Rattle.record_cursor.specs.Spelled.{IsSpelled}
use Rattle.record_cursor.specs.Steps.{IsCause}
use Rattle.record_cursor.specs.View.{PlainCursor, shown_item}
use Rattle.record_cursor.specs.declared.fault.CursorFault.{CursorFault}
use Rattle.record_cursor.specs.declared.fault.CursorFault.TheVariants.{Damage, Folder, Memory}
use Rattle.record_cursor.specs.declared.item.Item.{Item}
use Rattle.record_cursor.proofs.Pulled.{read-within}
use Rattle.node_walk.specs.Places.{depth_of, IsAmongNodes, IsInLeaf}
use Rattle.node_walk.specs.Seen.{Seen, Told, IsWhole, at_hand, may_pull, Reads}
use Rattle.node_walk.specs.Walked.{Given}

-- ---- places

pub among-is : (s : Standing) → IsAmongNodes s → s ≡ among_nodes (depth_of s)
among-is (among_nodes d) h = refl
among-is (in_leaf d) h = absurd h
among-is (behind_root n) h = absurd h
among-is finished h = absurd h

pub leaf-is : (s : Standing) → IsInLeaf s → s ≡ in_leaf (depth_of s)
leaf-is (among_nodes d) h = absurd h
leaf-is (in_leaf d) h = refl
leaf-is (behind_root n) h = absurd h
leaf-is finished h = absurd h

-- ---- reading

pub cause-later : (a b c : ℕ) (e : Option CursorFault) → a ≤ b → IsCause b c e → IsCause a c e
cause-later a b c None le h = tt
cause-later a b c (Some Damage) le h = tt
cause-later a b c (Some Folder) le h = omega (arith, le, h)
cause-later a b c (Some Memory) le h = tt

pull-room : (s t u : Seen) (e : Option CursorFault) → t.cursor.length ≡ s.cursor.length → s.cursor.at ≤ t.cursor.at → t.cursor.at ≤ u.cursor.at → t.cursor.at ≤ t.cursor.length → (t.cursor.at - s.cursor.at) + may_pull t u e ≤ may_pull s u e
pull-room s t u None same first second within = omega (arith, first, second)
pull-room s t u (Some e) same first second within = omega (arith, same, first, within)

pub reads-then : (s t u : Seen) (e : Option CursorFault) → Reads s t None → Reads t u e → Reads s u e
reads-then s t u e h g = record {
  same_files = g.same_files ∙ h.same_files;
  same_draft = g.same_draft ∙ h.same_draft;
  later = (let x = h.later in let y = g.later in omega (arith, x, y));
  cause = cause-later s.faults t.faults u.faults e h.later g.cause;
  same_name = g.same_name ∙ h.same_name;
  same_length = g.same_length ∙ h.same_length;
  onward = (let x = h.onward in let y = g.onward in omega (arith, x, y));
  within = g.within;
  pulls = PullsAtMost-more ((t.cursor.at - s.cursor.at) + may_pull t u e) (may_pull s u e) s.numbers u.numbers (pull-room s t u e h.same_length h.onward g.onward h.within)
      (PullsAtMost-trans (t.cursor.at - s.cursor.at) (may_pull t u e) s.numbers t.numbers u.numbers h.pulls g.pulls);
}

-- the folder did nothing wrong, and then it stops
pub reads-stop : (s t : Seen) (e : CursorFault) → IfFolder e ⊥ → Reads s t None → Reads s t (Some e)
reads-stop s t e harmless h =
    let at = h.within in
    let same = h.same_length in
    record {
      same_files = h.same_files;
      same_draft = h.same_draft;
      later = h.later;
      cause = no-cause e harmless;
      same_name = h.same_name;
      same_length = h.same_length;
      onward = h.onward;
      within = h.within;
      pulls = PullsAtMost-more (t.cursor.at - s.cursor.at) (s.cursor.length - s.cursor.at) s.numbers t.numbers (omega (arith, at, same)) h.pulls;
    }
  where
    no-cause : (f : CursorFault) → IfFolder f ⊥ → IsCause s.faults t.faults (Some f)
    no-cause Damage h = tt
    no-cause Folder h = absurd h
    no-cause Memory h = tt

pub told-on : (s t : Seen) (e : Option CursorFault) (bytes : List ℕ) → Reads s t e → Told s bytes → Told t bytes
told-on s t e bytes h told =
    subst (λ (f : Option Files). TellsFront f t.cursor.name t.cursor.length bytes) (sym h.same_files)
    (subst (λ (n : List ℕ). TellsFront s.files n t.cursor.length bytes) (sym h.same_name) (subst (λ (n : ℕ). TellsFront s.files s.cursor.name n bytes) (sym h.same_length) told))

-- ---- one call of the cursor

pub went : (told : Option Files) (old new : PlainCursor) (r : Result Item CursorFault) (item : Item) → r ≡ Ok item → Moves told old r new → Goes told old item new
went told old new r item is h = subst (λ (x : Result Item CursorFault). Moves told old x new) is h

pub stayed : (told : Option Files) (old new : PlainCursor) (r : Result Item CursorFault) (e : CursorFault) → r ≡ Err e → Moves told old r new → new ≡ old
stayed told old new r e is h = subst (λ (x : Result Item CursorFault). Moves told old x new) is h

-- what the cursor gave is what the bytes spell
abbrev pub Spells : Seen → Item → Type 0
Spells s item = (bytes : List ℕ) → Told s bytes → IsSpelled s.cursor.standing (shown_item item) (at_hand s bytes) (drop (s.cursor.at + size_of s.cursor.standing (shown_item item)) bytes)

-- that the file ends is given only of one that has so many bytes
abbrev pub Ends : Seen → Item → Type 0
Ends s item = (files : Files) → s.files ≡ Some files → s.cursor.standing ≢ finished → shown_item item ≡ finish → IsWhole s files

-- the cursor gave an item
pub record Gave (s t : Seen) (item : Item) : Type 0 where
  pub files : t.files ≡ s.files
  pub draft : t.draft ≡ s.draft
  pub numbers : t.numbers ≡ after_pull s.numbers (read_for s.cursor.standing (shown_item item))
  pub later : s.faults ≤ t.faults
  pub goes : Goes s.files s.cursor item t.cursor
  pub spelled : (bytes : List ℕ) → Told s bytes → IsSpelled s.cursor.standing (shown_item item) (at_hand s bytes) (at_hand t bytes)
  pub whole : Ends s item

pub gave : (s t : Seen) (r : Result Item CursorFault) (item : Item) → r ≡ Ok item → t.files ≡ s.files → t.draft ≡ s.draft → t.numbers ≡ after_pull s.numbers (read_for s.cursor.standing (shown_item item)) → s.faults ≤ t.faults → Moves s.files s.cursor r t.cursor → Spells s item
    → Ends s item → Gave s t item
gave s t r item is files draft numbers later moves spells whole =
    let goes = went s.files s.cursor t.cursor r item is moves in
    record {
      files = files;
      draft = draft;
      numbers = numbers;
      later = later;
      goes = goes;
      spelled = λ bytes told. subst (λ (n : ℕ). IsSpelled s.cursor.standing (shown_item item) (at_hand s bytes) (drop n bytes)) (sym goes.moved) (spells bytes told);
      whole = whole;
    }

pub gave-reads : (s t : Seen) (item : Item) → Gave s t item → Reads s t None
gave-reads s t item h =
    let goes = h.goes in
    let moved = goes.moved in
    record {
      same_files = h.files;
      same_draft = h.draft;
      later = h.later;
      cause = tt;
      same_name = goes.same_name;
      same_length = goes.same_length;
      onward = omega (arith, moved);
      within = goes.within;
      pulls = PullsAtMost-of (t.cursor.at - s.cursor.at) (read_for s.cursor.standing (shown_item item)) s.numbers t.numbers (omega (arith, moved, read-within s.cursor.standing (shown_item item))) h.numbers;
    }

pub gave-given : (s t : Seen) (item : Item) → Gave s t item → Given s t (shown_item item)
gave-given s t item h = record { may_come = h.goes.may_come; moved = h.goes.moved; pulled = h.numbers; comes = h.goes.comes; spelled = h.spelled; whole = h.whole }

-- it gave none
pub record Missed (s t : Seen) (e : CursorFault) : Type 0 where
  pub reads : Reads s t (Some e)
  pub damage : (bytes : List ℕ) → Told s bytes → IfDamage e (next_of s.cursor.standing (at_hand s bytes) ≡ None)

pub missed : (s t : Seen) (r : Result Item CursorFault) (e : CursorFault) → s.cursor.at ≤ s.cursor.length → r ≡ Err e → t.files ≡ s.files → t.draft ≡ s.draft → PullsAtMost (s.cursor.length - s.cursor.at) s.numbers t.numbers → s.faults ≤ t.faults → IfFolder e (Rose s.faults t.faults)
    → ((bytes : List ℕ) → TellsFront s.files s.cursor.name s.cursor.length bytes → IfDamage e (next_of s.cursor.standing (drop s.cursor.at bytes) ≡ None)) → Moves s.files s.cursor r t.cursor → Missed s t e
missed s t r e within is files draft pulls later cause damage moves =
    let same = stayed s.files s.cursor t.cursor r e is moves in
    let at = ap (λ (c : PlainCursor). c.at) same in
    record {
      reads = record {
        same_files = files;
        same_draft = draft;
        later = later;
        cause = cause;
        same_name = ap (λ (c : PlainCursor). c.name) same;
        same_length = ap (λ (c : PlainCursor). c.length) same;
        onward = omega (arith, at);
        within = subst (λ (c : PlainCursor). c.at ≤ c.length) (sym same) within;
        pulls = pulls;
      };
      damage = damage;
    }

-- nothing was read
pub reads-none : (s : Seen) → s.cursor.at ≤ s.cursor.length → IsMeter s.numbers → Reads s s None
reads-none s within meter = record {
  same_files = refl;
  same_draft = refl;
  later = omega arith;
  cause = tt;
  same_name = refl;
  same_length = refl;
  onward = omega arith;
  within = within;
  pulls = PullsAtMost-none (s.cursor.at - s.cursor.at) s.numbers meter;
}

-- ---- what the code hands on

-- what is shown of the fault holds of the answer
pub at-err : {T E : Type 0} (r : Result T E) (f : E) → IsErrAnd r (λ d. d ≡ f) → (P : Result T E → Type 0) → P (Err f) → P r
at-err (Ok x) f h P p = absurd h
at-err {T = T} (Err d) f h P p = subst (λ z. P (Err z)) (sym h) p

pub damage-map : (e : CursorFault) (P Q : Type 0) → (P → Q) → IfDamage e P → IfDamage e Q
damage-map Damage P Q f h = f h
damage-map Folder P Q f h = tt
damage-map Memory P Q f h = tt

-- the item comes in the file that is told
pub comes-told : (s t : Seen) (i : PlainItem) (bytes : List ℕ) → Given s t i → Told s bytes → next_of s.cursor.standing (at_hand s bytes) ≡ Some (i, (t.cursor.standing, at_hand t bytes))
comes-told s t i bytes g told = g.comes bytes told

-- wherever the cursor is said to stand
pub comes-at : (s t : Seen) (i : PlainItem) (bytes : List ℕ) (p : Standing) → s.cursor.standing ≡ p → Given s t i → Told s bytes → next_of p (at_hand s bytes) ≡ Some (i, (t.cursor.standing, at_hand t bytes))
comes-at s t i bytes p is g told = subst (λ (q : Standing). next_of q (at_hand s bytes) ≡ Some (i, (t.cursor.standing, at_hand t bytes))) is (comes-told s t i bytes g told)
