-- Printing elements.
use Rattle.std.proofs.Common.{◌≡◌, ℕ, ◌+◌, ◌-◌, ◌≤◌, ◌&&◌, ◌||◌, Bool, true, false, not, nat_lt, List, [], ◌∷◌, ◌++◌, IsTrue, Option, Some, None, Result, Ok, Err, refl, sym, ap, subst, ◌∙◌, arith}
use Rattle.std.proofs.lemmas.Bool.Decides.{nat_tests}
use Rattle.std.specs.Result.{IfOk}
use Rattle.xa_outside.specs.Folder.{Files}
use Rattle.xa_outside.specs.Numbers.{Numbers, IsMeter, PullsAtMost}
use Rattle.xa_outside.specs.Taken.{Taken}
use Rattle.xa_outside.specs.declared.Failed.{Failed}
use Rattle.version_set.specs.Members.{members}
use Rattle.jsonml_print.specs.Calls.{Call, begin, end, content_calls, calls_of, Prints}
use Rattle.jsonml_print.specs.Pen.{Pen}
use Rattle.key_annotate.specs.Inside.{inside_of}
use Rattle.keyed_print.proofs.KeyedCalls.{calls-named}
use Rattle.keyed_tree.specs.Data.{PlainName, attr, tag, PlainKey, PlainLabel, PlainKeyed, inner, leaf, label_of, name_bytes}
use Rattle.keyed_tree.specs.Plain.{plain}
use Rattle.record_parts.specs.Shown.{shown_name}
use Rattle.record_parts.specs.declared.limits.TheConstants.{DEEPEST}
use Rattle.keyed_tree.specs.Proper.{is_tag, is_content}
use Rattle.archive_tree.specs.Data.{PlainNode, node_label}
use Rattle.archive_tree.specs.Read.{read}
use Rattle.archive_tree.proofs.Readings.{read_label}
use Rattle.record_format.specs.Seen.{node_steps}
use Rattle.file_rows.specs.View.{PlainChild}
use Rattle.file_get.specs.Told.{fault_of}
use Rattle.file_get.specs.State.{State}
use Rattle.file_get.specs.Kids.{leaf_calls, leaf_fits, kid_calls, kid_fits}
use Rattle.file_get.specs.Walks.{Walks, Shows, StandsIn}
use Rattle.file_get.specs.Inside.{InsidePrinted, OpenedPrinted, NodeOpened, inside_seen}
use Rattle.file_get.specs.declared.read.Opening.{Opening}
use Rattle.file_get.specs.declared.fault.GetFault.{GetFault}
use Rattle.file_get.specs.declared.fault.GetFault.TheVariants.{Damage, Out}
use Rattle.file_get.proofs.Pens.{stands-ended}
use Rattle.file_get.proofs.States.{walks-none, walks-then, walks-damage, shows-then, shows-fault}
use Rattle.file_get.proofs.States as states

pub tag-calls : (k : PlainKeyed) → is_tag (label_of k).name ≡ true → kid_calls k ≡ calls_of (plain k)
tag-calls (inner l ks) e = refl
tag-calls (leaf l b) e = named l.name e
  where
    named : (n : PlainName) → is_tag n ≡ true → leaf_calls n b (calls_of (plain (leaf l b))) ≡ calls_of (plain (leaf l b))
    named (attr s) e = absurd cc
    named (tag s) e = refl

-- the calls of a node that is named by a tag
pub element-calls : (i : ℕ) (parent : List (ℕ × ℕ)) (k : PlainNode) (text : List ℕ) → (node_label k).name ≡ tag text → kid_calls (read i (members parent) k) ≡ begin text ∷ (content_calls (inside_of (read i (members parent) k)) ++ end ∷ [])
element-calls i parent k text e =
    let named : (label_of (read i (members parent) k)).name ≡ tag text = ap (λ (l : PlainLabel). l.name) (read_label i (members parent) k) ∙ e in
    tag-calls (read i (members parent) k) (ap is_tag named) ∙ calls-named (read i (members parent) k) text (sym (ap name_bytes named))

either : (a b : Bool) → IsTrue ((a || b)) → a ≡ false → b ≡ true
either true b e f = absurd cc
either false b e f = e

first-of : (a b : Bool) → IsTrue (a && b) → a ≡ true
first-of true b e = refl
first-of false b e = absurd cc

leaf-may : (inside h : Bool) (n : PlainName) (b : PlainKey) → is_tag n ≡ true → IsTrue (leaf_fits inside h n b) → IsTrue (inside || not h)
leaf-may inside h (attr s) b e f = absurd cc
leaf-may inside h (tag s) b e f = first-of (inside || not h) (is_content b) f

-- an element may come inside another one, and outside only first
kid-may : (inside h : Bool) (k : PlainKeyed) → is_tag (label_of k).name ≡ true → IsTrue (kid_fits inside h k) → IsTrue (inside || not h)
kid-may inside h (inner l ks) e f = first-of (inside || not h) (is_tag l.name) (first-of ((inside || not h) && is_tag l.name) _ f)
kid-may inside h (leaf l b) e f = leaf-may inside h l.name b e f

-- what is answered after an output, of a node that is an element
abbrev pub ended_by : {T : Type 0} → Result T Failed → Result Bool GetFault
ended_by (Ok x) = Ok true
ended_by (Err e) = Err Out

pub ended-fault : {T : Type 0} (r : Result T Failed) → states.out_fault r ≡ fault_of (ended_by r)
ended-fault (Ok x) = refl
ended-fault (Err e) = refl

or-true : (a b : Bool) → b ≡ true → true ≡ (a || b)
or-true true b e = refl
or-true false b e = sym e

module _ (i : ℕ) (name : List ℕ) (child : PlainChild) (o : Opening) (depth : ℕ) (has_item : Bool) (text : List ℕ) where
  tag-of : (files : Option Files) (bytes : List ℕ) (last : ℕ) (parent : List (ℕ × ℕ)) (k : PlainNode) → NodeOpened i files name bytes last child o depth has_item parent k → shown_name o.name ≡ tag text → (node_label k).name ≡ tag text
  tag-of files bytes last parent k x e = (let opens = x.opens in sym opens.name ∙ e)

  -- a second element outside of all others
  pub element-refused : (s : State) → IsMeter s.numbers → shown_name o.name ≡ tag text → depth ≡ 0 → has_item ≡ true → OpenedPrinted i name child o depth has_item s s (Err Damage)
  element-refused s meter named out second = record {
    walks = walks-damage s s 0 (child.end - o.behind) (omega arith) (walks-none s 0 meter);
    stands = tt;
    shows = λ bytes last parent k x. (
        let n = x.node in
        let is = tag-of s.files bytes last parent k x named in
        let kid = read i (members parent) k in
        let tagged : is_tag (label_of kid).name ≡ true = ap (λ (l : PlainLabel). is_tag l.name) (read_label i (members parent) k) ∙ ap is_tag is in
        absurd (never (nat_lt 0 depth) has_item (outside depth out) second (kid-may (nat_lt 0 depth) has_item kid tagged n.fits)));
  }
    where
      outside : (d : ℕ) → d ≡ 0 → nat_lt 0 d ≡ false
      outside d e = grind (arith, nat_tests)

      never : (a h : Bool) → a ≡ false → h ≡ true → IsTrue (a || not h) → ⊥
      never true h e f g = cc
      never false true e f g = cc
      never false false e f g = cc

  -- the element was not begun
  pub element-unbegun : (s t : State) → shown_name o.name ≡ tag text → Walks 0 s t (Some Out) → Shows (begin text ∷ []) 0 0 s t (Some Out) → OpenedPrinted i name child o depth has_item s t (Err Out)
  element-unbegun s t named walk show = record {
    walks = record { same_files = walk.same_files; same_draft = walk.same_draft; later = walk.later; out_later = walk.out_later; cause = walk.cause; behind = walk.behind; pulls = more walk.pulls; gained = walk.gained };
    stands = tt;
    shows = λ bytes last parent k x. (
        let is = tag-of s.files bytes last parent k x named in (
          subst (λ (cs : List Call). Shows cs (inside_seen i parent k) (node_steps i parent k) s t (Some Out)) (sym (element-calls i parent k text is))
              (shows-fault s t Out (begin text ∷ []) (content_calls (inside_of (read i (members parent) k)) ++ end ∷ []) 0 (inside_seen i parent k) 0 (node_steps i parent k) (omega arith) (omega arith) show),
          tt,
        ));
  }
    where
      more : {a b : Numbers} → PullsAtMost 0 a b → PullsAtMost (child.end - o.behind) a b
      more h = (let w = h.within in record { count = h.count; within = omega (arith, w); pulled = h.pulled })

  -- what is inside was not printed, or not to its end
  pub element-unfilled : (s t u : State) (e : GetFault) → s.files ≡ t.files → shown_name o.name ≡ tag text → Walks 0 s t None → Shows (begin text ∷ []) 0 0 s t None → InsidePrinted i name child o depth t u (Some e) → OpenedPrinted i name child o depth has_item s u (Err e)
  element-unfilled s t u e same named walk show h = record {
    walks = walks-then s t u (Some e) 0 (child.end - o.behind) (child.end - o.behind) (omega arith) walk h.walks;
    stands = tt;
    shows = λ bytes last parent k x. (
        let is = tag-of s.files bytes last parent k x named in
        let x' = subst (λ (f : Option Files). NodeOpened i f name bytes last child o depth has_item parent k) same x in
        let inside = h.shows bytes last has_item parent k x' (ap is_tag is) in
        let c = content_calls (inside_of (read i (members parent) k)) in
        let m = inside_seen i parent k in
        let n = node_steps i parent k in (
          subst (λ (cs : List Call). Shows cs m n s u (Some e)) (sym (element-calls i parent k text is))
              (shows-fault s u e (begin text ∷ c) (end ∷ []) m m n n (omega arith) (omega arith) (shows-then s t u (Some e) (begin text ∷ []) c 0 m m 0 n n (omega arith) (omega arith) show inside)),
          tt,
        ));
  }

  stands-by : {T : Type 0} (r : Result T Failed) (x y : Taken) (p q : Pen) → depth ≤ DEEPEST → depth + 1 ≤ p.depth → Prints x y p q (end ∷ []) r → IfOk (ended_by r) (λ h. StandsIn depth h q)
  stands-by (Ok v) x y p q few more h = stands-ended depth p q few more h.pen
  stands-by (Err v) x y p q few more h = tt

  one : {T : Type 0} (r : Result T Failed) (b : Bool) → b ≡ true → IfOk (ended_by r) (λ h. h ≡ (has_item || b))
  one (Ok v) b e = or-true has_item b e
  one (Err v) b e = tt

  -- the element was printed, and its end or a part of it
  pub element-printed : {T : Type 0} (s t u v : State) (r : Result T Failed) → s.files ≡ t.files → depth ≤ DEEPEST → shown_name o.name ≡ tag text → Walks 0 s t None → Shows (begin text ∷ []) 0 0 s t None → InsidePrinted i name child o depth t u None
      → Walks 0 u v (states.out_fault r) → Shows (end ∷ []) 0 0 u v (states.out_fault r) → Prints u.taken v.taken u.pen v.pen (end ∷ []) r → OpenedPrinted i name child o depth has_item s v (ended_by r)
  element-printed s t u v r same few named walk show h back last-show prints = (
      let e = fault_of (ended_by r) in
      let w = child.end - o.behind in
      let walk2 = subst (Walks 0 u v) (ended-fault r) back in
      let show2 = subst (Shows (end ∷ []) 0 0 u v) (ended-fault r) last-show in
      record {
        walks = walks-then s u v e w 0 w (omega arith) (walks-then s t u None 0 w w (omega arith) walk h.walks) walk2;
        stands = stands-by r u.taken v.taken u.pen v.pen few h.stands prints;
        shows = λ bytes last parent k x. (
            let is = tag-of s.files bytes last parent k x named in
            let x' = subst (λ (f : Option Files). NodeOpened i f name bytes last child o depth has_item parent k) same x in
            let inside = h.shows bytes last has_item parent k x' (ap is_tag is) in
            let c = content_calls (inside_of (read i (members parent) k)) in
            let m = inside_seen i parent k in
            let n = node_steps i parent k in (
              subst (λ (cs : List Call). Shows cs m n s v e) (sym (element-calls i parent k text is))
                  (shows-then s u v e (begin text ∷ c) (end ∷ []) m 0 m n 0 n (omega arith) (omega arith) (shows-then s t u None (begin text ∷ []) c 0 m m 0 n n (omega arith) (omega arith) show inside) show2),
              one r (is_tag (node_label k).name) (ap is_tag is),
            ));
      })
