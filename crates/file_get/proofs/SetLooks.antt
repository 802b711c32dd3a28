-- What is seen at the only child of a part.
use Rattle.std.proofs.Common.{◌≡◌, ℕ, ◌+◌, ◌-◌, ◌/◌, Bool, true, false, List, [], ◌∷◌, length, Option, Result, Ok, Err, refl, sym, subst, ◌∙◌, arith}
use Rattle.version_set.specs.Members.{members, has}
use Rattle.timestamp_tree.specs.Bytes.{stored}
use Rattle.archive_tree.specs.Data.{PlainNode}
use Rattle.record_cursor.specs.Steps.{Filled}
use Rattle.record_cursor.specs.declared.fault.CursorFault.{CursorFault}
use Rattle.xa_outside.specs.Folder.{Files}
use Rattle.xa_outside.specs.Numbers.{Numbers, PullsAtMost}
use Rattle.file_rows.specs.View.{PlainRow}
use Rattle.file_get.specs.Kids.{set_of}
use Rattle.file_get.specs.Nodes.{NodeTold}
use Rattle.file_get.specs.Looked.{IsLook, LookIs, LookTold, looked, own_read, sight_of, tree_over}
use Rattle.file_get.specs.Searched.{leaf_read}
use Rattle.file_get.proofs.StoredNodes.{length-stored}
use Rattle.file_get.specs.declared.look.Sight.{Sight}
use Rattle.file_get.specs.declared.span.Span.{Span}

lone : (ks : List PlainNode) → length ks ≡ 1 → (k : PlainNode) × (ks ≡ k ∷ [])
lone [] e = absurd (omega (arith, e))
lone (k ∷ []) e = (k, refl)
lone (k ∷ j ∷ ks) e = absurd (omega (arith, e))

sight-is : (i : ℕ) (bytes : List ℕ) (row : PlainRow) (parent : List (ℕ × ℕ)) (front behind : List PlainNode) (k : PlainNode) (b : Bool) → b ≡ has (members (set_of parent k)) i → LookIs i bytes row parent front (k ∷ []) behind (sight_of b)
sight-is i bytes row parent front behind k true e = (k, refl, sym e)
sight-is i bytes row parent front behind k false e = sym e

pub seen-is : (span : Span) (b : Bool) (sight : Sight) → sight ≡ sight_of b → span.count ≡ 1 → IsLook span sight
seen-is span true sight e one = subst (IsLook span) (sym e) one
seen-is span false sight e one = subst (IsLook span) (sym e) tt

pub seen-pulls : (span : Span) (b : Bool) (sight : Sight) → sight ≡ sight_of b → (m n : Numbers) → PullsAtMost (span.limit - span.at) m n → PullsAtMost (looked span (Ok sight)) m n
seen-pulls span true sight e m n pulls = subst (λ (s : Sight). PullsAtMost (looked span (Ok s)) m n) (sym e) pulls
seen-pulls span false sight e m n pulls = subst (λ (s : Sight). PullsAtMost (looked span (Ok s)) m n) (sym e) pulls

-- what reading its set tells
abbrev pub SetTells : ℕ → Option Files → List ℕ → Span → Result Bool CursorFault → Type 0
SetTells i files name span r = (last : ℕ) (bytes : List ℕ) (s : List (ℕ × ℕ)) → NodeTold files name bytes last span.at span.limit s 0 → span.limit ≡ span.at + length (stored s 0) → Filled r (λ b. b ≡ has (members s) i)

module _ (i : ℕ) (files : Option Files) (name bytes : List ℕ) (end : ℕ) (row : PlainRow) (span : Span) (parent : List (ℕ × ℕ)) (front ks behind : List PlainNode) (x : LookTold files name bytes end row span parent front ks behind) (single : span.count ≡ 1) where
  only : (k : PlainNode) × (ks ≡ k ∷ [])
  only = (let count = x.part.count in lone ks (sym count ∙ single))

  alone : LookTold files name bytes end row span parent front (only.0 ∷ []) behind
  alone = subst (λ (js : List PlainNode). LookTold files name bytes end row span parent front js behind) only.1 x

  leaf-told : NodeTold files name bytes end span.at span.limit (set_of parent only.0) 0
  leaf-told =
      let y = alone in
      let inside = y.part.inside in
      let limit = y.part.limit in
      let within = y.within in
      record { tells = y.tells; within = omega (arith, inside, within); stands = y.part.tree; fits = omega (arith, limit); set = y.sets.0; some = y.filled.0; short = omega arith }

  pub set-seen : (b : Bool) → SetTells i files name span (Ok b) → LookIs i bytes row parent front ks behind (sight_of b)
  set-seen b tells =
      let is = tells end bytes (set_of parent only.0) leaf-told alone.part.limit in
      subst (λ (js : List PlainNode). LookIs i bytes row parent front js behind (sight_of b)) (sym only.1) (sight-is i bytes row parent front behind only.0 b is)

  pub set-unseen : (e : CursorFault) → SetTells i files name span (Err e) → Filled {T = Sight} (Err e) (LookIs i bytes row parent front ks behind)
  set-unseen e tells = tells end bytes (set_of parent only.0) leaf-told alone.part.limit

  pub set-pulls : (a b : Numbers) → PullsAtMost (leaf_read ((span.limit - span.at - 12) / 8)) a b → PullsAtMost (own_read (tree_over parent ks)) a b
  set-pulls a b pulls =
      let y = alone in
      let s = set_of parent only.0 in
      let limit : span.limit ≡ span.at + length (stored s 0) = y.part.limit in
      let count : (span.limit - span.at - 12) / 8 ≡ length s = omega (arith, limit, length-stored s 0) in
      subst (λ (js : List PlainNode). PullsAtMost (own_read (tree_over parent js)) a b) (sym only.1) (subst (λ (n : ℕ). PullsAtMost (leaf_read n) a b) count pulls)
