-- When the merge of a new version is refused by a limit.
use Rattle.std.proofs.Common.{◌≡◌, ◌≢◌, ◌↔◌, inl, inr, ℕ, ◌+◌, List, Option, Some, Result, Ok, Err, refl, sym, ap, ◌∙◌, subst}
use Rattle.std.specs.Result.{IsErrAnd}
use Rattle.xa_outside.specs.Folder.{Files}
use Rattle.key_spec.specs.Data.{PlainRule}
use Rattle.keyed_tree.specs.Data.{PlainKeyed}
use Rattle.record_cursor.specs.View.{PlainHeader}
use Rattle.stream_merge.specs.Added.{Overfull, IfTooLong}
use Rattle.stream_merge.specs.declared.fault.AddFault.{AddFault}
use Rattle.stream_merge.specs.declared.fault.AddFault.TheVariants.{Damage, Folder, Limit, TooLong, Memory}
use Rattle.xarch_words.specs.Refusal.{versions, Refusal, limit, PlainFault, refused}
use Rattle.xarch_words.specs.View.{fault_view}
use Rattle.xarch_words.specs.declared.fault.Fault.{Fault}
use Rattle.xarch_parts.specs.Ends.{fault_of}
use Rattle.xarch_parts.specs.Outcome.{and_then}
use Rattle.xarch_meanings.specs.Add.{add_input, room_behind, text_read, tree_of, with_tree}
use Rattle.xarch_writes.specs.Added.{IsToldAs}
use Rattle.xarch_meanings.specs.Meanings.{IsLimited}
use Rattle.xarch_meanings.proofs.Limited.{one-read}
use Rattle.record_parts.specs.declared.limits.TheConstants.{MOST_VERSIONS}

-- ---- faults

-- the merge is refused by a limit where it is too long, and has room for a version
pub limited-merge : (P : Type 0) (name : List ℕ) (n : ℕ) {T : Type 0} (e : AddFault) (v : PlainFault) → IsToldAs name e v → (◌≡◌ {A = Result T AddFault} (Err e) (Err Limit) ↔ (n ≡ MOST_VERSIONS)) → IfTooLong e P → n ≢ MOST_VERSIONS → IsLimited (Some v) → P
limited-merge P name n Damage v (inl is) full long room limited = absurd (subst (λ (z : PlainFault). IsLimited (Some z)) is limited)
limited-merge P name n Damage v (inr is) full long room limited = absurd (subst (λ (z : PlainFault). IsLimited (Some z)) is limited)
limited-merge P name n Folder v is full long room limited = absurd (subst (λ (z : PlainFault). IsLimited (Some z)) is limited)
limited-merge P name n Limit v is full long room limited = absurd (room (full.0 refl))
limited-merge P name n TooLong v is full long room limited = long
limited-merge P name n Memory v is full long room limited = absurd (subst (λ (z : PlainFault). IsLimited (Some z)) is limited)

-- the fault that was handed on
pub limited-passed : {T : Type 0} (r : Result T Fault) (f : Fault) → IsErrAnd r (λ d. d ≡ f) → IsLimited (fault_of r) → IsLimited (Some (fault_view f))
limited-passed (Ok x) f h limited = absurd h
limited-passed (Err d) f h limited = subst (λ (z : Fault). IsLimited (Some (fault_view z))) h limited

-- ---- what is read first

pub record Given (files : Files) (name doc : List ℕ) (rules : List PlainRule) (n : ℕ) (tree : PlainKeyed) : Type 0 where
  pub text : List ℕ
  pub read : text_read files name doc ≡ Ok ((rules, n), text)
  pub is : tree_of rules text ≡ Ok tree
  pub room : n ≢ MOST_VERSIONS

abbrev with_room : (List PlainRule × ℕ) × PlainKeyed → Result ((List PlainRule × ℕ) × PlainKeyed) Refusal
with_room p = and_then (room_behind p.0.1) (λ _. Ok p)

-- the rules and the number, the tree, and that there is room
record Roomed (h g : List PlainRule × ℕ) (k tree : PlainKeyed) : Type 0 where
  same : h ≡ g
  trees : k ≡ tree
  room : h.1 ≢ MOST_VERSIONS

not-refused : {A : Type 0} (q : Refusal) (x : A) → ◌≡◌ {A = Result A Refusal} (Err q) (Ok x) → ⊥
not-refused q x e = cc

roomed-by : (h g : List PlainRule × ℕ) (k tree : PlainKeyed) (w : Result Unit Refusal) → room_behind h.1 ≡ w → and_then {B = (List PlainRule × ℕ) × PlainKeyed} w (λ _. Ok (h, k)) ≡ Ok (g, tree) → Roomed h g k tree
roomed-by h g k tree (Ok u) e is =
    let both : (h, k) ≡ (g, tree) = one-read (h, k) (g, tree) is in
    record {
      same = ap (λ (p : (List PlainRule × ℕ) × PlainKeyed). p.0) both;
      trees = ap (λ (p : (List PlainRule × ℕ) × PlainKeyed). p.1) both;
      room = λ full. not-refused (limit versions MOST_VERSIONS) u (sym (ap room_behind full) ∙ e);
    }
roomed-by h g k tree (Err q) e is = absurd (not-refused q (g, tree) is)

roomed : (h g : List PlainRule × ℕ) (k tree : PlainKeyed) → with_room (h, k) ≡ Ok (g, tree) → Roomed h g k tree
roomed h g k tree is = roomed-by h g k tree (room_behind h.1) refl is

treed : (h g : List PlainRule × ℕ) (x : Result PlainKeyed Refusal) (tree : PlainKeyed) → and_then (and_then x (λ k. Ok (h, k))) with_room ≡ Ok (g, tree) → (k : PlainKeyed) × (x ≡ Ok k) × Roomed h g k tree
treed h g (Ok k) tree is = (k, refl, roomed h g k tree is)
treed h g (Err q) tree is = absurd cc

texted : (files : Files) (name doc : List ℕ) (x : Result ((List PlainRule × ℕ) × List ℕ) Refusal) (rules : List PlainRule) (n : ℕ) (tree : PlainKeyed) → text_read files name doc ≡ x → and_then (and_then x with_tree) with_room ≡ Ok ((rules, n), tree) → Given files name doc rules n tree
texted files name doc (Err q) rules n tree read is = absurd cc
texted files name doc (Ok p) rules n tree read is =
    let t = treed p.0 (rules, n) (tree_of p.0.0 p.1) tree is in
    let r = t.2 in
    record {
      text = p.1;
      read = read ∙ ap (λ (h : List PlainRule × ℕ). Ok (h, p.1)) r.same;
      is = ap (λ (h : List PlainRule × ℕ). tree_of h.0 p.1) (sym r.same) ∙ t.1 ∙ ap (λ (k : PlainKeyed). Ok k) r.trees;
      room = subst (λ (h : List PlainRule × ℕ). h.1 ≢ MOST_VERSIONS) r.same r.room;
    }

pub given : (files : Files) (name doc : List ℕ) (rules : List PlainRule) (n : ℕ) (tree : PlainKeyed) → add_input files name doc ≡ Ok ((rules, n), tree) → Given files name doc rules n tree
given files name doc rules n tree is = texted files name doc (text_read files name doc) rules n tree refl is

-- ---- the merge of what was read

-- by the header that was read
pub full-by : (files : Files) (name doc : List ℕ) (h : PlainHeader) (items text : List ℕ) (rules : List PlainRule) (n : ℕ) (tree : PlainKeyed) (b : ℕ) (draft : Option (List ℕ))
    → text_read files name doc ≡ Ok ((h.rules, h.versions), items) → text ≡ items → Given files name doc rules n tree
    → (tree_of h.rules text ≡ Ok tree → h.versions ≢ MOST_VERSIONS → Overfull b h.rules (h.versions + 1) draft) → Overfull b rules (n + 1) draft
full-by files name doc h items text rules n tree b draft read same g full =
    let both : ((h.rules, h.versions), items) ≡ ((rules, n), g.text) = one-read ((h.rules, h.versions), items) ((rules, n), g.text) (sym read ∙ g.read) in
    let heads : (h.rules, h.versions) ≡ (rules, n) = ap (λ (p : (List PlainRule × ℕ) × List ℕ). p.0) both in
    let texts : text ≡ g.text = same ∙ ap (λ (p : (List PlainRule × ℕ) × List ℕ). p.1) both in
    subst (λ (p : List PlainRule × ℕ). Overfull b p.0 (p.1 + 1) draft) heads
    (full ((λ i. tree_of (heads i).0 (texts i)) ∙ g.is) (subst (λ (p : List PlainRule × ℕ). p.1 ≢ MOST_VERSIONS) (sym heads) g.room))
