-- Nodes that may not be opened.
use Rattle.std.proofs.Common.{◌≡◌, ◌==◌, Bool, true, false, cond, ◌&&◌, List, [], ◌∷◌, length, map, Some, None, refl, ap, sym, ◌∙◌, true≢false}
use Rattle.std.specs.Prelude.{is_none, is_some, nat_lt, ◌||◌}
use Rattle.std.specs.List.{list_all}
use Rattle.keyed_tree.specs.Data.{PlainKey, PlainLabel}
use Rattle.keyed_tree.specs.Plain.{name_bytes}
use Rattle.keyed_tree.specs.Proper.{is_tag, has_no_keys}
use Rattle.key_spec.specs.Rules.{is_frontier, below}
use Rattle.version_set.specs.Members.{members}
use Rattle.archive_tree.specs.Data.{Stamp}
use Rattle.archive_tree.specs.PartsTest.{is_stamp_well}
use Rattle.node_judge.specs.Awaited.{handed, own}
use Rattle.node_judge.specs.InPlace.{is_below_root, is_kind_right}
use Rattle.node_judge.specs.Rows.{PlainFrame, is_above, leaf_of, leaf_opened}

-- key values are there
pub some-keys : {X : Type 0} (v : X → PlainKey) (xs : List X) (ks : List PlainKey) → (length xs == 0) ≡ false → map v xs ≡ ks → has_no_keys ks ≡ false
some-keys v [] ks h e = absurd (true≢false h)
some-keys v (x ∷ xs) ks h e = ap has_no_keys (sym e)

never : (a b : Bool) → (a && (b && false)) ≡ false
never true true = refl
never true false = refl
never false b = refl

-- an attribute with key values is not opened
pub no-attribute : (f : PlainFrame) (l : PlainLabel) (s : Stamp) → is_tag l.name ≡ false → has_no_keys l.keys ≡ false → None ≡ leaf_opened f l s
no-attribute f l s attr keyed =
    let kind = nat_lt 0 f.left && is_some (own f.rules f.path l) && is_kind_right true (is_frontier f.rules (below f.path (name_bytes l.name))) in
    let under = is_stamp_well s (members f.set) && (is_none s || list_all (λ w. is_none (handed l w)) f.waits) in
    sym (ap (λ b. cond (is_above f.last l && (under && cond b kind (true && has_no_keys l.keys && is_below_root f.path))) (Some (leaf_of f l s)) None) attr
    ∙ ap (λ b. cond (is_above f.last l && (under && (true && b && is_below_root f.path))) (Some (leaf_of f l s)) None) keyed
    ∙ ap (λ b. cond b (Some (leaf_of f l s)) None) (never (is_above f.last l) under))
