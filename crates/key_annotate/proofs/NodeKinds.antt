-- The node of an element, by its label and by what stands at the place below it.
use Rattle.std.proofs.Common.{◌≡◌, ℕ, Bool, true, false, List, [], ◌++◌, map, Option, Some, None, IfSome, refl, ap, ap₂, sym, subst, ◌∙◌}
use Rattle.std.specs.Option.{option_map}
use Rattle.jsonml_tree.specs.Data.{PlainContent, content, only_text}
use Rattle.keyed_tree.specs.Data.{inside, PlainKeyed, PlainLabel, inner, leaf, kids_from}
use Rattle.key_spec.specs.ContextView.{context_path, context_rules}
use Rattle.key_spec.specs.Data.{PlainRule}
use Rattle.key_spec.specs.Rules.{below, is_frontier}
use Rattle.key_spec.specs.declared.context.Context.{Context}
use Rattle.key_rules.specs.Labels.{label_in}
use Rattle.key_rules.specs.LentView.{lent_label_view}
use Rattle.key_rules.specs.Reach.{attrs_in}
use Rattle.key_rules.specs.Satisfies.{is_space_only, ok_of}
use Rattle.key_rules.specs.Spots.{IsBelow}
use Rattle.key_rules.specs.declared.lent.LentLabel.{LentLabel}
use Rattle.key_annotate.specs.KeyedOf.{attr_leaf}
use Rattle.key_annotate.specs.Ordered.{all_kids, built, built_items, items_inside, node_of}

no-label : (b : Bool) (c : PlainContent) (kids : Option (List PlainKeyed)) → node_of b None c kids ≡ None
no-label true c kids = refl
no-label false c kids = refl

no-kids : (o : Option PlainLabel) (c : PlainContent) → node_of false o c None ≡ None
no-kids None c = refl
no-kids (Some l) c = refl

module _ (rules : List PlainRule) (path : List (List ℕ)) (t : List ℕ) where
  -- it has no label
  pub unlabelled : (c : PlainContent) → ok_of (label_in rules path t c) ≡ None → built rules path t c ≡ None
  unlabelled (content xs ts) none =
      let kids = all_kids xs (built_items rules (below path t) ts) in
      ap (λ o. node_of (is_frontier rules (below path t)) o (content xs ts) kids) none ∙ no-label (is_frontier rules (below path t)) (content xs ts) kids

  module _ (l : PlainLabel) where
    -- a leaf at the frontier
    pub leaf-kind : (c : PlainContent) → ok_of (label_in rules path t c) ≡ Some l → is_frontier rules (below path t) ≡ true → Some (leaf l (inside c)) ≡ built rules path t c
    leaf-kind (content xs ts) label here =
        let kids = all_kids xs (built_items rules (below path t) ts) in
        sym (ap₂ (λ b o. node_of b o (content xs ts) kids) here label)

    -- an inner node above it
    pub inner-kind : (c : PlainContent) (ks : List PlainKeyed) → ok_of (label_in rules path t c) ≡ Some l → is_frontier rules (below path t) ≡ false → items_inside rules (below path t) c ≡ Some ks
        → Some (inner l (kids_from (map attr_leaf (attrs_in c) ++ ks))) ≡ built rules path t c
    inner-kind (content xs ts) ks label above items =
        let kids = all_kids xs (built_items rules (below path t) ts) in
        let some : kids ≡ Some (map attr_leaf xs ++ ks) = ap (option_map (λ js. map attr_leaf xs ++ js)) items in
        sym (ap₂ (λ b o. node_of b o (content xs ts) kids) above label ∙ ap (option_map (λ js. inner l (kids_from js))) some)

  -- nothing above it, where the items have no kids
  pub no-kind : (c : PlainContent) → is_frontier rules (below path t) ≡ false → items_inside rules (below path t) c ≡ None → built rules path t c ≡ None
  no-kind (content xs ts) above items =
      let label = ok_of (label_in rules path t (content xs ts)) in
      let none : all_kids xs (built_items rules (below path t) ts) ≡ None = ap (option_map (λ js. map attr_leaf xs ++ js)) items in
      ap₂ (λ b kids. node_of b label (content xs ts) kids) above none ∙ no-kids label (content xs ts)

-- one text alone
pub spaces-inside : (rules : List PlainRule) (path : List (List ℕ)) (s : List ℕ) → is_space_only s ≡ true → items_inside rules path (only_text s) ≡ Some []
spaces-inside rules path s e = rw e refl

pub text-inside : (rules : List PlainRule) (path : List (List ℕ)) (s : List ℕ) → is_space_only s ≡ false → items_inside rules path (only_text s) ≡ None
text-inside rules path s e = rw e refl

-- ---- what a label that is found beside the place below its element tells

abbrev Found : Type 0
Found = Option (LentLabel × Context)

abbrev found_label : Found → Option PlainLabel
found_label o = option_map (λ (p : LentLabel × Context). lent_label_view p.0) o

pub found-none : (o : Found) (r : Option PlainLabel) → o ≡ None → found_label o ≡ r → r ≡ None
found-none o r e h = sym h ∙ ap found_label e

pub found-some : (o : Found) (l : LentLabel) (d : Context) (r : Option PlainLabel) → o ≡ Some (l, d) → found_label o ≡ r → r ≡ Some (lent_label_view l)
found-some o l d r e h = sym h ∙ ap found_label e

pub found-below : (c : Context) (t : List ℕ) (o : Found) (l : LentLabel) (d : Context) → o ≡ Some (l, d) → IfSome o (λ (p : LentLabel × Context). IsBelow c t p.1) → IsBelow c t d
found-below c t o l d e h = subst (λ (o : Found). IfSome o (λ (p : LentLabel × Context). IsBelow c t p.1)) e h

-- whether it stands at the frontier
pub at-frontier : (c d : Context) (t : List ℕ) (test b : Bool) → IsBelow c t d → test ≡ is_frontier (context_rules d) (context_path d) → test ≡ b → is_frontier (context_rules c) (below (context_path c) t) ≡ b
at-frontier c d t test b h e f = sym (ap₂ is_frontier h.0 h.1) ∙ sym e ∙ f

-- what is found of its items
pub items-below : (c d : Context) (t : List ℕ) (x : PlainContent) (o p : Option (List PlainKeyed)) → IsBelow c t d → o ≡ p → o ≡ items_inside (context_rules d) (context_path d) x
    → items_inside (context_rules c) (below (context_path c) t) x ≡ p
items-below c d t x o p h e f = sym (ap₂ (λ q r. items_inside q r x) h.0 h.1) ∙ sym f ∙ e
