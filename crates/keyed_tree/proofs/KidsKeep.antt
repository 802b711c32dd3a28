-- What a tree's kids keep of what is said of the tree, and which paths it holds.
use Rattle.std.proofs.Common.{◌≡◌, ◌↔◌, ◌<◌, ◌&&◌, IsTrue, true≢false, List, [], ◌∷◌, map, length, drop, get_or, arith, Option, Some, None, IfSome, IsNone, is_some, Any, refl, ap, sym, subst, inl, inr}
use Rattle.std.specs.Option.{option_map, option_and_then}
use Rattle.std.specs.Ordering.{is_eq}
use Rattle.keyed_tree.specs.Data.{PlainLabel, PlainKeyed, inner, leaf, label_of, PlainKids, no_kids, kid, kids_from, kids_list, kids_of}
use Rattle.keyed_tree.specs.Kids.{ascend, Ascend, is_ordered, are_ordered, IsOrdered, kid_at, HasNoKid}
use Rattle.keyed_tree.specs.Lists.{Has}
use Rattle.keyed_tree.specs.Order.{label_cmp}
use Rattle.keyed_tree.specs.Laws.{label_cmp-is_eq}
use Rattle.keyed_tree.specs.Paths.{node_at}
use Rattle.keyed_tree.specs.Holds.{Holds}
use Rattle.keyed_tree.specs.Proper.{is_tag, is_proper, are_proper, IsProper}
use Rattle.keyed_tree.specs.WellFormed.{is_label_well_formed, is_keyed_well_formed, are_kids_well_formed, IsKeyedWellFormed}
use Rattle.jsonml_tree.proofs.Lists.{any_has, has_any}
use Rattle.keyed_tree.proofs.Kids.{both, kids_from-kids_list, kids_ascend, found_at, has_found, not_found}

pub ordered_kids : (t : PlainKeyed) → IsOrdered t → Ascend (kids_from (kids_of t))
ordered_kids (inner l ks) h = rw (kids_from-kids_list ks) (both (ascend ks) (are_ordered ks) h).0
ordered_kids (leaf l b) h = refl

are_ordered-has : (ks : PlainKids) (c : PlainKeyed) → IsTrue (are_ordered ks) → Has c (kids_list ks) → IsOrdered c
are_ordered-has no_kids c h m = absurd m
are_ordered-has (kid k ks) c h m =
    let two = both (is_ordered k) (are_ordered ks) h in
    elim m [ inl e ↦ subst IsOrdered e two.0 | inr n ↦ are_ordered-has ks c two.1 n ]

pub kid_ordered : (t c : PlainKeyed) → IsOrdered t → Has c (kids_of t) → IsOrdered c
kid_ordered (inner l ks) c h m = are_ordered-has ks c (both (ascend ks) (are_ordered ks) h).1 m
kid_ordered (leaf l b) c h m = absurd m

are_well-has : (ks : PlainKids) (c : PlainKeyed) → IsTrue (are_kids_well_formed ks) → Has c (kids_list ks) → IsKeyedWellFormed c
are_well-has no_kids c h m = absurd m
are_well-has (kid k ks) c h m =
    let two = both (is_keyed_well_formed k) (are_kids_well_formed ks) h in
    elim m [ inl e ↦ subst IsKeyedWellFormed e two.0 | inr n ↦ are_well-has ks c two.1 n ]

pub kid_well_formed : (t c : PlainKeyed) → IsKeyedWellFormed t → Has c (kids_of t) → IsKeyedWellFormed c
kid_well_formed (inner l ks) c h m = are_well-has ks c (both (is_label_well_formed l) (are_kids_well_formed ks) h).1 m
kid_well_formed (leaf l b) c h m = absurd m

-- a kid that is lent out by its label has what each kid has
pub found_keeps : {X : Type 0} (view : X → PlainKeyed) (P : PlainKeyed → Type 0) (l : PlainLabel) (t : PlainKeyed) (o : Option X)
    → ((c : PlainKeyed) → Has c (kids_of t) → P c) → option_map view o ≡ kid_at l (kids_of t) → IfSome o (λ x. P (view x))
found_keeps view P l t None h e = tt
found_keeps view P l t (Some x) h e = h (view x) (has_found l (view x) (kids_of t) (sym e)).0

-- a kid that is lent out by its label is one, and has the label
pub found_kid : {X : Type 0} (view : X → PlainKeyed) (l : PlainLabel) (t : PlainKeyed) (o : Option X) → option_map view o ≡ kid_at l (kids_of t) → IfSome o (λ x. Has (view x) (kids_of t))
found_kid view l t o e = found_keeps view (λ c. Has c (kids_of t)) l t o (λ c m. m) e

pub found_label : {X : Type 0} (view : X → PlainKeyed) (l : PlainLabel) (t : PlainKeyed) (o : Option X) → option_map view o ≡ kid_at l (kids_of t) → IfSome o (λ x. label_of (view x) ≡ l)
found_label view l t None e = tt
found_label view l t (Some x) e = (has_found l (view x) (kids_of t) (sym e)).1

-- and none is lent out exactly where no kid has the label
pub found_none : {X : Type 0} (view : X → PlainKeyed) (l : PlainLabel) (t : PlainKeyed) (o : Option X) → option_map view o ≡ kid_at l (kids_of t) → IsNone o ↔ HasNoKid l t
found_none view l t None e = (λ h. not_found l (kids_of t) (sym e), λ h. refl)
found_none view l t (Some x) e = (λ h. absurd (true≢false h), λ h. (let found = has_found l (view x) (kids_of t) (sym e) in absurd (h (view x) found.0 found.1)))

-- ---- paths

holds_from : (ls : List PlainLabel) (m : PlainLabel) (c : PlainKeyed) → label_of c ≡ m → IsTrue (is_some (node_at ls c)) → Holds (m ∷ ls) c
holds_from [] m c e h = e
holds_from (n ∷ ls) m c e h = (
  e,
  elim (kid_at n (kids_of c)) as (λ o. kid_at n (kids_of c) ≡ o → IsTrue (is_some (option_and_then (node_at ls) o)) → Any (Holds (n ∷ ls)) (kids_of c)) [
    | None ↦ λ f g. absurd (true≢false (sym g))
    | Some d ↦ λ f g. (let found = has_found n d (kids_of c) f in has_any (Holds (n ∷ ls)) (kids_of c) d found.0 (holds_from ls n d found.1 g))
  ] refl h,
)

holds_to : (ls : List PlainLabel) (m : PlainLabel) (c : PlainKeyed) → IsOrdered c → Holds (m ∷ ls) c → (label_of c ≡ m) × IsTrue (is_some (node_at ls c))
holds_to [] m c o h = (h, refl)
holds_to (n ∷ ls) m c o h =
    let some = any_has (Holds (n ∷ ls)) (kids_of c) h.1 in
    let d = some.0 in
    let below = holds_to ls n d (kid_ordered c d o some.1.0) some.1.1 in
    let found : kid_at n (kids_of c) ≡ Some d = subst (λ l. kid_at l (kids_of c) ≡ Some d) below.0 (found_at d (kids_of c) (kids_ascend c o) some.1.0) in
    (h.0, rw found below.1)

-- a path is held where the node has its first label and the rest leads to a node
pub holds_at : (l : PlainLabel) (ls : List PlainLabel) (k : PlainKeyed) → IsOrdered k → IsTrue (is_eq (label_cmp (label_of k) l) && is_some (node_at ls k)) ↔ Holds (l ∷ ls) k
holds_at l ls k o = (
  λ h. (let two = both (is_eq (label_cmp (label_of k) l)) (is_some (node_at ls k)) h in holds_from ls l k ((label_cmp-is_eq (label_of k) l).0 two.0) two.1),
  λ h. (let two = holds_to ls l k o h in let same = (label_cmp-is_eq (label_of k) l).1 two.0 in rw same two.1),
)

-- the same of a path in a slice
pub holds_path : {X : Type 0} (view : X → PlainLabel) (path : List X) (first : X) (k : PlainKeyed) → 0 < length path → first ≡ get_or path 0 first → IsOrdered k
    → IsTrue (is_eq (label_cmp (label_of k) (view first)) && is_some (node_at (map view (drop 1 path)) k)) ↔ Holds (map view path) k
holds_path view [] first k low e o = absurd (omega arith)
holds_path view (x ∷ xs) first k low e o = subst (λ z. IsTrue (is_eq (label_cmp (label_of k) (view z)) && is_some (node_at (map view xs) k)) ↔ Holds (view x ∷ map view xs) k) (sym e) (holds_at (view x) (map view xs) k o)

-- a node is found where its view is
pub is_some-seen : {X Y : Type 0} (view : X → Y) (o : Option X) (q : Option Y) → option_map view o ≡ q → is_some o ≡ is_some q
is_some-seen view None q e = ap is_some e
is_some-seen view (Some x) q e = ap is_some e

-- a proper tree is ordered
mutual
  pub proper_ordered : (k : PlainKeyed) → IsProper k → IsOrdered k
  proper_ordered (inner l ks) h =
      let two = both (is_tag l.name && ascend ks) (are_proper ks) h in
      let up = (both (is_tag l.name) (ascend ks) two.0).1 in
      rw up (are_proper-ordered ks two.1)
  proper_ordered (leaf l b) h = refl

  are_proper-ordered : (ks : PlainKids) → IsTrue (are_proper ks) → IsTrue (are_ordered ks)
  are_proper-ordered no_kids h = refl
  are_proper-ordered (kid k ks) h =
      let two = both (is_proper k) (are_proper ks) h in
      let first = proper_ordered k two.0 in
      rw first (are_proper-ordered ks two.1)

-- what a caller of `find` and `holds` needs
pub ruleset keeps = (ordered_kids, proper_ordered)
