-- The leaf that a path leads to has the contents of the log.
use Rattle.std.proofs.Common.{◌≡◌, ◌≢◌, ℕ, List, [], ◌∷◌, map, Option, Some, None, refl, ap, sym, subst, ◌∙◌}
use Rattle.std.specs.List.{AllByRecursion}
use Rattle.std.specs.Option.{option_and_then}
use Rattle.version_set.specs.Members.{members, upto_pairs}
use Rattle.version_set.proofs.Sets.{members-upto_pairs}
use Rattle.keyed_tree.specs.Alike.{IsInner, IsLeaf}
use Rattle.keyed_tree.specs.Data.{PlainKey, PlainLabel, PlainKeyed, inner, leaf, kids_of}
use Rattle.keyed_tree.specs.Kids.{kid_at}
use Rattle.keyed_tree.specs.Paths.{node_at}
use Rattle.archive_tree.specs.Data.{Stamp, eff, PlainAlt, PlainNode, inner_node, leaf_node, PlainNodes, node_stamp, node_kids, nodes_list, PlainArchive}
use Rattle.archive_tree.specs.Seek.{node_with}
use Rattle.archive_tree.specs.Stands.{nums, those, passed, under, rooted, numbered, StandsFor, ArchiveOf}
use Rattle.archive_tree.proofs.Histories.{node_has, no_node, Row}
use Rattle.archive_tree.proofs.Parts.{each_has}
use Rattle.archive_tree.proofs.Readings.{numbers}
use Rattle.archive_tree.proofs.Those.{onto, those_ascend, orderly_numbered}
use Rattle.record_format.specs.Nodes.{set_in}
use Rattle.file_history.specs.Leads.{PlainSpot, onto_node, lead, node_along}
use Rattle.std.specs.Ordering.{nat_cmp}
use Rattle.keyed_tree.specs.Lists.{Ascends}
use Rattle.archive_tree.specs.Stands.{nums_with}
use Rattle.content_log.specs.Log.{Entry, found_at, at_path, bodies_in, each_once, entries_of, log}
use Rattle.content_log.specs.Written.{AloneOrStored}
use Rattle.content_log.proofs.Alone.{alone-or-stored}
use Rattle.content_log.proofs.Once.{alt_entry, leaf_entries}

-- ---- what is picked of numbered trees

those-those : (f g : PlainKeyed → Option PlainKeyed) (ws : List (ℕ × PlainKeyed)) → those g (those f ws) ≡ those (λ k. option_and_then g (f k)) ws
those-those f g [] = refl
those-those f g (w ∷ ws) =
    let rest = those-those f g ws in
    elim (f w.1) as (λ o. those g (onto w.0 o (those f ws)) ≡ onto w.0 (option_and_then g o) (those (λ k. option_and_then g (f k)) ws)) [
      | None ↦ rest
      | Some k ↦ ap (λ z. onto w.0 (g k) z) rest
    ]

those-Some : (ws : List (ℕ × PlainKeyed)) → those (λ k. Some k) ws ≡ ws
those-Some [] = refl
those-Some (w ∷ ws) = ap (λ z. w ∷ z) (those-Some ws)

-- a leaf has no kids
no_kid : (m : PlainLabel) (ls : List PlainLabel) (ws : List (ℕ × PlainKeyed)) → AllByRecursion (λ w. IsLeaf w.1) ws → those (node_at (m ∷ ls)) ws ≡ []
no_kid m ls [] h = refl
no_kid m ls (w ∷ ws) h = (let e = leaf_none w.1 h.0 in rw e (no_kid m ls ws h.1))
  where
    leaf_none : (k : PlainKeyed) → IsLeaf k → node_at (m ∷ ls) k ≡ None
    leaf_none (inner l ks) g = absurd g
    leaf_none (leaf l b) g = refl

no_body : (ws : List (ℕ × PlainKeyed)) → AllByRecursion (λ w. IsInner w.1) ws → bodies_in ws ≡ []
no_body [] h = refl
no_body (w ∷ ws) h = inside w.1 h.0 (no_body ws h.1)
  where
    inside : (k : PlainKeyed) → IsInner k → bodies_in ws ≡ [] → bodies_in ((w.0, k) ∷ ws) ≡ []
    inside (inner l ks) g rest = rest
    inside (leaf l b) g rest = absurd g

empty_list : {X : Type 0} (xs : List X) → ¬ (xs ≢ []) → xs ≡ []
empty_list [] h = refl
empty_list (x ∷ xs) h = absurd (h (λ e. cc))

pub set-members : (s : Stamp) (parent : List (ℕ × ℕ)) → members (set_in s parent) ≡ eff s (members parent)
set-members None parent = refl
set-members (Some set) parent = refl

-- ---- the way down

-- the node stands for these trees under its parent, and where there is none there are none
abbrev IsThere : Option PlainSpot → List (ℕ × PlainKeyed) → Type 0
IsThere None us = us ≡ []
IsThere (Some p) us = StandsFor p.node us (members p.parent)

-- what a rest of a path leads to behind a node
abbrev LeadsTo : List PlainLabel → Type 0
LeadsTo ls = (k : PlainNode) (ws : List (ℕ × PlainKeyed)) (parent : List (ℕ × ℕ)) → StandsFor k ws (members parent) → IsThere (lead ls (Some (record { parent = parent; node = k })) (set_in (node_stamp k) parent) (node_kids k)) (those (node_at ls) ws)

lead_row : (ls : List PlainLabel) (l : PlainLabel) (ks : PlainNodes) (u : PlainLabel → List (ℕ × PlainKeyed)) (set : List (ℕ × ℕ)) → LeadsTo ls → Row ks u (members set) → IsThere (onto_node (lead ls) set (node_with l (nodes_list ks))) (those (node_at ls) (u l))
lead_row ls l ks u set below h =
    elim (node_with l (nodes_list ks)) as (λ o. node_with l (nodes_list ks) ≡ o → IsThere (onto_node (lead ls) set o) (those (node_at ls) (u l))) [
      | None ↦ λ e. (let none : u l ≡ [] = empty_list (u l) (λ s. no_node l (nodes_list ks) e (h.covered l s)) in ap (those (node_at ls)) none)
      | Some k ↦ λ e. (let found = node_has l k (nodes_list ks) e in below k (u l) set (subst (λ z. StandsFor k (u z) (members set)) found.1 (each_has ks u (members set) k h.kids found.0)))
    ] refl

lead_node : (ls : List PlainLabel) → LeadsTo ls
lead_node [] k ws parent h = subst (λ us. StandsFor k us (members parent)) (sym (those-Some ws)) h
lead_node (m ∷ ls) (inner_node l s ks) ws parent h =
    let set : nums ws ≡ members (set_in s parent) = sym (set-members s parent ∙ h.common.stamped.effective) in
    subst (IsThere (onto_node (lead ls) (set_in s parent) (node_with m (nodes_list ks)))) (those-those (λ k. kid_at m (kids_of k)) (node_at ls) ws)
    (lead_row ls m ks (under ws) (set_in s parent) (lead_node ls) (subst (Row ks (under ws)) set h.row))
lead_node (m ∷ ls) (leaf_node l s xs) ws parent h = no_kid m ls ws h.leaves

lead_all : (vs : List PlainKeyed) (a : PlainArchive) (path : List PlainLabel) → ArchiveOf vs a → IsThere (node_along a path) (at_path vs path)
lead_all vs a [] h = none (numbered vs)
  where
    none : (ws : List (ℕ × PlainKeyed)) → those (found_at []) ws ≡ []
    none [] = refl
    none (w ∷ ws) = none ws
lead_all vs a (l ∷ ls) h =
    let set : nums (numbered vs) ≡ members (upto_pairs a.n) = numbers vs a h ∙ sym (members-upto_pairs a.n) in
    subst (IsThere (node_along a (l ∷ ls))) (those-those (passed _) (node_at ls) (numbered vs))
    (lead_row ls l a.kids (rooted (numbered vs)) (upto_pairs a.n) (lead_node ls) (subst (Row a.kids (rooted (numbered vs))) set h.row))

-- the alternatives of the leaf that is there
pub leaf_alone : (vs : List PlainKeyed) (a : PlainArchive) (path : List PlainLabel) (parent : List (ℕ × ℕ)) (l : PlainLabel) (s : Stamp) (xs : List PlainAlt) → ArchiveOf vs a → node_along a path ≡ Some (record { parent = parent; node = leaf_node l s xs }) → AloneOrStored xs
leaf_alone vs a path parent l s xs h is =
    let there = subst (λ (o : Option PlainSpot). IsThere o (at_path vs path)) is (lead_all vs a path h) in
    alone-or-stored (at_path vs path) (those_ascend (found_at path) (numbered vs) (orderly_numbered vs h.ordered).ascending) xs there.different there.alts

-- ---- what is logged of it

abbrev pub leaf_log : List (ℕ × ℕ) → PlainNode → List Entry
leaf_log parent (inner_node l s ks) = []
leaf_log parent (leaf_node l s xs) = map (alt_entry (members (set_in s parent))) xs

abbrev pub spot_log : Option PlainSpot → List Entry
spot_log None = []
spot_log (Some p) = leaf_log p.parent p.node

logged : (o : Option PlainSpot) (us : List (ℕ × PlainKeyed)) → Ascends nat_cmp (nums us) → IsThere o us → entries_of us ≡ spot_log o
logged None us up h = ap entries_of h
logged (Some p) us up h = at-node p.parent p.node h
  where
    at-node : (parent : List (ℕ × ℕ)) (k : PlainNode) → StandsFor k us (members parent) → entries_of us ≡ leaf_log parent k
    at-node parent (inner_node l s ks) g = entries_none (bodies_in us) (no_body us g.inners)
      where
        entry : PlainKey → Entry
        entry b = record { numbers = nums_with us b; body = b }

        entries_none : (bs : List PlainKey) → bs ≡ [] → map entry (each_once bs) ≡ []
        entries_none bs e = ap (λ (cs : List PlainKey). map entry (each_once cs)) e
    at-node parent (leaf_node l s xs) g =
        leaf_entries us l s xs (members parent) up g ∙ ap (λ ns. map (alt_entry ns) xs) (sym (set-members s parent ∙ g.common.stamped.effective))

-- the leaf at the path has the contents of the log
pub log_is : (vs : List PlainKeyed) (a : PlainArchive) (path : List PlainLabel) → ArchiveOf vs a → log vs path ≡ spot_log (node_along a path)
log_is vs a path h = logged (node_along a path) (at_path vs path) (those_ascend (found_at path) (numbered vs) (orderly_numbered vs h.ordered).ascending) (lead_all vs a path h)
