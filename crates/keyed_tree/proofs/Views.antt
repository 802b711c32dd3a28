-- The view of each shape of a value.
use Rattle.std.proofs.Common.{◌≡◌, map, rules, Vec, Global}
use Rattle.keyed_tree.specs.Data.{inner, leaf, kids_from, kids_of}
use Rattle.keyed_tree.specs.View.{key_view, label_view, keyed_view}
use Rattle.keyed_tree.specs.declared.label.KeyVal.{KeyVal}
use Rattle.keyed_tree.specs.declared.label.Label.{Label}
use Rattle.keyed_tree.specs.declared.keyed.Keyed.{Keyed, Inner, Leaf, the_lemmas}
use Rattle.keyed_tree.proofs.Kids.{kids_list-kids_from}

pub keyed_view-Inner : (l : Label) (ks : Vec Keyed Global) → keyed_view (Inner l ks) ≡ inner (label_view l) (kids_from (map keyed_view ks.items))
keyed_view-Inner l ks = search (rules, the_lemmas)

pub keyed_view-Leaf : (l : Label) (b : KeyVal) → keyed_view (Leaf l b) ≡ leaf (label_view l) (key_view b)
keyed_view-Leaf l b = search (rules, the_lemmas)

pub kids_of-Inner : (l : Label) (ks : Vec Keyed Global) → kids_of (keyed_view (Inner l ks)) ≡ map keyed_view ks.items
kids_of-Inner l ks = search (rules, the_lemmas, kids_list-kids_from)

pub ruleset views = (keyed_view-Inner, keyed_view-Leaf, kids_of-Inner, kids_list-kids_from)
