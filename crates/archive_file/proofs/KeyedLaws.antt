-- Which keyed trees are keyed by closed rules: those that fit, are well formed and spell an element that is not too deep.
use Rattle.std.proofs.Common.{◌≡◌, ◌≤◌, ℕ, zero, suc, true, List, [], ◌∷◌, Ok, refl, sym, subst, arith}
use Rattle.std.specs.Prelude.{nat_le}
use Rattle.std.proofs.lemmas.Bool.Decides.{nat_tests}
use Rattle.std.specs.Result.{IsOk}
use Rattle.std.specs.List.{AllByRecursion}
use Rattle.jsonml_tree.specs.Data.{PlainTree, text, element, PlainContent, tree_depth}
use Rattle.jsonml_tree.specs.Fits.{IsElement}
use Rattle.jsonml_tree.specs.WellFormed.{IsWellFormed}
use Rattle.jsonml_tree.specs.declared.limits.TheConstants.{GREATEST_DEPTH}
use Rattle.keyed_tree.specs.Data.{PlainKeyed, label_of}
use Rattle.keyed_tree.specs.Plain.{plain}
use Rattle.keyed_tree.specs.Kids.{IsOrdered}
use Rattle.keyed_tree.specs.Proper.{IsProper}
use Rattle.keyed_tree.specs.Proper as keyed
use Rattle.keyed_tree.specs.WellFormed.{IsKeyedWellFormed}
use Rattle.keyed_tree.proofs.KidsKeep.{proper_ordered}
use Rattle.keyed_tree.proofs.PlainLemmas.{plain_well_formed}
use Rattle.key_spec.specs.Data.{PlainRule}
use Rattle.key_spec.specs.Rules.{below}
use Rattle.key_rules.specs.Labels.{label_in}
use Rattle.key_rules.specs.Satisfies.{AreApart, ContentSatisfies, Satisfies}
use Rattle.key_annotate.specs.Annotated.{keyed_tree}
use Rattle.key_annotate.specs.KeyedOf.{ContentKeyed, IsKeyedTreeOf}
use Rattle.key_annotate.specs.Stands.{Stands}
use Rattle.key_annotate.specs.Inside.{inside_of}
use Rattle.key_annotate.proofs.Insides.{plain-is}
use Rattle.key_annotate.proofs.ProperLemmas.{keyed-element, keyed-proper, keyed_tree-depth, keyed_tree-well}
use Rattle.key_annotate.proofs.Unique.{keyed_tree-one}
use Rattle.archive_file.proofs.Fits.{fits}
use Rattle.archive_file.specs.KeyedBy.{IsKeyedBy, AreKeyedBy}
use Rattle.archive_file.specs.Sound.{SoundAs}
use Rattle.archive_file.proofs.FitsLaws.{content-fits, tag_of, stands-at}
use Rattle.archive_file.proofs.Ways.{PathsLead}

-- what holds of a tree that is keyed
pub record IsFit (rules : List PlainRule) (k : PlainKeyed) : Type 0 where
  pub fit : fits rules [] k ≡ true
  pub shallow : nat_le (tree_depth (plain k)) GREATEST_DEPTH ≡ true

le-nat_le : (m n : ℕ) → m ≤ n → nat_le m n ≡ true
le-nat_le m n h = grind (arith, nat_tests)

nat_le-le : (m n : ℕ) → nat_le m n ≡ true → m ≤ n
nat_le-le m n h = grind (arith, nat_tests)

-- ---- what is keyed fits

document-fits : (rules : List PlainRule) → PathsLead rules → (t : PlainTree) (k : PlainKeyed) → IsElement t → IsWellFormed t → tree_depth t ≤ GREATEST_DEPTH → Satisfies rules t → IsKeyedTreeOf rules t k → IsFit rules k
document-fits rules lead (text s) k e w d sat h = absurd h
document-fits rules lead (element t c) k e w d sat h =
    let same = keyed_tree-one rules (element t c) k w sat h in
    let depth = keyed_tree-depth rules (element t c) e in
    record {
      fit = content-fits rules lead [] t c k h.0 h.1 sat.inside;
      shallow = subst (λ z. nat_le (tree_depth (plain z)) GREATEST_DEPTH ≡ true) (sym same) (le-nat_le (tree_depth (plain (keyed_tree rules (element t c)))) GREATEST_DEPTH (omega arith));
    }

pub keyed-fit : (rules : List PlainRule) → PathsLead rules → (k : PlainKeyed) → IsKeyedBy rules k → IsFit rules k
keyed-fit rules lead k h = document-fits rules lead h.document k h.element h.well_formed h.shallow h.satisfies h.stands

-- ---- what fits is keyed

alone : (rules : List PlainRule) (t : PlainTree) → AreApart rules [] (t ∷ [])
alone rules t zero zero k l other at_i at_j = absurd (other refl)
alone rules t zero (suc j) k l other at_i at_j = cc
alone rules t (suc i) j k l other at_i at_j = cc

element-keyed : (rules : List PlainRule) (t : List ℕ) (c : PlainContent) (k : PlainKeyed) → IsWellFormed (element t c) → tree_depth (element t c) ≤ GREATEST_DEPTH
    → label_in rules [] t c ≡ Ok (label_of k) → ContentKeyed rules (below [] t) c k → ContentSatisfies rules (below [] t) c → IsKeyedBy rules k
element-keyed rules t c k w d e h s = record {
  document = element t c;
  element = refl;
  well_formed = w;
  shallow = d;
  satisfies = record { good = (subst (λ r. IsOk r) (sym e) refl, tt); apart = alone rules (element t c); inside = s };
  stands = (e, h);
}

pub fit-keyed : (rules : List PlainRule) → PathsLead rules → (k : PlainKeyed) → IsKeyedWellFormed k → IsFit rules k → IsKeyedBy rules k
fit-keyed rules lead k well h =
    let s = stands-at rules lead [] k h.fit in
    let spelled = plain-is k in
    let proper = keyed-proper rules (element (tag_of k) (inside_of k)) k (s.label, s.keyed) in
    element-keyed rules (tag_of k) (inside_of k) k (subst IsWellFormed spelled (plain_well_formed k proper well)) (subst (λ p. tree_depth p ≤ GREATEST_DEPTH) spelled (nat_le-le (tree_depth (plain k)) GREATEST_DEPTH h.shallow)) s.label s.keyed s.satisfies

-- the keyed tree of a document that satisfies the rules and is not too deep is keyed by them
pub stands-keyed : (rules : List PlainRule) (t : PlainTree) (k : PlainKeyed) → IsElement t → IsWellFormed t → tree_depth t ≤ GREATEST_DEPTH → Stands rules t k → IsKeyedBy rules k
stands-keyed rules t k e w d h = record { document = t; element = e; well_formed = w; shallow = d; satisfies = h.satisfies; stands = h.keyed }

-- ---- what is keyed is an element, proper, ordered and well formed

pub keyed-is_element : (rules : List PlainRule) (k : PlainKeyed) → IsKeyedBy rules k → keyed.IsElement k
keyed-is_element rules k h = keyed-element rules h.document k h.stands

pub keyed-is_proper : (rules : List PlainRule) (k : PlainKeyed) → IsKeyedBy rules k → IsProper k
keyed-is_proper rules k h = keyed-proper rules h.document k h.stands

pub keyed-is_ordered : (rules : List PlainRule) (k : PlainKeyed) → IsKeyedBy rules k → IsOrdered k
keyed-is_ordered rules k h = proper_ordered k (keyed-is_proper rules k h)

pub keyed-is_well_formed : (rules : List PlainRule) (k : PlainKeyed) → IsKeyedBy rules k → IsKeyedWellFormed k
keyed-is_well_formed rules k h = subst IsKeyedWellFormed (sym (keyed_tree-one rules h.document k h.well_formed h.satisfies h.stands)) (keyed_tree-well rules h.document h.well_formed)

-- ---- it spells a document that is not too deep

keyed-plain : (rules : List PlainRule) (k : PlainKeyed) → IsKeyedBy rules k → IsProper k × (tree_depth (plain k) ≤ GREATEST_DEPTH)
keyed-plain rules k h =
    let t = h.document in
    let same = keyed_tree-one rules t k h.well_formed h.satisfies h.stands in
    let depth = keyed_tree-depth rules t h.element in
    let shallow : tree_depth t ≤ GREATEST_DEPTH = h.shallow in
    let short : tree_depth (plain (keyed_tree rules t)) ≤ GREATEST_DEPTH = omega arith in
    (keyed-proper rules t k h.stands, subst (λ z. tree_depth (plain z) ≤ GREATEST_DEPTH) (sym same) short)

pub keyed-shallow : (rules : List PlainRule) (k : PlainKeyed) → IsKeyedBy rules k → tree_depth (plain k) ≤ GREATEST_DEPTH
keyed-shallow rules k h = (keyed-plain rules k h).1

all-plain : (rules : List PlainRule) (vs : List PlainKeyed) → AreKeyedBy rules vs → AllByRecursion (λ v. IsProper v × (tree_depth (plain v) ≤ GREATEST_DEPTH)) vs
all-plain rules [] h = tt
all-plain rules (v ∷ vs) h = (keyed-plain rules v h.0, all-plain rules vs h.1)

pub sound-plain : (rules : List PlainRule) (vs : List PlainKeyed) (bytes : List ℕ) → SoundAs rules vs bytes → AllByRecursion (λ v. IsProper v × (tree_depth (plain v) ≤ GREATEST_DEPTH)) vs
sound-plain rules vs bytes s = all-plain rules vs s.keyed
