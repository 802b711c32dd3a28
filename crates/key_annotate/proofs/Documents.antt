-- What the builder's answer on a document says.
use Rattle.std.proofs.Common.{◌≡◌, List, [], Some, None, refl, sym, subst}
use Rattle.jsonml_tree.specs.Data.{PlainTree}
use Rattle.jsonml_tree.specs.Fits.{IsElement}
use Rattle.jsonml_tree.specs.WellFormed.{IsWellFormed}
use Rattle.keyed_tree.specs.Data.{PlainKeyed}
use Rattle.keyed_tree.specs.WellFormed.{IsKeyedWellFormed}
use Rattle.key_spec.specs.Data.{PlainRule}
use Rattle.key_rules.specs.Satisfies.{Satisfies}
use Rattle.key_rules.proofs.Law.{first_fault-None}
use Rattle.key_annotate.specs.Annotated.{keyed_tree}
use Rattle.key_annotate.specs.Ordered.{built_tree}
use Rattle.key_annotate.specs.KeyedOf.{IsKeyedTreeOf}
use Rattle.key_annotate.specs.Laws.{KeyedLaws}
use Rattle.key_annotate.specs.Stands.{Stands}
use Rattle.key_annotate.proofs.Alikes.{keyed-alike}
use Rattle.key_annotate.proofs.Built.{built_tree-None, built_tree-Some}
use Rattle.key_annotate.proofs.Unique.{keyed_tree-keyed, keyed_tree-one}
use Rattle.key_annotate.proofs.ProperLemmas.{keyed-proper, keyed-element, proper-ordered, keyed_tree-well, keyed_tree-depth}

pub keyed-laws : (rules : List PlainRule) (t : PlainTree) → IsElement t → IsWellFormed t → KeyedLaws rules t
keyed-laws rules t e w =
    let alone : Satisfies rules t → (k : PlainKeyed) → IsKeyedTreeOf rules t k → k ≡ keyed_tree rules t = λ s k h. keyed_tree-one rules t k w s h in
    record {
      satisfied = λ s. (first_fault-None rules t).1 s;
      faultless = λ none. (first_fault-None rules t).0 none;
      one = λ s. record { stands = keyed_tree-keyed rules t w s e; alone = alone s };
      well_formed = λ s k h. subst IsKeyedWellFormed (sym (alone s k h)) (keyed_tree-well rules t w);
      proper = record {
        element = λ k h. keyed-element rules t k h;
        proper = λ k h. keyed-proper rules t k h;
        ordered = λ k h. proper-ordered k (keyed-proper rules t k h);
      };
      alike = record { alike = λ u k j h g. keyed-alike rules t u k j h g };
    }

-- a tree that was built
pub stands : (rules : List PlainRule) (t : PlainTree) (k : PlainKeyed) → IsElement t → IsWellFormed t → Some k ≡ built_tree rules [] t → Stands rules t k
stands rules t k e w d =
    let two = built_tree-Some rules t k w d in
    let one = keyed_tree-keyed rules t w two.0 e in
    let proper = keyed-proper rules t (keyed_tree rules t) one in
    let of_tree : Stands rules t (keyed_tree rules t) = record {
      satisfies = two.0;
      fault = (first_fault-None rules t).1 two.0;
      tree = refl;
      keyed = one;
      element = keyed-element rules t (keyed_tree rules t) one;
      proper = proper;
      ordered = proper-ordered (keyed_tree rules t) proper;
      well_formed = keyed_tree-well rules t w;
      depth = keyed_tree-depth rules t e;
    } in
    subst (Stands rules t) (sym two.1) of_tree

-- where none was built the keys are not satisfied
pub not-built : (rules : List PlainRule) (t : PlainTree) → IsElement t → IsWellFormed t → None ≡ built_tree rules [] t → ¬ Satisfies rules t
not-built rules t e w d = λ s. built_tree-None rules t w s e (sym d)

pub ruleset documents = (keyed-laws, stands, not-built)
