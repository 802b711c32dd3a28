-- A keyed tree spells the element of its tag with what it holds.
use Rattle.std.proofs.Common.{◌≡◌, refl}
use Rattle.jsonml_tree.specs.Data.{element}
use Rattle.jsonml_tree.specs.Fits.{IsElement}
use Rattle.keyed_tree.specs.Data.{PlainKeyed, inner, leaf, label_of}
use Rattle.keyed_tree.specs.Plain.{name_bytes, plain}
use Rattle.key_annotate.specs.Inside.{inside_of}

pub plain-is : (k : PlainKeyed) → plain k ≡ element (name_bytes (label_of k).name) (inside_of k)
plain-is (inner l ks) = refl
plain-is (leaf l b) = refl

pub plain-element : (k : PlainKeyed) → IsElement (plain k)
plain-element (inner l ks) = refl
plain-element (leaf l b) = refl
