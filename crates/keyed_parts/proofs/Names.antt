-- Names that are tags.
use Rattle.std.proofs.Common.{◌≡◌, true, refl}
use Rattle.keyed_tree.specs.Data.{PlainName, attr, tag, name_bytes}
use Rattle.keyed_tree.specs.Proper.{is_tag}

pub named-by-tag : (n : PlainName) → is_tag n ≡ true → tag (name_bytes n) ≡ n
named-by-tag (attr s) e = absurd cc
named-by-tag (tag t) e = refl
