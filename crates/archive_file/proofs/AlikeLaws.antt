-- Trees that are keyed by one specification are alike.
use Rattle.std.proofs.Common.{List}
use Rattle.keyed_tree.specs.Alike.{Alike, AllAlike}
use Rattle.keyed_tree.specs.Data.{PlainKeyed}
use Rattle.jsonml_tree.proofs.Lists.{all_has}
use Rattle.key_spec.specs.Data.{PlainRule}
use Rattle.key_annotate.proofs.Alikes as documents
use Rattle.archive_file.specs.KeyedBy.{IsKeyedBy, AreKeyedBy}

pub both-alike : (rules : List PlainRule) (k j : PlainKeyed) → IsKeyedBy rules k → IsKeyedBy rules j → Alike k j
both-alike rules k j h g = documents.keyed-alike rules h.document g.document k j h.stands g.stands

pub keyed-alike : (rules : List PlainRule) (vs : List PlainKeyed) → AreKeyedBy rules vs → AllAlike vs
keyed-alike rules vs h k j m n = both-alike rules k j (all_has (IsKeyedBy rules) vs k h m) (all_has (IsKeyedBy rules) vs j h n)
