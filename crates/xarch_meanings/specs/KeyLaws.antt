-- What holds of the names between the commas of a word that spells key columns.
use Rattle.std.proofs.Common.{◌≡◌, ℕ, true, not, nat_le, List, [], length, eqb, arith}
use Rattle.std.specs.List.{list_all}
use Rattle.std.proofs.lemmas.Bool.{and_parts, leb-true, not-true}
use Rattle.std.proofs.lemmas.List.Splits.{length-slice_split}
use Rattle.key_spec.specs.Names.{is_name}
use Rattle.csv_tables.specs.Keys.{AreKeys}
use Rattle.csv_tables.specs.Records.{repeats}
use Rattle.xarch_words.specs.Commands.{are_keys, key_names}

pub spelled-keys : (word : List ℕ) → are_keys word ≡ true → AreKeys (key_names word)
unfolding are_keys
spelled-keys word e =
    let some = length-slice_split (λ b. eqb b 44) word in
    let parts = and_parts (nat_le (length (key_names word)) 16) _ e in
    let more = and_parts (list_all is_name (key_names word)) _ parts.1 in
    record { some = omega (arith, some); few = leb-true (length (key_names word)) 16 parts.0; named = more.0; different = not-true (repeats [] (key_names word)) more.1 }
