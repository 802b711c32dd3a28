use Rattle.std.proofs.Common.{IsTrue, ◌↔◌, length, subst, string_bytes, sym, ◌∙◌, arith}
use Rattle.std.proofs.lemmas.Bool.{false≢true, eqb-true, eqb-false}
use Rattle.std.proofs.lemmas.List.{length-map}
use Rattle.key_spec.specs.View.{names_view}
use Rattle.csv_tables.specs.Keys.{AreKeys}
use Rattle.csv_tables.proofs.KeyLemmas.{keys-good, keys-bad}
use Rattle.csv_tables.proofs.keys.are_keys.Goals as goal

pub returns-then-is_empty : goal.returns-then-is_empty
returns-then-is_empty c =
    keys-bad (names_view c.args.keys.now)
    (λ k. let len = length-map c.args.keys.now string_bytes in let none = eqb-true (length c.args.keys.now) 0 (sym c.is_empty.ensures ∙ c.if-is_empty.true) in absurd (omega (arith, k.some, len, none)))

pub returns-then-keys-gt-MOST : goal.returns-then-keys-gt-MOST
returns-then-keys-gt-MOST c = keys-bad (names_view c.args.keys.now) (λ k. let len = length-map c.args.keys.now string_bytes in absurd (omega (arith, k.few, len)))

pub returns-then-are_names : goal.returns-then-are_names
returns-then-are_names c =
    let len = length-map c.args.keys.now string_bytes in
    let other = eqb-false (length c.args.keys.now) 0 (sym c.is_empty.ensures ∙ c.if-is_empty.false) in
    keys-good (names_view c.args.keys.now) c.are_different.result (omega (arith, len, other)) (omega (arith, len)) (sym c.are_names.ensures ∙ c.if-are_names.true) c.are_different.ensures

pub returns-else-are_names : goal.returns-else-are_names
returns-else-are_names c =
    subst (λ b. IsTrue b ↔ AreKeys (names_view c.args.keys.now)) (sym c.if-are_names.false)
    (keys-bad (names_view c.args.keys.now) (λ k. false≢true (sym c.if-are_names.false ∙ c.are_names.ensures ∙ k.named)))
