use Rattle.std.proofs.lemmas.Grind.{common_steps}
use Rattle.std.proofs.Common.{rules, ◌≡◌, ◌++◌, ◌∷◌, [], map, drop, None, sym, ap, ◌∙◌, arith}
use Rattle.std.specs.Option.{option_map}
use Rattle.std.proofs.lemmas.List.{map_push}
use Rattle.jsonml_tree.specs.Data.{PlainAttr}
use Rattle.jsonml_tree.specs.LentAttrs.{lent_scalar_view}
use Rattle.jsonml_tree.specs.View.{attr_view}
use Rattle.record_parts.specs.Reading.{attr_at, next_attr}
use Rattle.xa_fields.specs.Reading.{chain_at}
use Rattle.xa_fields.proofs.Chains.{chain_on, chain_breaks, chain_stops, chain_done}
use Rattle.record_parts.specs.Names.{may, may_not}
use Rattle.record_parts.proofs.take_values.take_each_attr.Goals as goal

pub returns-in_default-clause-found : goal.returns-in_default-clause-found
returns-in_default-clause-found c =
    chain_breaks attr_at next_attr (option_map (λ s. s.now) c.loop.last) (map attr_view c.loop.attrs.items) c.args.count c.loop.counter (drop c.loop.at c.args.bytes.now) (chain_at attr_at next_attr None c.args.count (drop c.args.at c.args.bytes.now)) c.loop-test.true (sym c.in_default.ensures.found) c.loop.invariant.read

pub returns-then-not-is_above-clause-found : goal.returns-then-not-is_above-clause-found
returns-then-not-is_above-clause-found c =
    let a : PlainAttr = record { name = c.in-Some.name.now; value = lent_scalar_view c.in-Some.value } in
    chain_stops attr_at next_attr (option_map (λ s. s.now) c.loop.last) (map attr_view c.loop.attrs.items) c.args.count c.loop.counter (drop c.loop.at c.args.bytes.now) a (drop c.in-Some.next c.args.bytes.now) (chain_at attr_at next_attr None c.args.count (drop c.args.at c.args.bytes.now)) c.loop-test.true
    (sym c.in-Some.ensures.found) (may_not (option_map (λ s. s.now) c.loop.last) a (search rules)) c.loop.invariant.read

pub loop-preserved : goal.loop-preserved
loop-preserved c =
    let a : PlainAttr = record { name = c.in-Some.name.now; value = lent_scalar_view c.in-Some.value } in
    let n = c.in_ok-attr.attr in
    let n_is : attr_view n ≡ a = search rules in
    let e : map attr_view c.push.new.self.items ≡ map attr_view c.loop.attrs.items ++ a ∷ [] = rw c.in_ok-push.ensures.items (map_push _ c.loop.attrs.items n ∙ ap (λ (x : PlainAttr). map attr_view c.loop.attrs.items ++ x ∷ []) n_is) in
    record {
      within = c.in-Some.ensures.next;
      read = rw e (chain_on attr_at next_attr (option_map (λ s. s.now) c.loop.last) _ (map attr_view c.loop.attrs.items) c.args.count c.loop.counter (drop c.loop.at c.args.bytes.now) a (drop c.in-Some.next c.args.bytes.now) (chain_at attr_at next_attr None c.args.count (drop c.args.at c.args.bytes.now)) c.loop-test.true
          (sym c.in-Some.ensures.found) (may (option_map (λ s. s.now) c.loop.last) a (search rules)) c.loop.invariant.read);
    }

pub returns-clause-found : goal.returns-clause-found
returns-clause-found c = chain_done attr_at next_attr (option_map (λ s. s.now) c.loop.last) (map attr_view c.loop.attrs.items) c.args.count c.loop.counter (drop c.loop.at c.args.bytes.now) (chain_at attr_at next_attr None c.args.count (drop c.args.at c.args.bytes.now)) c.loop-test.false c.loop.invariant.read

pub loop-init : goal.loop-init
loop-init c = grind (arith, common_steps)

pub returns-in_default-clause-next : goal.returns-in_default-clause-next
returns-in_default-clause-next c = grind (arith, common_steps)

pub returns-then-not-is_above-clause-next : goal.returns-then-not-is_above-clause-next
returns-then-not-is_above-clause-next c = grind (arith, common_steps)

pub returns-clause-next : goal.returns-clause-next
returns-clause-next c = grind (arith, common_steps)
