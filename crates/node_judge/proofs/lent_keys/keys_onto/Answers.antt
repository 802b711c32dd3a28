use Rattle.std.proofs.Common.{◌≡◌, ℕ, ◌-◌, ◌++◌, ◌∷◌, [], List, map, drop, sym, ap, ◌∙◌, append_assoc, append-nil, arith}
use Rattle.std.proofs.lemmas.List.{map-append}
use Rattle.keyed_tree.specs.Data.{PlainKey}
use Rattle.xa_fields.specs.Reading.{many_at}
use Rattle.xa_fields.proofs.Fields.{some_is}
use Rattle.xa_fields.proofs.Loops.{with_front, starts, goes_on, is_done}
use Rattle.record_parts.specs.Reading.{value_at}
use Rattle.record_parts.specs.ShownViews.{shown_body}
use Rattle.record_parts.specs.declared.views.BodyView.{BodyView}
use Rattle.node_judge.proofs.lent_keys.keys_onto.Goals as goal

pub loop-init : goal.loop-init
loop-init c =
    let now = drop c.args.at c.args.bytes.now in
    let all : c.args.count - 0 ≡ c.args.count = omega arith in
    record {
      within = c.requires;
      read = ([], sym (append-nil (map shown_body c.args.keys.now.items)), ap (λ (n : ℕ). with_front [] (many_at value_at n now)) all ∙ starts (many_at value_at c.args.count now));
    }

pub loop-preserved : goal.loop-preserved
loop-preserved c =
    let k = c.key_between.result in
    let l = c.loop in
    let done = l.invariant.read.0 in
    let e : map shown_body c.push_reserved.new.self.items ≡ map shown_body l.keys.items ++ shown_body k ∷ [] = ap (map shown_body) (c.push_reserved.ensures.items ∙ ap (λ (xs : List BodyView). xs ++ k ∷ []) c.in_ok-reserve.ensures.items) ∙ map-append shown_body l.keys.items (k ∷ []) in
    record {
      within = c.in_ok-end.ensures.next.1;
      read = (
        done ++ shown_body k ∷ [],
        e ∙ ap (λ (ks : List PlainKey). ks ++ shown_body k ∷ []) l.invariant.read.1 ∙ append_assoc (map shown_body c.args.keys.now.items) done (shown_body k ∷ []),
        goes_on value_at done c.args.count l.counter (drop l.at c.args.bytes.now) (shown_body k) (drop c.in_ok-end.end c.args.bytes.now) (many_at value_at c.args.count (drop c.args.at c.args.bytes.now)) c.loop-test.true c.key_between.ensures l.invariant.read.2,
      );
    }

pub returns : goal.returns
returns c ks rest e =
    let l = c.loop in
    let done = l.invariant.read.0 in
    let all = is_done value_at done c.args.count l.counter (drop l.at c.args.bytes.now) (many_at value_at c.args.count (drop c.args.at c.args.bytes.now)) c.loop-test.false l.invariant.read.2 in
    l.invariant.read.1 ∙ ap (λ (js : List PlainKey). map shown_body c.args.keys.now.items ++ js) (ap (λ x. x.0) (some_is (done, drop l.at c.args.bytes.now) (ks, rest) (sym all ∙ e)))
