use Rattle.std.proofs.lemmas.Grind.{common_steps}
use Rattle.std.proofs.Common.{◌≡◌, ◌++◌, ◌∷◌, [], List, ℕ, Ok, map, length, string_bytes, arith, rules, sym, ap, ◌∙◌, subst, IsTrue}
use Rattle.std.proofs.lemmas.List.{map-append}
use Rattle.jsonml_tree.specs.Data.{PlainAttr}
use Rattle.jsonml_tree.specs.View.{attr_view, scalar_view}
use Rattle.jsonml_tree.specs.WellFormed.{are_in_range}
use Rattle.jsonml_tree.specs.declared.scalar.Attr.{Attr}
use Rattle.serde_json.specs.View.{members_view}
use Rattle.jsonml_text.specs.Spelled.{mapped, attrs_at}
use Rattle.jsonml_text.proofs.Spelling.{Reads-handed}
use Rattle.jsonml_text.proofs.OwnTexts.{attr_texts}
use Rattle.jsonml_text.proofs.Attributes.{attrs_stop, attrs_step, attrs_done, in_range_push, names_kept, is_ascending-from_sorted}
use Rattle.jsonml_text.proofs.scalar.read_attrs.Goals as goal

pub returns-in_err-attr-clause-attrs : goal.returns-in_err-attr-clause-attrs
returns-in_err-attr-clause-attrs c =
    λ place. Reads-handed {T = Attr} (λ a. scalar_view a.value) _ _ _ place place place c.in_err-attr.field-0.0 _
    (λ fault e. sym (c.loop-name.invariant.so_far place) ∙ attrs_stop place (map attr_view c.loop-name.attrs.items) c.loop-name.name-iterator c.next.new.self c.in-Some.name.now c.in-Some.value.now fault c.in-Some.ensures.steps e)
    (c.in_err-attr.ensures.scalar place) c.from_residual-in_err-attr.ensures.1

pub push_reserved-requires : goal.push_reserved-requires
push_reserved-requires c = omega (arith, ap length c.in-Some.ensures.steps, c.loop-name.invariant.room)

pub loop-name-preserved : goal.loop-name-preserved
loop-name-preserved c =
    let done = map attr_view c.loop-name.attrs.items in
    let named : string_bytes c.in_ok-attr.attr.name ≡ string_bytes c.in-Some.name.now = c.in_ok-attr.ensures.name ∙ c.as_str.ensures.value in
    let one : PlainAttr = record { name = string_bytes c.in-Some.name.now; value = scalar_view c.in_ok-attr.attr.value } in
    let same : attr_view c.in_ok-attr.attr ≡ one = ap (λ (n : List ℕ). record { name = n; value = scalar_view c.in_ok-attr.attr.value }) named in
    let more : map attr_view c.push_reserved.new.self.items ≡ done ++ one ∷ [] =
    ap (map attr_view) c.push_reserved.ensures.items ∙ map-append attr_view c.loop-name.attrs.items _ ∙ ap (λ a. done ++ a ∷ []) same in
    record {
      in_range = subst (λ (xs : List PlainAttr). IsTrue (are_in_range xs)) (sym more) (in_range_push done one c.loop-name.invariant.in_range c.in_ok-attr.ensures.in_range);
      so_far = λ place. ap (λ l. mapped (λ xs. l ++ xs) (attrs_at place (members_view c.next.new.self))) more
          ∙ attrs_step place done c.loop-name.name-iterator c.next.new.self c.in-Some.name.now c.in-Some.value.now one.value c.in-Some.ensures.steps (c.in_ok-attr.ensures.scalar place).0
          ∙ c.loop-name.invariant.so_far place;
      room = omega (arith, ap length c.in-Some.ensures.steps, c.loop-name.invariant.room, c.push_reserved.ensures.len, c.push_reserved.ensures.capacity);
    }

pub returns-clause-kept : goal.returns-clause-kept
returns-clause-kept c =
    let done = map attr_view c.loop-name.attrs.items in
    let whole : attrs_at [] (members_view c.args.members.now.entries) ≡ Ok done = sym (c.loop-name.invariant.so_far []) ∙ attrs_done [] done c.loop-name.name-iterator (search rules) in
    record {
      ascending = is_ascending-from_sorted _ done (names_kept [] c.args.members.now.entries done whole) c.iter-name-items.ensures.ordered;
      in_range = c.loop-name.invariant.in_range;
      texts = attr_texts c.loop-name.attrs.items;
    }

pub loop-name-init : goal.loop-name-init
loop-name-init c = grind (arith, common_steps)

pub returns-clause-attrs : goal.returns-clause-attrs
returns-clause-attrs c = grind (arith, common_steps)
