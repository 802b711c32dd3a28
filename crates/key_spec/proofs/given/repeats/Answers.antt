use Rattle.std.proofs.Common.{◌≡◌, [], ◌∷◌, ◌++◌, ◌+◌, true, false, map, take, drop, sym, ap, ◌∙◌, subst, string_bytes, arith}
use Rattle.std.proofs.lemmas.Bool.{not-true, not-false}
use Rattle.std.proofs.lemmas.List.{map-append}
use Rattle.std.specs.BTreeSet.{contains_text}
use Rattle.std.specs.List.{list_any}
use Rattle.key_spec.specs.Names.{path_text}
use Rattle.key_spec.specs.Closed.{is_same_path, repeats}
use Rattle.key_spec.specs.Texts.{has_text, Holds}
use Rattle.key_spec.specs.View.{path_view}
use Rattle.key_spec.proofs.PathLemmas.{has_text-paths, named_parts, repeats-new, repeats-old}
use Rattle.key_spec.proofs.Steps.{map-drop, map-take, map-split}
use Rattle.key_spec.proofs.TextLemmas.{Holds-Adds}
use Rattle.key_spec.proofs.given.repeats.Goals as goal

pub returns-then-not-new : goal.returns-then-not-new
returns-then-not-new c =
    let paths = c.args.paths.now in
    let i = c.loop-path.path-index in
    let item = c.path-item.result in
    let path = path_view item in
    let earlier = map path_view (take i paths) in
    let more = map path_view (drop (i + 1) paths) in
    let named = named_parts (map path_view paths) earlier more path (map-split path_view paths i item (omega arith) c.path-item.is) c.requires in
    let known : contains_text c.loop-path.texts (string_bytes c.in_ok-text.field-0) ≡ list_any (is_same_path path) earlier =
    c.loop-path.invariant.texts (string_bytes c.in_ok-text.field-0) ∙ ap (has_text (map path_text earlier)) c.in_ok-text.ensures ∙ has_text-paths earlier path named.0 named.1 in
    let found : list_any (is_same_path path) earlier ≡ true = sym known ∙ not-false _ (sym c.in_ok-new.ensures.new ∙ c.if-not-new.true) in
    sym (c.loop-path.invariant.left ∙ ap (repeats earlier) (map-drop path_view paths i item (omega arith) c.path-item.is) ∙ repeats-old earlier more path found)

pub loop-path-preserved : goal.loop-path-preserved
loop-path-preserved c =
    let paths = c.args.paths.now in
    let i = c.loop-path.path-index in
    let item = c.path-item.result in
    let path = path_view item in
    let text = string_bytes c.in_ok-text.field-0 in
    let earlier = map path_view (take i paths) in
    let more = map path_view (drop (i + 1) paths) in
    let named = named_parts (map path_view paths) earlier more path (map-split path_view paths i item (omega arith) c.path-item.is) c.requires in
    let known : contains_text c.loop-path.texts text ≡ list_any (is_same_path path) earlier =
    c.loop-path.invariant.texts text ∙ ap (has_text (map path_text earlier)) c.in_ok-text.ensures ∙ has_text-paths earlier path named.0 named.1 in
    let fresh : list_any (is_same_path path) earlier ≡ false = sym known ∙ not-true _ (sym c.in_ok-new.ensures.new ∙ c.if-not-new.false) in
    let longer = map-take path_view paths i item (omega arith) c.path-item.is in
    let all : map path_text earlier ++ text ∷ [] ≡ map path_text (map path_view (take (i + 1) paths)) =
    ap (λ t. map path_text earlier ++ t ∷ []) c.in_ok-text.ensures ∙ sym (map-append path_text earlier (path ∷ [])) ∙ ap (map path_text) (sym longer) in
    record {
      left = c.loop-path.invariant.left ∙ ap (repeats earlier) (map-drop path_view paths i item (omega arith) c.path-item.is) ∙ repeats-new earlier more path fresh ∙ ap (λ e. repeats e more) (sym longer);
      texts = subst (λ ts. Holds c.add_text.new.texts ts) all (Holds-Adds c.loop-path.texts c.add_text.new.texts (map path_text earlier) (text ∷ []) c.loop-path.invariant.texts c.in_ok-new.ensures.added);
    }
