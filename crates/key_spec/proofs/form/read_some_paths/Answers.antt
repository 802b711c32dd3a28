use Rattle.std.proofs.lemmas.Grind.{common_steps}
use Rattle.std.proofs.Common.{◌≡◌, ℕ, List, [], ◌∷◌, ◌++◌, Some, None, option_map, map, sym, ap, ◌∙◌, Bor, rules, arith}
use Rattle.std.proofs.lemmas.List.{map-append}
use Rattle.key_spec.specs.Data.{PlainPath}
use Rattle.key_spec.specs.Names.{path_of}
use Rattle.key_spec.specs.Form.{Token, tokens, behind, first_as, some_paths}
use Rattle.key_spec.specs.View.{path_view}
use Rattle.key_spec.specs.declared.rule.KeyPath.{KeyPath}
use Rattle.key_spec.proofs.FormLemmas.{some_paths-none, some_paths-last, some_paths-stop, some_paths-more, one_more_path}
use Rattle.key_spec.proofs.form.read_some_paths.Goals as goal

pub loop-paths-preserved : goal.loop-paths-preserved
loop-paths-preserved c =
    let left = c.loop-paths.left.now in
    let path = path_view c.in-Some.path in
    let rest = tokens c.in-Some.rest.now in
    let more = tokens c.in-Some-behind-2.rest.now in
    let next : first_as path_of (tokens left) ≡ Some (path, rest) = sym c.in_ok-path.ensures ∙ ap (option_map (λ (f : KeyPath × Bor (List ℕ)). (path_view f.0, tokens f.1.now))) c.in-Some.is in
    let comma : behind 44 rest ≡ Some more = sym c.behind-in-loop-paths.ensures ∙ ap (option_map (λ (r : Bor (List ℕ)). tokens r.now)) c.in-Some-behind-2.is in
    let step = some_paths-more (tokens left) path rest more next comma in
    let pushed : map path_view c.push.new.self.items ≡ map path_view c.loop-paths.paths.items ++ path ∷ [] = ap (map path_view) c.in_ok-push.ensures.items ∙ map-append path_view c.loop-paths.paths.items (c.in-Some.path ∷ []) in
    record {
      all = one_more_path _ _ _ _ _ c.loop-paths.invariant.all step ∙ ap (λ (ps : List PlainPath). option_map (λ (r : List PlainPath × List Token). (ps ++ r.0, r.1)) (some_paths more)) (sym pushed);
      utf8 = search rules;
    }

pub returns-in_default : goal.returns-in_default
returns-in_default c =
    let left = tokens c.loop-paths.left.now in
    let none : first_as path_of left ≡ None = sym c.in_ok-path.ensures ∙ ap (option_map (λ (f : KeyPath × Bor (List ℕ)). (path_view f.0, tokens f.1.now))) c.in_default.is in
    sym (c.loop-paths.invariant.all ∙ ap (option_map (λ (r : List PlainPath × List Token). (map path_view c.loop-paths.paths.items ++ r.0, r.1))) (some_paths-none left none))

pub returns-in-Some-behind : goal.returns-in-Some-behind
returns-in-Some-behind c =
    let left = c.loop-paths.left.now in
    let path = path_view c.in-Some.path in
    let rest = tokens c.in-Some.rest.now in
    let more = tokens c.in-Some-behind.rest.now in
    let next : first_as path_of (tokens left) ≡ Some (path, rest) = sym c.in_ok-path.ensures ∙ ap (option_map (λ (f : KeyPath × Bor (List ℕ)). (path_view f.0, tokens f.1.now))) c.in-Some.is in
    let brace : behind 125 rest ≡ Some more = sym c.behind.ensures ∙ ap (option_map (λ (r : Bor (List ℕ)). tokens r.now)) c.in-Some-behind.is in
    let pushed : map path_view c.push.new.self.items ≡ map path_view c.loop-paths.paths.items ++ path ∷ [] = ap (map path_view) c.in_ok-push.ensures.items ∙ map-append path_view c.loop-paths.paths.items (c.in-Some.path ∷ []) in
    ap (λ (ps : List PlainPath). Some (ps, more)) pushed ∙ sym (c.loop-paths.invariant.all ∙ ap (option_map (λ (r : List PlainPath × List Token). (map path_view c.loop-paths.paths.items ++ r.0, r.1))) (some_paths-last (tokens left) path rest more next brace))

pub returns-in_default-behind-2 : goal.returns-in_default-behind-2
returns-in_default-behind-2 c =
    let left = tokens c.loop-paths.left.now in
    let path = path_view c.in-Some.path in
    let rest = tokens c.in-Some.rest.now in
    let next : first_as path_of left ≡ Some (path, rest) = sym c.in_ok-path.ensures ∙ ap (option_map (λ (f : KeyPath × Bor (List ℕ)). (path_view f.0, tokens f.1.now))) c.in-Some.is in
    let brace : behind 125 rest ≡ None = sym c.behind.ensures ∙ ap (option_map (λ (r : Bor (List ℕ)). tokens r.now)) c.in_default-behind.is in
    let comma : behind 44 rest ≡ None = sym c.behind-in-loop-paths.ensures ∙ ap (option_map (λ (r : Bor (List ℕ)). tokens r.now)) c.in_default-behind-2.is in
    sym (c.loop-paths.invariant.all ∙ ap (option_map (λ (r : List PlainPath × List Token). (map path_view c.loop-paths.paths.items ++ r.0, r.1))) (some_paths-stop left path rest next brace comma))

pub loop-paths-init : goal.loop-paths-init
loop-paths-init c = grind (arith, common_steps)
