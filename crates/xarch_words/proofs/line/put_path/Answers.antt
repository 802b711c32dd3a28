use Rattle.std.proofs.lemmas.Grind.{common_steps}
use Rattle.std.proofs.Common.{◌≡◌, List, [], ◌∷◌, ◌++◌, length, refl, ap, sym, ◌∙◌, subst, option_map, String, Global, string_bytes, arith}
use Rattle.key_spec.specs.View.{names_view}
use Rattle.xa_outside.specs.Taken.{Puts}
use Rattle.xa_outside.specs.TakenLaws.{Puts-after}
use Rattle.key_spec.specs.Names.{ends_text}
use Rattle.xarch_words.proofs.line.put_path.Goals as goal

none_of : (ts : List (String Global)) → length ts ≡ 0 → ts ≡ []
none_of [] e = refl
none_of (t ∷ ts) e = cc

pub returns-in-None-clause-bytes : goal.returns-in-None-clause-bytes
returns-in-None-clause-bytes g c =
    let none : c.args.path.now.tags.items ≡ [] = none_of c.args.path.now.tags.items (ap (λ ts. length ts) (sym c.deref.ensures.value) ∙ c.in-None.ensures.cases) in
    subst (λ (ts : List (String Global)). Puts (g.E.Sink.taken c.args.err.now) (g.E.Sink.taken c.put_short_path.new.err) c.put_short_path.result (c.args.before.now ++ ends_text (names_view ts) (option_map string_bytes c.args.path.now.attr)))
    (sym none) (Puts-after _ _ _ _ _ _ c.in_ok-put_all.ensures.bytes c.put_short_path.ensures.bytes)

pub returns-in-None-clause-cause : goal.returns-in-None-clause-cause
returns-in-None-clause-cause g c = grind (arith, common_steps)

pub returns-in-Some-clause-cause : goal.returns-in-Some-clause-cause
returns-in-Some-clause-cause g c = grind (arith, common_steps)

pub returns-in_err-put_all-clause-cause : goal.returns-in_err-put_all-clause-cause
returns-in_err-put_all-clause-cause g c = grind (arith, common_steps)
