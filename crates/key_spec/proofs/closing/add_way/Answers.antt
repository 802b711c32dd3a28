use Rattle.std.proofs.Common.{◌≡◌, ◌++◌, ◌∷◌, [], string_bytes, sym, ap, ap₂, subst, ◌∙◌}
use Rattle.key_spec.specs.Names.{slashed}
use Rattle.key_spec.specs.Texts.{Adds, end_text, texts_along}
use Rattle.key_spec.specs.View.{names_view, path_view}
use Rattle.key_spec.proofs.MarkLemmas.{no-end, one-end}
use Rattle.key_spec.proofs.TextLemmas.{Adds-none}
use Rattle.key_spec.proofs.closing.add_way.Goals as goal

pub returns-then-is_some : goal.returns-then-is_some
returns-then-is_some c =
    let old = c.args.marks.now in
    let path = path_view c.args.path.now in
    let tags : names_view c.deref.result.now ≡ path.tags = ap names_view c.deref.ensures.value in
    let none : end_text c.args.target.now path ≡ [] = no-end c.args.path.now.attr _ _ c.is_some.ensures c.if-is_some.true in
    record {
      given = Adds-none _;
      implied = subst (λ ts. Adds old.implied c.add_along.new.texts ts) (ap₂ texts_along c.in_ok-here.ensures.ok tags) c.in_ok-add_along.ensures.texts;
      ends = subst (λ ts. Adds old.ends old.ends ts) (sym none) (Adds-none _);
    }

pub returns : goal.returns
returns c =
    let old = c.args.marks.now in
    let path = path_view c.args.path.now in
    let target = c.args.target.now in
    let tags : names_view c.deref.result.now ≡ path.tags = ap names_view c.deref.ensures.value in
    let end : string_bytes c.add_along.new.here ≡ target ++ slashed path.tags =
    c.in_ok-add_along.ensures.here ∙ ap₂ (λ t ts. t ++ slashed ts) c.in_ok-here.ensures.ok tags in
    let one : end_text target path ≡ (target ++ slashed path.tags) ∷ [] = one-end c.args.path.now.attr _ _ c.is_some.ensures c.if-is_some.false in
    record {
      given = Adds-none _;
      implied = subst (λ ts. Adds old.implied c.add_along.new.texts ts) (ap₂ texts_along c.in_ok-here.ensures.ok tags) c.in_ok-add_along.ensures.texts;
      ends = subst (λ ts. Adds old.ends c.add_text.new.texts ts) (ap (λ t. t ∷ []) end ∙ sym one) c.in_ok-add_text.ensures.added;
    }
