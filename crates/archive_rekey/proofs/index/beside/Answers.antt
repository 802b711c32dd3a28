use Rattle.std.proofs.Common.{IfSome, map, sym, subst}
use Rattle.std.specs.Option.{option_map}
use Rattle.archive_tree.specs.Data.{node_stamp}
use Rattle.archive_rekey.specs.Index.{IsBelow, IsIndex, below_view, index_view}
use Rattle.archive_rekey.proofs.IndexLemmas.{below-of}
use Rattle.archive_rekey.proofs.index.beside.Goals as goal

pub returns-in-Some : goal.returns-in-Some
returns-in-Some c = λ ks h. (
    let x = c.in-Some.index.now in
    let own : IsIndex (index_view x) (map node_stamp ks) ks = subst (λ o. IfSome (option_map (λ x. index_view x.now) o) (λ x. IsIndex x (map node_stamp ks) ks)) c.in-Some.is h in
    c.found_below.ensures ks (subst (λ xs. IsBelow (below_view xs) ks) (sym c.deref.ensures.value) (below-of x (map node_stamp ks) ks own)))
