-- What is awaited, one after another.
use Rattle.std.proofs.Common.{◌≡◌, List, [], ◌∷◌, ◌++◌, Option, Some, None, refl, ap, sym, append_assoc, append-nil}
use Rattle.std.specs.Option.{option_map}
use Rattle.node_judge.specs.Awaited.{Awaited}

-- one more behind those that are done
pub one_more : (done : List Awaited) (w : Awaited) (o : Option (List Awaited)) → option_map (λ ws. done ++ ws) (option_map (λ ws. w ∷ ws) o) ≡ option_map (λ ws. (done ++ w ∷ []) ++ ws) o
one_more done w None = refl
one_more done w (Some ws) = ap (λ xs. Some xs) (sym (append_assoc done (w ∷ []) ws))

pub none_more : (done : List Awaited) → done ++ [] ≡ done
none_more done = append-nil done
