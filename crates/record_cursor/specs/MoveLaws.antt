-- What holds of the front of a file.
use Rattle.std.proofs.Common.{◌≡◌, ℕ, ◌≤◌, true, leb, List, length, take, Option, Some, sym, ap, ◌∙◌, arith}
use Rattle.std.proofs.lemmas.Bool.Decides.{nat_tests}
use Rattle.std.proofs.lemmas.List.{take-take}
use Rattle.std.specs.FinMap as map
use Rattle.xa_fields.specs.FieldLaws.{passed_some}
use Rattle.xa_outside.specs.Folder.{Files, bytes_or_none}
use Rattle.record_cursor.specs.Moves.{TellsFront}

le-of : (m n : ℕ) → leb m n ≡ true → m ≤ n
le-of m n h = grind (arith, nat_tests)

-- where its first bytes are told, so are fewer of them
pub front-less : (told : Option Files) (name bytes : List ℕ) (size end : ℕ) → TellsFront told name size bytes → end ≤ size → TellsFront told name end (take end bytes)
front-less told name bytes size end h fits =
    let file = bytes_or_none (map.get h.0 name) in
    let p = passed_some (leb size (length file)) (take size file) bytes h.2 in
    let long : size ≤ length file = le-of _ _ p.0 in
    let less : take end (take size file) ≡ take end file = take-take end size file fits in
    let there : leb end (length file) ≡ true = grind (arith, nat_tests) in
    (h.0, h.1, rw there (ap (λ (bs : List ℕ). Some bs) (sym less ∙ ap (take end) p.1)))
