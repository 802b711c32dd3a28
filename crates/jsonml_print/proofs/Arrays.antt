-- What the calls of a content print in an array.
use Rattle.std.proofs.Common.{◌≡◌, [], ◌∷◌, ◌++◌, drop, refl, ap}
use Rattle.jsonml_tree.specs.Data.{text, element, PlainContent, content, no_trees, tree}
use Rattle.jsonml_print.specs.Printed.{content_text}
use Rattle.jsonml_print.specs.Pen.{Pen, fresh, opened}
use Rattle.jsonml_print.specs.Calls.{end, printed, AllMayCome, content_calls}
use Rattle.jsonml_print.specs.declared.last.Last.TheVariants.{Begun}
use Rattle.jsonml_print.proofs.TreeWalk.{walk_tree}

-- an element of an empty tag has been begun
abbrev begun : Pen
begun = record { depth = 1; last = Begun }

inside_text : (c : PlainContent) → printed begun (content_calls c ++ end ∷ []) ≡ content_text c ++ 93 ∷ []
inside_text c = ap (drop 3) (walk_tree (element [] c) fresh refl).text

inside_may : (c : PlainContent) → AllMayCome begun (content_calls c ++ end ∷ [])
inside_may c = (walk_tree (element [] c) fresh refl).may.1

-- in an array it is the same without the comma in front
pub array_printed : (c : PlainContent) → printed opened (content_calls c ++ end ∷ []) ≡ drop 1 (content_text c) ++ 93 ∷ []
array_printed (content [] no_trees) = refl
array_printed (content [] (tree (text s) ts)) = ap (drop 1) (inside_text (content [] (tree (text s) ts)))
array_printed (content [] (tree (element t c) ts)) = ap (drop 1) (inside_text (content [] (tree (element t c) ts)))
array_printed (content (x ∷ xs) ts) = ap (drop 1) (inside_text (content (x ∷ xs) ts))

pub array_may : (c : PlainContent) → AllMayCome opened (content_calls c ++ end ∷ [])
array_may (content [] no_trees) = inside_may (content [] no_trees)
array_may (content [] (tree (text s) ts)) = inside_may (content [] (tree (text s) ts))
array_may (content [] (tree (element t c) ts)) = inside_may (content [] (tree (element t c) ts))
array_may (content (x ∷ xs) ts) = inside_may (content (x ∷ xs) ts)
