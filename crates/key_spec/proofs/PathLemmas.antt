-- When key paths are the same, and which stand twice.
use Rattle.std.proofs.Common.{◌≡◌, ℕ, true, false, ◌||◌, List, [], ◌∷◌, ◌++◌, map, refl, ap, sym, ◌∙◌, Option, Some, None, bytes_eq, Decides}
use Rattle.std.proofs.lemmas.Bool.{and_parts, and_from, or_left}
use Rattle.std.proofs.lemmas.Bool.Decides.{same_from_decides}
use Rattle.std.proofs.lemmas.List.Folds.{list_all-append}
use Rattle.std.proofs.lemmas.Slice.Eq.{bytes_eq-Decides}
use Rattle.std.specs.Cmp.Lexicographic.{pointwise_decides}
use Rattle.std.specs.Option.{option_eq}
use Rattle.std.specs.List.{list_any, list_all}
use Rattle.key_spec.specs.Data.{PlainPath}
use Rattle.key_spec.specs.Names.{path_of, path_text, is_named_path}
use Rattle.key_spec.specs.Closed.{is_same_path, repeats}
use Rattle.key_spec.specs.Texts.{has_text}
use Rattle.key_spec.proofs.FormLemmas.{some_same}
use Rattle.key_spec.proofs.NameLaws.{path_of-text}

option_decides : (o p : Option (List ℕ)) → Decides (option_eq bytes_eq o p) (o ≡ p)
option_decides None None = (λ e. refl, λ e. refl)
option_decides None (Some y) = (λ e. cc, λ e. cc)
option_decides (Some x) None = (λ e. cc, λ e. cc)
option_decides (Some x) (Some y) = (λ e. ap (λ z. Some z) ((bytes_eq-Decides x y).0 e), λ e. (bytes_eq-Decides x y).1 (some_same x y e))

-- the test tells whether two key paths are one
pub is_same_path-Decides : (p q : PlainPath) → Decides (is_same_path p q) (p ≡ q)
is_same_path-Decides p q =
    let tags = pointwise_decides bytes_eq-Decides p.tags q.tags in
    let attr = option_decides p.attr q.attr in (
      λ e. let both = and_parts _ _ e in let t : p.tags ≡ q.tags = tags.0 both.0 in let a : p.attr ≡ q.attr = attr.0 both.1 in λ i. record { tags = t i; attr = a i },
      λ e. and_from _ _ (tags.1 (ap (λ (r : PlainPath). r.tags) e)) (attr.1 (ap (λ (r : PlainPath). r.attr) e)),
    )

-- key paths made of names are one where their texts are
pub path_text-Decides : (p q : PlainPath) → is_named_path p ≡ true → is_named_path q ≡ true → Decides (bytes_eq (path_text p) (path_text q)) (p ≡ q)
path_text-Decides p q a b =
    let texts = bytes_eq-Decides (path_text p) (path_text q) in
    (λ e. some_same p q (sym (path_of-text p a) ∙ ap path_of (texts.0 e) ∙ path_of-text q b), λ e. texts.1 (ap path_text e))

-- so a set of texts tells whether a path is among some
pub has_text-paths : (paths : List PlainPath) (path : PlainPath) → list_all is_named_path paths ≡ true → is_named_path path ≡ true → has_text (map path_text paths) (path_text path) ≡ list_any (is_same_path path) paths
has_text-paths [] path all one = refl
has_text-paths (p ∷ paths) path all one =
    let both = and_parts (is_named_path p) (list_all is_named_path paths) all in
    let first = same_from_decides _ _ (path_text-Decides path p one both.0) (is_same_path-Decides path p) in
    λ i. first i || has_text-paths paths path both.1 one i

-- a path that is new, and one that stands twice
pub repeats-new : (earlier more : List PlainPath) (path : PlainPath) → list_any (is_same_path path) earlier ≡ false → repeats earlier (path ∷ more) ≡ repeats (earlier ++ path ∷ []) more
repeats-new earlier more path e = ap (λ b. b || repeats (earlier ++ path ∷ []) more) e

pub repeats-old : (earlier more : List PlainPath) (path : PlainPath) → list_any (is_same_path path) earlier ≡ true → repeats earlier (path ∷ more) ≡ true
repeats-old earlier more path e = or_left _ _ e

-- a path in the middle of named ones, and those before it
pub named_parts : (whole earlier more : List PlainPath) (path : PlainPath) → whole ≡ earlier ++ path ∷ more → list_all is_named_path whole ≡ true → (list_all is_named_path earlier ≡ true) × (is_named_path path ≡ true)
named_parts whole earlier more path e all =
    let both = and_parts (list_all is_named_path earlier) (list_all is_named_path (path ∷ more)) (sym (list_all-append is_named_path earlier (path ∷ more)) ∙ ap (list_all is_named_path) (sym e) ∙ all) in
    (both.0, (and_parts (is_named_path path) (list_all is_named_path more) both.1).0)
