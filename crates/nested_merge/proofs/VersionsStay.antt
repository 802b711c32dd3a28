-- Reading versions out of an archive with one more, and the archive of a whole list.
use Rattle.std.proofs.Common.{◌≡◌, ℕ, ◌+◌, ◌≤◌, Bool, true, false, IsTrue, true≢false, List, [], ◌∷◌, ◌++◌, Option, Some, None, refl, ap, sym, subst, ◌∙◌, arith, inl, append_assoc}
use Rattle.std.proofs.lemmas.List.{append-nil}
use Rattle.std.proofs.Math.Bool.{Bool-set}
use Rattle.std.proofs.Math.Logic.{∥∥₁_elim}
use Rattle.std.specs.List.{AllByRecursion}
use Rattle.keyed_tree.specs.Alike.{AllAlike}
use Rattle.keyed_tree.specs.Data.{PlainKeyed}
use Rattle.keyed_tree.specs.Kids.{IsOrdered}
use Rattle.keyed_tree.specs.Lists.{Has}
use Rattle.keyed_tree.specs.Proper.{IsElement}
use Rattle.keyed_tree.specs.Same.{is_same}
use Rattle.keyed_tree.proofs.SameLemmas.{is_same-exact}
use Rattle.archive_tree.specs.Data.{no_nodes, PlainArchive}
use Rattle.archive_tree.specs.Read.{version_at}
use Rattle.archive_tree.specs.Stands.{nums, numbered, ArchiveOf, Kept}
use Rattle.archive_tree.proofs.Numbers.{has_range}
use Rattle.archive_tree.proofs.OneArchive.{one_archive}
use Rattle.archive_tree.proofs.Readings.{numbers, version_read}
use Rattle.archive_tree.proofs.Those.{nums_has}
use Rattle.nested_merge.specs.Merged.{with_version}
use Rattle.nested_merge.specs.Alike.{AlikeAll}
use Rattle.nested_merge.specs.Laws.{AreVersions, HasOneArchive}
use Rattle.nested_merge.proofs.ArchiveGrows.{archive_grows, numbered-append}
use Rattle.nested_merge.proofs.Weave.{has_left, has_right}

-- ---- every earlier version is read as before

module _ (vs : List PlainKeyed) (k : PlainKeyed) (a b : PlainArchive) (h : ArchiveOf vs a) (g : ArchiveOf (vs ++ k ∷ []) b) where
  pub stays : (i : ℕ) → 1 ≤ i → i ≤ a.n → version_at i b ≡ version_at i a
  stays i from to =
      let there : Has i (nums (numbered vs)) = subst (λ z. Has i z) (sym (numbers vs a h)) (has_range 1 a.n i from (omega arith)) in
      let found = nums_has i (numbered vs) there in
      let later : Has (i, found.tree) (numbered (vs ++ k ∷ [])) = subst (λ z. Has (i, found.tree) z) (sym (numbered-append vs k a.n h.count)) (has_left (i, found.tree) (numbered vs) _ found.has) in
      version_read (vs ++ k ∷ []) b g i found.tree later ∙ sym (version_read vs a h i found.tree found.has)

  pub added : version_at (a.n + 1) b ≡ Some k
  added =
      let last : Has (a.n + 1, k) (numbered (vs ++ k ∷ [])) = subst (λ z. Has (a.n + 1, k) z) (sym (numbered-append vs k a.n h.count)) (has_right (a.n + 1, k) (numbered vs) _ (inl refl)) in
      version_read (vs ++ k ∷ []) b g (a.n + 1) k last

-- ---- the same where the versions are not at hand

is_same_option : Option PlainKeyed → Option PlainKeyed → Bool
is_same_option None None = true
is_same_option None (Some y) = false
is_same_option (Some x) None = false
is_same_option (Some x) (Some y) = is_same x y

same_option : (x y : Option PlainKeyed) → IsTrue (is_same_option x y) → x ≡ y
unfolding is_same_option
same_option None None h = refl
same_option None (Some y) h = absurd (true≢false (sym h))
same_option (Some x) None h = absurd (true≢false (sym h))
same_option (Some x) (Some y) h = ap (λ z. Some z) ((is_same-exact x y).0 h)

option_itself : (x : Option PlainKeyed) → IsTrue (is_same_option x x)
unfolding is_same_option
option_itself None = refl
option_itself (Some x) = (is_same-exact x x).1 refl

-- what follows from the versions of an archive, where it is that two readings are equal
pub read_alike : (a : PlainArchive) (x y : Option PlainKeyed) → ∥ Kept a ∥₁ → (Kept a → x ≡ y) → x ≡ y
read_alike a x y kept f = same_option x y (∥∥₁_elim {P = IsTrue (is_same_option x y)} kept (Bool-set (is_same_option x y) true) (λ k. subst (λ z. IsTrue (is_same_option x z)) (f k) (option_itself x)))

-- ---- the archive of a list of versions

-- the archive with these versions too, one after another
with_versions : PlainArchive → List PlainKeyed → PlainArchive
with_versions a [] = a
with_versions a (v ∷ vs) = with_versions (with_version a v) vs

all_right : {K : Type 0} (P : K → Type 0) (xs ys : List K) → AllByRecursion P (xs ++ ys) → AllByRecursion P ys
all_right P [] ys h = h
all_right P (x ∷ xs) ys h = all_right P xs ys h.1

alike_next : (us : List PlainKeyed) (v : PlainKeyed) (vs : List PlainKeyed) → AllAlike (us ++ v ∷ vs) → AlikeAll us v
alike_next us v vs h u m = h u v (has_left u us (v ∷ vs) m) (has_right v us (v ∷ vs) (inl refl))

all_of : (us vs : List PlainKeyed) (a : PlainArchive) → AreVersions (us ++ vs) → ArchiveOf us a → ArchiveOf (us ++ vs) (with_versions a vs)
unfolding with_versions
all_of us [] a h g = subst (λ z. ArchiveOf z a) (sym (append-nil us)) g
all_of us (v ∷ vs) a h g =
    let order : AllByRecursion IsOrdered (v ∷ vs) = all_right IsOrdered us (v ∷ vs) h.ordered in
    let element : AllByRecursion IsElement (v ∷ vs) = all_right IsElement us (v ∷ vs) h.elements in
    let one = archive_grows us a v g (alike_next us v vs h.alike) order.0 element.0 in
    let whole : (us ++ v ∷ []) ++ vs ≡ us ++ v ∷ vs = append_assoc us (v ∷ []) vs in
    subst (λ z. ArchiveOf z (with_versions (with_version a v) vs)) whole (all_of (us ++ v ∷ []) vs (with_version a v) (subst AreVersions (sym whole) h) one)

pub empty_archive : ArchiveOf [] (record { n = 0; kids = no_nodes })
empty_archive = record {
  count = refl;
  ordered = tt;
  elements = tt;
  alike = λ k j m i. absurd m;
  row = record { ascending = tt; kids = tt; covered = λ l e. absurd (e refl) };
}

pub one_archive_of : (vs : List PlainKeyed) → AreVersions vs → HasOneArchive vs
one_archive_of vs h =
    let a : PlainArchive = with_versions (record { n = 0; kids = no_nodes }) vs in
    let is : ArchiveOf vs a = all_of [] vs (record { n = 0; kids = no_nodes }) h empty_archive in
    record { archive = a; is = is; only = λ b g. one_archive vs b a g is }
