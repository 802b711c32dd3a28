-- Nodes to which version n can be added: their sets have something, and nothing from n on, rows ascend, and bodies differ.
use Rattle.std.specs.Prelude.{◌≢◌, ℕ, ◌<◌, List, [], ⊤}
use Rattle.std.specs.List.{AllByRecursion}
use Rattle.version_set.specs.Pairs.{IsCanonical, last_of}
use Rattle.jsonml_tree.specs.Lists.{AllDiffer, Ascends}
use Rattle.keyed_tree.specs.Order.{label_cmp}
use Rattle.new_archive.specs.Full.{FullAlt, PlainFull, full_inner, full_leaf, PlainFulls, no_fulls, full, full_labels, full_bodies}

pub record IsBelow (n : ℕ) (s : List (ℕ × ℕ)) : Type 0 where
  pub some : s ≢ []
  pub canonical : IsCanonical s
  pub below : last_of s < n

abbrev mutual
  pub IsReady : ℕ → PlainFull → Type 0
  IsReady n (full_inner l s ks) = IsBelow n s × Ascends label_cmp (full_labels ks) × AreReady n ks
  IsReady n (full_leaf l s xs) = IsBelow n s × AllByRecursion (λ (x : FullAlt). IsBelow n x.numbers) xs × AllDiffer (full_bodies xs)

  pub AreReady : ℕ → PlainFulls → Type 0
  AreReady n no_fulls = ⊤
  AreReady n (full k ks) = IsReady n k × AreReady n ks
