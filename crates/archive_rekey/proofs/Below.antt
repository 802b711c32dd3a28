-- What is read of nodes whose parent has a version: that it has others too makes no difference.
use Rattle.std.proofs.Common.{◌≡◌, ◌∙◌, ℕ, true, false, cond, List, [], ◌∷◌, None, Some, refl, ap, sym}
use Rattle.std.proofs.lemmas.Bool.{eq-eqb}
use Rattle.version_set.specs.Members.{has}
use Rattle.keyed_tree.specs.Data.{inner, leaf, kid}
use Rattle.archive_tree.specs.Data.{Stamp, eff, PlainAlt, PlainNode, inner_node, leaf_node, PlainNodes, no_nodes, node, node_stamp}
use Rattle.archive_tree.specs.Read.{body_at, read, read_row, read_root}

pub has_itself : (n : ℕ) → has (n ∷ []) n ≡ true
has_itself n = (let d = eq-eqb n n refl in rw d)

stamp_below : (n : ℕ) (ns : List ℕ) (s : Stamp) → has ns n ≡ true → has (eff s ns) n ≡ has (eff s (n ∷ [])) n
stamp_below n ns None h = h ∙ sym (has_itself n)
stamp_below n ns (Some s) h = refl

pub body_below : (n : ℕ) (ns : List ℕ) (xs : List PlainAlt) → has ns n ≡ true → body_at n ns xs ≡ body_at n (n ∷ []) xs
body_below n ns [] h = refl
body_below n ns (x ∷ xs) h = λ i. cond (stamp_below n ns x.stamp h i) x.body (body_below n ns xs h i)

mutual
  pub read_below : (n : ℕ) (ns : List ℕ) (k : PlainNode) → has ns n ≡ true → has (eff (node_stamp k) ns) n ≡ true → read n ns k ≡ read n (n ∷ []) k
  read_below n ns (inner_node l s ks) h g =
      let there : has (eff s (n ∷ [])) n ≡ true = sym (stamp_below n ns s h) ∙ g in
      ap (inner l) (row_below n (eff s ns) ks g ∙ sym (row_below n (eff s (n ∷ [])) ks there))
  read_below n ns (leaf_node l s xs) h g =
      let there : has (eff s (n ∷ [])) n ≡ true = sym (stamp_below n ns s h) ∙ g in
      ap (leaf l) (body_below n (eff s ns) xs g ∙ sym (body_below n (eff s (n ∷ [])) xs there))

  pub row_below : (n : ℕ) (ns : List ℕ) (ks : PlainNodes) → has ns n ≡ true → read_row n ns ks ≡ read_row n (n ∷ []) ks
  row_below n ns no_nodes h = refl
  row_below n ns (node k ks) h =
      let same = stamp_below n ns (node_stamp k) h in
      let rest = row_below n ns ks h in
      elim (has (eff (node_stamp k) ns) n) as (λ b. has (eff (node_stamp k) ns) n ≡ b → cond b (kid (read n ns k) (read_row n ns ks)) (read_row n ns ks) ≡ read_row n (n ∷ []) (node k ks)) [
        | true ↦ λ e. (let there : has (eff (node_stamp k) (n ∷ [])) n ≡ true = sym same ∙ e in rw there (λ i. kid (read_below n ns k h e i) (rest i)))
        | false ↦ λ e. (let there : has (eff (node_stamp k) (n ∷ [])) n ≡ false = sym same ∙ e in rw there rest)
      ] refl

pub root_below : (n : ℕ) (ns : List ℕ) (ks : PlainNodes) → has ns n ≡ true → read_root n ns ks ≡ read_root n (n ∷ []) ks
root_below n ns no_nodes h = refl
root_below n ns (node k ks) h =
    let same = stamp_below n ns (node_stamp k) h in
    let rest = root_below n ns ks h in
    elim (has (eff (node_stamp k) ns) n) as (λ b. has (eff (node_stamp k) ns) n ≡ b → cond b (Some (read n ns k)) (read_root n ns ks) ≡ read_root n (n ∷ []) (node k ks)) [
      | true ↦ λ e. (let there : has (eff (node_stamp k) (n ∷ [])) n ≡ true = sym same ∙ e in rw there (ap (λ z. Some z) (read_below n ns k h e)))
      | false ↦ λ e. (let there : has (eff (node_stamp k) (n ∷ [])) n ≡ false = sym same ∙ e in rw there rest)
    ] refl
