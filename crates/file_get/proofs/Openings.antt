-- Reading opening records.
use Rattle.std.proofs.Common.{◌≡◌, ℕ, ◌+◌, List, ◌∷◌, ◌++◌, length, take, drop, Option, Some, None, Result, refl, sym, ap, subst, ◌∙◌}
use Rattle.std.specs.Prelude.{ok_or, IfSome, IsSomeAnd}
use Rattle.std.specs.Option.{option_map}
use Rattle.std.proofs.lemmas.List.{drop-take}
use Rattle.xa_fields.specs.FieldLaws.{some_is}
use Rattle.xa_fields.specs.Spelling.{u64_bytes}
use Rattle.archive_tree.specs.Data.{PlainNode, inner_node, leaf_node, node_label}
use Rattle.record_format.specs.Data.{PlainRec}
use Rattle.record_format.specs.Spelling.{body_bytes, kind_of, rec_bytes}
use Rattle.record_cursor.specs.Items.{PlainItem, item_of}
use Rattle.record_cursor.specs.Next.{next_of, opening_at}
use Rattle.record_cursor.specs.Places.{Standing, among_nodes, in_leaf, after_item}
use Rattle.record_cursor.specs.Steps as cursor
use Rattle.record_cursor.specs.Faults.{IfDamage}
use Rattle.record_cursor.specs.declared.fault.CursorFault.{CursorFault}
use Rattle.record_cursor.specs.declared.fault.CursorFault.TheVariants.{Damage, Folder, Memory}
use Rattle.record_parts.specs.Shown.{shown_name}
use Rattle.file_rows.specs.StandsAt.{StandsAt}
use Rattle.file_rows.proofs.Parts.{stands-front, stands-back}
use Rattle.file_get.specs.Inside.{opening_rec, is_inner, OpeningIs}
use Rattle.file_get.specs.declared.read.Opening.{Opening}

-- the body of a record that stands there
pub body-stands : (bytes : List ℕ) (at : ℕ) (r : PlainRec) (more : List ℕ) → StandsAt bytes at (rec_bytes r ++ more) → take (length (body_bytes r)) (drop (at + 9) bytes) ≡ body_bytes r
body-stands bytes at r more h = stands-back bytes at (kind_of r ∷ u64_bytes (length (body_bytes r))) (body_bytes r) (stands-front bytes at (rec_bytes r) more h)

-- an option that was handed on as a fault
pub filled-some : {T : Type 0} (o : Option T) (e : CursorFault) (r : Result T CursorFault) (x : T) (P : T → Type 0) → r ≡ ok_or o e → o ≡ Some x → P x → cursor.Filled r P
filled-some (Some t) e r x P is same h = subst (λ (s : Result _ CursorFault). cursor.Filled s P) (sym is) (subst P (sym (some_is t x same)) h)
filled-some None e r x P is same h = absurd cc

-- ---- what comes at a child

-- its bytes, and no more
child-bytes : (bytes part : List ℕ) (first end : ℕ) → StandsAt bytes first part → end ≡ first + length part → drop first (take end bytes) ≡ part
child-bytes bytes part first end h e = ap (λ (n : ℕ). drop first (take n bytes)) e ∙ drop-take first (length part) bytes ∙ h

-- what opens a node may come among nodes
pub opening-leads : (k : PlainNode) → (t : Standing) × (after_item (among_nodes 0) (item_of (opening_rec k)) ≡ Some t)
opening-leads (inner_node l s ks) = (among_nodes 1, refl)
opening-leads (leaf_node l s xs) = (in_leaf 0, refl)

pub opening-comes : (bytes more : List ℕ) (first end : ℕ) (k : PlainNode) (t : Standing) → StandsAt bytes first (rec_bytes (opening_rec k) ++ more) → end ≡ first + length (rec_bytes (opening_rec k) ++ more)
    → next_of (among_nodes 0) (rec_bytes (opening_rec k) ++ more) ≡ Some (item_of (opening_rec k), (t, more)) → opening_at (drop first (take end bytes)) ≡ Some (item_of (opening_rec k), more)
opening-comes bytes more first end k t stands ends next =
    ap opening_at (child-bytes bytes (rec_bytes (opening_rec k) ++ more) first end stands ends)
    ∙ ap (option_map {U = PlainItem × List ℕ} (λ (x : PlainItem × (Standing × List ℕ)). (x.0, x.1.1))) next

-- what was given is what comes
pub given-is : (found : Option (PlainItem × List ℕ)) (i j : PlainItem) (rest more : List ℕ) → found ≡ Some (i, rest) → found ≡ Some (j, more) → i ≡ j
given-is found i j rest more e f = ap (λ (x : PlainItem × List ℕ). x.0) (some_is (i, rest) (j, more) (sym e ∙ f))

-- and damage is not answered
pub never-none : (e : CursorFault) (found : Option (PlainItem × List ℕ)) (x : PlainItem × List ℕ) → found ≡ Some x → IfDamage e (found ≡ None) → IfDamage e ⊥
never-none Damage found x there h = clash (sym there ∙ h)
  where
    clash : Some x ≡ None → ⊥
    clash e = cc
never-none Folder found x there h = tt
never-none Memory found x there h = tt

-- ---- the opening

pub opening-is : (o : Option Opening) (e : CursorFault) (r : Result Opening CursorFault) (k : PlainNode) (behind first : ℕ) → r ≡ ok_or o e → IsSomeAnd o (λ o. (shown_name o.name ≡ (node_label k).name) × (o.is_inner ≡ is_inner k)) → IfSome o (λ o. o.behind ≡ behind) → behind ≡ first + length (rec_bytes (opening_rec k))
    → cursor.Filled r (OpeningIs k first)
opening-is (Some t) e r k behind first is named ends at = subst (λ (s : Result Opening CursorFault). cursor.Filled s (OpeningIs k first)) (sym is) (record { name = named.0; inner = named.1; behind = ends ∙ at })
opening-is None e r k behind first is named ends at = absurd named
