-- A node has its key values where it has what it waits for by its own rule.
use Rattle.std.proofs.Common.{◌≡◌, Bool, true, false, ◌&&◌, List, [], ◌∷◌, ℕ, Option, Some, None, is_some, refl, ap, ◌∙◌}
use Rattle.std.specs.Prelude.{is_none, ◌||◌}
use Rattle.std.specs.Cmp.Lexicographic.{pointwise}
use Rattle.std.specs.List.{list_all, cons_option}
use Rattle.std.specs.Option.{option_map, option_and_then, unwrap_or}
use Rattle.keyed_tree.specs.Data.{PlainKey, PlainLabel}
use Rattle.keyed_tree.specs.Plain.{name_bytes}
use Rattle.key_spec.specs.Data.{PlainPath, PlainRule}
use Rattle.key_spec.specs.Rules.{rule_of}
use Rattle.archive_tree.specs.Data.{PlainNode, node_label, node_stamp}
use Rattle.archive_file.specs.NodeFits.{on_some, node_leads, node_has_keys}
use Rattle.node_judge.specs.Awaited.{Awaited, leads, handed, all_handed, holds_at, lasts_with, keeps, awaited_by, own}

abbrev pub all_hold : PlainNode → List Awaited → Bool
all_hold k ws = list_all (λ w. holds_at w k) ws

-- ---- its own

one-more : (k : PlainNode) (w : Awaited) (o : Option (List Awaited)) → (holds_at w k && on_some (all_hold k) o) ≡ on_some (all_hold k) (option_map (λ ws. w ∷ ws) o)
one-more k w None = elim (holds_at w k) as (λ b. (b && false) ≡ false) [ true ↦ refl | false ↦ refl ]
one-more k w (Some ws) = refl

keys-hold : (ps : List PlainPath) (vs : List PlainKey) (k : PlainNode) → pointwise (λ (p : PlainPath) v. node_leads p.tags p.attr v k) ps vs ≡ on_some (all_hold k) (awaited_by ps vs)
keys-hold [] [] k = refl
keys-hold [] (v ∷ vs) k = refl
keys-hold (p ∷ ps) [] k = refl
keys-hold (p ∷ ps) (v ∷ vs) k = ap (λ b. node_leads p.tags p.attr v k && b) (keys-hold ps vs k) ∙ one-more k (leads p.tags p.attr v) (awaited_by ps vs)

own-hold : (o : Option PlainRule) (vs : List PlainKey) (k : PlainNode) → node_has_keys o vs k ≡ on_some (all_hold k) (option_and_then (λ (r : PlainRule). awaited_by r.paths vs) o)
own-hold None vs k = refl
own-hold (Some r) vs k = keys-hold r.paths vs k

some-all : {X : Type 0} (p : X → Bool) (o : Option (List X)) → on_some (list_all p) o ≡ (is_some o && list_all p (unwrap_or o []))
some-all p None = refl
some-all p (Some xs) = refl

-- the key values are there where its own is awaited and holds
pub keys-are : (rules : List PlainRule) (path : List (List ℕ)) (l : PlainLabel) (k : PlainNode)
    → node_has_keys (rule_of rules path (name_bytes l.name)) l.keys k ≡ (is_some (own rules path l) && all_hold k (unwrap_or (own rules path l) []))
keys-are rules path l k = own-hold (rule_of rules path (name_bytes l.name)) l.keys k ∙ some-all (λ w. holds_at w k) (own rules path l)

-- ---- what it is handed

-- it inherits where it is handed something
abbrev pub inherits : PlainNode → List Awaited → Bool
inherits k ws = is_none (node_stamp k) || list_all (λ w. is_none (handed (node_label k) w)) ws

-- what it is handed of the parent's is kept where it inherits, and has that
pub kept-are : (k : PlainNode) (ws : List Awaited) → list_all (keeps k) ws ≡ (inherits k ws && all_hold k (all_handed (node_label k) ws))
kept-are k ws = elim (is_none (node_stamp k)) as (λ b. is_none (node_stamp k) ≡ b → list_all (keeps k) ws ≡ ((b || list_all (λ w. is_none (handed (node_label k) w)) ws) && all_hold k (all_handed (node_label k) ws))) [
  | true ↦ λ e. inherited e ws
  | false ↦ λ e. stored e ws
] refl
  where
    inherited : is_none (node_stamp k) ≡ true → (ws : List Awaited) → list_all (keeps k) ws ≡ all_hold k (all_handed (node_label k) ws)
    inherited e [] = refl
    inherited e (w ∷ ws) = elim (handed (node_label k) w) as (λ o. (lasts_with k o && list_all (keeps k) ws) ≡ all_hold k (cons_option o (all_handed (node_label k) ws))) [
      | None ↦ inherited e ws
      | Some v ↦ ap (λ b. (b && holds_at v k) && list_all (keeps k) ws) e ∙ ap (λ b. holds_at v k && b) (inherited e ws)
    ]

    stored : is_none (node_stamp k) ≡ false → (ws : List Awaited) → list_all (keeps k) ws ≡ (list_all (λ w. is_none (handed (node_label k) w)) ws && all_hold k (all_handed (node_label k) ws))
    stored e [] = refl
    stored e (w ∷ ws) = elim (handed (node_label k) w) as (λ o. (lasts_with k o && list_all (keeps k) ws) ≡ ((is_none o && list_all (λ w. is_none (handed (node_label k) w)) ws) && all_hold k (cons_option o (all_handed (node_label k) ws)))) [
      | None ↦ stored e ws
      | Some v ↦ ap (λ b. (b && holds_at v k) && list_all (keeps k) ws) e
    ]
