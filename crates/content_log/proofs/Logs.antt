-- The lines of a log are those of the leaf that the path leads to.
use Rattle.std.proofs.Common.{◌≡◌, ◌≢◌, ℕ, ◌+◌, List, [], ◌∷◌, ◌++◌, map, Option, Some, None, Result, Ok, Err, refl, sym, ap, subst, ◌∙◌}
use Rattle.std.specs.Prelude.{IfErr, OnOk}
use Rattle.std.specs.List.{flat_map}
use Rattle.version_set.specs.Members.{members, intervals}
use Rattle.version_set.specs.Text.{set_text}
use Rattle.version_set.specs.View.{pairs_of}
use Rattle.keyed_tree.specs.Data.{PlainLabel, PlainKeyed}
use Rattle.archive_tree.specs.Data.{Stamp, PlainAlt, PlainNode, inner_node, leaf_node, PlainArchive}
use Rattle.archive_tree.specs.Stands.{ArchiveOf}
use Rattle.record_format.specs.Nodes.{set_in}
use Rattle.xa_outside.specs.Numbers.{Numbers, PullsAtMost}
use Rattle.xa_outside.specs.NumberLaws.{PullsAtMost-trans}
use Rattle.xa_outside.specs.Taken.{Taken, Puts}
use Rattle.file_rows.specs.View.{child_view}
use Rattle.file_history.specs.Leads.{PlainSpot, node_along, LeafLaid, IsLeafThere, IsLeafOf}
use Rattle.file_history.specs.declared.fault.HistFault.{HistFault}
use Rattle.file_history.specs.declared.fault.HistFault.TheVariants as history
use Rattle.file_history.specs.declared.leaf.LeafAt.{LeafAt}
use Rattle.content_log.specs.Log.{log}
use Rattle.content_log.specs.Text.{body_text, entry_text, last_name, log_text}
use Rattle.content_log.specs.Told.{IsSound, fault_of, of_history}
use Rattle.content_log.specs.Written.{Prefixed, AloneOrStored, Lines, alt_text, alts_text, leaf_bytes, leaf_size}
use Rattle.content_log.specs.declared.fault.LogFault.{LogFault}
use Rattle.content_log.specs.declared.fault.LogFault.TheVariants.{Damage, Folder, Out, Memory}
use Rattle.content_log.proofs.Coming.{no-lines}
use Rattle.content_log.proofs.Once.{alt_entry}
use Rattle.content_log.proofs.Leading.{set-members, leaf_alone, spot_log, leaf_log, log_is}

-- ---- the leaf that was found

pub record Found (bytes : List ℕ) (o : Option PlainSpot) (x : LeafAt) : Type 0 where
  pub parent : List (ℕ × ℕ)
  pub l : PlainLabel
  pub s : Stamp
  pub xs : List PlainAlt
  pub is : o ≡ Some (record { parent = parent; node = leaf_node l s xs })
  pub laid : LeafLaid bytes (child_view x.child) (pairs_of x.set) parent (leaf_node l s xs)

some-none : (x : LeafAt) → ¬ (Some x ≡ None)
some-none x e = cc

pub leaf-found : (bytes : List ℕ) (o : Option PlainSpot) (r : Option LeafAt) (x : LeafAt) → r ≡ Some x → IsLeafOf bytes o r → Found bytes o x
leaf-found bytes None r x e h = absurd (some-none x (sym e ∙ h))
leaf-found bytes (Some p) r x e h = at-node p.parent p.node refl h
  where
    at-node : (parent : List (ℕ × ℕ)) (k : PlainNode) → p ≡ record { parent = parent; node = k } → IsLeafThere bytes parent k r → Found bytes (Some p) x
    at-node parent (inner_node l s ks) is g = absurd (some-none x (sym e ∙ g))
    at-node parent (leaf_node l s xs) is g = record { parent = parent; l = l; s = s; xs = xs; is = ap (λ (q : PlainSpot). Some q) is; laid = subst (λ (q : Option LeafAt). IsLeafThere bytes parent (leaf_node l s xs) q) e g }

pub none-logged : (bytes : List ℕ) (o : Option PlainSpot) (r : Option LeafAt) → r ≡ None → IsLeafOf bytes o r → spot_log o ≡ []
none-logged bytes None r e h = refl
none-logged bytes (Some p) r e h = at-node p.parent p.node h
  where
    at-node : (parent : List (ℕ × ℕ)) (k : PlainNode) → IsLeafThere bytes parent k r → leaf_log parent k ≡ []
    at-node parent (inner_node l s ks) g = refl
    at-node parent (leaf_node l s xs) g = absurd (subst (λ (q : Option LeafAt). IsLeafThere bytes parent (leaf_node l s xs) q) e g)

-- ---- its lines

one-entry : (tag : List ℕ) (set : List (ℕ × ℕ)) (x : PlainAlt) → entry_text tag (alt_entry (members set) x) ≡ alt_text tag set x
one-entry tag set x = ap (λ (ns : List ℕ). set_text (intervals ns) ++ (32 ∷ (body_text tag x.body ++ 10 ∷ []))) (sym (set-members x.stamp set))

alts-log : (tag : List ℕ) (set : List (ℕ × ℕ)) (xs : List PlainAlt) → flat_map (entry_text tag) (map (alt_entry (members set)) xs) ≡ alts_text tag set xs
alts-log tag set [] = refl
alts-log tag set (x ∷ xs) = (let one = one-entry tag set x in let rest = alts-log tag set xs in λ i. one i ++ rest i)

module _ (vs : List PlainKeyed) (a : PlainArchive) (path : List PlainLabel) (is : ArchiveOf vs a) where
  pub log-text : (bytes tag : List ℕ) (x : LeafAt) (f : Found bytes (node_along a path) x) → tag ≡ last_name path → log_text vs path ≡ alts_text tag (pairs_of x.set) f.xs
  log-text bytes tag x f named =
      let entries : log vs path ≡ map (alt_entry (members (set_in f.s f.parent))) f.xs = log_is vs a path is ∙ ap spot_log f.is in
      let set : set_in f.s f.parent ≡ pairs_of x.set = sym f.laid.has in
      ap (flat_map (entry_text (last_name path))) entries
      ∙ ap (λ (ns : List (ℕ × ℕ)). flat_map (entry_text (last_name path)) (map (alt_entry (members ns)) f.xs)) set
      ∙ alts-log (last_name path) (pairs_of x.set) f.xs
      ∙ ap (λ (t : List ℕ). alts_text t (pairs_of x.set) f.xs) (sym named)

  pub log-none : spot_log (node_along a path) ≡ [] → log_text vs path ≡ []
  log-none none = ap (flat_map (entry_text (last_name path))) (log_is vs a path is ∙ none)

  pub log-alone : (bytes : List ℕ) (x : LeafAt) (f : Found bytes (node_along a path) x) → AloneOrStored f.xs
  log-alone bytes x f = leaf_alone vs a path f.parent f.l f.s f.xs is f.is

  -- the search, and the leaf
  pub pulls-both : (bytes : List ℕ) (x : LeafAt) (f : Found bytes (node_along a path) x) (n : ℕ) (p q r : Numbers) → PullsAtMost n p q → PullsAtMost (leaf_size f.parent (leaf_node f.l f.s f.xs)) q r → PullsAtMost (n + leaf_bytes (node_along a path)) p r
  pulls-both bytes x f n p q r h g = subst (λ (o : Option PlainSpot). PullsAtMost (n + leaf_bytes o) p r) (sym f.is) (PullsAtMost-trans n (leaf_size f.parent (leaf_node f.l f.s f.xs)) p q r h g)

-- ---- what was answered

-- nothing was written
pub nothing-told : (tag : List ℕ) (most : ℕ) (a : Taken) → (set : List (ℕ × ℕ)) × Lines AloneOrStored tag set most a a
nothing-told tag most a = ([], no-lines None tag [] most a a refl)

pub leaf-told : (tag name : List ℕ) (set : List (ℕ × ℕ)) (most : ℕ) (a b : Taken) → tag ≡ name → Lines AloneOrStored tag set most a b → (s : List (ℕ × ℕ)) × Lines AloneOrStored name s most a b
leaf-told tag name set most a b same h = (set, subst (λ (t : List ℕ). Lines AloneOrStored t set most a b) same h)

pub puts-of : {T : Type 0} (a b : Taken) (r : Result T LogFault) (text : List ℕ) → Prefixed a b (fault_of r) text → Puts a b r text
puts-of a b (Ok x) text h = h
puts-of a b (Err e) text h = h

pub undamaged-of : {T : Type 0} (r : Result T LogFault) → IsSound (fault_of r) → IfErr r (λ e. e ≢ Damage)
undamaged-of (Ok x) h = tt
undamaged-of (Err Damage) h = absurd h
undamaged-of (Err Folder) h = λ e. cc
undamaged-of (Err Out) h = λ e. cc
undamaged-of (Err Memory) h = λ e. cc

pub search-undamaged : (e : HistFault) → e ≢ history.Damage → of_history e ≢ Damage
search-undamaged history.Damage h f = h refl
search-undamaged history.Folder h f = cc
search-undamaged history.Memory h f = cc

-- ---- steps that were counted

pub on-ok : {T E : Type 0} (r : Result T E) (P : Type 0) → P → OnOk r P
on-ok (Ok x) P h = h
on-ok (Err e) P h = tt
