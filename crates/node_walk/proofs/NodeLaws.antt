-- The nodes of a file, and its end.
use Rattle.std.proofs.Common.{◌≡◌, ℕ, ◌-◌, ◌≤◌, Bool, cond, ◌&&◌, IsTrue, List, [], length, drop, Option, Some, None, Result, Ok, Err, refl, sym, ap, subst, ◌∙◌, arith}
use Rattle.std.specs.FinMap as map
use Rattle.std.specs.List.{range_with_len}
use Rattle.std.proofs.lemmas.Bool.{and_parts, and_from}
use Rattle.std.proofs.lemmas.Slice.Eq.{bytes_eq-Decides}
use Rattle.jsonml_tree.specs.declared.limits.TheConstants.{GREATEST_DEPTH}
use Rattle.version_set.specs.Members.{members, upto_pairs}
use Rattle.archive_tree.specs.Data.{PlainNodes}
use Rattle.archive_tree.specs.Parts.{node_sets}
use Rattle.archive_tree.specs.PartsTest.{are_parts}
use Rattle.xa_fields.specs.Spelling.{u64_bytes}
use Rattle.xa_outside.specs.Folder.{bytes_or_none}
use Rattle.xa_outside.specs.Numbers.{IsMeter, PullsAtMost}
use Rattle.xa_outside.specs.NumberLaws.{PullsAtMost-none, PullsAtMost-more}
use Rattle.record_parts.specs.Bounds.{deepest}
use Rattle.archive_file.specs.Laid.{RowAt}
use Rattle.record_cursor.specs.Items.{PlainItem, finish}
use Rattle.record_cursor.specs.Moves.{TellsFront}
use Rattle.record_cursor.specs.Next.{next_of}
use Rattle.record_cursor.specs.Places.{Standing, among_nodes, behind_root, finished}
use Rattle.record_cursor.specs.View.{PlainCursor, PlainHeader}
use Rattle.record_cursor.specs.declared.fault.CursorFault.{CursorFault}
use Rattle.record_cursor.specs.declared.fault.CursorFault.TheVariants.{Memory}
use Rattle.record_cursor.proofs.Comes.{ends}
use Rattle.node_judge.specs.InPlace.{is_sound_archive}
use Rattle.node_judge.specs.Rows.{root_frame, goes_on}
use Rattle.node_walk.specs.Nodes.{FolderSeen, NodesLie, NodesJudged, archive_with}
use Rattle.node_walk.specs.Places.{left_of}
use Rattle.node_walk.specs.Seen.{Seen, Told, at_hand, may_pull, Reads}
use Rattle.node_walk.specs.Walked.{FinishRead, RootJudged, IsRootRight, end_length}
use Rattle.node_walk.proofs.Steps.{Missed, reads-then, damage-map, told-on}

-- ---- the end of the file

not-none : (o : Option (PlainItem × (Standing × List ℕ))) (x : PlainItem × (Standing × List ℕ)) → o ≡ Some x → o ≡ None → ⊥
not-none (Some y) x e f = cc
not-none None x e f = cc

tail-comes : (n : ℕ) (now : List ℕ) → now ≡ u64_bytes n → next_of (behind_root n) now ≡ Some (finish, (finished, []))
tail-comes n now e = ends n now (ap (λ (b : Bool). cond {A = Option (PlainItem × List ℕ)} b (Some (finish, [])) None) ((bytes_eq-Decides now (u64_bytes n)).1 e))

module _ (n : ℕ) (s : Seen) (stands : s.cursor.standing ≡ behind_root n) where
  pub finish-failed : (t : Seen) (e : CursorFault) → Missed s t e → FinishRead n s t (Err e)
  finish-failed t e h = record {
    reads = h.reads;
    lies = λ bytes told. tt;
    found = λ bytes told is. damage-map e (next_of s.cursor.standing (at_hand s bytes) ≡ None) ⊥
        (λ none. not-none (next_of (behind_root n) (at_hand s bytes)) (finish, (finished, [])) (tail-comes n (at_hand s bytes) is) (subst (λ (p : Standing). next_of p (at_hand s bytes) ≡ None) stands none)) (h.damage bytes told);
    whole = λ files told. tt;
  }

-- ---- the nodes

abbrev folder_of : Seen → FolderSeen
folder_of s = record { files = s.files; draft = s.draft; numbers = s.numbers; faults = s.faults }

pull-all : (s u : Seen) (e : Option CursorFault) → u.cursor.at ≤ u.cursor.length → u.cursor.length ≡ s.cursor.length → may_pull s u e ≤ s.cursor.length - s.cursor.at
pull-all s u None within same = omega (arith, within, same)
pull-all s u (Some e) within same = omega arith

module _ (name : List ℕ) (h : PlainHeader) (s : Seen) (is : s.cursor ≡ record { name = name; length = h.length; standing = among_nodes 0; at = h.first }) where
  told-here : (bytes : List ℕ) → TellsFront s.files name h.length bytes → Told s bytes
  told-here bytes front = subst (λ (c : PlainCursor). TellsFront s.files c.name c.length bytes) (sym is) front

  hand : (bytes : List ℕ) → at_hand s bytes ≡ drop h.first bytes
  hand bytes = ap (λ (c : PlainCursor). drop c.at bytes) is

  whole-left : left_of s ≡ deepest
  whole-left = ap (λ (c : PlainCursor). left_of (record { files = s.files; draft = s.draft; numbers = s.numbers; faults = s.faults; cursor = c })) is ∙ omega arith

  row-here : (bytes rest : List ℕ) (ks : PlainNodes) (set : List (ℕ × ℕ)) → set ≡ upto_pairs h.versions → RowAt (upto_pairs h.versions) ks rest deepest (drop h.first bytes) → RowAt set ks rest (left_of s) (at_hand s bytes)
  row-here bytes rest ks set own row =
      subst (λ (z : List (ℕ × ℕ)). RowAt z ks rest (left_of s) (at_hand s bytes)) (sym own)
      (subst (λ (d : ℕ). RowAt (upto_pairs h.versions) ks rest d (at_hand s bytes)) (sym whole-left) (subst (λ (z : List ℕ). RowAt (upto_pairs h.versions) ks rest deepest z) (sym (hand bytes)) row))

  row-back : (bytes rest : List ℕ) (ks : PlainNodes) (set : List (ℕ × ℕ)) → set ≡ upto_pairs h.versions → RowAt set ks rest (left_of s) (at_hand s bytes) → RowAt (upto_pairs h.versions) ks rest deepest (drop h.first bytes)
  row-back bytes rest ks set own row =
      subst (λ (z : List ℕ). RowAt (upto_pairs h.versions) ks rest deepest z) (hand bytes)
      (subst (λ (d : ℕ). RowAt (upto_pairs h.versions) ks rest d (at_hand s bytes)) whole-left (subst (λ (z : List (ℕ × ℕ)). RowAt z ks rest (left_of s) (at_hand s bytes)) own row))

  -- the row of the root is that of a sound archive
  module _ (set : List (ℕ × ℕ)) (own : set ≡ upto_pairs h.versions) (numbers : members set ≡ range_with_len 1 h.versions) (law : (ks : PlainNodes) → is_sound_archive h.rules (archive_with h ks)
      ≡ (goes_on (root_frame h.rules (upto_pairs h.versions) GREATEST_DEPTH) ks && are_parts (range_with_len 1 h.versions) (node_sets (range_with_len 1 h.versions) ks))) where
    sound-right : (ks : PlainNodes) → IsTrue (is_sound_archive h.rules (archive_with h ks)) → IsRootRight h.rules set ks
    sound-right ks sound =
        let two = and_parts (goes_on (root_frame h.rules (upto_pairs h.versions) GREATEST_DEPTH) ks) (are_parts (range_with_len 1 h.versions) (node_sets (range_with_len 1 h.versions) ks)) (sym (law ks) ∙ sound) in (
          subst (λ (z : List (ℕ × ℕ)). IsTrue (goes_on (root_frame h.rules z GREATEST_DEPTH) ks)) (sym own) two.0,
          subst (λ (ns : List ℕ). IsTrue (are_parts ns (node_sets ns ks))) (sym numbers) two.1,
        )

    right-sound : (ks : PlainNodes) → IsTrue (goes_on (root_frame h.rules set GREATEST_DEPTH) ks) → IsTrue (are_parts (members set) (node_sets (members set) ks)) → IsTrue (is_sound_archive h.rules (archive_with h ks))
    right-sound ks goes parts =
        law ks
        ∙ and_from (goes_on (root_frame h.rules (upto_pairs h.versions) GREATEST_DEPTH) ks) (are_parts (range_with_len 1 h.versions) (node_sets (range_with_len 1 h.versions) ks))
        (subst (λ (z : List (ℕ × ℕ)). IsTrue (goes_on (root_frame h.rules z GREATEST_DEPTH) ks)) own goes)
        (subst (λ (ns : List ℕ). IsTrue (are_parts ns (node_sets ns ks))) numbers parts)

    module _ (u : Seen) where
      pulls-all : (e : Option CursorFault) → Reads s u e → PullsAtMost (h.length - h.first) s.numbers u.numbers
      pulls-all e reads =
          let at = ap (λ (c : PlainCursor). c.at) is in
          let end = ap (λ (c : PlainCursor). c.length) is in
          let all = pull-all s u e reads.within reads.same_length in
          PullsAtMost-more (may_pull s u e) (h.length - h.first) s.numbers u.numbers (omega (arith, all, at, end)) reads.pulls

      -- the row was not judged to its END
      pub nodes-failed : (e : CursorFault) → RootJudged h.rules set s u (Err e) → NodesJudged name h (folder_of s) (folder_of u) (Err e)
      nodes-failed e r = record {
        same_files = r.reads.same_files;
        same_draft = r.reads.same_draft;
        later = r.reads.later;
        cause = r.reads.cause;
        pulls = pulls-all (Some e) r.reads;
        lies = λ bytes front. tt;
        found = λ bytes front ks lie sound. (let rest = u64_bytes (end_length (upto_pairs h.versions) ks) in r.found bytes (told-here bytes front) ks rest (row-here bytes rest ks set own lie) (sound-right ks sound));
        whole = λ files told. tt;
      }

    module _ (t u : Seen) (n : ℕ) (row : RootJudged h.rules set s t (Ok n)) where
      row-root : (bytes : List ℕ) → Told s bytes → (x : PlainNodes) × RowAt set x (at_hand t bytes) (left_of s) (at_hand s bytes) × (n ≡ end_length (upto_pairs h.versions) x) × IsTrue (is_sound_archive h.rules (archive_with h x))
      row-root bytes told =
          let y = row.lies bytes told in
          let x = y.1 in (
            x.nodes,
            x.lies,
            x.long ∙ ap (λ (z : List (ℕ × ℕ)). end_length z x.nodes) own,
            right-sound x.nodes x.right y.2,
          )

      -- nodes that lie there are those that were judged, and the length of the END's body is at hand
      tail-here : (bytes : List ℕ) → Told s bytes → (ks : PlainNodes) → NodesLie h ks bytes → at_hand t bytes ≡ u64_bytes n
      tail-here bytes told ks lie =
          let rest = u64_bytes (end_length (upto_pairs h.versions) ks) in
          let x = (row.lies bytes told).1 in
          let only = x.only ks rest (row-here bytes rest ks set own lie) in
          let long : n ≡ end_length (upto_pairs h.versions) ks = x.long ∙ ap (λ (z : List (ℕ × ℕ)). end_length z x.nodes) own ∙ ap (end_length (upto_pairs h.versions)) only.0 in
          only.1 ∙ ap u64_bytes (sym long)

      nodes-read : FinishRead n t u (Ok tt) → NodesJudged name h (folder_of s) (folder_of u) (Ok tt)
      nodes-read f =
          let reads = reads-then s t u None row.reads f.reads in
          record {
            same_files = reads.same_files;
            same_draft = reads.same_draft;
            later = reads.later;
            cause = tt;
            pulls = pulls-all u None reads;
            lies = λ bytes front. (
                let told = told-here bytes front in
                let y = row-root bytes told in
                let tail = f.lies bytes (told-on s t None bytes row.reads told) in
                (y.0, subst (λ (z : List ℕ). RowAt (upto_pairs h.versions) y.0 z deepest (drop h.first bytes)) (tail ∙ ap u64_bytes y.2) (row-back bytes (at_hand t bytes) y.0 set own y.1), y.3));
            found = λ bytes front ks lie sound. tt;
            whole = λ files told. (
                let there = f.whole files (row.reads.same_files ∙ told) in
                let long : t.cursor.length ≡ h.length = row.reads.same_length ∙ ap (λ (c : PlainCursor). c.length) is in
                let named : t.cursor.name ≡ name = row.reads.same_name ∙ ap (λ (c : PlainCursor). c.name) is in
                subst (λ (x : List ℕ). h.length ≤ length (bytes_or_none (map.get files x))) named (subst (λ (x : ℕ). x ≤ length (bytes_or_none (map.get files t.cursor.name))) long there));
          }

      nodes-unfinished : (e : CursorFault) → FinishRead n t u (Err e) → NodesJudged name h (folder_of s) (folder_of u) (Err e)
      nodes-unfinished e f =
          let reads = reads-then s t u (Some e) row.reads f.reads in
          record {
            same_files = reads.same_files;
            same_draft = reads.same_draft;
            later = reads.later;
            cause = reads.cause;
            pulls = pulls-all u (Some e) reads;
            lies = λ bytes front. tt;
            found = λ bytes front ks lie sound. (let told = told-here bytes front in f.found bytes (told-on s t None bytes row.reads told) (tail-here bytes told ks lie));
            whole = λ files told. tt;
          }

      -- the end of the file was read or not
      pub nodes-judged : (r : Result (Unit {0}) CursorFault) → FinishRead n t u r → NodesJudged name h (folder_of s) (folder_of u) r
      nodes-judged (Ok x) f = nodes-read f
      nodes-judged (Err e) f = nodes-unfinished e f

-- there is no memory to begin with
pub nodes-memory : (name : List ℕ) (h : PlainHeader) (s : FolderSeen) → IsMeter s.numbers → NodesJudged name h s s (Err Memory)
nodes-memory name h s meter = record {
  same_files = refl;
  same_draft = refl;
  later = omega arith;
  cause = tt;
  pulls = PullsAtMost-none (h.length - h.first) s.numbers meter;
  lies = λ bytes front. tt;
  found = λ bytes front ks lie sound. tt;
  whole = λ files told. tt;
}
