-- What the whole join comes to.
use Rattle.std.proofs.Common.{◌≡◌, ℕ, ◌+◌, ◌-◌, ◌≤◌, true, false, List, [], ◌∷◌, ◌++◌, Option, Some, None, Result, Ok, Err, sym, ap, subst, ◌∙◌, arith}
use Rattle.std.specs.Result.{IfErr, OnOk}
use Rattle.key_spec.specs.Data.{PlainRule}
use Rattle.keyed_tree.specs.Data.{PlainKeyed}
use Rattle.archive_tree.specs.Data.{PlainNodes}
use Rattle.xa_outside.specs.Causes.{Rose}
use Rattle.xa_outside.specs.Folder.{Files, IsBlank}
use Rattle.xa_outside.specs.Numbers.{Numbers, PullsAndDrafts}
use Rattle.archive_file.specs.Sound.{SoundAs}
use Rattle.record_copy.specs.Raised.{raised_nodes}
use Rattle.record_copy.specs.Seen.{Coming, row_items}
use Rattle.record_cursor.specs.Items.{end_item, finish}
use Rattle.record_cursor.specs.Places.{among_nodes}
use Rattle.record_cursor.specs.View.{PlainHeader, PlainCursor}
use Rattle.record_format.specs.Files.{FileOf}
use Rattle.record_parts.specs.declared.limits.TheConstants.{MOST_VERSIONS}
use Rattle.archive_join.specs.Faults.{fault_of, plain, SparesFirst, SparesSecond}
use Rattle.archive_join.specs.Join.{IsArchive, Appended, Overfull, IfTooLong, IfDamaged, IfFailed}
use Rattle.archive_join.specs.Runs.{AreCalls}
use Rattle.archive_join.specs.Whole.{ArchivesJoined}
use Rattle.archive_join.specs.declared.fault.JoinFault.{JoinFault}
use Rattle.archive_join.specs.declared.fault.JoinFault.TheVariants.{Damage, TooLong, Folder, Memory}
use Rattle.archive_join.proofs.Coming.{nodes-come, nodes-still}
use Rattle.archive_join.proofs.Joining.{ours, theirs, calls, rows-fit, sound-of, none-of}
use Rattle.record_copy.proofs.Passing.{blank-is, blank-one}

-- the cursor stands before the first record behind the header
abbrev pub IsBefore : PlainHeader → PlainCursor → Type 0
IsBefore h c = c ≡ record { name = c.name; length = h.length; standing = among_nodes 0; at = h.first }

long : (h : PlainHeader) (c : PlainCursor) → IsBefore h c → c.length ≡ h.length
long h c at = ap (λ (p : PlainCursor). p.length) at

pub left-over : (h : PlainHeader) (c : PlainCursor) → IsBefore h c → c.length - c.at ≡ h.length - h.first
left-over h c at = ap (λ (p : PlainCursor). p.length - p.at) at

come : (n : ℕ) (told : Option Files) (h : PlainHeader) (c : PlainCursor) (rules : List PlainRule) (vs : List PlainKeyed) (i : IsArchive told c.name h rules vs) → IsBefore h c → Coming n told c (row_items (raised_nodes n i.sound.file.archive.kids) ++ end_item 0 ∷ finish ∷ [])
come n told h c rules vs i at = nodes-come n told c h rules vs i (long h c at) (ap (λ (p : PlainCursor). p.standing) at) (ap (λ (p : PlainCursor). p.at) at)

module _ {S : Type 0} (files : S → Option Files) (draft : S → Option (List ℕ)) (numbers : S → Numbers) (faults : S → ℕ) (h g : PlainHeader) (old new : S) (c d : PlainCursor) (left : IsBefore h c) (right : IsBefore g d) where
  abbrev Joined : Option JoinFault → Type 0
  Joined ended = ArchivesJoined files draft numbers faults h g.versions old new c d ended

  ours-come : (rules : List PlainRule) (vs : List PlainKeyed) (i : IsArchive (files old) c.name h rules vs) → Coming 0 (files old) c (row_items i.sound.file.archive.kids ++ end_item 0 ∷ finish ∷ [])
  ours-come rules vs i = subst (λ (ks : PlainNodes). Coming 0 (files old) c (row_items ks ++ end_item 0 ∷ finish ∷ [])) (nodes-still i.sound.file.archive.kids) (come 0 (files old) h c rules vs i left)

  theirs-come : (rules : List PlainRule) (us : List PlainKeyed) (i : IsArchive (files old) d.name g rules us) → Coming h.versions (files old) d (row_items (raised_nodes h.versions i.sound.file.archive.kids) ++ end_item 0 ∷ finish ∷ [])
  theirs-come rules us i = come h.versions (files old) g d rules us i right

  -- ---- where both are sound

  module _ (few : h.versions + g.versions ≤ MOST_VERSIONS) (rules : List PlainRule) (vs us : List PlainKeyed) (one : IsArchive (files old) c.name h rules vs) (two : IsArchive (files old) d.name g rules us) where
    called : (ended : Option JoinFault) (v : Joined ended) → AreCalls (calls (files old) c.name d.name h g rules vs us one two few) v.made v.next (plain ended)
    called ended v = v.nodes (ours (files old) c.name d.name h g rules vs us one two few).kids (raised_nodes h.versions (theirs (files old) c.name d.name h g rules vs us one two few).kids) (ours-come rules vs one) (theirs-come rules us two)
        (rows-fit (files old) c.name d.name h g rules vs us one two few)

    sound : (v : Joined None) → SoundAs rules (vs ++ us) v.bytes
    sound v = sound-of (files old) c.name d.name h g rules vs us one two few v.made v.bytes (called None v) v.fit v.same

    no-file : (v : Joined (Some TooLong)) (file : List ℕ) → ¬ FileOf rules (vs ++ us) file
    no-file v = (let is = called (Some TooLong) v in none-of (files old) c.name d.name h g rules vs us one two few v.made is.0 v.next is.1 v.over)

  -- ---- the clauses

  pub appended-of : (r : Result (Unit {0}) JoinFault) → Joined (fault_of r) → h.versions + g.versions ≤ MOST_VERSIONS → IsBlank (draft old) → OnOk r (Appended h c.name g d.name (files old) (draft old) (draft new))
  appended-of (Ok x) v few blank =
      let reads = v.reads in
      record {
        bytes = v.bytes;
        drafted = reads.lengthens ∙ blank-one (draft old) v.bytes blank;
        sound = λ rules vs us one two. sound few rules vs us one two v;
      }
  appended-of (Err e) v few blank = tt

  pub too_long-of : (r : Result (Unit {0}) JoinFault) → Joined (fault_of r) → h.versions + g.versions ≤ MOST_VERSIONS → (rules : List PlainRule) (vs us : List PlainKeyed) → IsArchive (files old) c.name h rules vs → IsArchive (files old) d.name g rules us
      → IfErr r (λ e. IfTooLong e ((file : List ℕ) → ¬ (FileOf rules (vs ++ us) file)))
  too_long-of (Ok x) v few rules vs us one two = tt
  too_long-of (Err TooLong) v few rules vs us one two = no-file few rules vs us one two v
  too_long-of (Err (Damage second)) v few rules vs us one two = tt
  too_long-of (Err Folder) v few rules vs us one two = tt
  too_long-of (Err Memory) v few rules vs us one two = tt

  pub no_room-of : (r : Result (Unit {0}) JoinFault) → Joined (fault_of r) → IsBlank (draft old) → (b : ℕ) → h.length + 12 ≤ b → g.length + 12 ≤ b → IfErr r (λ e. IfTooLong e (Overfull b h.rules h.versions g.versions (draft new)))
  no_room-of (Ok x) v blank b file other = tt
  no_room-of (Err TooLong) v blank b file other =
      let reads = v.reads in
      let one = long h c left in
      let two = long g d right in
      let short = v.short b (omega (arith, file, one)) (omega (arith, other, two)) in
      record {
        made = v.made;
        next = v.next;
        short = short.each;
        next_short = short.last;
        fit = v.fit;
        drafted = λ bytes is. blank-is (draft old) bytes v.bytes blank (sym is ∙ reads.lengthens) ∙ v.same;
        over = v.over;
      }
  no_room-of (Err (Damage second)) v blank b file other = tt
  no_room-of (Err Folder) v blank b file other = tt
  no_room-of (Err Memory) v blank b file other = tt

  pub first_undamaged-of : (r : Result (Unit {0}) JoinFault) → Joined (fault_of r) → (rules : List PlainRule) (vs : List PlainKeyed) → IsArchive (files old) c.name h rules vs → IfErr r (λ e. IfDamaged false e ⊥)
  first_undamaged-of (Ok x) v rules vs one = tt
  first_undamaged-of (Err e) v rules vs one = λ is. subst (λ (f : JoinFault). SparesFirst (Some f)) is (v.first one.sound.file.archive.kids (ours-come rules vs one))

  pub second_undamaged-of : (r : Result (Unit {0}) JoinFault) → Joined (fault_of r) → (rules : List PlainRule) (us : List PlainKeyed) → IsArchive (files old) d.name g rules us → IfErr r (λ e. IfDamaged true e ⊥)
  second_undamaged-of (Ok x) v rules us two = tt
  second_undamaged-of (Err e) v rules us two = λ is. subst (λ (f : JoinFault). SparesSecond (Some f)) is (v.second (raised_nodes h.versions two.sound.file.archive.kids) (theirs-come rules us two))

  pub cause-of : (r : Result (Unit {0}) JoinFault) → Joined (fault_of r) → IfFailed r (Rose (faults old) (faults new))
  cause-of (Ok x) v = tt
  cause-of (Err TooLong) v = tt
  cause-of (Err (Damage second)) v = tt
  cause-of (Err Folder) v = (let reads = v.reads in reads.cause)
  cause-of (Err Memory) v = tt

  pub pulls-of : (ended : Option JoinFault) → Joined ended → PullsAndDrafts ((h.length - h.first) + (g.length - g.first)) (numbers old) (numbers new)
  pulls-of ended v = (let reads = v.reads in subst (λ (n : ℕ). PullsAndDrafts n (numbers old) (numbers new)) (λ i. left-over h c left i + left-over g d right i) reads.pulls)
