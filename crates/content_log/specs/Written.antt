-- What the writing of a log does.
use Rattle.std.specs.Prelude.{◌≡◌, ℕ, ◌+◌, ◌-◌, ◌≤◌, Bool, true, false, ◌&&◌, List, [], ◌∷◌, ◌++◌, length, map, Option, Some, None, IsSome, ⊤}
use Rattle.std.specs.List.{flat_map, AllByRecursion}
use Rattle.version_set.specs.Members.{intervals, members}
use Rattle.version_set.specs.Text.{set_text}
use Rattle.archive_tree.specs.Data.{Stamp, PlainAlt, PlainNode, inner_node, leaf_node}
use Rattle.keyed_tree.specs.Data.{PlainLabel}
use Rattle.record_cursor.specs.Items.{leaf_item, leaf_end_item, item_of}
use Rattle.record_cursor.specs.Moves.{Comes, TellsFront}
use Rattle.record_cursor.specs.View.{PlainCursor}
use Rattle.record_format.specs.Data.{leaf_rec}
use Rattle.record_format.specs.Nodes.{alt_of, piece_bytes, node_piece, set_in}
use Rattle.record_format.specs.Spelling.{rec_bytes}
use Rattle.xa_outside.specs.Folder.{Files}
use Rattle.xa_outside.specs.Numbers.{Numbers, PullsAtMost}
use Rattle.xa_outside.specs.Taken.{Taken, Takes, TakesPrefix}
use Rattle.version_set.specs.View.{pairs_of}
use Rattle.file_rows.specs.View.{child_view}
use Rattle.file_history.specs.Leads.{PlainSpot, LeafLaid}
use Rattle.file_history.specs.declared.leaf.LeafAt.{LeafAt}
use Rattle.content_log.specs.Text.{body_text}
use Rattle.content_log.specs.Told.{IsCaused, IsSound}
use Rattle.content_log.specs.declared.fault.LogFault.{LogFault}

-- what is seen of a folder and an output
pub record Seen : Type 0 where
  pub files : Option Files
  pub draft : Option (List ℕ)
  pub numbers : Numbers
  pub faults : ℕ
  pub taken : Taken
  pub out_faults : ℕ

-- The folder's files, draft, numbers and count of faults stand first, and then what the output has taken and its count of faults.
abbrev pub seen : {S K : Type 0} → (S → Option Files) → (S → Option (List ℕ)) → (S → Numbers) → (S → ℕ) → (K → Taken) → (K → ℕ) → S → K → Seen
seen files draft numbers faults taken out_faults folder sink =
    record {
      files = files folder;
      draft = draft folder;
      numbers = numbers folder;
      faults = faults folder;
      taken = taken sink;
      out_faults = out_faults sink;
    }

-- Whatever the file is: the folder's files and draft stay, the counts of faults do not fall, at most so many bytes are pulled, and the
-- output only gains.
pub record Walks (most : ℕ) (s t : Seen) (ended : Option LogFault) : Type 0 where
  pub same_files : t.files ≡ s.files
  pub same_draft : t.draft ≡ s.draft
  pub later : s.faults ≤ t.faults
  pub out_later : s.out_faults ≤ t.out_faults
  pub cause : IsCaused s.faults t.faults s.out_faults t.out_faults ended
  pub pulls : PullsAtMost most s.numbers t.numbers
  pub gained : (bytes : List ℕ) × Takes s.taken t.taken bytes

-- the output took these bytes, or a prefix of them on a fault
abbrev pub Prefixed : Taken → Taken → Option LogFault → List ℕ → Type 0
Prefixed before now None bytes = Takes before now bytes
Prefixed before now (Some e) bytes = TakesPrefix before now bytes

-- Where the file is sound: no damage is found, this text is written, and at most so many bytes are pulled.
pub record Shows (text : List ℕ) (most : ℕ) (s t : Seen) (ended : Option LogFault) : Type 0 where
  pub sound : IsSound ended
  pub bytes : Prefixed s.taken t.taken ended text
  pub pulls : PullsAtMost most s.numbers t.numbers

-- ---- which alternatives a leaf may have

-- the alternative stores its set
abbrev pub IsStored : PlainAlt → Type 0
IsStored x = IsSome x.stamp

-- one stands alone, or each one stores its set
abbrev pub AloneOrStored : List PlainAlt → Type 0
AloneOrStored [] = ⊤
AloneOrStored (x ∷ []) = ⊤
AloneOrStored (x ∷ y ∷ ys) = AllByRecursion IsStored (x ∷ y ∷ ys)

-- which may come first, which behind one that stores its set, and which behind one that stores none
abbrev pub MayCome : Option Bool → List PlainAlt → Type 0
MayCome None xs = AloneOrStored xs
MayCome (Some true) xs = AllByRecursion IsStored xs
MayCome (Some false) xs = xs ≡ []

-- whether one may come there that stores its set, or that stores none
abbrev pub may_come : Option Bool → Bool → Bool
may_come None stored = true
may_come (Some before) stored = before && stored

-- ---- what a leaf shows

-- the numbers of the alternative, a blank, its body, a line feed; its leaf has this set
abbrev pub alt_text : List ℕ → List (ℕ × ℕ) → PlainAlt → List ℕ
alt_text tag set x = set_text (intervals (members (set_in x.stamp set))) ++ (32 ∷ (body_text tag x.body ++ 10 ∷ []))

abbrev pub alts_text : List ℕ → List (ℕ × ℕ) → List PlainAlt → List ℕ
alts_text tag set xs = flat_map (alt_text tag set) xs

-- the alternatives come next, and behind them the end of their leaf
abbrev pub AltsCome : Option Files → PlainCursor → List PlainAlt → Type 0
AltsCome told c xs = Comes told c (map (λ x. item_of (alt_of x)) xs ++ leaf_end_item ∷ [])

-- how many bytes their records have
abbrev pub alts_bytes : List PlainAlt → ℕ
alts_bytes xs = length (flat_map rec_bytes (map alt_of xs))

-- how many bytes they have with the end of their leaf
abbrev pub alts_size : List PlainAlt → ℕ
alts_size xs = alts_bytes xs + 9

-- how many bytes a leaf has, and none for an inner node
abbrev pub leaf_size : List (ℕ × ℕ) → PlainNode → ℕ
leaf_size parent (inner_node l s ks) = 0
leaf_size parent (leaf_node l s xs) = length (piece_bytes (node_piece parent (leaf_node l s xs)))

-- the bytes of the one leaf that a path leads to, if it leads to one
abbrev pub leaf_bytes : Option PlainSpot → ℕ
leaf_bytes None = 0
leaf_bytes (Some p) = leaf_size p.parent p.node

-- The output took the lines of some alternatives in a leaf that has this set, or a prefix of them: of such ones as may stand there, whose
-- records have together at most so many bytes.
pub record Lines (may : List PlainAlt → Type 0) (tag : List ℕ) (set : List (ℕ × ℕ)) (most : ℕ) (old new : Taken) : Type 0 where
  pub alts : List PlainAlt
  pub are : may alts
  pub fit : alts_bytes alts ≤ most
  pub takes : TakesPrefix old new (alts_text tag set alts)

-- Alternatives were written behind some other or behind none, or it is said why not: whatever the file is, and where those come that may.
pub record AltsWritten (came : Option Bool) (tag : List ℕ) (set : List (ℕ × ℕ)) (c : PlainCursor) (s t : Seen) (ended : Option LogFault) : Type 0 where
  pub walks : Walks (c.length - c.at) s t ended
  pub told : Lines (MayCome came) tag set (c.length - c.at) s.taken t.taken
  pub shows : (xs : List PlainAlt) → MayCome came xs → AltsCome s.files c xs → Shows (alts_text tag set xs) (alts_size xs) s t ended

-- The leaf that comes was written, or it is said why not.
pub record RecordsWritten (tag : List ℕ) (set : List (ℕ × ℕ)) (c : PlainCursor) (s t : Seen) (ended : Option LogFault) : Type 0 where
  pub walks : Walks (c.length - c.at) s t ended
  pub told : Lines AloneOrStored tag set (c.length - c.at) s.taken t.taken
  pub shows : (l : PlainLabel) (stamp : Stamp) (xs : List PlainAlt) → AloneOrStored xs → Comes s.files c (leaf_item l stamp ∷ (map (λ x. item_of (alt_of x)) xs ++ leaf_end_item ∷ []))
      → Shows (alts_text tag set xs) (length (rec_bytes (leaf_rec l stamp)) + alts_size xs) s t ended

-- A leaf was written, or it is said why not: whatever the file is, and where it stands there.
pub record LeafWritten (name tag : List ℕ) (size : ℕ) (at : LeafAt) (s t : Seen) (ended : Option LogFault) : Type 0 where
  pub walks : Walks size s t ended
  pub told : Lines AloneOrStored tag (pairs_of at.set) size s.taken t.taken
  pub shows : (bytes : List ℕ) (parent : List (ℕ × ℕ)) (l : PlainLabel) (stamp : Stamp) (xs : List PlainAlt) → AloneOrStored xs → TellsFront s.files name size bytes
      → LeafLaid bytes (child_view at.child) (pairs_of at.set) parent (leaf_node l stamp xs)
      → Shows (alts_text tag (pairs_of at.set) xs) (leaf_size parent (leaf_node l stamp xs)) s t ended
