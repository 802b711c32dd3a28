-- What a part of the printing does.
use Rattle.std.specs.Prelude.{◌≡◌, ℕ, ◌+◌, ◌≤◌, List, Bool, true, false, nat_lt, Option, Some, None}
use Rattle.xa_outside.specs.Numbers.{PullsAtMost}
use Rattle.xa_outside.specs.Taken.{Taken, Takes, TakesPrefix}
use Rattle.jsonml_print.specs.Pen.{Pen, is_item, one_more, takes_attribute}
use Rattle.jsonml_print.specs.declared.last.Last.TheVariants.{Begun}
use Rattle.jsonml_print.specs.Calls.{Call, printed, reached}
use Rattle.file_get.specs.State.{State}
use Rattle.file_get.specs.Told.{IsCaused, IsBehind, IsSound, Unless}
use Rattle.file_get.specs.declared.fault.GetFault.{GetFault}

-- Whatever the file is: the folder's files and draft stay, the counts of faults do not fall, at most so many bytes are pulled, and the
-- output only gains.
pub record Walks (most : ℕ) (s t : State) (ended : Option GetFault) : Type 0 where
  pub same_files : t.files ≡ s.files
  pub same_draft : t.draft ≡ s.draft
  pub later : s.faults ≤ t.faults
  pub out_later : s.out_faults ≤ t.out_faults
  pub cause : IsCaused s.faults t.faults s.out_faults t.out_faults ended
  pub behind : IsBehind ended
  pub pulls : PullsAtMost most s.numbers t.numbers
  pub gained : (bytes : List ℕ) × Takes s.taken t.taken bytes

-- So many elements are open at least; where no item was printed behind the beginning of the last one, an attribute may still come into it, and
-- outside of all elements the outermost may begin.
pub record StandsIn (depth : ℕ) (has_item : Bool) (p : Pen) : Type 0 where
  pub count : depth ≤ p.depth
  pub item : has_item ≡ false → is_item p.last ≡ false
  pub attribute : nat_lt 0 depth ≡ true → has_item ≡ false → takes_attribute p.last ≡ true

-- an element was begun below so many others at least, and nothing printed behind its beginning
abbrev pub IsBegun : ℕ → Pen → Type 0
IsBegun depth p = (d : ℕ) × (depth ≤ d) × (p ≡ record { depth = one_more d; last = Begun })

-- the output took these bytes, or a prefix of them on a fault
abbrev pub Prefixed : Taken → Taken → Option GetFault → List ℕ → Type 0
Prefixed before now None bytes = Takes before now bytes
Prefixed before now (Some e) bytes = TakesPrefix before now bytes

-- Where the file is sound: these calls were printed, at most so many bytes were pulled and so many steps taken, exactly so many where nothing
-- failed, and there is no damage.
pub record Shows (calls : List Call) (read walked : ℕ) (s t : State) (ended : Option GetFault) : Type 0 where
  pub sound : IsSound ended
  pub bytes : Prefixed s.taken t.taken ended (printed s.pen calls)
  pub pen : Unless ended (t.pen ≡ reached s.pen calls)
  pub pulls : PullsAtMost read s.numbers t.numbers
  pub steps : t.steps ≤ s.steps + walked
  pub exact : Unless ended (t.steps ≡ s.steps + walked)

-- Output alone: these calls were printed, or a prefix of what they print on a fault.
pub record Sends (calls : List Call) (s t : State) (ended : Option GetFault) : Type 0 where
  pub walks : Walks 0 s t ended
  pub shows : Shows calls 0 0 s t ended
