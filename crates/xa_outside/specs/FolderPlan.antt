-- Calls of a folder that are planned to fail, by their kinds and their numbers from 1.
use Rattle.std.specs.Prelude.{ℕ, ◌+◌, ◌-◌, ◌^◌, ◌<◌, ◌==◌, ◌&&◌, Bool, true, false, List, IsTrue}
use Rattle.std.specs.List.{list_any}
use Rattle.xa_outside.specs.Numbers.{capped}
use Rattle.xa_outside.specs.Planned.{count_upto}
use Rattle.xa_outside.specs.declared.folder_call.FolderCall.{FolderCall}
use Rattle.xa_outside.specs.declared.folder_call.FolderCall.TheVariants.{Length, ReadAt, Begin, Append, Commit}
use Rattle.xa_outside.specs.declared.folder_call.FolderFail.{FolderFail}

-- how many calls of each kind were made
pub record Made : Type 0 where
  pub length : ℕ
  pub read_at : ℕ
  pub begin : ℕ
  pub append : ℕ
  pub commit : ℕ

abbrev pub made_none : Made
made_none = record { length = 0; read_at = 0; begin = 0; append = 0; commit = 0 }

-- the calls that fail, and how many of each kind were made
pub record FolderPlan : Type 0 where
  pub fails : List FolderFail
  pub made : Made

abbrev pub is_call : FolderCall → FolderCall → Bool
is_call Length Length = true
is_call ReadAt ReadAt = true
is_call Begin Begin = true
is_call Append Append = true
is_call Commit Commit = true
is_call _ _ = false

-- whether the call of this kind and number is listed
abbrev pub is_listed : List FolderFail → FolderCall → ℕ → Bool
is_listed fails call number = list_any (λ f. is_call f.call call && f.number == number) fails

-- how many calls of this kind were made
abbrev pub made_of : Made → FolderCall → ℕ
made_of made Length = made.length
made_of made ReadAt = made.read_at
made_of made Begin = made.begin
made_of made Append = made.append
made_of made Commit = made.commit

-- one more call of this kind was made
abbrev pub count_call : Made → FolderCall → Made
count_call made Length = record made { length = capped (made.length + 1) }
count_call made ReadAt = record made { read_at = capped (made.read_at + 1) }
count_call made Begin = record made { begin = capped (made.begin + 1) }
count_call made Append = record made { append = capped (made.append + 1) }
count_call made Commit = record made { commit = capped (made.commit + 1) }

-- the next call of this kind is a listed one; the calls behind the last number are listed nowhere
abbrev pub IsNextListed : FolderPlan → FolderCall → Type 0
IsNextListed plan call = (made_of plan.made call < 2 ^ 64 - 1) × IsTrue (is_listed plan.fails call (made_of plan.made call + 1))

abbrev pub listed_of : FolderPlan → FolderCall → ℕ
listed_of plan call = count_upto (is_listed plan.fails call) (made_of plan.made call)

-- how many listed calls were made, of all kinds
abbrev pub listed_made : FolderPlan → ℕ
listed_made plan = listed_of plan Length + listed_of plan ReadAt + listed_of plan Begin + listed_of plan Append + listed_of plan Commit

-- the plan after one more call of this kind
abbrev pub after_call : FolderPlan → FolderCall → FolderPlan
after_call plan call = record { fails = plan.fails; made = count_call plan.made call }
