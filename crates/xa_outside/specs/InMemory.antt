-- What the objects in memory hold, and when their calls fail.
use Rattle.std.specs.Prelude.{◌≡◌, ℕ, ◌+◌, ◌≤◌, ◌↔◌, ◌⊎◌, List, drop, Option, Some, None, Result, IsErr, OnErr, if◌then◌else◌}
use Rattle.xa_outside.specs.Causes.{Rose}
use Rattle.xa_outside.specs.Folder.{Files}
use Rattle.xa_outside.specs.Numbers.{Numbers, capped}
use Rattle.xa_outside.specs.Meter.{numbers}
use Rattle.xa_outside.specs.Planned as planned
use Rattle.xa_outside.specs.FolderPlan as folder
use Rattle.xa_outside.specs.Scripts.{plan_of, folder_plan_of}
use Rattle.xa_outside.specs.NamedFiles.{stored_files}
use Rattle.xa_outside.specs.declared.folder_call.FolderCall.{FolderCall}
use Rattle.xa_outside.specs.declared.mem_source.MemSource.{MemSource}
use Rattle.xa_outside.specs.declared.mem_sink.MemSink.{MemSink}
use Rattle.xa_outside.specs.declared.mem_folder.MemFolder.{MemFolder}
use Rattle.xa_outside.specs.declared.sure.SureSource.{SureSource}
use Rattle.xa_outside.specs.declared.sure.SureFolder.{SureFolder}

-- the bytes still to be read, and the planned failures
pub record SourceState : Type 0 where
  pub rest : List ℕ
  pub plan : planned.Plan

abbrev pub source_state : MemSource → SourceState
source_state s = record { rest = drop s.at s.bytes.items; plan = plan_of s.script }

-- the listed calls made so far
abbrev pub source_faults : MemSource → ℕ
source_faults s = planned.listed_made (source_state s).plan

-- the bytes taken, the planned failures, and how many growths were refused
pub record SinkState : Type 0 where
  pub taken : List ℕ
  pub plan : planned.Plan
  pub starved : ℕ

abbrev pub sink_state : MemSink → SinkState
sink_state s = record { taken = s.taken.items; plan = plan_of s.script; starved = s.starved }

-- the listed calls made so far and the growths that were refused
abbrev pub sink_faults : MemSink → ℕ
sink_faults s = let state = sink_state s in capped (planned.listed_made state.plan + state.starved)

-- the files, the draft, the numbers, the planned failures, and how many growths were refused
pub record FolderState : Type 0 where
  pub files : Files
  pub draft : List ℕ
  pub numbers : Numbers
  pub plan : folder.FolderPlan
  pub starved : ℕ

abbrev pub folder_state : MemFolder → FolderState
folder_state f =
    record { files = stored_files f.files; draft = f.draft.items; numbers = numbers f.meter; plan = folder_plan_of f.script; starved = f.starved }

-- the listed calls made so far and the growths that were refused
abbrev pub folder_faults : MemFolder → ℕ
folder_faults f = let state = folder_state f in capped (folder.listed_made state.plan + state.starved)

-- a call fails exactly where it is listed, or a growth was refused in it, or no more of these can be counted
pub record FailsExactly {T E : Type 0} (listed : Type 0) (before now : ℕ) (result : Result T E) : Type 0 where
  pub exact : IsErr result ↔ (listed ⊎ Rose before now)
  pub later : before ≤ now
  pub once : now ≤ before + 1

-- a call of a sink in memory, by its plan
pub record WritesByPlan {T E : Type 0} (old new : SinkState) (result : Result T E) : Type 0 where
  pub plan : new.plan ≡ planned.after_call old.plan
  pub fails : FailsExactly (planned.IsNextListed old.plan) old.starved new.starved result

-- a call of a folder in memory, by its plan; a failed one leaves all else
pub record CallsByPlan {T E : Type 0} (call : FolderCall) (old new : FolderState) (result : Result T E) : Type 0 where
  pub plan : new.plan ≡ folder.after_call old.plan call
  pub fails : FailsExactly (folder.IsNextListed old.plan call) old.starved new.starved result
  pub failed : OnErr result ((new.files ≡ old.files) × (new.draft ≡ old.draft) × (new.numbers ≡ old.numbers))

-- the bytes still to be read from a source that never fails
abbrev pub sure_rest : SureSource → List ℕ
sure_rest s = drop s.at s.bytes.items

-- the files, while they are told, and the numbers
pub record SureState : Type 0 where
  pub files : Option Files
  pub numbers : Numbers

abbrev pub sure_state : SureFolder → SureState
sure_state f = record { files = if f.told then Some (stored_files f.files) else None; numbers = numbers f.meter }
