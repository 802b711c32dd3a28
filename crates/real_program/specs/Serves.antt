-- What a call of the program does, from the words that it is given or from the fault with which there are none.
use Rattle.std.specs.Prelude.{◌≡◌, ◌≢◌, ◌≤◌, ◌↔◌, ◌⊎◌, ℕ, List, Option, Some, None}
use Rattle.xa_outside.specs.Causes.{Rose}
use Rattle.xa_outside.specs.Folder.{Files}
use Rattle.xa_outside.specs.Taken.{TakesNone}
use Rattle.xarch_words.specs.Commands.{batch, command_of}
use Rattle.xarch_words.specs.Refusal.{PlainFault, refused, usage, memory}
use Rattle.xarch_parts.specs.Ends.{Gained}
use Rattle.xarch_meanings.specs.Plausible.{Tried}
use Rattle.xarch_meanings.specs.Meanings.{MayHaveWritten}
use Rattle.xarch_meanings.specs.Ran.{Said, outside_of}
use Rattle.xarch_meanings.specs.Step.{single_of}
use Rattle.xarch_run.specs.Batch.{BatchEnds, IsAnswer, Scene}
use Rattle.xarch_run.specs.Calls.{DidCommands, call_of}

-- how often the folder, the input and the output have failed, before and now, and what is left of the input
pub record Counts : Type 0 where
  pub folder_before : ℕ
  pub folder_now : ℕ
  pub input_before : ℕ
  pub input_now : ℕ
  pub out_before : ℕ
  pub out_now : ℕ
  pub rest_before : Option (List ℕ)
  pub rest_now : Option (List ℕ)

abbrev pub counted : {F S O : Type 0} → (F → ℕ) → (S → ℕ) → (O → ℕ) → (S → Option (List ℕ)) → F → F → S → S → O → O → Counts
counted folder input out rest f g s t o p =
    record { folder_before = folder f; folder_now = folder g; input_before = input s; input_now = input t; out_before = out o; out_now = out p; rest_before = rest s; rest_now = rest t }

-- What the program does with its words, as `run` says it: the answer, the files, the output and the error sink.
pub record Runs (words : List (List ℕ)) (w : Scene) (n : Counts) (answer : ℕ) : Type 0 where
  pub batch_ends : (bytes : List ℕ) → command_of words ≡ Some batch → n.rest_before ≡ Some bytes → BatchEnds w bytes n.rest_now answer
  pub did : (before now : Files) (bytes : List ℕ) → w.files_before ≡ Some before → w.files_now ≡ Some now → (command_of words ≡ Some batch → n.rest_before ≡ Some bytes)
      → DidCommands before (call_of words bytes answer) now
  pub tried : (files : Files) → command_of words ≢ Some batch → w.files_before ≡ Some files → outside_of answer ≡ None
      → Tried files words answer w.files_now w.out_before w.out_now w.err_before w.err_now w.count_before w.count_now
  pub batch_answer : command_of words ≡ Some batch → IsAnswer n.folder_before n.folder_now n.input_before n.input_now n.out_before n.out_now answer
  pub said : command_of words ≢ Some batch → Said answer w.err_before w.err_now w.count_before w.count_now
  pub gained : command_of words ≢ Some batch → Gained w.out_before w.out_now
  pub nothing : command_of words ≢ Some batch → answer ≢ 0 → outside_of answer ≡ None → ¬ MayHaveWritten (single_of words) answer → TakesNone w.out_before w.out_now
  pub usage_only : (answer ≡ 2) ↔ (command_of words ≡ None)
  pub folder_fault : answer ≡ 13 → Rose n.folder_before n.folder_now
  pub out_fault : answer ≡ 14 → Rose n.out_before n.out_now
  pub input_fault : answer ≡ 15 → (command_of words ≡ Some batch) × Rose n.input_before n.input_now
  pub kept : command_of words ≢ Some batch → answer ≢ 0 → w.files_now ≡ w.files_before
  pub untold : w.files_before ≡ None → w.files_now ≡ None

-- why there may be no words: one of them is no text, or no memory was found for them
abbrev pub IsOfWords : PlainFault → Type 0
IsOfWords fault = (fault ≡ refused usage) ⊎ (fault ≡ memory)

-- with what the program ends: 0, and from 2 to 20
abbrev pub IsStatus : ℕ → Type 0
IsStatus answer = (answer ≢ 1) × (answer ≤ 20)
