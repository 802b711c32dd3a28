-- What is read before an archive's file is searched, and with what fault the search ends.
use Rattle.std.specs.Prelude.{◌≡◌, ◌⊎◌, ℕ, List, map}
use Rattle.key_spec.specs.Data.{PlainRule}
use Rattle.keyed_tree.specs.Data.{PlainLabel}
use Rattle.keyed_tree.specs.View.{label_view}
use Rattle.keyed_tree.specs.declared.label.Label.{Label}
use Rattle.record_cursor.specs.View.{header_view}
use Rattle.record_cursor.specs.declared.header.Header.{Header}
use Rattle.file_history.specs.declared.fault.HistFault.{HistFault}
use Rattle.file_history.specs.declared.fault.HistFault.TheVariants.{Damage, Folder, Memory}
use Rattle.xarch_words.specs.Refusal.{damaged, PlainFault, refused, folder_fault, memory}

-- the rules and the number of versions that a header gives, and the labels of a path
abbrev pub asked_view : Header → List Label → (List PlainRule × ℕ) × List PlainLabel
asked_view h labels = (((header_view h).rules, (header_view h).versions), map label_view labels)

-- the fault of a search, as it is told of the archive of this name
abbrev pub IsShownAs : List ℕ → HistFault → PlainFault → Type 0
IsShownAs name Damage fault = (fault ≡ refused (damaged name)) ⊎ (fault ≡ memory)
IsShownAs name Folder fault = fault ≡ folder_fault
IsShownAs name Memory fault = fault ≡ memory
