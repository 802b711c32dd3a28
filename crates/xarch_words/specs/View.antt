-- The plain data that each value stands for.
use Rattle.std.specs.Prelude.{ℕ, List, [], Option, Some, None, map, String, string_bytes}
use Rattle.std.specs.Borrow.{Bor}
use Rattle.std.specs.declared.alloc.Global.{Global}
use Rattle.jsonml_tree.specs.View.{place_view}
use Rattle.key_rules.specs.View as keys
use Rattle.xarch_words.specs.Commands as commands
use Rattle.xarch_words.specs.Commands.{PlainCommand, norm, init, add, rekey, get, history, log, check, stats, versions, export, import, cut, join, table, tablekeys}
use Rattle.xarch_words.specs.Refusal as refusals
use Rattle.xarch_words.specs.Refusal.{PlainQuantity, document, depth, specification, archive, line, batch, demo, note, text, usage, no_file, exists, bad_spec, bad_json, bad_shape, key_fault, key_fault_in, no_version, bad_path, damaged, limit, not_frontier, spec_differs, bad_csv, bad_text, PlainFault, refused, folder_fault, out_fault, in_fault, memory}
use Rattle.xarch_words.specs.declared.fault.Fault.{Fault}
use Rattle.xarch_words.specs.declared.fault.Fault.TheVariants.{Usage, NoFile, Exists, BadSpec, BadJson, BadShape, KeyFault, KeyFaultIn, NoVersion, BadPath, Damaged, Limit, NotFrontier, SpecDiffers, BadCsv, BadText, FolderFault, OutFault, InFault, Memory}
use Rattle.xarch_words.specs.declared.fault.Quantity.{Quantity}
use Rattle.xarch_words.specs.declared.fault.Quantity.TheVariants as quantities
use Rattle.xarch_words.specs.declared.fault.Quantity.TheVariants.{Document, Depth, Specification, Archive, Line, Note, Text}
use Rattle.xarch_words.specs.declared.words.Command.{Command}
use Rattle.xarch_words.specs.declared.words.Command.TheVariants.{Norm, Init, Add, Rekey, Get, History, Log, Check, Stats, Versions, Export, Import, Cut, Join, Table, TableKeys, Batch, Demo}

abbrev pub words_view : List (String Global) → List (List ℕ)
words_view words = map string_bytes words

-- the note of an `add`: the empty one where none is given
abbrev pub note_view : Option (Bor (List ℕ)) → List ℕ
note_view None = []
note_view (Some words) = words.now

abbrev pub command_view : Command → PlainCommand
command_view (Norm spec doc) = norm spec.now doc.now
command_view (Init name spec) = init name.now spec.now
command_view (Add name doc words) = add name.now doc.now (note_view words)
command_view (Rekey name spec) = rekey name.now spec.now
command_view (Get name version) = get name.now version
command_view (History name path) = history name.now path.now
command_view (Log name path) = log name.now path.now
command_view (Check name) = check name.now
command_view (Stats name) = stats name.now
command_view (Versions name) = versions name.now
command_view (Export name) = export name.now
command_view (Import words new) = import words.now new.now
command_view (Cut name new first last) = cut name.now new.now first last
command_view (Join one two new) = join one.now two.now new.now
command_view (Table csv tag keys doc) = table csv.now tag.now keys.now doc.now
command_view (TableKeys tag keys spec) = tablekeys tag.now keys.now spec.now
command_view Batch = commands.batch
command_view (Demo seed count name) = commands.demo seed count name.now

abbrev pub quantity_view : Quantity → PlainQuantity
quantity_view Document = document
quantity_view Depth = depth
quantity_view quantities.Versions = refusals.versions
quantity_view Specification = specification
quantity_view Archive = archive
quantity_view Line = line
quantity_view quantities.Batch = batch
quantity_view quantities.Demo = demo
quantity_view Note = note
quantity_view Text = text

abbrev pub fault_view : Fault → PlainFault
fault_view Usage = refused usage
fault_view (NoFile name) = refused (no_file (string_bytes name))
fault_view (Exists name) = refused (exists (string_bytes name))
fault_view (BadSpec l why) = refused (bad_spec l why)
fault_view BadJson = refused bad_json
fault_view (BadShape place why) = refused (bad_shape (place_view place) why)
fault_view (KeyFault f) = refused (key_fault (keys.fault_view f))
fault_view (KeyFaultIn i f) = refused (key_fault_in i (keys.fault_view f))
fault_view (NoVersion i n) = refused (no_version i n)
fault_view (BadPath step) = refused (bad_path step)
fault_view (Damaged name) = refused (damaged (string_bytes name))
fault_view (Limit quantity number) = refused (limit (quantity_view quantity) number)
fault_view NotFrontier = refused not_frontier
fault_view (SpecDiffers one two) = refused (spec_differs (string_bytes one) (string_bytes two))
fault_view (BadCsv row why) = refused (bad_csv row why)
fault_view BadText = refused bad_text
fault_view FolderFault = folder_fault
fault_view OutFault = out_fault
fault_view InFault = in_fault
fault_view Memory = memory
