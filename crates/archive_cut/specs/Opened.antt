-- How nodes are begun.
use Rattle.std.specs.Prelude.{ℕ, List, [], ◌∷◌, Option, Some, None}
use Rattle.keyed_tree.specs.Data.{PlainLabel}
use Rattle.archive_tree.specs.Data.{Stamp}
use Rattle.record_format.specs.Nodes.{set_in}
use Rattle.record_writer.specs.Data.{WriterCall}
use Rattle.record_copy.specs.Passes.{call_of}
use Rattle.record_copy.specs.declared.kind.Kind.{Kind}

-- the call that begins a node with the stamp that is left, if one is, under a parent that has now
abbrev pub opening_calls : Kind → PlainLabel → List (ℕ × ℕ) → Option Stamp → List WriterCall
opening_calls kind l now None = []
opening_calls kind l now (Some s) = call_of kind l s (set_in s now) ∷ []
