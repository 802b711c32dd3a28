-- For private clauses: where a reader of a part of a document stops.
use Rattle.std.specs.Prelude.{◌≡◌, ℕ, List, Bool, MatchBool, Option, Some, None, Result, Ok, Err, ⊤}
use Rattle.jsonml_text.specs.Spelled.{ShapeFault, fault_at}
use Rattle.jsonml_text.specs.declared.stop.Stop.{Stop}
use Rattle.jsonml_text.specs.declared.stop.Stop.TheVariants.{Shape, Memory}

-- The defined answer, with the place left as it was, or at the fault. For want of memory nothing is said.
abbrev pub Reads : {A T : Type 0} → (T → A) → Result A ShapeFault → List ℕ → List ℕ → Result T Stop → Type 0
Reads view defined before after (Ok x) = (defined ≡ Ok (view x)) × (after ≡ before)
Reads view defined before after (Err (Shape why)) = defined ≡ fault_at after why
Reads view defined before after (Err Memory) = ⊤

-- The place of the first one, if there is one; else the place is left as it was.
abbrev pub Finds : Option (List ℕ) → List ℕ → List ℕ → Bool → Type 0
Finds first before after found = MatchBool found (first ≡ Some after) ((first ≡ None) × (after ≡ before))
