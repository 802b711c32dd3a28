-- What the reading of some bytes is.
use Rattle.std.proofs.Common.{◌≡◌, ℕ, List, Bool, true, false, cond, Some, None, refl, ap, ◌∙◌}
use Rattle.std.specs.Str.{IsUtf8, is_utf8}
use Rattle.std.proofs.lemmas.Str.{IsUtf8-from_is_utf8, is_utf8-from_IsUtf8}
use Rattle.serde_json.specs.Data.{Data}
use Rattle.serde_json.specs.Read.{read}
use Rattle.jsonml_text.specs.Reading.{reading, less_lf}

pub reading-Some : (bytes : List ℕ) (d : Data) → IsUtf8 (less_lf bytes) → read (less_lf bytes) ≡ Some d → reading bytes ≡ Some d
unfolding reading
reading-Some bytes d text is = ap (λ b. cond b (read (less_lf bytes)) None) (is_utf8-from_IsUtf8 _ text) ∙ is

none_at : (bytes : List ℕ) (b : Bool) → is_utf8 bytes ≡ b → (IsUtf8 bytes → read bytes ≡ None) → cond b (read bytes) None ≡ None
none_at bytes true e h = h (IsUtf8-from_is_utf8 bytes e)
none_at bytes false e h = refl

pub reading-None : (bytes : List ℕ) → (IsUtf8 (less_lf bytes) → read (less_lf bytes) ≡ None) → reading bytes ≡ None
unfolding reading
reading-None bytes h = none_at (less_lf bytes) _ refl h

pub ruleset readings = (reading-Some, reading-None)
