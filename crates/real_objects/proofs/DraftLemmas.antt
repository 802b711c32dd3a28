-- How a draft takes a piece.
use Rattle.std.proofs.Common.{◌≡◌, ℕ, List, [], ◌++◌, Option, None, Some, sym, ap, ◌∙◌, append_assoc, append-nil}
use Rattle.std.specs.Io.KnownBytes.{Appends}
use Rattle.real_objects.specs.Draft.{IsAdded}

-- the piece is gathered
pub gathered : (a : Option (List ℕ)) (g h piece : List ℕ) → h ≡ g ++ piece → IsAdded a g a h piece
gathered None g h piece e = record { together = tt }
gathered (Some x) g h piece e = record { together = ap (λ l. x ++ l) e ∙ sym (append_assoc x g piece) }

-- what was gathered is written, and the piece is gathered
pub passed : (a b : Option (List ℕ)) (g h piece : List ℕ) → Appends a b g → h ≡ piece → IsAdded a g b h piece
passed None b g h piece p e = record { together = tt }
passed (Some x) None g h piece p e = absurd p
passed (Some x) (Some y) g h piece p e = record { together = ap (λ l. y ++ l) e ∙ ap (λ l. l ++ piece) p }

-- both are written
pub written : (a b c : Option (List ℕ)) (g h piece : List ℕ) → Appends a b g → Appends b c piece → h ≡ [] → IsAdded a g c h piece
written None b c g h piece p q e = record { together = tt }
written (Some x) None c g h piece p q e = absurd p
written (Some x) (Some y) None g h piece p q e = absurd q
written (Some x) (Some y) (Some z) g h piece p q e = record { together = ap (λ l. z ++ l) e ∙ append-nil z ∙ q ∙ ap (λ l. l ++ piece) p }
