-- The row of the virtual root between a header and a tail.
use Rattle.std.proofs.Common.{◌≡◌, ℕ, ◌+◌, ◌-◌, List, ◌++◌, length, take, take_all, refl, sym, ap, subst, ◌∙◌, append_assoc, arith}
use Rattle.std.specs.List.{flat_map}
use Rattle.std.proofs.lemmas.List.{length-append}
use Rattle.xa_fields.specs.Spelling.{u64_bytes}
use Rattle.record_format.specs.Data.{end_rec}
use Rattle.record_format.specs.Nodes.{Piece, piece_bytes, dir_of, closed_by_end}
use Rattle.record_format.specs.Spelling.{dir_bytes, rec_bytes}
use Rattle.record_format.proofs.Pieces.{closed-bytes}
use Rattle.file_rows.specs.StandsAt.{StandsAt, RowLaid}
use Rattle.file_rows.proofs.Children.{row_in}
use Rattle.file_rows.proofs.Parts.{stands-part, stands-back}

-- Where the row of the virtual root and the tail stand.
pub record RootRow (bytes : List ℕ) (size first : ℕ) (ps : List Piece) : Type 0 where
  pub stands : RowLaid bytes (row_in first ps) ps
  pub ends : (row_in first ps).end + (9 + (row_in first ps).dir) + 8 ≡ size
  pub tail : StandsAt bytes (size - 8) (u64_bytes (row_in first ps).dir)

pub root-row-of : (head closed tail bytes : List ℕ) (ps : List Piece) (size first : ℕ) → bytes ≡ head ++ (closed ++ tail) → closed ≡ flat_map rec_bytes (closed_by_end ps) → tail ≡ u64_bytes (length (dir_bytes (dir_of ps)))
    → first ≡ length head → length bytes ≡ size → RootRow bytes size first ps
root-row-of head closed tail bytes ps size first is rows ends begins len =
    let whole : StandsAt bytes 0 (head ++ (closed ++ tail)) = ap (take (length (head ++ (closed ++ tail)))) is ∙ take_all (length (head ++ (closed ++ tail))) (head ++ (closed ++ tail)) (omega arith) in
    let row = stands-part bytes 0 head closed tail whole in
    let again : StandsAt bytes 0 ((head ++ closed) ++ tail) = subst (StandsAt bytes 0) (sym (append_assoc head closed tail)) whole in
    let last = stands-back bytes 0 (head ++ closed) tail again in
    let inside : length closed ≡ length (flat_map piece_bytes ps) + length (rec_bytes (end_rec (dir_of ps))) = ap length (rows ∙ closed-bytes ps) ∙ length-append (flat_map piece_bytes ps) (rec_bytes (end_rec (dir_of ps))) in
    let eight : length tail ≡ 8 = ap length ends in
    let all : size ≡ length head + (length closed + length tail) = sym len ∙ ap length is ∙ length-append head (closed ++ tail) ∙ ap (λ (n : ℕ). length head + n) (length-append closed tail) in
    let at : 0 + length head ≡ first = omega (arith, begins) in
    let behind : 0 + length (head ++ closed) ≡ size - 8 = omega (arith, all, eight, length-append head closed) in
    record {
      stands = record {
        stands = subst (λ (n : ℕ). StandsAt bytes n (flat_map rec_bytes (closed_by_end ps))) at (subst (StandsAt bytes (0 + length head)) rows row);
        end = refl;
        dir = refl;
      };
      ends = omega (arith, all, eight, inside, begins);
      tail = subst (λ (n : ℕ). StandsAt bytes n (u64_bytes (length (dir_bytes (dir_of ps))))) behind (subst (StandsAt bytes (0 + length (head ++ closed))) ends last);
    }
