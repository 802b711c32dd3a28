-- Encodings of records tell them apart.
use Rattle.std.proofs.Common.{◌≡◌, ℕ, List, [], ◌++◌, sym, ap, ◌∙◌}
use Rattle.std.proofs.lemmas.List.{append-nil}
use Rattle.xa_fields.proofs.Fields.{some_is}
use Rattle.record_format.specs.Data.{PlainRec}
use Rattle.record_format.specs.Spelling.{rec_bytes}
use Rattle.record_format.specs.Bounds.{IsRec}
use Rattle.record_format.specs.Reading.{record_at}
use Rattle.record_format.proofs.Records.{record_reads}

read_twice : (r s : PlainRec) (rest : List ℕ) → IsRec r → IsRec s → rec_bytes r ≡ rec_bytes s ++ rest → ◌≡◌ {A = PlainRec × List ℕ} (s, rest) (r, [])
read_twice r s rest p q e =
    some_is (s, rest) (r, []) (sym (record_reads.again s rest q) ∙ ap record_at (sym e ∙ sym (append-nil (rec_bytes r))) ∙ record_reads.again r [] p)

pub one_value : (r s : PlainRec) → IsRec r → IsRec s → rec_bytes r ≡ rec_bytes s → r ≡ s
one_value r s p q e = sym (ap (λ (x : PlainRec × List ℕ). x.0) (read_twice r s [] p q (e ∙ sym (append-nil (rec_bytes s)))))

pub no_front : (r s : PlainRec) (rest : List ℕ) → IsRec r → IsRec s → rec_bytes r ≡ rec_bytes s ++ rest → rest ≡ []
no_front r s rest p q e = ap (λ (x : PlainRec × List ℕ). x.1) (read_twice r s rest p q e)
