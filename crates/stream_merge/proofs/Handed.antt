-- A fault that a call gave and `?` hands on.
use Rattle.std.proofs.Common.{◌≡◌, List, Some, Result, Ok, Err, sym, ap, subst}
use Rattle.std.specs.Result.{IsErrAnd, result_map_both}
use Rattle.record_writer.specs.Data.{WriterCall}
use Rattle.record_writer.specs.declared.fault.WriteFault.{WriteFault}
use Rattle.stream_merge.specs.Does.{Sent}
use Rattle.stream_merge.specs.Passes.{fault_of, of_writer}
use Rattle.record_copy.specs.State.{State}
use Rattle.stream_merge.specs.declared.fault.MergeFault.{MergeFault}
use Rattle.stream_merge.proofs.States.{written}

-- what is shown of the fault holds of the answer
pub at-err : {T : Type 0} (r : Result T MergeFault) (f : MergeFault) → IsErrAnd r (λ d. d ≡ f) → (P : Result T MergeFault → Type 0) → P (Err f) → P r
at-err (Ok x) f h P p = absurd h
at-err (Err d) f h P p = subst (λ (z : MergeFault). P (Err z)) (sym h) p

pub sent-handed : {T : Type 0} (r : Result T MergeFault) (f : MergeFault) → IsErrAnd r (λ d. d ≡ f) → (cs : List WriterCall) (s t : State) → Sent cs s t (Some f) → Sent cs s t (fault_of r)
sent-handed r f h cs s t p = at-err r f h (λ z. Sent cs s t (fault_of z)) p

-- a call of the writer that was handed on
pub called : (call : Result (Unit {0}) WriteFault) (r : Result (Unit {0}) MergeFault) → r ≡ result_map_both (λ x. x) of_writer call → written call ≡ fault_of r
called (Ok v) r is = sym (ap (λ (z : Result (Unit {0}) MergeFault). fault_of z) is)
called (Err e) r is = sym (ap (λ (z : Result (Unit {0}) MergeFault). fault_of z) is)
