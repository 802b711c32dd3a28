use Rattle.std.proofs.Common.{List, ℕ, Bor, rules}
use Rattle.xa_outside.specs.TakenLaws.{Takes-nil, Takes-piece, Puts-piece}
use Rattle.xa_outside.proofs.pieces.put_pieces.Goals as goal

pub loop-piece-init : goal.loop-piece-init
loop-piece-init g c = record { bytes = Takes-nil _; later = search rules }

pub loop-piece-preserved : goal.loop-piece-preserved
loop-piece-preserved g c =
    record {
      bytes =
          Takes-piece (λ (p : Bor (List ℕ)). p.now) _ _ _ c.args.pieces.now c.loop-piece.piece-index _ (search rules) c.loop-piece.invariant.bytes c.in_ok-put_all.ensures.bytes;
      later = search rules;
    }

pub returns-in_err-put_all-clause-bytes : goal.returns-in_err-put_all-clause-bytes
returns-in_err-put_all-clause-bytes g c =
    Puts-piece (λ (p : Bor (List ℕ)). p.now) _ _ _ c.from_residual.result c.args.pieces.now c.loop-piece.piece-index _ (search rules) (search rules) c.loop-piece.invariant.bytes c.in_err-put_all.ensures.bytes
