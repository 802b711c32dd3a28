use Rattle.std.proofs.Common.{◌∙◌, ◌+◌, ◌-◌, ◌++◌, ap, sym, length, take, drop, arith, rules}
use borrow.Rule.Slice.PartMut.{put_mid}
use Rattle.xa_outside.proofs.BufferedLemmas.{waiting-added}
use Rattle.xa_outside.proofs.held.Held.add.Goals as goal

pub returns : goal.returns
returns c =
    let h = c.args.self.now in
    let same = c.copy_from_slice.ensures.after in
    let len = ap length same in
    ap (λ n. drop h.start (take (h.end + n) (put_mid h.end (h.end + length c.args.piece.now - h.end) h.bytes c.copy_from_slice.new.self))) (sym len)
    ∙ waiting-added h.start h.end _ h.bytes c.copy_from_slice.new.self (omega arith) (search rules) ∙ ap (λ l. drop h.start (take h.end h.bytes) ++ l) same
