use Rattle.std.proofs.Common.{sym, subst}
use Rattle.new_archive.specs.Woven.{ArePlaced}
use Rattle.new_archive.proofs.Wovens.{first_placed}
use Rattle.new_archive.proofs.weave.insert_all.Goals as goal

pub split_off-requires : goal.split_off-requires
split_off-requires c =
    let item = c.in-Some.ensures.item in
    first_placed c.deref.result.now c.in-Some.first.now c.args.row.now.len item.3.0 item.1 (subst (λ z. ArePlaced 0 c.args.row.now.len z) (sym c.deref.ensures.value) c.requires)
