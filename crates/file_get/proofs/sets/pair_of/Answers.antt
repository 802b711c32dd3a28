use Rattle.std.proofs.Common.{◌<◌, ◌^◌, [], Some, drop, sym, ap, refl, ◌∙◌, append-nil, arith}
use Rattle.std.proofs.lemmas.List.{drop_at}
use Rattle.xa_fields.specs.Spelling.{u32_bytes}
use Rattle.xa_fields.specs.FieldLaws.{some_is}
use Rattle.file_get.proofs.sets.pair_of.Goals as goal

pub returns : goal.returns
returns c = record {
  told = λ p first ordered last is. (
      let low : p.0 < 2 ^ 32 = omega (arith, ordered, last) in
      let high : p.1 < 2 ^ 32 = omega (arith, last) in
      let from = some_is _ (p.0, 4) (sym c.in_ok-from.was ∙ c.take_u32.ensures.again p.0 (u32_bytes p.1) low is) in
      let behind = ap (drop 4) is ∙ drop_at (u32_bytes p.0) (u32_bytes p.1) 4 refl ∙ sym (append-nil (u32_bytes p.1)) in
      let to = some_is _ (p.1, 8) (sym c.in_ok-to.was ∙ c.take_u32-2.ensures.again p.1 [] high behind) in
      λ i. Some ((from i).0, (to i).0));
}
