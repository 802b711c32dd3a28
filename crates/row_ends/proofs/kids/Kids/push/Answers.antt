use Rattle.std.proofs.Common.{◌≡◌, ◌+◌, ◌++◌, ◌∷◌, ◌∙◌, [], List, length, map, ap, arith}
use Rattle.std.proofs.lemmas.List.{length-append, length-map, map-append}
use Rattle.row_ends.specs.Kids.{row_length, stamps_in}
use Rattle.row_ends.specs.KidViews.{size_view, stored_view}
use Rattle.row_ends.specs.declared.parts.Size.{Size}
use Rattle.row_ends.proofs.Sizes.{row_length-append}
use Rattle.row_ends.proofs.Stamps.{inheriting-within}
use Rattle.row_ends.proofs.kids.Kids.push.Goals as goal

pub keep_stamp-requires : goal.keep_stamp-requires
keep_stamp-requires c =
    let k = c.args.self.now in
    omega (arith, inheriting-within (map stored_view k.stored.items) k.inheriting, k.stamped, c.requires.few, length-map k.sizes.items size_view)

pub invariant_of-self-2 : goal.invariant_of-self-2
invariant_of-self-2 c =
    let k = c.args.self.now in
    let one : Size = record { length = c.args.length; dir = c.args.dir } in
    let items : c.push_reserved.new.self.items ≡ k.sizes.items ++ one ∷ [] = c.push_reserved.ensures.items ∙ ap (λ (xs : List Size). xs ++ one ∷ []) c.in_ok-reserve.ensures.items in
    let count : length c.push_reserved.new.self.items ≡ length k.sizes.items + 1 = ap length items ∙ length-append k.sizes.items (one ∷ []) in
    let stamps = ap length c.in_ok-self.ensures.ok ∙ length-append (stamps_in (map stored_view k.stored.items) k.inheriting) _ in
    let sizes : map size_view c.push_reserved.new.self.items ≡ map size_view k.sizes.items ++ size_view one ∷ [] = ap (map size_view) items ∙ map-append size_view k.sizes.items (one ∷ []) in
    let sum = ap row_length sizes ∙ row_length-append (map size_view k.sizes.items) (size_view one ∷ []) in
    record {
      few = omega (arith, count, c.requires.few, length-map k.sizes.items size_view);
      stamped = omega (arith, count, stamps, k.stamped);
      summed = omega (arith, sum, k.summed);
    }
