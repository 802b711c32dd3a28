use Rattle.std.proofs.Common.{◌≡◌, ◌∷◌, [], false, map, length-append, ap, sym, subst, ◌∙◌, refl, arith}
use Rattle.std.specs.List.{AllByRecursion}
use Rattle.nested_merge.proofs.Picked.{all_append}
use Rattle.archive_join.specs.Held.{placed}
use Rattle.archive_join.specs.declared.held.Entry.{Entry}
use Rattle.archive_join.proofs.Holding.{numbered_more}
use Rattle.archive_join.proofs.held.numbered.Goals as goal

pub loop-alternative-preserved : goal.loop-alternative-preserved
loop-alternative-preserved c =
    let l = c.loop-alternative in
    let i = l.invariant in
    let e : Entry = record { at = c.len-at.result; taken = false; alternative = c.in-Some.alternative } in
    let new = c.push_reserved.ensures.items in
    let longer = length-append l.yielded (c.in-Some.alternative ∷ []) in
    record {
      placed = ap (map placed) new ∙ numbered_more l.entries.items l.yielded e i.placed (c.len-at.ensures ∙ i.count);
      free = subst (AllByRecursion (λ (z : Entry). z.taken ≡ false)) (sym new) (all_append (λ (z : Entry). z.taken ≡ false) l.entries.items (e ∷ []) i.free (refl, tt));
      count = omega (arith, c.push_reserved.ensures.len, i.count);
      room = c.push_reserved.ensures.capacity ∙ i.room;
    }
