use Rattle.std.proofs.Common.{◌≡◌, ◌<◌, ◌∷◌, [], ◌++◌, List, length, get_or, refl, ap, arith, rules, subst, sym}
use Rattle.std.specs.List.{flat_map}
use Rattle.xa_outside.specs.Taken.{Takes, TakesPrefix}
use Rattle.xa_outside.specs.TakenLaws.{Takes-nil}
use Rattle.jsonml_print.specs.Calls.{Call, begin, end, printed, reached, AllMayCome, Prints, content_calls}
use Rattle.jsonml_print.proofs.Walks.{AllMayCome-front, AllMayCome-back, Prints-after, Prints-failed, walk_stop, walk_bytes, walk_pen, walk_now, walk_rest}
use Rattle.key_annotate.specs.LentView.{lent_view}
use Rattle.key_annotate.specs.declared.lent.Head.{Head}
use Rattle.key_annotate.specs.declared.lent.LentKeyed.{LentKeyed, size-LentKeyed, the_lemmas}
use Rattle.key_annotate.specs.Inside.{inside_of}
use Rattle.keyed_print.proofs.KeyedCalls.{attr_calls, kid_calls, inside_of-Inner, calls-named, most_at}
use Rattle.keyed_print.proofs.print_lent.+print.Goals as goal

pub print_elements-loop-kid-init : goal.print_elements-loop-kid-init
print_elements-loop-kid-init g c = λ c'. record { bytes = Takes-nil _; pen = search rules; rest = search rules; later = search rules }

pub print_keyed-returns-in_err-begin_elem-clause-prints : goal.print_keyed-returns-in_err-begin_elem-clause-prints
print_keyed-returns-in_err-begin_elem-clause-prints g t c =
    let a = g.K.Sink.taken c.args.sink.now in
    let b = g.K.Sink.taken c.begin_elem.new.sink in
    let p = c.args.printer.now in
    let q = c.begin_elem.new.self in
    let behind = content_calls (inside_of (lent_view c.args.keyed.now)) ++ end ∷ [] in
    let whole = calls-named (lent_view c.args.keyed.now) c.name_of.result.now c.name_of.ensures in
    subst (λ (l : List Call). Prints a b p q l c.from_residual.result) (sym whole)
    (Prints-failed a b p q (begin c.name_of.result.now ∷ []) behind c.from_residual.result c.from_residual.ensures.0 c.in_err-begin_elem.ensures.prints.bytes)

pub print_keyed-returns-clause-prints : goal.print_keyed-returns-clause-prints
print_keyed-returns-clause-prints g t c =
    let a = g.K.Sink.taken c.args.sink.now in
    let b = g.K.Sink.taken c.begin_elem.new.sink in
    let d = g.K.Sink.taken c.print_behind_tag.new.sink in
    let p = c.args.printer.now in
    let q = c.begin_elem.new.self in
    let r = c.print_behind_tag.new.printer in
    let behind = content_calls (inside_of (lent_view c.args.keyed.now)) ++ end ∷ [] in
    let whole = calls-named (lent_view c.args.keyed.now) c.name_of.result.now c.name_of.ensures in
    subst (λ (l : List Call). Prints a d p r l c.print_behind_tag.result) (sym whole)
    (Prints-after a b d p q r (begin c.name_of.result.now ∷ []) behind c.print_behind_tag.result c.in_ok-begin_elem.ensures.prints.bytes c.in_ok-begin_elem.ensures.prints.pen c.print_behind_tag.ensures.prints)

pub print_behind_tag-print_inside-requires : goal.print_behind_tag-print_inside-requires
print_behind_tag-print_inside-requires g t c =
    λ κs lives. (omega (arith, c.decreases), (lives, AllMayCome-front c.args.printer.now (content_calls (inside_of (lent_view c.args.keyed.now))) (end ∷ []) c.requires))

pub print_behind_tag-returns-in_err-print_inside-clause-prints : goal.print_behind_tag-returns-in_err-print_inside-clause-prints
print_behind_tag-returns-in_err-print_inside-clause-prints g t c =
    Prints-failed (g.K.Sink.taken c.args.sink.now) (g.K.Sink.taken c.print_inside.new.sink) c.args.printer.now c.print_inside.new.printer (content_calls (inside_of (lent_view c.args.keyed.now))) (end ∷ [])
    c.from_residual.result c.from_residual.ensures.0 c.in_err-print_inside.ensures.prints.bytes

pub print_behind_tag-end_elem-requires : goal.print_behind_tag-end_elem-requires
print_behind_tag-end_elem-requires g t c =
    (AllMayCome-back c.args.printer.now c.print_inside.new.printer (content_calls (inside_of (lent_view c.args.keyed.now))) (end ∷ []) c.in_ok-print_inside.ensures.prints.pen c.requires).0

pub print_behind_tag-returns-clause-prints : goal.print_behind_tag-returns-clause-prints
print_behind_tag-returns-clause-prints g t c =
    Prints-after (g.K.Sink.taken c.args.sink.now) (g.K.Sink.taken c.print_inside.new.sink) (g.K.Sink.taken c.end_elem.new.sink) c.args.printer.now c.print_inside.new.printer c.end_elem.new.self
    (content_calls (inside_of (lent_view c.args.keyed.now))) (end ∷ []) c.end_elem.result c.in_ok-print_inside.ensures.prints.bytes c.in_ok-print_inside.ensures.prints.pen c.end_elem.ensures.prints

pub print_inside-print_attributes-requires : goal.print_inside-print_attributes-requires
print_inside-print_attributes-requires g t c =
    let p = c.args.printer.now in
    let xs = c.deref.result.now.attrs.now in
    let ks = c.in-Inner.kids.items in
    let whole = inside_of-Inner c.args.keyed.now c.in-Inner.head c.in-Inner.kids xs ks c.in-Inner.is (ap (λ (h : Head). h.attrs.now) c.deref.ensures) refl in
    AllMayCome-front p (flat_map attr_calls xs) (flat_map kid_calls ks) (subst (AllMayCome p) whole c.requires)

pub print_inside-returns-in_err-print_attributes-in-Inner-clause-prints : goal.print_inside-returns-in_err-print_attributes-in-Inner-clause-prints
print_inside-returns-in_err-print_attributes-in-Inner-clause-prints g t c =
    let a = g.K.Sink.taken c.args.sink.now in
    let b = g.K.Sink.taken c.print_attributes.new.sink in
    let p = c.args.printer.now in
    let q = c.print_attributes.new.printer in
    let xs = c.deref.result.now.attrs.now in
    let ks = c.in-Inner.kids.items in
    let whole = inside_of-Inner c.args.keyed.now c.in-Inner.head c.in-Inner.kids xs ks c.in-Inner.is (ap (λ (h : Head). h.attrs.now) c.deref.ensures) refl in
    subst (λ (l : List Call). Prints a b p q l c.from_residual.result) (sym whole)
    (Prints-failed a b p q (flat_map attr_calls xs) (flat_map kid_calls ks) c.from_residual.result c.from_residual.ensures.0 c.in_err-print_attributes-in-Inner.ensures.prints.bytes)

pub print_inside-print_elements-requires : goal.print_inside-print_elements-requires
print_inside-print_elements-requires g t c =
    let p = c.args.printer.now in
    let q = c.print_attributes.new.printer in
    let xs = c.deref.result.now.attrs.now in
    let ks = c.deref-in-Inner.result.now in
    let whole = inside_of-Inner c.args.keyed.now c.in-Inner.head c.in-Inner.kids xs ks c.in-Inner.is (ap (λ (h : Head). h.attrs.now) c.deref.ensures) c.deref-in-Inner.ensures.value in
    λ κs lives. (
      search (rules, the_lemmas),
      (lives, AllMayCome-back p q (flat_map attr_calls xs) (flat_map kid_calls ks) c.in_ok-print_attributes-in-Inner.ensures.prints.pen (subst (AllMayCome p) whole c.requires)),
    )

pub print_inside-returns-in_ok-print_attributes-in-Inner-clause-prints : goal.print_inside-returns-in_ok-print_attributes-in-Inner-clause-prints
print_inside-returns-in_ok-print_attributes-in-Inner-clause-prints g t c =
    let a = g.K.Sink.taken c.args.sink.now in
    let b = g.K.Sink.taken c.print_attributes.new.sink in
    let d = g.K.Sink.taken c.print_elements.new.sink in
    let p = c.args.printer.now in
    let q = c.print_attributes.new.printer in
    let r = c.print_elements.new.printer in
    let xs = c.deref.result.now.attrs.now in
    let ks = c.deref-in-Inner.result.now in
    let whole = inside_of-Inner c.args.keyed.now c.in-Inner.head c.in-Inner.kids xs ks c.in-Inner.is (ap (λ (h : Head). h.attrs.now) c.deref.ensures) c.deref-in-Inner.ensures.value in
    subst (λ (l : List Call). Prints a d p r l c.print_elements.result) (sym whole)
    (Prints-after a b d p q r (flat_map attr_calls xs) (flat_map kid_calls ks) c.print_elements.result c.in_ok-print_attributes-in-Inner.ensures.prints.bytes c.in_ok-print_attributes-in-Inner.ensures.prints.pen c.print_elements.ensures.prints)

pub print_elements-print_keyed-requires : goal.print_elements-print_keyed-requires
print_elements-print_keyed-requires g t c =
    let ks = c.args.kids.now in
    let i = c.loop-kid.kid-index in
    let k = c.kid-item.result in
    let within : i < length ks = search rules in
    λ κs lives. (
      omega (arith, c.decreases, most_at size-LentKeyed ks i k within c.kid-item.is),
      (lives, subst (λ (v : LentKeyed). AllMayCome c.loop-kid.printer (kid_calls v)) (sym c.kid-item.is) (walk_now kid_calls c.loop-kid.printer ks i k within c.loop-kid.invariant.rest)),
    )

pub print_elements-returns-in_err-print_keyed-clause-prints : goal.print_elements-returns-in_err-print_keyed-clause-prints
print_elements-returns-in_err-print_keyed-clause-prints g t c =
    let a = g.K.Sink.taken c.args.sink.now in
    let b = g.K.Sink.taken c.loop-kid.sink in
    let d = g.K.Sink.taken c.print_keyed.new.sink in
    let q = c.loop-kid.printer in
    let ks = c.args.kids.now in
    let i = c.loop-kid.kid-index in
    let k = c.kid-item.result in
    let within : i < length ks = search rules in
    walk_stop kid_calls a b d c.args.printer.now q c.print_keyed.new.printer ks i k c.from_residual.result within c.loop-kid.invariant.bytes c.loop-kid.invariant.pen c.from_residual.ensures.0
    (subst (λ (v : LentKeyed). TakesPrefix b d (printed q (kid_calls v))) c.kid-item.is c.in_err-print_keyed.ensures.prints.bytes)

pub print_elements-loop-kid-preserved : goal.print_elements-loop-kid-preserved
print_elements-loop-kid-preserved g t c =
    let a = g.K.Sink.taken c.args.sink.now in
    let b = g.K.Sink.taken c.loop-kid.sink in
    let d = g.K.Sink.taken c.print_keyed.new.sink in
    let p = c.args.printer.now in
    let q = c.loop-kid.printer in
    let r = c.print_keyed.new.printer in
    let ks = c.args.kids.now in
    let i = c.loop-kid.kid-index in
    let k = c.kid-item.result in
    let within : i < length ks = search rules in
    let pen : r ≡ reached q (kid_calls (get_or ks i k)) = subst (λ (v : LentKeyed). r ≡ reached q (kid_calls v)) c.kid-item.is c.in_ok-print_keyed.ensures.prints.pen in
    record {
      bytes =
          walk_bytes kid_calls a b d p q ks i k within c.loop-kid.invariant.bytes c.loop-kid.invariant.pen
          (subst (λ (v : LentKeyed). Takes b d (printed q (kid_calls v))) c.kid-item.is c.in_ok-print_keyed.ensures.prints.bytes);
      pen = walk_pen kid_calls p q r ks i k within c.loop-kid.invariant.pen pen;
      rest = walk_rest kid_calls q r ks i k within pen c.loop-kid.invariant.rest;
      later = search rules;
    }
