use Rattle.std.proofs.Common.{◌∷◌, [], refl}
use Rattle.jsonml_print.specs.Calls.{begin, text, end}
use Rattle.jsonml_print.proofs.Walks.{Prints-after, Prints-failed, Prints-in, AllMayCome-back}
use Rattle.jsonml_print.proofs.print.print_leaf.Goals as goal

pub returns-in_err-begin_elem-clause-prints : goal.returns-in_err-begin_elem-clause-prints
returns-in_err-begin_elem-clause-prints g c =
    Prints-failed (g.K.Sink.taken c.args.sink.now) (g.K.Sink.taken c.begin_elem.new.sink) c.args.printer.now c.begin_elem.new.self (begin c.args.tag.now ∷ []) (text c.args.text.now ∷ end ∷ []) c.from_residual.result c.from_residual.ensures.0
    c.in_err-begin_elem.ensures.prints.bytes

pub text-requires : goal.text-requires
text-requires g c = (AllMayCome-back c.args.printer.now c.begin_elem.new.self (begin c.args.tag.now ∷ []) (text c.args.text.now ∷ end ∷ []) c.in_ok-begin_elem.ensures.prints.pen c.requires).0

pub returns-in_err-text-clause-prints : goal.returns-in_err-text-clause-prints
returns-in_err-text-clause-prints g c =
    let a = g.K.Sink.taken c.args.sink.now in
    let b = g.K.Sink.taken c.begin_elem.new.sink in
    let d = g.K.Sink.taken c.text.new.sink in
    Prints-in a b d c.args.printer.now c.begin_elem.new.self c.text.new.self _ (begin c.args.tag.now ∷ []) (text c.args.text.now ∷ []) (end ∷ []) c.from_residual-in_err-text.result refl c.from_residual-in_err-text.ensures.0
    c.in_ok-begin_elem.ensures.prints.bytes c.in_ok-begin_elem.ensures.prints.pen c.in_err-text.ensures.prints.bytes

pub end_elem-requires : goal.end_elem-requires
end_elem-requires g c =
    let q = c.begin_elem.new.self in
    (AllMayCome-back q c.text.new.self (text c.args.text.now ∷ []) (end ∷ []) c.in_ok-text.ensures.prints.pen (AllMayCome-back c.args.printer.now q (begin c.args.tag.now ∷ []) (text c.args.text.now ∷ end ∷ []) c.in_ok-begin_elem.ensures.prints.pen c.requires)).0

pub returns-clause-prints : goal.returns-clause-prints
returns-clause-prints g c =
    let a = g.K.Sink.taken c.args.sink.now in
    let b = g.K.Sink.taken c.begin_elem.new.sink in
    let d = g.K.Sink.taken c.text.new.sink in
    let e = g.K.Sink.taken c.end_elem.new.sink in
    let q = c.begin_elem.new.self in
    let s = c.end_elem.new.self in
    Prints-after a b e c.args.printer.now q s (begin c.args.tag.now ∷ []) (text c.args.text.now ∷ end ∷ []) c.end_elem.result c.in_ok-begin_elem.ensures.prints.bytes c.in_ok-begin_elem.ensures.prints.pen
    (Prints-after b d e q c.text.new.self s (text c.args.text.now ∷ []) (end ∷ []) c.end_elem.result c.in_ok-text.ensures.prints.bytes c.in_ok-text.ensures.prints.pen c.end_elem.ensures.prints)
