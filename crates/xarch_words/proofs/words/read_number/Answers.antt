use Rattle.std.proofs.Common.{◌≡◌, sym, ap, ◌∙◌, arith, rules, true≢false}
use Rattle.std.specs.Fmt.{decimal}
use Rattle.std.proofs.lemmas.Fmt.{parse-decimal}
use Rattle.std.proofs.lemmas.Slice.Eq.{bytes_eq-Decides}
use Rattle.xarch_words.proofs.NumberWords.{number_of-decimal, number_of-none}
use Rattle.xarch_words.proofs.words.read_number.Goals as goal

pub returns-in_default : goal.returns-in_default
returns-in_default c = sym (number_of-none c.args.word.now (λ n small is. c.in_default.not-Ok n (parse-decimal 32 n _ c.parse.result small (omega arith) is c.parse.ensures.value.0)))

pub returns-then-eq : goal.returns-then-eq
returns-then-eq c =
    let same = (bytes_eq-Decides c.format.result.now c.args.word.now).0 (sym c.eq.ensures ∙ c.if-eq.true) in
    sym (number_of-decimal c.args.word.now c.in-Ok.number (search rules) (sym same ∙ c.format.ensures.text))

pub returns-else-eq : goal.returns-else-eq
returns-else-eq c =
    sym (number_of-none c.args.word.now (λ n small is.
    let read = parse-decimal 32 n _ c.parse.result small (omega arith) is c.parse.ensures.value.0 in
    let value : c.in-Ok.number ≡ n = cc (c.in-Ok.is, read) in
    let same : c.format.result.now ≡ c.args.word.now = c.format.ensures.text ∙ ap decimal value ∙ sym is in
    true≢false (sym ((bytes_eq-Decides c.format.result.now c.args.word.now).1 same) ∙ sym c.eq.ensures ∙ c.if-eq.false)))
