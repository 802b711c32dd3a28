use Rattle.std.proofs.Common.{◌≡◌, length, nat_lt, true, false, Some, None, option_map, refl, sym, ap, ◌∙◌}
use Rattle.xarch_words.specs.Refusal.{line, limit, usage}
use Rattle.xarch_words.specs.View.{words_view}
use Rattle.xarch_words.specs.declared.limits.TheConstants.{LINE}
use Rattle.xarch_run.specs.Words.{words_of}
use Rattle.xarch_run.proofs.Running.{folder_fault-caused, out_fault-caused, status_after-input}
use Rattle.xarch_run.proofs.TurnLemmas.{judged, long-says, long-step, none-step, takes-refused, takes-step}
use Rattle.xarch_run.proofs.turn.take_line.Goals as goal

pub returns-then-is_too_long-clause-takes : goal.returns-then-is_too_long-clause-takes
returns-then-is_too_long-clause-takes g c = λ bytes s.
    let long : nat_lt LINE (length bytes) ≡ true = sym (c.is_too_long.ensures bytes s) ∙ c.if-is_too_long.true in
    takes-refused _ _ bytes (limit line LINE) c.say.result _ _ _ _ _ _ (long-step _ _ bytes refl long) c.say.ensures.status refl refl c.say.ensures.line

pub returns-in-None-clause-takes : goal.returns-in-None-clause-takes
returns-in-None-clause-takes g c = λ bytes s.
    let short : nat_lt LINE (length bytes) ≡ false = sym (c.is_too_long.ensures bytes s) ∙ c.if-is_too_long.false in
    let none : words_of bytes ≡ None = ap words_of (sym (c.bytes.ensures bytes s short)) ∙ sym c.in_ok-read_line_words.ensures ∙ ap (option_map (λ v. words_view v.items)) c.in-None.is in
    takes-refused _ _ bytes usage c.say-in-None.result _ _ _ _ _ _ (none-step _ _ bytes refl short none) c.say-in-None.ensures.status refl refl c.say-in-None.ensures.line

pub returns-in-Some-clause-takes : goal.returns-in-Some-clause-takes
returns-in-Some-clause-takes g c = λ bytes s.
    let short : nat_lt LINE (length bytes) ≡ false = sym (c.is_too_long.ensures bytes s) ∙ c.if-is_too_long.false in
    let is : words_of bytes ≡ Some (words_view c.deref.result.now) =
    ap words_of (sym (c.bytes.ensures bytes s short)) ∙ sym c.in_ok-read_line_words.ensures ∙ ap (option_map (λ v. words_view v.items)) c.in-Some.is ∙ ap (λ l. Some (words_view l)) (sym c.deref.ensures.value) in
    let k = c.take_step.ensures.step in
    let words = words_view c.deref.result.now in
    takes-step _ _ bytes words c.take_step.result _ _ _ _ _ _ short is (judged words c.take_step.result k.ended k.status k.by_words k.usage k.silent) k.untold k.tried k.wrote (record { fault = k.ended; status = k.status; line = k.line }) k.gained k.nothing k.refused k.files
    (long-says words c.take_step.result k.ended k.status k.by_words _ _ _ _ k.line)

pub returns-in-Some-clause-folder_fault : goal.returns-in-Some-clause-folder_fault
returns-in-Some-clause-folder_fault g c = λ is. (let k = c.take_step.ensures.step in folder_fault-caused _ _ _ _ k.ended k.cause (sym k.status ∙ is))

pub returns-in-Some-clause-out_fault : goal.returns-in-Some-clause-out_fault
returns-in-Some-clause-out_fault g c = λ is. (let k = c.take_step.ensures.step in out_fault-caused _ _ _ _ k.ended k.cause (sym k.status ∙ is))

pub returns-in-Some-clause-never_input_fault : goal.returns-in-Some-clause-never_input_fault
returns-in-Some-clause-never_input_fault g c = λ is. (let k = c.take_step.ensures.step in status_after-input _ _ _ _ k.ended k.cause (sym k.status ∙ is))
