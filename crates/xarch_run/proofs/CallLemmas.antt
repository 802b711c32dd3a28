-- Calls of the program and lines of a batch are commands.
use Rattle.std.proofs.Common.{◌≡◌, ◌≢◌, inl, inr, ℕ, Bool, true, false, List, [], ◌∷◌, ◌++◌, map, length, nat_lt, Option, Some, None, Err, refl, sym, ap, ◌∙◌, subst}
use Rattle.std.specs.Prelude.{IsSome, MatchBool, option_and_then, if◌then◌else◌}
use Rattle.xa_outside.specs.Folder.{Files}
use Rattle.xa_outside.specs.Taken.{Taken}
use Rattle.xarch_words.specs.Commands.{PlainCommand, batch, command_of}
use Rattle.xarch_words.specs.Refusal.{line, PlainFault, limit}
use Rattle.xarch_words.specs.declared.limits.TheConstants.{LINE}
use Rattle.xarch_parts.specs.Outcome.{Step, step_from}
use Rattle.xarch_meanings.specs.Plausible.{MayStep, Plausible, Tried}
use Rattle.xarch_meanings.specs.PlausibleLaws.{no-late, plain-step}
use Rattle.xarch_meanings.specs.Ran.{outside_of}
use Rattle.xarch_meanings.specs.Step.{single_of}
use Rattle.xarch_run.specs.Calls.{Call, CallDid, CallsDid, CommandMay, CommandsDid, DidCommands, CommandsLead}
use Rattle.xarch_run.specs.Steps.{LineMay, StepsAre, WordsMay, files_after, line_command}
use Rattle.xarch_run.specs.Words.{words_of}
use Rattle.xarch_run.proofs.Runs.{files_after-append}

-- ---- one command

pub words-may : (files : Files) (words : List (List ℕ)) (s : Step) → Plausible files words s → CommandMay files (single_of words) s
words-may files words s p = by-command (single_of words) p
  where
    by-command : (command : Option PlainCommand) → MayStep files command s → CommandMay files command s
    by-command None m = inl (plain-step files None s m (no-late files None m.outcome (λ q late. late)) ∙ ap (step_from files) m.may)
    by-command (Some command) m = m

spelled-may : (files : Files) (words : Option (List (List ℕ))) (s : Step) → WordsMay files words s → CommandMay files (option_and_then single_of words) s
spelled-may files None s is = inl is
spelled-may files (Some words) s p = words-may files words s p

pub line-may : (files : Files) (l : List ℕ) (s : Step) → LineMay files l s → CommandMay files (line_command l) s
line-may files l s h = by_length (nat_lt LINE (length l)) h
  where
    by_length : (b : Bool) → MatchBool b (s ≡ step_from files (Err (limit line LINE))) (WordsMay files (words_of l) s) → CommandMay files (if b then None else option_and_then single_of (words_of l)) s
    by_length true is = inr is
    by_length false h = spelled-may files (words_of l) s h

lines-did : (files : Files) (ls : List (List ℕ)) (ss : List Step) → StepsAre files ls ss → CommandsDid files (map line_command ls) ss
lines-did files [] [] h = tt
lines-did files [] (s ∷ ss) h = absurd h
lines-did files (l ∷ ls) [] h = absurd h
lines-did files (l ∷ ls) (s ∷ ss) h = (line-may files l s h.0, lines-did s.files ls ss h.1)

-- ---- calls

did-is : (files now : Files) (cs ds : List (Option PlainCommand)) (ss ts : List Step) → cs ≡ ds → ss ≡ ts → CommandsLead files ds ts now → CommandsLead files cs ss now
did-is files now cs ds ss ts same_commands same_steps did =
    subst (λ (xs : List (Option PlainCommand)). CommandsLead files xs ss now) (sym same_commands) (subst (λ (xs : List Step). CommandsLead files ds xs now) (sym same_steps) did)

pub call-did : (files : Files) (call : Call) (now : Files) (cs : List (Option PlainCommand)) (ss : List Step) → CallDid files call now cs ss → CommandsLead files cs ss now
call-did files call now cs ss (inl k) =
    did-is files now cs (single_of call.words ∷ []) ss (k.step ∷ []) k.command k.is (record { are = (words-may files call.words k.step k.may, tt); left = k.left })
call-did files call now cs ss (inr (inl k)) = did-is files now cs [] ss [] k.command k.is (record { are = tt; left = k.left })
call-did files call now cs ss (inr (inr k)) =
    did-is files now cs (map line_command k.lines) ss ss k.command refl (record { are = lines-did files k.lines ss k.leads.are; left = k.leads.files })

commands-append : (files : Files) (cs ds : List (Option PlainCommand)) (ss ts : List Step) → CommandsDid files cs ss → CommandsDid (files_after files ss) ds ts → CommandsDid files (cs ++ ds) (ss ++ ts)
commands-append files [] ds [] ts p q = q
commands-append files [] ds (s ∷ ss) ts p q = absurd p
commands-append files (c ∷ cs) ds [] ts p q = absurd p
commands-append files (c ∷ cs) ds (s ∷ ss) ts p q = (p.0, commands-append s.files cs ds ss ts p.1 q)

did-append : (files between now : Files) (cs ds : List (Option PlainCommand)) (ss ts : List Step) → CommandsLead files cs ss between → CommandsLead between ds ts now → CommandsLead files (cs ++ ds) (ss ++ ts) now
did-append files between now cs ds ss ts p q =
    record {
      are = commands-append files cs ds ss ts p.are (subst (λ (f : Files). CommandsDid f ds ts) p.left q.are);
      left = q.left ∙ ap (λ (f : Files). files_after f ts) p.left ∙ sym (files_after-append files ss ts);
    }

pub calls-did : (files : Files) (calls : List Call) (now : Files) (cs : List (Option PlainCommand)) (ss : List Step) → CallsDid files calls now cs ss → CommandsLead files cs ss now
calls-did files [] now cs ss k = did-is files now cs [] ss [] k.command k.is (record { are = tt; left = k.left })
calls-did files (call ∷ calls) now cs ss k =
    did-is files now cs (k.first_commands ++ k.later_commands) ss (k.first_steps ++ k.later_steps) k.all_commands k.all_steps
    (did-append files k.between now k.first_commands k.later_commands k.first_steps k.later_steps (call-did files call k.between k.first_commands k.first_steps k.did)
    (calls-did k.between calls now k.later_commands k.later_steps k.rest))

-- ---- what `run` says of a single command

pub single-did : (files now : Files) (call : Call) (after : Option Files) (o p e r : Taken) (x y : ℕ) → after ≡ Some now → command_of call.words ≢ Some batch
    → (outside_of call.answer ≡ None → Tried files call.words call.answer after o p e r x y) → (call.answer ≢ 0 → after ≡ Some files) → DidCommands files call now
single-did files now call after o p e r x y told single tried refused = by_fault (outside_of call.answer) refl
  where
    by_fault : (v : Option PlainFault) → outside_of call.answer ≡ v → DidCommands files call now
    by_fault None none =
        let t = tried none in
        record {
          commands = single_of call.words ∷ [];
          steps = t.step ∷ [];
          did = inl (record { single = single; step = t.step; may = t.may; answered = t.ran.status; left = t.ran.files now told; command = refl; is = refl });
        }
    by_fault (Some fault) some =
        let kept : Some now ≡ Some files = sym told ∙ refused (λ zero. let none : outside_of call.answer ≡ None = ap outside_of zero in cc) in
        record {
          commands = [];
          steps = [];
          did = inr (inl (record { single = single; fault = subst (λ (v : Option PlainFault). IsSome v) (sym some) refl; left = cc; command = refl; is = refl }));
        }
