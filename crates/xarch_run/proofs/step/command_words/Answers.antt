use Rattle.std.proofs.Common.{refl, subst, sym}
use Rattle.xarch_words.specs.View.{command_view, words_view}
use Rattle.xarch_meanings.specs.Meanings.{IsSilent}
use Rattle.xarch_meanings.specs.Step.{single_of}
use Rattle.xarch_run.proofs.Obeying.{obeys-command, obeys-none}
use Rattle.xarch_run.proofs.step.command_words.Goals as goal

pub returns-in-None : goal.returns-in-None
returns-in-None g c =
    let f = g.F.Folder in
    record {
      obeys = obeys-none f.files f.draft f.numbers f.faults (single_of (words_view c.args.words.now)) c.args.folder.now _ _ (sym c.in-None.ensures.is) (g.met.F.Folder.metered c.args.folder.now);
      untouched = λ silent. refl;
    }

pub returns-in-Some : goal.returns-in-Some
returns-in-Some g c =
    let f = g.F.Folder in
    let e = c.run_command.ensures in
    record {
      obeys = obeys-command f.files f.draft f.numbers f.faults (command_view c.in-Some.command) _ _ _ _ _ _ _ (single_of (words_view c.args.words.now)) (sym c.in-Some.ensures.is) e.performs e.fills e.silent;
      untouched = λ silent. e.untouched (subst IsSilent (sym c.in-Some.ensures.is) silent);
    }
