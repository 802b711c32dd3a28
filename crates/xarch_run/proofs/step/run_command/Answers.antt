use Rattle.std.proofs.Common.{refl}
use Rattle.xarch_run.proofs.Obeying.{unheard}
use Rattle.xarch_run.proofs.step.run_command.Goals as goal

pub returns-in-Norm : goal.returns-in-Norm
returns-in-Norm g c = record { performs = rw c.in-Norm.is c.run_norm.ensures; fills = rw c.in-Norm.is tt; silent = rw c.in-Norm.is (λ s. absurd s); untouched = rw c.in-Norm.is (λ s. absurd s) }

pub returns-in-Init : goal.returns-in-Init
returns-in-Init g c = record { performs = rw c.in-Init.is (c.run_init.ensures (g.O.Sink.taken c.args.out.now) (g.O.Sink.faults c.args.out.now)); fills = rw c.in-Init.is tt; silent = λ s. unheard _ _ _ (c.run_init.ensures (g.O.Sink.taken c.args.out.now) 0).caused; untouched = λ s. refl }

pub returns-in-Add : goal.returns-in-Add
returns-in-Add g c = record { performs = rw c.in-Add.is (c.run_add.ensures.performs (g.O.Sink.taken c.args.out.now) (g.O.Sink.faults c.args.out.now)); fills = rw c.in-Add.is c.run_add.ensures.fills; silent = λ s. unheard _ _ _ (c.run_add.ensures.performs (g.O.Sink.taken c.args.out.now) 0).caused; untouched = λ s. refl }

pub returns-in-Rekey : goal.returns-in-Rekey
returns-in-Rekey g c = record { performs = rw c.in-Rekey.is (c.run_rekey.ensures (g.O.Sink.taken c.args.out.now) (g.O.Sink.faults c.args.out.now)); fills = rw c.in-Rekey.is tt; silent = λ s. unheard _ _ _ (c.run_rekey.ensures (g.O.Sink.taken c.args.out.now) 0).caused; untouched = λ s. refl }

pub returns-in-Get : goal.returns-in-Get
returns-in-Get g c = record { performs = rw c.in-Get.is c.run_get.ensures; fills = rw c.in-Get.is tt; silent = rw c.in-Get.is (λ s. absurd s); untouched = rw c.in-Get.is (λ s. absurd s) }

pub returns-in-History : goal.returns-in-History
returns-in-History g c = record { performs = rw c.in-History.is c.run_history.ensures; fills = rw c.in-History.is tt; silent = rw c.in-History.is (λ s. absurd s); untouched = rw c.in-History.is (λ s. absurd s) }

pub returns-in-Log : goal.returns-in-Log
returns-in-Log g c = record { performs = rw c.in-Log.is c.run_log.ensures; fills = rw c.in-Log.is tt; silent = rw c.in-Log.is (λ s. absurd s); untouched = rw c.in-Log.is (λ s. absurd s) }

pub returns-in-Check : goal.returns-in-Check
returns-in-Check g c = record { performs = rw c.in-Check.is c.run_check.ensures; fills = rw c.in-Check.is tt; silent = rw c.in-Check.is (λ s. absurd s); untouched = rw c.in-Check.is (λ s. absurd s) }

pub returns-in-Stats : goal.returns-in-Stats
returns-in-Stats g c = record { performs = rw c.in-Stats.is c.run_stats.ensures; fills = rw c.in-Stats.is tt; silent = rw c.in-Stats.is (λ s. absurd s); untouched = rw c.in-Stats.is (λ s. absurd s) }

pub returns-in-Versions : goal.returns-in-Versions
returns-in-Versions g c = record { performs = rw c.in-Versions.is c.run_versions.ensures; fills = rw c.in-Versions.is tt; silent = rw c.in-Versions.is (λ s. absurd s); untouched = rw c.in-Versions.is (λ s. absurd s) }

pub returns-in-Export : goal.returns-in-Export
returns-in-Export g c = record { performs = rw c.in-Export.is c.run_export.ensures; fills = rw c.in-Export.is tt; silent = rw c.in-Export.is (λ s. absurd s); untouched = rw c.in-Export.is (λ s. absurd s) }

pub returns-in-Import : goal.returns-in-Import
returns-in-Import g c = record { performs = rw c.in-Import.is (c.run_import.ensures (g.O.Sink.taken c.args.out.now) (g.O.Sink.faults c.args.out.now)); fills = rw c.in-Import.is tt; silent = λ s. unheard _ _ _ (c.run_import.ensures (g.O.Sink.taken c.args.out.now) 0).caused; untouched = λ s. refl }

pub returns-in-Cut : goal.returns-in-Cut
returns-in-Cut g c = record { performs = rw c.in-Cut.is (c.run_cut.ensures.performs (g.O.Sink.taken c.args.out.now) (g.O.Sink.faults c.args.out.now)); fills = rw c.in-Cut.is c.run_cut.ensures.fills; silent = λ s. unheard _ _ _ (c.run_cut.ensures.performs (g.O.Sink.taken c.args.out.now) 0).caused; untouched = λ s. refl }

pub returns-in-Join : goal.returns-in-Join
returns-in-Join g c = record { performs = rw c.in-Join.is (c.run_join.ensures.performs (g.O.Sink.taken c.args.out.now) (g.O.Sink.faults c.args.out.now)); fills = rw c.in-Join.is c.run_join.ensures.fills; silent = λ s. unheard _ _ _ (c.run_join.ensures.performs (g.O.Sink.taken c.args.out.now) 0).caused; untouched = λ s. refl }

pub returns-in-Table : goal.returns-in-Table
returns-in-Table g c = record { performs = rw c.in-Table.is (c.run_table.ensures (g.O.Sink.taken c.args.out.now) (g.O.Sink.faults c.args.out.now)); fills = rw c.in-Table.is tt; silent = λ s. unheard _ _ _ (c.run_table.ensures (g.O.Sink.taken c.args.out.now) 0).caused; untouched = λ s. refl }

pub returns-in-TableKeys : goal.returns-in-TableKeys
returns-in-TableKeys g c = record { performs = rw c.in-TableKeys.is (c.run_tablekeys.ensures (g.O.Sink.taken c.args.out.now) (g.O.Sink.faults c.args.out.now)); fills = rw c.in-TableKeys.is tt; silent = λ s. unheard _ _ _ (c.run_tablekeys.ensures (g.O.Sink.taken c.args.out.now) 0).caused; untouched = λ s. refl }

pub returns-in-Demo : goal.returns-in-Demo
returns-in-Demo g c = record { performs = rw c.in-Demo.is c.run_demo.ensures; fills = rw c.in-Demo.is tt; silent = rw c.in-Demo.is (λ s. absurd s); untouched = rw c.in-Demo.is (λ s. absurd s) }
