-- What the lists of failing calls hold.
use Rattle.xa_outside.specs.Planned.{Plan}
use Rattle.xa_outside.specs.FolderPlan.{FolderPlan}
use Rattle.xa_outside.specs.declared.script.Script.{Script}
use Rattle.xa_outside.specs.declared.folder_script.FolderScript.{FolderScript}

abbrev pub plan_of : Script → Plan
plan_of s = record { fails = s.fails.items; made = s.made }

abbrev pub folder_plan_of : FolderScript → FolderPlan
folder_plan_of s =
    record {
      fails = s.fails.items;
      made = record { length = s.length; read_at = s.read_at; begin = s.begin; append = s.append; commit = s.commit };
    }
