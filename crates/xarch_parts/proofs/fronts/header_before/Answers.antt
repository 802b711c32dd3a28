use Rattle.std.proofs.Common.{◌≡◌, drop, None, sym, subst}
use Rattle.key_spec.specs.View.{spec_view}
use Rattle.record_format.specs.Fronts.{header_at}
use Rattle.record_cursor.specs.Faults.{IfDamage}
use Rattle.record_cursor.specs.declared.fault.CursorFault.{CursorFault}
use Rattle.xarch_parts.specs.Archives.{CoreIs}
use Rattle.xarch_parts.specs.CoreLaws.{core-told}
use Rattle.xarch_parts.proofs.FrontLemmas.{few-over, header-refused, header-given}
use Rattle.xarch_parts.proofs.fronts.header_before.Goals as goal

pub returns-in-Ok-clause-few : goal.returns-in-Ok-clause-few
returns-in-Ok-clause-few g c = λ files bytes rules vs told core sound.
    few-over c.files_give_their_items.ensures.header (g.F.Folder.files c.args.folder.now) files c.args.name.now c.args.core rules vs (g.F.Folder.numbers c.args.folder.now) (g.F.Folder.numbers c.read_header_in.new.folder) bytes told core sound c.in-Ok.ensures.only

pub returns-in-Err-Damage-clause-few : goal.returns-in-Err-Damage-clause-few
returns-in-Err-Damage-clause-few g c = λ files bytes rules vs told core sound.
    few-over c.files_give_their_items.ensures.header (g.F.Folder.files c.args.folder.now) files c.args.name.now c.args.core rules vs (g.F.Folder.numbers c.args.folder.now) (g.F.Folder.numbers c.read_header_in.new.folder) bytes told core sound c.in-Err-Damage.ensures.only

pub returns-in-Err-Folder-clause-few : goal.returns-in-Err-Folder-clause-few
returns-in-Err-Folder-clause-few g c = λ files bytes rules vs told core sound.
    few-over c.files_give_their_items.ensures.header (g.F.Folder.files c.args.folder.now) files c.args.name.now c.args.core rules vs (g.F.Folder.numbers c.args.folder.now) (g.F.Folder.numbers c.read_header_in.new.folder) bytes told core sound c.in-Err-Folder.ensures.only

pub returns-in-Err-Memory-clause-few : goal.returns-in-Err-Memory-clause-few
returns-in-Err-Memory-clause-few g c = λ files bytes rules vs told core sound.
    few-over c.files_give_their_items.ensures.header (g.F.Folder.files c.args.folder.now) files c.args.name.now c.args.core rules vs (g.F.Folder.numbers c.args.folder.now) (g.F.Folder.numbers c.read_header_in.new.folder) bytes told core sound c.in-Err-Memory.ensures.only

pub returns-in-Ok-clause-told : goal.returns-in-Ok-clause-told
returns-in-Ok-clause-told g c = λ files bytes told core. (
    let h = c.in-Ok.header in
    header-given c.args.name.now bytes ((spec_view h.spec, h.versions), drop h.first bytes) (c.in-Ok.ensures.told bytes (core-told files (g.F.Folder.files c.args.folder.now) c.args.name.now c.args.core bytes told core)))

pub returns-in-Ok-clause-front : goal.returns-in-Ok-clause-front
returns-in-Ok-clause-front g c = λ files bytes told core. record {
  core = bytes;
  of = subst (λ n. CoreIs files c.args.name.now n bytes) (sym c.in-Ok.ensures.length) core;
  is = c.in-Ok.ensures.told bytes (core-told files (g.F.Folder.files c.args.folder.now) c.args.name.now c.args.core bytes told core);
}

pub returns-in-Err-Damage-clause-told : goal.returns-in-Err-Damage-clause-told
returns-in-Err-Damage-clause-told g c = λ files bytes told core.
    header-refused c.args.name.now bytes _
    (subst (λ (f : CursorFault). IfDamage f (header_at bytes ≡ None)) c.in-Err-Damage.field-0-is (c.in-Err-Damage.ensures.told bytes (core-told files (g.F.Folder.files c.args.folder.now) c.args.name.now c.args.core bytes told core)))
    c.damaged.ensures.only
