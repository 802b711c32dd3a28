use Rattle.std.proofs.Common.{refl}
use Rattle.xarch_gen.proofs.Made.{element-made}
use Rattle.xarch_gen.proofs.elements.element.Goals as goal

pub returns : goal.returns
returns c = element-made c.in_ok-from_str.field-0 _ _ _ c.in_ok-from_str.ensures.ok c.new.ensures.items refl
