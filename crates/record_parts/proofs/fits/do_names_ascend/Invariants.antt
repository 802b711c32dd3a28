use Rattle.std.proofs.Common.{◌≡◌, map, drop}
use Rattle.std.specs.Option.{option_map}
use Rattle.jsonml_tree.specs.View.{attr_view}
use Rattle.jsonml_tree.specs.WellFormed.{is_ascending}
use Rattle.record_parts.specs.Names.{ascend_behind}
use Rattle.record_parts.proofs.fits.do_names_ascend.Given as goal

-- what is left decides
abbrev pub invariant-loop-attr : goal.invariant-loop-attr
invariant-loop-attr l = is_ascending (map attr_view l.attrs) ≡ ascend_behind (option_map (λ s. s.now) l.last) (map attr_view (drop l.attr-index l.attrs))
