use Rattle.std.proofs.Common.{◌≡◌, ◌≤◌, ◌∷◌, [], take, drop}
use Rattle.std.specs.List.{flat_map}
use Rattle.xa_outside.specs.Taken.{Takes}
use Rattle.jsonml_tree.specs.LentAttrs.{lent_attr_view}
use Rattle.jsonml_print.specs.Calls.{attribute, printed, reached, AllMayCome}
use Rattle.keyed_print.proofs.print_lent.print_attributes.Given as goal

abbrev pub invariant-loop-attr : goal.invariant-loop-attr
invariant-loop-attr g l =
    record {
      bytes : Takes (g.K.Sink.taken l.initial.sink) (g.K.Sink.taken l.sink) (printed l.initial.printer (flat_map (λ x. attribute (lent_attr_view x) ∷ []) (take l.attr-index l.attrs)));
      pen : l.printer ≡ reached l.initial.printer (flat_map (λ x. attribute (lent_attr_view x) ∷ []) (take l.attr-index l.attrs));
      rest : AllMayCome l.printer (flat_map (λ x. attribute (lent_attr_view x) ∷ []) (drop l.attr-index l.attrs));
      later : g.K.Sink.faults l.initial.sink ≤ g.K.Sink.faults l.sink;
    }
