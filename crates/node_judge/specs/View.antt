-- What is awaited, as it is lent.
use Rattle.std.specs.Prelude.{string_bytes}
use Rattle.std.specs.Option.{option_map}
use Rattle.key_spec.specs.View.{names_view}
use Rattle.record_parts.specs.ShownViews.{shown_body}
use Rattle.node_judge.specs.Awaited.{Awaited, leads, equals}
use Rattle.node_judge.specs.declared.wait.Wait.{Wait}
use Rattle.node_judge.specs.declared.wait.Wait.TheVariants.{Leads, Equals}

abbrev pub wait_view : Wait → Awaited
wait_view (Leads tags at value) = leads (names_view tags.now) (option_map string_bytes at.now) (shown_body value)
wait_view (Equals value) = equals (shown_body value)
