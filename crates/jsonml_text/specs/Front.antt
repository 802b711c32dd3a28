-- For private clauses: the attributes that stand in front of the items of an element.
use Rattle.std.specs.Prelude.{ℕ, List, [], Result, Ok}
use Rattle.serde_json.specs.Data.{object, Items, no_items, item}
use Rattle.jsonml_tree.specs.Data.{PlainAttr}
use Rattle.jsonml_text.specs.Spelled.{ShapeFault, mapped, attrs_at}

-- those of an object in front, else none, and the values behind them
abbrev pub front_at : List ℕ → Items → Result (List PlainAttr × Items) ShapeFault
front_at place no_items = Ok ([], no_items)
front_at place (item (object ms) ds) = mapped (λ xs. (xs, ds)) (attrs_at place ms)
front_at place (item d ds) = Ok ([], item d ds)
