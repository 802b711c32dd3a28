-- Lists in order, and what they have.
pub use Rattle.jsonml_tree.specs.Lists.{Ascends, Has}
