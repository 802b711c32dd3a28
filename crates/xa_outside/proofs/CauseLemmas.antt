-- The laws that stand in specs/CauseLaws, under their former name.
pub use Rattle.xa_outside.specs.CauseLaws.{Rose-later, Rose-from_err, HasCause-ok, HasCause-after, HasCause-handed, causes}
