use Rattle.std.proofs.Common.{[], arith}
use Rattle.jsonml_text.proofs.Levels.{depth_at, found_at}
use Rattle.jsonml_text.proofs.laws.levels_end_with_the_depth.Goals as goal

pub returns : goal.returns
returns c = λ t. (λ none. omega (arith, depth_at [] t (omega arith) none), λ shallow. found_at [] t (omega (arith, shallow)))
