use Rattle.noted_file.proofs.Parts.{full-parts, full-core, full-behind, behind-full, unparted}
use Rattle.noted_file.proofs.laws.full_files_have_parts.Goals as goal

pub returns-clause-parts : goal.returns-clause-parts
returns-clause-parts c = full-parts

pub returns-clause-core : goal.returns-clause-core
returns-clause-core c = full-core

pub returns-clause-behind : goal.returns-clause-behind
returns-clause-behind c = full-behind

pub returns-clause-full : goal.returns-clause-full
returns-clause-full c = behind-full

pub returns-clause-none : goal.returns-clause-none
returns-clause-none c = unparted
