use Rattle.record_format.proofs.DirLaws.{dir_parts, piece_entry, top_set}
use Rattle.record_format.proofs.WholeDirectories.{node_reads}
use Rattle.record_format.proofs.laws.directories_stand_part_by_part.Goals as goal

pub returns-clause-parts : goal.returns-clause-parts
returns-clause-parts c = dir_parts

pub returns-clause-entries : goal.returns-clause-entries
returns-clause-entries c = piece_entry

pub returns-clause-nodes : goal.returns-clause-nodes
returns-clause-nodes c = node_reads

pub returns-clause-sets : goal.returns-clause-sets
returns-clause-sets c = top_set
