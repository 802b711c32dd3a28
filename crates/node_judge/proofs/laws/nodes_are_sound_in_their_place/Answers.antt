use Rattle.node_judge.proofs.Alone.{whole-only}
use Rattle.node_judge.proofs.InPlaceLaws.{node-law, archive-law}
use Rattle.node_judge.proofs.Rows.{kids-hold}
use Rattle.node_judge.proofs.SoundFiles.{file-law, lies-kept, lies-one, sound-law}
use Rattle.node_judge.proofs.laws.nodes_are_sound_in_their_place.Goals as goal

pub returns-clause-met : goal.returns-clause-met
returns-clause-met c = kids-hold

pub returns-clause-node : goal.returns-clause-node
returns-clause-node c = node-law

pub returns-clause-alone : goal.returns-clause-alone
returns-clause-alone c = whole-only

pub returns-clause-archive : goal.returns-clause-archive
returns-clause-archive c = archive-law

pub returns-clause-versions : goal.returns-clause-versions
returns-clause-versions c = λ rules vs bytes. file-law rules bytes vs

pub returns-clause-kept : goal.returns-clause-kept
returns-clause-kept c = λ rules a bytes. lies-kept rules bytes a

pub returns-clause-file : goal.returns-clause-file
returns-clause-file c = sound-law

pub returns-clause-one : goal.returns-clause-one
returns-clause-one c = lies-one
