use Rattle.std.proofs.Common.{take, sym, ◌∙◌, subst, arith}
use Rattle.record_cursor.specs.View.{header_view}
use Rattle.xa_outside.specs.NumberLaws.{PullsAtMost-trans}
use Rattle.xarch_words.specs.View.{fault_view}
use Rattle.xarch_parts.specs.CoreLaws.{core-sound, front-read, of-parts}
use Rattle.xarch_parts.specs.Ends.{IsDefined}
use Rattle.xarch_parts.specs.FolderLaws.{reads-then}
use Rattle.xarch_parts.proofs.fronts.read_front.Goals as goal

-- ---- a header stands there

pub returns-in-Ok-clause-reads : goal.returns-in-Ok-clause-reads
returns-in-Ok-clause-reads g c = let w = c.in_ok-parts.ensures.within.within in reads-then 16 c.in_ok-parts.parts.core _ _ _ _ _ (omega (arith, w)) c.in_ok-parts.ensures.reads c.in-Ok.ensures.reads

pub returns-in-Ok-clause-told : goal.returns-in-Ok-clause-told
returns-in-Ok-clause-told g c = λ files told long.
    let name = c.args.name.now in
    let parts = c.in_ok-parts.parts in
    let p = c.in_ok-parts.ensures.are files told long in
    let core = of-parts files name parts p in
    front-read files name parts.core (take parts.core p.bytes) core ∙ c.in-Ok.ensures.told files (take parts.core p.bytes) (c.in_ok-parts.ensures.reads.same_files ∙ told) core

pub returns-in-Ok-clause-front : goal.returns-in-Ok-clause-front
returns-in-Ok-clause-front g c = λ files told long.
    let parts = c.in_ok-parts.parts in
    let p = c.in_ok-parts.ensures.are files told long in
    (p, c.in-Ok.ensures.front files (take parts.core p.bytes) (c.in_ok-parts.ensures.reads.same_files ∙ told) (of-parts files c.args.name.now parts p))

pub returns-in-Ok-clause-once : goal.returns-in-Ok-clause-once
returns-in-Ok-clause-once g c = PullsAtMost-trans 16 (header_view c.in-Ok.header).first _ _ _ c.in_ok-parts.ensures.reads.pulls c.in-Ok.ensures.once.1

pub returns-in-Ok-clause-few : goal.returns-in-Ok-clause-few
returns-in-Ok-clause-few g c = λ files held told long a.
    let name = c.args.name.now in
    let parts = c.in_ok-parts.parts in
    let p = c.in_ok-parts.ensures.are files told long in
    let core = of-parts files name parts p in
    let sound = core-sound c.full_files_have_parts.ensures.parts files name held a parts.core (take parts.core p.bytes) core in
    PullsAtMost-trans 16 _ _ _ _ c.in_ok-parts.ensures.reads.pulls (c.in-Ok.ensures.few files (take parts.core p.bytes) held.rules held.versions (c.in_ok-parts.ensures.reads.same_files ∙ told) core sound)

-- ---- none does

pub returns-in-Err-clause-reads : goal.returns-in-Err-clause-reads
returns-in-Err-clause-reads g c = let w = c.in_ok-parts.ensures.within.within in reads-then 16 c.in_ok-parts.parts.core _ _ _ _ _ (omega (arith, w)) c.in_ok-parts.ensures.reads c.in-Err.ensures.reads

pub returns-in-Err-clause-told : goal.returns-in-Err-clause-told
returns-in-Err-clause-told g c = λ files told long.
    let name = c.args.name.now in
    let parts = c.in_ok-parts.parts in
    let p = c.in_ok-parts.ensures.are files told long in
    let core = of-parts files name parts p in
    subst (λ x. IsDefined x (fault_view c.in-Err.fault)) (sym (front-read files name parts.core (take parts.core p.bytes) core)) (c.in-Err.ensures.told files (take parts.core p.bytes) (c.in_ok-parts.ensures.reads.same_files ∙ told) core)

pub returns-in-Err-clause-few : goal.returns-in-Err-clause-few
returns-in-Err-clause-few g c = λ files held told long a.
    let name = c.args.name.now in
    let parts = c.in_ok-parts.parts in
    let p = c.in_ok-parts.ensures.are files told long in
    let core = of-parts files name parts p in
    let sound = core-sound c.full_files_have_parts.ensures.parts files name held a parts.core (take parts.core p.bytes) core in
    PullsAtMost-trans 16 _ _ _ _ c.in_ok-parts.ensures.reads.pulls (c.in-Err.ensures.few files (take parts.core p.bytes) held.rules held.versions (c.in_ok-parts.ensures.reads.same_files ∙ told) core sound)
