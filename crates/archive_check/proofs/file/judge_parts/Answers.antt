use Rattle.node_walk.specs.Nodes.{FolderSeen, folder_seen}
use Rattle.node_walk.proofs.Steps.{at-err}
use Rattle.archive_check.specs.Judged.{PartsJudged}
use Rattle.archive_check.proofs.Parts.{HeaderRead, header-failed, nodes-failed, parts-judged}
use Rattle.archive_check.proofs.file.judge_parts.Given.{Over}
use Rattle.archive_check.proofs.file.judge_parts.Goals as goal

abbrev of : (g : Over) → g.row.F.Denot → FolderSeen
of g = (let f = g.F.Folder in folder_seen f.files f.draft f.numbers f.faults)

pub returns-in_err-header : goal.returns-in_err-header
returns-in_err-header g c =
    let s = of g c.args.folder.now in
    let t = of g c.read_header_in.new.folder in
    let e = c.in_err-header in
    let h = e.ensures in
    at-err c.from_residual.result e.field-0.0 c.from_residual.ensures.1 (λ r. PartsJudged c.args.name.now c.args.length s t r)
    (header-failed c.args.name.now c.args.length s t e.field-0.0 h.reads.same_files h.reads.same_draft h.reads.later h.reads.cause h.pulls h.told)

pub returns-in_err-judge_nodes : goal.returns-in_err-judge_nodes
returns-in_err-judge_nodes g c =
    let s = of g c.args.folder.now in
    let t = of g c.read_header_in.new.folder in
    let u = of g c.judge_nodes.new.folder in
    let o = c.in_ok-header in
    let h = o.ensures in
    let e = c.in_err-judge_nodes in
    let r = c.from_residual-in_err-judge_nodes in
    let read : HeaderRead c.args.name.now c.args.length s t o.header = record {
      same_files = h.reads.same_files;
      same_draft = h.reads.same_draft;
      later = h.reads.later;
      numbers = h.numbers;
      is = h.header;
      long = h.length;
      told = h.told;
      spelled = h.spelled;
    } in
    at-err r.result e.field-0.0 r.ensures.1 (λ q. PartsJudged c.args.name.now c.args.length s u q)
    (nodes-failed c.args.name.now c.args.length s t o.header read c.nodes_are_sound_in_their_place.ensures.versions u e.field-0.0 e.ensures)

pub returns : goal.returns
returns g c =
    let s = of g c.args.folder.now in
    let t = of g c.read_header_in.new.folder in
    let u = of g c.judge_nodes.new.folder in
    let o = c.in_ok-header in
    let h = o.ensures in
    let n = c.in_ok-judge_nodes in
    let read : HeaderRead c.args.name.now c.args.length s t o.header = record {
      same_files = h.reads.same_files;
      same_draft = h.reads.same_draft;
      later = h.reads.later;
      numbers = h.numbers;
      is = h.header;
      long = h.length;
      told = h.told;
      spelled = h.spelled;
    } in
    parts-judged c.args.name.now c.args.length s t o.header read c.requires u n.ensures
