use Rattle.std.proofs.Common.{◌≡◌, Bool, ◌∙◌, ap, filter, map, rules}
use Rattle.std.specs.Prelude.{is_none}
use Rattle.std.proofs.lemmas.Fn.{filter_same}
use Rattle.key_spec.specs.ContextView.{context_path, context_rules}
use Rattle.version_set.specs.View.{pairs_of}
use Rattle.record_parts.specs.ShownViews.{shown_label}
use Rattle.node_judge.specs.Awaited.{Awaited, handed}
use Rattle.node_judge.specs.View.{wait_view}
use Rattle.node_judge.proofs.Kept.{map-filter, on-ok}
use Rattle.node_judge.proofs.frame.Frame.pass.Goals as goal

pub returns : goal.returns
returns c =
    let f = c.args.self.now in
    let l = shown_label c.args.label.now in
    let p : Awaited → Bool = λ w. is_none (handed l w) in
    let kept : c.retain.new.self.items ≡ filter (λ w. p (wait_view w)) f.waits.items = filter_same _ (λ w. p (wait_view w)) _ (λ w b g h. search rules) _ _ c.retain.ensures.filtered in
    let waits : map wait_view c.retain.new.self.items ≡ filter p (map wait_view f.waits.items) = ap (map wait_view) kept ∙ map-filter wait_view p f.waits.items in
    on-ok c.set.result (λ e i. record {
      rules = context_rules f.place;
      path = context_path f.place;
      set = pairs_of f.set.now;
      left = f.left;
      waits = waits i;
      last = e i;
    }) c.set.ensures
