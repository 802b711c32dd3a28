use Rattle.std.proofs.Common.{inl, ◌≡◌, List, [], ℕ, Ok, arith, sym, ap, ◌∙◌}
use Rattle.std.specs.FinMap as map
use Rattle.key_spec.specs.View.{spec_view}
use Rattle.xarch_meanings.specs.Norm.{norm_from, norm_of}
use Rattle.xarch_parts.specs.FolderLaws.{caused-passed, caused-read, caused-then, keeps-read}
use Rattle.xarch_parts.specs.AllowedLaws.{MayEnd-more, MayEnd-passed, MayEnd-told, defined_refused, gained-may, gained-none}
use Rattle.xarch_reads.proofs.NormEnds.{norm-goes_on, norm-refused}
use Rattle.xarch_reads.proofs.norm.run_norm.Goals as goal

pub returns-in_err-spec : goal.returns-in_err-spec
returns-in_err-spec g c = record {
  keeps = keeps-read _ _ _ _ _ c.in_err-spec.ensures.reads;
  caused = caused-passed _ _ _ _ c.from_residual.result _ c.from_residual.ensures.1 (caused-read _ _ _ _ _ c.in_err-spec.ensures.reads);
  may = λ files told.
      inl (MayEnd-passed (λ r. r ≡ norm_of files c.args.spec.now c.args.doc.now) c.from_residual.result c.in_err-spec.field-0.0 _ _ c.from_residual.ensures.1
      (λ q e. sym (defined_refused (norm_of files c.args.spec.now c.args.doc.now) _ q (norm-refused files c.args.spec.now c.args.doc.now _ (c.in_err-spec.ensures.told files told)) e)));
  by_words = tt;
  one_pass = tt;
  little = tt;
  gained = inl (gained-none _ _);
}

pub returns : goal.returns
returns g c = record {
  keeps = keeps-read _ _ _ _ _ c.in_ok-spec.ensures.reads;
  caused = caused-then _ _ _ _ _ _ _ (caused-read _ _ _ _ _ c.in_ok-spec.ensures.reads) (c.write_ordered.ensures.caused _ _ (omega arith));
  may = λ files told.
      inl (let rules = spec_view c.in_ok-spec.spec in
      let input = c.in_ok-spec.ensures.told files told ∙ ap (λ (b : List ℕ). Ok (rules, b)) (sym c.deref.ensures.value) in
      let same = norm-goes_on files c.args.spec.now c.args.doc.now rules c.deref.result.now input in
      MayEnd-told _ files _ _ _ _ (c.in_ok-spec.ensures.reads.same_files ∙ told)
      (MayEnd-more (λ r. r ≡ norm_from files rules c.deref.result.now) (λ r. r ≡ norm_of files c.args.spec.now c.args.doc.now) (λ r e. e ∙ sym same) _ _ _ _ (c.write_ordered.ensures.may files)));
  by_words = tt;
  one_pass = tt;
  little = tt;
  gained = inl (gained-may _ _ _ _ _ (c.write_ordered.ensures.may (map.from_entries [])));
}
