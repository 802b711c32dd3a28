use Rattle.std.proofs.Common.{inl, [], arith, refl, sym, ◌∙◌, subst}
use Rattle.std.specs.FinMap as map
use Rattle.key_spec.specs.View.{spec_view}
use Rattle.archive_tree.specs.ArchiveView.{archive_view}
use Rattle.archive_file.specs.Sound.{SoundAs}
use Rattle.noted_file.specs.Contents.{unnoted}
use Rattle.noted_file.specs.Full.{FullAs}
use Rattle.xarch_meanings.specs.Init.{InitIs, init_rules}
use Rattle.xarch_parts.specs.FolderLaws.{caused-begin, caused-begun, caused-passed, caused-then, keeps-begun, keeps-made, keeps-not_begun, reads-inside}
use Rattle.xarch_writes.proofs.InitEnds.{init_refused_early, init_stored, init_refused, none_keyed}
use Rattle.xarch_parts.specs.AllowedLaws.{MayEnd-passed, MayEnd-folder, MayEnd-stored, defined_refused, gained-none}
use Rattle.xarch_writes.proofs.init.run_init.Goals as goal

pub returns-in_err-begin : goal.returns-in_err-begin
returns-in_err-begin g c t n = record {
  keeps = keeps-not_begun _ _ _ _ _ _ refl c.in_err-begin.ensures.begins;
  caused = caused-passed _ _ _ _ c.from_residual.result _ c.from_residual.ensures.1 (caused-begin _ _ _ _ c.in_err-begin.ensures.begins);
  may = λ files told. inl (MayEnd-folder (InitIs files c.args.archive.now c.args.spec.now) c.from_residual.result c.in_err-begin.field-0.0 _ t c.from_residual.ensures.1 c.in_err-begin.ensures.fault);
  by_words = tt;
  one_pass = tt;
  little = tt;
  gained = inl (gained-none _ _);
}

pub returns-in_err-spec : goal.returns-in_err-spec
returns-in_err-spec g c t n = record {
  keeps = keeps-begun _ _ _ _ _ _ _ c.in_ok-begin.ensures.begins c.in_err-spec.ensures.reads;
  caused = caused-passed _ _ _ _ c.from_residual-in_err-spec.result _ c.from_residual-in_err-spec.ensures.1 (caused-begun _ _ _ _ _ _ c.in_ok-begin.ensures.begins c.in_err-spec.ensures.reads);
  may = λ files told.
      inl (let input = c.in_err-spec.ensures.told files (c.in_ok-begin.ensures.begins.same_files ∙ told) in
      MayEnd-passed (InitIs files c.args.archive.now c.args.spec.now) c.from_residual-in_err-spec.result c.in_err-spec.field-0.0 _ t c.from_residual-in_err-spec.ensures.1
      (λ q e. init_refused_early files c.args.archive.now c.args.spec.now q (defined_refused (init_rules files c.args.archive.now c.args.spec.now) _ q input e)));
  by_words = tt;
  one_pass = tt;
  little = tt;
  gained = inl (gained-none _ _);
}

pub returns-in_err-bytes : goal.returns-in_err-bytes
returns-in_err-bytes g c t n = record {
  keeps = keeps-begun _ _ _ _ _ _ _ c.in_ok-begin.ensures.begins c.in_ok-spec.ensures.reads;
  caused = caused-passed _ _ _ _ c.from_residual-in_err-bytes.result _ c.from_residual-in_err-bytes.ensures.1 (caused-begun _ _ _ _ _ _ c.in_ok-begin.ensures.begins (reads-inside _ _ _ _ c.in_ok-spec.ensures.reads c.in_err-bytes.ensures.cause));
  may = λ files told.
      inl (let input = c.in_ok-spec.ensures.told files (c.in_ok-begin.ensures.begins.same_files ∙ told) in
      MayEnd-passed (InitIs files c.args.archive.now c.args.spec.now) c.from_residual-in_err-bytes.result c.in_err-bytes.field-0.0 _ t c.from_residual-in_err-bytes.ensures.1
      (λ q e. init_refused files c.args.archive.now c.args.spec.now (spec_view c.in_ok-spec.spec) input q (c.in_err-bytes.ensures.limit q e) (λ b file. c.in_err-bytes.ensures.too_long [] b c.empty.ensures file q e)));
  by_words = tt;
  one_pass = tt;
  little = tt;
  gained = inl (gained-none _ _);
}

pub returns : goal.returns
returns g c t n = record {
  keeps = keeps-made _ _ _ _ _ _ _ c.in_ok-begin.ensures.begins c.in_ok-spec.ensures.reads c.store.ensures.writes;
  caused = caused-then _ _ _ _ _ _ _ (caused-begun _ _ _ _ _ _ c.in_ok-begin.ensures.begins c.in_ok-spec.ensures.reads) (c.store.ensures.caused n);
  may = λ files told.
      inl (let told1 = c.in_ok-begin.ensures.begins.same_files ∙ told in
      let told2 = c.in_ok-spec.ensures.reads.same_files ∙ told1 in
      let input = c.in_ok-spec.ensures.told files told1 in
      let rules = spec_view c.in_ok-spec.spec in
      let sound : SoundAs rules [] c.deref.result.now = subst (λ b. SoundAs rules [] b) (sym c.deref.ensures.value) (c.in_ok-bytes.ensures.sound [] c.empty.ensures) in
      let full : FullAs (unnoted rules []) c.deref.result.now = c.sound_files_are_full.ensures.sound rules [] c.deref.result.now sound in
      MayEnd-stored (InitIs files c.args.archive.now c.args.spec.now) (map.insert files c.args.archive.now c.deref.result.now) c.store.result _ t
      (init_stored files c.args.archive.now c.args.spec.now rules input c.deref.result.now full) (c.store.ensures.stored files told2) c.store.ensures.fault);
  by_words = tt;
  one_pass = tt;
  little = tt;
  gained = inl (gained-none _ _);
}

pub file_from-requires-clause-few : goal.file_from-requires-clause-few
file_from-requires-clause-few g c = let count = c.empty.ensures.count in omega (arith, count)

pub file_from-requires-clause-keyed : goal.file_from-requires-clause-keyed
file_from-requires-clause-keyed g c = none_keyed (spec_view c.in_ok-spec.spec) (archive_view c.empty.result) c.empty.ensures

pub store-requires : goal.store-requires
store-requires g c = record { blank = λ b e. c.in_ok-begin.ensures.begins.blank refl b (sym c.in_ok-spec.ensures.reads.same_draft ∙ e) }
