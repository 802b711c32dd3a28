use Rattle.std.proofs.Common.{inl, refl, sym, ◌∙◌, arith}
use Rattle.xarch_words.specs.Refusal as refusal
use Rattle.xarch_words.specs.declared.limits.TheConstants.{DEMO}
use Rattle.xarch_parts.specs.Archives.{free_in}
use Rattle.xarch_meanings.specs.Demo.{DemoIs, MakesOrNone}
use Rattle.xarch_parts.specs.Inputs.{at_most}
use Rattle.xarch_writes.proofs.DemoEnds.{goes_on, refused_many, refused_name}
use Rattle.xarch_parts.specs.FolderLaws.{caused-begin, caused-begun, caused-inside, caused-passed, caused-then, keeps-begun, keeps-made, keeps-none, keeps-not_begun}
use Rattle.xarch_parts.specs.AllowedLaws.{MayEnd-folder, MayEnd-more, MayEnd-passed, defined_refused, gained-none, passed-fault}
use Rattle.xarch_writes.proofs.demo.run_demo.Goals as goal

pub returns-in_err-check_few : goal.returns-in_err-check_few
returns-in_err-check_few g c = record {
  keeps = keeps-none _ _ _ _;
  caused = caused-passed _ _ _ _ c.from_residual.result _ c.from_residual.ensures.1 (caused-inside _ _ _ _ (omega arith) c.in_err-check_few.ensures.cause);
  may = λ files told.
      inl (MayEnd-passed (DemoIs files c.args.seed c.args.count c.args.archive.now) c.from_residual.result c.in_err-check_few.field-0.0 _ _ c.from_residual.ensures.1
      (λ q e. refused_many files c.args.seed c.args.count c.args.archive.now q (defined_refused (at_most refusal.demo DEMO c.args.count) _ q c.in_err-check_few.ensures.told e)));
  by_words = λ many. passed-fault c.from_residual.result c.in_err-check_few.field-0.0 _ c.from_residual.ensures.1 c.in_err-check_few.ensures.refused;
  one_pass = tt;
  little = tt;
  gained = inl (gained-none _ _);
}

pub returns-in_err-begin : goal.returns-in_err-begin
returns-in_err-begin g c = record {
  keeps = keeps-not_begun _ _ _ _ _ _ refl c.in_err-begin.ensures.begins;
  caused = caused-passed _ _ _ _ c.from_residual-in_err-begin.result _ c.from_residual-in_err-begin.ensures.1 (caused-begin _ _ _ _ c.in_err-begin.ensures.begins);
  may = λ files told. inl (MayEnd-folder (DemoIs files c.args.seed c.args.count c.args.archive.now) c.from_residual-in_err-begin.result c.in_err-begin.field-0.0 _ _ c.from_residual-in_err-begin.ensures.1 c.in_err-begin.ensures.fault);
  by_words = λ many. absurd (let few = c.in_ok-check_few.ensures.bound in omega (arith, many, few));
  one_pass = tt;
  little = tt;
  gained = inl (gained-none _ _);
}

pub returns-in_err-check_free : goal.returns-in_err-check_free
returns-in_err-check_free g c = record {
  keeps = keeps-begun _ _ _ _ _ _ _ c.in_ok-begin.ensures.begins c.in_err-check_free.ensures.reads;
  caused = caused-passed _ _ _ _ c.from_residual-in_err-check_free.result _ c.from_residual-in_err-check_free.ensures.1 (caused-begun _ _ _ _ _ _ c.in_ok-begin.ensures.begins c.in_err-check_free.ensures.reads);
  may = λ files told.
      inl (let told1 = c.in_ok-begin.ensures.begins.same_files ∙ told in
      MayEnd-passed (DemoIs files c.args.seed c.args.count c.args.archive.now) c.from_residual-in_err-check_free.result c.in_err-check_free.field-0.0 _ _ c.from_residual-in_err-check_free.ensures.1
      (λ q e. refused_name files c.args.seed c.args.count c.args.archive.now c.in_ok-check_few.ensures.told q (defined_refused (free_in files c.args.archive.now) _ q (c.in_err-check_free.ensures.told files told1) e)));
  by_words = λ many. absurd (let few = c.in_ok-check_few.ensures.bound in omega (arith, many, few));
  one_pass = tt;
  little = tt;
  gained = inl (gained-none _ _);
}

pub returns : goal.returns
returns g c = record {
  keeps = keeps-made _ _ _ _ _ _ _ c.in_ok-begin.ensures.begins c.in_ok-check_free.ensures.reads c.make_sample.ensures.writes;
  caused = caused-then _ _ _ _ _ _ _ (caused-begun _ _ _ _ _ _ c.in_ok-begin.ensures.begins c.in_ok-check_free.ensures.reads) c.make_sample.ensures.caused;
  may = λ files told.
      inl (let told1 = c.in_ok-begin.ensures.begins.same_files ∙ told in
      let told2 = c.in_ok-check_free.ensures.reads.same_files ∙ told1 in
      MayEnd-more (MakesOrNone files c.args.archive.now c.args.seed c.args.count) (DemoIs files c.args.seed c.args.count c.args.archive.now)
      (goes_on files c.args.seed c.args.count c.args.archive.now c.in_ok-check_few.ensures.told (c.in_ok-check_free.ensures.told files told1)) _ _ _ _ (c.make_sample.ensures.may files told2));
  by_words = λ many. absurd (let few = c.in_ok-check_few.ensures.bound in omega (arith, many, few));
  one_pass = tt;
  little = tt;
  gained = inl (c.make_sample.ensures.gained);
}

pub make_sample-requires-clause-blank : goal.make_sample-requires-clause-blank
make_sample-requires-clause-blank g c = λ b e. c.in_ok-begin.ensures.begins.blank refl b (sym c.in_ok-check_free.ensures.reads.same_draft ∙ e)
