use Rattle.std.proofs.Common.{◌≡◌, inl, refl, sym, ◌∙◌, arith}
use Rattle.xarch_meanings.specs.Table.{kept_as, keys_tabled}
use Rattle.xarch_parts.specs.FolderLaws.{caused-begin, caused-begun, caused-inside, caused-passed, caused-then, keeps-begun, keeps-made, keeps-none, keeps-not_begun}
use Rattle.xarch_parts.specs.AllowedLaws.{MayEnd-folder, MayEnd-passed, MayEnd-stored, defined_refused, gained-none}
use Rattle.xarch_tables.proofs.TableEnds.{either-passed, keys-refused, keys-stored, keys-taken}
use Rattle.xarch_tables.proofs.keys.run_tablekeys.Goals as goal

pub returns-in_err-text : goal.returns-in_err-text
returns-in_err-text g c t n = record {
  keeps = keeps-none _ _ _ _;
  caused = caused-passed _ _ _ _ c.from_residual.result _ c.from_residual.ensures.1 (caused-inside _ _ _ _ (omega arith) c.in_err-text.ensures.cause);
  may = λ files told.
      inl (let defined = keys_tabled files c.args.tag.now c.args.keys.now c.args.spec.now in
      MayEnd-passed (λ r. r ≡ defined) c.from_residual.result c.in_err-text.field-0.0 _ t c.from_residual.ensures.1
      (λ q e. sym (defined_refused defined _ q (keys-refused files c.args.tag.now c.args.keys.now c.args.spec.now _ c.in_err-text.ensures.told) e)));
  by_words = λ long. either-passed c.from_residual.result c.in_err-text.field-0.0 _ _ c.from_residual.ensures.1 c.in_err-text.ensures.long;
  one_pass = tt;
  little = tt;
  gained = inl (gained-none _ _);
}

pub returns-in_err-begin : goal.returns-in_err-begin
returns-in_err-begin g c t n = record {
  keeps = keeps-not_begun _ _ _ _ _ _ refl c.in_err-begin.ensures.begins;
  caused = caused-passed _ _ _ _ c.from_residual-in_err-begin.result _ c.from_residual-in_err-begin.ensures.1 (caused-begin _ _ _ _ c.in_err-begin.ensures.begins);
  may = λ files told.
      inl (MayEnd-folder (λ r. r ≡ keys_tabled files c.args.tag.now c.args.keys.now c.args.spec.now) c.from_residual-in_err-begin.result c.in_err-begin.field-0.0 _ t c.from_residual-in_err-begin.ensures.1 c.in_err-begin.ensures.fault);
  by_words = λ long. absurd (let short = c.in_ok-text.ensures.short in omega (arith, long, short));
  one_pass = tt;
  little = tt;
  gained = inl (gained-none _ _);
}

pub returns-in_err-check_free : goal.returns-in_err-check_free
returns-in_err-check_free g c t n = record {
  keeps = keeps-begun _ _ _ _ _ _ _ c.in_ok-begin.ensures.begins c.in_err-check_free.ensures.reads;
  caused = caused-passed _ _ _ _ c.from_residual-in_err-check_free.result _ c.from_residual-in_err-check_free.ensures.1 (caused-begun _ _ _ _ _ _ c.in_ok-begin.ensures.begins c.in_err-check_free.ensures.reads);
  may = λ files told.
      inl (let defined = keys_tabled files c.args.tag.now c.args.keys.now c.args.spec.now in
      let taken = c.in_err-check_free.ensures.told files (c.in_ok-begin.ensures.begins.same_files ∙ told) in
      MayEnd-passed (λ r. r ≡ defined) c.from_residual-in_err-check_free.result c.in_err-check_free.field-0.0 _ t c.from_residual-in_err-check_free.ensures.1
      (λ q e. sym (defined_refused defined _ q (keys-taken files c.args.tag.now c.args.keys.now c.args.spec.now c.in_ok-text.ensures.told _ taken) e)));
  by_words = λ long. absurd (let short = c.in_ok-text.ensures.short in omega (arith, long, short));
  one_pass = tt;
  little = tt;
  gained = inl (gained-none _ _);
}

pub returns : goal.returns
returns g c t n = record {
  keeps = keeps-made _ _ _ _ _ _ _ c.in_ok-begin.ensures.begins c.in_ok-check_free.ensures.reads c.store.ensures.writes;
  caused = caused-then _ _ _ _ _ _ _ (caused-begun _ _ _ _ _ _ c.in_ok-begin.ensures.begins c.in_ok-check_free.ensures.reads) (c.store.ensures.caused n);
  may = λ files told.
      inl (let told1 = c.in_ok-begin.ensures.begins.same_files ∙ told in
      let told2 = c.in_ok-check_free.ensures.reads.same_files ∙ told1 in
      let outcome = kept_as files c.args.spec.now c.as_bytes.result.now in
      MayEnd-stored (λ r. r ≡ keys_tabled files c.args.tag.now c.args.keys.now c.args.spec.now) outcome.files c.store.result _ t
      (keys-stored files c.args.tag.now c.args.keys.now c.args.spec.now c.in_ok-text.ensures.told c.as_bytes.result.now (c.as_bytes.ensures.value ∙ c.in_ok-text.ensures.text) (c.in_ok-check_free.ensures.told files told1))
      (c.store.ensures.stored files told2) c.store.ensures.fault);
  by_words = λ long. absurd (let short = c.in_ok-text.ensures.short in omega (arith, long, short));
  one_pass = tt;
  little = tt;
  gained = inl (gained-none _ _);
}

pub store-requires : goal.store-requires
store-requires g c = record { blank = λ b e. c.in_ok-begin.ensures.begins.blank refl b (sym c.in_ok-check_free.ensures.reads.same_draft ∙ e) }
