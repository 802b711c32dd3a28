use Rattle.std.proofs.Common.{◌≡◌, inl, refl, sym, ap, ◌∙◌, List, ℕ, Ok}
use Rattle.csv_tables.specs.View.{table_view}
use Rattle.xarch_meanings.specs.Table.{kept_as, tabled}
use Rattle.xarch_parts.specs.FolderLaws.{caused-begin, caused-begun, caused-passed, caused-then, keeps-begun, keeps-made, keeps-not_begun, reads-inside}
use Rattle.xarch_parts.specs.AllowedLaws.{MayEnd-folder, MayEnd-passed, MayEnd-stored, defined_refused, gained-none}
use Rattle.xarch_tables.proofs.TableEnds.{table-refused, table-refused_early, table-stored}
use Rattle.xarch_tables.proofs.table.run_table.Goals as goal

pub returns-in_err-begin : goal.returns-in_err-begin
returns-in_err-begin g c t n = record {
  keeps = keeps-not_begun _ _ _ _ _ _ refl c.in_err-begin.ensures.begins;
  caused = caused-passed _ _ _ _ c.from_residual.result _ c.from_residual.ensures.1 (caused-begin _ _ _ _ c.in_err-begin.ensures.begins);
  may = λ files told.
      inl (MayEnd-folder (λ r. r ≡ tabled files c.args.csv.now c.args.tag.now c.args.keys.now c.args.doc.now) c.from_residual.result c.in_err-begin.field-0.0 _ t c.from_residual.ensures.1 c.in_err-begin.ensures.fault);
  by_words = tt;
  one_pass = tt;
  little = tt;
  gained = inl (gained-none _ _);
}

pub returns-in_err-table : goal.returns-in_err-table
returns-in_err-table g c t n = record {
  keeps = keeps-begun _ _ _ _ _ _ _ c.in_ok-begin.ensures.begins c.in_err-table.ensures.reads;
  caused = caused-passed _ _ _ _ c.from_residual-in_err-table.result _ c.from_residual-in_err-table.ensures.1 (caused-begun _ _ _ _ _ _ c.in_ok-begin.ensures.begins c.in_err-table.ensures.reads);
  may = λ files told.
      inl (let defined = tabled files c.args.csv.now c.args.tag.now c.args.keys.now c.args.doc.now in
      let input = c.in_err-table.ensures.told files (c.in_ok-begin.ensures.begins.same_files ∙ told) in
      MayEnd-passed (λ r. r ≡ defined) c.from_residual-in_err-table.result c.in_err-table.field-0.0 _ t c.from_residual-in_err-table.ensures.1
      (λ q e. sym (defined_refused defined _ q (table-refused_early files c.args.csv.now c.args.tag.now c.args.keys.now c.args.doc.now _ input) e)));
  by_words = tt;
  one_pass = tt;
  little = tt;
  gained = inl (gained-none _ _);
}

pub returns-in_err-text : goal.returns-in_err-text
returns-in_err-text g c t n = record {
  keeps = keeps-begun _ _ _ _ _ _ _ c.in_ok-begin.ensures.begins c.in_ok-table.ensures.reads;
  caused = caused-passed _ _ _ _ c.from_residual-in_err-text.result _ c.from_residual-in_err-text.ensures.1 (caused-begun _ _ _ _ _ _ c.in_ok-begin.ensures.begins (reads-inside _ _ _ _ c.in_ok-table.ensures.reads c.in_err-text.ensures.cause));
  may = λ files told.
      inl (let defined = tabled files c.args.csv.now c.args.tag.now c.args.keys.now c.args.doc.now in
      let input = c.in_ok-table.ensures.told files (c.in_ok-begin.ensures.begins.same_files ∙ told) in
      MayEnd-passed (λ r. r ≡ defined) c.from_residual-in_err-text.result c.in_err-text.field-0.0 _ t c.from_residual-in_err-text.ensures.1
      (λ q e. sym (defined_refused defined _ q (table-refused files c.args.csv.now c.args.tag.now c.args.keys.now c.args.doc.now (table_view c.in_ok-table.table) input _ c.in_err-text.ensures.told) e)));
  by_words = tt;
  one_pass = tt;
  little = tt;
  gained = inl (gained-none _ _);
}

pub returns : goal.returns
returns g c t n = record {
  keeps = keeps-made _ _ _ _ _ _ _ c.in_ok-begin.ensures.begins c.in_ok-table.ensures.reads c.store.ensures.writes;
  caused = caused-then _ _ _ _ _ _ _ (caused-begun _ _ _ _ _ _ c.in_ok-begin.ensures.begins c.in_ok-table.ensures.reads) (c.store.ensures.caused n);
  may = λ files told.
      inl (let told1 = c.in_ok-begin.ensures.begins.same_files ∙ told in
      let told2 = c.in_ok-table.ensures.reads.same_files ∙ told1 in
      let input = c.in_ok-table.ensures.told files told1 in
      let outcome = kept_as files c.args.doc.now c.deref.result.now in
      MayEnd-stored (λ r. r ≡ tabled files c.args.csv.now c.args.tag.now c.args.keys.now c.args.doc.now) outcome.files c.store.result _ t
      (table-stored files c.args.csv.now c.args.tag.now c.args.keys.now c.args.doc.now (table_view c.in_ok-table.table) input c.deref.result.now (c.in_ok-text.ensures.told ∙ ap (λ (b : List ℕ). Ok b) (sym c.deref.ensures.value)))
      (c.store.ensures.stored files told2) c.store.ensures.fault);
  by_words = tt;
  one_pass = tt;
  little = tt;
  gained = inl (gained-none _ _);
}

pub store-requires : goal.store-requires
store-requires g c = record { blank = λ b e. c.in_ok-begin.ensures.begins.blank refl b (sym c.in_ok-table.ensures.reads.same_draft ∙ e) }
