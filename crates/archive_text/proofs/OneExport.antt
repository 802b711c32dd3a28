-- Archives with the same text are the same.
use Rattle.std.proofs.Common.{◌≡◌, ℕ, ◌≤◌, List, [], ◌∷◌, length, map, Ok, Result, sym, ap, ◌∙◌, subst, arith}
use Rattle.std.specs.List.{AllByRecursion}
use Rattle.std.proofs.lemmas.Bool.{and_parts}
use Rattle.version_set.specs.Members.{upto_pairs}
use Rattle.jsonml_tree.specs.declared.limits.TheConstants.{GREATEST_DEPTH}
use Rattle.jsonml_text.specs.Texts.{AreTexts}
use Rattle.key_spec.specs.Data.{PlainRule}
use Rattle.key_spec.specs.Canonical.{canonical}
use Rattle.key_spec.specs.Closed.{closed, IsClosed}
use Rattle.keyed_tree.specs.Data.{PlainKeyed}
use Rattle.keyed_tree.specs.Plain.{plain}
use Rattle.archive_tree.specs.Data.{PlainArchive}
use Rattle.archive_tree.specs.Stands.{ArchiveOf}
use Rattle.archive_tree.specs.WellFormed.{AreNodesWellFormed}
use Rattle.record_parts.specs.Bounds.{most}
use Rattle.record_format.specs.Shapes.{IsShaped, AreShapedNodes}
use Rattle.archive_file.specs.KeyedBy.{AreKeyedBy}
use Rattle.archive_file.specs.NodeFits.{are_shallow, nodes_fit}
use Rattle.archive_file.specs.Sound.{SoundAs}
use Rattle.archive_file.proofs.ArchiveKeyed.{archive-keyed}
use Rattle.archive_file.proofs.ClosedWays.{closed-lead}
use Rattle.archive_file.proofs.SoundLaws.{row-well}
use Rattle.noted_file.specs.Contents.{Contents}
use Rattle.noted_file.specs.Full.{FullAs}
use Rattle.noted_file.proofs.Readings.{same-contents}
use Rattle.jsonml_lines.specs.RoundTrip.{IsLine}
use Rattle.archive_text.specs.Texts.{text_lines}
use Rattle.archive_text.specs.Export.{key_line, note_lines, end_line, nodes_lines, ExportOf}
use Rattle.jsonml_tree.proofs.Lists.{all-append}
use Rattle.archive_text.proofs.GoodLines.{end_good, nodes_good, keys_good, notes_good, count_good, row_names, rules_named}
use Rattle.archive_text.proofs.OneLine.{LinesReadBack, same_lines}
use Rattle.archive_text.specs.Names.{HaveNames}
use Rattle.archive_text.specs.Reading.{all_lines}
use Rattle.archive_text.proofs.OneNode.{row_one}
use Rattle.archive_text.proofs.OneText.{text_is, same_parts}

-- what is known of archives, of sound files and of keyed versions
abbrev pub OneArchive : Type 0
OneArchive = (vs : List PlainKeyed) (a b : PlainArchive) → ArchiveOf vs a → ArchiveOf vs b → a ≡ b

abbrev pub OneList : Type 0
OneList = (vs us : List PlainKeyed) (a : PlainArchive) → ArchiveOf vs a → ArchiveOf us a → vs ≡ us

abbrev pub SoundTexts : Type 0
SoundTexts = (rules : List PlainRule) (vs : List PlainKeyed) (bytes : List ℕ) → SoundAs rules vs bytes → AllByRecursion (λ v. AreTexts (plain v)) vs

abbrev pub KeyedShaped : Type 0
KeyedShaped =
    (rules : List PlainRule) (vs : List PlainKeyed) (a : PlainArchive) → IsClosed rules → AreKeyedBy rules vs → AllByRecursion (λ v. AreTexts (plain v)) vs → ArchiveOf vs a → a.n ≤ most → IsShaped a

-- what is needed to read the text of an archive back
pub record Readable (rules : List PlainRule) (notes : List (List ℕ)) (a : PlainArchive) : Type 0 where
  pub shaped : AreShapedNodes a.kids
  pub names : HaveNames a.kids
  pub as_many : length notes ≡ a.n
  pub lines : AllByRecursion IsLine (all_lines rules a notes)

pub readable : OneArchive → SoundTexts → KeyedShaped → (c : Contents) (file : List ℕ) (a : PlainArchive) → FullAs c file → ArchiveOf c.versions a → Readable c.rules c.notes a
readable one texts shapes c file a full is =
    let sound : SoundAs c.rules c.versions full.core = full.is in
    let closes : IsClosed c.rules = (canonical c.rules, sound.specification) in
    let few : a.n ≤ most = omega (arith, is.count, sound.few) in
    let count : length c.notes ≡ a.n = full.as_many ∙ is.count in
    let shaped = (shapes c.rules c.versions a closes sound.keyed (texts c.rules c.versions full.core sound) is few).kids in
    let other = sound.file.archive in
    let well_there : AreNodesWellFormed other.kids = row-well (upto_pairs other.n) other.kids sound.file.has.records in
    let well : AreNodesWellFormed a.kids = subst (λ (x : PlainArchive). AreNodesWellFormed x.kids) (one c.versions other a sound.file.is is) well_there in
    let fits = and_parts (are_shallow GREATEST_DEPTH a.kids) (nodes_fit c.rules [] a.kids) ((archive-keyed c.versions a is c.rules (closed-lead c.rules closes) well).1 sound.keyed) in
    record {
      shaped = shaped;
      names = row_names c.rules (rules_named c.rules sound.specification) [] a.kids fits.1;
      as_many = count;
      lines = (
        count_good a.n (omega arith),
        all-append IsLine (map key_line (text_lines (canonical c.rules))) _ (keys_good (text_lines (canonical c.rules)))
            (all-append IsLine (note_lines 1 c.notes) _ (notes_good 1 c.notes (omega arith)) (all-append IsLine (nodes_lines a.kids) (end_line ∷ []) (nodes_good a.kids shaped well) end_good)),
      );
    }

ok_one : {T E : Type 0} (x y : T) (r : Result T E) → r ≡ Ok x → r ≡ Ok y → x ≡ y
ok_one x y r e f = cc

rules_are : (rules others : List PlainRule) → closed (canonical rules) ≡ Ok rules → closed (canonical others) ≡ Ok others → canonical rules ≡ canonical others → rules ≡ others
rules_are rules others h k e = ok_one rules others (closed (canonical others)) (ap closed (sym e) ∙ h) k

pub one_export : LinesReadBack → OneArchive → OneList → SoundTexts → KeyedShaped
    → (c d : Contents) (file other text : List ℕ) → FullAs c file → FullAs d other → ExportOf c text → ExportOf d text → c ≡ d
one_export back one lists texts shapes c d file other text h k x y =
    let a = x.archive in
    let b = y.archive in
    let f = readable one texts shapes c file a h x.is in
    let g = readable one texts shapes d other b k y.is in
    let lines = same_lines back (all_lines c.rules a c.notes) (all_lines d.rules b d.notes) f.lines g.lines (sym (text_is c.rules a c.notes) ∙ sym x.spelled ∙ y.spelled ∙ text_is d.rules b d.notes) in
    let parts = same_parts c.rules d.rules a b c.notes d.notes f.as_many g.as_many lines in
    let kids = (row_one a.kids b.kids [] [] f.shaped g.shaped f.names g.names parts.lines).0 in
    let same : a ≡ b = λ i. record { n = parts.count i; kids = kids i } in
    same-contents c d (rules_are c.rules d.rules h.is.specification k.is.specification parts.text) (lists c.versions d.versions a x.is (subst (ArchiveOf d.versions) (sym same) y.is)) parts.notes_are
