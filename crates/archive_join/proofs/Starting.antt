-- Joining archives behind a header that was appended.
use Rattle.std.proofs.Common.{◌≡◌, ◌≢◌, ℕ, ◌+◌, ◌-◌, ◌≤◌, ◌==◌, false, cond, List, [], ◌∷◌, ◌++◌, length, take, Option, Some, None, Result, Ok, Err, refl, sym, ap, subst, ◌∙◌, arith}
use Rattle.std.specs.Option.{option_map}
use Rattle.std.specs.Result.{result_map_both}
use Rattle.version_set.specs.Members.{upto_pairs}
use Rattle.xa_outside.specs.Causes.{Rose}
use Rattle.xa_outside.specs.Folder.{Files}
use Rattle.xa_outside.specs.Numbers.{Numbers, IsMeter, PullsAndDrafts}
use Rattle.xa_outside.specs.NumberLaws.{PullsAndDrafts-more, PullsAndDrafts-trans, PullsAndDrafts-none, PullsAndDrafts-of_draft}
use Rattle.record_copy.specs.Faults.{IfFolder, IfLong, IfWhole, of_writer}
use Rattle.record_copy.specs.Raised.{raised}
use Rattle.record_copy.specs.Seen.{Coming, row_items}
use Rattle.record_copy.specs.Short.{IsRaisedOf}
use Rattle.record_copy.specs.declared.fault.CopyFault.{CopyFault}
use Rattle.record_copy.specs.declared.fault.CopyFault.TheVariants.{Damage, Folder, TooLong, Memory}
use Rattle.record_copy.proofs.Passing.{cause-then, lengthens-then, lengthens-none}
use Rattle.record_cursor.specs.Items.{end_item, finish}
use Rattle.record_cursor.specs.View.{PlainCursor, PlainHeader}
use Rattle.record_format.specs.Files.{header_bytes}
use Rattle.record_writer.specs.Calls.{started, all_appended, after_all, Fits, AllFit}
use Rattle.record_writer.specs.Data.{PlainWriter, WriterCall, call_finish}
use Rattle.record_writer.specs.Faults.{Appends}
use Rattle.record_writer.specs.View.{writer_view}
use Rattle.record_writer.specs.declared.fault.WriteFault.{WriteFault}
use Rattle.record_writer.specs.declared.fault.WriteFault.TheVariants as writer
use Rattle.record_writer.specs.declared.writer.Writer.{Writer}
use Rattle.archive_join.specs.Faults.{of_side, of_any, plain, SparesFirst, SparesSecond}
use Rattle.archive_join.specs.Short.{IsMadeOf}
use Rattle.archive_join.specs.Whole.{Reads, Begun, NodesJoined, ArchivesJoined}
use Rattle.archive_join.specs.declared.fault.JoinFault.{JoinFault}
use Rattle.archive_join.specs.declared.fault.JoinFault.TheVariants as fault
use Rattle.record_copy.proofs.Running.{short-none}
use Rattle.archive_join.proofs.Running.{any-side, raised-none, calls-none}
use Rattle.record_copy.proofs.FewBytes.{upto-few}

-- ---- a writer that begins

module _ {S : Type 0} (files : S → Option Files) (draft : S → Option (List ℕ)) (numbers : S → Numbers) (count : S → ℕ) (h : PlainHeader) (n : ℕ) (old new : S) where
  unbegun : (e : CopyFault) → IsMeter (numbers old) → files new ≡ files old → draft new ≡ draft old → numbers new ≡ numbers old → count old ≤ count new → IfFolder (Some e) (Rose (count old) (count new)) → Reads files draft numbers count [] old new 0 (Some e)
  unbegun e meter same drafted is later cause = record {
    same_files = same;
    lengthens = lengthens-none (draft old) (draft new) drafted;
    later = later;
    cause = cause;
    pulls = subst (λ (m : Numbers). PullsAndDrafts 0 (numbers old) m) (sym is) (PullsAndDrafts-none 0 (numbers old) meter);
  }

  pub begun-err : (e : WriteFault) → IsMeter (numbers old) → Appends {T = Writer} files draft numbers count old new (header_bytes h.rules n) (Err e) → ◌≢◌ {A = Result Writer WriteFault} (Err e) (Err writer.TooLong) → Begun files draft numbers count h n old new (Err (of_writer e))
  begun-err writer.TooLong meter did fits = absurd (fits refl)
  begun-err writer.Memory meter did fits = record {
    bytes = [];
    reads = unbegun Memory meter did.same_files did.gains.0 did.gains.1 did.later tt;
    only = ((λ d. absurd cc), (λ d. absurd cc));
    begins = tt;
  }
  begun-err writer.Folder meter did fits =
      let gains = did.gains in
      let d = gains.drafts in
      let piece : List ℕ = take gains.count (header_bytes h.rules n) in
      record {
        bytes = piece;
        reads = record {
          same_files = did.same_files;
          lengthens = d.draft;
          later = did.later;
          cause = did.cause;
          pulls = PullsAndDrafts-of_draft 0 (length piece) (numbers old) (numbers new) meter d.numbers;
        };
        only = ((λ d. absurd cc), (λ d. absurd cc));
        begins = tt;
      }

-- what the code hands on is the writer that began
ok-is : (w v : Writer) → ◌≡◌ {A = Result Writer JoinFault} (Ok w) (Ok v) → w ≡ v
ok-is w v is = cc

never-ok : (f : JoinFault) (w : Writer) → ¬ (◌≡◌ {A = Result Writer JoinFault} (Err f) (Ok w))
never-ok f w is = absurd cc

pub began : {S : Type 0} (files : S → Option Files) (draft : S → Option (List ℕ)) (numbers : S → Numbers) (count : S → ℕ) (h : PlainHeader) (n : ℕ) (old new : S) (r : Result Writer CopyFault) (z : Result Writer JoinFault) (w : Writer)
    → Begun files draft numbers count h n old new r → z ≡ result_map_both (λ (v : Writer). v) (of_side false) r → z ≡ Ok w → Begun files draft numbers count h n old new (Ok w)
began files draft numbers count h n old new (Ok v) z w begun is at = subst (λ (u : Writer). Begun files draft numbers count h n old new (Ok u)) (ok-is v w (sym is ∙ at)) begun
began files draft numbers count h n old new (Err e) z w begun is at = absurd (never-ok (of_side false e) w (sym is ∙ at))

-- ---- sets of all versions

upto-raised : (b k n : ℕ) → 12 ≤ b → IsRaisedOf b k (raised k (upto_pairs n))
upto-raised b k n most = (upto_pairs n, (let few = upto-few n in omega (arith, most, few)), refl)

-- ---- the nodes behind the header

whole-by : (e : Option CopyFault) (head x y z : List ℕ) → y ≡ z → IfWhole e (x ≡ y) → IfWhole e (head ++ x ≡ head ++ z)
whole-by None head x y z is h = ap (λ (bytes : List ℕ). head ++ bytes) (h ∙ is)
whole-by (Some TooLong) head x y z is h = ap (λ (bytes : List ℕ). head ++ bytes) (h ∙ is)
whole-by (Some Damage) head x y z is h = tt
whole-by (Some Folder) head x y z is h = tt
whole-by (Some Memory) head x y z is h = tt

over-by : (e : Option CopyFault) (made : List WriterCall) (next : WriterCall) (v w : PlainWriter) → v ≡ w → IfLong e (¬ Fits (after_all v made) next) → IfLong e (¬ Fits (after_all w made) next)
over-by e made next v w is h = subst (λ (u : PlainWriter). IfLong e (¬ Fits (after_all u made) next)) is h

module _ {S : Type 0} (files : S → Option Files) (draft : S → Option (List ℕ)) (numbers : S → Numbers) (count : S → ℕ) (h : PlainHeader) (m : ℕ) (old mid new : S) (c d : PlainCursor) where
  abbrev few : ℕ
  few = h.versions + m

  abbrev head : List ℕ
  head = header_bytes h.rules few

  abbrev most : ℕ
  most = (c.length - c.at) + (d.length - d.at)

  -- a writer began, and then the nodes were joined
  pub archives-then : (w : Writer) (ended : Option JoinFault) → Begun files draft numbers count h few old mid (Ok w)
      → NodesJoined files draft numbers count h.versions (upto_pairs h.versions) (raised h.versions (upto_pairs m)) (upto_pairs few) mid new c d w ended → ArchivesJoined files draft numbers count h m old new c d ended
  archives-then w ended begun nodes =
      let first = begun.reads in
      let second = nodes.reads in
      let a = first.later in
      let b = second.later in
      let begins = begun.begins in
      record {
        made = nodes.made;
        next = nodes.next;
        bytes = head ++ nodes.bytes;
        reads = record {
          same_files = second.same_files ∙ first.same_files;
          lengthens = subst (λ (bytes : List ℕ). draft new ≡ option_map (λ (o : List ℕ). o ++ (bytes ++ nodes.bytes)) (draft old)) begins.0 (lengthens-then (draft old) (draft mid) (draft new) begun.bytes nodes.bytes first.lengthens second.lengthens);
          later = omega (arith, a, b);
          cause = cause-then (count old) (count mid) (count new) (plain ended) a b second.cause;
          pulls = PullsAndDrafts-more (0 + most) most (numbers old) (numbers new) (omega arith) (PullsAndDrafts-trans 0 most (numbers old) (numbers mid) (numbers new) first.pulls second.pulls);
        };
        same = whole-by (plain ended) head nodes.bytes (all_appended (writer_view w) nodes.made) (all_appended (started h.rules few) nodes.made) (ap (λ (u : PlainWriter). all_appended u nodes.made) begins.1) nodes.same;
        fit = subst (λ (u : PlainWriter). AllFit u nodes.made) begins.1 nodes.fit;
        over = over-by (plain ended) nodes.made nodes.next (writer_view w) (started h.rules few) begins.1 nodes.over;
        short = λ b file other. nodes.short b file other (subst (IsRaisedOf b 0) (raised-none (upto_pairs h.versions)) (upto-raised b 0 h.versions (omega (arith, file)))) (upto-raised b h.versions m (omega (arith, file)));
        first = λ ks come. nodes.first ks (subst (λ (f : Option Files). Coming 0 f c (row_items ks ++ end_item 0 ∷ finish ∷ [])) (sym first.same_files) come);
        second = λ js come. nodes.second js (subst (λ (f : Option Files). Coming h.versions f d (row_items js ++ end_item 0 ∷ finish ∷ [])) (sym first.same_files) come);
        nodes = λ ks js ours theirs fit. nodes.nodes ks js (subst (λ (f : Option Files). Coming 0 f c (row_items ks ++ end_item 0 ∷ finish ∷ [])) (sym first.same_files) ours)
            (subst (λ (f : Option Files). Coming h.versions f d (row_items js ++ end_item 0 ∷ finish ∷ [])) (sym first.same_files) theirs) fit;
      }

-- ---- it stops before the nodes

not-whole : (e : CopyFault) (P : Type 0) → e ≢ TooLong → IfWhole (Some e) P
not-whole TooLong P n = absurd (n refl)
not-whole Damage P n = tt
not-whole Folder P n = tt
not-whole Memory P n = tt

not-long : (e : CopyFault) (P : Type 0) → e ≢ TooLong → IfLong (Some e) P
not-long TooLong P n = absurd (n refl)
not-long Damage P n = tt
not-long Folder P n = tt
not-long Memory P n = tt

spares-one : (f : JoinFault) → of_any f ≢ Damage → SparesFirst (Some f)
spares-one (fault.Damage second) n = absurd (n refl)
spares-one fault.TooLong n = tt
spares-one fault.Folder n = tt
spares-one fault.Memory n = tt

spares-two : (f : JoinFault) → of_any f ≢ Damage → SparesSecond (Some f)
spares-two (fault.Damage second) n = absurd (n refl)
spares-two fault.TooLong n = tt
spares-two fault.Folder n = tt
spares-two fault.Memory n = tt

not-both : (w : Writer) (f : JoinFault) → ¬ (◌≡◌ {A = Result Writer JoinFault} (Ok w) (Err f))
not-both w f is = absurd cc

err-is : (e f : JoinFault) → ◌≡◌ {A = Result Writer JoinFault} (Err e) (Err f) → e ≡ f
err-is e f is = cc

some-is : (e f : CopyFault) → ◌≡◌ {A = Option CopyFault} (Some e) (Some f) → e ≡ f
some-is e f is = cc

module _ {S : Type 0} (files : S → Option Files) (draft : S → Option (List ℕ)) (numbers : S → Numbers) (count : S → ℕ) (h : PlainHeader) (m : ℕ) (old new : S) (c d : PlainCursor) where
  archives-stopped : (f : JoinFault) (bytes : List ℕ) → of_any f ≢ Damage → of_any f ≢ TooLong → Reads files draft numbers count bytes old new 0 (Some (of_any f)) → ArchivesJoined files draft numbers count h m old new c d (Some f)
  archives-stopped f bytes undamaged fits reads = record {
    made = [];
    next = call_finish;
    bytes = bytes;
    reads = record {
      same_files = reads.same_files;
      lengthens = reads.lengthens;
      later = reads.later;
      cause = reads.cause;
      pulls = PullsAndDrafts-more 0 ((c.length - c.at) + (d.length - d.at)) (numbers old) (numbers new) (omega arith) reads.pulls;
    };
    same = not-whole (of_any f) _ fits;
    fit = tt;
    over = not-long (of_any f) _ fits;
    short = λ b file other. short-none (IsMadeOf b h.versions) b call_finish (Some (of_any f)) (λ is. fits (some-is (of_any f) TooLong is));
    first = λ ks come. spares-one f undamaged;
    second = λ js come. spares-two f undamaged;
    nodes = λ ks js ours theirs fit. calls-none _ call_finish (of_any f) fits;
  }

  -- no writer began, by what the code hands on
  pub archives-unbegun : (r : Result Writer CopyFault) (z : Result Writer JoinFault) (f : JoinFault) → Begun files draft numbers count h (h.versions + m) old new r → z ≡ result_map_both (λ (w : Writer). w) (of_side false) r → z ≡ Err f → ArchivesJoined files draft numbers count h m old new c d (Some f)
  archives-unbegun (Ok w) z f begun is at = absurd (not-both w f (sym is ∙ at))
  archives-unbegun (Err e) z f begun is at =
      let same : of_side false e ≡ f = err-is (of_side false e) f (sym is ∙ at) in
      let any : e ≡ of_any f = sym (any-side false e) ∙ ap of_any same in
      let only = begun.only in
      archives-stopped f begun.bytes (λ d. only.0 (any ∙ d)) (λ d. only.1 (any ∙ d)) (subst (λ (k : CopyFault). Reads files draft numbers count begun.bytes old new 0 (Some k)) any begun.reads)

  -- there was no memory for the sets
  pub archives-unset : (w : Writer) → Begun files draft numbers count h (h.versions + m) old new (Ok w) → ArchivesJoined files draft numbers count h m old new c d (Some fault.Memory)
  archives-unset w begun =
      let reads = begun.reads in
      archives-stopped fault.Memory begun.bytes (λ e. absurd cc) (λ e. absurd cc) (record { same_files = reads.same_files; lengthens = reads.lengthens; later = reads.later; cause = tt; pulls = reads.pulls })
