-- What a call of a writer does, of what it prepares and what it appends.
use Rattle.std.proofs.Common.{◌≡◌, ◌≢◌, ℕ, List, Option, Result, Ok, Err, IfErr, refl, sym, subst, ◌∙◌}
use Rattle.std.specs.Result.{OnOk}
use Rattle.xa_outside.specs.Folder.{Files}
use Rattle.xa_outside.specs.Numbers.{Numbers}
use Rattle.record_writer.specs.Data.{PlainWriter, WriterCall}
use Rattle.record_writer.specs.Calls.{appended, after, Fits}
use Rattle.record_writer.specs.Faults.{TooLongUnless, Appends, Prepares, IsSent}
use Rattle.record_writer.specs.View.{writer_view, IsReady}
use Rattle.record_writer.specs.declared.writer.Writer.{Writer}
use Rattle.record_writer.specs.declared.fault.WriteFault.{WriteFault}
use Rattle.record_writer.specs.declared.fault.WriteFault.TheVariants.{TooLong, Folder, Memory}

-- what a call that answers nothing else answers
abbrev pub Answer : Type 0
Answer = Result (Unit {0}) WriteFault

module _ (w : PlainWriter) (c : WriterCall) (new : Writer) where
  abbrev pub IsPrepared : Answer → Type 0
  IsPrepared r = Prepares (Fits w c) (λ _. IsReady w c new) r

  -- what is prepared does not ask the folder
  pub not-folder : (prepared : Answer) → IsPrepared prepared → IfErr prepared (λ e. e ≢ Folder)
  not-folder (Ok v) h = tt
  not-folder (Err TooLong) h = λ e. absurd cc
  not-folder (Err Folder) h = absurd h
  not-folder (Err Memory) h = λ e. absurd cc

  pub call-after : (prepared result : Answer) → IsPrepared prepared → IsSent prepared result → OnOk result (writer_view new ≡ after w c)
  call-after (Ok v) (Ok u) h s = h.1.is
  call-after (Ok v) (Err e) h s = tt
  call-after (Err e) (Ok u) h s = absurd cc
  call-after (Err e) (Err f) h s = tt

  refused : (e : WriteFault) → IsPrepared (Err e) → TooLongUnless {T = Unit {0}} (Fits w c) (Err e)
  refused TooLong h = h
  refused Folder h = absurd h
  refused Memory h = tt

  pub call-too-long : (prepared result : Answer) → IsPrepared prepared → IsSent prepared result → TooLongUnless (Fits w c) result
  call-too-long (Ok v) (Ok u) h s = h.0
  call-too-long (Ok v) (Err e) h s = subst (λ (f : WriteFault). TooLongUnless {T = Unit {0}} (Fits w c) (Err f)) (sym s) h.0
  call-too-long (Err e) result h s = subst (TooLongUnless (Fits w c)) (sym s) (refused e h)

module _ {S : Type 0} (files : S → Option Files) (draft : S → Option (List ℕ)) (numbers : S → Numbers) (faults : S → ℕ) (old now : S) where
  abbrev Did : List ℕ → Answer → Type 0
  Did bytes result = Appends files draft numbers faults old now bytes result

  -- where nothing was appended, it does not matter what
  nothing : (e : WriteFault) (bytes others : List ℕ) → e ≢ Folder → Did bytes (Err e) → Did others (Err e)
  nothing TooLong bytes others n h = record { same_files = h.same_files; gains = h.gains; later = h.later; cause = h.cause }
  nothing Folder bytes others n h = absurd (n refl)
  nothing Memory bytes others n h = record { same_files = h.same_files; gains = h.gains; later = h.later; cause = h.cause }

  pub call-folder : (w : PlainWriter) (c : WriterCall) (new : Writer) (bytes : List ℕ) (prepared result : Answer)
      → IsPrepared w c new prepared → IsSent prepared result → bytes ≡ new.record.items → Did bytes result → Did (appended w c) result
  call-folder w c new bytes (Ok v) result h s e a = subst (λ (bs : List ℕ). Did bs result) (e ∙ h.1.bytes) a
  call-folder w c new bytes (Err f) result h s e a =
      subst (Did (appended w c)) (sym s) (nothing f bytes (appended w c) (not-folder w c new (Err f) h) (subst (Did bytes) s a))
