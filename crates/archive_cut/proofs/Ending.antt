-- What the whole cut comes to.
use Rattle.std.proofs.Common.{◌≡◌, ◌≢◌, ℕ, ◌+◌, ◌≤◌, List, ◌++◌, Option, Result, Ok, Err, sym, ap, subst, ◌∙◌}
use Rattle.std.specs.Result.{IfErr, OnOk, result_map_both}
use Rattle.key_spec.specs.Data.{PlainRule}
use Rattle.keyed_tree.specs.Data.{PlainKeyed}
use Rattle.xa_outside.specs.Causes.{Rose}
use Rattle.xa_outside.specs.Folder.{Files, IsBlank}
use Rattle.xa_outside.specs.Numbers.{Numbers}
use Rattle.archive_file.specs.Sound.{SoundAs}
use Rattle.record_cursor.specs.Moves.{TellsFront, IsHeaderOf}
use Rattle.record_cursor.specs.View.{PlainHeader, PlainCursor}
use Rattle.record_format.specs.Files.{FileOf}
use Rattle.record_copy.specs.Faults.{fault_of}
use Rattle.record_copy.specs.declared.fault.CopyFault.{CopyFault}
use Rattle.archive_cut.specs.Cut.{Appended, Overfull, IfTooLong, IfFailed}
use Rattle.archive_cut.specs.Faults.{of_cut}
use Rattle.archive_cut.specs.Sliced.{items}
use Rattle.archive_cut.specs.Whole.{VersionsCut}
use Rattle.archive_cut.specs.declared.fault.CutFault.{CutFault}
use Rattle.archive_cut.specs.declared.fault.CutFault.TheVariants.{Damage, TooLong, Folder, Memory}
use Rattle.record_copy.proofs.Passing.{blank-is, blank-one}

-- how it ended
abbrev pub ended_of : Result (Unit {0}) CutFault → Option CopyFault
ended_of r = fault_of (result_map_both (λ x. x) of_cut r)

module _ {S : Type 0} (files : S → Option Files) (draft : S → Option (List ℕ)) (numbers : S → Numbers) (faults : S → ℕ) (h : PlainHeader) (i j : ℕ) (old new : S) (c : PlainCursor) where
  told : c.length ≡ h.length → (bytes : List ℕ) → TellsFront (files old) c.name h.length bytes → TellsFront (files old) c.name c.length bytes
  told long bytes tells = subst (λ (n : ℕ). TellsFront (files old) c.name n bytes) (sym long) tells

  pub appended-of : (r : Result (Unit {0}) CutFault) → VersionsCut files draft numbers faults h i j old new c (ended_of r) → c.length ≡ h.length → IsBlank (draft old) → OnOk r (Appended h c.name i j (files old) (draft old) (draft new))
  appended-of (Ok x) v long blank =
      let reads = v.reads in
      record {
        bytes = v.appended;
        drafted = reads.lengthens ∙ blank-one (draft old) v.appended blank;
        sound = λ bytes rules vs tells is s. v.slices bytes rules vs (told long bytes tells) is s;
      }
  appended-of (Err e) v long blank = tt

  pub too_long-of : (r : Result (Unit {0}) CutFault) → VersionsCut files draft numbers faults h i j old new c (ended_of r) → c.length ≡ h.length → (bytes : List ℕ) (rules : List PlainRule) (vs : List PlainKeyed) → TellsFront (files old) c.name h.length bytes → IsHeaderOf h bytes
      → SoundAs rules vs bytes → IfErr r (λ e. IfTooLong e ((file : List ℕ) → ¬ (FileOf rules (items i j vs) file)))
  too_long-of (Ok x) v long bytes rules vs tells is s = tt
  too_long-of (Err TooLong) v long bytes rules vs tells is s = v.slices bytes rules vs (told long bytes tells) is s
  too_long-of (Err Damage) v long bytes rules vs tells is s = tt
  too_long-of (Err Folder) v long bytes rules vs tells is s = tt
  too_long-of (Err Memory) v long bytes rules vs tells is s = tt

  pub no_room-of : (r : Result (Unit {0}) CutFault) → VersionsCut files draft numbers faults h i j old new c (ended_of r) → IsBlank (draft old) → (b : ℕ) → h.length + 12 ≤ b → IfErr r (λ e. IfTooLong e (Overfull b h.rules i j (draft new)))
  no_room-of (Ok x) v blank b file = tt
  no_room-of (Err TooLong) v blank b file =
      let reads = v.reads in
      let short = v.short b file in
      record {
        made = v.made;
        next = v.next;
        short = short.each;
        next_short = short.last;
        drafted = λ bytes is. blank-is (draft old) bytes v.appended blank (sym is ∙ reads.lengthens) ∙ v.spelled;
        fit = v.fit;
        over = v.over;
      }
  no_room-of (Err Damage) v blank b file = tt
  no_room-of (Err Folder) v blank b file = tt
  no_room-of (Err Memory) v blank b file = tt

  pub undamaged-of : (r : Result (Unit {0}) CutFault) → VersionsCut files draft numbers faults h i j old new c (ended_of r) → c.length ≡ h.length → (bytes : List ℕ) (rules : List PlainRule) (vs : List PlainKeyed) → TellsFront (files old) c.name h.length bytes → IsHeaderOf h bytes
      → SoundAs rules vs bytes → IfErr r (λ e. e ≢ Damage)
  undamaged-of (Ok x) v long bytes rules vs tells is s = tt
  undamaged-of (Err TooLong) v long bytes rules vs tells is s = λ q. cc
  undamaged-of (Err Damage) v long bytes rules vs tells is s = absurd (v.slices bytes rules vs (told long bytes tells) is s)
  undamaged-of (Err Folder) v long bytes rules vs tells is s = λ q. cc
  undamaged-of (Err Memory) v long bytes rules vs tells is s = λ q. cc

  pub cause-of : (r : Result (Unit {0}) CutFault) → VersionsCut files draft numbers faults h i j old new c (ended_of r) → IfFailed r (Rose (faults old) (faults new))
  cause-of (Ok x) v = tt
  cause-of (Err TooLong) v = tt
  cause-of (Err Damage) v = tt
  cause-of (Err Folder) v = (let reads = v.reads in reads.cause)
  cause-of (Err Memory) v = tt
