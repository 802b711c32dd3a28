-- What a commit makes of what was appended.
use Rattle.std.proofs.Common.{◌≡◌, ◌≢◌, ℕ, ◌+◌, ◌≤◌, Bool, true, false, cond, List, [], ◌∷◌, ◌++◌, length, take, drop, Option, Some, None, Result, Ok, Err, refl, sym, ap, subst, ◌∙◌, arith, length-take-le, length-drop}
use Rattle.std.specs.Option.{option_map}
use Rattle.std.specs.Prelude.{bytes_eq}
use Rattle.std.specs.Result.{IfErr, OnOk, OnErr, IsErrAnd}
use Rattle.std.proofs.lemmas.Slice.Eq.{bytes_eq-Decides}
use Rattle.key_spec.specs.Canonical.{canonical, spelled_by}
use Rattle.key_spec.specs.Closed.{closed}
use Rattle.key_spec.specs.Data.{PlainRule, PlainSpecFault}
use Rattle.keyed_tree.specs.Data.{PlainKeyed}
use Rattle.xa_fields.proofs.Fields.{some_is}
use Rattle.xa_outside.specs.Folder.{Files, committed, emptied, IsBlank}
use Rattle.record_format.specs.Files.{header_bytes, FileOf}
use Rattle.record_cursor.specs.Moves.{TellsFront, IsHeaderOf}
use Rattle.record_cursor.specs.View.{PlainHeader}
use Rattle.record_cursor.proofs.Fills.{front-length}
use Rattle.record_cursor.proofs.Headers.{header-is}
use Rattle.stream_merge.specs.Added.{Added, Appended, Overfull, of_merge, IfTooLong, IfFailed}
use Rattle.stream_merge.specs.Appended.{Grows, NoRoomBehind}
use Rattle.stream_merge.specs.Passes.{IfFolder}
use Rattle.stream_merge.specs.declared.fault.AddFault.{AddFault}
use Rattle.stream_merge.specs.declared.fault.AddFault.TheVariants.{Damage, Limit}
use Rattle.stream_merge.specs.declared.fault.AddFault.TheVariants as add
use Rattle.stream_merge.specs.declared.fault.MergeFault.{MergeFault}
use Rattle.stream_merge.specs.declared.fault.MergeFault.TheVariants as merge
use Rattle.stream_merge.proofs.Items.{header-length}
use Rattle.record_copy.proofs.Passing.{blank-is}

-- ---- the header that was read

spelled-by : (text : List ℕ) (answer : Result (List PlainRule) PlainSpecFault) (rules : List PlainRule) → spelled_by text answer ≡ Some rules → canonical rules ≡ text
spelled-by text (Err f) rules e = absurd cc
spelled-by text (Ok others) rules e = chosen (bytes_eq (canonical others) text) refl e
  where
    chosen : (b : Bool) → bytes_eq (canonical others) text ≡ b → cond b (Some others) None ≡ Some rules → canonical rules ≡ text
    chosen true is e = ap canonical (sym (some_is others rules e)) ∙ (bytes_eq-Decides (canonical others) text).0 is
    chosen false is e = absurd cc

-- it is no longer than that of the same rules
pub header-first : (h : PlainHeader) (told : Option Files) (name bytes : List ℕ) (n : ℕ) → TellsFront told name h.length bytes → IsHeaderOf h bytes → h.first ≤ h.length → h.first ≤ length (header_bytes h.rules n)
header-first h told name bytes n tells is within =
    let x = header-is bytes ((h.rules, h.versions), drop h.first bytes) is in
    let text = take x.text (drop 10 bytes) in
    let same = spelled-by text (closed text) h.rules x.spelled in
    let room = x.within in
    let len = length-take-le x.text (drop 10 bytes) (omega (arith, length-drop 10 bytes, room)) in
    omega (arith, header-length h.rules n, ap length same, len, ap length x.behind, length-drop h.first bytes, length-drop (14 + x.text) bytes, front-length told name bytes h.length tells, within, room)

-- ---- a fault before the commit

-- what is shown of the fault holds of the answer
pub at-err : {T : Type 0} (r : Result T AddFault) (e : AddFault) → IsErrAnd r (λ d. d ≡ e) → (P : Result T AddFault → Type 0) → P (Err e) → P r
at-err (Ok x) e h P p = absurd h
at-err (Err d) e h P p = subst (λ (z : AddFault). P (Err z)) (sym h) p

pub none-longer : (x : List ℕ) (rules : List PlainRule) (vs : List PlainKeyed) (k : PlainKeyed) (e : MergeFault) → Grows x rules vs k (Some e) → IfTooLong (of_merge e) ((file : List ℕ) → ¬ FileOf rules (vs ++ k ∷ []) file)
none-longer x rules vs k merge.TooLong h = h
none-longer x rules vs k merge.Damage h = tt
none-longer x rules vs k merge.Folder h = tt
none-longer x rules vs k merge.Memory h = tt

pub overfull : (b : ℕ) (h : PlainHeader) (x : List ℕ) (old now : Option (List ℕ)) (e : MergeFault) → IsBlank old → now ≡ option_map (λ (d : List ℕ). d ++ x) old → NoRoomBehind b h x (Some e) → IfTooLong (of_merge e) (Overfull b h.rules (h.versions + 1) now)
overfull b h x old now merge.TooLong blank is r =
    let room = r.2 in
    let header = header_bytes h.rules (h.versions + 1) in
    record {
      made = room.made;
      next = room.next;
      short = room.short;
      next_short = room.next_short;
      drafted = λ bytes told. blank-is old bytes x blank (sym told ∙ is) ∙ r.1 ∙ ap (λ (y : List ℕ). header ++ y) room.same;
      fit = room.fit;
      over = room.over;
    }
overfull b h x old now merge.Damage blank is r = tt
overfull b h x old now merge.Folder blank is r = tt
overfull b h x old now merge.Memory blank is r = tt

pub no-damage : (x : List ℕ) (rules : List PlainRule) (vs : List PlainKeyed) (k : PlainKeyed) (e : MergeFault) → Grows x rules vs k (Some e) → of_merge e ≢ Damage
no-damage x rules vs k merge.Damage h = absurd h
no-damage x rules vs k merge.TooLong h = λ q. cc
no-damage x rules vs k merge.Folder h = λ q. cc
no-damage x rules vs k merge.Memory h = λ q. cc

pub no-limit : {T : Type 0} (e : MergeFault) → ◌≢◌ {A = Result T AddFault} (Err (of_merge e)) (Err Limit)
no-limit merge.Damage = λ q. cc
no-limit merge.Folder = λ q. cc
no-limit merge.TooLong = λ q. cc
no-limit merge.Memory = λ q. cc

pub failed-of : (T : Type 0) (e : MergeFault) (P : Type 0) → IfFolder (Some e) P → IfFailed {T = T} (Err (of_merge e)) P
failed-of T merge.Damage P h = tt
failed-of T merge.Folder P h = h
failed-of T merge.TooLong P h = tt
failed-of T merge.Memory P h = tt

-- ---- the commit

emptied-same : (o : Option (List ℕ)) (bytes : List ℕ) → emptied (option_map (λ (d : List ℕ). bytes) o) ≡ emptied o
emptied-same None bytes = refl
emptied-same (Some d) bytes = refl

-- what was appended is the file
pub commit-adds : {T : Type 0} (h : PlainHeader) (k : PlainKeyed) (name : List ℕ) (first mid last : Option Files) (old now rest : Option (List ℕ)) (r : Result T AddFault) → Appended h name k first old now → mid ≡ first
    → OnOk r (last ≡ committed mid now name) → OnOk r (rest ≡ emptied now) → OnOk r (Added h name k first last old rest)
commit-adds h k name first mid last old now rest (Ok v) a same stored empty = record {
  bytes = a.bytes;
  stored = stored ∙ (λ i. committed (same i) (a.drafted i) name);
  blank = empty ∙ ap emptied a.drafted ∙ emptied-same old a.bytes;
  sound = a.sound;
}
commit-adds h k name first mid last old now rest (Err e) a same stored empty = tt

pub on-ok : {T : Type 0} (r : Result T AddFault) (P : Type 0) → P → OnOk r P
on-ok (Ok x) P p = p
on-ok (Err e) P p = tt

-- what holds where the commit failed
pub commit-fails : {T : Type 0} (r : Result T AddFault) (P Q : Type 0) → (P → Q) → OnErr r P → OnErr r Q
commit-fails (Ok v) P Q then h = tt
commit-fails (Err e) P Q then h = then h

-- it fails by the folder alone
pub commit-err : {T : Type 0} (r : Result T AddFault) (P : AddFault → Type 0) → IfErr r (λ e. e ≡ add.Folder) → P add.Folder → IfErr r P
commit-err (Ok v) P h p = tt
commit-err (Err e) P h p = subst P (sym h) p

pub no-commit-limit : {T : Type 0} (r : Result T AddFault) → IfErr r (λ e. e ≡ add.Folder) → r ≢ Err Limit
no-commit-limit (Ok v) h q = absurd cc
no-commit-limit (Err e) h q = (let other : Err e ≡ Err add.Folder = ap Err h in let same = sym other ∙ q in absurd cc)

pub if-failed : {T : Type 0} (r : Result T AddFault) (P : Type 0) → OnErr r P → IfFailed r P
if-failed (Ok x) P p = tt
if-failed (Err add.Damage) P p = tt
if-failed (Err add.Folder) P p = p
if-failed (Err add.Limit) P p = tt
if-failed (Err add.TooLong) P p = tt
if-failed (Err add.Memory) P p = tt
