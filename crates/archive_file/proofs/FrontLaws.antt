-- What stands at the front of a sound archive.
use Rattle.std.proofs.Common.{◌≡◌, ℕ, ◌<◌, ◌≤◌, ◌^◌, Bool, true, false, cond, ltb, leb, List, ◌++◌, length, take, drop, Option, Some, None, Result, Ok, Err, refl, sym, ap, subst, ◌∙◌, append_assoc, arith}
use Rattle.std.specs.Prelude.{bytes_eq}
use Rattle.std.specs.Int.{w32}
use Rattle.std.specs.List.{flat_map}
use Rattle.std.proofs.lemmas.Bool.{ltb-false}
use Rattle.std.proofs.lemmas.List.{length-take, take-append-drop}
use Rattle.std.proofs.lemmas.Slice.Eq.{bytes_eq-Decides}
use Rattle.key_spec.specs.Data.{PlainRule, PlainSpecFault}
use Rattle.key_spec.specs.Canonical.{canonical, spelled_by}
use Rattle.key_spec.specs.Closed.{closed}
use Rattle.keyed_tree.specs.Data.{PlainKeyed}
use Rattle.archive_tree.specs.Data.{PlainArchive}
use Rattle.xa_fields.specs.Reading.{◌>>=◌, number_at, both_at, only_at}
use Rattle.xa_fields.specs.Spelling.{u32_bytes, text_bytes}
use Rattle.xa_fields.specs.Laws.{IsBytes, Takes, Read}
use Rattle.xa_fields.proofs.Combinators.{only_reads}
use Rattle.xa_fields.proofs.Fields.{IsBytes-drop, bind_some, guard_some, some_is, Takes-then, u32_reads}
use Rattle.record_parts.specs.Bounds.{most}
use Rattle.record_format.specs.Spelling.{rec_bytes}
use Rattle.record_format.specs.Files.{magic, file_records, tail_bytes}
use Rattle.record_format.specs.Fronts.{bytes_at, front_at, fixed, header_at, header}
use Rattle.record_format.proofs.HeaderLaws.{header_again, file_header, file_fixed}
use Rattle.archive_file.specs.Laid.{IsFront}
use Rattle.archive_file.specs.Sound.{SoundAs}

-- what stands behind the header of a file
abbrev pub behind_header : PlainArchive → List ℕ
behind_header a = flat_map rec_bytes (file_records a) ++ tail_bytes a

pub sound-header_at : (rules : List PlainRule) (vs : List PlainKeyed) (bytes : List ℕ) (s : SoundAs rules vs bytes) → header_at bytes ≡ Some ((rules, length vs), behind_header s.file.archive)
sound-header_at rules vs bytes s =
    let a = s.file.archive in
    let there = header_again rules a.n (behind_header a) s.specification s.file.has.text s.file.has.count in
    ap header_at s.file.spelled ∙ there ∙ ap (λ (n : ℕ). Some ((rules, n), behind_header a)) (sym s.file.is.count)

pub sound-header : (rules : List PlainRule) (vs : List PlainKeyed) (bytes : List ℕ) → SoundAs rules vs bytes → header bytes ≡ Some (rules, length vs)
sound-header rules vs bytes s = file_header rules vs bytes s.specification s.file

pub sound-fixed : (rules : List PlainRule) (vs : List PlainKeyed) (bytes : List ℕ) → SoundAs rules vs bytes → fixed bytes ≡ Some (length vs)
sound-fixed rules vs bytes s = file_fixed rules vs bytes s.file

-- ---- what is read of a header is spelled by the bytes

abbrev IsShort : List ℕ → Type 0
IsShort text = length text < 2 ^ 32

bytes-read : (bytes : List ℕ) (x : List ℕ × List ℕ) → IsBytes bytes → bytes_at bytes ≡ Some x → Read text_bytes IsShort bytes x
unfolding bytes_at
bytes-read bytes x fits e =
    let b = bind_some (number_at w32 bytes) (λ n. cond (ltb (length n.1) n.0) None (Some (take n.0 n.1, drop n.0 n.1))) x e in
    let n = b.0 in
    let t = u32_reads.takes bytes n fits b.1 in
    let g = guard_some (ltb (length n.1) n.0) (Some (take n.0 n.1, drop n.0 n.1)) x b.2 in
    let long : n.0 ≤ length n.1 = ltb-false _ _ g.0 in
    let len : length (take n.0 n.1) ≡ n.0 = omega (arith, length-take n.0 n.1) in
    let second : Takes n.1 (take n.0 n.1) (drop n.0 n.1) = record { parts = sym (take-append-drop n.0 n.1); rest_fits = IsBytes-drop n.0 n.1 t.takes.rest_fits } in
    let both = Takes-then bytes (u32_bytes n.0) n.1 (take n.0 n.1) (drop n.0 n.1) t.takes second in
    let whole : Takes bytes (text_bytes (take n.0 n.1)) (drop n.0 n.1) = subst (λ (k : ℕ). Takes bytes (u32_bytes k ++ take n.0 n.1) (drop n.0 n.1)) (sym len) both in
    let short : length (take n.0 n.1) < 2 ^ 32 = omega (arith, t.fits) in
    subst (λ (p : List ℕ × List ℕ). Read text_bytes IsShort bytes p) (some_is (take n.0 n.1, drop n.0 n.1) x g.1) (record { takes = whole; fits = short })

-- the text of a specification, and a number of versions
abbrev fields_bytes : List ℕ × ℕ → List ℕ
fields_bytes p = text_bytes p.0 ++ u32_bytes p.1

abbrev pub count_at : List ℕ → Option (ℕ × List ℕ)
count_at bytes = only_at (λ n. leb n most) (number_at w32) bytes

fields-read : (bytes : List ℕ) (x : (List ℕ × ℕ) × List ℕ) → IsBytes bytes → both_at bytes_at count_at bytes ≡ Some x → Read fields_bytes (λ p. IsShort p.0) bytes x
unfolding both_at
fields-read bytes x fits e =
    let a = bind_some (bytes_at bytes) (λ a. count_at a.1 >>= λ b. Some ((a.0, b.0), b.1)) x e in
    let b = bind_some (count_at a.0.1) (λ b. Some ((a.0.0, b.0), b.1)) x a.2 in
    let t = bytes-read bytes a.0 fits a.1 in
    let s = (only_reads (λ n. leb n most) (number_at w32) u32_bytes (λ n. n < 2 ^ 32) u32_reads).takes a.0.1 b.0 t.takes.rest_fits b.1 in
    let made : (List ℕ × ℕ) × List ℕ = ((a.0.0, b.0.0), b.0.1) in
    subst (λ (y : (List ℕ × ℕ) × List ℕ). Read fields_bytes (λ p. IsShort p.0) bytes y) (some_is made x b.2)
    (record { takes = Takes-then bytes (text_bytes a.0.0) a.0.1 (u32_bytes b.0.0) b.0.1 t.takes s.takes; fits = t.fits })

chosen : {A : Type 0} (b : Bool) (o : Option A) (x : A) → cond b o None ≡ Some x → (b ≡ true) × (o ≡ Some x)
chosen true o x e = (refl, e)
chosen false o x e = absurd cc

front-read : (bytes : List ℕ) (x : (List ℕ × ℕ) × List ℕ) → IsBytes bytes → front_at bytes ≡ Some x → (bytes ≡ magic ++ (fields_bytes x.0 ++ x.1)) × IsShort x.0.0
unfolding front_at
front-read bytes x fits e =
    let two = chosen (bytes_eq (take 6 bytes) magic) (both_at bytes_at count_at (drop 6 bytes)) x e in
    let read = fields-read (drop 6 bytes) x (IsBytes-drop 6 bytes fits) two.1 in
    let start : take 6 bytes ≡ magic = (bytes_eq-Decides (take 6 bytes) magic).0 two.0 in
    (sym (take-append-drop 6 bytes) ∙ ap (λ (z : List ℕ). z ++ drop 6 bytes) start ∙ ap (λ (z : List ℕ). magic ++ z) read.takes.parts, read.fits)

spelled-is : (text : List ℕ) (answer : Result (List PlainRule) PlainSpecFault) (rules : List PlainRule) → spelled_by text answer ≡ Some rules → (answer ≡ Ok rules) × (canonical rules ≡ text)
spelled-is text (Err f) rules e = absurd cc
spelled-is text (Ok others) rules e =
    let two = chosen (bytes_eq (canonical others) text) (Some others) rules e in
    let same = some_is others rules two.1 in
    (ap (λ (z : List PlainRule). Ok z) same, ap canonical (sym same) ∙ (bytes_eq-Decides (canonical others) text).0 two.0)

pub header-read : (bytes : List ℕ) (rules : List PlainRule) (n : ℕ) (rest : List ℕ) → IsBytes bytes → header_at bytes ≡ Some ((rules, n), rest) → IsFront rules n rest bytes
unfolding header_at
header-read bytes rules n rest fits e =
    let made = λ (z : (List ℕ × ℕ) × List ℕ) (others : List PlainRule). Some ((others, z.0.1), z.1) in
    let front = bind_some (front_at bytes) (λ z. spelled_by z.0.0 (closed z.0.0) >>= made z) ((rules, n), rest) e in
    let z = front.0 in
    let spec = bind_some (spelled_by z.0.0 (closed z.0.0)) (made z) ((rules, n), rest) front.2 in
    let same = some_is ((spec.0, z.0.1), z.1) ((rules, n), rest) spec.2 in
    let own : spec.0 ≡ rules = ap (λ (y : (List PlainRule × ℕ) × List ℕ). y.0.0) same in
    let count : z.0.1 ≡ n = ap (λ (y : (List PlainRule × ℕ) × List ℕ). y.0.1) same in
    let behind : z.1 ≡ rest = ap (λ (y : (List PlainRule × ℕ) × List ℕ). y.1) same in
    let is = spelled-is z.0.0 (closed z.0.0) spec.0 spec.1 in
    let text : z.0.0 ≡ canonical rules = sym is.1 ∙ ap canonical own in
    let there = front-read bytes z fits front.1 in
    let spelled : bytes ≡ magic ++ (fields_bytes (canonical rules, n) ++ rest) = there.0 ∙ (λ i. magic ++ (fields_bytes (text i, count i) ++ behind i)) in
    record {
      specification = ap closed (sym text) ∙ is.0 ∙ ap (λ (y : List PlainRule). Ok y) own;
      text = subst IsShort text there.1;
      bytes = spelled ∙ sym (append_assoc magic (fields_bytes (canonical rules, n)) rest);
    }
